-- The number of each fault of an image, as the refusal table numbers its rows.
-- Paper: "Where calls are turned down".
--   refusal_number r   that of what a check or a payload returns; 0 is none
use Rattle.std.specs.Prelude.{ℕ, Result, Ok, Err}
use Rattle.trm_image.specs.declared.fault.Fault.{Fault}
use Rattle.trm_image.specs.declared.fault.Fault.TheVariants.{Frame, Kind, Program, Store, LineBytes}

abbrev pub number_of : Fault → ℕ
number_of Frame = 1
number_of Kind = 2
number_of Program = 3
number_of Store = 4
number_of LineBytes = 6

abbrev pub refusal_number : {T : Type 0} → Result T Fault → ℕ
refusal_number (Ok x) = 0
refusal_number (Err fault) = number_of fault
