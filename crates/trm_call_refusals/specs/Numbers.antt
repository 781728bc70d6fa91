-- The number of each refusal, which is its row in the table, and of a result; 0 is accepted.
-- Paper: "Where calls are turned down".
use Rattle.std.specs.Prelude.{ℕ, Result, Ok, Err}
use Rattle.trm_call_refusals.specs.declared.refusal.Refusal.{Refusal}
use Rattle.trm_call_refusals.specs.declared.refusal.Refusal.TheVariants.{Program, Store, Record, LineBytes, Buffers, Clocks, Place}

abbrev pub number_of : Refusal → ℕ
number_of Program = 3
number_of Store = 4
number_of Record = 5
number_of LineBytes = 6
number_of Buffers = 7
number_of Clocks = 8
number_of Place = 9

-- the number that a call with this result answers
abbrev pub number_in : {T : Type 0} → Result T Refusal → ℕ
number_in (Ok x) = 0
number_in (Err r) = number_of r
