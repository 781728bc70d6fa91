-- The numbers of faults: none of them is 0.
use mathlib.Core.Path.{◌≡◌, refl}
use mathlib.Core.Bool.{false}
use lib.Dec.{eqb}
use Rattle.trm_image.specs.declared.fault.Fault.{Fault}
use Rattle.trm_image.specs.declared.fault.Fault.TheVariants.{Frame, Kind, Program, Store, LineBytes}
use Rattle.trm_image.specs.Numbers.{number_of}

pub number_of-some : (fault : Fault) → eqb (number_of fault) 0 ≡ false
number_of-some Frame = refl
number_of-some Kind = refl
number_of-some Program = refl
number_of-some Store = refl
number_of-some LineBytes = refl
