-- The value of the claims of this crate.
-- Idea: the field is a law of Laws/.
use Rattle.trm_listing.specs.Claims.{Claims}
use Rattle.trm_listing.proofs.Laws.Examples.{examples_hold}

pub theorems : Claims
theorems = record { examples_hold = examples_hold }
