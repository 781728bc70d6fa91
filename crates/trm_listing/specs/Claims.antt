-- What is claimed of the listing's definitions: examples, computed. That the pieces are the output is claimed in trm_claims.
-- Paper: "Images and the listing program". The value is in proofs/Theorems.antt.
use Rattle.trm_listing.specs.Examples.{ExamplesHold}

pub record Claims : Type 0 where
  pub examples_hold : ExamplesHold
