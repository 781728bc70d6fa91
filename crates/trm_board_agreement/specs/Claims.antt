-- What is claimed of the board's calls. The value is in proofs/Theorems.antt.
-- Request A1.
use Rattle.trm_board_agreement.specs.Demand.{BoardDemand}

pub record Claims : Type 0 where
  pub board_demand : BoardDemand
