-- The claims of this crate, proved: the value of the record `Claims` of specs/Claims.antt.
use Rattle.trm_board_calls.specs.Claims.{Claims}
use Rattle.trm_board_calls.proofs.Laws.Obeys.{record_obeys}

pub theorems : Claims
theorems = record { record_obeys = record_obeys }
