-- The claims of this crate, proved: the value of the record `Claims` of specs/Claims.antt.
use Rattle.trm_board_agreement.specs.Claims.{Claims}
use Rattle.trm_board_agreement.proofs.Laws.Exchange.{exchange-holds}
use Rattle.trm_board_agreement.proofs.Laws.Witness.{exchange-exists}
use Rattle.trm_board_agreement.proofs.Laws.Refused.{refused-keeps, refused_reset}
use Rattle.trm_board_agreement.proofs.Laws.Prefix.{run_prefix}

pub theorems : Claims
theorems = record {
  board_demand = record {
    holds = exchange-holds;
    refused_reset = refused_reset;
    refused = refused-keeps;
    run_prefix = run_prefix;
    exists = exchange-exists;
  };
}
