-- The claims on images, all proved: the value of the record of `specs/Claims.antt`.
-- Idea: each field is a law of Laws/.
use Rattle.trm_image.specs.Claims.{Claims}
use Rattle.trm_image.proofs.Laws.First.{refused_first}
use Rattle.trm_image.proofs.Laws.Described.{accepted_described}
use Rattle.trm_image.proofs.Laws.Complete.{written_accepted}
use Rattle.trm_image.proofs.Laws.Tables.{cases_hold, payloads_given}

pub theorems : Claims
theorems =
    record {
      refused_first = refused_first;
      accepted_described = accepted_described;
      written_accepted = written_accepted;
      cases_hold = cases_hold;
      payloads_given = payloads_given;
    }
