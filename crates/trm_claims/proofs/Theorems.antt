-- Every claim of the project, proved: the value of the record `Claims` of specs/Claims.antt.
-- Idea: each field is the value of a crate's own claims, or a law of this crate.
use Rattle.trm_word.proofs.Theorems.{theorems as word-theorems}
use Rattle.trm_codec.proofs.Theorems.{theorems as codec-theorems}
use Rattle.trm_alu.proofs.Theorems.{theorems as alu-theorems}
use Rattle.trm_reference.proofs.Theorems.{theorems as reference-theorems}
use Rattle.trm_cache.proofs.Theorems.{theorems as cache-theorems}
use Rattle.trm_core.proofs.Theorems.{theorems as core-theorems}
use Rattle.trm_agreement.proofs.Theorems.{theorems as agreement-theorems}
use Rattle.trm_clock_device.proofs.Theorems.{theorems as device-theorems}
use Rattle.trm_serial.proofs.Theorems.{theorems as serial-theorems}
use Rattle.trm_board.proofs.Theorems.{theorems as board-theorems}
use Rattle.trm_board_calls.proofs.Theorems.{theorems as board-call-theorems}
use Rattle.trm_board_agreement.proofs.Theorems.{theorems as board-agreement-theorems}
use Rattle.trm_image.proofs.Theorems.{theorems as image-theorems}
use Rattle.trm_list_text.proofs.Theorems.{theorems as text-theorems}
use Rattle.trm_listing.proofs.Theorems.{theorems as listing-theorems}
use Rattle.trm_claims.specs.Claims.{Claims}
use Rattle.trm_claims.proofs.Pieces.{pieces_are_output}

pub theorems : Claims
theorems =
    record {
      word = word-theorems;
      codec = codec-theorems;
      alu = alu-theorems;
      reference = reference-theorems;
      cache = cache-theorems;
      core = core-theorems;
      agreement = agreement-theorems;
      device = device-theorems;
      serial = serial-theorems;
      board = board-theorems;
      board_calls = board-call-theorems;
      board_agreement = board-agreement-theorems;
      image = image-theorems;
      text = text-theorems;
      listing = listing-theorems;
      pieces_are_output = pieces_are_output;
    }
