-- Proves every field of `Claims`; each is a law of Laws/.
use Rattle.trm_cache.specs.Claims.{Claims}
use Rattle.trm_cache.proofs.Laws.Copy.{write_is_copy, fill_is_copy, fill_other_lines, fill_marks}
use Rattle.trm_cache.proofs.Laws.Tables.{steps_hold}

pub theorems : Claims
theorems =
    record {
      write_is_copy = write_is_copy;
      fill_is_copy = fill_is_copy;
      fill_other_lines = fill_other_lines;
      fill_marks = fill_marks;
      steps_hold = steps_hold;
    }
