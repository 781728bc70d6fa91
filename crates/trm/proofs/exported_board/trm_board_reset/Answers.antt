-- A refused reset: the board with the record of an empty store, whose devices are as after a reset.
use mathlib.Core.Path.{refl, ◌∙◌}
use Rattle.trm_call_refusals.proofs.Laws.{refused}
use Rattle.trm_calls.specs.Promises.{reset_gives}
use Rattle.trm_board_calls.specs.Promises.{board_reset_gives}
use Rattle.trm.proofs.exported_board.trm_board_reset.Goals as goal

pub returns-in-Err : goal.returns-in-Err
unfolding board_reset_gives reset_gives
returns-in-Err c =
    record {
      number = c.from.ensures ∙ c.in-Err.ensures.number;
      board = rw (c.new_board.ensures, c.empty_record.ensures, ← c.in-Err.ensures.number, refused c.in-Err.refused) refl;
    }
