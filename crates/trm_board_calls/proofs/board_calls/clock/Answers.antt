-- The run of one byte, refused or not (one_holds).
use Rattle.std.specs.Prelude.{Ok, Err}
use Rattle.std.proofs.lemmas.Result.{err_from_is_err_and}
use Rattle.trm_board_calls.proofs.Laws.One.{one_holds}
use Rattle.trm_board_calls.proofs.board_calls.clock.Goals as goal

pub returns-in_err-r : goal.returns-in_err-r
returns-in_err-r c =
    let p = err_from_is_err_and c.from_residual.result c.from_residual.ensures.1 in
    rw (p.1, p.2) (one_holds _ _ _ _ _ _ (Err _) _ _ _ _ c.in_err-r.ensures)

pub returns : goal.returns
returns c = one_holds _ _ _ _ _ _ (Ok _) _ _ _ _ c.in_ok-r.ensures
