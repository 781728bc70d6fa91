-- An accepted run is ready for its clocks.
use mathlib.Core.Path.{sym}
use Rattle.trm_board_calls.proofs.Laws.Rows.{shaped-board, ready-run}
use Rattle.trm_board_calls.proofs.board_calls.run.Goals as goal

pub board_clocks-g-requires : goal.board_clocks-g-requires
board_clocks-g-requires c =
    let h = ready-run _ _ _ _ _ _ _ (shaped-board _ _ c.well_formed.0) (sym c.in_ok-run_refusal.ensures) in
    (h.0, h.1.fed, h.1.wide, h.1.broad, h.1.long)
