-- The claims of this crate, proved: the value of the record `Claims` of specs/Claims.antt.
-- Idea: the turns of a board follow one another, and all else follows from that.
use Rattle.trm_board.specs.Board.{board_reset}
use Rattle.trm_board.specs.Claims.{CourseHolds, Claims}
use Rattle.trm_board.proofs.Laws.Follows.{board-follows}
use Rattle.trm_board.proofs.Laws.Course.{course-follows}
use Rattle.trm_board.proofs.Laws.Ranges.{ranges_kept}
use Rattle.trm_board.proofs.Laws.Cases.{scripts}

course_holds : CourseHolds
course_holds T fits C K obeys c zero is = course-follows T fits _ _ (board-follows T K obeys (board_reset c) is 0 zero)

pub theorems : Claims
theorems = record { scripts_hold = scripts; course_holds = course_holds; ranges_kept = ranges_kept }
