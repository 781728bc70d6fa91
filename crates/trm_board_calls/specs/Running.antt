-- A run of the board in progress: after some clocks its state and buffers are those of the clocks done, and the rest is still to come.
-- Request A1: "Each of its clocks takes the serial line, the switches, interrupt 1 and stall". Used in inner contracts only: no claim rests
-- on it.
--   Stage, stage   the state of a run        Running p joined gs ws q₀ q   a run from q₀ is in state q
--   At, Some, Turned   what a function of some clocks requires and ensures        Coming, Expected   clocks without an answer follow
use Rattle.std.specs.Prelude.{ℕ, ◌+◌, ◌*◌, ◌-◌, ◌/◌, ◌%◌, ◌≤◌, ◌≡◌, Bool, List, [], ◌∷◌, length, take, drop, set}
use Rattle.trm_reference.specs.Trace.{After, end_of, outs_of, finished_in}
use Rattle.trm_core.specs.Record.{Lent}
use Rattle.trm_run_machine.specs.Quiet.{Silent}
use Rattle.trm_board.specs.declared.record.Devices.{Devices}
use Rattle.trm_board.specs.Board.{Board, Shown}
use Rattle.trm_board_calls.specs.Run.{run_inputs, answers_of, level_of, byte_of, word_of, board_history}
use Rattle.trm_board_calls.specs.Coded.{Ready}

-- the board with its store, the instructions finished, the clocks done, and the buffers
pub record Stage : Type 0 where
  pub board : Board Lent
  pub finished : ℕ
  pub at : ℕ
  pub levels : List ℕ
  pub bytes : List ℕ
  pub words : List ℕ

abbrev pub stage : Board Lent → ℕ → ℕ → List ℕ → List ℕ → List ℕ → Stage
stage b finished at levels bytes words =
    record { board = b; finished = finished; at = at; levels = levels; bytes = bytes; words = words }

-- a buffer into which one number after another is written, from `at` on
unfoldable pub filled : (Shown → ℕ) → List ℕ → ℕ → List Shown → List ℕ
filled f list at [] = list
filled f list at (o ∷ os) = filled f (set list at (f o)) (at + 1) os

-- the lists of a run are as long as the run
pub record Lengths (gs ws : List ℕ) (q : Stage) : Type 0 where
  pub same : length gs ≡ length ws
  pub wide : length q.levels ≡ length gs
  pub broad : length q.bytes ≡ length gs
  pub long : length q.words ≡ length gs
  pub many : length gs ≤ 4294967295

module _ (p : List ℕ) (joined : Bool) (gs ws : List ℕ) where
  -- the clocks to come
  abbrev pub rest : Board Lent → ℕ → List (After (Board Lent) Shown)
  rest x at = board_history p x (run_inputs joined (drop at gs) (drop at ws))

  -- what the clocks to come will write into the buffers as they are now is what all clocks write into them as lent
  pub record Running (q₀ q : Stage) : Type 0 where
    pub below : q.at ≤ length gs
    pub ready : Ready p q.board (length gs - q.at)
    pub size : length q.board.core.store ≡ length q₀.board.core.store
    pub state : end_of q.board (rest q.board q.at) ≡ end_of q₀.board (rest q₀.board 0)
    pub count : q.finished + finished_in (answers_of (outs_of (rest q.board q.at)))
        ≡ finished_in (answers_of (outs_of (rest q₀.board 0)))
    pub few : q.finished ≤ q.at
    pub levels : filled level_of q.levels q.at (outs_of (rest q.board q.at))
        ≡ filled level_of q₀.levels 0 (outs_of (rest q₀.board 0))
    pub bytes : filled byte_of q.bytes q.at (outs_of (rest q.board q.at))
        ≡ filled byte_of q₀.bytes 0 (outs_of (rest q₀.board 0))
    pub words : filled word_of q.words q.at (outs_of (rest q.board q.at))
        ≡ filled word_of q₀.words 0 (outs_of (rest q₀.board 0))
    pub lengths : Lengths gs ws q

-- some run is in this state
pub record At (p : List ℕ) (joined : Bool) (gs ws : List ℕ) (q : Stage) : Type 0 where
  pub from : Stage
  pub so : Running p joined gs ws from q

-- the same, whatever its switches are
pub record Some (p : List ℕ) (joined : Bool) (gs : List ℕ) (q : Stage) : Type 0 where
  pub switches : List ℕ
  pub here : At p joined gs switches q

-- every run in state q reaches q'
abbrev pub Turned : List ℕ → Bool → List ℕ → List ℕ → Stage → Stage → Type 0
Turned p joined gs ws q q' = (q₀ : Stage) → Running p joined gs ws q₀ q → Running p joined gs ws q₀ q'

-- the core's line byte, and its line bytes while the tick does not change
abbrev pub line_for : ℕ → ℕ → ℕ
line_for tick g = tick + 2 * (g / 2 % 2) + 4 * (g / 4 % 2)

unfoldable pub lines_of : ℕ → List ℕ → List ℕ
lines_of tick [] = []
lines_of tick (g ∷ gs) = line_for tick g ∷ lines_of tick gs

-- the devices d of a run are at clock `at`, its core is to leave the clocks up to `to` at y, with `total` instructions finished, and none
-- of them has an answer; the tick can rise in the last of them only
pub record Coming (p : List ℕ) (joined : Bool) (gs ws : List ℕ) (q₀ : Stage) (y : Lent) (total to : ℕ) (d : Devices) (count at : ℕ)
    (lv bs os : List ℕ) : Type 0 where
  pub core : Lent
  pub finished : ℕ
  pub left : ℕ
  pub so : Running p joined gs ws q₀ (stage (record { core = core; devices = d }) finished at lv bs os)
  pub silent : Silent p (lines_of d.tick (take (to - at) (drop at gs))) core y left
  pub sum : finished + left ≡ total
  pub counted : count ≡ core.machine.scalars.counts.clocks
  pub slow : count % 116600 + (to - at) ≤ 116600
  pub onward : at ≤ to
  pub below : to ≤ length gs

-- some run is so
pub record Expected (joined : Bool) (gs : List ℕ) (to : ℕ) (d : Devices) (count at : ℕ) (lv bs os : List ℕ) : Type 0 where
  pub program : List ℕ
  pub switches : List ℕ
  pub from : Stage
  pub core : Lent
  pub total : ℕ
  pub so : Coming program joined gs switches from core total to d count at lv bs os
