-- The contracts of the exported board calls as plain facts: what each function's `ensures` says of its result and of the buffers at exit.
-- Document 01: "For each callable function and all inputs, refused ones too, a contract gives its result ..".
--   ResetMet, GivenClock, JoinedClock, GivenRun, JoinedRun    the `ensures` of trm_board_reset, trm_board_clock, trm_board_clock_joined,
--                                                             trm_board_run and trm_board_run_joined
use Rattle.std.specs.Prelude.{ℕ, ◌≡◌, List}
use contract.Lifetimes.{Lfts}
use Rattle.std.specs.Borrow.{Bor, MutBor}
use Rattle.trm_board_calls.specs.declared.board_record.Board.{Board}
use Rattle.trm.specs.declared.exported_board.BoardResetAnswer.{BoardResetAnswer}
use Rattle.trm.specs.declared.exported_board.BoardClockAnswer.{BoardClockAnswer}
use Rattle.trm.specs.declared.exported_board.BoardRunAnswer.{BoardRunAnswer}
use Rattle.trm.proofs.exported_board.trm_board_reset.Reads as board-reset
use Rattle.trm.proofs.exported_board.trm_board_clock.Reads as given-clock
use Rattle.trm.proofs.exported_board.trm_board_clock_joined.Reads as joined-clock
use Rattle.trm.proofs.exported_board.trm_board_run.Reads as given-run
use Rattle.trm.proofs.exported_board.trm_board_run_joined.Reads as joined-run

pub record ResetMet (s : List ℕ) (r : BoardResetAnswer) : Type 0 where
  pub lifetimes : Lfts 1
  pub store : Bor (List ℕ)
  pub holds : store.now ≡ s
  pub ensures : board-reset.Post lifetimes (store, tt) r (store, tt)

pub record GivenClock (b : Board) (p s : List ℕ) (given switches : ℕ) (r : BoardClockAnswer) (s' : List ℕ) : Type 0 where
  pub lifetimes : Lfts 2
  pub program : Bor (List ℕ)
  pub store : MutBor (List ℕ)
  pub store' : MutBor (List ℕ)
  pub holds : (program.now ≡ p) × (store.now ≡ s) × (store'.now ≡ s')
  pub ensures : given-clock.Post lifetimes (b, (program, (store, (given, (switches, tt))))) r
      (b, (program, (store', (given, (switches, tt)))))

pub record JoinedClock (b : Board) (p s : List ℕ) (given switches : ℕ) (r : BoardClockAnswer) (s' : List ℕ) : Type 0 where
  pub lifetimes : Lfts 2
  pub program : Bor (List ℕ)
  pub store : MutBor (List ℕ)
  pub store' : MutBor (List ℕ)
  pub holds : (program.now ≡ p) × (store.now ≡ s) × (store'.now ≡ s')
  pub ensures : joined-clock.Post lifetimes (b, (program, (store, (given, (switches, tt))))) r
      (b, (program, (store', (given, (switches, tt)))))

-- the slices of a run, before and after it
pub record Slices (p s gs ws lv bs os s' lv' bs' os' : List ℕ) : Type 0 where
  pub program : Bor (List ℕ)
  pub store : MutBor (List ℕ)
  pub store' : MutBor (List ℕ)
  pub given : Bor (List ℕ)
  pub switches : Bor (List ℕ)
  pub levels : MutBor (List ℕ)
  pub levels' : MutBor (List ℕ)
  pub bytes : MutBor (List ℕ)
  pub bytes' : MutBor (List ℕ)
  pub words : MutBor (List ℕ)
  pub words' : MutBor (List ℕ)
  pub holds : (program.now ≡ p) × (store.now ≡ s) × (store'.now ≡ s') × (given.now ≡ gs) × (switches.now ≡ ws)
      × (levels.now ≡ lv) × (levels'.now ≡ lv') × (bytes.now ≡ bs) × (bytes'.now ≡ bs') × (words.now ≡ os) × (words'.now ≡ os')

pub record GivenRun (b : Board) (p s gs ws lv bs os : List ℕ) (r : BoardRunAnswer) (s' lv' bs' os' : List ℕ) : Type 0 where
  pub lifetimes : Lfts 7
  pub x : Slices p s gs ws lv bs os s' lv' bs' os'
  pub ensures : given-run.Post lifetimes
      (b, (x.program, (x.store, (x.given, (x.switches, (x.levels, (x.bytes, (x.words, tt)))))))) r
      (b, (x.program, (x.store', (x.given, (x.switches, (x.levels', (x.bytes', (x.words', tt))))))))

pub record JoinedRun (b : Board) (p s gs ws lv bs os : List ℕ) (r : BoardRunAnswer) (s' lv' bs' os' : List ℕ) : Type 0 where
  pub lifetimes : Lfts 7
  pub x : Slices p s gs ws lv bs os s' lv' bs' os'
  pub ensures : joined-run.Post lifetimes
      (b, (x.program, (x.store, (x.given, (x.switches, (x.levels, (x.bytes, (x.words, tt)))))))) r
      (b, (x.program, (x.store', (x.given, (x.switches, (x.levels', (x.bytes', (x.words', tt))))))))
