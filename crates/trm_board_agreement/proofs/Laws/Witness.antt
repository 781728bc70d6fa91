-- Every list of board calls from an accepted reset has an exchange: what the definitions give meets the contracts.
-- Idea: the board of the code is built from that of the definitions, a reference from the list that it holds.
--   back x    the board of the code        exchange-exists
use Prim.Native.Nat.{ℕ}
use mathlib.Core.Path.{◌≡◌, refl}
use mathlib.Core.Bool.{Bool, true, false}
use mathlib.Core.List.{List, [], ◌∷◌}
use Rattle.trm_reference.specs.Trace.{After}
use Rattle.trm_core.specs.Record.{Lent}
use Rattle.trm_core.specs.Refusals.{reset_refusal}
use Rattle.trm_board.specs.Board.{Board as BoardOf, Shown}
use Rattle.trm_board_calls.specs.declared.board_record.Board.{Board}
use Rattle.trm_board_calls.specs.Refusals.{board_clock_refusal, board_run_refusal}
use Rattle.trm_board_calls.specs.Run.{BoardRan}
use Rattle.trm_board_calls.specs.Coded.{board_of}
use Rattle.trm_board_calls.specs.Promises.{board_reset_gives, board_clock_gives, board_run_gives}
use Rattle.trm.specs.declared.exported_board.BoardResetAnswer.{BoardResetAnswer}
use Rattle.trm.specs.declared.exported_board.BoardClockAnswer.{BoardClockAnswer}
use Rattle.trm.specs.declared.exported_board.BoardRunAnswer.{BoardRunAnswer}
use Rattle.trm_agreement.proofs.Laws.Witness.{back as machine_back, holding, lending}
use Rattle.trm_board_agreement.specs.Calls.{BoardCall, clock_call, run_call}
use Rattle.trm_board_agreement.specs.CallContracts.{ResetMet, Slices}
use Rattle.trm_board_agreement.specs.Exchange.{starts, Returned, clock_returned, run_returned, board_left, store_left, Meets, by_clock}
use Rattle.trm_board_agreement.specs.Exchange.{by_joined_clock, by_run, by_joined_run, Exchange}
use Rattle.trm_board_agreement.specs.Demand.{Exists}

-- the board of the code from that of the definitions
unfoldable pub back : BoardOf Lent → Board
back x = record { machine = machine_back x.core.machine; devices = x.devices }

reset-gives : List ℕ → BoardResetAnswer
reset-gives s = record { board = back (board_reset_gives s); number = reset_refusal s }

reset-met : (s : List ℕ) → ResetMet s (reset-gives s)
unfolding reset-gives back machine_back holding board_reset_gives
reset-met s = record {
  lifetimes = ([], tt);
  store = holding s;
  holds = refl;
  ensures = record { number = refl; board = refl };
}

module _ (p : List ℕ) where
  clocked : Board → List ℕ → Bool → ℕ → ℕ → After (BoardOf Lent) Shown
  clocked b s joined given switches = board_clock_gives p (board_of b s) joined given switches

  clock-gives : Board → List ℕ → Bool → ℕ → ℕ → BoardClockAnswer
  clock-gives b s joined given switches = let t = clocked b s joined given switches in record {
    board = back t.state;
    number = board_clock_refusal p (board_of b s) given;
    level = t.out.level;
    byte = t.out.answer.byte;
    word = t.out.answer.word;
    finished = t.out.answer.done;
  }

  ran : Board → List ℕ → Bool → List ℕ → List ℕ → List ℕ → List ℕ → List ℕ → BoardRan
  ran b s joined gs ws lv bs os = board_run_gives p (board_of b s) joined gs ws lv bs os

  run-gives : Board → List ℕ → Bool → List ℕ → List ℕ → List ℕ → List ℕ → List ℕ → BoardRunAnswer
  run-gives b s joined gs ws lv bs os = let t = ran b s joined gs ws lv bs os in record {
    board = back t.state;
    number = board_run_refusal p (board_of b s) gs ws lv bs os;
    used = t.used;
    finished = t.finished;
  }

  slices : (s gs ws lv bs os : List ℕ) (t : BoardRan) → Slices p s gs ws lv bs os t.state.core.store t.levels t.bytes t.words
  unfolding holding lending
  slices s gs ws lv bs os t = record {
    program = holding p;
    store = lending s;
    store' = lending t.state.core.store;
    given = holding gs;
    switches = holding ws;
    levels = lending lv;
    levels' = lending t.levels;
    bytes = lending bs;
    bytes' = lending t.bytes;
    words = lending os;
    words' = lending t.words;
    holds = (refl, refl, refl, refl, refl, refl, refl, refl, refl, refl, refl);
  }

  -- what a call returns by the definitions
  reply : Board → List ℕ → BoardCall → Returned
  reply b s (clock_call joined given switches) =
      clock_returned (board_clock_refusal p (board_of b s) given) (back (clocked b s joined given switches).state)
      (clocked b s joined given switches).state.core.store (clocked b s joined given switches).out
  reply b s (run_call joined gs ws lv bs os) =
      run_returned (board_run_refusal p (board_of b s) gs ws lv bs os) (back (ran b s joined gs ws lv bs os).state)
      (ran b s joined gs ws lv bs os).state.core.store (ran b s joined gs ws lv bs os).used (ran b s joined gs ws lv bs os).finished
      (ran b s joined gs ws lv bs os).levels (ran b s joined gs ws lv bs os).bytes (ran b s joined gs ws lv bs os).words

  reply-met : (b : Board) (s : List ℕ) (c : BoardCall) → Meets p b s c (reply b s c)
  unfolding reply clocked clock-gives ran run-gives slices back machine_back holding lending
  reply-met b s (clock_call false given switches) = by_clock given switches (clock-gives b s false given switches)
      (clocked b s false given switches).state.core.store (record {
        lifetimes = ([], ([], tt));
        program = holding p;
        store = lending s;
        store' = lending (clocked b s false given switches).state.core.store;
        holds = (refl, refl, refl);
        ensures = record { number = refl; outcome = refl };
      })
  reply-met b s (clock_call true given switches) = by_joined_clock given switches (clock-gives b s true given switches)
      (clocked b s true given switches).state.core.store (record {
        lifetimes = ([], ([], tt));
        program = holding p;
        store = lending s;
        store' = lending (clocked b s true given switches).state.core.store;
        holds = (refl, refl, refl);
        ensures = record { number = refl; outcome = refl };
      })
  reply-met b s (run_call false gs ws lv bs os) = by_run gs ws lv bs os (run-gives b s false gs ws lv bs os)
      (ran b s false gs ws lv bs os).state.core.store (ran b s false gs ws lv bs os).levels (ran b s false gs ws lv bs os).bytes
      (ran b s false gs ws lv bs os).words (record {
        lifetimes = ([], ([], ([], ([], ([], ([], ([], tt)))))));
        x = slices s gs ws lv bs os (ran b s false gs ws lv bs os);
        ensures = record { number = refl; outcome = refl };
      })
  reply-met b s (run_call true gs ws lv bs os) = by_joined_run gs ws lv bs os (run-gives b s true gs ws lv bs os)
      (ran b s true gs ws lv bs os).state.core.store (ran b s true gs ws lv bs os).levels (ran b s true gs ws lv bs os).bytes
      (ran b s true gs ws lv bs os).words (record {
        lifetimes = ([], ([], ([], ([], ([], ([], ([], tt)))))));
        x = slices s gs ws lv bs os (ran b s true gs ws lv bs os);
        ensures = record { number = refl; outcome = refl };
      })

  replies : Board → List ℕ → List BoardCall → List Returned
  replies b s [] = []
  replies b s (c ∷ cs) = reply b s c ∷ replies (board_left (reply b s c)) (store_left (reply b s c)) cs

  replies-met : (b : Board) (s : List ℕ) (cs : List BoardCall) → Exchange p b s cs (replies b s cs)
  unfolding Exchange replies
  replies-met b s [] = tt
  replies-met b s (c ∷ cs) = (reply-met b s c, replies-met (board_left (reply b s c)) (store_left (reply b s c)) cs)

pub exchange-exists : (p s : List ℕ) (cs : List BoardCall) → reset_refusal s ≡ 0 → Exists p s cs
unfolding reset-gives
exchange-exists p s cs z = record {
  board = (reset-gives s).board;
  reset = starts (reset-gives s) (reset-met s) z;
  returns = replies p (reset-gives s).board s cs;
  exchange = replies-met p (reset-gives s).board s cs;
}
