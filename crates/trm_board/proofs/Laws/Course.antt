-- What is claimed of a run follows from its turns alone: they follow one another from a reset.
-- Idea: loop-back, fates and busy are those of the serial line; the rest is read off one clock.
use Prim.Native.Nat.{ℕ, ◌+◌, ◌/◌, ◌≤◌}
use mathlib.Core.Path.{◌≡◌, refl, sym, ap, ap₂, subst, ◌∙◌}
use mathlib.Core.Bool.{Bool, true, false, cond}
use mathlib.Core.List.{List, [], ◌∷◌, ◌++◌}
use lib.ListN.{length}
use lib.Dec.{eqb}
use borrow.Author.Tests.{eqb-true, lt-leb}
use native.Mathlib.Omega.{arith}
use Rattle.trm_serial.specs.Timing.{Timing, Fits}
use Rattle.trm_serial.specs.Serial.{reads, writes, others, serial_reset, stops, ready_after}
use Rattle.trm_serial.specs.Claims as serial
use Rattle.trm_serial.specs.Moments.{fed, heard, heard_end, joined, joined_end, each, accepted_at, handed_at, received_at, marks_at, is_set}
use Rattle.trm_serial.specs.Moments.{fate_at, in_time, none, bytes_of, handed_in as handed_of, replaced_in, unread, on_line}
use Rattle.trm_serial.proofs.Theorems as proved
use Rattle.trm_serial.proofs.Laws.Clock.{ready-after}
use Rattle.trm_board.specs.Core.{read_by}
use Rattle.trm_board.specs.Board.{Devices, devices_reset, reply, access_of, line_in}
use Rattle.trm_board.specs.Turns.{Turn, byte_of, word_of, accepted_in, handed_in, received_in, marks_in, fates_in, bytes_back, all_joined}
use Rattle.trm_board.specs.Turns.{inputs_in}
use Rattle.trm_board.specs.Course.{devices_after, Follows, tick_by, LoopBack, Course}
use Rattle.trm_board.proofs.Laws.Follows.{Cut, cut_at}
use Rattle.trm_board.proofs.Laws.Line.{accesses, givens, serial_end, given-joined, each_turn, accepted-turn, handed-turn}
use Rattle.trm_board.proofs.Laws.Line.{received-turn}
use Rattle.trm_board.proofs.Laws.Line.{access_in, marks-turn, fates_turn}
use Rattle.trm_board.proofs.Laws.Busy.{busy-follows}
use Rattle.trm_board.proofs.Laws.Tick.{tick-follows}

module _ (T : Timing) (fits : Fits T) (ts : List Turn) (d : Devices) (follows : Follows T 0 devices_reset ts d) where
  small : serial_reset.ready ≤ 1
  small = omega arith

  accepted : each accepted_in ts ≡ each accepted_at (heard T serial_reset (givens T ts))
  accepted = each_turn T fits accepted_in accepted_at (accepted-turn T) 0 devices_reset ts d follows small

  handed : each handed_in ts ≡ each handed_at (heard T serial_reset (givens T ts))
  handed = each_turn T fits handed_in handed_at (handed-turn T) 0 devices_reset ts d follows small

  received : each (received_in T) ts ≡ each (received_at T) (heard T serial_reset (givens T ts))
  received = each_turn T fits (received_in T) (received_at T) (received-turn T) 0 devices_reset ts d follows small

  marks : each (marks_in T) ts ≡ each (marks_at T) (heard T serial_reset (givens T ts))
  marks = each_turn T fits (marks_in T) (marks_at T) (marks-turn T) 0 devices_reset ts d follows small

  fates : each (fates_in T) ts ≡ each (fate_at T) (heard T serial_reset (givens T ts))
  fates = each_turn T fits (fates_in T) (fate_at T) (fates_turn T) 0 devices_reset ts d follows small

  end_is : d.serial ≡ heard_end T serial_reset (givens T ts)
  end_is = serial_end T 0 devices_reset ts d follows

  -- joined to itself
  module _ (j : all_joined (inputs_in ts) ≡ true) where
    line : serial.LoopBack T (accesses ts)
    line = (proved.theorems).loop_back T fits (accesses ts)

    fed-is : givens T ts ≡ fed T serial_reset (accesses ts)
    fed-is = given-joined T 0 devices_reset ts d follows j

    -- a fact of the joined line is one of the turns
    at-end : unread (joined_end T serial_reset (accesses ts)) ++ on_line T (joined_end T serial_reset (accesses ts))
        ≡ unread d.serial ++ on_line T d.serial
    at-end = ap (λ s. unread s ++ on_line T s) (sym (end_is ∙ ap (heard_end T serial_reset) fed-is))

    accepted-joined : each accepted_in ts ≡ each accepted_at (joined T serial_reset (accesses ts))
    accepted-joined = accepted ∙ ap (λ gs. each accepted_at (heard T serial_reset gs)) fed-is

    pub loops : LoopBack T ts d
    loops = record {
      whole = λ e. accepted-joined
          ∙ line.whole (ap (in_time false) (sym (marks ∙ ap (λ gs. each (marks_at T) (heard T serial_reset gs)) fed-is)) ∙ e)
          ∙ ap₂ ◌++◌ (sym (handed ∙ ap (λ gs. each handed_at (heard T serial_reset gs)) fed-is)) at-end;
      received = accepted-joined ∙ line.received
          ∙ ap₂ ◌++◌ (sym (received ∙ ap (λ gs. each (received_at T) (heard T serial_reset gs)) fed-is))
          (ap (on_line T) (sym (end_is ∙ ap (heard_end T serial_reset) fed-is)));
      fates = accepted-joined ∙ line.fates
          ∙ ap₂ ◌++◌ (ap bytes_of (sym (fates ∙ ap (λ gs. each (fate_at T) (heard T serial_reset gs)) fed-is))) at-end;
    }

  on_line_lem : serial.Fates T serial_reset (givens T ts)
  on_line_lem = (proved.theorems).fates T fits serial_reset (givens T ts)

  module _ (before after : List Turn) (t : Turn) (split : ts ≡ before ++ (t ∷ after)) where
    cut : Cut T 0 devices_reset before t after d
    cut = cut_at T 0 devices_reset before t after d (subst (λ us. Follows T 0 devices_reset us d) split follows)

    milliseconds : byte_of t ≡ read_by 6 → word_of t ≡ length before / T.tick
    unfolding reply
    milliseconds e = cut.here.replies 6 e ∙ ap (λ k. k / T.tick) (omega arith)

  -- the received bit falls in no clock but one that reads device 4
  falls-read : (n : ℕ) (t : Turn) → t.before.serial.ready ≡ 1 → (devices_after T n t).serial.ready ≡ 0 → byte_of t ≡ read_by 4
  unfolding access_of
  falls-read n t one zero =
      go (stops T t.before.serial.passed) (eqb (byte_of t) 17) refl (eqb (byte_of t) 18)
      (sym (ready-after T fits (line_in T t.before.serial t.input) (access_in t) t.before.serial) ∙ zero)
    where
      go : (b u : Bool) → eqb (byte_of t) 17 ≡ u → (v : Bool)
          → cond b 1 (ready_after t.before.serial.ready (cond u reads (cond v (writes (word_of t)) others))) ≡ 0 → byte_of t ≡ 17
      go true u e v h = absurd (omega arith)
      go false true e v h = eqb-true (byte_of t) 17 e
      go false false e true h = absurd (unfold ready_after in (omega (arith, one, h)))
      go false false e false h = absurd (unfold ready_after in (omega (arith, one, h)))

  falls : (before after : List Turn) (t u : Turn) → ts ≡ before ++ (t ∷ u ∷ after) → t.before.serial.ready ≡ 1
      → u.before.serial.ready ≡ 0 → (byte_of t ≡ read_by 4) × (t.shown.answer.done ≡ 1)
  unfolding Follows
  falls before after t u split one zero = (reads-four, (cut before (u ∷ after) t split).here.ends (λ z. absurd (omega (arith, reads-four))))
    where
      reads-four : byte_of t ≡ read_by 4
      reads-four = falls-read (0 + length before) t one
          (ap (λ (x : Devices). x.serial.ready) (sym (cut before (u ∷ after) t split).rest.0) ∙ zero)

  pub course-follows : Course T ts d
  course-follows = record {
    follows = follows;
    loop_back = loops;
    gone = received ∙ none_before on_line_lem.all ∙ ap₂ ◌++◌ (ap bytes_of (sym fates)) (ap unread (sym end_is));
    handed = ap handed_of fates ∙ on_line_lem.handed ∙ sym handed;
    kept = ap (in_time false) marks ∙ not_set on_line_lem.kept ∙ ap (λ fs. none (replaced_in fs)) (sym fates);
    busy_at = λ before after t split. busy-follows T fits before t.before (cut before after t split).first;
    busy_end = busy-follows T fits ts d follows;
    tick_at = λ before after t split. ticks before t.before (cut before after t split).first;
    tick_end = ticks ts d follows;
    milliseconds = milliseconds;
    falls = falls;
  }
    where
      ticks : (us : List Turn) (e : Devices) → Follows T 0 devices_reset us e → e.tick ≡ tick_by T (bytes_back us [])
      ticks us e h = tick-follows T fits 0 devices_reset us e [] h refl (unfold tick_by in rw (lt-leb T.tick 0 (let o = fits.ticks in
          omega arith)))

      none_before : unread serial_reset ++ each (received_at T) (heard T serial_reset (givens T ts))
          ≡ bytes_of (each (fate_at T) (heard T serial_reset (givens T ts))) ++ unread (heard_end T serial_reset (givens T ts))
          → each (received_at T) (heard T serial_reset (givens T ts))
          ≡ bytes_of (each (fate_at T) (heard T serial_reset (givens T ts))) ++ unread (heard_end T serial_reset (givens T ts))
      none_before h = unfold unread is_set in h

      not_set : in_time (is_set serial_reset) (each (marks_at T) (heard T serial_reset (givens T ts)))
          ≡ none (replaced_in (each (fate_at T) (heard T serial_reset (givens T ts))))
          → in_time false (each (marks_at T) (heard T serial_reset (givens T ts)))
          ≡ none (replaced_in (each (fate_at T) (heard T serial_reset (givens T ts))))
      not_set h = unfold is_set in h
