-- Busy in the clocks of a frame and in no others, from the turns of a run.
-- Idea: the turns are the clocks of the serial line, one for one, so a cut of the one list is a cut of the other.
use Prim.Native.Nat.{ℕ, suc, ◌+◌, ◌/◌, ◌<◌}
use mathlib.Core.Path.{◌≡◌, refl, sym, ap, ap₂, subst, ◌∙◌}
use mathlib.Core.List.{List, [], ◌∷◌, ◌++◌}
use lib.ListN.{length, get_or}
use native.Mathlib.Omega.{arith}
use Rattle.trm_serial.specs.Timing.{Timing, Fits, frame}
use Rattle.trm_serial.specs.Serial.{serial_reset, levels, level, busy}
use Rattle.trm_serial.specs.Moments.{Given, moment, heard_end, accepted_at}
use Rattle.trm_serial.specs.Claims as serial
use Rattle.trm_serial.proofs.Theorems as proved
use Rattle.trm_board.specs.Board.{Devices, devices_reset}
use Rattle.trm_board.specs.Turns.{Turn, accepted_in}
use Rattle.trm_board.specs.Course.{Follows, Sending, Busy}
use Rattle.trm_board.proofs.Laws.Follows.{Cut, cut_at}
use Rattle.trm_board.proofs.Laws.Line.{given_in, givens, serial_end, ready-end, accepted-turn}

module _ (T : Timing) where
  givens-append : (ts us : List Turn) → givens T (ts ++ us) ≡ givens T ts ++ givens T us
  unfolding givens
  givens-append [] us = refl
  givens-append (t ∷ ts) us = ap (λ gs. given_in T t ∷ gs) (givens-append ts us)

  givens-length : (ts : List Turn) → length (givens T ts) ≡ length ts
  unfolding givens
  givens-length [] = refl
  givens-length (t ∷ ts) = ap suc (givens-length ts)

  -- a cut of the clocks of the line is a cut of the turns
  record Split (ts : List Turn) (gs : List Given) (g : Given) (hs : List Given) : Type 0 where
    before : List Turn
    here : Turn
    rest : List Turn
    split : ts ≡ before ++ (here ∷ rest)
    same-before : gs ≡ givens T before
    same_here : g ≡ given_in T here
    same_rest : hs ≡ givens T rest

  head_of : Given → List Given → Given
  head_of g [] = g
  head_of g (h ∷ hs) = h

  tail_of : List Given → List Given
  tail_of [] = []
  tail_of (h ∷ hs) = hs

  no-clock : (g : Given) (hs : List Given) → [] ≡ g ∷ hs → ⊥
  no-clock g hs e = absurd (let z : ◌≡◌ {A = ℕ} 0 1 = cc in omega arith)

  split-of : (ts : List Turn) (gs : List Given) (g : Given) (hs : List Given) → givens T ts ≡ gs ++ (g ∷ hs) → Split ts gs g hs
  unfolding givens head_of tail_of
  split-of [] [] g hs e = absurd (no-clock g hs e)
  split-of [] (x ∷ gs) g hs e = absurd (no-clock x (gs ++ (g ∷ hs)) e)
  split-of (t ∷ ts) [] g hs e = record {
    before = [];
    here = t;
    rest = ts;
    split = refl;
    same-before = refl;
    same_here = sym (ap (head_of g) e);
    same_rest = sym (ap tail_of e);
  }
  split-of (t ∷ ts) (x ∷ gs) g hs e = let s = split-of ts gs g hs (ap tail_of e) in record {
    before = t ∷ s.before;
    here = s.here;
    rest = s.rest;
    split = ap (λ us. t ∷ us) s.split;
    same-before = ap₂ ◌∷◌ (sym (ap (head_of x) e)) s.same-before;
    same_here = s.same_here;
    same_rest = s.same_rest;
  }

module _ (T : Timing) (fits : Fits T) (ts : List Turn) (d : Devices) (follows : Follows T 0 devices_reset ts d) where
  end_is : d.serial ≡ heard_end T serial_reset (givens T ts)
  end_is = serial_end T 0 devices_reset ts d follows

  line : serial.Busy T (givens T ts)
  line = (proved.theorems).busy_holds T (givens T ts)

  -- an accepted write, in its turn and on the line
  module _ (before : List Turn) (write : Turn) (rest : List Turn) (split : ts ≡ before ++ (write ∷ rest)) where
    cut : Cut T 0 devices_reset before write rest d
    cut = cut_at T 0 devices_reset before write rest d (subst (λ us. Follows T 0 devices_reset us d) split follows)

    same-accepted : accepted_in write ≡ accepted_at (moment (heard_end T serial_reset (givens T before)) (given_in T write).line
        (given_in T write).access)
    same-accepted =
        accepted-turn T (0 + length before) write cut.here
        (ready-end T fits 0 devices_reset before write.before cut.first (omega arith))
        ∙ ap (λ s. accepted_at (moment s (given_in T write).line (given_in T write).access))
        (serial_end T 0 devices_reset before write.before cut.first)

  unfoldable to-line : (byte : ℕ) → Sending T ts byte → serial.Sending T serial_reset (givens T ts) byte
  unfolding givens
  to-line byte h = record {
    before = givens T h.before;
    write = given_in T h.write;
    rest = givens T h.rest;
    split = ap (givens T) h.split ∙ givens-append T h.before (h.write ∷ h.rest);
    accepted = sym (same-accepted h.before h.write h.rest h.split) ∙ h.accepted;
    recent = rw (givens-length T h.rest) h.recent;
  }

  from-line : (byte : ℕ) → serial.Sending T serial_reset (givens T ts) byte → Sending T ts byte
  from-line byte h = let s = split-of T ts h.before h.write h.rest h.split in record {
    before = s.before;
    write = s.here;
    rest = s.rest;
    split = s.split;
    accepted = same-accepted s.before s.here s.rest s.split
        ∙ ap₂ (λ (gs : List Given) (g : Given). accepted_at (moment (heard_end T serial_reset gs) g.line g.access))
        (sym s.same-before) (sym s.same_here)
        ∙ h.accepted;
    recent = subst (λ k. k < frame T) (ap length s.same_rest ∙ givens-length T s.rest) h.recent;
  }

  pub busy-follows : Busy T ts d
  unfolding to-line
  busy-follows = record {
    during = λ byte h. ap busy end_is ∙ line.during byte (to-line byte h);
    only = λ e. subst (λ b. Sending T ts b) (ap (λ s. s.sent) (sym end_is)) (from-line _ (line.only (sym (ap busy end_is) ∙ e)));
    bits = λ byte h. ap (level T) end_is ∙ line.bits byte (to-line byte h)
        ∙ ap (λ k. get_or (levels byte) (k / T.period) 1) (givens-length T h.rest);
    high = λ e. ap (level T) end_is ∙ line.high (sym (ap busy end_is) ∙ e);
  }
