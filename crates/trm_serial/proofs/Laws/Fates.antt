-- What becomes of a received byte, on any line: to a read, or replaced, or unread.
-- Idea: in each clock what is in the register, and what comes, is what goes and what is in it after; then by induction.
use Prim.Native.Nat.{ℕ}
use mathlib.Core.Path.{◌≡◌, refl, sym, ap, ap₂, ◌∙◌}
use mathlib.Core.Bool.{Bool, true, false, cond, ◌&&◌}
use mathlib.Core.List.{List, [], ◌∷◌, ◌++◌}
use lib.Dec.{eqb}
use Rattle.trm_serial.specs.Timing.{Timing, Fits}
use Rattle.trm_serial.specs.Serial.{Access, reads, writes, others, Serial, stops, ready_after, serial_clock}
use Rattle.trm_serial.specs.Moments.{Given, moment, heard, heard_end, each, read_of, is_set, handed_at, received_at, fate_of}
use Rattle.trm_serial.specs.Moments.{fate_at}
use Rattle.trm_serial.specs.Moments.{bytes_of, handed_in, replaced_in, none, unread, Mark, received, read_mark, marks_at, in_time}
use Rattle.trm_serial.specs.Claims.{Fates}
use Rattle.trm_serial.proofs.Laws.Lists.{Passed, passed, bytes-each, handed-append, none-append}
use Rattle.trm_serial.proofs.Laws.Clock.{ready-after, byte-after}

module _ (T : Timing) (fits : Fits T) (line : ℕ) (a : Access) (s : Serial) where
  fate_step : unread s ++ received_at T (moment s line a) ≡ bytes_of (fate_at T (moment s line a)) ++ unread (serial_clock T line a s)
  unfolding unread is_set received_at fate_at fate_of bytes_of ready_after
  fate_step = rw (ready-after T fits line a s, byte-after T fits line a s) (go (stops T s.passed) (eqb s.ready 1) a refl)
    where
      go : (t b : Bool) (a : Access) → eqb s.ready 1 ≡ b
          → cond b (s.byte ∷ []) [] ++ cond t (s.bits ∷ []) []
          ≡ bytes_of (cond b (fate_of t s.byte a) [])
          ++ cond (eqb (cond t 1 (ready_after s.ready a)) 1) (cond t s.bits s.byte ∷ []) []
      go true true reads e = refl
      go true true (writes w) e = refl
      go true true others e = refl
      go true false a e = refl
      go false true reads e = refl
      go false true (writes w) e = rw e
      go false true others e = rw e
      go false false reads e = refl
      go false false (writes w) e = rw e
      go false false others e = rw e

  handed-step : handed_in (fate_at T (moment s line a)) ≡ handed_at (moment s line a)
  unfolding is_set fate_at fate_of handed_in handed_at read_of
  handed-step = go (stops T s.passed) (eqb s.ready 1) a
    where
      go : (t b : Bool) (a : Access) → handed_in (cond b (fate_of t s.byte a) []) ≡ cond b (read_of s.byte a) []
      go t false a = refl
      go t true reads = refl
      go true true (writes w) = refl
      go false true (writes w) = refl
      go true true others = refl
      go false true others = refl

  kept_step : (ms : List Mark) → in_time (is_set s) (marks_at T (moment s line a) ++ ms)
      ≡ none (replaced_in (fate_at T (moment s line a))) && in_time (is_set (serial_clock T line a s)) ms
  unfolding is_set fate_at fate_of replaced_in none marks_at read_mark in_time ready_after
  kept_step ms = rw (ready-after T fits line a s) (go (stops T s.passed) (eqb s.ready 1) a refl)
    where
      go : (t b : Bool) (a : Access) → eqb s.ready 1 ≡ b
          → in_time b (read_mark a ++ cond t (received ∷ []) [] ++ ms)
          ≡ none (replaced_in (cond b (fate_of t s.byte a) [])) && in_time (eqb (cond t 1 (ready_after s.ready a)) 1) ms
      go true true reads e = refl
      go true true (writes w) e = refl
      go true true others e = refl
      go true false reads e = refl
      go true false (writes w) e = refl
      go true false others e = refl
      go false true reads e = refl
      go false true (writes w) e = rw e
      go false true others e = rw e
      go false false reads e = refl
      go false false (writes w) e = rw e
      go false false others e = rw e

module _ (T : Timing) (fits : Fits T) where
  fates_pass : (s : Serial) (is : List Given) → Passed T (received_at T) (λ m. bytes_of (fate_at T m)) unread s is
  fates_pass s [] = tt
  fates_pass s (i ∷ is) = (fate_step T fits i.line i.access s, fates_pass (serial_clock T i.line i.access s) is)

  all_fates : (s : Serial) (is : List Given)
      → unread s ++ each (received_at T) (heard T s is) ≡ bytes_of (each (fate_at T) (heard T s is)) ++ unread (heard_end T s is)
  all_fates s is =
      rw (← bytes-each (fate_at T) (heard T s is))
      (passed T (received_at T) (λ m. bytes_of (fate_at T m)) unread s is (fates_pass s is))

  all-handed_over : (s : Serial) (is : List Given) → handed_in (each (fate_at T) (heard T s is)) ≡ each handed_at (heard T s is)
  unfolding each heard
  all-handed_over s [] = unfold handed_in in refl
  all-handed_over s (i ∷ is) =
      handed-append (fate_at T (moment s i.line i.access)) _
      ∙ ap₂ ◌++◌ (handed-step T fits i.line i.access s) (all-handed_over (serial_clock T i.line i.access s) is)

  all-kept : (s : Serial) (is : List Given)
      → in_time (is_set s) (each (marks_at T) (heard T s is)) ≡ none (replaced_in (each (fate_at T) (heard T s is)))
  unfolding each heard
  all-kept s [] = unfold in_time replaced_in none in refl
  all-kept s (i ∷ is) =
      kept_step T fits i.line i.access s _
      ∙ ap (λ b. none (replaced_in (fate_at T (moment s i.line i.access))) && b)
      (all-kept (serial_clock T i.line i.access s) is)
      ∙ sym (none-append (fate_at T (moment s i.line i.access)) _)

  pub fates : (s : Serial) (is : List Given) → Fates T s is
  fates s is = record { all = all_fates s is; handed = all-handed_over s is; kept = all-kept s is }
