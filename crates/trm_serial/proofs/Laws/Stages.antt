-- A line joined to itself: whether a frame is on it, and what is sent, on the line, accepted and received meanwhile.
-- Idea: either no frame is on the line, or the receiver is as many clocks into it as the transmitter, with the low bits of its byte.
--   Idle, Flying    no frame; a frame of which j data bits are sampled        Stage    one of the two
use Prim.Native.Nat.{ℕ, suc, ◌+◌, ◌-◌, ◌*◌, ◌/◌, ◌≤◌, ◌<◌}
use mathlib.Core.Path.{◌≡◌, refl}
use mathlib.Core.Logic.{◌≢◌}
use mathlib.Core.Bool.{Bool, true, false, cond, not, ◌&&◌}
use mathlib.Core.List.{List, [], ◌∷◌}
use lib.ListN.{get_or}
use lib.Dec.{eqb}
use borrow.Author.Tests.{eqb-true, eqb-false, eq-eqb, ne_eqb, lt-ltb, le-ltb}
use native.Mathlib.Omega.{arith}
use native.Mathlib.Nat.{div-eq_of_lt-le, div-eq_of_lt}
use Rattle.trm_serial.specs.Timing.{Timing, Fits, frame, stop_sample}
use Rattle.trm_serial.specs.Serial.{Access, Serial, levels, busy, level, left_after, sent_after, waits, stops}
use Rattle.trm_serial.specs.Moments.{moment, wrote_to, accepted_at, received_at, on_line}
use Rattle.trm_serial.proofs.Laws.Places.{Holds}
use Rattle.trm_serial.proofs.Laws.Clock.{left_busy, sent-busy}

-- j data bits of the frame are sampled
pub record Flying (T : Timing) (s : Serial) (j : ℕ) : Type 0 where
  pub few : j ≤ 8
  pub sum : s.passed + s.left ≡ 10 * T.period
  pub short : s.passed < 9 * T.period + T.sample
  pub below : s.passed < T.period * suc j + T.sample
  pub above : 1 ≤ j → T.period * j + T.sample ≤ s.passed
  pub byte : s.sent < 256
  pub narrow : s.bits < 256
  pub holds : Holds j s.bits s.sent

-- no frame on the line: it is free, or in the rest of a stop bit
pub record Idle (T : Timing) (s : Serial) : Type 0 where
  pub none : s.passed ≡ 0
  pub rest : s.left ≤ T.period - T.sample
  pub narrow : s.bits < 256

pub data Stage (T : Timing) (s : Serial) : Type 0 where
  idle : Idle T s → Stage T s
  flying : (j : ℕ) → Flying T s j → Stage T s

-- what is accepted
nothing : (b : Bool) → ◌≡◌ {A = List ℕ} (cond b [] []) []
nothing true = refl
nothing false = refl

pub accepted-none : (s : Serial) (line : ℕ) (a : Access) → wrote_to a ≡ [] → accepted_at (moment s line a) ≡ []
unfolding accepted_at
accepted-none s line a e = rw e (nothing (busy s))

pub accepted-busy : (s : Serial) (line : ℕ) (a : Access) → s.left ≢ 0 → accepted_at (moment s line a) ≡ []
unfolding accepted_at busy
accepted-busy s line a z = rw (ne_eqb s.left 0 z)

module _ (T : Timing) where
  -- what is on the line: the byte, until its stop bit is sampled
  pub on_line_lem : (s : Serial) → T.period - T.sample < s.left → on_line T s ≡ s.sent ∷ []
  unfolding on_line frame stop_sample
  on_line_lem s l = rw (lt-ltb (10 * T.period - (9 * T.period + T.sample)) s.left (omega arith))

  pub off-line : (s : Serial) → s.left ≤ T.period - T.sample → on_line T s ≡ []
  unfolding on_line frame stop_sample
  off-line s l = rw (le-ltb (10 * T.period - (9 * T.period + T.sample)) s.left (omega arith))

  -- what is received
  pub no_stop : (s : Serial) (line : ℕ) (a : Access) → stops T s.passed ≡ false → received_at T (moment s line a) ≡ []
  unfolding received_at
  no_stop s line a e = rw e

-- no frame on the line: it is high, and the receiver waits
module _ (T : Timing) (fits : Fits T) (s : Serial) (h : Idle T s) where
  idle-level : level T s ≡ 1
  unfolding level busy frame
  idle-level = go (eqb s.left 0) refl
    where
      go : (b : Bool) → eqb s.left 0 ≡ b → cond (not b) (get_or (levels s.sent) ((10 * T.period - s.left) / T.period) 1) 1 ≡ 1
      go true e = refl
      go false e =
          let z = eqb-false s.left 0 e in let r = h.rest in let a = fits.first in let b = fits.last in
          let nine : (10 * T.period - s.left) / T.period ≡ 9 =
          div-eq_of_lt-le T.period (omega arith) (omega arith)
          in rw nine

  pub idle-stops : stops T s.passed ≡ false
  unfolding stops stop_sample
  idle-stops =
      let z = h.none in let a = fits.first in let b = fits.last in
      ne_eqb (s.passed + 1) (9 * T.period + T.sample) (λ y. omega arith)

  pub idle-waits : waits T (level T s) s.passed ≡ true
  unfolding waits
  idle-waits = rw (idle-level, eq-eqb s.passed 0 h.none)

-- a frame on the line: the transmitter is busy with it, and the receiver does not wait
module _ (T : Timing) (fits : Fits T) (s : Serial) (j : ℕ) (h : Flying T s j) where
  pub left-pos : s.left ≢ 0
  left-pos z = absurd (let a = h.sum in let b = h.short in let c = fits.last in omega arith)

  pub flying-left : (a : Access) → left_after T s.left a ≡ s.left - 1
  flying-left a = left_busy T s.left a left-pos

  pub flying-sent : (a : Access) → sent_after s.left s.sent a ≡ s.sent
  flying-sent a = sent-busy s.left s.sent a left-pos

  pub flying-accepts : (line : ℕ) (a : Access) → accepted_at (moment s line a) ≡ []
  flying-accepts line a = accepted-busy s line a left-pos

  pub flying-on_line : on_line T s ≡ s.sent ∷ []
  flying-on_line = let a = h.sum in let b = h.short in let c = fits.last in on_line_lem T s (omega arith)

  pub flying-level : level T s ≡ get_or (levels s.sent) (s.passed / T.period) 1
  unfolding level busy frame
  flying-level =
      let k : 10 * T.period - s.left ≡ s.passed = (let a = h.sum in omega arith) in
      rw (ne_eqb s.left 0 left-pos, k)

  pub flying-waits : waits T (level T s) s.passed ≡ false
  unfolding waits
  flying-waits = go (eqb s.passed 0) refl
    where
      go : (b : Bool) → eqb s.passed 0 ≡ b → b && not (eqb (level T s) 0) ≡ false
      go false e = refl
      go true e =
          let z = eqb-true s.passed 0 e in let a = fits.first in let b = fits.last in
          let none : s.passed / T.period ≡ 0 = div-eq_of_lt (omega arith) in
          rw (flying-level, none)
