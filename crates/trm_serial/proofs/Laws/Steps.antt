-- One clock of a line joined to itself, with no frame on it and with a frame.
-- Idea: a write that is accepted puts a frame on the line; the clock that samples its stop bit receives its byte; any other clock of it
-- samples the next data bit or none.
--   Step T s a    what a clock from s gives        step    it holds in every stage
use Prim.Native.Nat.{ℕ, suc, ◌+◌, ◌-◌, ◌*◌, ◌/◌, ◌%◌, ◌≤◌, ◌<◌}
use mathlib.Core.Path.{◌≡◌, refl, sym, ap, ◌∙◌}
use mathlib.Core.Logic.{◌≢◌}
use mathlib.Core.Bool.{Bool, true, false, cond, ◌&&◌}
use mathlib.Core.List.{[], ◌∷◌, ◌++◌}
use lib.ListN.{get_or}
use lib.Dec.{eqb, ltb}
use borrow.Author.Tests.{eqb-true, eqb-false, eq-eqb, lt-ltb, ltb-true}
use native.Mathlib.Omega.{arith}
use native.Mathlib.Nat.{mul-le-mul_left}
use native.Mathlib.Decide.{ℕ_discrete, dec_le}
use Rattle.trm_serial.specs.Timing.{Timing, Fits, frame, stop_sample}
use Rattle.trm_serial.specs.Serial.{Access, reads, writes, others, Serial, levels, busy, level, left_after, sent_after, accessed, stops}
use Rattle.trm_serial.specs.Serial.{samples, gathered, receives, listens, serial_clock}
use Rattle.trm_serial.specs.Moments.{moment, wrote_to, accepted_at, received_at, on_line}
use Rattle.trm_serial.proofs.Laws.Places.{one_more, complete, level-bit, place_is, sample-is, sampled-at, no_other}
use Rattle.trm_serial.proofs.Laws.Clock.{clock-waits, clock-receives, clock-listens, left_busy}
use Rattle.trm_serial.proofs.Laws.Stages.{Idle, Flying, Stage, idle, flying, on_line_lem, off-line, accepted-none, accepted-busy}
use Rattle.trm_serial.proofs.Laws.Stages.{no_stop, idle-stops, idle-waits, left-pos, flying-left, flying-sent, flying-accepts}
use Rattle.trm_serial.proofs.Laws.Stages.{flying-on_line, flying-level, flying-waits}

module _ (T : Timing) where
  -- one clock, and where it leaves the line
  unfoldable pub Step : Serial → Access → Type 0
  Step s a =
      (on_line T s ++ accepted_at (moment s (level T s) a) ≡ received_at T (moment s (level T s) a) ++ on_line T (serial_clock T
      (level T s) a s))
      × Stage T (serial_clock T (level T s) a s)

-- no frame on the line: the access alone
module _ (T : Timing) (fits : Fits T) (s : Serial) (h : Idle T s) where
  abbrev Begins : Access → Type 0
  Begins a = (accepted_at (moment s (level T s) a) ≡ on_line T (accessed T a s)) × Stage T (accessed T a s)

  -- a write that is accepted: its frame begins in the next clock
  idle-write : (w : ℕ) → s.left ≡ 0 → Begins (writes w)
  unfolding accepted_at busy wrote_to
  idle-write w z =
      let l : left_after T s.left (writes w) ≡ 10 * T.period = unfold left_after frame in rw (eq-eqb s.left 0 z) in
      let b : sent_after s.left s.sent (writes w) ≡ w % 256 = unfold sent_after in rw (eq-eqb s.left 0 z) in
      let n = h.none in let m = h.narrow in let f = fits.first in let g = fits.last in (
        rw (eq-eqb s.left 0 z) (sym (on_line_lem T (accessed T (writes w) s) (omega arith) ∙ ap (λ x. x ∷ []) b)),
        flying 0 (record {
          few = omega arith;
          sum = omega arith;
          short = omega arith;
          below = omega arith;
          above = λ y. absurd (omega arith);
          byte = omega arith;
          narrow = m;
          holds = omega arith;
        }),
      )

  idle-quiet : (a : Access) → accepted_at (moment s (level T s) a) ≡ [] → left_after T s.left a ≡ s.left - 1 → Begins a
  idle-quiet a e l =
      let r = h.rest in
      (e ∙ sym (off-line T (accessed T a s) (omega arith)), idle (record { none = h.none; rest = omega arith; narrow = h.narrow }))

  idle-step : (a : Access) → Step T s a
  unfolding Step
  idle-step a =
      rw (clock-waits T (level T s) a s (idle-waits T fits s h), no_stop T s (level T s) a (idle-stops T fits s h), off-line T s h.rest)
      (go a (ℕ_discrete s.left 0))
    where
      go : (a : Access) → Dec (s.left ≡ 0) → Begins a
      go a (no z) = idle-quiet a (accepted-busy s (level T s) a z) (left_busy T s.left a z)
      go reads (yes z) = unfold wrote_to left_after in idle-quiet reads (accepted-none s (level T s) reads refl) refl
      go (writes w) (yes z) = idle-write w z
      go others (yes z) = unfold wrote_to left_after in idle-quiet others (accepted-none s (level T s) others refl) refl

-- a frame on the line
module _ (T : Timing) (fits : Fits T) (s : Serial) (j : ℕ) (h : Flying T s j) where
  -- its stop bit is sampled: the register is the byte
  flying-stops : (a : Access) → stops T s.passed ≡ true → Step T s a
  unfolding Step
  flying-stops a t =
      rw (
        clock-receives T (level T s) a s (flying-waits T fits s j h) t,
        flying-on_line T fits s j h,
        flying-accepts T fits s j h (level T s) a,
      ) (
        rw (off-line T (receives T (accessed T a s)) (omega (arith, l, rest)), received_is) refl,
        idle (record { none = refl; rest = omega (arith, l, rest); narrow = h.narrow }),
      )
    where
      l : left_after T s.left a ≡ s.left - 1
      l = flying-left T fits s j h a

      ends : s.passed + 1 ≡ 9 * T.period + T.sample
      ends = unfold stops stop_sample in eqb-true (s.passed + 1) (9 * T.period + T.sample) t

      rest : s.left - 1 ≡ T.period - T.sample
      rest = let a = h.sum in omega (arith, ends)

      eight : j ≡ 8
      eight = go (dec_le 8 j)
        where
          go : Dec (8 ≤ j) → j ≡ 8
          go (yes l) = let b = h.few in omega arith
          go (no n) = absurd (let b = h.below in let f = fits.first in let g = fits.last in
              let m = mul-le-mul_left {m = suc j} {n = 8} T.period (omega (arith, n)) in omega (arith, ends))

      byte-is : s.bits ≡ s.sent
      byte-is = complete s.bits s.sent h.byte (rw eight at h.holds)

      received_is : received_at T (moment s (level T s) a) ≡ s.sent ∷ []
      received_is = unfold received_at in rw t (ap (λ x. x ∷ []) byte-is)

  -- it goes on: the next data bit is sampled, or none is
  goes_on : stops T s.passed ≡ false → s.passed + 1 < 9 * T.period + T.sample
  unfolding stops stop_sample
  goes_on t = let z = eqb-false (s.passed + 1) (9 * T.period + T.sample) t in let b = h.short in omega arith

  -- the clock that samples data bit j
  module _ (e : s.passed + 1 ≡ T.period * suc j + T.sample) where
    sampled-few : stops T s.passed ≡ false → j < 8
    sampled-few t = go (dec_le 8 j)
      where
        go : Dec (8 ≤ j) → j < 8
        go (yes l) = absurd (let g = goes_on t in let m = mul-le-mul_left {m = 9} {n = suc j} T.period (omega arith) in omega arith)
        go (no n) = omega (arith, n)

    sampled-place : s.passed / T.period ≡ suc j
    sampled-place = place_is T.period T.sample s.passed (suc j) fits.first fits.last e

    sampled-yes : j < 8 → gathered T (level T s) s.passed s.bits ≡ s.bits / 2 + 128 * get_or (levels s.sent) (suc j) 1
    unfolding gathered samples
    sampled-yes f =
        rw (
          flying-level T fits s j h,
          eq-eqb (s.passed % T.period + 1) T.sample
              (sample-is T.period T.sample s.passed (suc j) fits.first fits.last e),
          sampled-place,
          lt-ltb 0 (suc j) (omega arith),
          lt-ltb (suc j) 9 (omega arith),
        )

  -- any other clock
  sampled-no : s.passed + 1 ≢ T.period * suc j + T.sample → gathered T (level T s) s.passed s.bits ≡ s.bits
  unfolding gathered samples
  sampled-no z = go (eqb (s.passed % T.period + 1) T.sample) (ltb 0 (s.passed / T.period)) refl refl
    where
      go : (a b : Bool) → eqb (s.passed % T.period + 1) T.sample ≡ a → ltb 0 (s.passed / T.period) ≡ b
          → cond (a && (b && ltb (s.passed / T.period) 9)) (s.bits / 2 + 128 * level T s) s.bits ≡ s.bits
      go false b p q = refl
      go true false p q = refl
      go true true p q =
          let k = sampled-at T.period T.sample s.passed (eqb-true (s.passed % T.period + 1) T.sample p) in
          let one = ltb-true 0 (s.passed / T.period) q in
          let f = fits.first in let g = fits.last in
          let i = no_other T.period T.sample s.passed j (s.passed / T.period) (omega arith) k h.below h.above one in
          absurd (z (k ∙ ap (λ x. T.period * x + T.sample) i))

  flying-listens : (a : Access) → stops T s.passed ≡ false → Stage T (listens T (level T s) (accessed T a s))
  flying-listens a t = go (ℕ_discrete (s.passed + 1) (T.period * suc j + T.sample))
    where
      l : left_after T s.left a ≡ s.left - 1
      l = flying-left T fits s j h a

      b-is : sent_after s.left s.sent a ≡ s.sent
      b-is = flying-sent T fits s j h a

      sums : s.passed + 1 + left_after T s.left a ≡ 10 * T.period
      sums = let a = h.sum in let z = left-pos T fits s j h in omega (arith, l)

      narrow : sent_after s.left s.sent a < 256
      narrow = let a = h.byte in omega (arith, b-is)

      go : Dec (s.passed + 1 ≡ T.period * suc j + T.sample) → Stage T (listens T (level T s) (accessed T a s))
      go (yes e) =
          let f = sampled-few e t in let g = sampled-yes e f in let p = fits.first in let q = fits.last in
          let bit = level-bit s.sent (suc j) in let n = h.narrow in
          flying (suc j) (record {
            few = f;
            sum = sums;
            short = goes_on t;
            below = omega arith;
            above = λ _. omega arith;
            byte = narrow;
            narrow = omega arith;
            holds = rw (g, b-is) (one_more j s.bits s.sent f n h.holds);
          })
      go (no z) =
          let g = sampled-no z in let n = h.narrow in let b = h.below in
          flying j (record {
            few = h.few;
            sum = sums;
            short = goes_on t;
            below = omega arith;
            above = λ y. (let c = h.above y in omega arith);
            byte = narrow;
            narrow = omega arith;
            holds = rw (g, b-is) h.holds;
          })

  flying-step : (a : Access) → Step T s a
  unfolding Step
  flying-step a = go (stops T s.passed) refl
    where
      go : (t : Bool) → stops T s.passed ≡ t → Step T s a
      go true t = flying-stops a t
      go false t =
          rw (
            clock-listens T (level T s) a s (flying-waits T fits s j h) t,
            flying-on_line T fits s j h,
            flying-accepts T fits s j h (level T s) a,
            no_stop T s (level T s) a t,
          ) (
            sym (on_line_lem T (listens T (level T s) (accessed T a s)) still ∙ ap (λ x. x ∷ []) (flying-sent T fits s j h a)),
            flying-listens a t,
          )
        where
          still : T.period - T.sample < left_after T s.left a
          still =
              let l = flying-left T fits s j h a in let g = goes_on t in let e = h.sum in let q = fits.last in
              omega arith

pub step : (T : Timing) → Fits T → (s : Serial) → Stage T s → (a : Access) → Step T s a
step T fits s (idle h) a = idle-step T fits s h a
step T fits s (flying j h) a = flying-step T fits s j h a
