-- Busy in the clocks of a frame and in no others, and the level in each, on any line.
-- Idea: a busy transmitter counts down by one in every clock and keeps its byte, whatever is done; only an accepted write starts it.
use Prim.Native.Nat.{ℕ, ◌+◌, ◌-◌, ◌/◌, ◌%◌, ◌≤◌, ◌<◌}
use mathlib.Core.Path.{◌≡◌, refl, sym, ap, ◌∙◌}
use mathlib.Core.Logic.{◌≢◌}
use mathlib.Core.Bool.{Bool, true, false, cond, not, false≢true}
use mathlib.Core.List.{List, [], ◌∷◌, ◌++◌}
use lib.ListN.{get_or, length}
use lib.Dec.{eqb}
use borrow.Author.Tests.{eqb-true, eq-eqb, ne_eqb}
use native.Mathlib.Omega.{arith}
use native.Mathlib.Decide.{ℕ_discrete}
use Rattle.trm_serial.specs.Timing.{Timing, frame}
use Rattle.trm_serial.specs.Serial.{Access, reads, writes, others, Serial, serial_reset, levels, busy, level, left_after, sent_after}
use Rattle.trm_serial.specs.Serial.{serial_clock}
use Rattle.trm_serial.specs.Moments.{Given, moment, heard_end, wrote_to, accepted_at}
use Rattle.trm_serial.specs.Claims.{Sending, Busy}
use Rattle.trm_serial.proofs.Laws.Clock.{left_after_lem, sent-after, left_busy, sent-busy}

module _ (T : Timing) where
  end-append : (s : Serial) (is js : List Given) → heard_end T s (is ++ js) ≡ heard_end T (heard_end T s is) js
  unfolding heard_end
  end-append s [] js = refl
  end-append s (i ∷ is) js = end-append (serial_clock T i.line i.access s) is js

  record Down (s e : Serial) (n : ℕ) : Type 0 where
    left : e.left + n ≡ s.left
    sent : e.sent ≡ s.sent

  down : (s : Serial) (js : List Given) → length js ≤ s.left → Down s (heard_end T s js) (length js)
  unfolding heard_end
  down s [] l = record { left = omega arith; sent = refl }
  down s (j ∷ js) l =
      let z : s.left ≢ 0 = (λ y. absurd (omega arith)) in
      let a = left_after_lem T j.line j.access s in let b = left_busy T s.left j.access z in
      let c = sent-after T j.line j.access s in let d = sent-busy s.left s.sent j.access z in
      let h = down (serial_clock T j.line j.access s) js (omega arith) in
      let e = h.left in record { left = omega arith; sent = h.sent ∙ c ∙ d }

  -- an accepted write: the transmitter was free, and its frame begins
  record Starts (s : Serial) (a : Access) (b : ℕ) : Type 0 where
    free : s.left ≡ 0
    left : left_after T s.left a ≡ frame T
    sent : sent_after s.left s.sent a ≡ b

  starts : (s : Serial) (line : ℕ) (a : Access) (b : ℕ) → accepted_at (moment s line a) ≡ b ∷ [] → Starts s a b
  unfolding accepted_at busy wrote_to left_after sent_after
  starts s line a b e = go (eqb s.left 0) refl a e
    where
      go : (t : Bool) → eqb s.left 0 ≡ t → (a : Access) → cond (not t) [] (wrote_to a) ≡ b ∷ [] → Starts s a b
      go false t a e = absurd (let z : ◌≡◌ {A = ℕ} 0 1 = cc in omega arith)
      go true t reads e = absurd (let z : ◌≡◌ {A = ℕ} 0 1 = cc in omega arith)
      go true t others e = absurd (let z : ◌≡◌ {A = ℕ} 0 1 = cc in omega arith)
      go true t (writes w) e = record { free = eqb-true s.left 0 t; left = rw t; sent = rw t cc }

  record Sent (e : Serial) (n b : ℕ) : Type 0 where
    left : e.left + n ≡ frame T
    sent : e.sent ≡ b

  sending : (s : Serial) (is : List Given) (b : ℕ) (h : Sending T s is b) → Sent (heard_end T s is) (length h.rest) b
  unfolding heard_end
  sending s is b h = rw end_is (record { left = (let y = d.left in omega (arith, l-is)); sent = d.sent ∙ b-is })
    where
      x : Serial
      x = heard_end T s h.before

      x' : Serial
      x' = serial_clock T h.write.line h.write.access x

      end_is : heard_end T s is ≡ heard_end T x' h.rest
      end_is = ap (heard_end T s) h.split ∙ end-append s h.before (h.write ∷ h.rest)

      st : Starts x h.write.access b
      st = starts x h.write.line h.write.access b h.accepted

      l-is : x'.left ≡ frame T
      l-is = left_after_lem T h.write.line h.write.access x ∙ st.left

      b-is : x'.sent ≡ b
      b-is = sent-after T h.write.line h.write.access x ∙ st.sent

      d : Down x' (heard_end T x' h.rest) (length h.rest)
      d = down x' h.rest (let r = h.recent in omega (arith, l-is))

  -- busy: a frame from before these clocks, or a write among them
  data Cause (s : Serial) (is : List Given) : Type 0 where
    earlier : length is < s.left → (heard_end T s is).sent ≡ s.sent → Cause s is
    among : Sending T s is (heard_end T s is).sent → Cause s is

  left-reads : (n : ℕ) → left_after T n reads ≡ n - 1
  unfolding left_after
  left-reads n = refl

  left-others : (n : ℕ) → left_after T n others ≡ n - 1
  unfolding left_after
  left-others n = refl

  left-writes : (n w : ℕ) → n ≡ 0 → left_after T n (writes w) ≡ frame T
  unfolding left_after
  left-writes n w z = rw (eq-eqb n 0 z)

  sent-writes : (n b w : ℕ) → n ≡ 0 → sent_after n b (writes w) ≡ w % 256
  unfolding sent_after
  sent-writes n b w z = rw (eq-eqb n 0 z)

  accepts : (s : Serial) (line : ℕ) (a : Access) (w : ℕ) → a ≡ writes w → s.left ≡ 0 → accepted_at (moment s line a) ≡ w % 256 ∷ []
  unfolding accepted_at busy wrote_to
  accepts s line a w e z = rw (e, eq-eqb s.left 0 z)

  later : (s : Serial) (i : Given) (is : List Given) → Cause (serial_clock T i.line i.access s) is → Cause s (i ∷ is)
  unfolding heard_end
  later s i is (among h) =
      among (record {
        before = i ∷ h.before;
        write = h.write;
        rest = h.rest;
        split = ap (λ l. i ∷ l) h.split;
        accepted = h.accepted;
        recent = h.recent;
      })
  later s i is (earlier l b) = go (ℕ_discrete s.left 0)
    where
      a : (serial_clock T i.line i.access s).left ≡ left_after T s.left i.access
      a = left_after_lem T i.line i.access s

      c : (serial_clock T i.line i.access s).sent ≡ sent_after s.left s.sent i.access
      c = sent-after T i.line i.access s

      free : (x : Access) → i.access ≡ x → s.left ≡ 0 → Cause s (i ∷ is)
      free reads e z =
          absurd (let k = ap (left_after T s.left) e ∙ left-reads s.left in omega (arith, a))
      free others e z =
          absurd (let k = ap (left_after T s.left) e ∙ left-others s.left in omega (arith, a))
      free (writes w) e z =
          let k = ap (left_after T s.left) e ∙ left-writes s.left w z in
          among (record {
            before = [];
            write = i;
            rest = is;
            split = refl;
            accepted = accepts s i.line i.access w e z
                ∙ ap (λ x. x ∷ []) (sym (b ∙ c ∙ ap (sent_after s.left s.sent) e ∙ sent-writes s.left s.sent w z));
            recent = omega (arith, a);
          })

      go : Dec (s.left ≡ 0) → Cause s (i ∷ is)
      go (no z) =
          let d = left_busy T s.left i.access z in let e = sent-busy s.left s.sent i.access z in
          earlier (omega (arith, a)) (b ∙ c ∙ e)
      go (yes z) = free i.access refl z

  caused : (s : Serial) (is : List Given) → (heard_end T s is).left ≢ 0 → Cause s is
  unfolding heard_end
  caused s [] z = earlier (omega arith) refl
  caused s (i ∷ is) z = later s i is (caused (serial_clock T i.line i.access s) is z)

  busy-is : (e : Serial) → e.left ≢ 0 → busy e ≡ true
  unfolding busy
  busy-is e z = rw (ne_eqb e.left 0 z)

  free-is : (e : Serial) → e.left ≡ 0 → busy e ≡ false
  unfolding busy
  free-is e z = rw (eq-eqb e.left 0 z)

  level-is : (e : Serial) (n b : ℕ) → Sent e n b → n < frame T → level T e ≡ get_or (levels b) (n / T.period) 1
  unfolding level
  level-is e n b h l =
      let s = h.left in let k : frame T - e.left ≡ n = omega arith in
      rw (busy-is e (λ z. absurd (omega arith)), k) (ap (λ x. get_or (levels x) (n / T.period) 1) h.sent)

  pub busy_holds : (is : List Given) → Busy T is
  busy_holds is = record { during = during; only = only; bits = bits; high = high }
    where
      e : Serial
      e = heard_end T serial_reset is

      pos : (byte : ℕ) → Sending T serial_reset is byte → e.left ≢ 0
      pos byte h z = absurd (let s = (sending serial_reset is byte h).left in let r = h.recent in omega arith)

      during : (byte : ℕ) → Sending T serial_reset is byte → busy e ≡ true
      during byte h = busy-is e (pos byte h)

      only : busy e ≡ true → Sending T serial_reset is e.sent
      only b = go (caused serial_reset is (λ z. absurd (false≢true (sym (free-is e z) ∙ b))))
        where
          go : Cause serial_reset is → Sending T serial_reset is e.sent
          go (earlier l q) = absurd (omega arith)
          go (among h) = h

      bits : (byte : ℕ) (h : Sending T serial_reset is byte)
          → level T e ≡ get_or (levels byte) (length h.rest / T.period) 1
      bits byte h = level-is e (length h.rest) byte (sending serial_reset is byte h) h.recent

      high : busy e ≡ false → level T e ≡ 1
      high b = unfold level in rw b
