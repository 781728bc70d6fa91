-- The serial part of a board follows the serial line of its core's accesses, and what its turns show is what happens on that line.
-- Idea: clock by clock, the answer byte gives the access, and the word of a read is the byte that the board replied.
--   givens T ts    the line and the access of each turn        serial_end    each_turn    given-joined
--   accepted-turn, handed-turn, received-turn, marks-turn, fates_turn    what a turn shows is what happens in its moment
use Prim.Native.Nat.{ℕ, ◌+◌, ◌*◌, ◌/◌, ◌%◌, ◌≤◌}
use mathlib.Core.Path.{◌≡◌, refl, sym, ap, ap₂, subst, ◌∙◌}
use mathlib.Core.Bool.{Bool, true, false, cond, not, ◌&&◌}
use mathlib.Core.List.{List, [], ◌∷◌, ◌++◌}
use lib.Dec.{eqb}
use borrow.Author.Tests.{eqb-true, eq-eqb, ne_eqb}
use native.Mathlib.Omega.{arith}
use Rattle.trm_laws.proofs.Tests.{both}
use Rattle.trm_serial.specs.Timing.{Timing, Fits}
use Rattle.trm_serial.specs.declared.record.Serial.{Serial}
use Rattle.trm_serial.specs.Serial.{Access, reads, writes, others, busy, level, stops, ready_after, serial_clock}
use Rattle.trm_serial.specs.Moments.{Given, Moment, moment, fed, heard, heard_end, each, wrote_to, accepted_at, read_of, is_set, handed_at}
use Rattle.trm_serial.specs.Moments.{received_at, read, received, read_mark, marks_at, handed, replaced, fate_of, fate_at}
use Rattle.trm_serial.proofs.Laws.Clock.{ready-after}
use Rattle.trm_board.specs.Board.{Devices, status, reply, access_of, line_in}
use Rattle.trm_board.specs.Turns.{Turn, byte_of, word_of, accepted_in, handed_in, received_in, marks_in, fates_in, all_joined, inputs_in}
use Rattle.trm_board.specs.Course.{Shows, devices_after, Follows}

-- the access of a turn to the serial data
abbrev pub access_in : Turn → Access
access_in t = access_of (byte_of t) (word_of t)

pub accesses : List Turn → List Access
accesses [] = []
accesses (t ∷ ts) = access_in t ∷ accesses ts

module _ (T : Timing) where
  abbrev pub given_in : Turn → Given
  given_in t = record { line = line_in T t.before.serial t.input; access = access_in t }

  unfoldable pub givens : List Turn → List Given
  givens [] = []
  givens (t ∷ ts) = given_in t ∷ givens ts

  -- what happens in a turn, on the line
  abbrev pub moment_in : Turn → Moment
  moment_in t = moment t.before.serial (line_in T t.before.serial t.input) (access_in t)

  pub serial_end : (n : ℕ) (d : Devices) (ts : List Turn) (e : Devices) → Follows T n d ts e → e.serial ≡ heard_end T d.serial
      (givens ts)
  unfolding Follows heard_end givens
  serial_end n d [] e h = ap (λ x. x.serial) (sym h)
  serial_end n d (t ∷ ts) e h =
      serial_end (n + 1) (devices_after T n t) ts e h.2
      ∙ ap (λ (x : Devices). heard_end T (serial_clock T (line_in T t.before.serial t.input) (access_in t) x.serial)
      (givens ts)) h.0

  -- joined to itself, the line of each clock is the level sent in it
  pub given-joined : (n : ℕ) (d : Devices) (ts : List Turn) (e : Devices) → Follows T n d ts e → all_joined (inputs_in ts) ≡ true
      → givens ts ≡ fed T d.serial (accesses ts)
  unfolding Follows givens fed accesses all_joined inputs_in line_in
  given-joined n d [] e h j = refl
  given-joined n d (t ∷ ts) e h j = both t.input.joined (all_joined (inputs_in ts)) (λ a b. go a
      (given-joined (n + 1) (devices_after T n t) ts e h.2 b)) j
    where
      go : t.input.joined ≡ true → givens ts ≡ fed T (devices_after T n t).serial (accesses ts)
          → givens (t ∷ ts) ≡ fed T d.serial (accesses (t ∷ ts))
      go a rest = subst (λ (x : Devices). givens (t ∷ ts) ≡ fed T x.serial (accesses (t ∷ ts))) h.0
          (ap₂ (λ (l : ℕ) (gs : List Given). record { line = l; access = access_in t } ∷ gs) (line-is a)
          (rest ∙ ap (λ l. fed T (serial_clock T l (access_in t) t.before.serial) (accesses ts)) (line-is a)))
        where
          line-is : t.input.joined ≡ true → line_in T t.before.serial t.input ≡ level T t.before.serial
          line-is a = rw a

module _ (T : Timing) (fits : Fits T) where
  -- the bit stays 0 or 1
  ready-next : (n : ℕ) (t : Turn) → t.before.serial.ready ≤ 1 → (devices_after T n t).serial.ready ≤ 1
  ready-next n t h =
      rw (ready-after T fits (line_in T t.before.serial t.input) (access_in t) t.before.serial)
      (go (stops T t.before.serial.passed) (access_in t))
    where
      go : (b : Bool) (a : Access) → cond b 1 (ready_after t.before.serial.ready a) ≤ 1
      go true a = omega arith
      go false reads = unfold ready_after in (omega arith)
      go false (writes w) = unfold ready_after in h
      go false others = unfold ready_after in h

  pub ready-end : (n : ℕ) (d : Devices) (ts : List Turn) (e : Devices) → Follows T n d ts e → d.serial.ready ≤ 1 → e.serial.ready ≤ 1
  unfolding Follows
  ready-end n d [] e h l = subst (λ (x : Devices). x.serial.ready ≤ 1) h l
  ready-end n d (t ∷ ts) e h l = ready-end (n + 1) (devices_after T n t) ts e h.2
      (ready-next n t (subst (λ (x : Devices). x.serial.ready ≤ 1) (sym h.0) l))

  -- what a turn shows is what happens in its moment: then it is so of a whole run
  module _ {A : Type 0} (f : Turn → List A) (g : Moment → List A)
      (step : (n : ℕ) (t : Turn) → Shows T n t → t.before.serial.ready ≤ 1 → f t ≡ g (moment_in T t)) where
    pub each_turn : (n : ℕ) (d : Devices) (ts : List Turn) (e : Devices) → Follows T n d ts e → d.serial.ready ≤ 1
        → each f ts ≡ each g (heard T d.serial (givens T ts))
    unfolding Follows each heard givens
    each_turn n d [] e h l = refl
    each_turn n d (t ∷ ts) e h l = subst (λ (x : Devices). each f (t ∷ ts) ≡ each g (heard T x.serial (givens T (t ∷ ts)))) h.0
        (ap₂ ◌++◌ (step n t h.1 small) (each_turn (n + 1) (devices_after T n t) ts e h.2 (ready-next n t small)))
      where
        small : t.before.serial.ready ≤ 1
        small = subst (λ (x : Devices). x.serial.ready ≤ 1) (sym h.0) l

-- the status in bits
status-free : (s : Serial) → s.ready ≤ 1 → eqb (status s / 2 % 2) 1 ≡ not (busy s)
unfolding status
status-free s h = go (busy s)
  where
    go : (t : Bool) → eqb ((s.ready + 2 * cond t 0 1) / 2 % 2) 1 ≡ not t
    go true = ne_eqb ((s.ready + 2 * 0) / 2 % 2) 1 (λ e. omega arith)
    go false = eq-eqb ((s.ready + 2 * 1) / 2 % 2) 1 (omega arith)

status-set : (s : Serial) → s.ready ≤ 1 → status s % 2 ≡ s.ready
unfolding status
status-set s h = go (busy s)
  where
    go : (t : Bool) → (s.ready + 2 * cond t 0 1) % 2 ≡ s.ready
    go true = omega arith
    go false = omega arith

module _ (T : Timing) (n : ℕ) (t : Turn) (shows : Shows T n t) (small : t.before.serial.ready ≤ 1) where
  pub accepted-turn : accepted_in t ≡ accepted_at (moment_in T t)
  unfolding accepted_in accepted_at access_of wrote_to
  accepted-turn = rw (status-free t.before.serial small)
      (go (word_of t) (busy t.before.serial) (eqb (byte_of t) 17) (eqb (byte_of t) 18) clash)
    where
      clash : eqb (byte_of t) 17 ≡ true → eqb (byte_of t) 18 ≡ true → ⊥
      clash p q = let x = eqb-true (byte_of t) 17 p in let y = eqb-true (byte_of t) 18 q in omega arith

      go : (word : ℕ) (b u v : Bool) → (u ≡ true → v ≡ true → ⊥)
          → cond (v && not b) (word % 256 ∷ []) [] ≡ cond b [] (wrote_to (cond u reads (cond v (writes word) others)))
      go word b true true f = absurd (f refl refl)
      go word true true false f = refl
      go word false true false f = refl
      go word true false true f = refl
      go word false false true f = refl
      go word true false false f = refl
      go word false false false f = refl

  -- the word of a read of device 4 is the byte that stood when the clock began
  word_read : byte_of t ≡ 17 → word_of t ≡ t.before.serial.byte
  unfolding reply
  word_read e = shows.replies 4 e

  pub handed-turn : handed_in t ≡ handed_at (moment_in T t)
  unfolding handed_in handed_at access_of is_set read_of
  handed-turn = rw (status-set t.before.serial small)
      (go (byte_of t) (word_of t) (eqb t.before.serial.ready 1) (eqb (byte_of t) 17) refl word_read)
    where
      go : (byte word : ℕ) (b u : Bool) → eqb byte 17 ≡ u → (byte ≡ 17 → word ≡ t.before.serial.byte)
          → cond (eqb byte 17 && b) (word ∷ []) []
          ≡ cond b (read_of t.before.serial.byte (cond (eqb byte 17) reads (cond (eqb byte 18) (writes word) others))) []
      go byte word true true p f = rw p (ap (λ x. x ∷ []) (f (eqb-true byte 17 p)))
      go byte word false true p f = rw p
      go byte word false false p f = rw p
      go byte word true false p f = rw p (sym (other (eqb byte 18)))
        where
          other : (v : Bool) → read_of t.before.serial.byte (cond v (writes word) others) ≡ []
          other true = refl
          other false = refl

  pub received-turn : received_in T t ≡ received_at T (moment_in T t)
  unfolding received_in received_at
  received-turn = refl

  pub marks-turn : marks_in T t ≡ marks_at T (moment_in T t)
  unfolding marks_in marks_at access_of read_mark
  marks-turn = ap (λ l. l ++ cond (stops T t.before.serial.passed) (received ∷ []) [])
      (go (word_of t) (eqb (byte_of t) 17) (eqb (byte_of t) 18))
    where
      go : (word : ℕ) (u v : Bool) → cond u (read ∷ []) [] ≡ read_mark (cond u reads (cond v (writes word) others))
      go word true v = refl
      go word false true = refl
      go word false false = refl

  pub fates_turn : fates_in T t ≡ fate_at T (moment_in T t)
  unfolding fates_in fate_at access_of is_set fate_of
  fates_turn = rw (status-set t.before.serial small)
      (go (word_of t) (eqb t.before.serial.ready 1) (stops T t.before.serial.passed)
      (eqb (byte_of t) 17) (eqb (byte_of t) 18) (λ p. word_read (eqb-true (byte_of t) 17 p)))
    where
      go : (word : ℕ) (b m u v : Bool) → (u ≡ true → word ≡ t.before.serial.byte)
          → cond b (cond u (handed word ∷ []) (cond m (replaced t.before.serial.byte ∷ []) [])) []
          ≡ cond b (fate_of m t.before.serial.byte (cond u reads (cond v (writes word) others))) []
      go word false m u v f = refl
      go word true m true v f = ap (λ x. handed x ∷ []) (f refl)
      go word true m false true f = refl
      go word true m false false f = refl
