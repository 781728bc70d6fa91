-- How far a turn goes, and which clocks have no answer.
-- Idea: only the last clock of an LD or ST at a device has an answer; so a clock of any other word writes 0, which is there already.
--   did-since, did-quiet, did_none, did-all, did-answered, did-on   by what a turn did
--   did-worked   a turn of one clock of the word w        stops_so, stops-not   the results of the tests for a stop
--   mute-worked   a word that is at no device has no answer        flight_inside, late-inside, other-inside   which words are at none
use Prim.Native.Nat.{ℕ, ◌+◌, ◌≤◌, ◌<◌}
use mathlib.Core.Path.{◌≡◌, refl, sym, ap, ◌∙◌}
use mathlib.Core.Logic.{◌≢◌}
use mathlib.Core.Bool.{Bool, true, false, cond, not, ◌&&◌, ◌||◌}
use mathlib.Core.List.{List}
use lib.ListN.{length, get_or, set}
use lib.Dec.{eqb}
use borrow.Author.Tests.{eq-eqb, ne_eqb, eqb-true}
use native.Mathlib.Omega.{arith}
use Rattle.trm_laws.proofs.Tests.{bool_clash, both, clash}
use Rattle.trm_word.specs.Fields.{operation}
use Rattle.trm_reference.specs.Geometry.{paper_geometry}
use Rattle.trm_reference.specs.Visible.{Visible}
use Rattle.trm_reference.specs.Access.{is_load, is_store, is_access, is_memory, to_device, to_memory, place_of_word, Answer, answer_of}
use Rattle.trm_reference.specs.Trace.{After}
use Rattle.trm_cache.specs.declared.record.Cache.{Cache}
use Rattle.trm_core.specs.declared.record.Scalars.{Scalars}
use Rattle.trm_core.specs.Record.{Lent, gathered, whole}
use Rattle.trm_core.specs.Clock.{is_last, finish, advance, quiet, worked}
use Rattle.trm_core.proofs.Laws.Kind.{longer, cached, uncached, clearing, kind_of, is-of}
use Rattle.trm_core.proofs.Laws.Rule.{Phase, ready, arithmetic, write_back, clearing_off, refill, waiting, due}
use Rattle.trm_clock_laws.specs.declared.inner.outcome.Clocked.{Clocked}
use Rattle.trm_clock_laws.specs.Made.{made, Late}
use Rattle.trm_clock_laws.proofs.Laws.Facts.{Facts}
use Rattle.trm_run_phases.specs.declared.inner.going.Going.{Going}
use Rattle.trm_run_phases.specs.Reached.{point, At, Did}
use Rattle.trm_run_phases.proofs.Laws.Reached.{zero-sets, byte-free}

-- some clocks; the buffer is not written, or only where the run does not stop
pub did-since : (stops : Bool) (i j : ℕ) (bs bs' : List ℕ) → i < j → (stops ≡ true → bs' ≡ bs) → Did stops i j bs bs'
did-since stops i j bs bs' l m = record { onward = omega (arith, l); some = λ _. l; mute = m }

pub did-quiet : (stops : Bool) (i j : ℕ) (bs : List ℕ) → i < j → Did stops i j bs bs
did-quiet stops i j bs l = did-since stops i j bs bs l (λ _. refl)

-- the next clock accesses a device
pub did_none : (stops : Bool) (i : ℕ) (bs : List ℕ) → stops ≡ true → Did stops i i bs bs
did_none stops i bs t = record { onward = omega arith; some = λ f. bool_clash stops t f; mute = λ _. refl }

-- clocks that may have an answer, where the run does not stop
pub did-all : (stops : Bool) (i j : ℕ) (bs bs' : List ℕ) → stops ≡ false → i < j → Did stops i j bs bs'
did-all stops i j bs bs' f l = did-since stops i j bs bs' l (λ t. bool_clash stops t f)

-- some clocks of which the last may have an answer
pub did-answered : (stops : Bool) (i j b k : ℕ) (bs bs' : List ℕ) → i < j → get_or bs k 0 ≡ 0 → bs' ≡ set bs k b → (stops ≡ true → b ≡ 0)
    → Did stops i j bs bs'
did-answered stops i j b k bs bs' l z e f = did-since stops i j bs bs' l (λ t. e ∙ sym (zero-sets bs k b (f t) z))

-- a turn after clocks, perhaps none, without an answer
pub did-on : (stops : Bool) (i j k : ℕ) (bs bs' bs'' : List ℕ) → i ≤ j → (stops ≡ true → bs' ≡ bs) → Did stops j k bs' bs''
    → Did stops i k bs bs''
did-on stops i j k bs bs' bs'' l m d = record {
  onward = omega (arith, l, d.onward);
  some = λ f. omega (arith, l, d.some f);
  mute = λ t. d.mute t ∙ m t;
}

-- a word that is at no device
pub mute-worked : (w n : ℕ) (c : Scalars) (rs : List ℕ) (ca : Cache) (s : List ℕ) (i : ℕ) → to_device w (gathered c rs) n ≡ false
    → (worked paper_geometry w n (whole c rs ca) s i).out.byte ≡ 0
unfolding worked finish
mute-worked w n c rs ca s i e = go (is_last paper_geometry w n c.running (gathered c rs) ca)
  where
    answer : (answer_of w (gathered c rs) n i).byte ≡ 0
    answer = unfold answer_of in (rw e)

    go : (last : Bool) → (cond last (finish paper_geometry w n (whole c rs ca) s i)
        (quiet rs (advance paper_geometry w n c (gathered c rs) ca s))).out.byte ≡ 0
    go true = answer
    go false = refl

-- which words are at no device: one in flight, in phases 1 to 4
pub flight_inside : (w n : ℕ) (c : Scalars) (rs : List ℕ) (ca : Cache) → Facts w n c rs ca → c.running.phase ≢ 0 → c.running.phase ≢ 5
    → to_device w (gathered c rs) n ≡ false
flight_inside w n c rs ca f z five = go f.phase
  where
    v : Visible
    v = gathered c rs

    go : Phase paper_geometry w n (kind_of w v n) c.running v ca → to_device w v n ≡ false
    go (ready ph ct) = absurd (z ph)
    go (arithmetic kq ph one top) = (is-of w v n longer kq).device
    go (write_back kq ph hc hold d) = (is-of w v n cached kq).device
    go (clearing_off kq ph hc some) = (is-of w v n clearing kq).device
    go (refill kq ph hc empty) = (is-of w v n cached kq).device
    go (waiting kq ph one top) = (is-of w v n uncached kq).device
    go (due ph ct dk) = absurd (five ph)

-- one that is neither LD nor ST
pub other-inside : (w n : ℕ) (v : Visible) → operation w ≢ 12 → operation w ≢ 13 → to_device w v n ≡ false
unfolding to_device is_access is_load is_store
other-inside w n v a b = rw (ne_eqb (operation w) 12 a, ne_eqb (operation w) 13 b)

-- one in phase 5 that is no LD
pub late-inside : (w n : ℕ) (c : Scalars) (rs : List ℕ) → Late w n c rs → is_load w ≡ false → to_device w (gathered c rs) n ≡ false
unfolding to_device is_access
late-inside w n c rs l none = go (is_load w) (is_store w) (is_memory (place_of_word w (gathered c rs) n)) none store
  where
    store : is_store w ≡ true → is_memory (place_of_word w (gathered c rs) n) ≡ true
    store = unfold is_store to_memory in (λ e. both (is_access w) (is_memory (place_of_word w (gathered c rs) n)) (λ _ m. m)
        (l.memory (eqb-true (operation w) 13 e)))

    go : (ld st m : Bool) → ld ≡ false → (st ≡ true → m ≡ true) → (ld || st) && not m ≡ false
    go true st m e f = bool_clash true refl e
    go false true true e f = refl
    go false true false e f = clash (f refl)
    go false false m e f = refl

-- an ST that is not at a device
pub store-inside : (w n : ℕ) (v : Visible) → operation w ≡ 13 → is_memory (place_of_word w v n) ≡ true → to_device w v n ≡ false
unfolding to_device
store-inside w n v o m = rw m (go (is_access w))
  where
    go : (t : Bool) → t && false ≡ false
    go true = refl
    go false = refl

-- the result of a test in a run that stops
pub stops_so : (stops t r : Bool) → r ≡ (stops && t) → r ≡ true → stops ≡ true
stops_so stops t r e q = both stops t (λ a _. a) (sym e ∙ q)

pub stops-not : (stops t r : Bool) → r ≡ (stops && t) → r ≡ false → stops ≡ true → t ≡ false
stops-not stops t r e q a = sym (ap (λ x. x && t) a) ∙ sym e ∙ q

pub not_so : (t : Bool) → not t ≡ false → t ≡ true
not_so true e = refl
not_so false e = clash (sym e)

-- one clock of the word w at PC
pub did-worked : (p ls is : List ℕ) (stops : Bool) (w : ℕ) (g : Going) (rs : List ℕ) (ca : Cache) (s bs ws : List ℕ)
    → At p ls is (point g rs ca s) bs ws → g.at < length ls → (r : Clocked) (rs' : List ℕ) (ca' : Cache) (s' : List ℕ) (i : ℕ)
    → made r rs' ca' s' ≡ worked paper_geometry w (length s) (whole g.scalars rs ca) s i
    → (j : Going) → j ≡ record { scalars = r.scalars; at = g.at + 1; finished = g.finished + r.finished }
    → (bs' : List ℕ) → bs' ≡ set bs g.at r.byte → (stops ≡ true → to_device w (gathered g.scalars rs) (length s) ≡ false)
    → Did stops g.at j.at bs bs'
did-worked p ls is stops w g rs ca s bs ws a more r rs' ca' s' i v j e bs' q inside =
    did-answered stops g.at j.at r.byte g.at bs bs' (rw e (omega arith))
    (byte-free p ls is a.from (point g rs ca s) bs ws a.so more) q
    (λ t. ap (λ (x : After Lent Answer). x.out.byte) v ∙ mute-worked w (length s) g.scalars rs ca s i (inside t))

-- a turn that did not end where it began did some clocks
pub did-going : (stops : Bool) (i j : ℕ) (bs bs' : List ℕ) → Did stops i j bs bs' → (r : Bool) → r ≡ (stops && eqb i j) → r ≡ false → i < j
did-going true i j bs bs' d r e q = omega (arith, d.onward, other)
  where
    other : i ≢ j
    other z = bool_clash (eqb i j) (eq-eqb i j z) (stops-not true (eqb i j) r e q refl)
did-going false i j bs bs' d r e q = d.some refl
