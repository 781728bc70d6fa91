-- A run advances by one clock: its state and `clock_of` from there give the next state.
-- Idea: the history of i + 1 clocks is that of i clocks and one clock from its last state (trm_reference's laws of the trace).
--   reached-none   the first state of a run        step, step-quiet   one more clock        reached-end   the last state
use Prim.Native.Nat.{ℕ, zero, suc, ◌+◌, ◌≤◌, ◌<◌}
use mathlib.Core.Path.{◌≡◌, refl, sym, ap, ◌∙◌, subst}
use mathlib.Core.Bool.{true, ◌&&◌}
use mathlib.Core.List.{List, [], ◌∷◌, ◌++◌, append_assoc, append-nil}
use lib.ListN.{length, get_or, set, take, drop, replicate, length-set, length-replicate, get_or-replicate, drop_of_length-le}
use lib.Seq.{drop-cons, take_all, length-take-le, set-get_or, get_or-append_seam}
use lib.Dec.{eqb, leb}
use borrow.Author.Tests.{eqb-true, leb-true}
use native.Mathlib.Omega.{arith}
use native.Mathlib.Nat.{le_of_suc-le-suc}
use native.Mathlib.Numerals.{add-one}
use Rattle.trm_laws.proofs.Tests.{both}
use Rattle.trm_word.specs.Address.{store_length_ok}
use Rattle.trm_reference.specs.Geometry.{paper_geometry}
use Rattle.trm_reference.specs.Access.{Answer, silent}
use Rattle.trm_reference.specs.Trace.{Pins, pins_of, After, clocks, end_of, outs_of, finished_in}
use Rattle.trm_reference.proofs.Laws.Trace.{clocks-more, clocks-length, end_of-more, outs-more, finished-more, pins-length, pins-at}
use Rattle.trm_core.specs.Record.{Lent}
use Rattle.trm_core.specs.Clock.{clock_of}
use Rattle.trm_core.specs.Claims.{Shaped, Kept}
use Rattle.trm_core.specs.Refusals.{all_at_most, store_ok, clock_refusal}
use Rattle.trm_core.specs.Run.{bytes_of, words_of, history_of, run_of}
use Rattle.trm_core.proofs.Laws.Kept.{record_kept}
use Rattle.trm_core.proofs.Laws.Rows.{Passed}
use Rattle.trm_clock_laws.proofs.Laws.Facts.{paper_ok}
use Rattle.trm_run_phases.specs.Reached.{Point, hist, Feed, Reached}
use Rattle.trm_run_phases.proofs.Laws.Adds.{clock-adds}
use Rattle.trm_run_phases.proofs.Laws.Free.{clock-free}

-- lists

set_at : (l r : List ℕ) (x b i : ℕ) → length l ≡ i → set (l ++ x ∷ r) i b ≡ l ++ b ∷ r
set_at [] r x b zero e = refl
set_at [] r x b (suc i) e = absurd (omega arith)
set_at (y ∷ l) r x b zero e = absurd (omega arith)
set_at (y ∷ l) r x b (suc i) e = ap (λ t. y ∷ t) (set_at l r x b i (omega arith))

-- a buffer of which the first i numbers are written
put_next : (l bs : List ℕ) (b i : ℕ) → length l ≡ i → i < length bs → set (l ++ drop i bs) i b ≡ (l ++ b ∷ []) ++ drop (suc i) bs
put_next l bs b i e h = rw (drop-cons bs i 0 h) (set_at l (drop (suc i) bs) (get_or bs i 0) b i e ∙ sym (append_assoc l (b ∷ []) (drop
    (suc i) bs)))

bytes-more : (os : List Answer) (a : Answer) → bytes_of (os ++ a ∷ []) ≡ bytes_of os ++ a.byte ∷ []
unfolding bytes_of
bytes-more [] a = refl
bytes-more (o ∷ os) a = ap (λ t. o.byte ∷ t) (bytes-more os a)

words_more : (os : List Answer) (a : Answer) → words_of (os ++ a ∷ []) ≡ words_of os ++ a.word ∷ []
unfolding words_of
words_more [] a = refl
words_more (o ∷ os) a = ap (λ t. o.word ∷ t) (words_more os a)

bytes-length : (os : List Answer) → length (bytes_of os) ≡ length os
unfolding bytes_of
bytes-length [] = refl
bytes-length (o ∷ os) = ap suc (bytes-length os)

words-length : (os : List Answer) → length (words_of os) ≡ length os
unfolding words_of
words-length [] = refl
words-length (o ∷ os) = ap suc (words-length os)

outs-length : (ts : List (After Lent Answer)) → length (outs_of ts) ≡ length ts
unfolding outs_of
outs-length [] = refl
outs-length (t ∷ ts) = ap suc (outs-length ts)

at_most : (limit : ℕ) (xs : List ℕ) (i : ℕ) → all_at_most limit xs ≡ true → i < length xs → get_or xs i 0 ≤ limit
unfolding all_at_most
at_most limit [] i t h = absurd (omega arith)
at_most limit (x ∷ xs) zero t h = both (leb x limit) (all_at_most limit xs) (λ a b. leb-true x limit a) t
at_most limit (x ∷ xs) (suc i) t h = both (leb x limit) (all_at_most limit xs) (λ a b. at_most limit xs i b (le_of_suc-le-suc h)) t

zeros-long : (n : ℕ) → length {A = ℕ} (replicate n 0) ≡ n
zeros-long n = length-replicate n 0

-- writing 0 where the list holds 0 changes nothing
zero-stays : (l : List ℕ) (i : ℕ) → get_or l i 0 ≡ 0 → set l i 0 ≡ l
zero-stays l i e = ap (set l i) (sym e) ∙ set-get_or l i 0

-- the same for a number equal to 0
pub zero-sets : (l : List ℕ) (i b : ℕ) → b ≡ 0 → get_or l i 0 ≡ 0 → l ≡ set l i b
zero-sets l i b z e = sym (ap (set l i) z ∙ zero-stays l i e)

-- a buffer with the answers so far and then zeros holds 0 at the next index
next-zero : (l : List ℕ) (n i : ℕ) → length l ≡ i → i < n → get_or (l ++ drop i (replicate n 0)) i 0 ≡ 0
next-zero l n i e h =
    ap (λ t. get_or (l ++ t) i 0) (drop-cons (replicate n 0) i 0 (rw (zeros-long n) h))
    ∙ ap (λ j. get_or (l ++ get_or (replicate n 0) i 0 ∷ drop (suc i) (replicate n 0)) j 0) (sym e)
    ∙ get_or-append_seam l (get_or (replicate n 0) i 0) (drop (suc i) (replicate n 0)) 0
    ∙ get_or-replicate n i 0 0 h

-- a store that passes row 4 has the length `size`
size_of : (size n : ℕ) → (store_length_ok n && eqb n size) ≡ true → n ≡ size
size_of size n = both (store_length_ok n) (eqb n size) (λ _ b. eqb-true n size b)

pub reached-none : (p ls is : List ℕ) (x : Lent) → Feed ls is x → Passed paper_geometry p x.machine x.store
    → Shaped paper_geometry x.machine
    → Reached p ls is x (record { lent = x; finished = 0; at = 0 }) (replicate (length ls) 0) (replicate (length ls) 0)
unfolding hist clocks end_of outs_of bytes_of words_of finished_in
reached-none p ls is x f a sh = record {
  feed = f;
  below = omega arith;
  state = refl;
  bytes = refl;
  words = refl;
  done = refl;
  few = omega arith;
  program = a.program;
  store = a.store;
  rule = a.rule;
  shaped = sh;
  count = omega arith;
  long = refl;
  wide = zeros-long (length ls);
  broad = zeros-long (length ls);
}

module _ (p ls is : List ℕ) (x₀ : Lent) (q : Point) (bs ws : List ℕ) (r : Reached p ls is x₀ q bs ws) where
  pub passed : Passed paper_geometry p q.lent.machine q.lent.store
  passed = record { program = r.program; store = r.store; rule = r.rule }

  pins-long : length (pins_of ls is) ≡ length ls
  pins-long = pins-length ls is r.feed.fed

  hist-length : length (hist p x₀ ls is q.at) ≡ q.at
  unfolding hist
  hist-length = clocks-length (clock_of paper_geometry p) x₀ (take q.at (pins_of ls is))
      ∙ length-take-le q.at (pins_of ls is) (omega (arith, pins-long, r.below))

  bytes-long : length (bytes_of (outs_of (hist p x₀ ls is q.at))) ≡ q.at
  bytes-long = bytes-length (outs_of (hist p x₀ ls is q.at)) ∙ outs-length (hist p x₀ ls is q.at) ∙ hist-length

  words_long : length (words_of (outs_of (hist p x₀ ls is q.at))) ≡ q.at
  words_long = words-length (outs_of (hist p x₀ ls is q.at)) ∙ outs-length (hist p x₀ ls is q.at) ∙ hist-length

  pub reached-end : length ls ≤ q.at
      → record { state = q.lent; used = length ls; finished = q.finished; bytes = bs; words = ws } ≡ run_of paper_geometry p x₀ ls is
  unfolding run_of history_of hist
  reached-end h = rw (
    r.state,
    r.bytes,
    r.words,
    r.done,
    take_all q.at (pins_of ls is) (omega (arith, pins-long, h)),
    drop_of_length-le {A = ℕ} (replicate (length ls) 0) {i = q.at} (rw (zeros-long (length ls)) h),
    append-nil,
    append-nil,
  )

  -- one more clock
  module _ (h : q.at < length ls) where
    abbrev pub pins : Pins
    pins = record { line_byte = get_or ls q.at 0; input = get_or is q.at 0 }

    abbrev pub here : After Lent Answer
    here = clock_of paper_geometry p q.lent pins

    hist-more : hist p x₀ ls is (suc q.at) ≡ hist p x₀ ls is q.at ++ here ∷ []
    unfolding hist
    hist-more =
        clocks-more (clock_of paper_geometry p) x₀ (pins_of ls is) q.at none (omega (arith, pins-long, h))
        ∙ ap (λ y. hist p x₀ ls is q.at ++ y ∷ []) (rw (← r.state)
        (ap (clock_of paper_geometry p q.lent) (pins-at ls is q.at none h (omega (arith, h, r.feed.fed)))))
      where
        none : Pins
        none = record { line_byte = 0; input = 0 }

    outs-grown : outs_of (hist p x₀ ls is (suc q.at)) ≡ outs_of (hist p x₀ ls is q.at) ++ here.out ∷ []
    outs-grown = ap outs_of hist-more ∙ outs-more (hist p x₀ ls is q.at) here

    bytes_next : set bs q.at here.out.byte
        ≡ bytes_of (outs_of (hist p x₀ ls is (suc q.at))) ++ drop (suc q.at) (replicate (length ls) 0)
    bytes_next = rw r.bytes
        (put_next (bytes_of (outs_of (hist p x₀ ls is q.at))) (replicate (length ls) 0) here.out.byte q.at bytes-long
        (rw (zeros-long (length ls)) h)
        ∙ ap (λ l. l ++ drop (suc q.at) (replicate (length ls) 0)) (sym (ap bytes_of outs-grown
        ∙ bytes-more (outs_of (hist p x₀ ls is q.at)) here.out)))

    words-next : set ws q.at here.out.word
        ≡ words_of (outs_of (hist p x₀ ls is (suc q.at))) ++ drop (suc q.at) (replicate (length ls) 0)
    words-next = rw r.words
        (put_next (words_of (outs_of (hist p x₀ ls is q.at))) (replicate (length ls) 0) here.out.word q.at words_long
        (rw (zeros-long (length ls)) h)
        ∙ ap (λ l. l ++ drop (suc q.at) (replicate (length ls) 0)) (sym (ap words_of outs-grown
        ∙ words_more (outs_of (hist p x₀ ls is q.at)) here.out)))

    free : clock_refusal paper_geometry p q.lent.machine q.lent.store (get_or ls q.at 0) ≡ 0
    free = clock-free p q.lent.machine q.lent.store (get_or ls q.at 0) passed (at_most 7 ls q.at r.feed.low h)
        (omega (arith, r.count, r.feed.room, h))

    kept : Kept paper_geometry p here.state
    kept = record_kept paper_geometry p q.lent pins paper_ok r.shaped free

    long : length here.state.store ≡ length q.lent.store
    unfolding store_ok
    long = size_of here.state.machine.scalars.size (length here.state.store) kept.store
        ∙ (clock-adds p q.lent pins).size
        ∙ sym (size_of q.lent.machine.scalars.size (length q.lent.store) r.store)

    step-here : Reached p ls is x₀ (record { lent = here.state; finished = q.finished + here.out.done; at = q.at + 1 })
        (set bs q.at here.out.byte) (set ws q.at here.out.word)
    step-here = rw (add-one) (record {
      feed = r.feed;
      below = omega (arith, h);
      state = sym (ap (end_of x₀) hist-more ∙ end_of-more x₀ (hist p x₀ ls is q.at) here);
      bytes = bytes_next;
      words = words-next;
      done = rw r.done (sym (ap finished_in outs-grown ∙ finished-more (outs_of (hist p x₀ ls is q.at)) here.out));
      few = omega (arith, r.few, (clock-adds p q.lent pins).done);
      program = r.program;
      store = kept.store;
      rule = kept.record_ok_lem;
      shaped = kept.shaped;
      count = omega (arith, r.count, (clock-adds p q.lent pins).adds);
      long = long ∙ r.long;
      wide = length-set bs q.at here.out.byte ∙ r.wide;
      broad = length-set ws q.at here.out.word ∙ r.broad;
    })

    -- the next state, for any t equal to the clock's outcome
    pub step : (t : After Lent Answer) → t ≡ here
        → Reached p ls is x₀ (record { lent = t.state; finished = q.finished + t.out.done; at = q.at + 1 })
        (set bs q.at t.out.byte) (set ws q.at t.out.word)
    step t e = subst (λ u. Reached p ls is x₀ (record { lent = u.state; finished = q.finished + u.out.done; at = q.at + 1 })
        (set bs q.at u.out.byte) (set ws q.at u.out.word)) (sym e) step-here

    -- the buffers hold 0 here
    pub byte-free : get_or bs q.at 0 ≡ 0
    byte-free = ap (λ l. get_or l q.at 0) r.bytes
        ∙ next-zero (bytes_of (outs_of (hist p x₀ ls is q.at))) (length ls) q.at bytes-long h

    pub word-free : get_or ws q.at 0 ≡ 0
    word-free = ap (λ l. get_or l q.at 0) r.words
        ∙ next-zero (words_of (outs_of (hist p x₀ ls is q.at))) (length ls) q.at words_long h

    -- the same for a clock without an answer
    pub step-quiet : (y : Lent) (d : ℕ) → record { state = y; out = silent d } ≡ here
        → Reached p ls is x₀ (record { lent = y; finished = q.finished + d; at = q.at + 1 }) bs ws
    step-quiet y d e =
        subst (λ l. Reached p ls is x₀ (record { lent = y; finished = q.finished + d; at = q.at + 1 }) l ws)
        (zero-stays bs q.at byte-free)
        (subst (λ l. Reached p ls is x₀ (record { lent = y; finished = q.finished + d; at = q.at + 1 }) (set bs q.at 0) l)
        (zero-stays ws q.at word-free)
        (step (record { state = y; out = silent d }) e))
