-- The runs of an accepted image, one by one to its end.
-- Idea: no record is at fault, so a run is followed by a run or by nothing.
use Prim.Native.Nat.{ℕ, zero, suc, ◌+◌, ◌≤◌, ◌<◌}
use mathlib.Core.Path.{◌≡◌, refl, sym, ap, ◌∙◌}
use mathlib.Core.Bool.{Bool, true, false}
use mathlib.Core.List.{List, [], ◌∷◌}
use native.Mathlib.Omega.{arith}
use native.Mathlib.Decide.{dec_lt}
use lib.ListN.{length, drop}
use lib.Dec.{eqb}
use borrow.Author.Tests.{eqb-false}
use Rattle.trm_image.specs.Records.{length_at, kind_at, begins}
use Rattle.trm_image.specs.Refused.{count_at, line_byte_at, fault_at, first_fault}
use Rattle.trm_image.specs.Meaning.{run_at, words_in, runs_in}
use Rattle.trm_image.specs.Runs.{Runs}
use Rattle.trm_image.proofs.Laws.Walk.{next, ended, fault-here, fault-later, whole_record}
use Rattle.trm_image.proofs.Laws.Clean.{Clean, clean, Order, is-first, is-second, is-run, ordered, run-part}

-- if no fault is found from a record on, it has none itself and none is found after it
module _ (n : ℕ) (s : List ℕ) (before at : ℕ) (h : at < length s)
    (free : (first_fault n s before (begins 0 at (drop at s))).number ≡ 0) where
  pub here-free : eqb (fault_at n s before at) 0 ≡ true
  here-free = go (eqb (fault_at n s before at) 0) refl
    where
      go : (t : Bool) → eqb (fault_at n s before at) 0 ≡ t → eqb (fault_at n s before at) 0 ≡ true
      go true e = e
      go false e =
          absurd (eqb-false (fault_at n s before at) 0 e (sym (ap (λ f. f.number) (fault-here n s before at h e)) ∙ free))

  pub later-free : (first_fault n s (kind_at s at) (begins 0 (at + 6 + length_at s at) (drop (at + 6 + length_at s at) s))).number ≡ 0
  later-free = sym (ap (λ f. f.number) (fault-later n s before at h here-free)) ∙ free

  pub here-clean : Clean n s before at
  here-clean = clean n s before at here-free

  pub here-whole : at + 6 + length_at s at ≤ length s
  here-whole = whole_record n s before at (omega arith) here-free

-- the run here and the runs after it
pub record Next (n : ℕ) (s : List ℕ) (at : ℕ) : Type 0 where
  pub kind : kind_at s at ≡ 3
  pub nine : length_at s at ≡ 9
  pub whole : at + 15 ≤ length s
  pub one : 1 ≤ count_at s at
  pub most : count_at s at ≤ 65536
  pub line_byte : line_byte_at s at ≤ 7
  pub runs : Runs n s (at + 15)
  pub places : begins 0 at (drop at s) ≡ at ∷ begins 0 (at + 15) (drop (at + 15) s)
  pub list : runs_in s (begins 0 at (drop at s)) ≡ run_at s at ∷ runs_in s (begins 0 (at + 15) (drop (at + 15) s))

module _ (n : ℕ) (s : List ℕ) (at : ℕ) where
  run-kind : Runs n s at → at < length s → kind_at s at ≡ 3
  run-kind r h =
      go (ordered r.before (kind_at s at) (here-clean n s r.before at h r.free).order)
    where
      go : Order r.before (kind_at s at) → kind_at s at ≡ 3
      go (is-first k z) = absurd (r.some z)
      go (is-second k o) = absurd (r.later o k)
      go (is-run k z) = k

  run-list : (at' : ℕ) → kind_at s at ≡ 3 → begins 0 at (drop at s) ≡ at ∷ begins 0 at' (drop at' s)
      → runs_in s (begins 0 at (drop at s)) ≡ run_at s at ∷ runs_in s (begins 0 at' (drop at' s))
  unfolding runs_in
  run-list at' k e = rw (e, k)

  pub runs-next : Runs n s at → at < length s → Next n s at
  runs-next r h =
      let k = run-kind r h in
      let p = run-part n s r.before at (here-clean n s r.before at h r.free) k in
      let e : at + 6 + length_at s at ≡ at + 15 = omega (arith, p.nine) in
      let w : at + 6 + length_at s at ≤ length s = here-whole n s r.before at h r.free in
      let places : begins 0 at (drop at s) ≡ at ∷ begins 0 (at + 15) (drop (at + 15) s) =
      next s at h ∙ ap (λ x. at ∷ begins 0 x (drop x s)) e in
      let free : (first_fault n s (kind_at s at) (begins 0 (at + 15) (drop (at + 15) s))).number ≡ 0 =
      rw (← e) (later-free n s r.before at h r.free) in
      record {
        kind = k;
        nine = p.nine;
        whole = rw (← e) w;
        one = p.one;
        most = p.most;
        line_byte = p.line_byte;
        runs =
            record {
              before = kind_at s at;
              some = λ z. omega (arith, z, k);
              later = λ z. absurd (omega (arith, z, k));
              free = free;
              inside = rw (← e) w;
            };
        places = places;
        list = run-list (at + 15) k places;
      }

pub runs-end : (s : List ℕ) (at : ℕ) → length s ≤ at → runs_in s (begins 0 at (drop at s)) ≡ []
unfolding runs_in
runs-end s at h = rw (ended s at h)

-- runs hold neither program words nor first data words
pub runs-no_words : (n : ℕ) (s : List ℕ) (kind : ℕ) → eqb 3 kind ≡ false → (fuel at : ℕ) → length s ≤ at + fuel → Runs n s at
    → words_in kind s (begins 0 at (drop at s)) ≡ []
unfolding words_in
runs-no_words n s kind z zero at le r = rw (ended s at (omega arith))
runs-no_words n s kind z (suc fuel) at le r = go (dec_lt at (length s)) (runs-no_words n s kind z fuel (at + 15))
  where
    go : Dec (at < length s)
        → (length s ≤ at + 15 + fuel → Runs n s (at + 15) → words_in kind s (begins 0 (at + 15) (drop (at + 15) s)) ≡ [])
        → words_in kind s (begins 0 at (drop at s)) ≡ []
    go (no ge) more = rw (ended s at (omega arith))
    go (yes h) more =
        let x = runs-next n s at r h in
        rw (x.places, x.kind, z, more (omega arith) x.runs)
