-- Laws about dirty lines, emptying all lines, and copying all of memory.
-- `how_many` and `lowest` by induction on the bound; emptying by induction on the lines.
use Prim.Native.Nat.{ℕ, zero, suc, ◌+◌, ◌≤◌, ◌<◌}
use mathlib.Core.Path.{◌≡◌, refl, sym, ap, ap₂, ◌∙◌}
use mathlib.Core.Logic.{◌≢◌}
use mathlib.Core.Bool.{Bool, true, false, cond}
use mathlib.Core.List.{List}
use lib.ListN.{length, get_or}
use lib.Seq.{ext_get_or}
use lib.Dec.{eqb}
use native.Mathlib.Omega.{arith}
use native.Mathlib.Nat.{le_of_suc-le-suc}
use native.Mathlib.Decide.{ℕ_discrete}
use borrow.Author.Tests.{eqb-true, eqb-false}
use Rattle.trm_reference.specs.Geometry.{Geometry, block_of, line_of}
use Rattle.trm_reference.specs.History.{how_many}
use Rattle.trm_cache.specs.Cache.{Line, line_at, view, emptied, lowest, count_dirty, first_dirty, empty_to, all_emptied}
use Rattle.trm_cache.specs.declared.record.Cache.{Cache}
use Rattle.trm_cache.specs.Cache.{below, copy_of}
use Rattle.trm_cache.proofs.Laws.Lines.{empty_line, Wide, Becomes, becomes_empty}
use Rattle.trm_cache.proofs.Laws.Cache.{Sane, clean-view, emptied-ok}

pub how_many-ext : (n : ℕ) (f g : ℕ → Bool) → ((i : ℕ) → i < n → f i ≡ g i) → how_many n f ≡ how_many n g
unfolding how_many
how_many-ext zero f g h = refl
how_many-ext (suc n) f g h = ap₂ (λ k b. k + cond b 1 0) (how_many-ext n f g (λ i hi. h i (omega arith))) (h n (omega arith))

pub how_many-none : (n : ℕ) (f : ℕ → Bool) → how_many n f ≡ 0 → (i : ℕ) → i < n → f i ≡ false
unfolding how_many
how_many-none zero f e i h = absurd (omega arith)
how_many-none (suc n) f e i h = go (ℕ_discrete i n) (λ hi. how_many-none n f (omega arith) i hi)
  where
    last : (b : Bool) → how_many n f + cond b 1 0 ≡ 0 → b ≡ false
    last true q = absurd (omega arith)
    last false q = refl

    go : Dec (i ≡ n) → (i < n → f i ≡ false) → f i ≡ false
    go (yes q) ih = rw q (last (f n) e)
    go (no q) ih = ih (omega arith)

pub lowest-is : (n : ℕ) (f : ℕ → Bool) → how_many n f ≢ 0 → (lowest n f < n) × (f (lowest n f) ≡ true)
unfolding how_many lowest
lowest-is zero f q = absurd (q refl)
lowest-is (suc n) f q = go (f n) refl (eqb (how_many n f) 0) refl q (lowest-is n f)
  where
    go : (b : Bool) → f n ≡ b → (t : Bool) → eqb (how_many n f) 0 ≡ t → how_many n f + cond b 1 0 ≢ 0
        → (how_many n f ≢ 0 → (lowest n f < n) × (f (lowest n f) ≡ true))
        → (cond t (cond b n 0) (lowest n f) < suc n) × (f (cond t (cond b n 0) (lowest n f)) ≡ true)
    go true e true z y ih = (omega arith, e)
    go false e true z y ih = absurd (y (let x = eqb-true (how_many n f) 0 z in omega arith))
    go b e false z y ih = let w = ih (eqb-false (how_many n f) 0 z) in (omega (arith, w.0), w.1)

-- one fewer if one test becomes false
pub how_many-less : (n : ℕ) (f g : ℕ → Bool) (j : ℕ) → j < n → f j ≡ true → g j ≡ false → ((i : ℕ) → i < n → i ≢ j → g i ≡ f i)
    → how_many n f ≡ suc (how_many n g)
unfolding how_many
how_many-less zero f g j h a b same = absurd (omega arith)
how_many-less (suc n) f g j h a b same = go (ℕ_discrete j n) (λ hj. how_many-less n f g j hj a b (λ i hi z. same i (omega arith) z))
  where
    go : Dec (j ≡ n) → (j < n → how_many n f ≡ suc (how_many n g)) → how_many n f + cond (f n) 1 0 ≡ suc (how_many n g + cond (g n) 1 0)
    go (yes q) ih =
        let fn : f n ≡ true = (rw q at a) in
        let gn : g n ≡ false = (rw q at b) in
        rw (fn, gn, how_many-ext n g f (λ i hi. same i (omega arith) (omega arith))) (omega arith)
    go (no q) ih = rw (same n (omega arith) (λ z. q (sym z)), ih (omega arith)) (omega arith)

pub how_many-le : (n : ℕ) (f : ℕ → Bool) → how_many n f ≤ n
unfolding how_many
how_many-le zero f = omega arith
how_many-le (suc n) f = go (f n) (how_many-le n f)
  where
    go : (b : Bool) → how_many n f ≤ n → how_many n f + cond b 1 0 ≤ suc n
    go true h = omega arith
    go false h = omega arith

pub none-dirty : (G : Geometry) (ls : Cache) → count_dirty G ls ≡ 0 → (l : ℕ) → l < G.lines → (line_at G ls l).dirty ≡ false
unfolding count_dirty
none-dirty G ls = how_many-none G.lines (λ l. (line_at G ls l).dirty)

pub first-dirty : (G : Geometry) (ls : Cache) → count_dirty G ls ≢ 0
    → (first_dirty G ls < G.lines) × ((line_at G ls (first_dirty G ls)).dirty ≡ true)
unfolding count_dirty first_dirty
first-dirty G ls = lowest-is G.lines (λ l. (line_at G ls l).dirty)

pub clean-one : (G : Geometry) (ls : Cache) (l : ℕ) (ln : Line) (ls' : Cache) → Becomes G ls l ln ls' → l < G.lines
    → (line_at G ls l).dirty ≡ true → ln.dirty ≡ false → count_dirty G ls ≡ suc (count_dirty G ls')
unfolding count_dirty
clean-one G ls l ln ls' bc h d e = how_many-less G.lines (λ k. (line_at G ls k).dirty) (λ k. (line_at G ls' k).dirty) l h d
    (rw bc.here e) (λ k hk n. rw (bc.there k n))

-- emptying line by line
pub empty_to-wide : (G : Geometry) (ls : Cache) (n : ℕ) → n ≤ G.lines → Wide G ls → Wide G (empty_to n ls)
unfolding empty_to
empty_to-wide G ls zero h wd = wd
empty_to-wide G ls (suc n) h wd = (becomes_empty G (empty_to n ls) n (empty_to-wide G ls n (omega arith) wd) h).wide

empty_to-other : (G : Geometry) (ls : Cache) (n l : ℕ) → n ≤ G.lines → Wide G ls → n ≤ l → line_at G (empty_to n ls) l ≡ line_at G ls l
unfolding empty_to
empty_to-other G ls zero l h wd g = refl
empty_to-other G ls (suc n) l h wd g = (becomes_empty G (empty_to n ls) n (empty_to-wide G ls n (omega arith) wd) h).there l (omega arith)
    ∙ empty_to-other G ls n l (omega arith) wd (omega arith)

empty_to-at : (G : Geometry) (ls : Cache) (n l : ℕ) → n ≤ G.lines → Wide G ls → l < n
    → line_at G (empty_to n ls) l ≡ empty_line (line_at G ls l)
unfolding empty_to
empty_to-at G ls zero l h wd g = absurd (omega arith)
empty_to-at G ls (suc n) l h wd g = go (ℕ_discrete l n) (λ hl. empty_to-at G ls n l (omega arith) wd hl)
  where
    bc : Becomes G (empty_to n ls) n (empty_line (line_at G (empty_to n ls) n)) (emptied (empty_to n ls) n)
    bc = becomes_empty G (empty_to n ls) n (empty_to-wide G ls n (omega arith) wd) h

    go : Dec (l ≡ n) → (l < n → line_at G (empty_to n ls) l ≡ empty_line (line_at G ls l))
        → line_at G (emptied (empty_to n ls) n) l ≡ empty_line (line_at G ls l)
    go (yes q) ih = rw q (bc.here ∙ ap empty_line (empty_to-other G ls n n (omega arith) wd (omega arith)))
    go (no q) ih = bc.there l q ∙ ih (omega arith)

pub emptied-at : (G : Geometry) (ls : Cache) (l : ℕ) → Wide G ls → l < G.lines → line_at G (all_emptied G ls) l
    ≡ empty_line (line_at G ls l)
unfolding all_emptied
emptied-at G ls l wd h = empty_to-at G ls G.lines l (omega arith) wd h

module _ (G : Geometry) (wpos : 0 < G.words) where
  pub all_emptied_sane : (ls : Cache) (s : List ℕ) → Sane G ls s → Sane G (all_emptied G ls) s
  all_emptied_sane ls s sn = record {
    wide = (unfold all_emptied in empty_to-wide G ls G.lines (omega arith) sn.wide);
    each = λ l h. rw (emptied-at G ls l sn.wide h) (emptied-ok G wpos s l (line_at G ls l) (sn.each l h).wide);
  }

  pub all_emptied-view : (ls : Cache) (s : List ℕ) (a : ℕ) → line_of G (block_of G a) < G.lines → Sane G ls s → count_dirty G ls ≡ 0
      → view G (all_emptied G ls) s a ≡ view G ls s a
  unfolding view
  all_emptied-view ls s a h sn z = clean-view G wpos s l (line_at G (all_emptied G ls) l) a ((all_emptied_sane ls s sn).each l h)
      (rw (emptied-at G ls l sn.wide h))
      ∙ sym (clean-view G wpos s l (line_at G ls l) a (sn.each l h) (none-dirty G ls z l h))
    where
      l : ℕ
      l = line_of G (block_of G a)

-- if the view is the flat memory, so is the copy
pub length-below : (n : ℕ) (f : ℕ → ℕ) → length (below n f) ≡ n
unfolding below
length-below zero f = refl
length-below (suc n) f = ap suc (length-below n (λ i. f (suc i)))

pub get_d_below : (n : ℕ) (f : ℕ → ℕ) (i : ℕ) → i < n → get_or (below n f) i 0 ≡ f i
unfolding below
get_d_below zero f i h = absurd (omega arith)
get_d_below (suc n) f zero h = refl
get_d_below (suc n) f (suc i) h = get_d_below n (λ j. f (suc j)) i (le_of_suc-le-suc h)

pub copy_is : (G : Geometry) (ls : Cache) (s mem : List ℕ) → length s ≡ length mem
    → ((a : ℕ) → a < length s → view G ls s a ≡ get_or mem a 0) → copy_of G ls s ≡ mem
unfolding copy_of
copy_is G ls s mem len v = ext_get_or 0 (below (length s) (view G ls s)) mem (length-below (length s) (view G ls s) ∙ len)
    (λ i h. get_d_below (length s) (view G ls s) i (rw length-below at h) ∙ v i (rw length-below at h))
