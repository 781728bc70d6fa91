-- A write to a slice as a write to the whole list, a read from a slice, and the invariants of the loops over the lines.
-- A list is what is before the slice, the slice and the rest; an invariant is the definition up to line i.
--   part-set, part-get    Counting, counting-none, counting_more, counting-end    empty-none, empty-more, empty-end
use Prim.Native.Nat.{ℕ, ◌+◌, ◌*◌, ◌≤◌, ◌<◌}
use mathlib.Core.Path.{◌≡◌, refl, ap, sym, ◌∙◌}
use mathlib.Core.Bool.{Bool, true, false, cond}
use mathlib.Core.List.{List, ◌++◌}
use lib.Dec.{eqb}
use lib.ListN.{length, take, drop, set, get_or, take-append-drop, length-drop}
use lib.Seq.{set-append_left, drop-set-add, take-set-le, get_or-take, get_or-drop, length-take-le}
use native.Mathlib.Omega.{arith}
use native.Mathlib.Numerals.{add-one}
use Rattle.trm_reference.specs.Geometry.{paper_geometry}
use Rattle.trm_reference.specs.History.{how_many}
use Rattle.trm_cache.specs.Cache.{line_at, lowest, count_dirty, first_dirty, emptied, empty_to, all_emptied}
use Rattle.trm_cache.specs.declared.record.Cache.{Cache}

module _ (l : List ℕ) (b n k : ℕ) (fits : b + n ≤ length l) (low : k < n) where
  short : length (take n (drop b l)) ≡ n
  short = length-take-le n (drop b l) (simp length-drop (omega arith))

  pub part-set : (w : ℕ) → take b l ++ (set (take n (drop b l)) k w ++ drop n (drop b l)) ≡ set l (b + k) w
  part-set w =
      ap (λ (t : List ℕ). take b l ++ t) (sym (set-append_left (take n (drop b l)) (drop n (drop b l)) k w (omega (arith, short))))
      ∙ (ap (λ (t : List ℕ). take b l ++ set t k w) (take-append-drop n (drop b l))
      ∙ (ap (λ (t : List ℕ). take b l ++ t) (sym (drop-set-add b l k w))
      ∙ (ap (λ (t : List ℕ). t ++ drop b (set l (b + k) w)) (sym (take-set-le b l (b + k) w (omega arith)))
      ∙ take-append-drop b (set l (b + k) w))))

  pub part-get : get_or (take n (drop b l)) k 0 ≡ get_or l (b + k) 0
  part-get = get_or-take n (drop b l) k 0 low ∙ get_or-drop b l k 0

abbrev pub dirty_in : Cache → ℕ → Bool
dirty_in ca l = (line_at paper_geometry ca l).dirty

-- invariant of `dirty_lines`: count and first are those of the first i lines
pub record Counting (ca : Cache) (i count first : ℕ) : Type 0 where
  pub below : i ≤ 16
  pub few : count ≤ i
  pub low : first < 16
  pub many : count ≡ how_many i (dirty_in ca)
  pub least : first ≡ lowest i (dirty_in ca)

pub counting-none : (ca : Cache) → Counting ca 0 0 0
unfolding how_many lowest
counting-none ca = record { below = omega arith; few = omega arith; low = omega arith; many = refl; least = refl }

pub counting_more : (ca : Cache) (i n f n' f' : ℕ) (d : Bool) → Counting ca i n f → i < 16 → d ≡ dirty_in ca i
    → n' ≡ n + cond d 1 0 → f' ≡ cond (eqb n 0) (cond d i 0) f → f' < 16 → Counting ca (i + 1) n' f'
unfolding how_many lowest
counting_more ca i n f n' f' d k h e q g low = record {
  below = omega (arith, h);
  few = few d q;
  low = low;
  many = rw add-one (rw (q, e, k.many));
  least = rw add-one (rw (g, e, k.many, k.least));
}
  where
    few : (b : Bool) → n' ≡ n + cond b 1 0 → n' ≤ i + 1
    few true z = omega (arith, k.few)
    few false z = omega (arith, k.few)

pub counting-end : (ca : Cache) (i n f : ℕ) → Counting ca i n f → 16 ≤ i
    → (n ≡ count_dirty paper_geometry ca) × (f ≡ first_dirty paper_geometry ca) × (f < 16) × (n < 17)
unfolding count_dirty first_dirty
counting-end ca i n f k h =
    let z : i ≡ 16 = omega (arith, k.below) in
    (k.many ∙ ap (λ j. how_many j (dirty_in ca)) z, k.least ∙ ap (λ j. lowest j (dirty_in ca)) z, k.low, omega (arith, k.few))

pub empty-none : (ca : Cache) → ca ≡ empty_to 0 ca
unfolding empty_to
empty-none ca = refl

pub empty-more : (ca ca₀ : Cache) (i : ℕ) → ca ≡ empty_to i ca₀ → emptied ca i ≡ empty_to (i + 1) ca₀
unfolding empty_to
empty-more ca ca₀ i e = rw add-one (ap (λ c. emptied c i) e)

pub empty-end : (ca ca₀ : Cache) (i : ℕ) → ca ≡ empty_to i ca₀ → i ≤ 16 → 16 ≤ i → ca ≡ all_emptied paper_geometry ca₀
unfolding all_emptied
empty-end ca ca₀ i e h g = let z : i ≡ 16 = omega arith in e ∙ ap (λ j. empty_to j ca₀) z

-- word i of the line l in the array of words
pub word_flat : (ws : List ℕ) (l i : ℕ) → i < 8 → get_or (take 8 (drop (l * 8) ws)) i 0 ≡ get_or ws (l * 8 + i) 0
word_flat ws l i h = get_or-take 8 (drop (l * 8) ws) i 0 h ∙ get_or-drop (l * 8) ws i 0
