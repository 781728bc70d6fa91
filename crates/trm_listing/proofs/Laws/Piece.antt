-- One piece: the runs that were listed, and the last row if there is room for it.
-- Idea: the text to be written is in the buffer or is still to be written.
use Prim.Native.Nat.{ℕ, ◌+◌, ◌≤◌, ◌<◌}
use mathlib.Core.Path.{◌≡◌, refl, sym, ap, ◌∙◌}
use mathlib.Core.Logic.{◌≢◌}
use mathlib.Core.Bool.{Bool, true, false, cond}
use mathlib.Core.List.{List, [], ◌++◌, append-nil}
use native.Mathlib.Omega.{arith}
use lib.ListN.{length, take}
use lib.Dec.{eqb}
use borrow.Author.Tests.{eqb-true, eqb-false}
use Rattle.trm_cache.specs.declared.record.Cache.{Cache}
use Rattle.trm_core.specs.Record.{Lent}
use Rattle.trm_listing.specs.declared.inner.finish.Ended.{Ended}
use Rattle.trm_listing.specs.declared.inner.runs.Place.{Place}
use Rattle.trm_list_rows.specs.Rows.{end_row}
use Rattle.trm_list_rows.specs.Onward.{text_from, lent_of}
use Rattle.trm_listing.specs.Rest.{pins_left, Stands, Along}
use Rattle.trm_listing.specs.declared.inner.pieces.Listing.{Listing}
use Rattle.trm_listing.specs.Pieces.{rest_of, EndHolds}
use Rattle.trm_listing.proofs.Laws.Along.{along-end}

-- another buffer
pub stands_in : (s p : List ℕ) (q : Place) (x : Lent) (b b' : List ℕ) → Stands s p q x b → q.listed.len ≤ length b' → Stands s p q x b'
stands_in s p q x b b' h f = record { able = h.able; runs = h.runs; small = h.small; room = h.room; fits = f }

-- with a new, empty buffer
pub stands-fresh : (s p : List ℕ) (q : Place) (x : Lent) (b : List ℕ) → Stands s p q x b
    → Stands s p
    (record {
      listed = record { scalars = q.listed.scalars; left = q.listed.left; took = q.listed.took; len = 0 };
      at = q.at;
      pins = q.pins;
      input = q.input;
    }) x []
stands-fresh s p q x b h = record { able = h.able; runs = h.runs; small = h.small; room = h.room; fits = omega arith }

module _ (s p : List ℕ) (q : Place) (x : Lent) (b : List ℕ) (q' : Place) (rs : List ℕ) (ca : Cache) (st b' : List ℕ)
    (a : Along s p q x b q' (lent_of q'.listed rs ca st) b') (e : Ended) (b'' : List ℕ) (h : EndHolds q' b' e b'') where
  abbrev x' : Lent
  x' = lent_of q'.listed rs ca st

  -- what is still to be written after the piece
  abbrev left : List ℕ
  left = text_from p x' q'.listed.took (pins_left s q')

  pub piece-text : q.listed.len ≡ 0 → (q'.listed.left ≡ 0 → length s ≤ q'.at)
      → text_from p x q.listed.took (pins_left s q) ≡ take e.len b'' ++ cond e.over [] left
  unfolding end_row
  piece-text none over = sym (go e.over refl h.text.text ∙ a.text ∙ ap (λ k. take k b ++ text_from p x q.listed.took
      (pins_left s q)) none)
    where
      go : (t : Bool) → e.over ≡ t → take e.len b'' ≡ take q'.listed.len b' ++ cond t (end_row x') []
          → take e.len b'' ++ cond t [] left ≡ take q'.listed.len b' ++ left
      go true o w = append-nil (take e.len b'') ∙ w
          ∙ ap (λ t. take q'.listed.len b' ++ t) (sym (along-end s p q' x' (h.none o) (over (h.none o))))
      go false o w = ap (λ t. t ++ left) (w ∙ append-nil (take q'.listed.len b'))

  pub piece-goes : 128 ≤ length b → (q'.listed.left ≢ 0 → length b < q'.listed.len + 32) → e.over ≡ false → 0 < e.len
  piece-goes big full o =
      let n : q'.listed.len ≤ e.len = omega (arith, h.text.next) in
      go (eqb q'.listed.left 0) refl n
    where
      go : (t : Bool) → eqb q'.listed.left 0 ≡ t → q'.listed.len ≤ e.len → 0 < e.len
      go true z n = omega (arith, n, h.full o (eqb-true q'.listed.left 0 z))
      go false z n = omega (arith, n, big, full (eqb-false q'.listed.left 0 z))

-- nothing is left once a listing is over
pub none_left : (s p st : List ℕ) (l : Listing) → l.over ≡ true → rest_of s p st l ≡ []
unfolding rest_of
none_left s p st l e = rw e
