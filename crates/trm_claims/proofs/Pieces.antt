-- The pieces of a listing, joined, are the output.
-- Idea: after each piece, what has been written and what is left to write are together the output.
use Prim.Native.Nat.{ℕ}
use mathlib.Core.Path.{◌≡◌, sym, ap, ◌∙◌}
use mathlib.Core.List.{List, ◌++◌, append_assoc, append-nil}
use lib.ListN.{take}
use Rattle.trm_listing.specs.declared.inner.pieces.Listing.{Listing}
use Rattle.trm_listing.specs.Listing.{output_of}
use Rattle.trm_listing.specs.Pieces.{rest_of, StartHolds, PieceHolds}
use Rattle.trm_listing.proofs.Laws.Piece.{none_left}
use Rattle.trm_claims.specs.Pieces.{FirstMet, NextMet, Pieces, first, next, PiecesAreOutput}

starts : (s p st b : List ℕ) (r : Listing) (p' st' b' : List ℕ) → FirstMet s p st b r p' st' b' → StartHolds s p st b r p' st' b'
starts s p st b r p' st' b' h = rw (
  ← h.holds.0,
  ← h.holds.1,
  ← h.holds.2,
  ← h.holds.3,
  ← h.holds.4,
  ← h.holds.5,
  ← h.holds.6,
) h.ensures

goes : (s p st b : List ℕ) (l r : Listing) (st' b' : List ℕ) → NextMet s p st b l r st' b' → PieceHolds s p st b l r st' b'
goes s p st b l r st' b' h = rw (
  ← h.holds.0,
  ← h.holds.1,
  ← h.holds.2,
  ← h.holds.3,
  ← h.holds.4,
  ← h.holds.5,
) h.ensures

so_far : (s written : List ℕ) (l : Listing) (p st : List ℕ) → Pieces s written l p st → written ++ rest_of s p st l ≡ output_of s
so_far s written l p st (first p₀ st₀ b r p' st' b' h) = sym (starts s p₀ st₀ b r p' st' b' h).text
so_far s written l p st (next w m q u before b r u' b' h) =
    append_assoc w (take r.len b') (rest_of s q u' r) ∙ ap (λ t. w ++ t) (sym (goes s q u b m r u' b' h).text) ∙ so_far s w m q u before

pub pieces_are_output : PiecesAreOutput
pieces_are_output s written l p st h e =
    sym (ap (λ t. written ++ t) (none_left s p st l e) ∙ append-nil written) ∙ so_far s written l p st h
