-- The pieces of a listing, one after another, as the `ensures` of the functions give them.
-- Paper: "Images and the listing program". A slice that is lent is a reference; a contract sees the list that it holds before and after the
-- call.
--   FirstMet, NextMet   the `ensures` of trm_listing's first_piece and next_piece        Pieces   some pieces, joined
use Rattle.std.specs.Prelude.{ℕ, ◌≡◌, true, List, ◌++◌, take}
use contract.Lifetimes.{Lfts}
use Rattle.std.specs.Borrow.{Bor, MutBor}
use Rattle.trm_listing.specs.declared.inner.pieces.Listing.{Listing}
use Rattle.trm_listing.specs.Listing.{output_of}
use Rattle.trm_listing.proofs.inner.pieces.first_piece.Reads as first_reads
use Rattle.trm_listing.proofs.inner.pieces.next_piece.Reads as next-reads

-- s: the image; p, st and b: the arrays of program, store and text; p', st' and b': the same after the call
pub record FirstMet (s p st b : List ℕ) (r : Listing) (p' st' b' : List ℕ) : Type 0 where
  pub lifetimes : Lfts 4
  pub image : Bor (List ℕ)
  pub program : MutBor (List ℕ)
  pub program' : MutBor (List ℕ)
  pub store : MutBor (List ℕ)
  pub store' : MutBor (List ℕ)
  pub text : MutBor (List ℕ)
  pub text' : MutBor (List ℕ)
  pub holds : (image.now ≡ s) × (program.now ≡ p) × (program'.now ≡ p') × (store.now ≡ st) × (store'.now ≡ st')
      × (text.now ≡ b) × (text'.now ≡ b')
  pub ensures : first_reads.Post lifetimes (image, (program, (store, (text, tt)))) r (image, (program', (store', (text', tt))))

-- l is what the last piece returned, p the words of the program
pub record NextMet (s p st b : List ℕ) (l r : Listing) (st' b' : List ℕ) : Type 0 where
  pub lifetimes : Lfts 4
  pub image : Bor (List ℕ)
  pub program : Bor (List ℕ)
  pub store : MutBor (List ℕ)
  pub store' : MutBor (List ℕ)
  pub text : MutBor (List ℕ)
  pub text' : MutBor (List ℕ)
  pub holds : (image.now ≡ s) × (program.now ≡ p) × (store.now ≡ st) × (store'.now ≡ st') × (text.now ≡ b) × (text'.now ≡ b')
  pub ensures : next-reads.Post lifetimes (l, (image, (program, (store, (text, tt))))) r (l, (image, (program, (store', (text', tt)))))

-- Some pieces of the listing of the image s: `written` is all the text so far, l what the last call returned, p the program's words, st
-- the store; each piece is anything that `first_piece` and `next_piece` return by their contracts.
pub data Pieces (s : List ℕ) : List ℕ → Listing → List ℕ → List ℕ → Type 0 where
  first : (p st b : List ℕ) (r : Listing) (p' st' b' : List ℕ) → FirstMet s p st b r p' st' b'
      → Pieces s (take r.len b') r (take r.words p') st'
  next : (written : List ℕ) (l : Listing) (p st : List ℕ) → Pieces s written l p st
      → (b : List ℕ) (r : Listing) (st' b' : List ℕ) → NextMet s p st b l r st' b' → Pieces s (written ++ take r.len b') r p st'

-- Once the listing is over, the pieces are the output that the paper defines for the image.
abbrev pub PiecesAreOutput : Type 0
PiecesAreOutput =
    (s written : List ℕ) (l : Listing) (p st : List ℕ) → Pieces s written l p st → l.over ≡ true → written ≡ output_of s
