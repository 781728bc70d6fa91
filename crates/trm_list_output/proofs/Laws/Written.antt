-- What a writer has taken after one piece more: all of it, or only the first of it.
use Rattle.std.proofs.Common.{ℕ, ◌≡◌, ◌+◌, min, List, [], ◌++◌, true, length, take, sym, ap, subst, ◌∙◌, arith, append_assoc, append-nil}
use Rattle.std.specs.declared.option.Option.{Option}
use Rattle.std.specs.Io.KnownBytes.{Appends}
use Rattle.std.proofs.KnownBytes.{Appends-trans}
use Rattle.std.proofs.lemmas.List.{take-append-le, take_min}
use Rattle.std.proofs.Math.Seq.{take-append-add}
use Rattle.trm_listing.specs.declared.inner.pieces.Listing.{Listing}
use Rattle.trm_listing.specs.Pieces.{rest_of, Ready, PieceHolds}
use Rattle.trm_list_output.specs.Moved.{AppendsFirst}

first_of : (n : ℕ) (piece rest : List ℕ) → take n piece ≡ take (min n (length piece)) (piece ++ rest)
first_of n piece rest = sym (take-append-le (min n (length piece)) piece rest (omega arith) ∙ take_min n piece)

pub Appends-piece : (a b c : Option (List ℕ)) (whole done left piece rest : List ℕ) → whole ≡ done ++ left → left ≡ piece ++ rest
    → Appends a b done → Appends b c piece → (bs : List ℕ) × (whole ≡ bs ++ rest) × Appends a c bs
Appends-piece a b c whole done left piece rest e f p q =
    (done ++ piece, e ∙ ap (λ l. done ++ l) f ∙ sym (append_assoc done piece rest), Appends-trans a b c done piece p q)

pub AppendsFirst-piece : (a b c : Option (List ℕ)) (whole done left piece rest : List ℕ) → whole ≡ done ++ left → left ≡ piece ++ rest
    → Appends a b done → AppendsFirst b c piece → AppendsFirst a c whole
AppendsFirst-piece a b c whole done left piece rest e f p (n, q) =
    let m = min n (length piece) in (
      length done + m,
      subst (Appends a c)
          (ap (λ l. done ++ l) (first_of n piece rest) ∙ sym (take-append-add done (piece ++ rest) m)
          ∙ ap (take (length done + m)) (sym (e ∙ ap (λ l. done ++ l) f)))
          (Appends-trans a b c done (take n piece) p q),
    )

-- the whole is written when nothing is left
pub Appends-whole : (a b : Option (List ℕ)) (whole done s p st : List ℕ) (l : Listing) → l.over ≡ true
    → whole ≡ done ++ rest_of s p st l → Appends a b done → Appends a b whole
unfolding rest_of
Appends-whole a b whole done s p st l o e h =
    let none : rest_of s p st l ≡ [] = rw o in
    subst (Appends a b) (sym (e ∙ ap (λ r. done ++ r) none ∙ append-nil done)) h

-- a piece, when the program is given by its array and its number of words
pub text-still : (s program st b : List ℕ) (l r : Listing) (st' b' : List ℕ) → PieceHolds s (take l.words program) st b l r st' b'
    → rest_of s (take l.words program) st l ≡ take r.len b' ++ rest_of s (take r.words program) st' r
text-still s program st b l r st' b' h =
    subst (λ n. rest_of s (take l.words program) st l ≡ take r.len b' ++ rest_of s (take n program) st' r) (sym h.words) h.text

pub ready-still : (s program st b : List ℕ) (l r : Listing) (st' b' : List ℕ) → PieceHolds s (take l.words program) st b l r st' b'
    → Ready s (take r.words program) st' r
ready-still s program st b l r st' b' h = subst (λ n. Ready s (take n program) st' r) (sym h.words) h.ready
