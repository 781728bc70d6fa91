-- By cases of whether the listing is over; else the contracts of `list_runs` and `put_last` in sequence.
use Rattle.trm_listing.specs.Rest.{pins_left}
use Rattle.trm_listing.proofs.Laws.Piece.{stands-fresh, piece-text, piece-goes}
use mathlib.Core.Path.{refl, sym, ◌∙◌}
use native.Mathlib.Omega.{arith}
use Rattle.trm_laws.proofs.Tests.{clash}
use Rattle.trm_listing.specs.Pieces.{rest_of}
use Rattle.trm_listing.proofs.Laws.Piece.{piece-text, piece-goes}
use Rattle.trm_listing.proofs.inner.pieces.next_piece.Goals as goal

pub returns-then-l : goal.returns-then-l
unfolding rest_of pins_left
returns-then-l c =
    record {
      text = rw c.if-l.true;
      ready = λ z. clash (sym z ∙ c.if-l.true);
      fits = omega arith;
      goes = λ z. clash (sym z ∙ c.if-l.true);
      words = refl;
      stored = refl;
      long = refl;
    }

pub returns : goal.returns
unfolding rest_of pins_left
returns c =
    let a = c.list_runs-r.ensures.0 in
    let e = c.put_last-end.ensures in
    record {
      text = rw c.if-l.false
          (piece-text _ _ _ _ _ _ _ _ _ _ a _ _ e refl c.list_runs-r.ensures.2);
      ready = λ _. stands-fresh _ _ _ _ _
          a.stands;
      fits = e.fits;
      goes = piece-goes _ _ _ _ _ _ _ _ _ _ a _ _ e
          c.requires.1 c.list_runs-r.ensures.1;
      words = refl;
      stored = a.stored;
      long = e.text.long ∙ a.long;
    }
