-- A piece that is written goes from what is left to what is written; of one that fails the writer has taken the first bytes.
use Rattle.std.proofs.Common.{[], OnErr, Result, Ok, Err, rules, refl}
use borrow.Author.Tests.{not-false}
use Rattle.std.proofs.KnownBytes.{Appends-nil}
use Rattle.trm_list_output.proofs.Laws.Written.{Appends-piece, AppendsFirst-piece, Appends-whole, text-still, ready-still}
use Rattle.trm_list_output.proofs.write_pieces.Goals as goal

on_err : {T E P : Type 0} (r : Result T E) → P → OnErr r P
on_err (Ok x) p = tt
on_err (Err e) p = p

pub returns-in_err-write_piece-clause-err : goal.returns-in_err-write_piece-clause-err
returns-in_err-write_piece-clause-err g c =
    on_err c.from_residual.result
    (AppendsFirst-piece _ _ _ _ [] _ _ _ refl c.first_piece-l.ensures.text (Appends-nil _) c.in_err-write_piece.ensures.err)

pub loop-l-preserved : goal.loop-l-preserved
loop-l-preserved g c =
    let (done, split, appended) = c.loop-l.invariant.written in
    record {
      ready = ready-still _ _ _ _ _ _ _ _ c.next_piece-l.ensures;
      words = search rules;
      long = search rules;
      written = Appends-piece _ _ _ _ done _ _ _ split (text-still _ _ _ _ _ _ _ _ c.next_piece-l.ensures) appended
          c.in_ok-write_piece-2.ensures.ok;
    }

pub returns-in_err-write_piece-2-clause-err : goal.returns-in_err-write_piece-2-clause-err
returns-in_err-write_piece-2-clause-err g c =
    let (done, split, appended) = c.loop-l.invariant.written in
    on_err c.from_residual-in_err-write_piece-2.result
    (AppendsFirst-piece _ _ _ _ done _ _ _ split c.next_piece-l.ensures.text appended c.in_err-write_piece-2.ensures.err)

pub returns-clause-ok : goal.returns-clause-ok
returns-clause-ok g c =
    let (done, split, appended) = c.loop-l.invariant.written in
    Appends-whole _ _ _ done _ _ _ c.loop-l.l (not-false _ c.loop-l-test.false) split appended
