use mathlib.Core.Path.{◌≡◌, sym, ap, ◌∙◌}
use mathlib.Core.Bool.{true}
use Prim.Native.Nat.{◌+◌}
use native.Mathlib.Omega.{arith}
use lib.Dec.{eqb}
use borrow.Author.Tests.{le-ltb}
use Rattle.trm_image.specs.Records.{length_at}
use Rattle.trm_image.specs.Refused.{fault_at}
use Rattle.trm_image.proofs.Laws.Numbers.{number_of-some}
use Rattle.trm_image.proofs.Laws.Walk.{fault-here, fault-later, fault-none, whole_record, image-read}
use Rattle.trm_image.proofs.reader.check.Goals as goal

pub returns-in-Err : goal.returns-in-Err
returns-in-Err c =
    let small = le-ltb 65536 _ c.if-image-gt65536.false in
    let some = sym c.is_empty.ensures ∙ c.if-is_empty.false in
    let number = c.in-Err.ensures in
    let bad = ap (λ k. eqb k 0) (sym number) ∙ number_of-some c.in-Err.fault in
    let gone = image-read _ _ small some ∙ sym c.loop-at.invariant.1 ∙ fault-here _ _ _ _ c.loop-at-test.true bad in
    record { number = rw gone number; at = rw gone }

pub loop-at-preserved : goal.loop-at-preserved
loop-at-preserved c =
    let at = c.loop-at.at in
    let ok : eqb (fault_at _ _ _ at) 0 ≡ true = ap (λ k. eqb k 0) (sym c.in_default.ensures) in
    let next : at + (6 + c.word_at.result) ≡ at + 6 + length_at c.args.image.now at = omega (arith, c.word_at.ensures) in
    rw (next, c.half_at-before.ensures) (
      whole_record _ _ _ _ c.loop-at.invariant.0 ok,
      sym (fault-later _ _ _ _ c.loop-at-test.true ok) ∙ c.loop-at.invariant.1,
    )

pub returns : goal.returns
returns c =
    let small = le-ltb 65536 _ c.if-image-gt65536.false in
    let some = sym c.is_empty.ensures ∙ c.if-is_empty.false in
    let gone = image-read _ _ small some ∙ sym c.loop-at.invariant.1 ∙ fault-none _ _ _ _ c.loop-at-test.false in
    record { number = rw gone; at = rw gone }
