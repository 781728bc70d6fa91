use mathlib.Core.Path.{◌≡◌, refl, sym, ◌∙◌}
use native.Mathlib.Omega.{arith}
use Prim.Native.Nat.{◌+◌}
use Rattle.trm_image.specs.Records.{length_at, records_of, record_at}
use Rattle.trm_image.proofs.Laws.Places.{found_here, found-later, found_none}
use Rattle.trm_image.proofs.inner.payload_part.record_at.Goals as goal

pub loop-place-init : goal.loop-place-init
unfolding record_at records_of
loop-place-init c = refl

pub returns-then-at-place : goal.returns-then-at-place
returns-then-at-place c = sym (found_here _ _ _ c.loop-place-test.true c.if-at-place.true) ∙ c.loop-place.invariant

pub loop-place-preserved : goal.loop-place-preserved
loop-place-preserved c =
    let next : c.loop-place.place + (6 + c.word_at.result) ≡ c.loop-place.place + 6 + length_at c.args.image.now c.loop-place.place =
    omega (arith, c.word_at.ensures) in
    rw next (sym (found-later _ _ _ c.loop-place-test.true c.if-at-place.false) ∙ c.loop-place.invariant)

pub returns : goal.returns
returns c = sym (found_none _ _ _ c.loop-place-test.false) ∙ c.loop-place.invariant
