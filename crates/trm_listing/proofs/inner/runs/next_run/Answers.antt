use Prim.Native.Nat.{◌+◌}
use native.Mathlib.Omega.{arith}
use Rattle.trm_image.proofs.Laws.Parts.{payload-byte, payload-word}
use Rattle.trm_listing.proofs.inner.runs.next_run.Goals as goal

pub returns : goal.returns
returns c =
    let image = c.args.image.now in
    let at = c.args.q.at in
    let nine = c.requires.0 in
    rw (
      c.word_at-count.ensures,
      c.byte_at.ensures,
      c.word_at.ensures,
      c.part_at-payload.ensures,
      payload-word image at 0 (at + 6) (omega (arith, nine)) (omega arith),
      payload-byte image at 4 (at + 10) (omega (arith, nine)) (omega arith),
      payload-word image at 5 (at + 11) (omega (arith, nine)) (omega arith),
    )
