-- The two shifted parts have no bit in common (law `rotated`).
use Rattle.std.proofs.Common.{◌∙◌}
use Rattle.trm_alu.proofs.Laws.Rotation.{rotated}
use Rattle.trm_alu.proofs.inner.bits.rotate.Goals as goal

pub returns : goal.returns
returns c = c.rotate_right.ensures ∙ rotated c.args.a c.args.b c.ranges.b.fits
