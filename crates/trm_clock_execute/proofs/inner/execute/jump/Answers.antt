use Rattle.std.proofs.Common.{arith}
use Rattle.std.proofs.lemmas.Grind.{common_steps}
use Rattle.trm_reference.specs.Execute.{execute, jumped, returned}
use Rattle.trm_core.proofs.Laws.Rule.{widths-from}
use Rattle.trm_clock_execute.proofs.inner.execute.jump.Goals as goal

pub next_pc-link-requires : goal.next_pc-link-requires
next_pc-link-requires c = (widths-from _ c.requires.0).pc

pub returns-in_default : goal.returns-in_default
unfolding execute jumped returned
returns-in_default c = grind (arith, common_steps)
