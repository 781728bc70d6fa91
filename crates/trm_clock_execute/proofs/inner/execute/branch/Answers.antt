use Rattle.trm_core.proofs.Laws.Rule.{widths-from}
use Rattle.trm_clock_execute.proofs.inner.execute.branch.Goals as goal

pub branch_target-requires : goal.branch_target-requires
branch_target-requires c = (widths-from _ c.requires.0).pc
