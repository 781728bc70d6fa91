use Rattle.trm_core.proofs.Laws.Rule.{widths-from}
use Rattle.trm_clock_execute.proofs.inner.execute.set_status.Goals as goal

pub next_pc-requires : goal.next_pc-requires
next_pc-requires c = (widths-from _ c.requires.0).pc
