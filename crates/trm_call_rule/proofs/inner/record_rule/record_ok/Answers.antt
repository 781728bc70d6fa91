-- A passed phase bounds the count that `registers_ok` requires (stepped-count).
use mathlib.Core.Path.{sym, ◌∙◌}
use Rattle.trm_laws.proofs.Tests.{clash}
use Rattle.trm_call_rule.proofs.Laws.{stepped-count}
use Rattle.trm_call_rule.proofs.inner.record_rule.record_ok.Goals as goal
use Rattle.trm_call_rule.proofs.inner.record_rule.record_ok.Goals.{then-widths_ok, else-widths_ok}

pub registers_ok-requires : goal.registers_ok-requires
registers_ok-requires c =
    elim c.if-widths_ok.branch [
      | then-widths_ok w ↦ stepped-count _ _ _ _ _ (sym w.phase_ok.ensures ∙ (sym w.value-is ∙ c.if-phase_ok.true))
      | else-widths_ok w ↦ clash (sym w.if-widths_ok.false ∙ (sym w.value-is ∙ c.if-phase_ok.true))
    ]
