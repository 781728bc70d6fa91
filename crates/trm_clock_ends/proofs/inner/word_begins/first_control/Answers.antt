-- By cases, a law of Laws/Plans for each: jump, status set, cache turned off without and with a dirty line.
use mathlib.Core.Path.{refl, sym, ap, ◌∙◌}
use Rattle.trm_clock_laws.proofs.Laws.Facts.{facts}
use Rattle.trm_clock_laws.proofs.Laws.Kinds.{kind-jump, kind-status, kind_clearing}
use Rattle.trm_clock_laws.proofs.Laws.First.{first-second, first_quick, first-clean, first-clear, idle-running}
use Rattle.trm_clock_laws.proofs.Laws.Worked.{goes-worked, ends-worked}
use Rattle.trm_clock_laws.proofs.Laws.Words.{control-made, first_wait_is}
use Rattle.trm_clock_ends.proofs.inner.word_begins.first_control.Goals as goal

pub enters-requires : goal.enters-requires
enters-requires c = c.requires.0.counts

pub returns-then-w-eq1 : goal.returns-then-w-eq1
returns-then-w-eq1 c = goes-worked _ _ _ _ _ _ _ _ (first-second _ _ _ _ _ (facts _ _ _ _ _ c.requires.0) c.requires.1
    (kind-jump _ _ _ c.requires.2
    c.if-w-eq1.true))
    _ _ _ _ _ _ c.enters.ensures refl

pub set_status-requires : goal.set_status-requires
set_status-requires c = (
  c.requires.0.widths,
  c.requires.0.counts,
  c.requires.2,
  c.if-w-eq1.false,
)

pub returns-then-not-turns_cache_off : goal.returns-then-not-turns_cache_off
returns-then-not-turns_cache_off c = let off = sym
    c.turns_cache_off.ensures ∙ c.if-not-turns_cache_off.true in
    ends-worked _ _ _ _ _ _ _
    (first_quick _ _ _ _ _ (facts _ _ _ _ _ c.requires.0) c.requires.1 (kind-status _ _ _ c.requires.2
    c.if-w-eq1.false off)).0 _
    (control-made _ _ _ _ _ _ _ c.requires.2 _ _ _ _ (rw off) c.carried.ensures c.set_status.ensures.0
    c.set_status.ensures.1)

pub set_status-requires-then-d-eq0 : goal.set_status-requires-then-d-eq0
set_status-requires-then-d-eq0 c = (
  c.requires.0.widths,
  c.requires.0.counts,
  c.requires.2,
  c.if-w-eq1.false,
)

pub returns-then-d-eq0 : goal.returns-then-d-eq0
returns-then-d-eq0 c =
    let on = sym c.turns_cache_off.ensures ∙ c.if-not-turns_cache_off.false in
    ends-worked _ _ _ _ _ _ _
    (first-clean _ _ _ _ _ (facts _ _ _ _ _ c.requires.0) c.requires.1 (kind_clearing _ _ _ c.requires.2 on)
    (sym c.dirty_lines-d.ensures.0 ∙
    c.if-d-eq0.true)).0 _
    (control-made _ _ _ _ _ _ _ c.requires.2 _ _ _ _ (rw on c.empty_all.ensures) c.carried-then-d-eq0.ensures
    c.set_status-then-d-eq0.ensures.0
    c.set_status-then-d-eq0.ensures.1)

pub enters-requires-2 : goal.enters-requires-2
enters-requires-2 c =
    c.requires.0.counts

pub returns : goal.returns
returns c =
    let on = sym
    c.turns_cache_off.ensures ∙ c.if-not-turns_cache_off.false in
    goes-worked _ _ _ _ _ _ _ _ (first-clear _ _ _ _ _ (facts _ _ _ _ _ c.requires.0) c.requires.1 (kind_clearing _ _ _ c.requires.2 on)
    (λ z. c.if-d-eq0.false (c.dirty_lines-d.ensures.0 ∙ z))).goes _ _ _ _ _ _ c.enters-2.ensures
    (first_wait_is _ _ _ _ _ (ap (λ r. r.count) (idle-running _ _ _ _ _ (facts _ _ _ _ _ c.requires.0) c.requires.1)))
