-- An LD waits, where the run stops; else one clock of the clock history more (answered), which for the others has no answer (last-mute).
use mathlib.Core.Path.{sym, ◌∙◌}
use native.Mathlib.Omega.{arith}
use Rattle.trm_laws.proofs.Tests.{both}
use Rattle.trm_clock_laws.proofs.Laws.Facts.{facts}
use Rattle.trm_clock_laws.proofs.Laws.Flight.{due-ends}
use Rattle.trm_clock_laws.proofs.Laws.Late.{late}
use Rattle.trm_clock_laws.proofs.Laws.Worked.{ends-worked}
use Rattle.trm_run_phases.proofs.Laws.Did.{did_none, did-answered}
use Rattle.trm_run_phases.proofs.Laws.Here.{flight_here}
use Rattle.trm_run_phases.proofs.Laws.Next.{answered, room, good-at_turn}
use Rattle.trm_run_phases.proofs.Laws.Reached.{byte-free}
use Rattle.trm_run_flight.proofs.Laws.Flight.{last-mute}
use Rattle.trm_run_flight.proofs.inner.flight_turn.last_turn.Goals as goal

pub returns-then-load_waits : goal.returns-then-load_waits
returns-then-load_waits c =
    (λ x₀ k. k, did_none _ _ _ (both _ _ (λ s _. s) (sym c.load_waits.ensures ∙ c.if-load_waits.true)))

pub offset_bounds-inputs-at : goal.offset_bounds-inputs-at
offset_bounds-inputs-at c =
    let pre = c.requires in
    omega (arith, pre.2, pre.0.so.feed.many)

pub bounds-inputs-at : goal.bounds-inputs-at
bounds-inputs-at c =
    let pre = c.requires in
    omega (arith, pre.2, pre.0.so.feed.fed)

pub last_clock-r-requires : goal.last_clock-r-requires
last_clock-r-requires c =
    let pre = c.requires in
    let gd = good-at_turn _ _ _ _ _ _ _ _ _ _ pre.0 pre.1 in
    (gd, late _ _ _ _ _ (facts _ _ _ _ _ gd) pre.4 pre.5 pre.6 pre.7 pre.8)

pub went-requires : goal.went-requires
went-requires c =
    let pre = c.requires in
    let f = facts _ _ _ _ _ (good-at_turn _ _ _ _ _ _ _ _ _ _ pre.0 pre.1) in
    room _ _ _ _ _ _ _ _ _ _ pre.0.so pre.2 _ _ _ _ (flight_here _ _ _ _ _ _ _ pre.1 pre.3 pre.4 _
    (ends-worked _ _ _ _ _ _ _ (due-ends _ _ _ _ _ f pre.4 pre.5 pre.6 pre.7 pre.8).0 _
    c.last_clock-r.ensures))

pub returns : goal.returns
returns c =
    let pre = c.requires in
    let f = facts _ _ _ _ _ (good-at_turn _ _ _ _ _ _ _ _ _ _ pre.0 pre.1) in
    let v = ends-worked _ _ _ _ _ _ _ (due-ends _ _ _ _ _ f pre.4 pre.5 pre.6 pre.7 pre.8).0 _
    c.last_clock-r.ensures in
    let e = c.went.ensures in (
      λ x₀ k. answered _ _ _ x₀ _ _ _ _ _ _ k pre.2 _ _ _ _ (flight_here _ _ _ _ _ _ _ pre.1 pre.3 pre.4 _ v) _ _ _ e.0
          e.1 e.2,
      did-answered _ _ _ _ _ _ _ (rw e.0 (omega arith)) (byte-free _ _ _ _ _ _ _ pre.0.so pre.2) e.1
          (last-mute _ _ _ _ _ _ _ (late _ _ _ _ _ f pre.4 pre.5 pre.6 pre.7 pre.8) _ _
          c.load_waits.ensures
          c.if-load_waits.false _ v),
    )
