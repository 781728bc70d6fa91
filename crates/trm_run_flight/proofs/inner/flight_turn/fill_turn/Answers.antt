use native.Mathlib.Omega.{arith}
use Rattle.trm_run_phases.proofs.Laws.Next.{under_at}
use Rattle.trm_run_flight.proofs.Laws.Flight.{none-due, more-there, good-there, room-there, ended-there}
use Rattle.trm_run_flight.proofs.inner.flight_turn.fill_turn.Goals as goal

pub fill_ahead-h-requires : goal.fill_ahead-h-requires
fill_ahead-h-requires c =
    let pre = c.requires in
    (under_at _ _ _ _ _ _ _ pre.0 pre.1, pre.2)

pub returns-then-not-due : goal.returns-then-not-due
returns-then-not-due c =
    let pre = c.requires in
    let m = c.fill_ahead-h.ensures in
    none-due _ _ _ _ _ _ _ _ _ _ pre.0 pre.1 _ _ _ m.0 m.1 _ c.due.ensures m.3 pre.3 pre.4 c.if-not-due.true

pub offset_bounds-inputs-at : goal.offset_bounds-inputs-at
offset_bounds-inputs-at c =
    let pre = c.requires in
    let m = c.fill_ahead-h.ensures in
    omega (
      arith,
      more-there _ _ _ _ _ _ _ _ _ _ pre.0 pre.1 _ _ _ m.0 m.1 _ c.due.ensures c.if-not-due.false,
      pre.0.so.feed.many,
    )

pub bounds-inputs-at : goal.bounds-inputs-at
bounds-inputs-at c =
    let pre = c.requires in
    let m = c.fill_ahead-h.ensures in
    omega (
      arith,
      more-there _ _ _ _ _ _ _ _ _ _ pre.0 pre.1 _ _ _ m.0 m.1 _ c.due.ensures c.if-not-due.false,
      pre.0.so.feed.fed,
    )

pub end_fill-r-requires : goal.end_fill-r-requires
end_fill-r-requires c =
    let pre = c.requires in
    let m = c.fill_ahead-h.ensures in
    let due = c.if-not-due.false in (
      good-there _ _ _ _ _ _ _ _ _ _ pre.0 pre.1 _ _ _ m.0 m.1 _ c.due.ensures due,
      m.2,
      m.5
          (more-there _ _ _ _ _ _ _ _ _ _ pre.0 pre.1 _ _ _ m.0 m.1 _ c.due.ensures due),
    )

pub went-requires : goal.went-requires
went-requires c =
    let pre = c.requires in
    let m = c.fill_ahead-h.ensures in
    room-there _ _ _ _ _ _ _ _ _ _ pre.0 pre.1 _ _ _ m.0 m.1 _ c.due.ensures c.if-not-due.false
    (λ z. omega (arith, m.2, z)) _ _ _ _ c.end_fill-r.ensures

pub returns : goal.returns
returns c =
    let pre = c.requires in
    let m = c.fill_ahead-h.ensures in
    let e = c.went.ensures in
    ended-there _ _ _ _ _ _ _ _ _ _ pre.0 pre.1 _ _ _ m.0 m.1 _ c.due.ensures c.if-not-due.false
    (λ z. omega (arith, m.2, z)) _ _ _ _ c.end_fill-r.ensures (λ z. omega (arith, m.2, z)) m.3 _ _ _ e.0 e.1 e.2
