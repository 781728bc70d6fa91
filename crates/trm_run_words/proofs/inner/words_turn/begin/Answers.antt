-- By cases of the operation; what is left after 11 to 15 is 8 to 10 (arithmetic-left).
use Rattle.trm_run_phases.proofs.Laws.Did.{did-quiet, did_none, did-worked, other-inside, store-inside, stops_so, stops-not, not_so}
use Rattle.trm_run_phases.proofs.Laws.Here.{ready-here}
use Rattle.trm_run_phases.proofs.Laws.Next.{answered, room, entered}
use Rattle.trm_run_phases.proofs.Laws.Next.{opens}
use Rattle.trm_clock_laws.proofs.Laws.Words.{arithmetic-left}
use Rattle.trm_clock_laws.proofs.Laws.Kinds.{kind-call}
use Rattle.trm_clock_laws.proofs.Laws.First.{first-second}
use native.Mathlib.Omega.{arith}
use Rattle.trm_run_words.proofs.inner.words_turn.begin.Goals as goal

pub offset_bounds-inputs-at : goal.offset_bounds-inputs-at
offset_bounds-inputs-at c =
    let c-pre = c.requires in
    let b = c-pre.2 in
    omega (arith, b.more, c-pre.0.so.feed.many)

pub bounds-inputs-at : goal.bounds-inputs-at
bounds-inputs-at c =
    let c-pre = c.requires in
    let b = c-pre.2 in
    omega (arith, b.more, c-pre.0.so.feed.fed)

pub first_control-r-requires : goal.first_control-r-requires
first_control-r-requires c =
    let c-pre = c.requires in
    let b = c-pre.2 in
    let q = opens _ _ _ _ _ _ _ _ _ _ c-pre.0 c-pre.1 b in
    (q.good, b.idle, c.in-11.is)

pub went-requires : goal.went-requires
went-requires c =
    let c-pre = c.requires in
    let b = c-pre.2 in
    room _ _ _ _ _ _ _ _ _ _ c-pre.0.so b.more _ _ _ _ (ready-here _ _ _ _ _ _ _ c-pre.1 b.unheld b.idle b.none _
    c.first_control-r.ensures)

pub load-requires : goal.load-requires
load-requires c =
    let c-pre = c.requires in
    let b = c-pre.2 in
    (c-pre.0, c-pre.1, b, c.in-12.is)

pub store_waits-requires : goal.store_waits-requires
store_waits-requires c =
    let c-pre = c.requires in
    let q = opens _ _ _ _ _ _ _ _ _ _ c-pre.0 c-pre.1 c-pre.2 in
    q.good.legal

pub returns-then-store_waits : goal.returns-then-store_waits
returns-then-store_waits c =
    (λ x₀ k. k, did_none _ _ _ (stops_so _ _ _ c.store_waits.ensures c.if-store_waits.true))

pub offset_bounds-inputs-at-in-13 : goal.offset_bounds-inputs-at-in-13
offset_bounds-inputs-at-in-13 c =
    let c-pre = c.requires in
    let b = c-pre.2 in
    omega (arith, b.more, c-pre.0.so.feed.many)

pub bounds-inputs-at-in-13 : goal.bounds-inputs-at-in-13
bounds-inputs-at-in-13 c =
    let c-pre = c.requires in
    let b = c-pre.2 in
    omega (arith, b.more, c-pre.0.so.feed.fed)

pub first_store-r-requires : goal.first_store-r-requires
first_store-r-requires c =
    let c-pre = c.requires in
    let b = c-pre.2 in
    let q = opens _ _ _ _ _ _ _ _ _ _ c-pre.0 c-pre.1 b in
    (q.good, b.idle, c.in-13.is)

pub went-requires-in-13 : goal.went-requires-in-13
went-requires-in-13 c =
    let c-pre = c.requires in
    let b = c-pre.2 in
    room _ _ _ _ _ _ _ _ _ _ c-pre.0.so b.more _ _ _ _ (ready-here _ _ _ _ _ _ _ c-pre.1 b.unheld b.idle b.none _
    c.first_store-r.ensures)

pub branch-g-requires : goal.branch-g-requires
branch-g-requires c =
    let c-pre = c.requires in
    let b = c-pre.2 in
    let q = opens _ _ _ _ _ _ _ _ _ _ c-pre.0 c-pre.1 b in
    (q.under, b, c.in-14.is)

pub offset_bounds-inputs-at-in_default : goal.offset_bounds-inputs-at-in_default
offset_bounds-inputs-at-in_default c =
    let c-pre = c.requires in
    let b = c-pre.2 in
    omega (arith, b.more, c-pre.0.so.feed.many)

pub bounds-inputs-at-in_default : goal.bounds-inputs-at-in_default
bounds-inputs-at-in_default c =
    let c-pre = c.requires in
    let b = c-pre.2 in
    omega (arith, b.more, c-pre.0.so.feed.fed)

pub first_arithmetic-r-requires : goal.first_arithmetic-r-requires
first_arithmetic-r-requires c =
    let c-pre = c.requires in
    let b = c-pre.2 in
    let q = opens _ _ _ _ _ _ _ _ _ _ c-pre.0 c-pre.1 b in
    (q.good, b.idle, c-pre.3, arithmetic-left _ c.in_default.in_default-own.rest)

pub went-requires-in_default : goal.went-requires-in_default
went-requires-in_default c =
    let c-pre = c.requires in
    let b = c-pre.2 in
    room _ _ _ _ _ _ _ _ _ _ c-pre.0.so b.more _ _ _ _ (ready-here _ _ _ _ _ _ _ c-pre.1 b.unheld b.idle b.none _
    c.first_arithmetic-r.ensures)

pub enters-requires : goal.enters-requires
enters-requires c =
    let c-pre = c.requires in
    let b = c-pre.2 in
    let q = opens _ _ _ _ _ _ _ _ _ _ c-pre.0 c-pre.1 b in
    (q.few.0, q.good.counts)

pub returns-in-11 : goal.returns-in-11
returns-in-11 c =
    let c-pre = c.requires in
    let b = c-pre.2 in (
      λ x₀ k. answered _ _ _ x₀ _ _ _ _ _ _ k b.more _ _ _ _ (ready-here _ _ _ _ _ _ _ c-pre.1 b.unheld b.idle b.none _
          c.first_control-r.ensures) _ _ _ c.went.ensures.0 c.went.ensures.1 c.went.ensures.2,
      did-worked _ _ _ _ _ _ _ _ _ _ _ c-pre.0 b.more _ _ _ _ _ c.first_control-r.ensures _ c.went.ensures.0 _ c.went.ensures.1
          (λ _. other-inside _ _ _ (λ z. omega (arith, c.in-11.is, z)) (λ z. omega (arith, c.in-11.is, z))),
    )

pub returns-in-12 : goal.returns-in-12
returns-in-12 c =
    c.load.ensures

pub returns-else-store_waits : goal.returns-else-store_waits
returns-else-store_waits c =
    let c-pre = c.requires in
    let b = c-pre.2 in (
      λ x₀ k. answered _ _ _ x₀ _ _ _ _ _ _ k b.more _ _ _ _ (ready-here _ _ _ _ _ _ _ c-pre.1 b.unheld b.idle b.none _
          c.first_store-r.ensures) _ _ _ c.went-in-13.ensures.0 c.went-in-13.ensures.1 c.went-in-13.ensures.2,
      did-worked _ _ _ _ _ _ _ _ _ _ _ c-pre.0 b.more _ _ _ _ _ c.first_store-r.ensures _ c.went-in-13.ensures.0 _ c.went-in-13.ensures.1
          (λ t. store-inside _ _ _ c.in-13.is (not_so _ (stops-not _ _ _ c.store_waits.ensures c.if-store_waits.false t))),
    )

pub returns-in-14 : goal.returns-in-14
returns-in-14 c =
    let c-pre = c.requires in
    (λ x₀ k. c.branch-g.ensures.0 _ _ _ _ x₀ c-pre.1 k, did-quiet _ _ _ _ c.branch-g.ensures.1)

pub returns-in_default : goal.returns-in_default
returns-in_default c =
    let c-pre = c.requires in
    let ar = arithmetic-left _ c.in_default.in_default-own.rest in
    let b = c-pre.2 in (
      λ x₀ k. answered _ _ _ x₀ _ _ _ _ _ _ k b.more _ _ _ _ (ready-here _ _ _ _ _ _ _ c-pre.1 b.unheld b.idle b.none _
          c.first_arithmetic-r.ensures) _ _ _
          c.went-in_default.ensures.0 c.went-in_default.ensures.1 c.went-in_default.ensures.2,
      did-worked _ _ _ _ _ _ _ _ _ _ _ c-pre.0 b.more _ _ _ _ _ c.first_arithmetic-r.ensures _ c.went-in_default.ensures.0 _
          c.went-in_default.ensures.1
          (λ _. other-inside _ _ _ (λ z. omega (arith, ar, z)) (λ z. omega (arith, ar, z))),
    )

pub returns-in-15 : goal.returns-in-15
returns-in-15 c =
    let c-pre = c.requires in
    let b = c-pre.2 in
    let q = opens _ _ _ _ _ _ _ _ _ _ c-pre.0 c-pre.1 b in
    let e = c.enters.ensures in (
      λ x₀ k. entered _ _ _ _ _ _ b _ e (first-second _ _ _ _ _ q.facts b.idle (kind-call _ _ _
          c.in-15.is)) _ _ _ _ x₀ c-pre.1 k,
      did-quiet _ _ _ _ (rw e (omega arith)),
    )
