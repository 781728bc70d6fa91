use mathlib.Core.Path.{refl, ◌∙◌}
use native.Mathlib.Omega.{arith}
use Rattle.trm_laws.proofs.Tests.{bool_clash}
use Rattle.trm_run_phases.proofs.Laws.Did.{stops_so, did-going}
use Rattle.trm_run_phases.proofs.Laws.Next.{long-turned}
use Rattle.trm_run_machine.proofs.inner.turns.all_turns.Goals as goal

pub loop-g-init : goal.loop-g-init
loop-g-init c = ((λ x so. so), omega arith, λ _. refl)

pub turn-g-requires : goal.turn-g-requires
turn-g-requires c =
    let c-pre = c.requires in
    (record { from = c-pre.from; so = c.loop-g.invariant.0 _ c-pre.so }, c.loop-g-test.true)

pub shape_of-store-then-no_progress : goal.shape_of-store-then-no_progress
shape_of-store-then-no_progress c =
    let c-pre = c.requires in
    (long-turned _ _ _ _ _ _ _ _ _ (c-pre) (λ x so. c.turn-g.ensures.0 x (c.loop-g.invariant.0 x so))).store

pub shape_of-bytes-then-no_progress : goal.shape_of-bytes-then-no_progress
shape_of-bytes-then-no_progress c =
    let c-pre = c.requires in
    (long-turned _ _ _ _ _ _ _ _ _ (c-pre) (λ x so. c.turn-g.ensures.0 x (c.loop-g.invariant.0 x so))).bytes

pub shape_of-outs-then-no_progress : goal.shape_of-outs-then-no_progress
shape_of-outs-then-no_progress c =
    let c-pre = c.requires in
    (long-turned _ _ _ _ _ _ _ _ _ (c-pre) (λ x so. c.turn-g.ensures.0 x (c.loop-g.invariant.0 x so))).words

pub returns-then-no_progress : goal.returns-then-no_progress
returns-then-no_progress c =
    let n = c.loop-g.invariant in
    let d = c.turn-g.ensures.1 in (
      (λ x so. c.turn-g.ensures.0 x (n.0 x so)),
      (λ f. bool_clash _ (stops_so _ _ _ c.no_progress.ensures c.if-no_progress.true) f),
      omega (arith, n.1, d.onward),
      (λ t. d.mute t ∙ n.2 t),
    )

pub loop-g-smaller : goal.loop-g-smaller
loop-g-smaller c =
    omega (
      arith,
      did-going _ _ _ _ _ c.turn-g.ensures.1 c.no_progress.result c.no_progress.ensures c.if-no_progress.false,
      c.loop-g-test.true,
    )

pub loop-g-preserved : goal.loop-g-preserved
loop-g-preserved c =
    let n = c.loop-g.invariant in
    let d = c.turn-g.ensures.1 in
    ((λ x so. c.turn-g.ensures.0 x (n.0 x so)), omega (arith, n.1, d.onward), λ t. d.mute t ∙ n.2 t)

pub shape_of-store : goal.shape_of-store
shape_of-store c =
    let c-pre = c.requires in
    (long-turned _ _ _ _ _ _ _ _ _ (c-pre) c.loop-g.invariant.0).store

pub shape_of-bytes : goal.shape_of-bytes
shape_of-bytes c =
    let c-pre = c.requires in
    (long-turned _ _ _ _ _ _ _ _ _ (c-pre) c.loop-g.invariant.0).bytes

pub shape_of-outs : goal.shape_of-outs
shape_of-outs c =
    let c-pre = c.requires in
    (long-turned _ _ _ _ _ _ _ _ _ (c-pre) c.loop-g.invariant.0).words

pub returns : goal.returns
returns c =
    let n = c.loop-g.invariant in (n.0, (λ _. c.loop-g-test.false), n.1, n.2)
