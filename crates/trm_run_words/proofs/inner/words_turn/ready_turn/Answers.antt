use Rattle.trm_run_phases.proofs.Laws.Next.{rests, turned-from, at_from, long-from, unraised, past-raised}
use Prim.Native.Nat.{◌≤◌}
use mathlib.Core.Path.{◌≡◌, refl, ap, subst, ◌∙◌}
use Rattle.trm_run_phases.proofs.Laws.Did.{did-since, did-on}
use Rattle.trm_run_phases.proofs.Laws.Here.{ready-here}
use Rattle.trm_run_phases.proofs.Laws.Next.{quiet-answered, few-done}
use Rattle.trm_run_phases.proofs.Laws.Next.{good-at_turn}
use Rattle.trm_run_phases.specs.declared.inner.going.Going.{Going}
use Rattle.trm_reference.specs.Interrupt.{interrupt_chosen}
use Rattle.trm_clock_laws.proofs.Laws.Kinds.{unstepped_of, kind-short}
use Rattle.trm_clock_laws.proofs.Laws.First.{first_quick, idle-running}
use native.Mathlib.Omega.{arith}
use lib.ListN.{get_or}
use Rattle.trm_reference.specs.Interrupt.{stalled}
use Rattle.trm_clock_laws.proofs.Laws.Facts.{facts}
use Rattle.trm_clock_laws.proofs.Laws.Worked.{ends-worked}
use Rattle.trm_clock_laws.proofs.Laws.Words.{shows, other-made}
use Rattle.trm_run_words.proofs.inner.words_turn.ready_turn.Goals as goal

pub at_rest-h-requires : goal.at_rest-h-requires
at_rest-h-requires c =
    let c-pre = c.requires in
    rests _ _ _ _ _ _ _ _ _ c-pre.0 c-pre.1.idle

pub loop-h-init : goal.loop-h-init
loop-h-init c =
    let c-pre = c.requires in (
      λ x₀ k. k,
      ap (λ (t : Going). t.scalars.running.phase) c.at_rest-h.ensures ∙ c-pre.1.idle,
      omega arith,
      λ _. refl,
      λ _. refl,
    )

pub bounds-pins-at : goal.bounds-pins-at
bounds-pins-at c =
    c.loop-h-test.true

pub shape_of-store-then-raised : goal.shape_of-store-then-raised
shape_of-store-then-raised c =
    let c-args = c.args in let c-pre = c.requires in
    (long-from _ _ _ c-args.g _ _ _ _ _ _ c-pre.0 c.at_rest-h.ensures _ _ _ c.loop-h.invariant.0).store

pub shape_of-bytes-then-raised : goal.shape_of-bytes-then-raised
shape_of-bytes-then-raised c =
    let c-args = c.args in let c-pre = c.requires in
    (long-from _ _ _ c-args.g _ _ _ _ _ _ c-pre.0 c.at_rest-h.ensures _ _ _ c.loop-h.invariant.0).bytes

pub shape_of-outs-then-raised : goal.shape_of-outs-then-raised
shape_of-outs-then-raised c =
    let c-args = c.args in let c-pre = c.requires in
    (long-from _ _ _ c-args.g _ _ _ _ _ _ c-pre.0 c.at_rest-h.ensures _ _ _ c.loop-h.invariant.0).words

pub returns-then-raised : goal.returns-then-raised
returns-then-raised c =
    let c-pre = c.requires in let c-args = c.args in
    let a = c-pre.0 in
    let b = c-pre.1 in
    let n = c.loop-h.invariant in
    let e = c.at_rest-h.ensures in (
      turned-from _ _ _ c-args.g _ _ _ _ _ _ a e _ _ _ n.0,
      did-since _ _ _ _ _ (past-raised c-args.pins.now c-args.g c.loop-h.h.at c.loop-h.h.scalars.status c.raised.result
          b (subst (λ (t : Going). t.at ≤
          c.loop-h.h.at) e n.2) (subst (λ (t : Going). c.loop-h.h.at ≡ t.at → c.loop-h.h.scalars.status ≡ t.scalars.status) e n.3)
          c.raised.ensures c.if-raised.true) n.4,
    )

pub short-requires : goal.short-requires
short-requires c =
    let c-pre = c.requires in
    let c-args = c.args in
    let a = c-pre.0 in
    let n = c.loop-h.invariant in
    let e = c.at_rest-h.ensures in
    let ah = at_from _ _ _ c-args.g _ _ _ _ _ _ a e _ _ _ n.0 in
    let gd = good-at_turn _ _ _ _ _ _ _ _ _ _ ah c.word_at-w.ensures in
    let f = facts _ _ _ _ _ gd in (
      gd.widths,
      gd.counts,
      idle-running _ _ _ _ _ f n.1,
      omega (arith, c.if-w-lt8.true),
      unstepped_of _ (λ z. omega
          (arith, c.if-w-lt8.true, z)) (λ z. omega (arith, c.if-w-lt8.true, z)),
    )

pub quietly-h-requires : goal.quietly-h-requires
quietly-h-requires c =
    let c-pre = c.requires in
    let c-args = c.args in
    let a = c-pre.0 in
    let n = c.loop-h.invariant in
    let e = c.at_rest-h.ensures in
    let ah = at_from _ _ _ c-args.g _ _ _ _ _ _ a e _ _ _ n.0 in
    let k = few-done _ _ _ _ _ _ _ _ _ _ ah.so c.loop-h-test.true in
    (k.0, k.1, omega arith)

pub loop-h-smaller-then-w-lt8 : goal.loop-h-smaller-then-w-lt8
loop-h-smaller-then-w-lt8 c =
    rw c.quietly-h.ensures (omega (arith, c.loop-h-test.true))

pub loop-h-preserved-then-w-lt8 : goal.loop-h-preserved-then-w-lt8
loop-h-preserved-then-w-lt8 c =
    let c-pre = c.requires in
    let c-args = c.args in
    let a = c-pre.0 in
    let n = c.loop-h.invariant in
    let e = c.at_rest-h.ensures in
    let ah = at_from _ _ _ c-args.g _ _ _ _ _ _ a e _ _ _ n.0 in
    let y = unraised (stalled (get_or c-args.pins.now c.loop-h.h.at 0))
    (interrupt_chosen c.loop-h.h.scalars.status (get_or c-args.pins.now c.loop-h.h.at 0)) c.raised.result c.raised.ensures
    c.if-raised.false in
    let gd = good-at_turn _ _ _ _ _ _ _ _ _ _ ah c.word_at-w.ensures in
    let f = facts _ _ _ _ _ gd in (
      λ x₀ k. quiet-answered _ _ _ x₀ _ _ _ _ _ _ (n.0 x₀ k) c.loop-h-test.true _ 1 _ _ _ (ready-here _ _ _ _ _ _ _ c.word_at-w.ensures
          y.0 n.1 y.1 _
          (ends-worked _ _ _ _ _ _ _ (first_quick _ _ _ _ _ f n.1 (kind-short _ _ _ (omega (
            arith,
            c.if-w-lt8.true,
          )) (unstepped_of _ (λ z. omega (arith, c.if-w-lt8.true, z)) (λ z. omega (
            arith,
            c.if-w-lt8.true,
            z,
          ))))).0 _ (other-made _ _ _ _ _ _ _ (λ z. omega (arith, c.if-w-lt8.true, z)) (λ
          z. omega (arith, c.if-w-lt8.true, z)) (λ z. omega (arith, c.if-w-lt8.true, z))
          (shows c.short.result 0 0) _ _ refl c.short.ensures.0 c.short.ensures.1))) _ c.quietly-h.ensures,
      rw (c.quietly-h.ensures, c.short.ensures.0),
      rw c.quietly-h.ensures (omega (arith, n.2)),
      λ z. absurd
          (omega (arith, n.2, ap (λ (t : Going). t.at) c.quietly-h.ensures, z)),
      n.4,
    )

pub begin-h-requires : goal.begin-h-requires
begin-h-requires c =
    let c-pre = c.requires in let c-args = c.args in
    let a = c-pre.0 in
    let n = c.loop-h.invariant in
    let e = c.at_rest-h.ensures in
    let ah = at_from _ _ _ c-args.g _ _ _ _ _ _ a e _ _ _ n.0 in
    let y = unraised (stalled (get_or c-args.pins.now c.loop-h.h.at 0))
    (interrupt_chosen c.loop-h.h.scalars.status (get_or c-args.pins.now c.loop-h.h.at 0)) c.raised.result
    c.raised.ensures c.if-raised.false in (
      ah,
      c.word_at-w.ensures,
      record {
        more = c.loop-h-test.true;
        unheld = y.0;
        none = y.1;
        idle = n.1;
      },
      omega (
        arith,
        c.if-w-lt8.false,
      ),
    )

pub shape_of-store-then-h-at : goal.shape_of-store-then-h-at
shape_of-store-then-h-at c =
    let c-args = c.args in let c-pre = c.requires in
    (long-from _ _ _ c-args.g _ _ _ _ _ _ c-pre.0 c.at_rest-h.ensures _ _ _ (λ x₀ k. c.begin-h.ensures.0
    x₀ (c.loop-h.invariant.0 x₀ k))).store

pub shape_of-bytes-then-h-at : goal.shape_of-bytes-then-h-at
shape_of-bytes-then-h-at c =
    let c-args = c.args in let c-pre = c.requires in
    (long-from _ _ _ c-args.g _ _ _ _ _ _ c-pre.0 c.at_rest-h.ensures _ _ _ (λ x₀ k. c.begin-h.ensures.0
    x₀ (c.loop-h.invariant.0 x₀ k))).bytes

pub shape_of-outs-then-h-at : goal.shape_of-outs-then-h-at
shape_of-outs-then-h-at c =
    let c-args = c.args in let c-pre = c.requires in
    (long-from _ _ _ c-args.g _ _ _ _ _ _ c-pre.0 c.at_rest-h.ensures _ _ _ (λ x₀ k. c.begin-h.ensures.0
    x₀ (c.loop-h.invariant.0 x₀ k))).words

pub returns-then-h-at : goal.returns-then-h-at
returns-then-h-at c =
    let c-args = c.args in let c-pre = c.requires in
    let n = c.loop-h.invariant in
    let e = c.at_rest-h.ensures in (
      turned-from _ _ _ c-args.g _ _ _ _ _ _ c-pre.0 e _ _ _ (λ x₀ k. c.begin-h.ensures.0 x₀ (n.0 x₀ k)),
      did-on _ _ _ _ _ _ _ (omega (arith, n.2, ap (λ (t : Going). t.at) e)) n.4 c.begin-h.ensures.1,
    )

pub shape_of-store-then-h-ne0 : goal.shape_of-store-then-h-ne0
shape_of-store-then-h-ne0 c =
    let c-args = c.args in let c-pre = c.requires in
    (long-from _ _ _ c-args.g _ _ _ _ _ _ c-pre.0 c.at_rest-h.ensures _ _ _ (λ x₀ k. c.begin-h.ensures.0
    x₀ (c.loop-h.invariant.0 x₀ k))).store

pub shape_of-bytes-then-h-ne0 : goal.shape_of-bytes-then-h-ne0
shape_of-bytes-then-h-ne0 c =
    let c-args = c.args in let c-pre = c.requires in
    (long-from _ _ _ c-args.g _ _ _ _ _ _ c-pre.0 c.at_rest-h.ensures _ _ _ (λ x₀ k. c.begin-h.ensures.0
    x₀ (c.loop-h.invariant.0 x₀ k))).bytes

pub shape_of-outs-then-h-ne0 : goal.shape_of-outs-then-h-ne0
shape_of-outs-then-h-ne0 c =
    let c-args = c.args in let c-pre = c.requires in
    (long-from _ _ _ c-args.g _ _ _ _ _ _ c-pre.0 c.at_rest-h.ensures _ _ _ (λ x₀ k. c.begin-h.ensures.0
    x₀ (c.loop-h.invariant.0 x₀ k))).words

pub returns-then-h-ne0 : goal.returns-then-h-ne0
returns-then-h-ne0 c =
    let c-args = c.args in let c-pre = c.requires in
    let n = c.loop-h.invariant in
    let e = c.at_rest-h.ensures in (
      turned-from _ _ _ c-args.g _ _ _ _ _ _ c-pre.0 e _ _ _ (λ x₀ k. c.begin-h.ensures.0 x₀ (n.0 x₀ k)),
      did-on _ _ _ _ _ _ _ (omega (arith, n.2, ap (λ (t : Going). t.at) e)) n.4 c.begin-h.ensures.1,
    )

pub at_rest-h-requires-in-loop-h : goal.at_rest-h-requires-in-loop-h
at_rest-h-requires-in-loop-h c =
    let c-args = c.args in let c-pre = c.requires in
    let n = c.loop-h.invariant in
    let e = c.at_rest-h.ensures in
    rests _ _ _ _ _ _ _ _ _ (at_from _ _ _ c-args.g _ _ _ _ _ _ c-pre.0 e _ _ _ (λ x₀ k. c.begin-h.ensures.0 x₀ (n.0 x₀ k)))
    c.if-h-ne0.false

pub loop-h-smaller : goal.loop-h-smaller
loop-h-smaller c =
    rw c.at_rest-h-in-loop-h.ensures (omega (arith, c.begin-h.ensures.1.onward, c.if-h-at.false, c.loop-h-test.true))

pub loop-h-preserved : goal.loop-h-preserved
loop-h-preserved c =
    let n = c.loop-h.invariant in
    let d = c.begin-h.ensures.1 in
    rw c.at_rest-h-in-loop-h.ensures (
      (λ x₀ k. c.begin-h.ensures.0 x₀ (n.0 x₀ k)),
      c.if-h-ne0.false,
      omega (arith, n.2, d.onward),
      (λ z. absurd (omega (arith, n.2, d.onward, c.if-h-at.false, z))),
      (λ t. d.mute t ∙ n.4 t),
    )

pub shape_of-store : goal.shape_of-store
shape_of-store c =
    let c-args = c.args in
    let c-pre = c.requires in
    (long-from _ _ _ c-args.g _ _ _ _ _ _ c-pre.0 c.at_rest-h.ensures _ _ _ c.loop-h.invariant.0).store

pub shape_of-bytes : goal.shape_of-bytes
shape_of-bytes c =
    let c-args = c.args in
    let c-pre = c.requires in
    (long-from _ _ _ c-args.g _ _ _ _ _ _ c-pre.0 c.at_rest-h.ensures _ _ _ c.loop-h.invariant.0).bytes

pub shape_of-outs : goal.shape_of-outs
shape_of-outs c =
    let c-args = c.args in
    let c-pre = c.requires in
    (long-from _ _ _ c-args.g _ _ _ _ _ _ c-pre.0 c.at_rest-h.ensures _ _ _ c.loop-h.invariant.0).words

pub returns : goal.returns
returns c =
    let c-pre = c.requires in
    let c-args = c.args in
    let a = c-pre.0 in
    let b = c-pre.1 in
    let n = c.loop-h.invariant in
    let e = c.at_rest-h.ensures in
    (turned-from _ _ _ c-args.g _ _ _ _ _ _ a e _ _ _ n.0, did-since _ _ _ _ _ (omega (arith, b.more, c.loop-h-test.false)) n.4)
