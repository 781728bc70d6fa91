-- By cases: not taken, one clock; taken, the first of two (entered), and the second if it is due (ended).
use Rattle.trm_reference.specs.Interrupt.{stalled}
use Rattle.trm_reference.specs.Execute.{branch_taken}
use Rattle.trm_clock_execute.proofs.Laws.{execute-not_taken}
use Rattle.trm_clock_laws.proofs.Laws.Kinds.{kind-taken, kind-not_taken}
use Rattle.trm_clock_laws.proofs.Laws.First.{first-second, first_quick}
use native.Mathlib.Omega.{arith}
use mathlib.Core.Path.{refl, sym, ap, ◌∙◌}
use lib.ListN.{length, get_or}
use Rattle.trm_clock_laws.proofs.Laws.Facts.{facts}
use Rattle.trm_clock_laws.proofs.Laws.Worked.{ends-worked}
use Rattle.trm_clock_laws.proofs.Laws.Words.{shows, other-made}
use Rattle.trm_run_phases.proofs.Laws.Here.{ready-here}
use Rattle.trm_run_phases.proofs.Laws.Next.{quiet-answered, few-done, due_true, entered, ended}
use Rattle.trm_run_phases.proofs.Laws.Next.{seen, good-next, good-under}
use Rattle.trm_run_words.proofs.inner.words_turn.branch.Goals as goal

pub pass-requires : goal.pass-requires
pass-requires c =
    let u = c.requires.0 in
    let o = c.requires.2 in
    let gd = good-under _ _ _ _ _ _ u in (
      gd.widths,
      gd.counts,
      execute-not_taken _ _ 0 o (sym c.branch_taken.ensures ∙ c.if-not-branch_taken.true),
    )

pub quietly-requires : goal.quietly-requires
quietly-requires c =
    let u = c.requires.0 in
    let b = c.requires.1 in
    let k = few-done _ _ _ _ _ _ _ _ _ _ u.so b.more in
    (k.0, k.1, omega arith)

pub returns-then-not-branch_taken : goal.returns-then-not-branch_taken
returns-then-not-branch_taken c =
    let u = c.requires.0 in
    let b = c.requires.1 in
    let o = c.requires.2 in
    let gd = good-under _ _ _ _ _ _ u in
    let f = facts _ _ _ _ _ gd in (
      λ p is bs ws x₀ at r. quiet-answered p _ is x₀ _ _ _ _ bs ws r b.more _ 1 _ _ _
          (ready-here p _ _ _ _ _ _ at b.unheld b.idle b.none _
          (ends-worked _ _ _ _ _ _ _ (first_quick _ _ _ _ _ f b.idle (kind-not_taken _ _ _ o (sym
          c.branch_taken.ensures ∙ c.if-not-branch_taken.true))
          ).0 _ (other-made _ _ _ _ _ _ _ (λ z. omega (arith, o, z)) (λ z. omega (arith, o, z)) (λ z. omega (arith, o, z))
          (shows c.pass.result 0 0) _ _ refl c.pass.ensures.0 c.pass.ensures.1))) _ c.quietly.ensures,
      rw
          c.quietly.ensures (omega arith),
    )

pub enters-h-requires : goal.enters-h-requires
enters-h-requires c =
    let u = c.requires.0 in
    let b = c.requires.1 in
    let gd = good-under _ _ _ _ _ _ u in
    ((few-done _ _ _ _ _ _ _ _ _ _ u.so b.more).0, gd.counts)

pub returns-then-not-due : goal.returns-then-not-due
returns-then-not-due c =
    let u = c.requires.0 in
    let b = c.requires.1 in
    let o = c.requires.2 in
    let gd = good-under _ _ _ _ _ _ u in
    let f = facts _ _ _ _ _ gd in
    let t = sym c.branch_taken.ensures ∙ c.if-not-branch_taken.false in
    let d = first-second _ _ _ _ _ f b.idle (kind-taken _ _ _ o t) in
    let e = c.enters-h.ensures in
    (entered _ _ _ _ _ _ b _ e d, rw e (omega arith))

pub branch-h-requires : goal.branch-h-requires
branch-h-requires c =
    let u = c.requires.0 in
    let b = c.requires.1 in
    let o = c.requires.2 in
    let gd = good-under _ _ _ _ _ _ u in
    let f = facts _ _ _ _ _ gd in
    let t = sym c.branch_taken.ensures ∙ c.if-not-branch_taken.false in
    let d = first-second _ _ _ _ _ f b.idle (kind-taken _ _ _ o t) in
    let e = c.enters-h.ensures in
    let k = good-next _ _ _ _ _ _ b _ e d u in (
      k.widths,
      k.counts,
      o,
      ap (λ v. branch_taken c.args.w v)
          (seen _ _ _ _ _ c.args.store.now b _ e d) ∙ t,
    )

pub quietly-requires-2 : goal.quietly-requires-2
quietly-requires-2 c =
    let u = c.requires.0 in
    let b = c.requires.1 in
    let o = c.requires.2 in
    let gd = good-under _ _ _ _ _ _ u in
    let f = facts _ _ _ _ _ gd in
    let t = sym c.branch_taken.ensures ∙ c.if-not-branch_taken.false in
    let d = first-second _ _ _ _ _ f b.idle (kind-taken _ _ _ o t) in
    let e = c.enters-h.ensures in
    let y = due_true c.enters-h.result.at (length c.args.pins.now) (stalled (get_or c.args.pins.now c.enters-h.result.at 0)) c.due.result
    c.due.ensures c.if-not-due.false in
    let k = few-done _ _ _ _ _ _ _ _ _ _ (entered _ _ _ _ _ _ b _ e d _ _ _ _ _ u.word u.so) y.0 in
    (k.0, k.1, omega arith)

pub returns : goal.returns
returns c =
    let u = c.requires.0 in
    let b = c.requires.1 in
    let o = c.requires.2 in
    let gd = good-under _ _ _ _ _ _ u in
    let f = facts _ _ _ _ _ gd in
    let t = sym c.branch_taken.ensures ∙ c.if-not-branch_taken.false in
    let d = first-second _ _ _ _ _ f b.idle (kind-taken _ _ _ o t) in
    let e = c.enters-h.ensures in
    let y = due_true c.enters-h.result.at (length c.args.pins.now) (stalled (get_or c.args.pins.now c.enters-h.result.at 0)) c.due.result
    c.due.ensures c.if-not-due.false in (
      ended _ _ _ _ _ _ b _ e d y.0 y.1 _ _ (λ i. other-made _ _ _ _ _ _ i (λ z. omega (arith, o, z)) (λ z. omega (
        arith,
        o,
        z,
      )) (λ z. omega (arith, o, z)) (shows c.branch-h.result 0 0) _ _ refl c.branch-h.ensures.0 c.branch-h.ensures.1) _ c.quietly-2.ensures,
      rw (c.quietly-2.ensures, e) (omega arith),
    )
