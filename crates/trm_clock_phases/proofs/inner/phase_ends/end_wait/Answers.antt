-- By wait-ends this is the last clock (ends-worked); phase 4 means an uncached access to memory (waiting-is). Then by load or store.
use mathlib.Core.Path.{sym, ◌∙◌}
use native.Mathlib.Omega.{arith}
use Rattle.trm_reference.specs.Charge.{uncached_charge}
use Rattle.trm_core.specs.Record.{gathered}
use Rattle.trm_core.proofs.Laws.Fit.{target_in, legal_small}
use Rattle.trm_core.proofs.Laws.Kind.{uncached, is-of}
use Rattle.trm_clock_execute.proofs.Laws.{execute-store}
use Rattle.trm_clock_laws.proofs.Laws.Facts.{facts}
use Rattle.trm_clock_laws.proofs.Laws.Flight.{waiting-is, wait-ends}
use Rattle.trm_clock_laws.proofs.Laws.Worked.{ends-worked}
use Rattle.trm_clock_laws.proofs.Laws.Words.{store-made, load-made, memory-at, load_if, store_if, without-cache, without_cache-store}
use Rattle.trm_clock_phases.proofs.inner.phase_ends.end_wait.Goals as goal

pub target_of-a-requires : goal.target_of-a-requires
target_of-a-requires c = c.requires.0.legal

pub offset_bounds-store-a : goal.offset_bounds-store-a
offset_bounds-store-a c =
    let f = facts _ _ _ _ _ c.requires.0 in
    let h = target_in c.args.w (gathered c.args.c c.args.regs.now) _ f.fit.npos in rw
    c.target_of-a.ensures (omega (arith, h, legal_small _ c.requires.0.legal))

pub bounds-store-a : goal.bounds-store-a
bounds-store-a c =
    let f = facts _ _ _ _ _ c.requires.0 in rw c.target_of-a.ensures (target_in _ _ _ f.fit.npos)

pub pass-requires : goal.pass-requires
pass-requires c = (
  c.requires.0.widths,
  c.requires.0.counts,
  execute-store _ _ 0 (store_if _ (sym c.is_store.ensures ∙
      c.if-is_store.true)),
)

pub returns-then-is_store : goal.returns-then-is_store
unfolding uncached_charge
returns-then-is_store c =
    let f = facts _ _ _ _ _
    c.requires.0 in let t = sym
    c.is_store.ensures ∙
    c.if-is_store.true in
    let is = is-of _ _ _ uncached (waiting-is _ _ _ _ _ f c.requires.1).0 in
    ends-worked _ _ _ _ _ _ _ (wait-ends _ _ _ _ _ f c.requires.1 c.requires.2).0 _
    (store-made _ _ _ _ _ _ _ (store_if _ t) is.memory _ _ _ _ _ (sym (without-cache _ _ _ _ is.through is.off))
    (rw (
      without_cache-store _ _ _ _ is.without t,
      ← c.target_of-a.ensures,
      ← c.stored_word.ensures,
    ))
    c.carried.ensures c.pass.ensures.0 c.pass.ensures.1)

pub peek-x-requires : goal.peek-x-requires
peek-x-requires c =
    let f = facts _ _ _ _ _ c.requires.0 in rw
    c.target_of-a.ensures (target_in _ _ _ f.fit.npos)

pub load-requires : goal.load-requires
load-requires c =
    let f = facts _
    _ _ _ _ c.requires.0 in (
      c.requires.0.widths,
      c.requires.0.counts,
      load_if _ _ _ (is-of _ _ _ uncached (waiting-is _ _ _ _ _ f c.requires.1).0).memory (sym
          c.is_store.ensures ∙
          c.if-is_store.false),
    )

pub returns : goal.returns
unfolding uncached_charge
returns c =
    let f = facts _ _ _ _ _ c.requires.0 in let t = sym
    c.is_store.ensures ∙ c.if-is_store.false in
    let is = is-of _ _ _ uncached (waiting-is _ _ _ _ _ f c.requires.1).0 in
    ends-worked _ _ _ _ _ _ _ (wait-ends _ _ _ _ _ f c.requires.1 c.requires.2).0 _
    (load-made _ _ _ _ _ _ _ (load_if _ _ _ is.memory t) _ _ (memory-at _ _ _ is.memory) (rw (←
    c.target_of-a.ensures) c.peek-x.ensures) _ _ _
    c.carried-2.ensures c.load.ensures.0 c.load.ensures.1)
