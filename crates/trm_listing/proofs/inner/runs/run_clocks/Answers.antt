-- By cases of whether the run is held.
use mathlib.Core.Path.{refl}
use native.Mathlib.Omega.{arith}
use mathlib.Core.Path.{sym, ◌∙◌}
use Rattle.trm_core.proofs.Laws.Rule.{counts-from}
use Rattle.trm_list_rows.proofs.Laws.Gone.{good_able}
use Rattle.trm_listing.proofs.Laws.Held.{onward-held}
use Rattle.trm_listing.proofs.inner.runs.run_clocks.Goals as goal

pub hold_all-requires : goal.hold_all-requires
hold_all-requires c =
    let a = c.requires.0 in
    let gd = good_able _ _ c.args.l _ _ _
    c.args.buf.now a _ refl in
    let k = counts-from c.args.l.scalars.counts gd.counts in
    (a.room, omega (arith, a.room, k.held, k.clocks))

pub returns-then-is_stalled : goal.returns-then-is_stalled
returns-then-is_stalled c =
    let a = c.requires.0 in
    rw c.hold_all.ensures (
      onward-held _ _ c.args.l _ _ _ _ a (sym
          c.is_stalled.ensures ∙ c.if-is_stalled.true)
          c.requires.1,
      λ z. absurd (z refl),
    )
