use native.Mathlib.Omega.{arith}
use Rattle.trm_image.proofs.Laws.Runs.{runs-next}
use Rattle.trm_listing.proofs.Laws.Along.{along_then, along-next}
use Rattle.trm_listing.proofs.inner.runs.list_runs.Goals as goal

pub next_run-next-requires : goal.next_run-next-requires
next_run-next-requires c =
    let n = runs-next 2048 _ _ c.loop-p.invariant.0.stands.runs c.loop-p-test.true in
    (n.nine, n.whole)

pub run_here-p-requires-in-loop-p : goal.run_here-p-requires-in-loop-p
run_here-p-requires-in-loop-p c =
    (along-next _ _ _ _ _ _ _ _ c.next_run-next.ensures c.loop-p.invariant.0.stands c.if-p-ne0.false c.loop-p-test.true).stands

pub loop-p-preserved : goal.loop-p-preserved
loop-p-preserved c = (
  along_then _ _ c.loop-p.invariant.0 (along_then _ _ (along-next _ _ _ _
      _ _ _ _ c.next_run-next.ensures c.loop-p.invariant.0.stands c.if-p-ne0.false c.loop-p-test.true)
      c.run_here-p-in-loop-p.ensures.0),
  λ z. omega (
    arith,
    c.run_here-p-in-loop-p.ensures.1 z,
    c.loop-p.invariant.0.long,
  ),
)
