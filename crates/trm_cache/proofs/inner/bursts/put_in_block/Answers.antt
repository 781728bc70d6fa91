-- A write to the slice is a write to the store (law `part-set`).
use native.Mathlib.Omega.{arith}
use Prim.Native.Nat.{◌+◌, ◌-◌, ◌*◌}
use Rattle.trm_cache.proofs.Laws.Parts.{part-set}
use Rattle.trm_cache.proofs.inner.bursts.put_in_block.Goals as goal

pub returns : goal.returns
returns c = rw c.put_word.ensures
    (part-set c.args.store.now (c.args.b * c.args.n) (c.args.b * c.args.n + c.args.n - c.args.b * c.args.n) c.args.k
    (omega (arith, c.requires.3)) (omega (arith, c.requires.0)) c.args.x)
