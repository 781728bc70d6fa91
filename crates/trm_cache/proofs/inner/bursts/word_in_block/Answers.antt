-- A read from the slice is a read from the store (law `part-get`).
use native.Mathlib.Omega.{arith}
use Prim.Native.Nat.{◌+◌, ◌-◌, ◌*◌}
use Rattle.trm_cache.proofs.Laws.Parts.{part-get}
use Rattle.trm_cache.proofs.inner.bursts.word_in_block.Goals as goal

pub returns : goal.returns
returns c = rw c.word_of.ensures
    (part-get c.args.store.now (c.args.b * c.args.n) (c.args.b * c.args.n + c.args.n - c.args.b * c.args.n) c.args.k
    (omega (arith, c.requires.3)) (omega (arith, c.requires.0)))
