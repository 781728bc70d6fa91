-- The chain is the largest word, which represents all of them.
use Prim.Native.Nat.{max}
use mathlib.Core.Path.{◌≡◌}
use Rattle.std.proofs.Common.{rules}
use Rattle.std.proofs.iter.runs.Made.{chains}
use Rattle.std.specs.List.{fold}
use Rattle.trm_call_refusals.proofs.Laws.{most-is}
use Rattle.trm_call_refusals.proofs.inner.table_rows.part_at_most.Goals as goal

pub returns : goal.returns
returns c =
    let chain : c.fold.result ≡ fold (λ a x. max a x) 0 c.args.part.now = search (rules, chains) in
    rw chain (most-is c.args.limit c.args.part.now)
