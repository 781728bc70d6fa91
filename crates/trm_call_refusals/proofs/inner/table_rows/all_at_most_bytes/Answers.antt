-- The chain is the largest byte, which represents all of them.
use Prim.Native.Nat.{max}
use mathlib.Core.Path.{◌≡◌}
use Rattle.std.proofs.Common.{rules}
use Rattle.std.proofs.iter.runs.Made.{chains}
use Rattle.std.specs.List.{fold}
use Rattle.trm_call_refusals.proofs.Laws.{most-is}
use Rattle.trm_call_refusals.proofs.inner.table_rows.all_at_most_bytes.Goals as goal

pub returns : goal.returns
returns c =
    let chain : c.fold.result ≡ fold (λ a x. max a x) 0 c.args.list.now = search (rules, chains) in
    rw chain (most-is c.args.limit c.args.list.now)
