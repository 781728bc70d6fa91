-- By cases: the line holds the block or not.
use mathlib.Core.Path.{sym}
use native.Mathlib.Nat.{mod-lt}
use Rattle.trm_cache.proofs.Laws.Parts.{word_flat}
use Prim.Native.Nat.{◌/◌, ◌%◌}
use native.Mathlib.Omega.{arith}
use Rattle.trm_reference.specs.Geometry.{block_of, line_of}
use Rattle.trm_cache.specs.Cache.{line_at, line_view, view}
use Rattle.trm_cache.proofs.record.Cache.peek.Goals as goal

pub returns-then-line_holds : goal.returns-then-line_holds
unfolding view line_view block_of line_of line_at
returns-then-line_holds c = rw (← c.line_holds.ensures, c.if-line_holds.true)
    (sym (word_flat c.args.self.now.words (c.args.a / 8 % 16) (c.args.a % 8) (mod-lt c.args.a (omega arith))))

pub returns : goal.returns
unfolding view line_view block_of line_of line_at
returns c = rw (← c.line_holds.ensures, c.if-line_holds.false)
