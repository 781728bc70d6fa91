-- By cases: a wait, or one word.
use Rattle.trm_cache.specs.Cache.{line_at}
use Rattle.trm_cache.proofs.Laws.Parts.{word_flat}
use native.Mathlib.Omega.{arith}
use Prim.Native.Nat.{◌-◌}
use borrow.Author.Tests.{lt-leb, le-leb}
use Rattle.trm_cache.specs.Cache.{write_word}
use Rattle.trm_cache.proofs.record.Cache.write_word.Goals as goal

pub returns-then-k-lt2 : goal.returns-then-k-lt2
unfolding write_word
returns-then-k-lt2 c = rw (lt-leb _ _ c.if-k-lt2.true)

pub returns : goal.returns
unfolding write_word line_at
returns c = rw (
  le-leb 2 _ c.if-k-lt2.false,
  c.put_in_block.ensures,
  c.line_block-b.ensures.0,
  word_flat c.args.self.now.words c.args.l (c.args.k - 2)
      (omega (arith, c.requires.1, c.if-k-lt2.false)),
)
