-- `Late` says that ST in phase 5 is to memory with the cache on; then store-made.
use mathlib.Core.Path.{sym}
use Rattle.trm_clock_execute.proofs.Laws.{execute-store}
use Rattle.trm_clock_laws.proofs.Laws.Last.{cached-cache, cached-store}
use Rattle.trm_clock_laws.proofs.Laws.Words.{store-made, memory-at}
use Rattle.trm_clock_ends.proofs.inner.word_ends.last_store.Goals as goal

pub target_of-a-requires : goal.target_of-a-requires
target_of-a-requires c = c.requires.0.legal

pub pass-requires : goal.pass-requires
pass-requires c =
    (c.requires.0.widths, c.requires.0.counts, execute-store _ _ 0 c.requires.2)

pub returns : goal.returns
returns c =
    let on = c.requires.1.cached c.requires.2 in
    let m = c.requires.1.memory c.requires.2 in
    store-made _ _ _ _ _ _ _ c.requires.2 m _ _ _ _ _
    (rw (
      cached-cache _ _ _ _ c.requires.2 _ (memory-at _ _ _ m) on,
      ← c.target_of-a.ensures,
      ← c.stored_word-x.ensures,
    ) c.store_to.ensures)
    (sym (cached-store _ _ _ _ c.requires.2 on))
    c.carried.ensures c.pass.ensures.0 c.pass.ensures.1
