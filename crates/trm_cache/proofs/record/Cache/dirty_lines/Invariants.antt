-- Invariant: count and first are those of the dirty lines below i (`Counting`).
use Rattle.trm_cache.proofs.Laws.Parts.{Counting}
use Rattle.trm_cache.proofs.record.Cache.dirty_lines.Given as goal

abbrev pub invariant-loop-i : goal.invariant-loop-i
invariant-loop-i l = Counting l.self l.i l.count l.first
