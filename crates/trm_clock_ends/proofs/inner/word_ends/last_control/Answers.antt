-- By cases of bit 10: a jump keeps the cache (jump-keeps), else phase 5 means that the cache is turned off (`Late`).
use Rattle.trm_clock_laws.proofs.Laws.Words.{control-made}
use Rattle.trm_clock_laws.proofs.Laws.Words.{jump-keeps}
use Rattle.trm_clock_ends.proofs.inner.word_ends.last_control.Goals as goal

pub jump-requires : goal.jump-requires
jump-requires c = (c.requires.0.widths, c.requires.0.counts, c.requires.2, c.if-w-eq1.true)

pub returns-then-w-eq1 : goal.returns-then-w-eq1
returns-then-w-eq1 c = control-made _ _ _ _ _ _ _ c.requires.2 _ _ _ _ (jump-keeps _ _ _ c.if-w-eq1.true) c.carried.ensures
    c.jump.ensures.0 c.jump.ensures.1

pub set_status-requires : goal.set_status-requires
set_status-requires c = (c.requires.0.widths, c.requires.0.counts, c.requires.2, c.if-w-eq1.false)

pub returns : goal.returns
returns c =
    control-made _ _ _ _ _ _ _ c.requires.2 _ _ _ _
    (rw (c.requires.1.clears c.requires.2 c.if-w-eq1.false)
    c.empty_all.ensures)
    c.carried-2.ensures c.set_status.ensures.0 c.set_status.ensures.1
