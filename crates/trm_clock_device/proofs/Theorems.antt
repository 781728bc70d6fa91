-- The claims of this crate, proved: the value of the record `Claims` of specs/Claims.antt.
-- Idea: the law for input word 0, and the answer byte does not depend on the input word.
use mathlib.Core.Path.{ap, ◌∙◌}
use lib.ListN.{length}
use Rattle.trm_core.specs.Record.{cache_of}
use Rattle.trm_clock_laws.proofs.Laws.Facts.{good-at}
use Rattle.trm_clock_device.specs.Device.{device_read}
use Rattle.trm_clock_device.specs.Claims.{Foretold, Claims}
use Rattle.trm_clock_device.proofs.Laws.Answers.{answers}
use Rattle.trm_clock_device.proofs.Laws.Due.{due-is}

foretold : Foretold
foretold p x i legal ok =
    ap device_read ((answers p x i.line_byte).same i.input 0)
    ∙ due-is p x.machine.scalars x.machine.regs (cache_of x.machine) x.store
    (good-at p (length x.store) x.machine.scalars x.machine.regs (cache_of x.machine) legal ok) i.line_byte

pub theorems : Claims
theorems = record { foretold = foretold; answers = answers }
