-- The option names the device that is due (found_due).
use mathlib.Core.Path.{ap, ◌∙◌}
use Rattle.std.specs.Prelude.{unwrap_or}
use Rattle.trm_clock_device.proofs.Laws.Due.{found_due}
use Rattle.trm_clock_device.proofs.inner.device_read.device_read.Goals as goal

pub returns-clause-due : goal.returns-clause-due
returns-clause-due c = ap (λ d. unwrap_or d 64) c.found.ensures ∙ found_due _ _ _ _ _
