use Rattle.trm_serial.proofs.Laws.Narrow.{narrow-accessed}
use Rattle.trm_board.proofs.inner.device_clock.device_clock.Goals as goal

pub listen-requires : goal.listen-requires
listen-requires c = (rw c.serial_access-accessed.ensures (narrow-accessed _ _ c.requires.0.serial), c.requires.1)
