use Rattle.trm_run_phases.proofs.inner.step_clocks.after_serial.Goals as goal

pub serial_after-s-requires : goal.serial_after-s-requires
serial_after-s-requires c = rw c.unpack-after.ensures (c.requires.3, c.requires.4)

pub with_serial-c-requires : goal.with_serial-c-requires
with_serial-c-requires c =
    rw (c.serial_after-s.ensures, c.unpack-after.ensures) (c.requires.1, c.requires.2)

pub returns : goal.returns
returns c =
    rw (c.with_serial-c.ensures, c.serial_after-s.ensures, c.unpack-after.ensures)
