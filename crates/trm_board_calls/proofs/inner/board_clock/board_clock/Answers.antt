use native.Mathlib.Omega.{arith}
use Rattle.trm_board_calls.proofs.Laws.Ready.{ready_legal, ready-count, ready-core}
use Rattle.trm_board_calls.proofs.Laws.Clock.{clock-is}
use Rattle.trm_board_calls.proofs.inner.board_clock.board_clock.Goals as goal

pub level_sent-level-requires : goal.level_sent-level-requires
level_sent-level-requires c = c.requires.devices.serial

pub pins_byte-pins-requires : goal.pins_byte-pins-requires
pins_byte-pins-requires c = c.requires.devices.tick

pub device_read-device-requires : goal.device_read-device-requires
device_read-device-requires c = ready_legal _ _ 0 c.requires

pub reply_of-input-requires : goal.reply_of-input-requires
reply_of-input-requires c = (
  c.requires.devices.serial,
  ready-count _ _ 0 c.requires,
)

pub one_clock-t-requires : goal.one_clock-t-requires
one_clock-t-requires c = ready-core _ _ 0 c.requires _ c.pins_byte-pins.ensures.1

pub line_of-line-requires : goal.line_of-line-requires
line_of-line-requires c =
    c.level_sent-level.ensures.1

pub device_clock-devices-requires : goal.device_clock-devices-requires
device_clock-devices-requires c =
    (c.requires.devices, c.line_of-line.ensures.1)

pub overflow_cast-result : goal.overflow_cast-result
overflow_cast-result c =
    record { fits = omega (arith, c.level_sent-level.ensures.1) }

pub returns : goal.returns
returns c =
    clock-is _ _ _ _ c.requires _ _ _ _ _ _ _ _ _ _ c.pins_byte-pins.ensures.0 c.device_read-device.ensures.due c.reply_of-input.ensures
    c.one_clock-t.ensures c.level_sent-level.ensures.0 c.line_of-line.ensures.0 c.device_clock-devices.ensures
