use Rattle.trm_run_flight.proofs.Laws.Flight.{quiet-turn}
use Rattle.trm_run_flight.proofs.inner.flight_turn.flight_turn.Goals as goal

pub step_turn-requires : goal.step_turn-requires
step_turn-requires c =
    let a = c.requires.0 in
    let wd = c.requires.1 in
    let mo = c.requires.2 in
    let fr = c.requires.3 in
    (a, wd, c.in-1.is, mo, fr)

pub write_turn-requires : goal.write_turn-requires
write_turn-requires c =
    let a = c.requires.0 in
    let wd = c.requires.1 in
    let mo = c.requires.2 in
    let fr = c.requires.3 in
    (a, wd, c.in-2.is, mo, fr)

pub fill_turn-requires : goal.fill_turn-requires
fill_turn-requires c =
    let a = c.requires.0 in
    let wd = c.requires.1 in
    let mo = c.requires.2 in
    let fr = c.requires.3 in
    (a, wd, c.in-3.is, mo, fr)

pub wait_turn-requires : goal.wait_turn-requires
wait_turn-requires c =
    let a = c.requires.0 in
    let wd = c.requires.1 in
    let mo = c.requires.2 in
    let fr = c.requires.3 in
    (a, wd, c.in-4.is, mo, fr)

pub last_turn-requires : goal.last_turn-requires
last_turn-requires c =
    let a = c.requires.0 in
    let wd = c.requires.1 in
    let mo = c.requires.2 in
    let fr = c.requires.3 in
    let p0 = c.requires.4 in
    let r = c.in_default.in_default-own.rest in
    (a, wd, mo, fr, p0, r.0.0.0.1, r.0.0.1, r.0.1, r.1)

pub returns-in-1 : goal.returns-in-1
returns-in-1 c = quiet-turn _ _ _ _ _ c.step_turn.ensures

pub returns-in-2 : goal.returns-in-2
returns-in-2 c = quiet-turn _ _ _ _ _ c.write_turn.ensures

pub returns-in-3 : goal.returns-in-3
returns-in-3 c = quiet-turn _ _ _ _ _ c.fill_turn.ensures

pub returns-in-4 : goal.returns-in-4
returns-in-4 c = quiet-turn _ _ _ _ _ c.wait_turn.ensures

pub returns-in_default : goal.returns-in_default
returns-in_default c = c.last_turn.ensures
