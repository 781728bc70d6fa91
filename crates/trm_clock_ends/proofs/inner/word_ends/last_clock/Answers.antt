-- By cases of the operation; what is left after 11 to 14 is 15 (call-left).
use native.Mathlib.Omega.{arith}
use Rattle.trm_clock_laws.proofs.Laws.Words.{other-made}
use Rattle.trm_clock_laws.proofs.Laws.Words.{call-left}
use Rattle.trm_clock_ends.proofs.inner.word_ends.last_clock.Goals as goal

pub last_control-requires : goal.last_control-requires
last_control-requires c = (
  c.requires.0,
  c.requires.1,
  c.in-11.is,
)

pub last_load-requires : goal.last_load-requires
last_load-requires c = (
  c.requires.0,
  c.requires.1,
  c.in-12.is,
)

pub last_store-requires : goal.last_store-requires
last_store-requires c = (
  c.requires.0,
  c.requires.1,
  c.in-13.is,
)

pub branch-c-requires : goal.branch-c-requires
branch-c-requires c = (
  c.requires.0.widths,
  c.requires.0.counts,
  c.in-14.is,
  c.requires.1.taken
      c.in-14.is,
)

pub call-requires : goal.call-requires
call-requires c = (
  c.requires.0.widths,
  c.requires.0.counts,
  call-left _ c.requires.1.many
      c.in_default.in_default-own.rest,
)

pub returns-in-11 : goal.returns-in-11
returns-in-11 c = c.last_control.ensures

pub returns-in-12 : goal.returns-in-12
returns-in-12 c = c.last_load.ensures

pub returns-in-13 : goal.returns-in-13
returns-in-13 c = c.last_store.ensures

pub returns-in-14 : goal.returns-in-14
returns-in-14 c = let o = c.in-14.is in
    other-made _ _ _ _ _ _ _ (λ z. omega (arith, o, z)) (λ z. omega (arith, o, z)) (λ z. omega (arith, o, z)) _ _ _
    c.carried.ensures c.branch-c.ensures.0 c.branch-c.ensures.1

pub returns-in_default : goal.returns-in_default
returns-in_default c =
    let o = call-left _ c.requires.1.many c.in_default.in_default-own.rest in
    other-made _ _ _ _ _ _ _ (λ z. omega (arith, o, z)) (λ z. omega (arith, o, z)) (λ z. omega (arith, o, z)) _ _ _
    c.carried-in_default.ensures c.call.ensures.0 c.call.ensures.1
