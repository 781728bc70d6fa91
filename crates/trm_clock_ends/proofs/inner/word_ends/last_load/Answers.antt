-- By cases of the place: read_made for a device, load-made for memory. The answer byte fits since a device number is below 64.
use mathlib.Core.Path.{refl, sym, ◌∙◌}
use native.Mathlib.Omega.{arith}
use Rattle.trm_clock_operands.proofs.Laws.Device.{device_below}
use Rattle.trm_clock_laws.proofs.Laws.Last.{place_in}
use Rattle.trm_clock_laws.proofs.Laws.Words.{load-made, read_made}
use Rattle.trm_clock_ends.proofs.inner.word_ends.last_load.Goals as goal

pub load-after-requires : goal.load-after-requires
load-after-requires c = (c.requires.0.widths, c.requires.0.counts, c.requires.2)

pub overflow_mul-result : goal.overflow_mul-result
overflow_mul-result c = let b = device_below _ _ _ _ (sym c.place_of_word-place.ensures ∙
    c.in-Device.is) in omega (arith, b)

pub overflow_add-result : goal.overflow_add-result
overflow_add-result c = let b = device_below _ _ _ _ (sym c.place_of_word-place.ensures ∙
    c.in-Device.is) in omega (arith, b)

pub overflow_cast-result : goal.overflow_cast-result
overflow_cast-result c = let b = device_below _ _ _ _ (sym c.place_of_word-place.ensures ∙
    c.in-Device.is) in omega (arith, b)

pub peek-x-requires : goal.peek-x-requires
peek-x-requires c =
    place_in _ _ _ _ c.requires.0.legal (sym
    c.place_of_word-place.ensures ∙
    c.in-Memory.is)

pub load-requires : goal.load-requires
load-requires c =
    (c.requires.0.widths, c.requires.0.counts, c.requires.2)

pub returns-in-Device : goal.returns-in-Device
returns-in-Device c = let p = sym
    c.place_of_word-place.ensures ∙ c.in-Device.is in
    read_made _ _ _ _ _ _ _ c.requires.2 _ p _ _ _ refl c.load-after.ensures.0 c.load-after.ensures.1

pub returns-in-Memory : goal.returns-in-Memory
returns-in-Memory c =
    let p = sym c.place_of_word-place.ensures ∙
    c.in-Memory.is in
    load-made _ _ _ _ _ _ _ c.requires.2 _ _ p c.peek-x.ensures _ _ _ c.carried.ensures
    c.load.ensures.0 c.load.ensures.1
