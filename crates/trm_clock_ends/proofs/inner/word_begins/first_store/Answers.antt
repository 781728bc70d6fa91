-- By cases, a law of Laws/Plans for each: device, uncached, miss, hit. The answer byte fits since a device number is below 64.
use mathlib.Core.Path.{refl, sym, ◌∙◌}
use native.Mathlib.Omega.{arith}
use Rattle.trm_clock_operands.proofs.Laws.Device.{device_below}
use Rattle.trm_clock_execute.proofs.Laws.{execute-store}
use Rattle.trm_clock_laws.proofs.Laws.Facts.{facts}
use Rattle.trm_clock_laws.proofs.Laws.Kinds.{store_access, kind_device, kind-cached, kind_uncached, hits_at}
use Rattle.trm_clock_laws.proofs.Laws.First.{first_device_store, first-wait, first_miss_at, first_hit_store, idle-running}
use Rattle.trm_clock_laws.proofs.Laws.Last.{cached-cache, cached-store}
use Rattle.trm_clock_laws.proofs.Laws.Worked.{goes-worked, ends-worked}
use Rattle.trm_clock_laws.proofs.Laws.Words.{wait-is, is-store-at, write-made, store-made, inside-at}
use Rattle.trm_clock_ends.proofs.inner.word_begins.first_store.Goals as goal

pub pass-after-requires : goal.pass-after-requires
pass-after-requires c = (
  c.requires.0.widths,
  c.requires.0.counts,
  execute-store _ _ 0 c.requires.2,
)

pub overflow_mul-result : goal.overflow_mul-result
overflow_mul-result c = let b = device_below _ _ _ _ (sym
    c.place_of_word-place.ensures ∙
    c.in-Device.is) in omega (arith, b)

pub overflow_add-result : goal.overflow_add-result
overflow_add-result c = let b = device_below _ _ _ _ (sym
    c.place_of_word-place.ensures ∙
    c.in-Device.is) in omega (arith, b)

pub overflow_cast-result : goal.overflow_cast-result
overflow_cast-result c = let b = device_below _ _ _ _ (sym
    c.place_of_word-place.ensures ∙
    c.in-Device.is) in omega (arith, b)

pub enters-requires : goal.enters-requires
enters-requires c = c.requires.0.counts

pub returns-then-not-cache_on : goal.returns-then-not-cache_on
returns-then-not-cache_on c =
    let p = sym c.place_of_word-place.ensures ∙
    c.in-Memory.is in
    goes-worked _ _ _ _ _ _ _ _ (first-wait _ _ _ _ _ (facts _ _ _ _ _ c.requires.0) c.requires.1
    (kind_uncached _ _ _ (store_access _ c.requires.2) _ p
    (sym c.cache_on.ensures ∙ c.if-not-cache_on.true))).0 _ _
    _ _ _ _ c.enters.ensures
    (wait-is _ _ _ (idle-running _ _ _ _ _ (facts _ _ _ _ _ c.requires.0) c.requires.1))

pub goes_on-requires : goal.goes_on-requires
goes_on-requires c =
    (c.requires.0.counts, c.miss-m.ensures.1, c.miss-m.ensures.2)

pub returns-then-not-line_holds : goal.returns-then-not-line_holds
returns-then-not-line_holds c =
    let p = sym
    c.place_of_word-place.ensures ∙
    c.in-Memory.is in
    let on = sym c.cache_on.ensures ∙ c.if-not-cache_on.false in
    goes-worked _ _ _ _ _ _ _ _ (first_miss_at _ _ _ _ _ (facts _ _ _ _ _ c.requires.0) c.requires.1 _ p (kind-cached _ _ _ (store_access _
    c.requires.2) _ p on)
    (sym c.line_holds.ensures ∙ c.if-not-line_holds.true)).goes _ _ _ _ _ _ c.goes_on.ensures
    (c.miss-m.ensures.0 _ _)

pub pass-requires : goal.pass-requires
pass-requires c =
    (c.requires.0.widths, c.requires.0.counts, execute-store _ _ 0 c.requires.2)

pub returns-in-Device : goal.returns-in-Device
returns-in-Device c =
    let p = sym c.place_of_word-place.ensures ∙
    c.in-Device.is in
    ends-worked _ _ _ _ _ _ _ (first_device_store _ _ _ _ _ (facts _ _ _ _ _ c.requires.0) c.requires.1 (kind_device _ _ _ (store_access _
    c.requires.2) _ p)
    (is-store-at _ c.requires.2)).0 _
    (write-made _ _ _ _ _ _ _ c.requires.2 _ p _ c.stored_word-x.ensures _ _ _ refl c.pass-after.ensures.0
    c.pass-after.ensures.1)

pub returns-else-not-line_holds : goal.returns-else-not-line_holds
returns-else-not-line_holds c =
    let p = sym c.place_of_word-place.ensures ∙
    c.in-Memory.is in
    let on = sym c.cache_on.ensures ∙ c.if-not-cache_on.false in
    ends-worked _ _ _ _ _ _ _ (first_hit_store _ _ _ _ _ (facts _ _ _ _ _ c.requires.0) c.requires.1 (kind-cached _ _ _ (store_access _
    c.requires.2) _ p on)
    (hits_at _ _ _ _ _ p ∙ sym c.line_holds.ensures ∙ c.if-not-line_holds.false)
    (is-store-at _ c.requires.2)).0 _
    (store-made _ _ _ _ _ _ _ c.requires.2 (inside-at _ _ _ (store_access _ c.requires.2) _ p) _ _ _ _ _
    (rw (
      cached-cache _ _ _ _ c.requires.2 _ p on,
      ←
          c.stored_word-x-in-Memory.ensures,
    )
    c.store_to.ensures) (sym (cached-store _ _ _ _ c.requires.2 on))
    c.carried.ensures c.pass.ensures.0 c.pass.ensures.1)
