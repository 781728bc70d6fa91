-- The proof of trm_list_rows::inner::first_clock::first_load.
use mathlib.Core.Path.{refl, sym, ◌∙◌}
use Rattle.trm_clock_laws.proofs.Laws.Facts.{facts}
use Rattle.trm_clock_laws.proofs.Laws.Kinds.{load_access, kind_device, kind-cached, kind_uncached, hits_at}
use Rattle.trm_clock_laws.proofs.Laws.First.{first_device_load, first-wait, first_miss_at, first_hit_load, idle-running}
use Rattle.trm_clock_laws.proofs.Laws.Worked.{goes-worked}
use Rattle.trm_clock_laws.proofs.Laws.Words.{wait-is, not-store}
use Rattle.trm_list_rows.proofs.inner.first_clock.first_load.Goals as goal

pub returns-then-not-cache_on : goal.returns-then-not-cache_on
returns-then-not-cache_on c =
    let g = c.requires in let p = sym c.place_of_word.ensures ∙
    c.in-Memory.is in
    goes-worked _ _ _ _ _ _ _ _ (first-wait _ _ _ _ _ (facts _ _ _ _ _ g.0) g.1 (kind_uncached _ _ _ (load_access _ g.2) _ p
    (sym c.cache_on.ensures ∙ c.if-not-cache_on.true))).0 _ _
    _ _ _ _ c.enters-then-not-cache_on.ensures
    (wait-is _ _ _ (idle-running _ _ _ _ _ (facts _ _ _ _ _ g.0) g.1))

pub returns-then-not-line_holds : goal.returns-then-not-line_holds
returns-then-not-line_holds c =
    let g = c.requires in let p = sym
    c.place_of_word.ensures ∙
    c.in-Memory.is in
    let on = sym c.cache_on.ensures ∙ c.if-not-cache_on.false in
    goes-worked _ _ _ _ _ _ _ _ (first_miss_at _ _ _ _ _ (facts _ _ _ _ _ g.0) g.1 _ p (kind-cached _ _ _ (load_access _
    g.2) _ p on)
    (sym c.line_holds.ensures ∙ c.if-not-line_holds.true)).goes _ _ _ _ _ _ c.goes_on.ensures
    (c.miss-m.ensures.0 _ _)

pub returns-in-Device : goal.returns-in-Device
returns-in-Device c = let g = c.requires in let p = sym
    c.place_of_word.ensures ∙ c.in-Device.is in
    goes-worked _ _ _ _ _ _ _ _ (first_device_load _ _ _ _ _ (facts _ _ _ _ _ g.0) g.1 (kind_device _ _ _ (load_access _
    g.2) _ p)
    (not-store _ g.2)) _ _ _ _ _ _ c.enters.ensures refl

pub returns-else-not-line_holds : goal.returns-else-not-line_holds
returns-else-not-line_holds c =
    let g = c.requires in let p = sym
    c.place_of_word.ensures ∙ c.in-Memory.is in
    let on = sym c.cache_on.ensures ∙ c.if-not-cache_on.false in
    goes-worked _ _ _ _ _ _ _ _ (first_hit_load _ _ _ _ _ (facts _ _ _ _ _ g.0) g.1 (kind-cached _ _ _ (load_access _
    g.2) _ p on)
    (hits_at _ _ _ _ _ p ∙ sym c.line_holds.ensures ∙ c.if-not-line_holds.false) (not-store _ g.2))
    _ _ _ _ _ _ c.enters-in-Memory.ensures refl
