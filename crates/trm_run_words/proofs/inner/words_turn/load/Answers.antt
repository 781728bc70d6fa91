-- By cases: from a device and on a hit two clocks (entered, then the second if it is due); uncached a wait; else a miss.
use mathlib.Core.Path.{refl, sym, ap, ◌∙◌}
use Rattle.trm_clock_laws.proofs.Laws.Words.{shows}
use Rattle.trm_run_phases.proofs.Laws.Did.{did-quiet, did-all}
use Rattle.trm_run_phases.proofs.Laws.Here.{begun-here}
use Rattle.trm_run_phases.proofs.Laws.Next.{answered, quiet-answered, onward-answered, few-done, due_true, last-here, entered, ended}
use Rattle.trm_run_phases.proofs.Laws.Next.{seen, phase, word_next, good-next, opens, device_first, hit-first}
use Rattle.trm_reference.specs.Interrupt.{stalled}
use Rattle.trm_reference.specs.Access.{place_of_word}
use Rattle.trm_clock_operands.proofs.Laws.Device.{device_below}
use Rattle.trm_clock_laws.proofs.Laws.Kinds.{load_access, kind-cached, kind_uncached}
use Rattle.trm_clock_laws.proofs.Laws.First.{first-wait, first_miss_at, idle-running}
use Rattle.trm_clock_laws.proofs.Laws.Last.{place_in}
use Rattle.trm_clock_laws.proofs.Laws.Words.{wait-is, read_made, load-made}
use native.Mathlib.Omega.{arith}
use mathlib.Core.Path.{refl, sym, ap, ◌∙◌}
use lib.ListN.{length, get_or}
use Rattle.trm_clock_laws.proofs.Laws.Words.{shows}
use Rattle.trm_run_phases.proofs.Laws.Here.{begun-here}
use Rattle.trm_run_phases.proofs.Laws.Next.{answered, quiet-answered, onward-answered, few-done, due_true, last-here, entered, ended}
use Rattle.trm_run_phases.proofs.Laws.Next.{seen, phase, word_next, good-next}
use Rattle.trm_run_words.proofs.inner.words_turn.load.Goals as goal

pub place_of_word-place-requires : goal.place_of_word-place-requires
place_of_word-place-requires c =
    let c-pre = c.requires in
    let b = c-pre.2 in
    let q = opens _ _ _ _ _ _ _ _ _ _ c-pre.0 c-pre.1 b in
    q.good.legal

pub enters-h-requires : goal.enters-h-requires
enters-h-requires c =
    let c-pre = c.requires in
    let b = c-pre.2 in
    let q = opens _ _ _ _ _ _ _ _ _ _ c-pre.0 c-pre.1 b in
    (q.few.0, q.good.counts)

pub returns-then-stops : goal.returns-then-stops
returns-then-stops c =
    let c-pre = c.requires in
    let b = c-pre.2 in
    let q = opens _ _ _ _ _ _ _ _ _ _ c-pre.0 c-pre.1 b in
    let p = sym c.place_of_word-place.ensures ∙ c.in-Device.is in
    let d = device_first _ _ _ _ _ q.facts b.idle c-pre.3 _ p in
    let e = c.enters-h.ensures in
    (λ x₀ k. entered _ _ _ _ _ _ b _ e d _ _ _ _ x₀ c-pre.1 k, did-quiet _ _ _ _ (rw e (omega arith)))

pub returns-then-not-due : goal.returns-then-not-due
returns-then-not-due c =
    let c-pre = c.requires in
    let b = c-pre.2 in
    let q = opens _ _ _ _ _ _ _ _ _ _ c-pre.0 c-pre.1 b in
    let p = sym c.place_of_word-place.ensures ∙ c.in-Device.is in
    let d = device_first _ _ _ _ _ q.facts b.idle c-pre.3 _ p in
    let e = c.enters-h.ensures in
    (λ x₀ k. entered _ _ _ _ _ _ b _ e d _ _ _ _ x₀ c-pre.1 k, did-quiet _ _ _ _ (rw e (omega arith)))

pub offset_bounds-inputs-at : goal.offset_bounds-inputs-at
offset_bounds-inputs-at c =
    let c-args = c.args in
    let c-pre = c.requires in
    let y = due_true c.enters-h.result.at (length c-args.pins.now) (stalled (get_or c-args.pins.now c.enters-h.result.at
    0)) c.due.result c.due.ensures c.if-not-due.false in
    omega (arith, y.0, c-pre.0.so.feed.many)

pub bounds-inputs-at : goal.bounds-inputs-at
bounds-inputs-at c =
    let c-args = c.args in
    let c-pre = c.requires in
    let y = due_true c.enters-h.result.at (length c-args.pins.now) (stalled (get_or c-args.pins.now c.enters-h.result.at 0))
    c.due.result c.due.ensures c.if-not-due.false in
    omega (arith, y.0, c-pre.0.so.feed.fed)

pub load-next-requires : goal.load-next-requires
load-next-requires c =
    let c-pre = c.requires in
    let b = c-pre.2 in
    let q = opens _ _ _ _ _ _ _ _ _ _ c-pre.0 c-pre.1 b in
    let p = sym c.place_of_word-place.ensures ∙ c.in-Device.is in
    let d = device_first _ _ _ _ _ q.facts b.idle c-pre.3 _ p in
    let e = c.enters-h.ensures in
    let k = good-next _ _ _ _ _ _ b _ e d q.under in
    (k.widths, k.counts, c-pre.3)

pub overflow_mul-bytes : goal.overflow_mul-bytes
overflow_mul-bytes c =
    let p = sym c.place_of_word-place.ensures ∙ c.in-Device.is in
    let z = device_below _ _ _ _ p in
    omega (arith, z)

pub overflow_add-bytes : goal.overflow_add-bytes
overflow_add-bytes c =
    let p = sym c.place_of_word-place.ensures ∙ c.in-Device.is in
    let z = device_below _ _ _ _ p in
    omega (arith, z)

pub overflow_cast-bytes : goal.overflow_cast-bytes
overflow_cast-bytes c =
    let p = sym c.place_of_word-place.ensures ∙ c.in-Device.is in
    let z = device_below _ _ _ _ p in
    omega (arith, z)

pub bounds-bytes-at : goal.bounds-bytes-at
bounds-bytes-at c =
    let c-pre = c.requires in
    let c-args = c.args in
    let b = c-pre.2 in
    let q = opens _ _ _ _ _ _ _ _ _ _ c-pre.0 c-pre.1 b in
    let p = sym c.place_of_word-place.ensures ∙ c.in-Device.is in
    let d = device_first _ _ _ _ _ q.facts b.idle c-pre.3 _ p in
    let e = c.enters-h.ensures in
    let y = due_true c.enters-h.result.at (length c-args.pins.now) (stalled (get_or c-args.pins.now c.enters-h.result.at 0))
    c.due.result c.due.ensures c.if-not-due.false in
    let r = entered _ _ _ _ _ _ b _ e d _ _ _ _ _ c-pre.1 c-pre.0.so in
    omega (arith, y.0, r.wide)

pub offset_bounds-outs-at : goal.offset_bounds-outs-at
offset_bounds-outs-at c =
    let c-args = c.args in
    let c-pre = c.requires in
    let y = due_true c.enters-h.result.at (length c-args.pins.now) (stalled (get_or c-args.pins.now c.enters-h.result.at 0))
    c.due.result c.due.ensures c.if-not-due.false in
    omega (arith, y.0, c-pre.0.so.feed.many)

pub bounds-outs-at : goal.bounds-outs-at
bounds-outs-at c =
    let c-pre = c.requires in
    let c-args = c.args in
    let b = c-pre.2 in
    let q = opens _ _ _ _ _ _ _ _ _ _ c-pre.0 c-pre.1 b in
    let p = sym c.place_of_word-place.ensures ∙ c.in-Device.is in
    let d = device_first _ _ _ _ _ q.facts b.idle c-pre.3 _ p in
    let e = c.enters-h.ensures in
    let y = due_true c.enters-h.result.at (length c-args.pins.now) (stalled (get_or c-args.pins.now c.enters-h.result.at 0))
    c.due.result c.due.ensures c.if-not-due.false in
    let r = entered _ _ _ _ _ _ b _ e d _ _ _ _ _ c-pre.1 c-pre.0.so in
    omega (arith, y.0, r.broad)

pub quietly-requires : goal.quietly-requires
quietly-requires c =
    let c-pre = c.requires in
    let c-args = c.args in
    let b = c-pre.2 in
    let q = opens _ _ _ _ _ _ _ _ _ _ c-pre.0 c-pre.1 b in
    let p = sym c.place_of_word-place.ensures ∙ c.in-Device.is in
    let d = device_first _ _ _ _ _ q.facts b.idle c-pre.3 _ p in
    let e = c.enters-h.ensures in
    let y = due_true c.enters-h.result.at (length c-args.pins.now) (stalled (get_or c-args.pins.now c.enters-h.result.at 0))
    c.due.result c.due.ensures c.if-not-due.false in
    let r = entered _ _ _ _ _ _ b _ e d _ _ _ _ _ c-pre.1 c-pre.0.so in
    let k = few-done _ _ _ _ _ _ _ _ _ _ r y.0 in
    (k.0, k.1, omega arith)

pub enters-requires : goal.enters-requires
enters-requires c =
    let c-pre = c.requires in
    let b = c-pre.2 in
    let q = opens _ _ _ _ _ _ _ _ _ _ c-pre.0 c-pre.1 b in
    (q.few.0, q.good.counts)

pub returns-then-not-cache_on : goal.returns-then-not-cache_on
returns-then-not-cache_on c =
    let c-pre = c.requires in
    let b = c-pre.2 in
    let q = opens _ _ _ _ _ _ _ _ _ _ c-pre.0 c-pre.1 b in
    let p = sym c.place_of_word-place.ensures ∙ c.in-Memory.is in (
      λ x₀ k. onward-answered _ _ _ x₀ _ _ _ _ _ _ k b.more _ _ _ _
          (begun-here _ _ _ _ _ _ _ c-pre.1 b.unheld b.idle b.none _
          (first-wait _ _ _ _ _ q.facts b.idle (kind_uncached _ _ _ (load_access _ c-pre.3) _ p
          (sym c.cache_on.ensures ∙ c.if-not-cache_on.true))).0 _ 0 0 _ _ (wait-is _ _ _
          (idle-running _ _ _ _ _ q.facts b.idle))) _ c.enters.ensures,
      did-quiet _ _ _ _ (rw c.enters.ensures (omega arith)),
    )

pub advance-next-requires : goal.advance-next-requires
advance-next-requires c =
    let c-pre = c.requires in
    let b = c-pre.2 in
    let q = opens _ _ _ _ _ _ _ _ _ _ c-pre.0 c-pre.1 b in
    (q.good.counts, c.miss-m.ensures.1, c.miss-m.ensures.2)

pub quietly-requires-then-not-line_holds : goal.quietly-requires-then-not-line_holds
quietly-requires-then-not-line_holds c =
    let c-pre = c.requires in
    let b = c-pre.2 in
    let q = opens _ _ _ _ _ _ _ _ _ _ c-pre.0 c-pre.1 b in
    (q.few.0, q.few.1, omega arith)

pub returns-then-not-line_holds : goal.returns-then-not-line_holds
returns-then-not-line_holds c =
    let c-pre = c.requires in
    let b = c-pre.2 in
    let q = opens _ _ _ _ _ _ _ _ _ _ c-pre.0 c-pre.1 b in
    let p = sym c.place_of_word-place.ensures ∙ c.in-Memory.is in
    let on = sym c.cache_on.ensures ∙ c.if-not-cache_on.false in (
      λ x₀ k. quiet-answered _ _ _ x₀ _ _ _ _ _ _ k b.more _ 0 _ _ _ (rw c.advance-next.ensures (begun-here _ _ _ _ _ _ _
          c-pre.1 b.unheld b.idle b.none _ (first_miss_at _ _ _ _ _ q.facts b.idle _ p (kind-cached _ _ _
          (load_access _
          c-pre.3) _ p on) (sym c.line_holds.ensures ∙
          c.if-not-line_holds.true)).goes _ _ _ _ _ (c.miss-m.ensures.0 _
          _))) _ c.quietly-then-not-line_holds.ensures,
      did-quiet _ _ _ _ (rw c.quietly-then-not-line_holds.ensures (omega arith)),
    )

pub enters-h-requires-in-Memory : goal.enters-h-requires-in-Memory
enters-h-requires-in-Memory c =
    let c-pre = c.requires in
    let b = c-pre.2 in
    let q = opens _ _ _ _ _ _ _ _ _ _ c-pre.0 c-pre.1 b in
    (q.few.0, q.good.counts)

pub returns-then-not-due-2 : goal.returns-then-not-due-2
returns-then-not-due-2 c =
    let c-pre = c.requires in
    let b = c-pre.2 in
    let q = opens _ _ _ _ _ _ _ _ _ _ c-pre.0 c-pre.1 b in
    let p = sym c.place_of_word-place.ensures ∙ c.in-Memory.is in
    let on = sym c.cache_on.ensures ∙ c.if-not-cache_on.false in
    let d = hit-first _ _ _ _ _ q.facts b.idle c-pre.3 _ p on _ c.line_holds.ensures
    c.if-not-line_holds.false in
    let e = c.enters-h-in-Memory.ensures in
    (λ x₀ k. entered _ _ _ _ _ _ b _ e d _ _ _ _ x₀ c-pre.1 k, did-quiet _ _ _ _ (rw e (omega arith)))

pub peek-x-requires : goal.peek-x-requires
peek-x-requires c =
    let c-pre = c.requires in
    let b = c-pre.2 in
    let q = opens _ _ _ _ _ _ _ _ _ _ c-pre.0 c-pre.1 b in
    let p = sym c.place_of_word-place.ensures ∙ c.in-Memory.is in
    place_in _ _ _ _ q.good.legal p

pub load-requires : goal.load-requires
load-requires c =
    let c-pre = c.requires in
    let b = c-pre.2 in
    let q = opens _ _ _ _ _ _ _ _ _ _ c-pre.0 c-pre.1 b in
    let p = sym c.place_of_word-place.ensures ∙ c.in-Memory.is in
    let on = sym c.cache_on.ensures ∙ c.if-not-cache_on.false in
    let d = hit-first _ _ _ _ _ q.facts b.idle c-pre.3 _ p on _ c.line_holds.ensures c.if-not-line_holds.false in
    let e = c.enters-h-in-Memory.ensures in
    let k = good-next _ _ _ _ _ _ b _ e d q.under in
    (k.widths, k.counts, c-pre.3)

pub quietly-requires-in-Memory : goal.quietly-requires-in-Memory
quietly-requires-in-Memory c =
    let c-pre = c.requires in let c-args = c.args in
    let b = c-pre.2 in
    let q = opens _ _ _ _ _ _ _ _ _ _ c-pre.0 c-pre.1 b in
    let p = sym c.place_of_word-place.ensures ∙ c.in-Memory.is in
    let on = sym c.cache_on.ensures ∙ c.if-not-cache_on.false in
    let d = hit-first _ _ _ _ _ q.facts b.idle c-pre.3 _ p on _ c.line_holds.ensures c.if-not-line_holds.false in
    let e = c.enters-h-in-Memory.ensures in
    let y = due_true c.enters-h-in-Memory.result.at (length c-args.pins.now) (stalled (get_or c-args.pins.now c.enters-h-in-Memory.result.at
    0)) c.due-in-Memory.result c.due-in-Memory.ensures c.if-not-due-2.false in
    let r = entered _ _ _ _ _ _ b _ e d _ _ _ _ _ c-pre.1 c-pre.0.so in
    let k = few-done _ _ _ _ _ _ _ _ _ _ r y.0 in
    (k.0, k.1, omega arith)

pub returns-else-not-due : goal.returns-else-not-due
returns-else-not-due c =
    let c-pre = c.requires in
    let c-args = c.args in
    let b = c-pre.2 in
    let q = opens _ _ _ _ _ _ _ _ _ _ c-pre.0 c-pre.1 b in
    let p = sym c.place_of_word-place.ensures ∙ c.in-Device.is
    in
    let d = device_first _ _ _ _ _ q.facts b.idle c-pre.3 _ p in
    let e = c.enters-h.ensures in
    let y = due_true c.enters-h.result.at (length c-args.pins.now) (stalled (get_or c-args.pins.now c.enters-h.result.at 0))
    c.due.result c.due.ensures c.if-not-due.false in (
      λ x₀ k. let r = entered _ _ _ _ _ _ b _ e d _ _ _ _ x₀ c-pre.1 k in answered _ _ _ x₀ _ _ _ _ _ _ r y.0 (shows c.load-next.result _ _)
          _ _ _ (last-here _ _ _ x₀ _ _ _ _ _ _ r y.0 _ (word_next _ _ _ _ _ c-args.store.now b _ e d _ c-pre.1) y.1
          (phase _ _ _ _ _ c-args.store.now b _ e d) _ (read_made _ _ _ _ _ _ _ c-pre.3 _
          (ap (λ
          v. place_of_word c-args.w v (length c-args.store.now)) (seen _ _ _ _ _ c-args.store.now b _ e d) ∙ p) (shows
          c.load-next.result _ _) _
          _ refl c.load-next.ensures.0 c.load-next.ensures.1)) _ _ _ c.quietly.ensures refl refl,
      did-all _ _ _ _ _ c.if-stops.false (rw (c.quietly.ensures, e) (omega arith)),
    )

pub returns-else-not-due-2 : goal.returns-else-not-due-2
returns-else-not-due-2 c =
    let c-pre = c.requires in let c-args = c.args in
    let b = c-pre.2 in
    let q = opens _ _ _ _ _ _ _ _ _ _ c-pre.0 c-pre.1 b in
    let p = sym c.place_of_word-place.ensures ∙ c.in-Memory.is in
    let on = sym c.cache_on.ensures ∙ c.if-not-cache_on.false in
    let d = hit-first _ _ _ _ _ q.facts b.idle c-pre.3 _ p on _ c.line_holds.ensures c.if-not-line_holds.false in
    let e = c.enters-h-in-Memory.ensures in
    let y = due_true c.enters-h-in-Memory.result.at (length c-args.pins.now) (stalled (get_or c-args.pins.now c.enters-h-in-Memory.result.at
    0)) c.due-in-Memory.result c.due-in-Memory.ensures
    c.if-not-due-2.false in (
      λ x₀ k. ended _ _ _ _ _ _ b _ e d y.0 y.1 _ _ (λ i. load-made _ _ _ _ _ _ i c-pre.3 _ _
          (ap (λ v. place_of_word c-args.w v (length c-args.store.now)) (seen _ _ _ _ _ c-args.store.now b _ e d) ∙ p) c.peek-x.ensures
          (shows
          c.load.result 0
          0) _ _ refl c.load.ensures.0 c.load.ensures.1) _ c.quietly-in-Memory.ensures _ _ _ _ x₀ c-pre.1 k,
      did-quiet _ _ _ _ (rw (c.quietly-in-Memory.ensures, e) (omega arith)),
    )
