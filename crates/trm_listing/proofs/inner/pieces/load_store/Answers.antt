-- By cases of whether the second record is of kind 2.
use mathlib.Core.Path.{sym, ap, ◌∙◌}
use native.Mathlib.Omega.{arith}
use Prim.Native.Nat.{◌+◌}
use Rattle.trm_listing.proofs.Laws.Load.{head, loaded-third, second_fits, second-whole, part-long, loaded-part}
use Rattle.trm_listing.proofs.inner.pieces.load_store.Goals as goal

pub load_words-requires : goal.load_words-requires
load_words-requires c =
    let h = head _ _ c.requires in (
      omega (arith, c.word_at.ensures, h.long),
      omega arith,
      omega
          (arith, c.requires.long),
    )

pub returns-then-half_at-ne2 : goal.returns-then-half_at-ne2
returns-then-half_at-ne2 c =
    loaded-third _ _ c.requires _ (ap (λ k. 6 + k) c.word_at.ensures) (λ z. c.if-half_at-ne2.true (c.half_at.ensures ∙ z)) _
    c.load_words.ensures

pub part_at-payload-requires : goal.part_at-payload-requires
part_at-payload-requires c =
    second-whole _ _ c.requires _ (ap (λ k. 6 + k) c.word_at.ensures)
    (sym c.half_at.ensures ∙ c.if-half_at-ne2.false)

pub load_words-requires-2 : goal.load_words-requires-2
load_words-requires-2 c =
    let k = sym c.half_at.ensures ∙ c.if-half_at-ne2.false in
    let h = c.requires in
    let e = ap (λ k. 6 + k) c.word_at.ensures in
    let l = part-long _ _ h _ e k _ c.part_at-payload.ensures in
    (omega arith, omega (arith, l, second_fits _ _ h _ e k, h.long), omega (arith, h.long))

pub returns : goal.returns
returns c =
    let k = sym c.half_at.ensures ∙ c.if-half_at-ne2.false in
    loaded-part _ _ c.requires _ (ap (λ k. 6 + k)
    c.word_at.ensures) k _
    c.part_at-payload.ensures _ c.load_words-2.ensures
