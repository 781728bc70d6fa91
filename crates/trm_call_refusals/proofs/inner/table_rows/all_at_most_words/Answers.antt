-- The test of the words left is that of the next part and that of the rest (all_joined).
use mathlib.Core.Path.{refl, sym, ◌∙◌}
use Rattle.trm_call_refusals.proofs.Laws.{all_joined, all_none}
use Rattle.trm_call_refusals.proofs.inner.table_rows.all_at_most_words.Goals as goal

pub returns-then-not-part_at_most : goal.returns-then-not-part_at_most
returns-then-not-part_at_most c = rw (
  ← c.loop-part.invariant,
  c.in-Some.ensures.steps.1.0,
  all_joined c.args.limit c.in-Some.part.now c.next.new.self.rest.now,
  ← c.part_at_most.ensures,
  c.if-not-part_at_most.true,
) refl

pub loop-part-preserved : goal.loop-part-preserved
loop-part-preserved c = rw (
  ← c.loop-part.invariant,
  c.in-Some.ensures.steps.1.0,
  all_joined c.args.limit c.in-Some.part.now c.next.new.self.rest.now,
  ← c.part_at_most.ensures,
  c.if-not-part_at_most.false,
) refl

pub returns : goal.returns
returns c = sym (all_none c.args.limit _ c.in-None.ensures.steps.1.0) ∙ c.loop-part.invariant
