-- Invariant: the words left are within the limit exactly if all are.
use mathlib.Core.Path.{◌≡◌}
use Rattle.std.specs.Slice.Iter.{chunks_rest}
use Rattle.trm_core.specs.Refusals.{all_at_most}
use Rattle.trm_call_refusals.proofs.inner.table_rows.all_at_most_words.Given as goal

abbrev pub invariant-loop-part : goal.invariant-loop-part
invariant-loop-part l = all_at_most l.limit (chunks_rest l.part-iterator) ≡ all_at_most l.limit l.list
