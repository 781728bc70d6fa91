use native.Mathlib.Omega.{arith}
use Rattle.std.proofs.Common.{rules}
use Rattle.trm_list_text.specs.Rows.{end_bytes}
use Rattle.trm_list_text.specs.Wrote.{Wrote}
use Rattle.trm_list_text.proofs.Laws.Wrote.{wrote_then}
use Rattle.trm_list_text.proofs.inner.row_text.put_end.Goals as goal

pub returns : goal.returns
unfolding end_bytes
returns c =
    let row : Wrote c.args.buf.now c.args.at (end_bytes c.args.clocks c.args.held c.args.refills c.args.writebacks) _
    c.put_byte.new.self.len =
    wrote_then (wrote_then (wrote_then (wrote_then (wrote_then
    (wrote_then (wrote_then (wrote_then c.put_text.ensures.wrote c.put_decimal.ensures.wrote) c.put_text-2.ensures.wrote)
    c.put_decimal-2.ensures.wrote) c.put_text-3.ensures.wrote) c.put_decimal-3.ensures.wrote) c.put_text-4.ensures.wrote)
    c.put_decimal-4.ensures.wrote) c.put_byte.ensures.wrote in
    (search (rules, row), omega (arith, row.next))
