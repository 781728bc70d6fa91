use native.Mathlib.Omega.{arith}
use Rattle.std.proofs.Common.{rules}
use Rattle.trm_list_text.specs.Rows.{row_bytes}
use Rattle.trm_list_text.specs.Wrote.{Wrote}
use Rattle.trm_list_text.proofs.Laws.Wrote.{wrote_then}
use Rattle.trm_list_text.proofs.inner.row_text.put_row.Goals as goal

pub returns : goal.returns
unfolding row_bytes
returns c =
    let row : Wrote c.args.buf.now c.args.at (row_bytes
    (record { clock = c.args.clock; at = c.args.pc; shown = c.args.shown; took = c.args.took })) _ c.put_byte-4.new.self.len =
    wrote_then (wrote_then (wrote_then (wrote_then (wrote_then
    (wrote_then (wrote_then c.put_decimal.ensures.wrote c.put_byte.ensures.wrote) c.put_hex.ensures.wrote)
    c.put_byte-2.ensures.wrote) c.put_shown.ensures.wrote) c.put_byte-3.ensures.wrote) c.put_decimal-2.ensures.wrote)
    c.put_byte-4.ensures.wrote in
    (search (rules, row), omega (arith, row.next))
