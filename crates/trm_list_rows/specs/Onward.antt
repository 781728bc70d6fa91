-- A listing in the middle of a run: what is still to be written. Contracts of `inner` use these.
-- Paper: nothing. `text_from` and `Able` are in the contracts of the pieces of trm_listing; no claim rests on the others.
--   text_from p x took is   the rows from x on, and the last row        Able   what every clock of a listing requires
--   Onward                 some clocks have run, and their rows are in the buffer
use Rattle.std.specs.Prelude.{ℕ, ◌+◌, ◌-◌, ◌≤◌, ◌≡◌, true, cond, List, [], ◌∷◌, ◌++◌, length, take, replicate, eqb}
use Rattle.trm_reference.specs.Geometry.{paper_geometry}
use Rattle.trm_reference.specs.Trace.{Pins}
use Rattle.trm_cache.specs.declared.record.Cache.{Cache}
use Rattle.trm_core.specs.declared.record.Scalars.{Scalars}
use Rattle.trm_core.specs.Record.{Lent, whole}
use Rattle.trm_core.specs.Clock.{clock_of}
use Rattle.trm_core.specs.Claims.{Shaped}
use Rattle.trm_core.specs.Rule.{record_ok}
use Rattle.trm_core.specs.Refusals.{program_ok, store_ok}
use Rattle.trm_clock_laws.specs.declared.inner.outcome.Clocked.{Clocked}
use Rattle.trm_list_text.specs.declared.inner.row_text.Shown.TheVariants.{Word, Irq0, Irq1}
use Rattle.trm_list_text.specs.Rows.{row_bytes, rows_bytes}
use Rattle.trm_list_text.specs.Wrote.{Wrote}
use Rattle.trm_list_rows.specs.declared.inner.listed.Listed.{Listed}
use Rattle.trm_list_rows.specs.Rows.{row_of, took_after, end_row}

unfoldable pub text_from : List ℕ → Lent → ℕ → List Pins → List ℕ
text_from p x took [] = end_row x
text_from p x took (i ∷ is) = rows_bytes (row_of p x i took) ++ text_from p (clock_of paper_geometry p x i).state (took_after p x i took) is

-- the record and the store of a listing
abbrev pub lent_of : Listed → List ℕ → Cache → List ℕ → Lent
lent_of l rs ca s = record { machine = whole l.scalars rs ca; store = s }

-- an accepted record whose counts have room for the clocks left
pub record Able (p : List ℕ) (x : Lent) (took left : ℕ) (i : Pins) : Type 0 where
  pub program : program_ok p ≡ true
  pub store : store_ok x.machine x.store ≡ true
  pub rule : record_ok paper_geometry p (length x.store) x.machine ≡ true
  pub shaped : Shaped paper_geometry x.machine
  pub room : x.machine.scalars.counts.clocks + left ≤ 4294967295
  pub few : took ≤ x.machine.scalars.counts.clocks
  pub low : i.line_byte ≤ 7

-- the listing goes from x with the buffer b to x' with the buffer b': the text written and the text to be written are together the same
pub record Onward (p : List ℕ) (i : Pins) (l : Listed) (x : Lent) (b : List ℕ) (l' : Listed) (x' : Lent) (b' : List ℕ) : Type 0 where
  pub able : Able p x' l'.took l'.left i
  pub text : (is : List Pins) → take l'.len b' ++ text_from p x' l'.took (replicate l'.left i ++ is)
      ≡ take l.len b ++ text_from p x l.took (replicate l.left i ++ is)
  pub long : length b' ≡ length b
  pub fits : l'.len ≤ length b'
  pub fewer : l'.left ≤ l.left
  pub pace : x'.machine.scalars.counts.clocks + l'.left ≡ x.machine.scalars.counts.clocks + l.left
  pub stored : length x'.store ≡ length x.store

-- one clock that takes no interrupt, in code: r is the outcome of the clock, w the word at PC
pub record Went (l : Listed) (r : Clocked) (w : ℕ) (b : List ℕ) (h : Listed) (b' : List ℕ) : Type 0 where
  pub scalars : h.scalars ≡ r.scalars
  pub left : h.left ≡ l.left - 1
  pub took : h.took ≡ cond (eqb r.finished 1) 0 (l.took + 1)
  pub text : Wrote b l.len
      (cond (eqb r.finished 1)
      (row_bytes (record { clock = r.scalars.counts.clocks; at = l.scalars.pc; shown = Word w; took = l.took + 1 })) [])
      b' h.len
  pub fits : h.len ≤ length b'

-- one clock that takes an interrupt and goes to the PC `to`
pub record Interrupted (l : Listed) (c : Scalars) (to : ℕ) (b : List ℕ) (h : Listed) (b' : List ℕ) : Type 0 where
  pub scalars : h.scalars ≡ c
  pub left : h.left ≡ l.left - 1
  pub took : h.took ≡ 0
  pub text : Wrote b l.len (row_bytes (record {
    clock = c.counts.clocks;
    at = l.scalars.pc;
    shown = cond
        (eqb to 2) Irq0 Irq1;
    took = 1;
  })) b' h.len
  pub fits : h.len ≤ length b'
