-- A listing in the middle of an image: the runs that are left. Contracts of `inner` use this.
-- Paper: nothing. `pins_left`, `pins_at` and `Stands` are in the contracts of the pieces; no claim rests on `held_by` and `Along`.
--   pins_left s q   the inputs of all clocks that are left
--   Stands   a listing is at this place        Along   it continued to another
use Rattle.std.specs.Prelude.{ℕ, ◌+◌, ◌*◌, ◌-◌, ◌≤◌, ◌≡◌, List, ◌++◌, length, take, drop, replicate}
use Rattle.trm_reference.specs.Trace.{Pins}
use Rattle.trm_core.specs.declared.record.Scalars.{Scalars}
use Rattle.trm_core.specs.Record.{Lent, scalars_with, counts_of}
use Rattle.trm_image.specs.Records.{begins}
use Rattle.trm_image.specs.Meaning.{runs_in}
use Rattle.trm_image.specs.Runs.{Runs}
use Rattle.trm_list_rows.specs.Onward.{text_from, Able}
use Rattle.trm_listing.specs.declared.inner.runs.Place.{Place}
use Rattle.trm_listing.specs.Listing.{pins_of_runs}

-- the scalars after n held clocks
abbrev pub held_by : Scalars → ℕ → Scalars
held_by c n =
    scalars_with c c.running
    (counts_of (c.counts.clocks + n) (c.counts.held + n) c.counts.refills c.counts.writebacks)

-- the inputs of the current run; those of its clocks left and of all later runs
abbrev pub pins_at : Place → Pins
pins_at q = record { line_byte = q.pins; input = q.input }

unfoldable pub pins_left : List ℕ → Place → List Pins
pins_left s q = replicate q.listed.left (pins_at q) ++ pins_of_runs (runs_in s (begins 0 q.at (drop q.at s)))

-- a listing of the accepted image s is at the place q: only runs are left, and the counts have room for all their clocks, a run being
-- fifteen bytes and at most 65,536 clocks
pub record Stands (s p : List ℕ) (q : Place) (x : Lent) (b : List ℕ) : Type 0 where
  pub able : Able p x q.listed.took q.listed.left (pins_at q)
  pub runs : Runs 2048 s q.at
  pub small : length s ≤ 65536
  pub room : x.machine.scalars.counts.clocks + q.listed.left + (length s - q.at) * 4370 ≤ 4294967295
  pub fits : q.listed.len ≤ length b

-- the listing goes from q to q': the text written and the text to be written are together the same
pub record Along (s p : List ℕ) (q : Place) (x : Lent) (b : List ℕ) (q' : Place) (x' : Lent) (b' : List ℕ) : Type 0 where
  pub stands : Stands s p q' x' b'
  pub text : take q'.listed.len b' ++ text_from p x' q'.listed.took (pins_left s q')
      ≡ take q.listed.len b ++ text_from p x q.listed.took (pins_left s q)
  pub long : length b' ≡ length b
  pub stored : length x'.store ≡ length x.store
