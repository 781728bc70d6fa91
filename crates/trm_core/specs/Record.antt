-- The record: the part that a programmer sees, the cache, and how a clock changes the scalars.
-- Paper: "The record holds phase and count .."; "The record also counts finished refills and write-backs"; "Reset makes everything zero
-- and the cache empty; the store keeps its contents".
--   visible_of m, cache_of m    the two parts        whole   the record from its parts        reset_of G s, start G s   after a reset
--   advanced, ended, waited   the scalars after a clock that executes no word, after one that does or takes an interrupt, after a held one
use Rattle.std.specs.Prelude.{ℕ, ◌+◌, ◌*◌, cond, List, [], length, replicate, eqb}
use Rattle.trm_word.specs.Fields.{operation}
use Rattle.trm_alu.specs.Multiply.{mul_after}
use Rattle.trm_alu.specs.Divide.{div_rem, div_quot}
use Rattle.trm_reference.specs.Geometry.{Geometry}
use Rattle.trm_reference.specs.Visible.{Visible}
use Rattle.trm_reference.specs.Execute.{operand_a, operand_b}
use Rattle.trm_core.specs.declared.record.Counts.{Counts}
use Rattle.trm_core.specs.declared.record.Running.{Running}
use Rattle.trm_core.specs.declared.record.Scalars.{Scalars}
use Rattle.trm_cache.specs.Cache.{cache, stride}
use Rattle.trm_cache.specs.declared.record.Cache.{Cache}

-- the record: the scalars; registers of bank 0, then of bank 1; per line full, dirty (0 or 1) and block; the words of all lines
pub record Machine : Type 0 where
  pub scalars : Scalars
  pub regs : List ℕ
  pub full : List ℕ
  pub dirty : List ℕ
  pub block : List ℕ
  pub words : List ℕ

-- what a programmer sees, from the scalars and the registers
abbrev pub gathered : Scalars → List ℕ → Visible
gathered c rs =
    record {
      pc = c.pc;
      regs = rs;
      h = c.h;
      n = c.n;
      z = c.z;
      c = c.c;
      v = c.v;
      status = c.status;
    }

abbrev pub visible_of : Machine → Visible
visible_of m = gathered m.scalars m.regs

abbrev pub cache_of : Machine → Cache
cache_of m = cache m.full m.dirty m.block m.words

abbrev pub whole : Scalars → List ℕ → Cache → Machine
whole c rs ca =
    record {
      scalars = c;
      regs = rs;
      full = ca.full;
      dirty = ca.dirty;
      block = ca.block;
      words = ca.words;
    }

-- a record with its store: the state that a clock changes
pub record Lent : Type 0 where
  pub machine : Machine
  pub store : List ℕ

-- "for the operation not running, these registers are zero": the registers after k steps of the word w
unfoldable pub product_at : ℕ → Visible → ℕ → ℕ
product_at w v k = cond (eqb (operation w) 8) (mul_after (operand_a w v) (operand_b w v) k) 0

unfoldable pub remainder_at : ℕ → Visible → ℕ → ℕ
remainder_at w v k = cond (eqb (operation w) 9) (div_rem (operand_a w v) (operand_b w v) k) 0

unfoldable pub quotient_at : ℕ → Visible → ℕ → ℕ
quotient_at w v k = cond (eqb (operation w) 9) (div_quot (operand_a w v) (operand_b w v) k) 0

-- phase 1 after k steps
abbrev pub stepping : ℕ → Visible → ℕ → Running
stepping w v k =
    record {
      phase = 1;
      count = k;
      product = product_at w v k;
      remainder = remainder_at w v k;
      quotient = quotient_at w v k;
    }

-- "Outside phase 1 .. these registers are zero"
abbrev pub in_phase : ℕ → ℕ → Running
in_phase phase count = record { phase = phase; count = count; product = 0; remainder = 0; quotient = 0 }

-- the scalars from what a programmer sees (all of it but the registers), what is running, the store's length at reset and the counts
abbrev pub scalars_of : Visible → Running → ℕ → Counts → Scalars
scalars_of v r size k =
    record {
      pc = v.pc;
      h = v.h;
      n = v.n;
      z = v.z;
      c = v.c;
      v = v.v;
      status = v.status;
      running = r;
      size = size;
      counts = k;
    }

-- the scalars c with another running part and other counts; all else stays
abbrev pub scalars_with : Scalars → Running → Counts → Scalars
scalars_with c r k = scalars_of (gathered c []) r c.size k

-- clocks, held, refills, write-backs
abbrev pub counts_of : ℕ → ℕ → ℕ → ℕ → Counts
counts_of k held refills writebacks = record { clocks = k; held = held; refills = refills; writebacks = writebacks }

-- a clock that executes no word: what is running after it, and how many refills and write-backs it finished
abbrev pub advanced : Scalars → Running → ℕ → ℕ → Scalars
advanced c r refilled written =
    scalars_with c r
    (counts_of (c.counts.clocks + 1) c.counts.held (c.counts.refills + refilled) (c.counts.writebacks + written))

-- a clock that executes a word or takes an interrupt: v is what a programmer sees after it
abbrev pub ended : Scalars → Visible → Scalars
ended c v =
    scalars_of v (in_phase 0 0) c.size
    (counts_of (c.counts.clocks + 1) c.counts.held c.counts.refills c.counts.writebacks)

-- "it adds one to the clock and held counts and does nothing else"
abbrev pub waited : Scalars → Scalars
waited c =
    scalars_with c c.running
    (counts_of (c.counts.clocks + 1) (c.counts.held + 1) c.counts.refills c.counts.writebacks)

-- "Reset makes everything zero and the cache empty"; the record keeps the store's length
unfoldable pub reset_of : Geometry → List ℕ → Machine
reset_of G s =
    record {
      scalars = record {
        pc = 0;
        h = 0;
        n = 0;
        z = 0;
        c = 0;
        v = 0;
        status = 0;
        running = in_phase 0 0;
        size = length s;
        counts = counts_of 0 0 0 0;
      };
      regs = replicate 16 0;
      full = replicate G.lines 0;
      dirty = replicate G.lines 0;
      block = replicate G.lines 0;
      words = replicate (G.lines * stride G) 0;
    }

-- the record after a reset, with its store: "the store keeps its contents"
abbrev pub start : Geometry → List ℕ → Lent
start G s = record { machine = reset_of G s; store = s }
