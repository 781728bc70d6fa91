-- What an unheld clock does: each case as a statement on `is_last` and `advance` of trm_core. No contract cites these.
-- Idea: the laws give every record that keeps row 5 its case; the proofs of the functions then use the case and not `clock_of`.
--   Finishes, StepsOnce, Writes, Fills, Misses, Waits, BecomesDue   the cases        Does .. f   not the last clock, and it does f
use Prim.Native.Nat.{ℕ, ◌+◌, ◌*◌, ◌%◌, ◌≤◌, ◌<◌}
use mathlib.Core.Path.{◌≡◌}
use mathlib.Core.Bool.{Bool, true, false}
use mathlib.Core.List.{List}
use Rattle.trm_reference.specs.Geometry.{paper_geometry}
use Rattle.trm_cache.specs.Cache.{line_at}
use Rattle.trm_cache.specs.declared.record.Cache.{Cache}
use Rattle.trm_core.specs.declared.record.Scalars.{Scalars}
use Rattle.trm_core.specs.Record.{gathered, product_at, remainder_at, quotient_at, stepping, in_phase}
use Rattle.trm_core.specs.Clock.{Moved, moved, is_last, writing, filling, missing, advance}
use Rattle.trm_clock_scalars.specs.Steps.{Steps}

-- the registers are those after 32 steps; an instruction without steps has them zero
pub record Ended (w : ℕ) (c : Scalars) (rs : List ℕ) : Type 0 where
  pub product : c.running.product ≡ product_at w (gathered c rs) 32
  pub remainder : c.running.remainder ≡ remainder_at w (gathered c rs) 32
  pub quotient : c.running.quotient ≡ quotient_at w (gathered c rs) 32

-- the clock is not the last, and `advance` is f
pub record Does (w n : ℕ) (c : Scalars) (rs : List ℕ) (ca : Cache) (f : List ℕ → Moved) : Type 0 where
  pub more : is_last paper_geometry w n c.running (gathered c rs) ca ≡ false
  pub does : (s : List ℕ) → advance paper_geometry w n c (gathered c rs) ca s ≡ f s

pub record Writes (w n : ℕ) (c : Scalars) (rs : List ℕ) (ca : Cache) (clears : Bool) (l : ℕ) : Type 0 where
  pub goes : Does w n c rs ca (writing paper_geometry clears l c.running.count c ca)
  pub line : l < 16
  pub few : c.running.count < 10
  pub inside : (line_at paper_geometry ca l).block * 8 + 8 ≤ n

pub record Fills (w n : ℕ) (c : Scalars) (rs : List ℕ) (ca : Cache) (b : ℕ) : Type 0 where
  pub goes : Does w n c rs ca (filling paper_geometry b (b % 16) c.running.count c ca)
  pub few : c.running.count < 10
  pub inside : b * 8 + 8 ≤ n

pub record Misses (w n : ℕ) (c : Scalars) (rs : List ℕ) (ca : Cache) (l : ℕ) : Type 0 where
  pub goes : Does w n c rs ca (missing paper_geometry l c ca)
  pub line : l < 16

-- the last clock of the word
abbrev pub Finishes : ℕ → ℕ → Scalars → List ℕ → Cache → Type 0
Finishes w n c rs ca = (is_last paper_geometry w n c.running (gathered c rs) ca ≡ true) × Ended w c rs

-- one step of the multiplier or the divider
abbrev pub StepsOnce : ℕ → ℕ → Scalars → List ℕ → Cache → Type 0
StepsOnce w n c rs ca =
    Does w n c rs ca (λ s. moved c (stepping w (gathered c rs) (c.running.count + 1)) ca s 0 0) × Steps w c.running (gathered c rs)

-- one wait of an uncached access
abbrev pub Waits : ℕ → ℕ → Scalars → List ℕ → Cache → Type 0
Waits w n c rs ca = Does w n c rs ca (λ s. moved c (in_phase 4 (c.running.count + 1)) ca s 0 0) × (c.running.count < 10)

-- the clock before the last one
abbrev pub BecomesDue : ℕ → ℕ → Scalars → List ℕ → Cache → Type 0
BecomesDue w n c rs ca = Does w n c rs ca (λ s. moved c (in_phase 5 0) ca s 0 0)
