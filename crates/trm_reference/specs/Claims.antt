-- Claims about the reference machine: in every case of eight tables its definitions compute what the paper says; and what branches
-- after SUB compare.
-- Paper: "Bench cases", the clock table, "What a programmer sees", "Clock by clock"; request A2. Proved in proofs/Theorems.antt.
use Rattle.std.specs.Prelude.{ℕ, ◌^◌, ◌<◌, ◌≡◌, ltb, leb}
use Rattle.trm_word.specs.Fields.{operation, condition}
use Rattle.trm_reference.specs.Visible.{Visible}
use Rattle.trm_reference.specs.Execute.{operand_a, operand_b, execute, branch_taken}
use Rattle.trm_reference.specs.Tables.{AllHold}
use Rattle.trm_reference.specs.Tables.Starred.{starred}
use Rattle.trm_reference.specs.Tables.ClockTable.{clock_table}
use Rattle.trm_reference.specs.Tables.Executed.{executed}
use Rattle.trm_reference.specs.Tables.Comparisons.{comparisons}
use Rattle.trm_reference.specs.Tables.Accesses.{accesses}
use Rattle.trm_reference.specs.Tables.Interrupts.{interrupts}
use Rattle.trm_reference.specs.Tables.Histories.{histories}
use Rattle.trm_reference.specs.Tables.Stalls.{stalls}

-- Every starred bench case holds: three for the address or place of a load, the others by executing words.
abbrev pub StarredHold : Type 0
StarredHold = AllHold starred

-- A word of each row of the clock table, in each of its forms, is charged the clocks of that row.
abbrev pub ClockTableHolds : Type 0
ClockTableHolds = AllHold clock_table

-- In each case a word changes PC, registers, H, flags and status as the paper says, and no other register.
abbrev pub ExecutedHold : Type 0
ExecutedHold = AllHold executed

-- In each case the branch higher or lower-or-same is taken as the two addresses compare.
abbrev pub ComparisonsHold : Type 0
ComparisonsHold = AllHold comparisons

-- A2: "The higher and lower-or-same branches then compare addresses rightly": whatever 32-bit words SUB w takes for B and A, a branch u
-- under condition 8 is taken after it if and only if B is above A without sign, under condition 9 if and only if B is at or below A.
abbrev pub ComparesAddresses : Type 0
ComparesAddresses =
    (w u : ℕ) (v : Visible) (x : ℕ) → operation w ≡ 3 → operand_a w v < 2 ^ 32 → operand_b w v < 2 ^ 32
    → (condition u ≡ 8 → branch_taken u (execute w v x) ≡ ltb (operand_a w v) (operand_b w v))
    × (condition u ≡ 9 → branch_taken u (execute w v x) ≡ leb (operand_b w v) (operand_a w v))

-- In each case LD and ST access the address, memory word and device that the paper says, in their last clock, and no other word;
-- an accepted reset gives zeros and the words of the store.
abbrev pub AccessesHold : Type 0
AccessesHold = AllHold accesses

-- In each case a clock takes an interrupt, begins a word or is held as the paper says.
abbrev pub InterruptsHold : Type 0
InterruptsHold = AllHold interrupts

-- In each case the history determines which access refills and which lines are dirty, and a burst is counted in its last clock.
abbrev pub HistoriesHold : Type 0
HistoriesHold = AllHold histories

-- In each case held clocks delay the end of a word by their number and do not change its outcome.
abbrev pub StallsHold : Type 0
StallsHold = AllHold stalls

pub record Claims : Type 0 where
  pub starred_hold : StarredHold
  pub clock_table_holds : ClockTableHolds
  pub executed_hold : ExecutedHold
  pub comparisons_hold : ComparisonsHold
  pub compares_addresses : ComparesAddresses
  pub accesses_hold : AccessesHold
  pub interrupts_hold : InterruptsHold
  pub histories_hold : HistoriesHold
  pub stalls_hold : StallsHold
