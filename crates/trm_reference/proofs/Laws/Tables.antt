-- Every row of each table holds.
-- One Bool test computes all rows of a table; that it is true gives the equation of each row.
use mathlib.Core.Path.{◌≡◌, refl}
use mathlib.Core.Bool.{Bool, true}
use mathlib.Core.List.{List}
use Rattle.trm_laws.proofs.Table.{same, test, test_true}
use Rattle.trm_alu.specs.Word.{signed, word}
use Rattle.trm_alu.specs.Multiply.{product, low_word, high_word}
use Rattle.trm_alu.specs.Divide.{above0, floor_div, floor_mod, quotient, remainder}
use Rattle.trm_alu.specs.Results.{exact_sum, exact_difference, sum, difference, ror, short_result, result_of, high_of}
use Rattle.trm_alu.specs.Flags.{too_wide, carry_of_add, carry_of_sub, overflow_of_add, overflow_of_sub}
use Rattle.trm_alu.specs.Flags.{sign_flag, zero_flag, carry_after, overflow_after, flags_after, flags_of}
use Rattle.trm_reference.specs.Geometry.{burst, block_of, line_of}
use Rattle.trm_reference.specs.Visible.{register_index, register, with_register, cache_on, with_mode, next_pc, word_at, reset_visible}
use Rattle.trm_reference.specs.Access.{is_load, is_store, address_of, place_of_word, is_memory, memory_index, device_number, is_access}
use Rattle.trm_reference.specs.Access.{to_memory, to_device, target, target_block, target_line, stored, loaded, device_answer, answer_of}
use Rattle.trm_reference.specs.Execute.{operand_a, operand_b, calculated, status_set, returned, jumped, branch_taken, branch_target}
use Rattle.trm_reference.specs.Execute.{branched, called, execute}
use Rattle.trm_reference.specs.Interrupt.{stalled, interrupt_raised, interrupt_chosen, saved_word, interrupted}
use Rattle.trm_reference.specs.History.{since, last_in, stored_since, last_dirty, refills_now, dirty_now, how_many, dirty_lines}
use Rattle.trm_reference.specs.History.{refills_in, writebacks_in}
use Rattle.trm_reference.specs.Charge.{is_jump, takes_branch, through_cache, without_cache, turns_cache_off, miss_charge}
use Rattle.trm_reference.specs.Charge.{uncached_charge, charge_by}
use Rattle.trm_reference.specs.Trace.{pins_of, clocks, end_of, outs_of, finished_in}
use Rattle.trm_reference.specs.Reference.{reference_reset, misses, evicts, charge, refill_over, writeback_over, memory_after}
use Rattle.trm_reference.specs.Reference.{history_after, carry_out, spend, take_off, reference_held, reference_interrupt}
use Rattle.trm_reference.specs.Reference.{reference_unheld, reference_clock}
use Rattle.trm_reference.specs.Tables.{Row, AllHold, ran_with, ran, state_after, finishes, changed_from, shown, rest_of}
use Rattle.trm_reference.specs.Tables.Starred.{arithmetic, placed, starred}
use Rattle.trm_reference.specs.Tables.ClockTable.{clock_table}
use Rattle.trm_reference.specs.Tables.Executed.{taken_under, executed}
use Rattle.trm_reference.specs.Tables.Comparisons.{compared, comparisons}
use Rattle.trm_reference.specs.Tables.Accesses.{answered_to, kept, accesses}
use Rattle.trm_reference.specs.Tables.Interrupts.{reached, interrupts}
use Rattle.trm_reference.specs.Tables.Histories.{judged, summed, counted, finished_at, histories}
use Rattle.trm_reference.specs.Tables.Stalls.{stalled_run, answers_of, stalls}

-- each row's two lists are equal, as a test of the whole table
abbrev passes : List Row → Bool
passes = test (λ r. r.computed) (λ r. r.expected)

passes-holds : (rs : List Row) → passes rs ≡ true → AllHold rs
unfolding AllHold
passes-holds = test_true (λ r. r.computed) (λ r. r.expected) AllHold tt (λ r rs p q. (p, q))

-- the test of each table
record Passed : Type 0 where
  starred-passes : passes starred ≡ true
  clock_table-passes : passes clock_table ≡ true
  executed-passes : passes executed ≡ true
  comparisons-passes : passes comparisons ≡ true
  accesses-passes : passes accesses ≡ true
  interrupts-passes : passes interrupts ≡ true
  histories-passes : passes histories ≡ true
  stalls-passes : passes stalls ≡ true

passed : Passed
unfolding test same
    starred clock_table executed comparisons accesses interrupts histories stalls ran_with ran state_after finishes arithmetic placed
    changed_from shown compared taken_under answered_to kept reached rest_of judged summed counted finished_at stalled_run answers_of
    signed word product low_word high_word above0 floor_div floor_mod quotient remainder exact_sum exact_difference sum difference ror
    short_result result_of high_of too_wide carry_of_add carry_of_sub overflow_of_add overflow_of_sub sign_flag zero_flag carry_after
    overflow_after flags_after flags_of
    burst block_of line_of register_index register with_register cache_on with_mode next_pc word_at reset_visible
    is_load is_store address_of place_of_word is_memory memory_index device_number is_access to_memory to_device target target_block
    target_line stored loaded device_answer answer_of
    operand_a operand_b calculated status_set returned jumped branch_taken branch_target branched called execute
    stalled interrupt_raised interrupt_chosen saved_word interrupted since last_in stored_since last_dirty refills_now dirty_now how_many
    dirty_lines refills_in writebacks_in
    is_jump takes_branch through_cache without_cache turns_cache_off miss_charge uncached_charge charge_by pins_of clocks end_of outs_of
    finished_in
    reference_reset misses evicts charge refill_over writeback_over memory_after history_after carry_out spend take_off reference_held
    reference_interrupt reference_unheld reference_clock
passed =
    record {
      starred-passes = refl;
      clock_table-passes = refl;
      executed-passes = refl;
      comparisons-passes = refl;
      accesses-passes = refl;
      interrupts-passes = refl;
      histories-passes = refl;
      stalls-passes = refl;
    }

pub starred_hold : AllHold starred
starred_hold = passes-holds starred passed.starred-passes

pub clock_table_holds : AllHold clock_table
clock_table_holds = passes-holds clock_table passed.clock_table-passes

pub executed_hold : AllHold executed
executed_hold = passes-holds executed passed.executed-passes

pub comparisons_hold : AllHold comparisons
comparisons_hold = passes-holds comparisons passed.comparisons-passes

pub accesses_hold : AllHold accesses
accesses_hold = passes-holds accesses passed.accesses-passes

pub interrupts_hold : AllHold interrupts
interrupts_hold = passes-holds interrupts passed.interrupts-passes

pub histories_hold : AllHold histories
histories_hold = passes-holds histories passed.histories-passes

pub stalls_hold : AllHold stalls
stalls_hold = passes-holds stalls passed.stalls-passes
