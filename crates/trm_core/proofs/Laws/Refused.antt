-- The table of refusals holds.
-- One Bool test computes all rows; that it is true gives the equation of each row.
use mathlib.Core.Path.{◌≡◌, refl}
use mathlib.Core.Bool.{Bool, true, ◌&&◌, and-eq-true_iff}
use mathlib.Core.List.{List, [], ◌∷◌}
use lib.Dec.{eqb}
use borrow.Author.Tests.{eqb-true}
use Rattle.trm_word.specs.Address.{store_length_ok}
use Rattle.trm_alu.specs.Word.{signed, word}
use Rattle.trm_alu.specs.Multiply.{product, low_word, high_word, partial_product, mul_after}
use Rattle.trm_alu.specs.Divide.{above0, floor_div, floor_mod, quotient, remainder, taken, div_rem, div_quot}
use Rattle.trm_alu.specs.Results.{exact_sum, exact_difference, sum, difference, ror, short_result, result_of, high_of}
use Rattle.trm_alu.specs.Flags.{too_wide, carry_of_add, carry_of_sub, overflow_of_add, overflow_of_sub, sign_flag, zero_flag}
use Rattle.trm_alu.specs.Flags.{carry_after, overflow_after, flags_after, flags_of}
use Rattle.trm_reference.specs.Geometry.{burst, block_of, line_of}
use Rattle.trm_reference.specs.Visible.{register_index, register, with_register, cache_on, with_mode, next_pc, word_at}
use Rattle.trm_reference.specs.Access.{is_load, is_store, address_of, place_of_word, is_memory, memory_index, device_number, is_access}
use Rattle.trm_reference.specs.Access.{to_memory, to_device, target, target_block, target_line, stored, loaded, device_answer, answer_of}
use Rattle.trm_reference.specs.Execute.{operand_a, operand_b, calculated, status_set, returned, jumped, branch_taken, branch_target}
use Rattle.trm_reference.specs.Execute.{branched, called, execute}
use Rattle.trm_reference.specs.Interrupt.{stalled, interrupt_raised, interrupt_chosen, saved_word, interrupted}
use Rattle.trm_reference.specs.History.{how_many}
use Rattle.trm_reference.specs.Charge.{is_stepped, is_jump, takes_branch, through_cache, without_cache, turns_cache_off, miss_charge}
use Rattle.trm_reference.specs.Charge.{uncached_charge, charge_by}
use Rattle.trm_reference.specs.Trace.{pins_of, clocks}
use Rattle.trm_cache.specs.Cache.{line_at, holds, line_view, view, write_word, fill_word, count_dirty, lowest, first_dirty, empty_to}
use Rattle.trm_cache.specs.Cache.{all_emptied}
use Rattle.trm_core.specs.Record.{product_at, remainder_at, quotient_at, reset_of}
use Rattle.trm_core.specs.Clock.{line_for, hits, charge_here, is_last, cache_after, store_after, finish, written, writing, filling}
use Rattle.trm_core.specs.Clock.{missing, first_clock, write_line, advance, worked, unheld, held_clock, clock_of}
use Rattle.trm_core.specs.Rule.{widths_ok, counts_ok, registers_ok, arithmetic_ok, writeback_ok, refill_ok, wait_ok, due_ok, phase_ok}
use Rattle.trm_core.specs.Rule.{line_ok, marks_ok, all_below, lines_ok, record_ok}
use Rattle.trm_core.specs.Refusals.{all_at_most, program_ok, store_ok, record_rows, count_row, clock_rows, line_bytes_refused, run_rows}
use Rattle.trm_core.specs.Refusals.{reset_refusal, clock_refusal, run_refusal, look_refusal, copy_refusal, watch_refusal}
use Rattle.trm_cache.specs.Cache.{below}
use Rattle.trm_core.specs.Scenario.{program, spread, line_byte_spans, pins, first_store, record_history}
use Rattle.trm_core.specs.Refused.{clocked_in, scenario_after, total, Row, AllGive, rows}
use Rattle.trm_core.specs.Claims.{RefusalsHold}

test : List Row → Bool
test [] = true
test (r ∷ rs) = eqb r.gives r.expected && test rs

test_true : (rs : List Row) → test rs ≡ true → AllGive rs
unfolding test AllGive
test_true [] t = tt
test_true (r ∷ rs) t =
    let p = (and-eq-true_iff (eqb r.gives r.expected) (test rs)).0 t in
    (eqb-true r.gives r.expected p.0, test_true rs p.1)

pub refusals_hold : RefusalsHold
unfolding test how_many store_length_ok signed word product low_word high_word partial_product mul_after above0 floor_div floor_mod quotient
    remainder taken div_rem div_quot exact_sum exact_difference sum difference ror short_result result_of high_of too_wide
    carry_of_add carry_of_sub overflow_of_add overflow_of_sub sign_flag zero_flag carry_after overflow_after flags_after flags_of burst
    block_of
    line_of register_index register with_register cache_on with_mode next_pc word_at is_load is_store address_of place_of_word is_memory
    memory_index device_number is_access to_memory to_device target target_block target_line stored loaded device_answer answer_of operand_a
    operand_b calculated status_set returned jumped branch_taken branch_target branched called execute stalled interrupt_raised
    interrupt_chosen saved_word interrupted is_stepped is_jump takes_branch through_cache without_cache turns_cache_off miss_charge
    uncached_charge charge_by pins_of clocks line_at holds line_view view write_word fill_word count_dirty lowest first_dirty empty_to
    all_emptied product_at remainder_at quotient_at reset_of line_for hits charge_here is_last cache_after store_after finish written
    writing
    filling missing first_clock write_line advance worked unheld held_clock clock_of widths_ok counts_ok registers_ok arithmetic_ok
    writeback_ok refill_ok wait_ok due_ok phase_ok line_ok marks_ok all_below lines_ok record_ok all_at_most program_ok store_ok record_rows
    count_row clock_rows line_bytes_refused run_rows reset_refusal clock_refusal run_refusal look_refusal copy_refusal watch_refusal below
    program
    spread line_byte_spans pins first_store record_history clocked_in scenario_after total rows
refusals_hold = test_true rows refl
