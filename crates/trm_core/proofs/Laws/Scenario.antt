-- The numbers of the scenario are the expected ones.
-- Computed by a Bool test on numbers, so the terms that they come from are never compared.
use mathlib.Core.Path.{refl}
use borrow.Author.Tests.{eqb-true}
use Rattle.trm_laws.proofs.Table.{same, same_true}
use Rattle.trm_alu.specs.Word.{signed, word}
use Rattle.trm_alu.specs.Multiply.{product, low_word, high_word, partial_product, mul_after}
use Rattle.trm_alu.specs.Divide.{above0, floor_div, floor_mod, quotient, remainder, taken, div_rem, div_quot}
use Rattle.trm_alu.specs.Results.{exact_sum, exact_difference, sum, difference, ror, short_result, result_of, high_of}
use Rattle.trm_alu.specs.Flags.{too_wide, carry_of_add, carry_of_sub, overflow_of_add, overflow_of_sub, sign_flag, zero_flag}
use Rattle.trm_alu.specs.Flags.{carry_after, overflow_after, flags_after, flags_of}
use Rattle.trm_reference.specs.Geometry.{burst, block_of, line_of}
use Rattle.trm_reference.specs.Visible.{register_index, register, with_register, cache_on, with_mode, next_pc, word_at, reset_visible}
use Rattle.trm_reference.specs.Access.{is_load, is_store, address_of, place_of_word, is_memory, memory_index, device_number, is_access}
use Rattle.trm_reference.specs.Access.{to_memory, to_device, target, target_block, target_line, stored, loaded, device_answer, answer_of}
use Rattle.trm_reference.specs.Execute.{operand_a, operand_b, calculated, status_set, returned, jumped, branch_taken, branch_target}
use Rattle.trm_reference.specs.Execute.{branched, called, execute}
use Rattle.trm_reference.specs.Interrupt.{stalled, interrupt_raised, interrupt_chosen, saved_word, interrupted}
use Rattle.trm_reference.specs.History.{since, last_in, stored_since, last_dirty, refills_now, dirty_now, how_many, dirty_lines}
use Rattle.trm_reference.specs.Charge.{is_stepped, is_jump, takes_branch, through_cache, without_cache, turns_cache_off, miss_charge}
use Rattle.trm_reference.specs.Charge.{uncached_charge, charge_by}
use Rattle.trm_reference.specs.Trace.{pins_of, clocks}
use Rattle.trm_reference.specs.Reference.{reference_reset, misses, evicts, charge, refill_over, writeback_over, memory_after}
use Rattle.trm_reference.specs.Reference.{history_after, carry_out, spend, take_off, reference_held, reference_interrupt}
use Rattle.trm_reference.specs.Reference.{reference_unheld, reference_clock}
use Rattle.trm_cache.specs.Cache.{line_at, holds, line_view, view, write_word, fill_word, count_dirty, lowest, first_dirty, empty_to}
use Rattle.trm_cache.specs.Cache.{all_emptied}
use Rattle.trm_core.specs.Record.{product_at, remainder_at, quotient_at, reset_of}
use Rattle.trm_core.specs.Clock.{line_for, hits, charge_here, is_last, cache_after, store_after, finish, written, writing, filling}
use Rattle.trm_core.specs.Clock.{missing, first_clock, write_line, advance, worked, unheld, held_clock, clock_of}
use Rattle.trm_cache.specs.Cache.{below}
use Rattle.trm_core.specs.Scenario.{program, spread, line_byte_spans, pins, first_store, record_history, reference_history, mixed}
use Rattle.trm_core.specs.Scenario.{seen_numbers, running_numbers, count_numbers, answer_numbers, store_numbers, machine_numbers}
use Rattle.trm_core.specs.Scenario.{record_numbers, reference_numbers, record_digest, reference_digest, finishes_of, finishes}
use Rattle.trm_core.specs.Scenario.{phases, expected_record_digest, expected_reference_digest, expected_finishes, expected_phases}
use Rattle.trm_core.specs.Claims.{ScenarioHolds}

pub scenario_holds : ScenarioHolds
unfolding same signed word product low_word high_word partial_product mul_after above0 floor_div floor_mod quotient remainder taken div_rem
    div_quot exact_sum exact_difference sum difference ror short_result result_of high_of too_wide carry_of_add carry_of_sub
    overflow_of_add overflow_of_sub sign_flag zero_flag carry_after overflow_after flags_after flags_of burst block_of line_of
    register_index
    register with_register cache_on with_mode next_pc word_at reset_visible is_load is_store address_of place_of_word is_memory memory_index
    device_number is_access to_memory to_device target target_block target_line stored loaded device_answer answer_of operand_a operand_b
    calculated status_set returned jumped branch_taken branch_target branched called execute stalled interrupt_raised interrupt_chosen
    saved_word interrupted since last_in stored_since last_dirty refills_now dirty_now how_many dirty_lines is_stepped is_jump takes_branch
    through_cache without_cache turns_cache_off miss_charge uncached_charge charge_by pins_of clocks reference_reset misses evicts charge
    refill_over writeback_over memory_after history_after carry_out spend take_off reference_held reference_interrupt reference_unheld
    reference_clock line_at holds line_view view write_word fill_word count_dirty lowest first_dirty empty_to all_emptied product_at
    remainder_at quotient_at reset_of line_for hits charge_here is_last cache_after store_after finish written writing filling missing
    first_clock write_line advance worked unheld held_clock clock_of below program spread line_byte_spans pins first_store record_history
    reference_history mixed seen_numbers running_numbers count_numbers answer_numbers store_numbers machine_numbers record_numbers
    reference_numbers record_digest reference_digest finishes_of finishes phases expected_record_digest expected_reference_digest
    expected_finishes expected_phases
scenario_holds = (
  eqb-true record_digest expected_record_digest refl,
  eqb-true reference_digest expected_reference_digest refl,
  same_true finishes expected_finishes refl,
  same_true phases (spread expected_phases) refl,
)
