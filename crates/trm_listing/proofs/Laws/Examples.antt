-- The listings of the examples, computed by the checker.
-- Idea: one test computes all rows; if it computes to true, it gives the equations.
use mathlib.Core.Path.{refl}
use Rattle.trm_laws.proofs.Table.{same, test, test_true}
use Rattle.trm_word.specs.Address.{store_length_ok}
use Rattle.trm_alu.specs.Word.{signed, word}
use Rattle.trm_alu.specs.Multiply.{product, low_word, high_word, partial_product, mul_after}
use Rattle.trm_alu.specs.Divide.{above0, floor_div, floor_mod, quotient, remainder, taken, div_rem, div_quot}
use Rattle.trm_alu.specs.Results.{exact_sum, exact_difference, sum, difference, ror, short_result, result_of, high_of}
use Rattle.trm_alu.specs.Flags.{too_wide, carry_of_add, carry_of_sub, overflow_of_add, overflow_of_sub, sign_flag, zero_flag}
use Rattle.trm_alu.specs.Flags.{carry_after, overflow_after, flags_after, flags_of}
use Rattle.trm_reference.specs.Geometry.{burst, block_of, line_of}
use Rattle.trm_reference.specs.Visible.{register_index, register, with_register, cache_on, with_mode, next_pc, word_at}
use Rattle.trm_reference.specs.Access.{is_load, is_store, address_of, place_of_word, is_memory, memory_index, device_number, is_access}
use Rattle.trm_reference.specs.Access.{to_memory, to_device, target, target_block, target_line, stored, loaded, device_answer, answer_of}
use Rattle.trm_reference.specs.Execute.{operand_a, operand_b, calculated, status_set, returned, jumped, branch_taken, branch_target}
use Rattle.trm_reference.specs.Execute.{branched, called, execute}
use Rattle.trm_reference.specs.Interrupt.{stalled, interrupt_raised, interrupt_chosen, saved_word, interrupted}
use Rattle.trm_reference.specs.Charge.{is_stepped, is_jump, takes_branch, through_cache, without_cache, turns_cache_off, miss_charge}
use Rattle.trm_reference.specs.Charge.{uncached_charge, charge_by}
use Rattle.trm_reference.specs.History.{how_many}
use Rattle.trm_reference.specs.Trace.{clocks, end_of}
use Rattle.trm_cache.specs.Cache.{line_at, holds, line_view, view, write_word, fill_word, below, count_dirty, lowest, first_dirty, empty_to}
use Rattle.trm_cache.specs.Cache.{all_emptied}
use Rattle.trm_core.specs.Record.{product_at, remainder_at, quotient_at, reset_of}
use Rattle.trm_core.specs.Clock.{line_for, hits, charge_here, is_last, cache_after, store_after, finish, written, writing, filling}
use Rattle.trm_core.specs.Clock.{missing, first_clock, write_line, advance, worked, unheld, held_clock, clock_of}
use Rattle.trm_core.specs.Refusals.{all_at_most}
use Rattle.trm_image.specs.Records.{payload_at, words_at, begins, records_of}
use Rattle.trm_image.specs.Refused.{cut_short, length_wrong, count_wrong, in_order, word_wrong, line_byte_wrong, fault_at, first_fault}
use Rattle.trm_image.specs.Refused.{image_fault}
use Rattle.trm_image.specs.Meaning.{words_in, runs_in, image_of}
use Rattle.trm_list_text.specs.Numbers.{digits, places, decimal, hex}
use Rattle.trm_list_text.specs.Rows.{shown_bytes, row_bytes, rows_bytes, end_bytes, refused_bytes}
use Rattle.trm_list_rows.specs.Rows.{interrupt_at, carries_out, row_of, took_after, rows_from, end_row}
use Rattle.trm_listing.specs.Listing.{pins_of_runs, first_store, start_of, rows_of, final_of, listing_of, output_of}
use Rattle.trm_listing.specs.Examples.{paper_example, interrupt_example, cache_example, refused_example, examples}
use Rattle.trm_listing.specs.Examples.{AllListed, ExamplesHold}

pub examples_hold : ExamplesHold
unfolding test same store_length_ok signed word product low_word high_word partial_product mul_after above0 floor_div floor_mod quotient
    remainder taken div_rem div_quot exact_sum exact_difference sum difference ror short_result result_of high_of too_wide
    carry_of_add carry_of_sub overflow_of_add overflow_of_sub sign_flag zero_flag carry_after overflow_after flags_after flags_of burst
    block_of
    line_of register_index register with_register cache_on with_mode next_pc word_at is_load is_store address_of place_of_word is_memory
    memory_index device_number is_access to_memory to_device target target_block target_line stored loaded device_answer answer_of operand_a
    operand_b calculated status_set returned jumped branch_taken branch_target branched called execute stalled interrupt_raised
    interrupt_chosen saved_word interrupted is_stepped is_jump takes_branch through_cache without_cache turns_cache_off miss_charge
    uncached_charge charge_by how_many clocks end_of line_at holds line_view view write_word fill_word below count_dirty lowest first_dirty
    empty_to
    all_emptied product_at remainder_at quotient_at reset_of line_for hits charge_here is_last cache_after store_after finish written
    writing filling missing first_clock write_line advance worked unheld held_clock clock_of all_at_most payload_at words_at begins
    records_of
    cut_short length_wrong count_wrong in_order word_wrong line_byte_wrong fault_at first_fault image_fault words_in runs_in image_of digits
    places decimal hex shown_bytes row_bytes rows_bytes end_bytes refused_bytes interrupt_at carries_out row_of took_after rows_from
    end_row pins_of_runs first_store start_of rows_of final_of listing_of output_of paper_example interrupt_example cache_example
    refused_example examples AllListed
examples_hold = test_true (λ e. output_of e.image) (λ e. e.listing) AllListed tt (λ e es p q. (p, q)) examples refl
