-- Every row of the table of bench cases holds.
-- One Bool test computes all rows; that it is true gives the equation of each row.
use Rattle.std.proofs.Common.{refl}
use Rattle.trm_laws.proofs.Table.{same, test, test_true}
use Rattle.trm_alu.specs.Word.{signed, word}
use Rattle.trm_alu.specs.Multiply.{product, low_word, high_word}
use Rattle.trm_alu.specs.Divide.{above0, floor_div, floor_mod, quotient, remainder}
use Rattle.trm_alu.specs.Results.{exact_sum, exact_difference, sum, difference, ror, short_result, result_of, high_of}
use Rattle.trm_alu.specs.Flags.{too_wide, carry_of_add, carry_of_sub, overflow_of_add, overflow_of_sub}
use Rattle.trm_alu.specs.Flags.{sign_flag, zero_flag, carry_after, overflow_after, flags_after, flags_of}
use Rattle.trm_alu.specs.Bench.{outcome, rows, AllHold}

pub rows-hold : AllHold rows
unfolding rows AllHold test same outcome signed word product low_word high_word above0 floor_div floor_mod quotient remainder
    exact_sum exact_difference sum difference ror short_result result_of high_of too_wide carry_of_add carry_of_sub
    overflow_of_add overflow_of_sub sign_flag zero_flag carry_after overflow_after flags_after flags_of
rows-hold = test_true outcome (λ r. r.gives) AllHold tt (λ r rs p q. (p, q)) rows refl
