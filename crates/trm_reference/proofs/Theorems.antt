-- Proves every field of `Claims`; each but one is a table of Laws/Tables.antt.
use Rattle.trm_reference.specs.Claims.{Claims}
use Rattle.trm_reference.proofs.Laws.Tables.{starred_hold, clock_table_holds, executed_hold, accesses_hold}
use Rattle.trm_reference.proofs.Laws.Comparisons.{compares_addresses}
use Rattle.trm_reference.proofs.Laws.Tables.{comparisons_hold, interrupts_hold, histories_hold, stalls_hold}

pub theorems : Claims
theorems =
    record {
      starred_hold = starred_hold;
      clock_table_holds = clock_table_holds;
      executed_hold = executed_hold;
      comparisons_hold = comparisons_hold;
      compares_addresses = compares_addresses;
      accesses_hold = accesses_hold;
      interrupts_hold = interrupts_hold;
      histories_hold = histories_hold;
      stalls_hold = stalls_hold;
    }
