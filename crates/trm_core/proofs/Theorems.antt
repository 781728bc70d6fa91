-- Proves every field of `Claims`; each is a law of Laws/.
use Rattle.trm_core.specs.Claims.{Claims}
use Rattle.trm_core.proofs.Laws.Table.{clock_table}
use Rattle.trm_core.proofs.Laws.Kept.{record_kept}
use Rattle.trm_core.proofs.Laws.Reset.{reset_kept}
use Rattle.trm_core.proofs.Laws.Deaf.{deaf, clocks_are_three, held_waits, seen_changes_last}
use Rattle.trm_core.proofs.Laws.Limits.{limits}
use Rattle.trm_core.proofs.Laws.Scenario.{scenario_holds}
use Rattle.trm_core.proofs.Laws.Refused.{refusals_hold}

pub theorems : Claims
theorems =
    record {
      clock_table = clock_table;
      record_kept = record_kept;
      reset_kept = reset_kept;
      deaf = deaf;
      clocks_are_three = clocks_are_three;
      held_waits = held_waits;
      seen_changes_last = seen_changes_last;
      scenario_holds = scenario_holds;
      refusals_hold = refusals_hold;
      limits = limits;
    }
