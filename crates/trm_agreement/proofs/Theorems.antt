-- The claims of this crate, proved: the value of the record `Claims` of specs/Claims.antt.
-- Idea: each field is a law of Laws/.
use Prim.Native.Nat.{ℕ}
use mathlib.Core.List.{List}
use Rattle.trm_reference.specs.Geometry.{Geometry}
use Rattle.trm_reference.specs.Reference.{Reference}
use Rattle.trm_agreement.specs.Calls.{Call, feed, answer, reference_engine}
use Rattle.trm_agreement.specs.Log.{log_of, answers_in, clocked_in}
use Rattle.trm_agreement.specs.Claims.{CallsAreClocks, Claims}
use Rattle.trm_agreement.proofs.Laws.Log.{calls-state, calls-clocked, calls-answers}
use Rattle.trm_agreement.proofs.Laws.Bounds.{bounded}
use Rattle.trm_agreement.proofs.Laws.Runs.{runs_are_runs}
use Rattle.trm_agreement.proofs.Laws.Own.{own_answered}
use Rattle.trm_agreement.proofs.Laws.Interrupts.{interrupt_rule, plain_clock}
use Rattle.trm_agreement.proofs.Laws.Devices.{answers_hold, plain_devices}
use Rattle.trm_agreement.proofs.Laws.Audit.{plain_machine}
use Rattle.trm_agreement.proofs.Laws.Typed.{of_the_code}
use Rattle.trm_agreement.proofs.Laws.Demand.{demand_3, every_geometry}

calls_are_clocks : (G : Geometry) (p : List ℕ) (q : Reference) (cs : List Call) → CallsAreClocks G p q cs
unfolding log_of answers_in clocked_in reference_engine
calls_are_clocks G p q cs = record {
  state = calls-state feed answer (reference_engine G p) q cs;
  clocked = calls-clocked feed answer (reference_engine G p) q cs;
  answers = calls-answers feed answer (reference_engine G p) q cs;
}

pub theorems : Claims
theorems =
    record {
      demand_3 = demand_3;
      every_geometry = every_geometry;
      interrupt_rule = interrupt_rule;
      answers_hold = answers_hold;
      plain_clock = plain_clock;
      plain_devices = plain_devices;
      plain_machine = plain_machine;
      bounded = bounded;
      calls_are_clocks = calls_are_clocks;
      runs_are_runs = runs_are_runs;
      own_answered = own_answered;
      of_the_code = of_the_code;
    }
