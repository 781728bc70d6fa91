-- A clock is a run of one line byte: one_free for the refusals, one-ran for the outcome.
use mathlib.Core.Path.{refl}
use Rattle.trm_run_phases.proofs.Laws.Reached.{reached-end}
use Rattle.trm_run_machine.proofs.Laws.Begun.{begun}
use Rattle.trm_run_machine.proofs.Laws.One.{one_free, one-ran}
use Rattle.trm_run_machine.specs.Machine.{parts}
use Rattle.trm_run_machine.proofs.Laws.Shape.{shaped-by}
use Rattle.trm_run_machine.proofs.inner.one_clock.one_clock.Goals as goal

pub all_turns-g-requires : goal.all_turns-g-requires
all_turns-g-requires c =
    record {
      from = _;
      so = begun _ _ _ _ _ _ _ _ (one_free _ _ _ _ _ 0 0 c.requires)
          (shaped-by (parts c.args.c c.args.regs.now c.args.cache.now) c.told-regs c.sized.ensures) refl refl;
    }

pub shape_of-store : goal.shape_of-store
shape_of-store c =
    (c.all_turns-g.ensures.0 _ (begun _ _ _ _ _ _ _ _ (one_free _ _ _ _ _ 0 0 c.requires)
    (shaped-by (parts c.args.c c.args.regs.now c.args.cache.now) c.told-regs c.sized.ensures) refl refl)).long

pub returns : goal.returns
returns c =
    one-ran _ _ _ _ _ _ _ _ (reached-end _ _ _ _ _ _ _ (c.all_turns-g.ensures.0 _
    (begun _ _ _ _ _ _ _ _
    (one_free _ _ _ _ _ 0 0 c.requires) (shaped-by (parts c.args.c c.args.regs.now c.args.cache.now) c.told-regs c.sized.ensures) refl
    refl)) (c.all_turns-g.ensures.1 refl))
