-- The run starts in `begun`, `all_turns` takes it through all line bytes, and reached-end gives `run_of`.
use mathlib.Core.Path.{refl, sym, ◌∙◌}
use Rattle.trm_run_phases.proofs.Laws.Reached.{reached-end}
use Rattle.trm_run_machine.proofs.Laws.Accepted.{run-passed}
use Rattle.trm_run_machine.proofs.Laws.Begun.{begun}
use Rattle.trm_run_machine.proofs.Laws.Shape.{shaped_by_type}
use Rattle.trm_run_machine.proofs.machine.Machine.run.Goals as goal

pub all_turns-g-requires : goal.all_turns-g-requires
all_turns-g-requires c =
    let c-pre = c.requires in
    record {
      from = _;
      so = begun _ _ _ _ _ _ _ _ (c-pre)
          (shaped_by_type _ _ c.well_formed.0)
          (c.fill.ensures.after (λ y e. e)) (c.fill-2.ensures.after (λ y e. e));
    }

pub shape_of-store : goal.shape_of-store
shape_of-store c =
    let c-pre = c.requires in
    (c.all_turns-g.ensures.0 _ (begun _ _ _ _ _ _ _ _ (c-pre) (shaped_by_type _ _ c.well_formed.0) (c.fill.ensures.after (λ y e. e))
    (c.fill-2.ensures.after (λ y e. e)))).long

pub shape_of-bytes : goal.shape_of-bytes
shape_of-bytes c =
    let c-pre = c.requires in
    let q = run-passed _ _ _ _ _ _ _ (c-pre) in
    (c.all_turns-g.ensures.0 _ (begun _ _ _ _ _ _ _ _ (c-pre) (shaped_by_type _ _ c.well_formed.0) (c.fill.ensures.after (λ y e. e))
    (c.fill-2.ensures.after (λ y e. e)))).wide ∙ sym q.1.wide

pub shape_of-words : goal.shape_of-words
shape_of-words c =
    let c-pre = c.requires in
    let q = run-passed _ _ _ _ _ _ _ (c-pre) in
    (c.all_turns-g.ensures.0 _ (begun _ _ _ _ _ _ _ _ (c-pre) (shaped_by_type _ _ c.well_formed.0) (c.fill.ensures.after (λ y e. e))
    (c.fill-2.ensures.after (λ y e. e)))).broad ∙ sym q.1.broad

pub returns : goal.returns
returns c =
    let c-pre = c.requires in
    reached-end _ _ _ _ _ _ _ (c.all_turns-g.ensures.0 _ (begun _ _ _ _ _ _
    _ _ (c-pre) (shaped_by_type _ _ c.well_formed.0) (c.fill.ensures.after (λ y e. e)) (c.fill-2.ensures.after (λ y e. e))))
    (c.all_turns-g.ensures.1 refl)
