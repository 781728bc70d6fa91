-- The chain finds the first byte that shows the write (first_holds).
use mathlib.Core.Path.{◌≡◌}
use mathlib.Core.Bool.{true, false}
use Rattle.std.proofs.Common.{rules, tests}
use Rattle.std.proofs.lemmas.Iterator.{IsFirst-from_position, YieldsList-from_slice}
use Rattle.trm_core.specs.Observe.{shows_write}
use Rattle.trm_call_inspect.proofs.Laws.Loops.{first_holds, same_by}
use Rattle.trm_call_inspect.proofs.inner.find_write.find_write.Goals as goal

pub returns : goal.returns
returns c =
    let first = IsFirst-from_position _ _ c.position-first.result (λ b. shows_write c.args.device b ≡ true)
    (λ b. shows_write c.args.device b ≡ false) c.position-first.ensures.ran (YieldsList-from_slice c.args.bytes.now cc)
    (λ x q k. search (rules, tests)) (λ x q k. search (rules, tests)) in
    let same : c.map.result ≡ c.position-first.result = same_by _ _ (λ x r k. search rules) c.map.ensures.cases in
    rw same (first_holds _ _ _ first)
