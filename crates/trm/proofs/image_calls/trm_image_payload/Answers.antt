-- By cases of whether the payload is refused, with the laws of Laws/Payload.
use mathlib.Core.Path.{sym, ap, ◌∙◌}
use native.Mathlib.Omega.{arith}
use lib.ListN.{length}
use lib.Dec.{eqb}
use Rattle.trm_image.proofs.Laws.Numbers.{number_of-some}
use Rattle.trm_image.proofs.Laws.Places.{payload-whole, gives_part}
use Rattle.trm.proofs.Laws.Payload.{payload-refused, payload-bytes}
use Rattle.trm.proofs.image_calls.trm_image_payload.Goals as goal

pub overflow_add-result : goal.overflow_add-result
overflow_add-result c =
    let whole = payload-whole _ _ (ap (λ k. eqb k 0) (sym c.in-Ok.ensures)) in
    omega (arith, whole)

pub returns-in-Ok : goal.returns-in-Ok
returns-in-Ok c =
    let accepted = ap (λ k. eqb k 0) (sym c.in-Ok.ensures) in
    payload-bytes _ _ _ accepted (ap length (c.payload-payload.ensures ∙ sym (gives_part _ _ accepted)))

pub returns-in-Err : goal.returns-in-Err
returns-in-Err c =
    payload-refused _ _ _ (c.from.ensures ∙ c.in-Err.ensures)
    (ap (λ k. eqb k 0) c.from.ensures ∙ number_of-some c.in-Err.fault)
