-- The proof of trm_list_rows::inner::first_clock::first_clock.
use Rattle.std.proofs.Common.{◌≡◌, refl, arith}
use Rattle.trm_word.specs.Fields.{operation}
use Rattle.trm_clock_laws.proofs.Laws.Facts.{facts}
use Rattle.trm_clock_laws.proofs.Laws.Kinds.{kind-call}
use Rattle.trm_clock_laws.proofs.Laws.First.{first-second}
use Rattle.trm_clock_laws.proofs.Laws.Worked.{goes-worked}
use Rattle.trm_list_rows.proofs.inner.first_clock.first_clock.Goals as goal

pub returns-in_default : goal.returns-in_default
returns-in_default c =
    let o : operation c.args.w ≡ 15 = omega arith in
    goes-worked _ _ _ _ _ _ _ _ (first-second _ _ _ _ _ (facts _ _ _ _ _ c.requires.0)
    c.requires.1 (kind-call _ _ _ o)) _ _ _ _ _ _ c.enters.ensures refl
