-- Proves every field of `Claims`; each is a law of Laws/.
use Rattle.trm_alu.specs.Claims.{Claims}
use Rattle.trm_alu.proofs.Laws.Product.{mul-start, mul-end}
use Rattle.trm_alu.proofs.Laws.Multiplier.{mul-step}
use Rattle.trm_alu.proofs.Laws.Division.{div-step}
use Rattle.trm_alu.proofs.Laws.Floor.{div-floor, mul_exact}
use Rattle.trm_alu.proofs.Laws.Sums.{carry-out, carry-no_borrow}
use Rattle.trm_alu.proofs.Laws.Bench.{rows-hold}

pub theorems : Claims
theorems =
    record {
      mul_starts = mul-start;
      mul_steps = mul-step;
      mul_ends = mul-end;
      mul_exact = mul_exact;
      div_steps = div-step;
      div_floors = div-floor;
      add_carries = carry-out;
      sub_carries = carry-no_borrow;
      bench_holds = rows-hold;
    }
