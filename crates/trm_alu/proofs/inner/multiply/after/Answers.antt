-- `multiple` gives the register plus 2^63; from k = 32 on the top bit of A subtracts B × 2^31 (Laws.Product).
use Rattle.std.proofs.Common.{◌≡◌, ℕ, ◌-◌, ◌*◌, ◌/◌, ◌%◌, ◌^◌, ◌<◌, refl, sym, ap, arith}
use Rattle.trm_alu.specs.Word.{biased}
use Rattle.trm_alu.proofs.Laws.Modular.{shl_mod}
use Rattle.trm_alu.proofs.Laws.Product.{top, top-fits, partial-word, product-word}
use Rattle.trm_alu.proofs.inner.multiply.after.Goals as goal
use Rattle.trm_alu.proofs.inner.multiply.after.Goals.{then-k-lt-STEPS}
use Rattle.trm_alu.proofs.inner.multiply.after.Goals.{else-k-lt-STEPS+then-a-lt2147483648, else-k-lt-STEPS+else-a-lt2147483648}

top-shl : (a k : ℕ) → k < 32 → (a * 2 ^ (32 - k)) % 2 ^ 64 % 2 ^ 32 ≡ top a k
top-shl a k h = omega (arith, shl_mod a k (32 - k) 32 (omega arith))

pub multiple-biased-requires : goal.multiple-biased-requires
multiple-biased-requires c =
    let a = c.args.a in
    let k = c.args.k in
    let w = c.from-w.result in
    let l : k < 32 = omega (arith, c.if-k-lt-STEPS.true) in
    let high : (w * 2 ^ (32 - k)) % 2 ^ 64 % 2 ^ 32 ≡ top a k = rw c.from-w.ensures (top-shl a k l) in
    let low : w / 2 ^ k ≡ a / 2 ^ k = rw c.from-w.ensures refl in (
      omega (arith, c.biased-c.ensures),
      omega (arith, high, low, top-fits a c.args.b k c.ranges.a.fits c.ranges.b.fits l),
    )

pub returns : goal.returns
returns c =
    let a = c.args.a in
    let b = c.args.b in
    let k = c.args.k in
    let word-a = c.ranges.a.fits in
    let word-b = c.ranges.b.fits in
    let n = c.if-k-lt-STEPS.biased in
    elim c.if-k-lt-STEPS.branch [
      | then-k-lt-STEPS w ↦
          let l : k < 32 = omega (arith, w.if-k-lt-STEPS.true) in
          let v = c.from-w.result in
          let high : (v * 2 ^ (32 - k)) % 2 ^ 64 % 2 ^ 32 ≡ top a k = rw c.from-w.ensures (top-shl a k l) in
          let low : v / 2 ^ k ≡ a / 2 ^ k = rw c.from-w.ensures refl in
          let e = rw c.biased-c.ensures at w.multiple-biased.ensures in
          sym (partial-word a b k word-a word-b l n
          (omega (arith, w.biased-is, e, high, low, ap (λ t. biased b * t) high)))
      | else-k-lt-STEPS+then-a-lt2147483648 w ↦
          let e = rw (c.biased-c.ensures, c.from-w.ensures) at w.multiple.ensures in
          let low : a % 2 ^ 31 ≡ a = omega (arith, w.if-a-lt2147483648.true) in
          let top : a / 2 ^ 31 ≡ 0 = omega (arith, w.if-a-lt2147483648.true) in
          sym (product-word a b k n n w.if-k-lt-STEPS.false word-a word-b (rw (low, w.biased-is) (omega (arith, e))) (rw top (omega arith)))
      | else-k-lt-STEPS+else-a-lt2147483648 w ↦
          let m = w.multiple-else-a-lt2147483648.result in
          let e = rw (c.biased-c.ensures, c.from-w.ensures) at w.multiple-else-a-lt2147483648.ensures in
          let low : a % 2 ^ 31 ≡ a - 2 ^ 31 = omega (arith, w.if-a-lt2147483648.false) in
          let top : a / 2 ^ 31 ≡ 1 = omega (arith, w.if-a-lt2147483648.false) in
          sym (product-word a b k m n w.if-k-lt-STEPS.false word-a word-b (rw low (omega (arith, e)))
          (rw (top, w.biased-is, c.biased-c.ensures) (omega (arith, e))))
    ]
