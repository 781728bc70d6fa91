-- An instruction that encodes decodes to itself.
-- By cases of the form: the fields fit, so each field of the word is the one that was placed there.
use mathlib.Core.Path.{◌≡◌, refl, ap, ◌∙◌}
use mathlib.Core.Bool.{and-false, and-eq-true_iff, Bool, true, false}
use Rattle.std.proofs.Common.{Some}
use Prim.Native.Nat.{ℕ, ◌+◌, ◌*◌, ◌/◌, ◌%◌, ◌<◌, ◌≤◌}
use native.Mathlib.Omega.{arith}
use lib.Arith.{digits_div, digits_mod}
use lib.Dec.{eqb, lit<}
use borrow.Author.Tests.{ltb-true, lt-ltb, le-ltb}
use Rattle.trm_codec.specs.declared.instruction.Operation.{Operation}
use Rattle.trm_codec.specs.declared.instruction.Operand.TheVariants.{Register, Literal}
use Rattle.trm_codec.specs.declared.instruction.Instruction.{Instruction}
use Rattle.trm_codec.specs.declared.instruction.Instruction.TheVariants.{Arithmetic, MoveHigh, SetStatus, Jump, JumpAndLink}
use Rattle.trm_codec.specs.declared.instruction.Instruction.TheVariants.{ReturnFromInterrupt, Load, Store, Branch, Call}
use Rattle.trm_word.specs.Fields.{bit, operation, destination, source, literal}
use Rattle.trm_word.specs.Fields.{new_status, jump_form, memory_offset, condition, branch_offset, call_offset}
use Rattle.trm_codec.specs.Operations.{operation_at, number_of}
use Rattle.trm_codec.specs.Decode.{arithmetic_of, control_of, instruction_of, decode_of}
use Rattle.trm_codec.specs.Encode.{encoded_as, encode_of}
use Rattle.trm_codec.proofs.Laws.Operations.{at-number, number_lt}

-- if encode gave a word, its test was true
pub passed : (ok : Bool) (v w : ℕ) → encoded_as ok v ≡ Some w → (ok ≡ true) × (w ≡ v)
passed true v w h = (refl, cc)
passed false v w h = let z : ◌≡◌ {A = ℕ} 0 1 = cc in absurd (omega arith)

-- a field x below n, shifted up by k; and the lowest field
at : (q x k n r w : ℕ) → w ≡ (q * n + x) * k + r → x < n → r < k → w / k % n ≡ x
at q x k n r w e hx hr = ap (λ (y : ℕ). y / k % n) e ∙ ap (λ (y : ℕ). y % n) (digits_div (q * n + x) hr) ∙ digits_mod q hx

lowest : (q x n w : ℕ) → w ≡ q * n + x → x < n → w % n ≡ x
lowest q x n w e hx = ap (λ (y : ℕ). y % n) e ∙ digits_mod q hx

decoded : (w : ℕ) (i : Instruction) → w ≤ 0x3FFFF → instruction_of w ≡ i → decode_of w ≡ Some i
unfolding decode_of
decoded w i l e = rw (le-ltb 0x3FFFF w l, e)

register-form : (o d s w : ℕ) → o < 11 → d < 8 → s < 8 → w ≡ o * 16384 + d * 2048 + (1024 + s)
    → instruction_of w ≡ Arithmetic (operation_at o) d (Register s)
unfolding instruction_of arithmetic_of
register-form o d s w ho hd hs e =
    let eo : operation w ≡ o = at 0 o 16384 16 (d * 2048 + (1024 + s)) w (omega arith) (omega arith) (omega arith) in
    let ed : destination w ≡ d = at o d 2048 8 (1024 + s) w (omega arith) hd (omega arith) in
    let et : bit 10 w ≡ 1 = at (o * 8 + d) 1 1024 2 s w (omega arith) (lit< tt) (omega arith) in
    let eh : bit 3 w ≡ 0 = at (o * 1024 + d * 128 + 64) 0 8 2 s w (omega arith) (lit< tt) hs in
    let es : source w ≡ s = lowest (o * 2048 + d * 256 + 128) s 8 w (omega arith) hs in
    rw (eo, ed, et, eh, es, lt-ltb o 11 ho, and-false (eqb o 0))

literal-form : (o d n w : ℕ) → o < 11 → d < 8 → n < 1024 → w ≡ o * 16384 + d * 2048 + n
    → instruction_of w ≡ Arithmetic (operation_at o) d (Literal n)
unfolding instruction_of arithmetic_of
literal-form o d n w ho hd hn e =
    let eo : operation w ≡ o = at 0 o 16384 16 (d * 2048 + n) w (omega arith) (omega arith) (omega arith) in
    let ed : destination w ≡ d = at o d 2048 8 n w (omega arith) hd (omega arith) in
    let et : bit 10 w ≡ 0 = at (o * 8 + d) 0 1024 2 n w (omega arith) (lit< tt) hn in
    let en : literal w ≡ n = lowest (o * 16 + d * 2) n 1024 w (omega arith) hn in
    rw (eo, ed, et, en, lt-ltb o 11 ho, and-false (eqb o 0))

high-form : (d w : ℕ) → d < 8 → w ≡ d * 2048 + 1032 → instruction_of w ≡ MoveHigh d
unfolding instruction_of arithmetic_of
high-form d w hd e =
    let eo : operation w ≡ 0 = at 0 0 16384 16 (d * 2048 + 1032) w (omega arith) (lit< tt) (omega arith) in
    let ed : destination w ≡ d = at 0 d 2048 8 1032 w (omega arith) hd (lit< tt) in
    let et : bit 10 w ≡ 1 = at d 1 1024 2 8 w (omega arith) (lit< tt) (lit< tt) in
    let eh : bit 3 w ≡ 1 = at (d * 128 + 64) 1 8 2 0 w (omega arith) (lit< tt) (lit< tt) in
    rw (eo, ed, et, eh)

-- operation 11, by bit 10 and bits 9–8
status-form : (x w : ℕ) → x < 16 → w ≡ 180224 + x → instruction_of w ≡ SetStatus x
unfolding instruction_of control_of
status-form x w hx e =
    let eo : operation w ≡ 11 = at 0 11 16384 16 x w (omega arith) (lit< tt) (omega arith) in
    let et : bit 10 w ≡ 0 = at 88 0 1024 2 x w (omega arith) (lit< tt) (omega arith) in
    let ex : new_status w ≡ x = lowest 11264 x 16 w (omega arith) hx in
    rw (eo, et, ex)

jump-form : (s w : ℕ) → s < 8 → w ≡ 181248 + s → instruction_of w ≡ Jump s
unfolding instruction_of control_of
jump-form s w hs e =
    let eo : operation w ≡ 11 = at 0 11 16384 16 (1024 + s) w (omega arith) (lit< tt) (omega arith) in
    let et : bit 10 w ≡ 1 = at 88 1 1024 2 s w (omega arith) (lit< tt) (omega arith) in
    let ef : jump_form w ≡ 0 = at 177 0 256 4 s w (omega arith) (lit< tt) (omega arith) in
    let es : source w ≡ s = lowest 22656 s 8 w (omega arith) hs in
    rw (eo, et, ef, es)

link-form : (d s w : ℕ) → d < 8 → s < 8 → w ≡ 181760 + d * 2048 + s → instruction_of w ≡ JumpAndLink d s
unfolding instruction_of control_of
link-form d s w hd hs e =
    let eo : operation w ≡ 11 = at 0 11 16384 16 (d * 2048 + 1536 + s) w (omega arith) (lit< tt) (omega arith) in
    let ed : destination w ≡ d = at 11 d 2048 8 (1536 + s) w (omega arith) hd (omega arith) in
    let et : bit 10 w ≡ 1 = at (88 + d) 1 1024 2 (512 + s) w (omega arith) (lit< tt) (omega arith) in
    let ef : jump_form w ≡ 2 = at (177 + d * 2) 2 256 4 s w (omega arith) (lit< tt) (omega arith) in
    let es : source w ≡ s = lowest (22720 + d * 256) s 8 w (omega arith) hs in
    rw (eo, et, ef, ed, es)

return-form : (s w : ℕ) → s < 8 → w ≡ 181504 + s → instruction_of w ≡ ReturnFromInterrupt s
unfolding instruction_of control_of
return-form s w hs e =
    let eo : operation w ≡ 11 = at 0 11 16384 16 (1280 + s) w (omega arith) (lit< tt) (omega arith) in
    let et : bit 10 w ≡ 1 = at 88 1 1024 2 (256 + s) w (omega arith) (lit< tt) (omega arith) in
    let ef : jump_form w ≡ 1 = at 177 1 256 4 s w (omega arith) (lit< tt) (omega arith) in
    let es : source w ≡ s = lowest 22688 s 8 w (omega arith) hs in
    rw (eo, et, ef, es)

-- the fields of LD and ST; c is the operation
pub record MemoryFields (c d s x w : ℕ) : Type 0 where
  pub op : operation w ≡ c
  pub d-is : destination w ≡ d
  pub s-is : source w ≡ s
  pub x-is : memory_offset w ≡ x

memory-fields : (c d s x w : ℕ) → c < 16 → d < 8 → s < 8 → x < 256 → w ≡ c * 16384 + d * 2048 + x * 8 + s → MemoryFields c d s x w
memory-fields c d s x w hc hd hs hx e =
    record {
      op = at 0 c 16384 16 (d * 2048 + x * 8 + s) w (omega arith) hc (omega arith);
      d-is = at c d 2048 8 (x * 8 + s) w (omega arith) hd (omega arith);
      s-is = lowest (c * 2048 + d * 256 + x) s 8 w (omega arith) hs;
      x-is = at (c * 8 + d) x 8 256 s w (omega arith) hx hs;
    }

load-form : (d s x w : ℕ) → MemoryFields 12 d s x w → instruction_of w ≡ Load d s x
unfolding instruction_of
load-form d s x w f = rw (f.op, f.d-is, f.s-is, f.x-is)

store-form : (d s x w : ℕ) → MemoryFields 13 d s x w → instruction_of w ≡ Store d s x
unfolding instruction_of
store-form d s x w f = rw (f.op, f.d-is, f.s-is, f.x-is)

branch-form : (k x w : ℕ) → k < 16 → x < 1024 → w ≡ 229376 + k * 1024 + x → instruction_of w ≡ Branch k x
unfolding instruction_of
branch-form k x w hk hx e =
    let eo : operation w ≡ 14 = at 0 14 16384 16 (k * 1024 + x) w (omega arith) (lit< tt) (omega arith) in
    let ek : condition w ≡ k = at 14 k 1024 16 x w (omega arith) hk hx in
    let ex : branch_offset w ≡ x = lowest (224 + k) x 1024 w (omega arith) hx in
    rw (eo, ek, ex)

call-form : (x w : ℕ) → x < 4096 → w ≡ 245760 + x → instruction_of w ≡ Call x
unfolding instruction_of
call-form x w hx e =
    let eo : operation w ≡ 15 = at 0 15 16384 16 x w (omega arith) (lit< tt) (omega arith) in
    let ex : call_offset w ≡ x = lowest 60 x 4096 w (omega arith) hx in
    rw (eo, ex)

pub encode_decode : (i : Instruction) (w : ℕ) → encode_of i ≡ Some w → decode_of w ≡ Some i
unfolding encode_of
encode_decode (Arithmetic o d (Register s)) w h =
    let p = passed _ _ w h in
    let f = (and-eq-true_iff _ _).0 p.0 in
    let hd = ltb-true _ _ f.0 in
    let hs = ltb-true _ _ f.1 in
    let e = p.1 in
    let ho = number_lt o in
    decoded w _ (omega arith)
    (register-form (number_of o) d s w ho hd hs e ∙ ap (λ (x : Operation). Arithmetic x d (Register s)) (at-number o))
encode_decode (Arithmetic o d (Literal n)) w h =
    let p = passed _ _ w h in
    let f = (and-eq-true_iff _ _).0 p.0 in
    let hd = ltb-true _ _ f.0 in
    let hn = ltb-true _ _ f.1 in
    let e = p.1 in
    let ho = number_lt o in
    decoded w _ (omega arith)
    (literal-form (number_of o) d n w ho hd hn e ∙ ap (λ (x : Operation). Arithmetic x d (Literal n)) (at-number o))
encode_decode (MoveHigh d) w h =
    let p = passed _ _ w h in
    let hd = ltb-true _ _ p.0 in
    let e = p.1 in
    decoded w _ (omega arith) (high-form d w hd e)
encode_decode (SetStatus x) w h =
    let p = passed _ _ w h in
    let hx = ltb-true _ _ p.0 in
    let e = p.1 in
    decoded w _ (omega arith) (status-form x w hx e)
encode_decode (Jump s) w h =
    let p = passed _ _ w h in
    let hs = ltb-true _ _ p.0 in
    let e = p.1 in
    decoded w _ (omega arith) (jump-form s w hs e)
encode_decode (JumpAndLink d s) w h =
    let p = passed _ _ w h in
    let f = (and-eq-true_iff _ _).0 p.0 in
    let hd = ltb-true _ _ f.0 in
    let hs = ltb-true _ _ f.1 in
    let e = p.1 in
    decoded w _ (omega arith) (link-form d s w hd hs e)
encode_decode (ReturnFromInterrupt s) w h =
    let p = passed _ _ w h in
    let hs = ltb-true _ _ p.0 in
    let e = p.1 in
    decoded w _ (omega arith) (return-form s w hs e)
encode_decode (Load d s x) w h =
    let p = passed _ _ w h in
    let f = (and-eq-true_iff _ _).0 p.0 in
    let g = (and-eq-true_iff _ _).0 f.1 in
    let hd = ltb-true _ _ f.0 in
    let hs = ltb-true _ _ g.0 in
    let hx = ltb-true _ _ g.1 in
    let e = p.1 in
    decoded w _ (omega arith) (load-form d s x w (memory-fields 12 d s x w (lit< tt) hd hs hx e))
encode_decode (Store d s x) w h =
    let p = passed _ _ w h in
    let f = (and-eq-true_iff _ _).0 p.0 in
    let g = (and-eq-true_iff _ _).0 f.1 in
    let hd = ltb-true _ _ f.0 in
    let hs = ltb-true _ _ g.0 in
    let hx = ltb-true _ _ g.1 in
    let e = p.1 in
    decoded w _ (omega arith) (store-form d s x w (memory-fields 13 d s x w (lit< tt) hd hs hx e))
encode_decode (Branch k x) w h =
    let p = passed _ _ w h in
    let f = (and-eq-true_iff _ _).0 p.0 in
    let hk = ltb-true _ _ f.0 in
    let hx = ltb-true _ _ f.1 in
    let e = p.1 in
    decoded w _ (omega arith) (branch-form k x w hk hx e)
encode_decode (Call x) w h =
    let p = passed _ _ w h in
    let hx = ltb-true _ _ p.0 in
    let e = p.1 in
    decoded w _ (omega arith) (call-form x w hx e)
