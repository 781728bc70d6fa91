-- A word below 2^18, decoded and encoded, is the word with its unused bits zero.
-- By cases of the form: the fields fit, and placed at their bits they are the word under the mask of the form.
use mathlib.Core.Path.{◌≡◌, refl, sym, ◌∙◌}
use mathlib.Core.Bool.{and-eq-true_iff, Bool, true, false, ◌&&◌}
use Rattle.std.proofs.Common.{Some}
use Prim.Native.Nat.{ℕ, zero, suc, ◌+◌, ◌-◌, ◌*◌, ◌/◌, ◌%◌, ◌^◌, ◌<◌, ◌≤◌}
use native.Mathlib.Nat.{mod-lt}
use native.Mathlib.Omega.{arith}
use lib.Dec.{ltb, eqb, lit<}
use lib.ListN.{get_or}
use lib.Bits.{bit_and}
use borrow.Author.Tests.{ltb-true, ltb-false, eqb-true, eqb-false, lt-ltb, le-ltb}
use Rattle.trm_codec.specs.declared.instruction.Instruction.{Instruction}
use Rattle.trm_codec.specs.declared.instruction.Instruction.TheVariants.{Call}
use Rattle.trm_word.specs.Fields.{bit, moves_high, operation, destination, source, jump_form, call_offset}
use Rattle.trm_codec.specs.Decode.{arithmetic_of, control_of, other_forms, instruction_of, decode_of}
use Rattle.trm_codec.specs.Encode.{fits, placed, encode_of}
use Rattle.trm_codec.specs.Unused.{used_arithmetic, used_control, used_others, unused_zero}
use Rattle.trm_codec.specs.Claims.{Recodes}
use Rattle.trm_codec.proofs.Laws.Operations.{number_at}
use Rattle.trm_codec.proofs.Laws.Masks as M

encoded_as_lem : (i : Instruction) (v : ℕ) → fits i ≡ true → placed i ≡ v → encode_of i ≡ Some v
unfolding encode_of
encoded_as_lem i v f e = rw (f, e)

-- a field is inside its width
inside : (x k : ℕ) → 0 < k → ltb (x % k) k ≡ true
inside x k h = lt-ltb (x % k) k (mod-lt x h)

-- the sum of the fields as the encoder computes it equals the sum that the mask gives; the case fixes the bits t, u and the form f
add-high : (o d t u : ℕ) → o ≡ 0 → t ≡ 1 → u ≡ 1 → d * 2048 + 1032 ≡ o * 16384 + (d * 2048 + (t * 1024 + (u * 8 + 0)))
add-high o d t u e f g = omega arith

add-register : (o d t s : ℕ) → t ≡ 1 → o * 16384 + d * 2048 + (1024 + s) ≡ o * 16384 + (d * 2048 + (t * 1024 + s))
add-register o d t s e = omega arith

add-literal : (o d t n : ℕ) → t ≡ 0 → o * 16384 + d * 2048 + n ≡ o * 16384 + (d * 2048 + (t * 1024 + n))
add-literal o d t n e = omega arith

add-status : (o t x : ℕ) → o ≡ 11 → t ≡ 0 → 180224 + x ≡ o * 16384 + (t * 1024 + x)
add-status o t x e f = omega arith

add-jump : (o t f s : ℕ) → o ≡ 11 → t ≡ 1 → f ≡ 0 → 181248 + s ≡ o * 16384 + (t * 1024 + (f * 256 + s))
add-jump o t f s e g h = omega arith

add-link : (o d t f s : ℕ) → o ≡ 11 → t ≡ 1 → f ≡ 2 → 181760 + d * 2048 + s ≡ o * 16384 + (d * 2048 + (t * 1024 + (f * 256 + s)))
add-link o d t f s e g h = omega arith

add-return : (o t f s : ℕ) → o ≡ 11 → t ≡ 1 → f ≡ 1 → 181504 + s ≡ o * 16384 + (t * 1024 + (f * 256 + s))
add-return o t f s e g h = omega arith

add-memory : (c o d x s : ℕ) → o ≡ c → c * 16384 + d * 2048 + x * 8 + s ≡ o * 16384 + (d * 2048 + (x * 8 + s))
add-memory c o d x s e = rw e (omega arith)

add-branch : (o c x : ℕ) → o ≡ 14 → 229376 + c * 1024 + x ≡ o * 16384 + (c * 1024 + x)
add-branch o c x e = omega arith

add-call : (o x : ℕ) → o ≡ 15 → 245760 + x ≡ o * 16384 + x
add-call o x e = omega arith

-- a bit that is not 1, or not 0
bit-clear : (x : ℕ) → (x % 2 ≡ 1 → ⊥) → x % 2 ≡ 0
bit-clear x h = omega arith

bit-set : (x : ℕ) → (x % 2 ≡ 0 → ⊥) → x % 2 ≡ 1
bit-set x h = omega arith

-- bits 9–8 that are neither 00 nor 10 have bit 8 set
form-return : (x : ℕ) → (x % 4 ≡ 0 → ⊥) → (x % 4 ≡ 2 → ⊥) → x % 2 ≡ 1
form-return x h g = omega arith

module _ (w : ℕ) where
  d-fits : ltb (destination w) 8 ≡ true
  d-fits = inside (w / 2048) 8 (lit< tt)

  s-fits : ltb (source w) 8 ≡ true
  s-fits = inside w 8 (lit< tt)

  arithmetic_recodes : operation w < 11 → encode_of (arithmetic_of w) ≡ Some (bit_and w (used_arithmetic w))
  unfolding arithmetic_of
  arithmetic_recodes l = go (moves_high w) refl (eqb (bit 10 w) 1) refl
    where
      go : (t : Bool) → moves_high w ≡ t → (s : Bool) → eqb (bit 10 w) 1 ≡ s
          → encode_of (arithmetic_of w) ≡ Some (bit_and w (used_arithmetic w))
      go true e s f =
          let a = (and-eq-true_iff _ _).0 e in
          let b = (and-eq-true_iff _ _).0 a.1 in
          rw e
          (encoded_as_lem _ _ d-fits
          (add-high _ _ _ _ (eqb-true _ _ a.0) (eqb-true _ _ b.0) (eqb-true _ _ b.1) ∙ sym (M.mask-high w)))
      go false e true f =
          rw (e, f)
          (encoded_as_lem _ _ (rw (d-fits, s-fits))
          (rw (number_at (operation w) l) (add-register _ _ _ _ (eqb-true _ _ f) ∙ sym (M.mask-register w))))
      go false e false f =
          rw (e, f)
          (encoded_as_lem _ _ (rw (d-fits, inside w 1024 (lit< tt)))
          (rw (number_at (operation w) l) (add-literal _ _ _ _ (bit-clear _ (eqb-false _ _ f)) ∙ sym (M.mask-literal w))))

  control_recodes : operation w ≡ 11 → encode_of (control_of w) ≡ Some (bit_and w (used_control w))
  unfolding control_of
  control_recodes o = go (eqb (bit 10 w) 0) refl (eqb (jump_form w) 0) refl (eqb (jump_form w) 2) refl
    where
      go : (t : Bool) → eqb (bit 10 w) 0 ≡ t → (u : Bool) → eqb (jump_form w) 0 ≡ u → (v : Bool) → eqb (jump_form w) 2 ≡ v
          → encode_of (control_of w) ≡ Some (bit_and w (used_control w))
      go true e u f v g =
          rw e (encoded_as_lem _ _ (inside w 16 (lit< tt)) (add-status _ _ _ o (eqb-true _ _ e) ∙ sym (M.mask-status w)))
      go false e true f v g =
          rw (e, f)
          (encoded_as_lem _ _ s-fits (add-jump _ _ _ _ o (bit-set _ (eqb-false _ _ e)) (eqb-true _ _ f) ∙ sym (M.mask-jump w)))
      go false e false f true g =
          rw (e, f, g)
          (encoded_as_lem _ _ (rw (d-fits, s-fits))
          (add-link _ _ _ _ _ o (bit-set _ (eqb-false _ _ e)) (eqb-true _ _ g) ∙ sym (M.mask-link w)))
      go false e false f false g =
          rw (e, f, g)
          (encoded_as_lem _ _ s-fits
          (add-return _ _ _ _ o (bit-set _ (eqb-false _ _ e)) (form-return (w / 256) (eqb-false _ _ f) (eqb-false _ _ g))
          ∙ sym (M.mask-return w)))

  memory-fits : (ltb (destination w) 8 && (ltb (source w) 8 && ltb (w / 8 % 256) 256)) ≡ true
  memory-fits = rw (d-fits, s-fits, inside (w / 8) 256 (lit< tt))

  -- operations 11 to 15; k is the operation minus 11
  other_recodes : (k : ℕ) → operation w ≡ k + 11
      → encode_of (get_or (other_forms w) k (Call (call_offset w))) ≡ Some (bit_and w (get_or (used_others w) k 0x3CFFF))
  other_recodes zero o = control_recodes o
  other_recodes (suc zero) o = encoded_as_lem _ _ memory-fits (add-memory 12 _ _ _ _ o ∙ sym (M.mask-memory w))
  other_recodes (suc (suc zero)) o = encoded_as_lem _ _ memory-fits (add-memory 13 _ _ _ _ o ∙ sym (M.mask-memory w))
  other_recodes (suc (suc (suc zero))) o =
      encoded_as_lem _ _ (rw (inside (w / 1024) 16 (lit< tt), inside w 1024 (lit< tt))) (add-branch _ _ _ o ∙ sym (M.mask-branch w))
  other_recodes (suc (suc (suc (suc k)))) o =
      encoded_as_lem _ _ (inside w 4096 (lit< tt)) (add-call _ _ (fifteen (w / 16384) k o) ∙ sym (M.mask-call w))
    where
      fifteen : (x j : ℕ) → x % 16 ≡ suc (suc (suc (suc j))) + 11 → x % 16 ≡ 15
      fifteen x j e = omega arith

  pub recodes : encode_of (instruction_of w) ≡ Some (unused_zero w)
  unfolding instruction_of unused_zero
  recodes = go (ltb (operation w) 11) refl
    where
      above : (x : ℕ) → 11 ≤ x → x ≡ x - 11 + 11
      above x h = omega arith

      go : (t : Bool) → ltb (operation w) 11 ≡ t → encode_of (instruction_of w) ≡ Some (unused_zero w)
      go true e = rw e (arithmetic_recodes (ltb-true _ _ e))
      go false e = rw e (other_recodes (operation w - 11) (above _ (ltb-false _ _ e)))

pub decode_encode : (w : ℕ) → w < 2 ^ 18 → Recodes w
unfolding decode_of
decode_encode w h =
    let l : w ≤ 0x3FFFF = omega arith in
    record { instruction = instruction_of w; decoded = rw (le-ltb 0x3FFFF w l); encoded = recodes w }
