-- Decode and encode on plain numbers are inverse.
-- Fields that fit are those of their instruction, and conversely; the rest follows from the inverses of decode and encode.
use mathlib.Core.Path.{◌≡◌, refl, sym, ap, ◌∙◌}
use mathlib.Core.Bool.{Bool, true, false, cond, and-eq-true_iff}
use Rattle.std.proofs.Common.{Some}
use Prim.Native.Nat.{ℕ}
use native.Mathlib.Omega.{arith}
use borrow.Author.Tests.{eqb-true, eq-eqb}
use Rattle.trm_codec.specs.declared.plain_fields.Fields.{Fields}
use Rattle.trm_codec.specs.declared.instruction.Operand.TheVariants.{Register, Literal}
use Rattle.trm_codec.specs.declared.instruction.Instruction.{Instruction}
use Rattle.trm_codec.specs.declared.instruction.Instruction.TheVariants.{Arithmetic, MoveHigh, SetStatus, Jump, JumpAndLink}
use Rattle.trm_codec.specs.declared.instruction.Instruction.TheVariants.{ReturnFromInterrupt, Load, Store, Branch, Call}
use Rattle.trm_codec.specs.Decode.{decode_of}
use Rattle.trm_codec.specs.Encode.{fits, placed, encoded_as, encode_of}
use Rattle.trm_codec.specs.Refusals.{decode_number, word_refusal}
use Rattle.trm_codec.specs.Unused.{unused_zero}
use Rattle.trm_codec.specs.Fields.{fields_of, instruction_at, same_fields, fields_fit}
use Rattle.trm_codec.specs.Plain.{fields_given, fields_refusal, word_given}
use Rattle.trm_codec.specs.Claims.{PlainDecode, PlainEncode}
use Rattle.trm_codec.proofs.Laws.Operations.{at-number}
use Rattle.trm_codec.proofs.Laws.Numbers.{decode-number}
use Rattle.trm_codec.proofs.Laws.Fields.{decoded-is}
use Rattle.trm_codec.proofs.Laws.Recode.{decode_encode}
use Rattle.trm_codec.proofs.Laws.RoundTrip.{passed, encode_decode}

-- the instruction of the fields of i is i
of_fields : (i : Instruction) → instruction_at (fields_of i) ≡ i
of_fields (Arithmetic o d (Register s)) = ap (λ x. Arithmetic x d (Register s)) (at-number o)
of_fields (Arithmetic o d (Literal n)) = ap (λ x. Arithmetic x d (Literal n)) (at-number o)
of_fields (MoveHigh d) = refl
of_fields (SetStatus status) = refl
of_fields (Jump s) = refl
of_fields (JumpAndLink d s) = refl
of_fields (ReturnFromInterrupt s) = refl
of_fields (Load d s offset) = refl
of_fields (Store d s offset) = refl
of_fields (Branch condition offset) = refl
of_fields (Call offset) = refl

-- `same_fields` is equality
same-is : (f g : Fields) → same_fields f g ≡ true → f ≡ g
same-is f g e =
    let a = (and-eq-true_iff _ _).0 e in
    let b = (and-eq-true_iff _ _).0 a.1 in
    let c = (and-eq-true_iff _ _).0 b.1 in
    let d = (and-eq-true_iff _ _).0 c.1 in
    let s = (and-eq-true_iff _ _).0 d.1 in
    rw (
      eqb-true f.form g.form a.0,
      eqb-true f.operation g.operation b.0,
      eqb-true f.condition g.condition c.0,
      eqb-true f.d g.d d.0,
      eqb-true f.s g.s s.0,
      eqb-true f.value g.value s.1,
    )

same_self : (f : Fields) → same_fields f f ≡ true
same_self f =
    rw (
      eq-eqb f.form f.form refl,
      eq-eqb f.operation f.operation refl,
      eq-eqb f.condition f.condition refl,
      eq-eqb f.d f.d refl,
      eq-eqb f.s f.s refl,
      eq-eqb f.value f.value refl,
    )

accepted : (t : Bool) → ◌≡◌ {A = ℕ} (cond t 0 10) 0 → t ≡ true
accepted true e = refl
accepted false e = absurd (omega arith)

-- a word that decodes is not refused, and gives the fields of its instruction
given : (w : ℕ) (i : Instruction) → decode_of w ≡ Some i → (word_refusal w ≡ 0) × (fields_given w ≡ fields_of i)
unfolding fields_given
given w i e =
    let z : word_refusal w ≡ 0 = sym (decode-number w) ∙ ap decode_number e in
    (z, rw (z, decoded-is w i e))

pub plain_decode : PlainDecode
unfolding fields_refusal fields_fit word_given encode_of
plain_decode f e =
    let t = (and-eq-true_iff _ _).0 (accepted (fields_fit f) e) in
    let same : f ≡ fields_of (instruction_at f) = same-is f (fields_of (instruction_at f)) t.0 in
    let word : word_given f ≡ placed (instruction_at f) = rw (accepted (fields_fit f) e) in
    let encoded : encode_of (instruction_at f) ≡ Some (placed (instruction_at f)) =
    ap (λ ok. encoded_as ok (placed (instruction_at f))) t.1 in
    let g = given (placed (instruction_at f)) (instruction_at f) (encode_decode (instruction_at f) _ encoded) in
    (ap word_refusal word ∙ g.0, ap fields_given word ∙ g.1 ∙ sym same)

-- the fields of an instruction that encodes are accepted, and give its word
gives : (i : Instruction) (w : ℕ) → encode_of i ≡ Some w → (fields_refusal (fields_of i) ≡ 0) × (word_given (fields_of i) ≡ w)
unfolding fields_refusal fields_fit word_given encode_of
gives i w e =
    let p = passed (fits i) (placed i) w e in
    (rw (of_fields i, same_self (fields_of i), p.0), rw (of_fields i, same_self (fields_of i), p.0) (sym p.1))

pub plain_encode : PlainEncode
plain_encode w l =
    let r = decode_encode w l in
    let g = (given w r.instruction r.decoded).1 in
    let h = gives r.instruction (unused_zero w) r.encoded in
    (ap fields_refusal g ∙ h.0, ap word_given g ∙ h.1)
