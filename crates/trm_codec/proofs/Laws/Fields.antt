-- Laws of instructions as plain numbers: what decode and encode give.
-- By the cases of what decode answers, and by whether the fields are those of an instruction that fits.
use mathlib.Core.Path.{◌≡◌, refl, sym, ap, ◌∙◌}
use mathlib.Core.Bool.{Bool, true, false, cond}
use Rattle.std.proofs.Common.{Option, Some, None}
use Prim.Native.Nat.{ℕ}
use lib.Dec.{ltb}
use Rattle.trm_codec.specs.declared.instruction.Instruction.{Instruction}
use Rattle.trm_codec.specs.Decode.{instruction_of, decode_of}
use Rattle.trm_codec.specs.Encode.{placed, encoded_as}
use Rattle.trm_codec.specs.Refusals.{decode_number, encode_number, encode_value}
use Rattle.trm_codec.specs.declared.plain_fields.Fields.{Fields}
use Rattle.trm_codec.specs.Fields.{plain_fields, fields_of, instruction_at, fields_fit}
use Rattle.trm_codec.specs.Plain.{fields_given, fields_refusal, word_given}
use Rattle.trm_codec.specs.Promises.{Decodes, DecodesPlain, EncodesPlain}

-- the instruction of an answer, and j if it was refused
held : Instruction → Option Instruction → Instruction
held j (Some i) = i
held j None = j

pub decoded-is : (w : ℕ) (i : Instruction) → decode_of w ≡ Some i → instruction_of w ≡ i
unfolding decode_of held
decoded-is w i e = go (ltb 0x3FFFF w) e
  where
    go : (t : Bool) → cond t None (Some (instruction_of w)) ≡ Some i → instruction_of w ≡ i
    go true h = ap (held (instruction_of w)) h
    go false h = ap (held (instruction_of w)) h

-- the fields of an answer; zeros for a refusal
abbrev pub fields_shown : Option Instruction → Fields
fields_shown (Some i) = fields_of i
fields_shown None = plain_fields 0 0 0 0

pub shown : (w : ℕ) (r : Option Instruction) → Decodes w r → DecodesPlain w (record { fields = fields_shown r; number = decode_number r })
unfolding fields_given
shown w (Some i) d = record { number = d.number; fields = rw (← d.number, decoded-is w i (sym d.answer)) }
shown w None d = record { number = d.number; fields = rw (← d.number) }

pub word_shown : (f : Fields) (r : Option ℕ) → r ≡ encoded_as (fields_fit f) (placed (instruction_at f))
    → EncodesPlain f (record { number = encode_number r; word = encode_value r })
unfolding fields_refusal word_given
word_shown f r e =
    record {
      number = ap encode_number e ∙ number (fields_fit f) (placed (instruction_at f));
      word = ap encode_value e ∙ word (fields_fit f) (placed (instruction_at f));
    }
  where
    number : (ok : Bool) (w : ℕ) → encode_number (encoded_as ok w) ≡ cond ok 0 10
    number true w = refl
    number false w = refl

    word : (ok : Bool) (w : ℕ) → encode_value (encoded_as ok w) ≡ cond ok w 0
    word true w = refl
    word false w = refl
