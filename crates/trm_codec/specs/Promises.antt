-- The contracts of decode and encode: what they give on every input, with enums, and with plain numbers for a C caller.
-- Paper: "Where calls are turned down", rows 3 and 10.
--   Decodes w r, Encodes i r              decode and encode answer r
--   DecodesPlain w r, EncodesPlain f r    the same with plain numbers
use Rattle.std.specs.Prelude.{ℕ, ◌≡◌, cond, Option, ltb}
use Rattle.trm_codec.specs.declared.instruction.Instruction.{Instruction}
use Rattle.trm_codec.specs.declared.plain_fields.Fields.{Fields}
use Rattle.trm_codec.specs.declared.plain_codec.PlainDecoded.{PlainDecoded}
use Rattle.trm_codec.specs.declared.plain_codec.PlainEncoded.{PlainEncoded}
use Rattle.trm_codec.specs.Decode.{decode_of}
use Rattle.trm_codec.specs.Encode.{fits, placed, encode_of}
use Rattle.trm_codec.specs.Unused.{unused_zero}
use Rattle.trm_codec.specs.Refusals.{decode_number, decode_value, encode_number, encode_value, word_refusal, instruction_refusal}
use Rattle.trm_codec.specs.Plain.{fields_given, fields_refusal, word_given}

pub record Decodes (w : ℕ) (r : Option Instruction) : Type 0 where
  pub answer : r ≡ decode_of w
  pub number : decode_number r ≡ word_refusal w
  pub value : decode_value r ≡ cond (ltb 0x3FFFF w) 0 (unused_zero w)

pub record Encodes (i : Instruction) (r : Option ℕ) : Type 0 where
  pub answer : r ≡ encode_of i
  pub number : encode_number r ≡ instruction_refusal i
  pub value : encode_value r ≡ cond (fits i) (placed i) 0

pub record DecodesPlain (w : ℕ) (r : PlainDecoded) : Type 0 where
  pub number : r.number ≡ word_refusal w
  pub fields : r.fields ≡ fields_given w

pub record EncodesPlain (f : Fields) (r : PlainEncoded) : Type 0 where
  pub number : r.number ≡ fields_refusal f
  pub word : r.word ≡ word_given f
