-- Claims about decode and encode beyond their contracts: one statement per field.
-- Paper: "Unused bits encode as zero"; rows 3 and 10. README, demand 2: decode and encode are inverse. Proved in proofs/Theorems.antt.
use Rattle.std.specs.Prelude.{ℕ, ◌^◌, ◌<◌, ◌≡◌, Some}
use Rattle.trm_codec.specs.declared.instruction.Instruction.{Instruction}
use Rattle.trm_codec.specs.Decode.{decode_of}
use Rattle.trm_codec.specs.Encode.{encode_of}
use Rattle.trm_codec.specs.Unused.{unused_zero}
use Rattle.trm_codec.specs.Refusals.{decode_number, encode_number, word_refusal, instruction_refusal}
use Rattle.trm_codec.specs.declared.plain_fields.Fields.{Fields}
use Rattle.trm_codec.specs.Plain.{fields_given, fields_refusal, word_given}
use Rattle.trm_codec.specs.Worked.{rows, RowsHold}

-- the instruction that w decodes to encodes as w with its unused bits zero
pub record Recodes (w : ℕ) : Type 0 where
  pub instruction : Instruction
  pub decoded : decode_of w ≡ Some instruction
  pub encoded : encode_of instruction ≡ Some (unused_zero w)

-- Every word below 2^18, decoded and encoded, is itself with its unused bits zero.
abbrev pub DecodeEncode : Type 0
DecodeEncode = (w : ℕ) → w < 2 ^ 18 → Recodes w

-- Every instruction that encodes decodes to itself.
abbrev pub EncodeDecode : Type 0
EncodeDecode = (i : Instruction) (w : ℕ) → encode_of i ≡ Some w → decode_of w ≡ Some i

-- Decode refuses with 3 exactly the words above 3FFFFH.
abbrev pub DecodeRefuses : Type 0
DecodeRefuses = (w : ℕ) → decode_number (decode_of w) ≡ word_refusal w

-- Encode refuses with 10 exactly the instructions with a field outside its width.
abbrev pub EncodeRefuses : Type 0
EncodeRefuses = (i : Instruction) → encode_number (encode_of i) ≡ instruction_refusal i

-- Every row of the table of worked words holds.
abbrev pub WordsHold : Type 0
WordsHold = RowsHold rows

-- With plain numbers: accepted fields encode to a word that decodes to these fields.
abbrev pub PlainDecode : Type 0
PlainDecode = (f : Fields) → fields_refusal f ≡ 0 → (word_refusal (word_given f) ≡ 0) × (fields_given (word_given f) ≡ f)

-- With plain numbers: the fields of a word are accepted, and encode to the word with its unused bits zero.
abbrev pub PlainEncode : Type 0
PlainEncode = (w : ℕ) → w < 2 ^ 18 → (fields_refusal (fields_given w) ≡ 0) × (word_given (fields_given w) ≡ unused_zero w)

pub record Claims : Type 0 where
  pub decode_encode : DecodeEncode
  pub encode_decode : EncodeDecode
  pub decode_refuses : DecodeRefuses
  pub encode_refuses : EncodeRefuses
  pub plain_decode : PlainDecode
  pub plain_encode : PlainEncode
  pub words_hold : WordsHold
