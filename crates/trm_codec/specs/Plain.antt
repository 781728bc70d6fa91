-- What decode and encode give a C caller on every input: the result, or the refusal 3 or 10.
-- Paper: "What a programmer sees", the format of each operation; rows 3 and 10 of the refusals.
--   fields_given w   the fields of a word     fields_refusal f, word_given f   the refusal number and the word of fields
use Rattle.std.specs.Prelude.{ℕ, cond, eqb}
use Rattle.trm_codec.specs.Decode.{instruction_of}
use Rattle.trm_codec.specs.Encode.{placed}
use Rattle.trm_codec.specs.Refusals.{word_refusal}
use Rattle.trm_codec.specs.declared.plain_fields.Fields.{Fields}
use Rattle.trm_codec.specs.Fields.{plain_fields, fields_of, instruction_at, fields_fit}

-- the fields of the instruction; zeros if refused
unfoldable pub fields_given : ℕ → Fields
fields_given w = cond (eqb (word_refusal w) 0) (fields_of (instruction_of w)) (plain_fields 0 0 0 0)

-- 10: "a field outside its width", which includes fields of no instruction: `fields_fit`
unfoldable pub fields_refusal : Fields → ℕ
fields_refusal f = cond (fields_fit f) 0 10

-- the word; 0 if refused
unfoldable pub word_given : Fields → ℕ
word_given f = cond (fields_fit f) (placed (instruction_at f)) 0
