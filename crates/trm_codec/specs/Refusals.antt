-- The refusal number and the value of each answer of decode and encode; the answer to a refused call is `None`.
-- Paper: "Where calls are turned down", rows 3 and 10. The number 0 means accepted.
--   word_refusal, instruction_refusal   the number that a word or an instruction gets
use Rattle.std.specs.Prelude.{ℕ, cond, Option, Some, None, ltb}
use Rattle.trm_codec.specs.declared.instruction.Instruction.{Instruction}
use Rattle.trm_codec.specs.Encode.{fits, placed}

abbrev pub decode_number : Option Instruction → ℕ
decode_number (Some i) = 0
decode_number None = 3

-- the instruction of an answer as the word that it encodes to; 0 for a refusal
abbrev pub decode_value : Option Instruction → ℕ
decode_value (Some i) = placed i
decode_value None = 0

abbrev pub encode_number : Option ℕ → ℕ
encode_number (Some w) = 0
encode_number None = 10

-- the word of an answer; 0 for a refusal
abbrev pub encode_value : Option ℕ → ℕ
encode_value (Some w) = w
encode_value None = 0

-- 3: a word above 3FFFFH
abbrev pub word_refusal : ℕ → ℕ
word_refusal w = cond (ltb 0x3FFFF w) 3 0

-- 10: a field outside its width
abbrev pub instruction_refusal : Instruction → ℕ
instruction_refusal i = cond (fits i) 0 10
