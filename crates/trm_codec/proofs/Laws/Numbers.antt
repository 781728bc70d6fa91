-- The answers of decode and encode have the numbers and values of the paper.
-- By the one test of each: a word above 3FFFFH, an instruction with a field outside its width.
use mathlib.Core.Path.{◌≡◌, refl, sym, ap, ◌∙◌}
use mathlib.Core.Bool.{Bool, true, false, cond}
use Rattle.std.proofs.Common.{Option, Some, None}
use Prim.Native.Nat.{ℕ}
use lib.Dec.{ltb}
use Rattle.trm_codec.specs.declared.instruction.Instruction.{Instruction}
use Rattle.trm_codec.specs.Decode.{instruction_of, decode_of}
use Rattle.trm_codec.specs.Encode.{fits, placed, encoded_as, encode_of}
use Rattle.trm_codec.specs.Unused.{unused_zero}
use Rattle.trm_codec.specs.Refusals.{decode_number, decode_value, encode_number, encode_value, word_refusal, instruction_refusal}
use Rattle.trm_codec.specs.Promises.{Decodes, Encodes}
use Rattle.trm_codec.proofs.Laws.Recode.{recodes}
use Rattle.trm_codec.proofs.Laws.RoundTrip.{passed}

pub decode-number : (w : ℕ) → decode_number (decode_of w) ≡ word_refusal w
unfolding decode_of
decode-number w = go (ltb 0x3FFFF w)
  where
    go : (t : Bool) → decode_number (cond t None (Some (instruction_of w))) ≡ cond t 3 0
    go true = refl
    go false = refl

-- the instruction of a word encodes to the word with its unused bits zero
placed_instruction : (w : ℕ) → placed (instruction_of w) ≡ unused_zero w
unfolding encode_of
placed_instruction w = sym (passed (fits (instruction_of w)) (placed (instruction_of w)) (unused_zero w) (recodes w)).1

decode-value : (w : ℕ) → decode_value (decode_of w) ≡ cond (ltb 0x3FFFF w) 0 (unused_zero w)
unfolding decode_of
decode-value w = go (ltb 0x3FFFF w)
  where
    go : (t : Bool) → decode_value (cond t None (Some (instruction_of w))) ≡ cond t 0 (unused_zero w)
    go true = refl
    go false = placed_instruction w

pub encode-number : (i : Instruction) → encode_number (encode_of i) ≡ instruction_refusal i
unfolding encode_of
encode-number i = go (fits i)
  where
    go : (t : Bool) → encode_number (encoded_as t (placed i)) ≡ cond t 0 10
    go true = refl
    go false = refl

encode-value : (i : Instruction) → encode_value (encode_of i) ≡ cond (fits i) (placed i) 0
unfolding encode_of
encode-value i = go (fits i)
  where
    go : (t : Bool) → encode_value (encoded_as t (placed i)) ≡ cond t (placed i) 0
    go true = refl
    go false = refl

-- an answer equal to the definition's meets the whole contract
pub decodes : (w : ℕ) (r : Option Instruction) → r ≡ decode_of w → Decodes w r
decodes w r e =
    record { answer = e; number = ap decode_number e ∙ decode-number w; value = ap decode_value e ∙ decode-value w }

pub encodes : (i : Instruction) (r : Option ℕ) → r ≡ encode_of i → Encodes i r
encodes i r e =
    record { answer = e; number = ap encode_number e ∙ encode-number i; value = ap encode_value e ∙ encode-value i }
