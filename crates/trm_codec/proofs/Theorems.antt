-- Proves every field of `Claims`.
-- The inverses and the refusals are laws; the table of words computes.
use Rattle.std.proofs.Common.{rules}
use Rattle.trm_codec.specs.Decode.{arithmetic_of, control_of, instruction_of, decode_of}
use Rattle.trm_codec.specs.Encode.{encode_of}
use Rattle.trm_codec.specs.Worked.{RowsHold}
use Rattle.trm_codec.specs.Claims.{Claims, WordsHold}
use Rattle.trm_codec.proofs.Laws.Numbers.{decode-number, encode-number}
use Rattle.trm_codec.proofs.Laws.Recode.{decode_encode}
use Rattle.trm_codec.proofs.Laws.RoundTrip.{encode_decode}
use Rattle.trm_codec.proofs.Laws.Plain.{plain_decode, plain_encode}

words_hold : WordsHold
unfolding RowsHold decode_of instruction_of arithmetic_of control_of encode_of
words_hold = search rules

pub theorems : Claims
theorems =
    record {
      decode_encode = decode_encode;
      encode_decode = encode_decode;
      decode_refuses = decode-number;
      encode_refuses = encode-number;
      plain_decode = plain_decode;
      plain_encode = plain_encode;
      words_hold = words_hold;
    }
