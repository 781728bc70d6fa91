-- Each answer has the number and the word of the paper (law `word_shown`).
use Rattle.std.proofs.Common.{Some, None}
use Rattle.trm_codec.proofs.Laws.Fields.{word_shown}
use Rattle.trm_codec.proofs.plain_codec.encode_fields.Goals as goal

pub returns-in-Some : goal.returns-in-Some
returns-in-Some c = word_shown _ (Some c.in-Some.w) c.in-Some.ensures

pub returns-in-None : goal.returns-in-None
returns-in-None c = word_shown _ None c.in-None.ensures
