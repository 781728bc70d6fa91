-- What the calls return for every image: the contract of each, in full.
-- Paper: "Where calls are turned down", rows 1, 2, 3, 4 and 6; "The reader hands back the payload as a part of the image itself".
--   CheckHolds n s r    of the check, n being the store's length in words, s the image and r the result
--   payload_gives s at   the payload that is returned; its refusal number is `payload_fault s at`
use Rattle.std.specs.Prelude.{ℕ, ◌≡◌, cond, List, [], eqb, Result, Ok, Err, ⊤}
use Rattle.trm_image.specs.declared.fault.Refusal.{Refusal}
use Rattle.trm_image.specs.Numbers.{number_of}
use Rattle.trm_image.specs.Records.{payload_at}
use Rattle.trm_image.specs.Refused.{Refused, image_fault, payload_fault}

-- number and offset of a refusal; 0 at 0 if accepted
abbrev pub refused_of : Result ⊤ Refusal → Refused
refused_of (Ok x) = record { number = 0; at = 0 }
refused_of (Err refusal) = record { number = number_of refusal.fault; at = refusal.at }

pub record CheckHolds (n : ℕ) (s : List ℕ) (r : Result ⊤ Refusal) : Type 0 where
  pub number : (refused_of r).number ≡ (image_fault n s).number
  pub at : (refused_of r).at ≡ (image_fault n s).at

-- the payload, empty if it is refused
unfoldable pub payload_gives : List ℕ → ℕ → List ℕ
payload_gives s at = cond (eqb (payload_fault s at) 0) (payload_at s at) []
