-- What is claimed of images in addition to the contracts, one statement per field of `Claims`.
-- Paper: "Images and the listing program"; "the first fault counts". The value is in proofs/Theorems.antt.
use Prim.{Unit}
use Rattle.std.specs.Prelude.{ℕ, ◌≤◌, ◌<◌, ◌≡◌, ◌≢◌, Bool, true, false, List, [], ◌∷◌, ◌++◌, length}
use Rattle.trm_core.specs.Refusals.{all_at_most}
use Rattle.trm_word.specs.Address.{store_length_ok}
use Rattle.trm_image.specs.Records.{kind_at, records_of}
use Rattle.trm_image.specs.Refused.{fault_at, image_fault}
use Rattle.trm_image.specs.Meaning.{Image, image_of}
use Rattle.trm_image.specs.Cases.{CasesHold}
use Rattle.trm_image.specs.Payloads.{PayloadsGiven}
use Rattle.trm_image.specs.Written.{image_bytes, Meant}

-- the kind of the last of these records, `before` if there is none
unfoldable pub last_kind : List ℕ → ℕ → List ℕ → ℕ
last_kind s before [] = before
last_kind s before (at ∷ more) = last_kind s (kind_at s at) more

-- none of these records is at fault
unfoldable pub Faultless : ℕ → List ℕ → ℕ → List ℕ → Type 0
Faultless n s before [] = Unit {0}
Faultless n s before (at ∷ more) = (fault_at n s before at ≡ 0) × Faultless n s (kind_at s at) more

-- "the first fault counts": the records before it have none, and its number is the first row that it fails
pub record FirstFault (n : ℕ) (s : List ℕ) (number at : ℕ) : Type 0 where
  pub before : List ℕ
  pub after : List ℕ
  pub records : records_of s ≡ before ++ at ∷ after
  pub faultless : Faultless n s 0 before
  pub fault : fault_at n s (last_kind s 0 before) at ≡ number

-- Why an image is refused: it is too long, or empty, or has a first fault. With an illegal store length that is the first record's, by
-- row 1, 2, 3 or 4: "checks go down the table", so 4 comes before every row 6 and every later record.
pub data Why (n : ℕ) (s : List ℕ) (number at : ℕ) : Type 0 where
  too_long : 65536 < length s → number ≡ 1 → at ≡ 0 → Why n s number at
  empty : s ≡ [] → number ≡ 2 → at ≡ 0 → Why n s number at
  faulty : length s ≤ 65536 → store_length_ok n ≡ true → FirstFault n s number at → Why n s number at
  no_store : length s ≤ 65536 → store_length_ok n ≡ false → FirstFault n s number at → number ≤ 4 → at ≡ 0 → Why n s number at

abbrev pub RefusedFirst : Type 0
RefusedFirst = (n : ℕ) (s : List ℕ) → (image_fault n s).number ≢ 0 → Why n s (image_fault n s).number (image_fault n s).at

-- An accepted image is the bytes of a program, first data words and runs, as the paper describes them; `image_of` reads them.
pub record Described (n : ℕ) (s : List ℕ) : Type 0 where
  pub second : Bool
  pub bytes : s ≡ image_bytes second (image_of s)
  pub meant : Meant n (image_of s)
  pub none : second ≡ false → (image_of s).first ≡ []
  pub small : length s ≤ 65536
  pub store : store_length_ok n ≡ true

abbrev pub AcceptedDescribed : Type 0
AcceptedDescribed =
    (n : ℕ) (s : List ℕ) → all_at_most 255 s ≡ true → (image_fault n s).number ≡ 0 → Described n s

-- Conversely, the bytes of any such image are accepted and read back as that image.
abbrev pub WrittenAccepted : Type 0
WrittenAccepted =
    (n : ℕ) (second : Bool) (I : Image) → store_length_ok n ≡ true → Meant n I → (second ≡ false → I.first ≡ [])
    → length (image_bytes second I) ≤ 65536
    → (image_fault n (image_bytes second I) ≡ record { number = 0; at = 0 }) × (image_of (image_bytes second I) ≡ I)

pub record Claims : Type 0 where
  pub refused_first : RefusedFirst
  pub accepted_described : AcceptedDescribed
  pub written_accepted : WrittenAccepted
  pub cases_hold : CasesHold
  pub payloads_given : PayloadsGiven
