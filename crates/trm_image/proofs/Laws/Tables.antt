-- Every row of the tables of images and of payloads holds.
-- Idea: one test computes all rows; if it computes to true, it gives the equations.
use Prim.Native.Nat.{ℕ}
use mathlib.Core.Path.{refl, ap}
use mathlib.Core.List.{List, [], ◌∷◌}
use lib.ListN.{get_or, drop}
use Rattle.trm_word.specs.Address.{store_length_ok}
use Rattle.trm_core.specs.Refusals.{all_at_most}
use Rattle.trm_laws.proofs.Table.{same, test, test_true}
use Rattle.trm_image.specs.Records.{payload_at, words_at, begins, records_of, among, record_at}
use Rattle.trm_image.specs.Refused.{cut_short, length_wrong, count_wrong, in_order, word_wrong, line_byte_wrong, fault_at, first_fault}
use Rattle.trm_image.specs.Refused.{image_fault, payload_fault}
use Rattle.trm_image.specs.Promises.{payload_gives}
use Rattle.trm_image.specs.Cases.{Case, cases, AllHold, CasesHold}
use Rattle.trm_image.specs.Payloads.{Payload, payloads, AllGiven, PayloadsGiven}

outcome : Case → List ℕ
outcome c = (image_fault c.words c.bytes).number ∷ (image_fault c.words c.bytes).at ∷ []

pub cases_hold : CasesHold
unfolding cases AllHold outcome test same image_fault first_fault fault_at line_byte_wrong word_wrong in_order count_wrong length_wrong
    cut_short records_of begins words_at all_at_most store_length_ok
cases_hold =
    test_true outcome (λ c. c.number ∷ c.at ∷ []) AllHold tt
    (λ c cs p q. (ap (λ l. get_or l 0 0) p, ap (λ l. get_or l 1 0) p, q)) cases refl

gives : Payload → List ℕ
gives p = payload_fault p.bytes p.at ∷ payload_gives p.bytes p.at

pub payloads_given : PayloadsGiven
unfolding payloads AllGiven gives test same payload_gives payload_fault record_at among records_of begins cut_short payload_at
payloads_given =
    test_true gives (λ p. p.number ∷ p.part) AllGiven tt (λ p ps e q. (ap (λ l. get_or l 0 0) e, ap (drop 1) e, q)) payloads refl
