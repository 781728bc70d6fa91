-- EVERY CLAIM of the project in addition to the contracts: a field for the claims of each crate that has any, and for those of this one.
-- Demand 3 is `demand_3` of `agreement`, the board's is `board_demand` of `board_agreement`; the claims of demand 2 are those of `alu`,
-- `codec` and `core`. The value is in proofs/Theorems.antt.
use Rattle.trm_word.specs.Claims.{Claims as WordClaims}
use Rattle.trm_codec.specs.Claims.{Claims as CodecClaims}
use Rattle.trm_alu.specs.Claims.{Claims as AluClaims}
use Rattle.trm_reference.specs.Claims.{Claims as ReferenceClaims}
use Rattle.trm_cache.specs.Claims.{Claims as CacheClaims}
use Rattle.trm_core.specs.Claims.{Claims as CoreClaims}
use Rattle.trm_agreement.specs.Claims.{Claims as AgreementClaims}
use Rattle.trm_clock_device.specs.Claims.{Claims as DeviceClaims}
use Rattle.trm_serial.specs.Claims.{Claims as SerialClaims}
use Rattle.trm_board.specs.Claims.{Claims as BoardClaims}
use Rattle.trm_board_calls.specs.Claims.{Claims as BoardCallClaims}
use Rattle.trm_board_agreement.specs.Claims.{Claims as BoardAgreementClaims}
use Rattle.trm_image.specs.Claims.{Claims as ImageClaims}
use Rattle.trm_list_text.specs.Claims.{Claims as TextClaims}
use Rattle.trm_listing.specs.Claims.{Claims as ListingClaims}
use Rattle.trm_claims.specs.Pieces.{PiecesAreOutput}

pub record Claims : Type 1 where
  -- words: addresses, devices, conditions
  pub word : WordClaims
  -- decode and encode are inverse
  pub codec : CodecClaims
  -- results, flags, multiplier and divider
  pub alu : AluClaims
  -- the plain machine on computed tables
  pub reference : ReferenceClaims
  -- bursts are block copies
  pub cache : CacheClaims
  -- each clock of an accepted record, and the scenario
  pub core : CoreClaims
  -- DEMAND 3
  pub agreement : AgreementClaims
  -- the device that a clock reads is known before the clock
  pub device : DeviceClaims
  -- the serial line: loop-back, busy, what becomes of a byte
  pub serial : SerialClaims
  -- the board beside any core
  pub board : BoardClaims
  -- the core of document 01 is one that the board can have inside
  pub board_calls : BoardCallClaims
  -- REQUEST A1 AND DEMAND 3 OF THE BOARD
  pub board_agreement : BoardAgreementClaims
  -- which bytes are images
  pub image : ImageClaims
  -- the bytes of a row
  pub text : TextClaims
  -- whole listings, computed
  pub listing : ListingClaims
  -- the pieces of a listing, joined, are the output
  pub pieces_are_output : PiecesAreOutput
