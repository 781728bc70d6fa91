-- An accepted image loaded: its first data words in the store, and where its runs begin. Contracts of `inner` use this.
-- Paper: "Kind 2, second, at most once: first data words, .. the rest being zero".
use Rattle.std.specs.Prelude.{ℕ, ◌≡◌, List, length, drop}
use Rattle.trm_image.specs.Records.{begins}
use Rattle.trm_image.specs.Refused.{image_fault}
use Rattle.trm_image.specs.Meaning.{image_of, runs_in}
use Rattle.trm_image.specs.Runs.{Runs}
use Rattle.trm_listing.specs.Listing.{first_store}

-- an accepted image, and a store of 2,048 words
pub record Loadable (s st : List ℕ) : Type 0 where
  pub accepted : (image_fault 2048 s).number ≡ 0
  pub long : length st ≡ 2048

pub record Loaded (s st : List ℕ) (at : ℕ) : Type 0 where
  pub store : st ≡ first_store (image_of s).first
  pub long : length st ≡ 2048
  pub runs : Runs 2048 s at
  pub list : (image_of s).runs ≡ runs_in s (begins 0 at (drop at s))
