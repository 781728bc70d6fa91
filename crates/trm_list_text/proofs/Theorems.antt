-- The value of the claims of this crate.
-- Each row of the example is computed.
use mathlib.Core.Path.{refl}
use Rattle.trm_list_text.specs.Numbers.{digits, places, decimal, hex}
use Rattle.trm_list_text.specs.Rows.{shown_bytes, row_bytes, end_bytes, refused_bytes}
use Rattle.trm_list_text.specs.Claims.{ExampleHolds, Claims}

example_holds : ExampleHolds
unfolding digits places decimal hex shown_bytes row_bytes end_bytes refused_bytes
example_holds = record { second = refl; third = refl; interrupt = refl; last = refl; refused = refl }

pub theorems : Claims
theorems = record { example_holds = example_holds }
