-- Every row of the table of single steps holds.
-- One Bool test computes all rows; that it is true gives the equation of each row.
use mathlib.Core.Path.{refl}
use Rattle.trm_laws.proofs.Table.{same, test, test_true}
use Rattle.trm_reference.specs.Geometry.{block_of, line_of}
use Rattle.trm_reference.specs.History.{how_many}
use Rattle.trm_cache.specs.Cache.{line_at, holds, line_view, view, below, copy_of, write_word, fill_word, count_dirty, lowest}
use Rattle.trm_cache.specs.Cache.{first_dirty, empty_to, all_emptied}
use Rattle.trm_cache.specs.Copy.{writes, fills}
use Rattle.trm_cache.specs.Steps.{rising, but, rows, AllHold}
use Rattle.trm_cache.specs.Claims.{StepsHold}

pub steps_hold : StepsHold
unfolding rows AllHold test same rising but block_of line_of how_many line_at holds line_view view below copy_of write_word fill_word
    count_dirty lowest first_dirty empty_to all_emptied writes fills
steps_hold = test_true (λ r. r.gives) (λ r. r.expected) AllHold tt (λ r rs p q. (p, q)) rows refl
