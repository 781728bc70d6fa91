-- A record that keeps row 5, for the word at PC: the precondition of the functions of one clock.
-- Paper: row 5 of the refusals, whose clauses are trm_core's `Rule`. Used in inner contracts only: no claim rests on it.
--   Good w n c rs ca    the record rule, for the word w and a store of n words
use Rattle.std.specs.Prelude.{ℕ, ◌≡◌, true, List}
use Rattle.trm_word.specs.Address.{store_length_ok}
use Rattle.trm_reference.specs.Geometry.{paper_geometry}
use Rattle.trm_reference.specs.Visible.{cache_on}
use Rattle.trm_cache.specs.declared.record.Cache.{Cache}
use Rattle.trm_core.specs.declared.record.Scalars.{Scalars}
use Rattle.trm_core.specs.Record.{gathered}
use Rattle.trm_core.specs.Rule.{widths_ok, counts_ok, registers_ok, phase_ok, lines_ok}

-- row 5, for the word w and a store of the legal length n
pub record Good (w n : ℕ) (c : Scalars) (rs : List ℕ) (ca : Cache) : Type 0 where
  pub legal : store_length_ok n ≡ true
  pub widths : widths_ok (gathered c rs) ≡ true
  pub phase : phase_ok paper_geometry w n c.running (gathered c rs) ca ≡ true
  pub registers : registers_ok w c.running (gathered c rs) ≡ true
  pub counts : counts_ok c.counts ≡ true
  pub lines : lines_ok paper_geometry (cache_on (gathered c rs)) n ca ≡ true
