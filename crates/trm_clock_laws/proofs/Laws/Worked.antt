-- `worked` from a clock's outcome: for the last clock of an instruction, and for any other.
-- Idea: `is_last` decides which of the two it is; any other clock is an `advance`.
use Prim.Native.Nat.{ℕ}
use mathlib.Core.Path.{◌≡◌, sym, ap, ◌∙◌}
use mathlib.Core.Bool.{true}
use mathlib.Core.List.{List}
use Rattle.trm_reference.specs.Geometry.{paper_geometry}
use Rattle.trm_reference.specs.Access.{Answer}
use Rattle.trm_reference.specs.Trace.{After}
use Rattle.trm_cache.specs.declared.record.Cache.{Cache}
use Rattle.trm_core.specs.declared.record.Running.{Running}
use Rattle.trm_core.specs.declared.record.Scalars.{Scalars}
use Rattle.trm_core.specs.Record.{Lent, gathered, whole, advanced}
use Rattle.trm_core.specs.Clock.{Moved, moved, quiet, is_last, finish, worked}
use Rattle.trm_core.proofs.Laws.Table.{worked-last, worked-on}
use Rattle.trm_clock_laws.proofs.Does.{Does}
use Rattle.trm_clock_laws.specs.declared.inner.outcome.Clocked.{Clocked}
use Rattle.trm_clock_laws.specs.Made.{made}

-- the result of a clock that ends no instruction
abbrev pub rests : Scalars → Clocked
rests after = record { scalars = after; byte = 0; word = 0; finished = 0 }

module _ (w n : ℕ) (c : Scalars) (rs : List ℕ) (ca : Cache) (s : List ℕ) (i : ℕ) where
  pub ends-worked : is_last paper_geometry w n c.running (gathered c rs) ca ≡ true → (t : After Lent Answer)
      → t ≡ finish paper_geometry w n (whole c rs ca) s i → t ≡ worked paper_geometry w n (whole c rs ca) s i
  ends-worked q t e = e ∙ sym (worked-last paper_geometry w n (whole c rs ca) s i q)

  pub goes-worked : (f : List ℕ → Moved) → Does w n c rs ca f → (r : Clocked) (next : Running) (a b : ℕ) (ca' : Cache) (s' : List ℕ)
      → r ≡ rests (advanced c next a b) → moved c next ca' s' a b ≡ f s
      → made r rs ca' s' ≡ worked paper_geometry w n (whole c rs ca) s i
  goes-worked f d r next a b ca' s' q m =
      rw q (ap (quiet rs) (m ∙ sym (d.does s)) ∙ sym (worked-on paper_geometry w n (whole c rs ca) s i d.more))
