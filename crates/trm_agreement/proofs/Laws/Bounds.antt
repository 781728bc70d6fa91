-- Every charge is above 0 and at most the longest.
-- Idea: by cases of the kind of the word; at most all lines are dirty.
use Prim.Native.Nat.{ℕ, ◌≤◌, ◌<◌}
use mathlib.Core.Path.{refl}
use mathlib.Core.Bool.{Bool, true, false}
use lib.ListN.{length}
use native.Mathlib.Omega.{arith}
use native.Mathlib.Nat.{mul-le-mul_left}
use Rattle.trm_reference.specs.Geometry.{Geometry, burst, one_of, geometry_ok}
use Rattle.trm_reference.specs.Visible.{Visible}
use Rattle.trm_reference.specs.Access.{is_store}
use Rattle.trm_reference.specs.History.{dirty_now, dirty_lines}
use Rattle.trm_reference.specs.Charge.{miss_charge, charge_by}
use Rattle.trm_reference.specs.Reference.{Reference, charge, misses, evicts}
use Rattle.trm_cache.specs.declared.record.Cache.{Cache}
use Rattle.trm_core.specs.Clock.{charge_here}
use Rattle.trm_core.proofs.Laws.Kind.{Kind, quick, second, longer, device, cached, uncached, clearing, kind_of, kind-is, charge_of_kind}
use Rattle.trm_cache.proofs.Laws.Dirty.{how_many-le}
use Rattle.trm_agreement.specs.Book.{longest}
use Rattle.trm_agreement.specs.Plain.{Bounded}

module _ (G : Geometry) where
  kind-pos : (k : Kind) (store misses evicts : Bool) (dirty : ℕ) → 0 < charge_of_kind G k store misses evicts dirty
  unfolding charge_of_kind miss_charge
  kind-pos quick st mi ev d = omega arith
  kind-pos second st mi ev d = omega arith
  kind-pos longer st mi ev d = omega arith
  kind-pos device true mi ev d = omega arith
  kind-pos device false mi ev d = omega arith
  kind-pos cached st true ev d = omega arith
  kind-pos cached true false ev d = omega arith
  kind-pos cached false false ev d = omega arith
  kind-pos uncached true mi ev d = omega arith
  kind-pos uncached false mi ev d = omega arith
  kind-pos clearing st mi ev d = omega arith

  kind-bounded : (k : Kind) (store misses evicts : Bool) (dirty : ℕ) → dirty ≤ G.lines
      → charge_of_kind G k store misses evicts dirty ≤ longest G
  unfolding charge_of_kind miss_charge longest
  kind-bounded quick st mi ev d h = omega arith
  kind-bounded second st mi ev d h = omega arith
  kind-bounded longer st mi ev d h = omega arith
  kind-bounded device true mi ev d h = omega arith
  kind-bounded device false mi ev d h = omega arith
  kind-bounded cached st true true d h = omega arith
  kind-bounded cached st true false d h = omega arith
  kind-bounded cached true false ev d h = omega arith
  kind-bounded cached false false ev d h = omega arith
  kind-bounded uncached true mi ev d h = omega arith
  kind-bounded uncached false mi ev d h = omega arith
  kind-bounded clearing st mi ev d h = omega (arith, mul-le-mul_left (burst G) h)

  by-pos : (w : ℕ) (v : Visible) (n : ℕ) (mi ev : Bool) (d : ℕ) → 0 < charge_by G w v n mi ev d
  by-pos w v n mi ev d = rw ((kind-is w v n).charge G mi ev d) (kind-pos (kind_of w v n) (is_store w) mi ev d)

  pub charge_here-pos : (w n : ℕ) (v : Visible) (ca : Cache) → 0 < charge_here G w n v ca
  unfolding charge_here
  charge_here-pos w n v ca = by-pos w v n _ _ _

  pub charge-pos : (w : ℕ) (q : Reference) → 0 < charge G w q
  unfolding charge
  charge-pos w q = by-pos w q.visible (length q.memory) _ _ _

  pub charge-bounded : (w : ℕ) (q : Reference) → charge G w q ≤ longest G
  unfolding charge
  charge-bounded w q = rw
      ((kind-is w q.visible (length q.memory)).charge G (misses G w q) (evicts G w q) (dirty_lines G q.history))
      (kind-bounded (kind_of w q.visible (length q.memory)) (is_store w) (misses G w q) (evicts G w q) (dirty_lines G q.history)
      (unfold dirty_lines in how_many-le G.lines (dirty_now G q.history)))

pub bounded : Bounded
unfolding geometry_ok one_of
bounded = record { fits = refl; positive = charge-pos; charges = charge-bounded }
