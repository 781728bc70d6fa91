-- The kind of a word, used in proofs only: which row of the clock table applies, and the value of each test of the definitions then.
-- The operation is one of 8, 9, 11–15, or one whose base charge is 1 (computed for all sixteen); then every test computes.
--   kind_of w v n    the kind        kind-is   every test, and the charge, by the kind
use Prim.Native.Nat.{ℕ, ◌+◌, ◌*◌, ◌/◌, ◌^◌, ◌<◌}
use mathlib.Core.Path.{◌≡◌, refl, ◌∙◌, subst}
use mathlib.Core.Bool.{Bool, true, false, cond, not, ◌||◌}
use lib.Dec.{eqb}
use borrow.Author.Tests.{eqb-true}
use native.Mathlib.Omega.{arith}
use native.Mathlib.Nat.{mod-lt}
use Rattle.trm_laws.proofs.Tests.{clash}
use Rattle.trm_word.specs.Fields.{operation, bit}
use Rattle.trm_word.specs.Condition.{is_set}
use Rattle.trm_word.specs.Charge.{charge_of}
use Rattle.trm_reference.specs.Geometry.{Geometry, burst}
use Rattle.trm_reference.specs.Visible.{Visible, cache_on}
use Rattle.trm_reference.specs.Access.{is_load, is_store, is_access, is_memory, place_of_word, to_memory, to_device}
use Rattle.trm_reference.specs.Execute.{branch_taken}
use Rattle.trm_reference.specs.Charge.{is_stepped, is_jump, takes_branch, through_cache, without_cache, turns_cache_off, miss_charge}
use Rattle.trm_reference.specs.Charge.{uncached_charge}
use Rattle.trm_reference.specs.Charge.{charge_by}
use Rattle.trm_core.specs.Rule.{all_below}
use Rattle.trm_core.proofs.Laws.Fit.{below_all}

pub data Kind : Type 0 where
  quick : Kind
  second : Kind
  longer : Kind
  device : Kind
  cached : Kind
  uncached : Kind
  clearing : Kind

unfoldable pub kind_of : ℕ → Visible → ℕ → Kind
kind_of w v n =
    cond (is_stepped w) longer
    (cond (is_access w) (cond (is_memory (place_of_word w v n)) (cond (cache_on v) cached uncached) device)
    (cond (turns_cache_off w v) clearing
    (cond (takes_branch w v || is_jump w || eqb (operation w) 15) second quick)))

abbrev pub is_longer : Kind → Bool
is_longer k =
    elim k [ quick ↦ false | second ↦ false | longer ↦ true | device ↦ false | cached ↦ false | uncached ↦ false | clearing ↦ false ]

abbrev pub is_second : Kind → Bool
is_second k =
    elim k [ quick ↦ false | second ↦ true | longer ↦ false | device ↦ false | cached ↦ false | uncached ↦ false | clearing ↦ false ]

abbrev pub is_device : Kind → Bool
is_device k =
    elim k [ quick ↦ false | second ↦ false | longer ↦ false | device ↦ true | cached ↦ false | uncached ↦ false | clearing ↦ false ]

abbrev pub is_cached : Kind → Bool
is_cached k =
    elim k [ quick ↦ false | second ↦ false | longer ↦ false | device ↦ false | cached ↦ true | uncached ↦ false | clearing ↦ false ]

abbrev pub is_uncached : Kind → Bool
is_uncached k =
    elim k [ quick ↦ false | second ↦ false | longer ↦ false | device ↦ false | cached ↦ false | uncached ↦ true | clearing ↦ false ]

abbrev pub is_clearing : Kind → Bool
is_clearing k =
    elim k [ quick ↦ false | second ↦ false | longer ↦ false | device ↦ false | cached ↦ false | uncached ↦ false | clearing ↦ true ]

abbrev pub in_memory : Kind → Bool
in_memory k =
    elim k [ quick ↦ false | second ↦ false | longer ↦ false | device ↦ false | cached ↦ true | uncached ↦ true | clearing ↦ false ]

-- what a kind implies for the cache bit
abbrev pub CacheBy : Kind → Bool → Type 0
CacheBy quick on = Unit {0}
CacheBy second on = Unit {0}
CacheBy longer on = Unit {0}
CacheBy device on = Unit {0}
CacheBy cached on = on ≡ true
CacheBy uncached on = on ≡ false
CacheBy clearing on = on ≡ true

-- the charge of a kind
unfoldable pub charge_of_kind : Geometry → Kind → Bool → Bool → Bool → ℕ → ℕ
charge_of_kind G quick store misses evicts dirty = 1
charge_of_kind G second store misses evicts dirty = 2
charge_of_kind G longer store misses evicts dirty = 33
charge_of_kind G device store misses evicts dirty = cond store 1 2
charge_of_kind G cached store misses evicts dirty = cond misses (miss_charge G evicts) (cond store 1 2)
charge_of_kind G uncached store misses evicts dirty = cond store 5 6
charge_of_kind G clearing store misses evicts dirty = 1 + burst G * dirty

-- what a kind implies for the base charge, and for LD and ST
abbrev pub CostBy : Kind → ℕ → Type 0
CostBy quick w = Unit {0}
CostBy second w = Unit {0}
CostBy longer w = charge_of (operation w) ≡ 33
CostBy device w = is_load w ≡ not (is_store w)
CostBy cached w = is_load w ≡ not (is_store w)
CostBy uncached w = (uncached_charge w ≡ cond (is_store w) 5 6) × (is_load w ≡ not (is_store w))
CostBy clearing w = Unit {0}

pub record Is (k : Kind) (w : ℕ) (v : Visible) (n : ℕ) : Type 0 where
  pub stepped : is_stepped w ≡ is_longer k
  pub memory : to_memory w v n ≡ in_memory k
  pub device : to_device w v n ≡ is_device k
  pub through : through_cache w v n ≡ is_cached k
  pub without : without_cache w v n ≡ is_uncached k
  pub off : turns_cache_off w v ≡ is_clearing k
  pub twice : takes_branch w v || is_jump w || eqb (operation w) 15 ≡ is_second k
  pub on : CacheBy k (cache_on v)
  pub cost : CostBy k w
  pub charge : (G : Geometry) (misses evicts : Bool) (dirty : ℕ)
      → charge_by G w v n misses evicts dirty ≡ charge_of_kind G k (is_store w) misses evicts dirty

-- an operation by its number, as far as the tests distinguish it
data Operation (o : ℕ) : Type 0 where
  is8 : o ≡ 8 → Operation o
  is9 : o ≡ 9 → Operation o
  is11 : o ≡ 11 → Operation o
  is12 : o ≡ 12 → Operation o
  is13 : o ≡ 13 → Operation o
  is14 : o ≡ 14 → Operation o
  is15 : o ≡ 15 → Operation o
  other : eqb o 8 ≡ false → eqb o 9 ≡ false → eqb o 11 ≡ false → eqb o 12 ≡ false → eqb o 13 ≡ false → eqb o 14 ≡ false
      → eqb o 15 ≡ false → charge_of o ≡ 1 → Operation o

-- any other operation is charged 1
cheap : ℕ → Bool
cheap o = eqb o 8 || eqb o 9 || eqb o 11 || eqb o 12 || eqb o 13 || eqb o 14 || eqb o 15 || eqb (charge_of o) 1

operation-is : (o : ℕ) → o < 16 → Operation o
unfolding cheap all_below
operation-is o h = go (eqb o 8) refl (eqb o 9) refl (eqb o 11) refl (eqb o 12) refl (eqb o 13) refl (eqb o 14) refl (eqb o 15) refl
    (below_all 16 cheap refl o h)
  where
    go : (a : Bool) → eqb o 8 ≡ a → (b : Bool) → eqb o 9 ≡ b → (c : Bool) → eqb o 11 ≡ c → (d : Bool) → eqb o 12 ≡ d
        → (e : Bool) → eqb o 13 ≡ e → (f : Bool) → eqb o 14 ≡ f → (g : Bool) → eqb o 15 ≡ g
        → a || b || c || d || e || f || g || eqb (charge_of o) 1 ≡ true → Operation o
    go true p b q c r d s e t f u g x y = is8 (eqb-true o 8 p)
    go false p true q c r d s e t f u g x y = is9 (eqb-true o 9 q)
    go false p false q true r d s e t f u g x y = is11 (eqb-true o 11 r)
    go false p false q false r true s e t f u g x y = is12 (eqb-true o 12 s)
    go false p false q false r false s true t f u g x y = is13 (eqb-true o 13 t)
    go false p false q false r false s false t true u g x y = is14 (eqb-true o 14 u)
    go false p false q false r false s false t false u true x y = is15 (eqb-true o 15 x)
    go false p false q false r false s false t false u false x y = other p q r s t u x (eqb-true (charge_of o) 1 y)

-- the record of facts from its fields in order
facts : {k : Kind} {w : ℕ} {v : Visible} {n : ℕ} → is_stepped w ≡ is_longer k → to_memory w v n ≡ in_memory k → to_device w v n
    ≡ is_device k
    → through_cache w v n ≡ is_cached k → without_cache w v n ≡ is_uncached k → turns_cache_off w v ≡ is_clearing k
    → takes_branch w v || is_jump w || eqb (operation w) 15 ≡ is_second k → CacheBy k (cache_on v) → CostBy k w
    → ((G : Geometry) (misses evicts : Bool) (dirty : ℕ)
    → charge_by G w v n misses evicts dirty ≡ charge_of_kind G k (is_store w) misses evicts dirty) → Is k w v n
facts a b c d e f g h i j =
    record { stepped = a; memory = b; device = c; through = d; without = e; off = f; twice = g; on = h; cost = i; charge = j }

pub kind-is : (w : ℕ) (v : Visible) (n : ℕ) → Is (kind_of w v n) w v n
unfolding kind_of is_stepped is_load is_store is_access to_memory to_device through_cache without_cache turns_cache_off takes_branch is_jump
    charge_by charge_of_kind uncached_charge
kind-is w v n = by (operation-is (operation w) (mod-lt (w / 2 ^ 14) {m = 2 ^ 4} (omega arith)))
  where
    load : operation w ≡ 12 → (me on : Bool) → is_memory (place_of_word w v n) ≡ me → cache_on v ≡ on → Is (kind_of w v n) w v n
    load o true true p q = rw (o, p, q) (facts (rw o) (rw (o, p)) (rw (o, p)) (rw (o, p, q)) (rw (o, p, q)) (rw o) (rw o) q (rw o)
        (λ G a b d. rw (o, p, q)))
    load o true false p q = rw (o, p, q) (facts (rw o) (rw (o, p)) (rw (o, p)) (rw (o, p, q)) (rw (o, p, q)) (rw o) (rw o) q (rw o, rw o)
        (λ G a b d. rw (o, p, q)))
    load o false on p q = rw (o, p) (facts (rw o) (rw (o, p)) (rw (o, p)) (rw (o, p)) (rw (o, p)) (rw o) (rw o) tt (rw o)
        (λ G a b d. rw (o, p)))

    store : operation w ≡ 13 → (me on : Bool) → is_memory (place_of_word w v n) ≡ me → cache_on v ≡ on → Is (kind_of w v n) w v n
    store o true true p q = rw (o, p, q) (facts (rw o) (rw (o, p)) (rw (o, p)) (rw (o, p, q)) (rw (o, p, q)) (rw o) (rw o) q (rw o)
        (λ G a b d. rw (o, p, q)))
    store o true false p q = rw (o, p, q) (facts (rw o) (rw (o, p)) (rw (o, p)) (rw (o, p, q)) (rw (o, p, q)) (rw o) (rw o) q (rw o, rw o)
        (λ G a b d. rw (o, p, q)))
    store o false on p q = rw (o, p) (facts (rw o) (rw (o, p)) (rw (o, p)) (rw (o, p)) (rw (o, p)) (rw o) (rw o) tt (rw o)
        (λ G a b d. rw (o, p)))

    control : operation w ≡ 11 → (ten : Bool) → is_set (bit 10 w) ≡ ten → (on : Bool) → cache_on v ≡ on → (keeps : Bool)
        → is_set (bit 3 w) ≡ keeps → Is (kind_of w v n) w v n
    control o true p on q keeps r = rw (o, p) (facts (rw o) (rw o) (rw o) (rw o) (rw o) (rw (o, p)) (rw (o, p)) tt tt
        (λ G a b d. rw (o, p)))
    control o false p false q keeps r = rw (o, p, q) (facts (rw o) (rw o) (rw o) (rw o) (rw o) (rw (o, p, q)) (rw (o, p)) tt tt
        (λ G a b d. rw (o, p, q)))
    control o false p true q true r = rw (o, p, q, r) (facts (rw o) (rw o) (rw o) (rw o) (rw o) (rw (o, p, q, r)) (rw (o, p)) tt tt
        (λ G a b d. rw (o, p, q, r)))
    control o false p true q false r = rw (o, p, q, r) (facts (rw o) (rw o) (rw o) (rw o) (rw o) (rw (o, p, q, r)) (rw (o, p)) q tt
        (λ G a b d. rw (o, p, q, r)))

    branch : operation w ≡ 14 → (taken : Bool) → branch_taken w v ≡ taken → Is (kind_of w v n) w v n
    branch o true p = rw (o, p) (facts (rw o) (rw o) (rw o) (rw o) (rw o) (rw o) (rw (o, p)) tt tt (λ G a b d. rw (o, p)))
    branch o false p = rw (o, p) (facts (rw o) (rw o) (rw o) (rw o) (rw o) (rw o) (rw (o, p)) tt tt (λ G a b d. rw (o, p)))

    by : Operation (operation w) → Is (kind_of w v n) w v n
    by (is8 o) = rw o (facts (rw o) (rw o) (rw o) (rw o) (rw o) (rw o) (rw o) tt (rw o) (λ G a b d. rw o))
    by (is9 o) = rw o (facts (rw o) (rw o) (rw o) (rw o) (rw o) (rw o) (rw o) tt (rw o) (λ G a b d. rw o))
    by (is11 o) = control o (is_set (bit 10 w)) refl (cache_on v) refl (is_set (bit 3 w)) refl
    by (is12 o) = load o (is_memory (place_of_word w v n)) (cache_on v) refl refl
    by (is13 o) = store o (is_memory (place_of_word w v n)) (cache_on v) refl refl
    by (is14 o) = branch o (branch_taken w v) refl
    by (is15 o) = rw o (facts (rw o) (rw o) (rw o) (rw o) (rw o) (rw o) (rw o) tt tt (λ G a b d. rw o))
    by (other a b c d e f g one) = rw (a, b, c, d, e, f, g) (facts (rw (a, b)) (rw (d, e)) (rw (d, e)) (rw (d, e)) (rw (d, e)) (rw c)
        (rw (c, f, g)) tt tt (λ G i j k. rw (c, d, e, f, one)))

-- every test of a word whose kind is known
pub is-of : (w : ℕ) (v : Visible) (n : ℕ) (k : Kind) → kind_of w v n ≡ k → Is k w v n
is-of w v n k q = subst (λ j. Is j w v n) q (kind-is w v n)

-- uncached, in the paper's numbers: LD waits 5 clocks and ST 4, and each has one last clock
pub waits-are : {w : ℕ} {v : Visible} {n : ℕ} → Is uncached w v n → uncached_charge w ≡ cond (is_load w) 5 4 + 1
waits-are {w} is = is.cost.0 ∙ rw is.cost.1 (go (is_store w))
  where
    go : (t : Bool) → ◌≡◌ {A = ℕ} (cond t 5 6) (cond (not t) 5 4 + 1)
    go true = refl
    go false = refl

-- one test determines the kind
pub longer-is : (k : Kind) → is_longer k ≡ true → k ≡ longer
longer-is k = elim k as (λ j. is_longer j ≡ true → j ≡ longer)
    [ quick ↦ clash | second ↦ clash | longer ↦ λ _. refl | device ↦ clash | cached ↦ clash | uncached ↦ clash | clearing ↦ clash ]

pub cached-is : (k : Kind) → is_cached k ≡ true → k ≡ cached
cached-is k = elim k as (λ j. is_cached j ≡ true → j ≡ cached)
    [ quick ↦ clash | second ↦ clash | longer ↦ clash | device ↦ clash | cached ↦ λ _. refl | uncached ↦ clash | clearing ↦ clash ]

pub uncached_is : (k : Kind) → is_uncached k ≡ true → k ≡ uncached
uncached_is k = elim k as (λ j. is_uncached j ≡ true → j ≡ uncached)
    [ quick ↦ clash | second ↦ clash | longer ↦ clash | device ↦ clash | cached ↦ clash | uncached ↦ λ _. refl | clearing ↦ clash ]

pub clearing_is : (k : Kind) → is_clearing k ≡ true → k ≡ clearing
clearing_is k = elim k as (λ j. is_clearing j ≡ true → j ≡ clearing)
    [ quick ↦ clash | second ↦ clash | longer ↦ clash | device ↦ clash | cached ↦ clash | uncached ↦ clash | clearing ↦ λ _. refl ]
