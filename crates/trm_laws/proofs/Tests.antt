-- Laws of Bool tests: conjunction, disjunction, equivalent tests, and properties of a `cond`.
-- By cases of the Bool.
use Prim.Native.Nat.{ℕ}
use mathlib.Core.Path.{◌≡◌, refl, sym, ap, ◌∙◌}
use mathlib.Core.Bool.{Bool, true, false, cond, ◌&&◌, ◌||◌}
use lib.Dec.{eqb}
use borrow.Author.Tests.{eq-eqb, ne_eqb}
use native.Mathlib.Omega.{arith}
use native.Mathlib.Decide.{ℕ_discrete}

-- no test is both true and false
pub bool_clash : {A : Type 0} (b : Bool) → b ≡ true → b ≡ false → A
bool_clash b p q = absurd (let z : ◌≡◌ {A = ℕ} 0 1 = cc in omega arith)

pub clash : {A : Type 0} → false ≡ true → A
clash e = bool_clash false e refl

-- a conjunction: introduced, and split into its parts
infixl 40 ◌&t◌
pub ◌&t◌ : {a b : Bool} → a ≡ true → b ≡ true → a && b ≡ true
◌&t◌ p q = rw (p, q)

pub both : {X : Type 0} (a b : Bool) → (a ≡ true → b ≡ true → X) → a && b ≡ true → X
both true true f t = f refl refl
both true false f t = clash t
both false b f t = clash t

pub all3 : {X : Type 0} (a b c : Bool) → (a ≡ true → b ≡ true → c ≡ true → X) → a && b && c ≡ true → X
all3 a b c f = both (a && b) c (λ q r. both a b (λ p q. f p q r) q)

pub all4 : {X : Type 0} (a b c d : Bool) → (a ≡ true → b ≡ true → c ≡ true → d ≡ true → X) → a && b && c && d ≡ true → X
all4 a b c d f = both (a && b && c) d (λ q s. all3 a b c (λ o p r. f o p r s) q)

pub or_right : (a b : Bool) → b ≡ true → a || b ≡ true
or_right true b e = refl
or_right false b e = e

-- equal numbers give equal tests
pub test_at : {a b : ℕ} → a ≡ b → (c : ℕ) → eqb a c ≡ eqb b c
test_at q c = ap (λ x. eqb x c) q

-- tests of equivalent facts are equal
pub same_test : (a b c d : ℕ) → (a ≡ b → c ≡ d) → (c ≡ d → a ≡ b) → eqb a b ≡ eqb c d
same_test a b c d f g = go (ℕ_discrete a b)
  where
    go : Dec (a ≡ b) → eqb a b ≡ eqb c d
    go (yes e) = eq-eqb a b e ∙ sym (eq-eqb c d (f e))
    go (no z) = ne_eqb a b z ∙ sym (ne_eqb c d (λ y. z (g y)))

-- a property of both choices is a property of the `cond`
pub chosen_by : {A : Type 0} (P : A → Type 0) (t : Bool) {a b : A} → (t ≡ true → P a) → (t ≡ false → P b) → P (cond t a b)
chosen_by P true f g = f refl
chosen_by P false f g = g refl

pub chosen : {A : Type 0} (P : A → Type 0) (t : Bool) {a b : A} → P a → P b → P (cond t a b)
chosen P t x y = chosen_by P t (λ _. x) (λ _. y)
