-- What an accepted geometry and a legal store length imply: no line, word or store is empty, and every access is within bounds.
-- A test that holds for every entry of a table holds for its members; each such test is computed once.
--   fit   the bounds        target_in, block_in, line_in_lem   the word, block and line of an access        member, below_all   tables
use Prim.Native.Nat.{ℕ, zero, suc, ◌+◌, ◌-◌, ◌*◌, ◌/◌, ◌%◌, ◌≤◌, ◌<◌}
use mathlib.Core.Path.{◌≡◌, refl}
use mathlib.Core.Bool.{Bool, true, false, cond, ◌&&◌, ◌||◌}
use mathlib.Core.List.{List, [], ◌∷◌}
use lib.Dec.{eqb, leb, ltb}
use borrow.Author.Tests.{eqb-true, ltb-true, leb-true}
use native.Mathlib.Omega.{arith}
use native.Mathlib.Decide.{ℕ_discrete}
use native.Mathlib.Nat.{mod-lt, div-lt_iff_lt-mul, div-add-mod', mul-le-mul_right}
use Rattle.trm_laws.proofs.Tests.{clash, ◌&t◌, both, all3}
use Rattle.trm_word.specs.Address.{store_length_ok}
use Rattle.trm_word.specs.declared.inner.address.Place.TheVariants.{Device, Memory}
use Rattle.trm_reference.specs.Geometry.{Geometry, one_of, line_counts, word_counts, geometry_ok, burst, block_of, line_of}
use Rattle.trm_reference.specs.Visible.{Visible}
use Rattle.trm_reference.specs.Access.{address_of, place_of_word, memory_index, target, target_block, target_line}
use Rattle.trm_core.specs.Rule.{all_below}

-- a test of every number below k
pub all-below : (k : ℕ) (f : ℕ → Bool) → ((i : ℕ) → i < k → f i ≡ true) → all_below k f ≡ true
unfolding all_below
all-below zero f h = refl
all-below (suc k) f h = all-below k f (λ i hi. h i (omega arith)) &t h k (omega arith)

pub below_all : (k : ℕ) (f : ℕ → Bool) → all_below k f ≡ true → (i : ℕ) → i < k → f i ≡ true
unfolding all_below
below_all zero f t i h = absurd (omega arith)
below_all (suc k) f t i h = go (ℕ_discrete i k) (λ t. below_all k f t i) t
  where
    go : Dec (i ≡ k) → (all_below k f ≡ true → i < k → f i ≡ true) → all_below k f && f k ≡ true → f i ≡ true
    go (yes e) ih = both (all_below k f) (f k) (λ p q. rw e q)
    go (no n) ih = both (all_below k f) (f k) (λ p q. ih p (omega arith))

-- a test of every entry of a table
every : (ℕ → Bool) → List ℕ → Bool
every f [] = true
every f (k ∷ ks) = f k && every f ks

member : (f : ℕ → Bool) (n : ℕ) (ks : List ℕ) → one_of n ks ≡ true → every f ks ≡ true → f n ≡ true
unfolding one_of every
member f n [] e q = clash e
member f n (k ∷ ks) e q = both (f k) (every f ks) (λ y b. go (eqb n k) refl y e (λ a. member f n ks a b)) q
  where
    go : (t : Bool) → eqb n k ≡ t → f k ≡ true → t || one_of n ks ≡ true → (one_of n ks ≡ true → f n ≡ true) → f n ≡ true
    go true z y a ih = rw (eqb-true n k z) y
    go false z y a ih = ih a

lengths : List ℕ
lengths = 64 ∷ 128 ∷ 256 ∷ 512 ∷ 1024 ∷ 2048 ∷ 4096 ∷ 8192 ∷ 16384 ∷ 32768 ∷ []

pub legal_small : (n : ℕ) → store_length_ok n ≡ true → n ≤ 32768
unfolding store_length_ok one_of lengths every
legal_small n f = leb-true n 32768 (member (λ k. leb k 32768) n lengths f refl)

pub record Fit (G : Geometry) (n : ℕ) : Type 0 where
  pub lpos : 0 < G.lines
  pub wpos : 0 < G.words
  pub tpos : 0 < burst G
  pub npos : 0 < n
  pub fits : (a : ℕ) → a < n → block_of G a * G.words + G.words ≤ n

pub fit : (G : Geometry) (n : ℕ) → geometry_ok G ≡ true → store_length_ok n ≡ true → Fit G n
unfolding geometry_ok store_length_ok one_of lengths every burst block_of
fit G n g f = all3 (one_of G.lines line_counts) (one_of G.words word_counts) (leb G.waits 15) (λ l w _. record {
  lpos = ltb-true 0 G.lines (member (ltb 0) G.lines line_counts l refl);
  wpos = wpos w;
  tpos = omega (arith, wpos w);
  npos = ltb-true 0 n (member (ltb 0) n lengths f refl);
  fits = fits w;
}) g
  where
    wpos : one_of G.words word_counts ≡ true → 0 < G.words
    wpos w = ltb-true 0 G.words (member (ltb 0) G.words word_counts w refl)

    fits : one_of G.words word_counts ≡ true → (a : ℕ) → a < n → a / G.words * G.words + G.words ≤ n
    fits w a h =
        let whole : n % G.words ≡ 0 = eqb-true (n % G.words) 0 (member (λ k. eqb (n % k) 0) G.words word_counts w
        (member (λ m. every (λ k. eqb (m % k) 0) word_counts) n lengths f refl)) in
        let n-is : n / G.words * G.words ≡ n = (let z = div-add-mod' n G.words in omega arith) in
        let small : a / G.words < n / G.words = (div-lt_iff_lt-mul (wpos w)).1 (rw n-is h) in
        let times : suc (a / G.words) * G.words ≤ n / G.words * G.words = mul-le-mul_right G.words small in
        omega arith

-- the word, block and line that a word accesses are within bounds
pub target_in : (w : ℕ) (v : Visible) (n : ℕ) → 0 < n → target w v n < n
unfolding target place_of_word memory_index
target_in w v n h = go (ltb (address_of w v) 0xFFC0)
  where
    go : (t : Bool) → memory_index (cond t (Memory (address_of w v % n)) (Device (address_of w v - 0xFFC0))) < n
    go true = mod-lt (address_of w v) h
    go false = h

module _ (G : Geometry) where
  pub block_in : (w : ℕ) (v : Visible) (n : ℕ) → Fit G n → target_block G w v n * G.words + G.words ≤ n
  unfolding target_block
  block_in w v n f = f.fits (target w v n) (target_in w v n f.npos)

  pub any-line_in : 0 < G.lines → (b : ℕ) → line_of G b < G.lines
  unfolding line_of
  any-line_in h b = mod-lt b h

  pub line_in_lem : (w : ℕ) (v : Visible) (n : ℕ) → 0 < G.lines → target_line G w v n < G.lines
  unfolding target_line
  line_in_lem w v n h = any-line_in h (target_block G w v n)
