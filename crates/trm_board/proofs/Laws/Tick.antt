-- The tick after any clocks.
-- Idea: one more clock either comes to a multiple, or its count's remainder is one more; by induction, the latest clock first.
use Prim.Native.Nat.{ℕ, suc, ◌+◌, ◌*◌, ◌/◌, ◌%◌, ◌≤◌, ◌<◌}
use mathlib.Core.Path.{◌≡◌, refl, sym, ap, ap₂, ◌∙◌}
use mathlib.Core.Logic.{◌≢◌}
use mathlib.Core.Bool.{Bool, true, false, cond, not, ◌&&◌}
use mathlib.Core.List.{List, [], ◌∷◌}
use lib.ListN.{length, take}
use lib.Dec.{eqb, leb}
use borrow.Author.Tests.{eqb-true, eqb-false, le-leb, lt-leb}
use native.Mathlib.Omega.{arith}
use native.Mathlib.Nat.{div-add-mod, mod-lt, mod-eq_of_lt, mul-add-mod_self_left, mod_self}
use native.Mathlib.Decide.{dec_le}
use Rattle.trm_serial.specs.Timing.{Timing, Fits}
use Rattle.trm_board.specs.Board.{Devices, tick_after}
use Rattle.trm_board.specs.Turns.{Turn, byte_of, bytes_back}
use Rattle.trm_board.specs.Course.{devices_after, Follows, no_clear, tick_by}

-- a remainder that is not 0 is one more than that before it
remainder : (n m : ℕ) → 1 ≤ m → (n + 1) % m ≢ 0 → (n + 1) % m ≡ suc (n % m)
remainder n m one z = go (dec_le (n % m + 2) m)
  where
    d : m * (n / m) + n % m ≡ n
    d = div-add-mod n m

    go : Dec (n % m + 2 ≤ m) → (n + 1) % m ≡ suc (n % m)
    go (yes l) =
        let k : n + 1 ≡ m * (n / m) + (n % m + 1) = omega (arith, d) in
        let e : (m * (n / m) + (n % m + 1)) % m ≡ (n % m + 1) % m = mul-add-mod_self_left m (n / m) (n % m + 1) in
        let f : (n % m + 1) % m ≡ n % m + 1 = mod-eq_of_lt (omega arith) in
        ap (λ x. x % m) k ∙ e ∙ f ∙ omega arith
    go (no g) =
        let l : n % m < m = mod-lt n (omega arith) in
        let k : n + 1 ≡ m * (n / m + 1) + 0 = omega (arith, d, g) in
        let e : (m * (n / m + 1) + 0) % m ≡ 0 % m = mul-add-mod_self_left m (n / m + 1) 0 in
        let f : 0 % m ≡ 0 = mod-eq_of_lt (omega arith) in
        absurd (z (ap (λ x. x % m) k ∙ e ∙ f))

-- a multiple above 0 is the tick's period at least
multiple : (n m : ℕ) → 1 ≤ m → (n + 1) % m ≡ 0 → m ≤ n + 1
multiple n m one z = go (dec_le m (n + 1))
  where
    go : Dec (m ≤ n + 1) → m ≤ n + 1
    go (yes l) = l
    go (no g) = absurd (let f : (n + 1) % m ≡ n + 1 = mod-eq_of_lt (omega (arith, g)) in omega arith)

module _ (T : Timing) (fits : Fits T) where
  tick-more : (byte : ℕ) (bs : List ℕ) → tick_after T (length bs + 1) byte (tick_by T bs) ≡ tick_by T (byte ∷ bs)
  unfolding tick_after tick_by no_clear
  tick-more byte bs = go (eqb ((length bs + 1) % T.tick) 0) refl
    where
      n : ℕ
      n = length bs

      more : suc n ≡ n + 1
      more = omega arith

      same-reach : (n + 1) % T.tick ≢ 0 → leb T.tick (suc n) ≡ leb T.tick n
      same-reach z = at (dec_le T.tick n)
        where
          at : Dec (T.tick ≤ n) → leb T.tick (suc n) ≡ leb T.tick n
          at (yes l) = le-leb T.tick (suc n) (omega arith) ∙ sym (le-leb T.tick n l)
          at (no g) = lt-leb T.tick (suc n) (omega (arith, g, other)) ∙ sym (lt-leb T.tick n (omega (arith, g)))
            where
              other : T.tick ≢ n + 1
              other e = z (ap (λ x. x % T.tick) (sym e) ∙ mod_self T.tick)

      settled : (c r x : Bool) → ◌≡◌ {A = ℕ} (cond c 0 (cond (r && x) 1 0)) (cond (r && (not c && x)) 1 0)
      settled true true x = refl
      settled true false x = refl
      settled false r x = refl

      go : (t : Bool) → eqb ((n + 1) % T.tick) 0 ≡ t
          → ◌≡◌ {A = ℕ} (cond t 1 (cond (eqb byte 26) 0 (cond (leb T.tick n && no_clear (take (n % T.tick) bs)) 1 0)))
          (cond (leb T.tick (suc n) && no_clear (take (suc n % T.tick) (byte ∷ bs))) 1 0)
      go true e =
          let z = eqb-true ((n + 1) % T.tick) 0 e in
          rw (ap (λ x. x % T.tick) more ∙ z, le-leb T.tick (suc n) (let l = multiple n T.tick fits.ticks z in omega arith))
      go false e =
          let z = eqb-false ((n + 1) % T.tick) 0 e in
          rw (ap (λ x. x % T.tick) more ∙ remainder n T.tick fits.ticks z, same-reach z)
          (settled (eqb byte 26) (leb T.tick n) (no_clear (take (n % T.tick) bs)))

  pub tick-follows : (n : ℕ) (d : Devices) (ts : List Turn) (e : Devices) (bs : List ℕ) → Follows T n d ts e → n ≡ length bs
      → d.tick ≡ tick_by T bs → e.tick ≡ tick_by T (bytes_back ts bs)
  unfolding Follows bytes_back
  tick-follows n d [] e bs h l z = ap (λ x. x.tick) (sym h) ∙ z
  tick-follows n d (t ∷ ts) e bs h l z = tick-follows (n + 1) (devices_after T n t) ts e (byte_of t ∷ bs) h.2 (omega (arith, l))
      (ap₂ (λ (k : ℕ) (x : ℕ). tick_after T (k + 1) (byte_of t) x) l (ap (λ (x : Devices). x.tick) h.0 ∙ z) ∙ tick-more (byte_of t) bs)
