-- Two machines in step give the same log: the induction over a list of calls, once for any two machines.
-- Idea: a relation that every clock keeps and under which what is seen and the refusal numbers agree; R n has room for n more clocks, and
-- a call that is not refused has room for its own. What a clock may be given (`Fine`) holds of all that a call gives.
use Prim.Native.Nat.{ℕ, suc}
use mathlib.Core.Path.{◌≡◌, refl, ap, ap₂}
use mathlib.Core.Bool.{Bool, true, false, cond}
use mathlib.Core.List.{List, [], ◌∷◌, ◌++◌}
use lib.ListN.{length}
use lib.Dec.{eqb}
use borrow.Author.Tests.{eqb-true}
use Rattle.trm_reference.specs.Trace.{After, clocks, end_of, outs_of}
use Rattle.trm_agreement.specs.Log.{Engine, started, ended, clocks_of, entries, calls, log_of}
use Rattle.trm_agreement.specs.Demand.{All}

-- two clocks that agree
pub record Together {S S' O : Type 0} (R : S → S' → Type 0) (t : After S O) (u : After S' O) : Type 0 where
  pub state : R t.state u.state
  pub out : t.out ≡ u.out

module _ {S S' I O W C A : Type 0} (feed : C → List I) (answer : ℕ → C → List O → A)
    (E : Engine S I O W C) (E' : Engine S' I O W C) (R : ℕ → S → S' → Type 0) (Fine : I → Type 0)
    (fine : (c : C) → All Fine (feed c))
    (step : (n : ℕ) (x : S) (y : S') (i : I) → Fine i → R (suc n) x y → Together (R n) (E.step x i) (E'.step y i))
    (seen : (n : ℕ) (x : S) (y : S') → R n x y → E.seen x ≡ E'.seen y)
    (code : (x : S) (y : S') (c : C) → R 0 x y → E.code x c ≡ E'.code y c)
    (room : (x : S) (y : S') (c : C) → R 0 x y → E'.code y c ≡ 0 → R (length (feed c)) x y) where
  -- two lists of clocks that agree
  record Alike (x : S) (y : S') (ts : List (After S O)) (us : List (After S' O)) : Type 0 where
    state : R 0 (end_of x ts) (end_of y us)
    log : (is : List I) → entries feed answer E ts is ≡ entries feed answer E' us is
    outs : outs_of ts ≡ outs_of us

  none : (x : S) (y : S') → R 0 x y → Alike x y [] []
  unfolding end_of outs_of entries
  none x y r = record { state = r; log = λ is. refl; outs = refl }

  more : (n : ℕ) (x : S) (y : S') (t : After S O) (u : After S' O) (ts : List (After S O)) (us : List (After S' O)) → Together (R n) t u
      → Alike t.state u.state ts us → Alike x y (t ∷ ts) (u ∷ us)
  unfolding end_of outs_of entries
  more n x y t u ts us g a = record {
    state = a.state;
    log = log;
    outs = ap₂ ◌∷◌ g.out a.outs;
  }
    where
      log : (is : List I) → entries feed answer E (t ∷ ts) is ≡ entries feed answer E' (u ∷ us) is
      log [] = refl
      log (i ∷ is) = ap₂ ◌∷◌ (rw (seen n t.state u.state g.state, g.out)) (a.log is)

  clocks-alike : (x : S) (y : S') (is : List I) → All Fine is → R (length is) x y
      → Alike x y (clocks E.step x is) (clocks E'.step y is)
  unfolding clocks All
  clocks-alike x y [] f r = none x y r
  clocks-alike x y (i ∷ is) f r = more (length is) x y _ _ _ _ (step (length is) x y i f.0 r)
      (clocks-alike (E.step x i).state (E'.step y i).state is f.1 (step (length is) x y i f.0 r).state)

  call-alike : (x : S) (y : S') (c : C) → R 0 x y → Alike x y (clocks_of feed answer E x c) (clocks_of feed answer E' y c)
  unfolding clocks_of
  call-alike x y c r = rw (code x y c r) (go (eqb (E'.code y c) 0) refl)
    where
      go : (b : Bool) → eqb (E'.code y c) 0 ≡ b
          → Alike x y (cond b (clocks E.step x (feed c)) []) (cond b (clocks E'.step y (feed c)) [])
      go true e = clocks-alike x y (feed c) (fine c) (room x y c r (eqb-true (E'.code y c) 0 e))
      go false e = none x y r

  calls-alike : (x : S) (y : S') (cs : List C) → R 0 x y → calls feed answer E x cs ≡ calls feed answer E' y cs
  unfolding calls
  calls-alike x y [] r = refl
  calls-alike x y (c ∷ cs) r = ap₂ ◌++◌ ((call-alike x y c r).log (feed c))
      (ap₂ ◌∷◌ (ap₂ ended (seen 0 _ _ (call-alike x y c r).state) (rw (code x y c r, (call-alike x y c r).outs)))
      (calls-alike (end_of x (clocks_of feed answer E x c)) (end_of y (clocks_of feed answer E' y c)) cs (call-alike x y c r).state))

  pub log-alike : (x : S) (y : S') (cs : List C) → R 0 x y → log_of feed answer E x cs ≡ log_of feed answer E' y cs
  unfolding log_of
  log-alike x y cs r = ap₂ ◌∷◌ (ap started (seen 0 x y r)) (calls-alike x y cs r)
