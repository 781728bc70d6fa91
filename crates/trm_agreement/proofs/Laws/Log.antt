-- Laws of a log, for any machine: its clocks, answers and returns, what is seen last, and that a list of calls is a list of clocks.
-- Idea: each call gives its clocks and then its end; the clocks of two lists of inputs, one after the other, are those of the joined list.
--   entries-append, entries-take, entries-answers, entries-last, entries-returns    the entries of a list of clocks
--   calls-state, calls-clocked, calls-answers, calls_last                           the entries of a list of calls
use Prim.Native.Nat.{ℕ, zero, suc}
use mathlib.Core.Path.{◌≡◌, refl, sym, ap, ◌∙◌}
use mathlib.Core.Bool.{Bool, true, false, cond}
use mathlib.Core.List.{List, [], ◌∷◌, ◌++◌}
use lib.ListN.{take}
use lib.Dec.{eqb}
use Rattle.trm_reference.specs.Trace.{After, clocks, end_of, outs_of}
use Rattle.trm_reference.proofs.Laws.Trace.{clocks-append, end_of-append}
use Rattle.trm_agreement.specs.Log.{Engine, Entry, started, clocked, ended, clocks_of, entries, calls, fed_of, state_of}
use Rattle.trm_agreement.specs.Log.{answers_in, clocked_in, returns_in, last_seen}

-- the clocks of two lists of inputs, one after the other
end-append : {S I O : Type 0} (step : S → I → After S O) (x : S) (is js : List I)
    → end_of x (clocks step x (is ++ js)) ≡ end_of (end_of x (clocks step x is)) (clocks step (end_of x (clocks step x is)) js)
end-append step x is js =
    ap (end_of x) (clocks-append step x is js)
    ∙ end_of-append x (clocks step x is) (clocks step (end_of x (clocks step x is)) js)

-- the first k clocks
pub clocks-take : {S I O : Type 0} (step : S → I → After S O) (k : ℕ) (x : S) (is : List I)
    → take k (clocks step x is) ≡ clocks step x (take k is)
unfolding clocks
clocks-take step zero x is = refl
clocks-take step (suc k) x [] = refl
clocks-take step (suc k) x (i ∷ is) = ap (λ ts. step x i ∷ ts) (clocks-take step k (step x i).state is)

-- answers are those of the clocks alone
answers-clocked : {I O W A : Type 0} (es : List (Entry I O W A)) → answers_in es ≡ answers_in (clocked_in es)
unfolding answers_in clocked_in
answers-clocked [] = refl
answers-clocked (started w ∷ es) = answers-clocked es
answers-clocked (clocked i w o ∷ es) = ap (λ os. o ∷ os) (answers-clocked es)
answers-clocked (ended w a ∷ es) = answers-clocked es

-- what is seen last in a log that continues after the end of a call
pub last-ended : {I O W A : Type 0} (w v : W) (a : A) (ds es : List (Entry I O W A)) → last_seen w (ds ++ ended v a ∷ es) ≡ last_seen v es
unfolding last_seen
last-ended w v a [] es = refl
last-ended w v a (started x ∷ ds) es = last-ended x v a ds es
last-ended w v a (clocked i x o ∷ ds) es = last-ended x v a ds es
last-ended w v a (ended x b ∷ ds) es = last-ended x v a ds es

module _ {S I O W C A : Type 0} (feed : C → List I) (answer : ℕ → C → List O → A) (E : Engine S I O W C) where
  pub entries-append : (x : S) (is js : List I)
      → entries feed answer E (clocks E.step x is) is
      ++ entries feed answer E (clocks E.step (end_of x (clocks E.step x is)) js) js
      ≡ entries feed answer E (clocks E.step x (is ++ js)) (is ++ js)
  unfolding entries clocks end_of
  entries-append x [] js = refl
  entries-append x (i ∷ is) js = ap (λ es. clocked i (E.seen (E.step x i).state) (E.step x i).out ∷ es)
      (entries-append (E.step x i).state is js)

  pub entries-take : (k : ℕ) (x : S) (is : List I)
      → take k (entries feed answer E (clocks E.step x is) is) ≡ entries feed answer E (clocks E.step x (take k is)) (take k is)
  unfolding entries clocks
  entries-take zero x is = refl
  entries-take (suc k) x [] = refl
  entries-take (suc k) x (i ∷ is) = ap (λ es. clocked i (E.seen (E.step x i).state) (E.step x i).out ∷ es)
      (entries-take k (E.step x i).state is)

  pub entries-answers : (x : S) (is : List I)
      → answers_in (entries feed answer E (clocks E.step x is) is) ≡ outs_of (clocks E.step x is)
  unfolding entries clocks answers_in outs_of
  entries-answers x [] = refl
  entries-answers x (i ∷ is) = ap (λ os. (E.step x i).out ∷ os) (entries-answers (E.step x i).state is)

  pub entries-last : (x : S) (is : List I)
      → last_seen (E.seen x) (entries feed answer E (clocks E.step x is) is) ≡ E.seen (end_of x (clocks E.step x is))
  unfolding entries clocks last_seen end_of
  entries-last x [] = refl
  entries-last x (i ∷ is) = entries-last (E.step x i).state is

  -- clocks return nothing
  pub entries-returns : (ts : List (After S O)) (is : List I) (es : List (Entry I O W A))
      → returns_in (entries feed answer E ts is ++ es) ≡ returns_in es
  unfolding entries returns_in
  entries-returns [] is es = refl
  entries-returns (t ∷ ts) [] es = refl
  entries-returns (t ∷ ts) (i ∷ is) es = entries-returns ts is es

  -- the clocks of a call's entries, and then of the rest
  entries-clocked : (ts : List (After S O)) (is : List I) (es : List (Entry I O W A))
      → clocked_in (entries feed answer E ts is ++ es) ≡ entries feed answer E ts is ++ clocked_in es
  unfolding entries clocked_in
  entries-clocked [] is es = refl
  entries-clocked (t ∷ ts) [] es = refl
  entries-clocked (t ∷ ts) (i ∷ is) es = ap (λ xs. clocked i (E.seen t.state) t.out ∷ xs) (entries-clocked ts is es)

  pub calls-state : (x : S) (cs : List C)
      → state_of feed answer E x cs ≡ end_of x (clocks E.step x (fed_of feed answer E x cs))
  unfolding state_of fed_of clocks end_of clocks_of
  calls-state x [] = refl
  calls-state x (c ∷ cs) =
      calls-state (after (eqb (E.code x c) 0)) cs
      ∙ ap (λ y. end_of y (clocks E.step y rest)) (sym (here (eqb (E.code x c) 0)))
      ∙ sym (end-append E.step x (cond (eqb (E.code x c) 0) (feed c) []) rest)
    where
      after : Bool → S
      after t = end_of x (cond t (clocks E.step x (feed c)) [])

      rest : List I
      rest = fed_of feed answer E (after (eqb (E.code x c) 0)) cs

      here : (t : Bool) → end_of x (clocks E.step x (cond t (feed c) [])) ≡ after t
      here true = refl
      here false = refl

  pub calls-clocked : (x : S) (cs : List C)
      → clocked_in (calls feed answer E x cs)
      ≡ entries feed answer E (clocks E.step x (fed_of feed answer E x cs)) (fed_of feed answer E x cs)
  unfolding calls fed_of clocks end_of clocks_of entries clocked_in
  calls-clocked x [] = refl
  calls-clocked x (c ∷ cs) =
      entries-clocked (done (eqb (E.code x c) 0)) (feed c) _
      ∙ ap (λ xs. entries feed answer E (done (eqb (E.code x c) 0)) (feed c) ++ xs)
      (calls-clocked (end_of x (done (eqb (E.code x c) 0))) cs)
      ∙ here (eqb (E.code x c) 0) (fed_of feed answer E (end_of x (done (eqb (E.code x c) 0))) cs)
    where
      done : Bool → List (After S O)
      done t = cond t (clocks E.step x (feed c)) []

      here : (t : Bool) (rest : List I)
          → entries feed answer E (done t) (feed c) ++ entries feed answer E (clocks E.step (end_of x (done t)) rest) rest
          ≡ entries feed answer E (clocks E.step x (cond t (feed c) [] ++ rest)) (cond t (feed c) [] ++ rest)
      here true rest = entries-append x (feed c) rest
      here false rest = refl

  pub calls-answers : (x : S) (cs : List C)
      → answers_in (calls feed answer E x cs) ≡ outs_of (clocks E.step x (fed_of feed answer E x cs))
  calls-answers x cs =
      answers-clocked (calls feed answer E x cs)
      ∙ ap answers_in (calls-clocked x cs)
      ∙ entries-answers x (fed_of feed answer E x cs)

  -- what is seen last is the last state
  pub calls_last : (x : S) (cs : List C) → last_seen (E.seen x) (calls feed answer E x cs) ≡ E.seen (state_of feed answer E x cs)
  unfolding calls state_of last_seen
  calls_last x [] = refl
  calls_last x (c ∷ cs) =
      last-ended (E.seen x) _ _ (entries feed answer E (clocks_of feed answer E x c) (feed c)) _
      ∙ calls_last (end_of x (clocks_of feed answer E x c)) cs
