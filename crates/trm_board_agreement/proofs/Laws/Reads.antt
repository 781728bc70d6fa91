-- Two inductions over a list of board calls, for either board: what is read from its log, and what its calls give to their clocks.
-- Idea: the end of a call shows what its last clock left, so a log read clock by clock is that of its clocks alone; a refused call gives
-- nothing.
--   read-calls    a log that is read clock by clock        fed-has    what the calls give
use mathlib.Core.Path.{◌≡◌, refl, sym, ap, ◌∙◌}
use mathlib.Core.Bool.{Bool, true, false, cond}
use mathlib.Core.List.{List, [], ◌∷◌, ◌++◌}
use lib.Dec.{eqb}
use Rattle.trm_reference.specs.Trace.{After, clocks, end_of, outs_of}
use Rattle.trm_board.specs.Board.{Inputs, Shown}
use Rattle.trm_agreement.specs.Log.{Engine, clocked, ended, clocks_of, entries, calls, fed_of}
use Rattle.trm_agreement.proofs.Laws.Log.{entries-append}
use Rattle.trm_board_agreement.specs.Calls.{BoardCall, feed, answer, BoardEnded, BoardSeen, BoardEntry}

module _ {S : Type 0} (E : Engine S Inputs Shown BoardSeen BoardCall) where
  -- the entries of these clocks
  abbrev shows : S → List Inputs → List BoardEntry
  shows x is = entries feed answer E (clocks E.step x is) is

  -- a reading takes something from each clock, given what was seen before it, and from the end of a call only what it shows
  module _ {A : Type 0} (read : BoardSeen → List BoardEntry → List A) (one : BoardSeen → Inputs → BoardSeen → Shown → A)
      (at-clock : (w : BoardSeen) (i : Inputs) (v : BoardSeen) (o : Shown) (es : List BoardEntry)
      → read w (clocked i v o ∷ es) ≡ one w i v o ∷ read v es)
      (at-end : (w v : BoardSeen) (a : BoardEnded) (es : List BoardEntry) → read w (ended v a ∷ es) ≡ read v es) where
    read-on : (is : List Inputs) (x : S) (ds es : List BoardEntry)
        → read (E.seen (end_of x (clocks E.step x is))) ds ≡ read (E.seen (end_of x (clocks E.step x is))) es
        → read (E.seen x) (shows x is ++ ds) ≡ read (E.seen x) (shows x is ++ es)
    unfolding entries clocks end_of
    read-on [] x ds es h = h
    read-on (i ∷ is) x ds es h = first ds ∙ ap (λ l. one (E.seen x) i (E.seen y) o ∷ l) (read-on is y ds es h) ∙ sym (first es)
      where
        y : S
        y = (E.step x i).state

        o : Shown
        o = (E.step x i).out

        first : (fs : List BoardEntry)
            → read (E.seen x) (clocked i (E.seen y) o ∷ (shows y is ++ fs))
            ≡ one (E.seen x) i (E.seen y) o ∷ read (E.seen y) (shows y is ++ fs)
        first fs = at-clock (E.seen x) i (E.seen y) o (shows y is ++ fs)

    pub read-calls : (x : S) (cs : List BoardCall)
        → read (E.seen x) (calls feed answer E x cs) ≡ read (E.seen x) (shows x (fed_of feed answer E x cs))
    unfolding calls fed_of clocks_of entries clocks end_of
    read-calls x [] = refl
    read-calls x (c ∷ cs) = go (eqb (E.code x c) 0) (λ y. read-calls y cs)
      where
        done : Bool → List (After S Shown)
        done t = cond t (clocks E.step x (feed c)) []

        go : (t : Bool)
            → ((y : S) → read (E.seen y) (calls feed answer E y cs) ≡ read (E.seen y) (shows y (fed_of feed answer E y cs)))
            → read (E.seen x) (entries feed answer E (done t) (feed c)
            ++ ended (E.seen (end_of x (done t))) (answer (E.code x c) c (outs_of (done t))) ∷ calls feed answer E (end_of x (done t)) cs)
            ≡ read (E.seen x) (shows x (cond t (feed c) [] ++ fed_of feed answer E (end_of x (done t)) cs))
        go true rest = read-on (feed c) x _ _ (at-end _ _ _ _ ∙ rest (end_of x (done true)))
            ∙ ap (read (E.seen x)) (entries-append feed answer E x (feed c) (fed_of feed answer E (end_of x (done true)) cs))
        go false rest = at-end _ _ _ _ ∙ rest x

  -- what holds of no calls, and is kept by a call that gives its clocks and by one that is refused
  pub fed-has : (Q : List BoardCall → List Inputs → Type 0) → Q [] []
      → ((c : BoardCall) (cs : List BoardCall) (is : List Inputs) → Q cs is → Q (c ∷ cs) (feed c ++ is))
      → ((c : BoardCall) (cs : List BoardCall) (is : List Inputs) → Q cs is → Q (c ∷ cs) is)
      → (x : S) (cs : List BoardCall) → Q cs (fed_of feed answer E x cs)
  unfolding fed_of
  fed-has Q none given refused x [] = none
  fed-has Q none given refused x (c ∷ cs) =
      go (eqb (E.code x c) 0) _ (fed-has Q none given refused (end_of x (clocks_of feed answer E x c)) cs)
    where
      go : (t : Bool) (is : List Inputs) → Q cs is → Q (c ∷ cs) (cond t (feed c) [] ++ is)
      go true is h = given c cs is h
      go false is h = refused c cs is h
