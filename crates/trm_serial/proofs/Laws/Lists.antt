-- Lists that pass through a register: what is in it and what comes, is what goes and what stays in it.
-- Idea: one clock's equation and that of the rest give the whole's, by the laws of `++`.
use mathlib.Core.Path.{◌≡◌, refl, sym, ap, ◌∙◌}
use mathlib.Core.Bool.{Bool, true, false, ◌&&◌}
use mathlib.Core.List.{List, [], ◌∷◌, ◌++◌, append-nil, append_assoc}
use Prim.Native.Nat.{ℕ}
use Rattle.trm_serial.specs.Timing.{Timing}
use Rattle.trm_serial.specs.Serial.{Serial, serial_clock}
use Rattle.trm_serial.specs.Moments.{Moment, Given, moment, heard, heard_end, each}
use Rattle.trm_serial.specs.Moments.{Fate, handed, replaced, bytes_of, handed_in, replaced_in, none}

passes : (held comes goes next more gone last : List ℕ) → held ++ comes ≡ goes ++ next → next ++ more ≡ gone ++ last
    → held ++ (comes ++ more) ≡ (goes ++ gone) ++ last
passes held comes goes next more gone last p q =
    sym (append_assoc held comes more) ∙ ap (λ l. l ++ more) p ∙ append_assoc goes next more ∙ ap (λ l. goes ++ l) q
    ∙ sym (append_assoc goes gone last)

-- f comes, g goes and h stands in the register, in every clock of the list
module _ (T : Timing) (f g : Moment → List ℕ) (h : Serial → List ℕ) where
  abbrev pub Passed : Serial → List Given → Type 0
  Passed s [] = Unit {0}
  Passed s (i ∷ is) =
      (h s ++ f (moment s i.line i.access) ≡ g (moment s i.line i.access) ++ h (serial_clock T i.line i.access s))
      × Passed (serial_clock T i.line i.access s) is

  pub passed : (s : Serial) (is : List Given) → Passed s is
      → h s ++ each f (heard T s is) ≡ each g (heard T s is) ++ h (heard_end T s is)
  unfolding each heard heard_end
  passed s [] p = append-nil (h s)
  passed s (i ∷ is) p =
      passes (h s) (f (moment s i.line i.access)) (g (moment s i.line i.access))
      (h (serial_clock T i.line i.access s))
      (each f (heard T (serial_clock T i.line i.access s) is))
      (each g (heard T (serial_clock T i.line i.access s) is))
      (h (heard_end T (serial_clock T i.line i.access s) is))
      p.0
      (passed (serial_clock T i.line i.access s) is p.1)

pub bytes-append : (fs gs : List Fate) → bytes_of (fs ++ gs) ≡ bytes_of fs ++ bytes_of gs
unfolding bytes_of
bytes-append [] gs = refl
bytes-append (handed b ∷ fs) gs = ap (λ l. b ∷ l) (bytes-append fs gs)
bytes-append (replaced b ∷ fs) gs = ap (λ l. b ∷ l) (bytes-append fs gs)

pub bytes-each : (f : Moment → List Fate) (ms : List Moment) → each (λ m. bytes_of (f m)) ms ≡ bytes_of (each f ms)
unfolding each
bytes-each f [] = unfold bytes_of in refl
bytes-each f (m ∷ ms) = ap (λ l. bytes_of (f m) ++ l) (bytes-each f ms) ∙ sym (bytes-append (f m) (each f ms))

pub handed-append : (fs gs : List Fate) → handed_in (fs ++ gs) ≡ handed_in fs ++ handed_in gs
unfolding handed_in
handed-append [] gs = refl
handed-append (handed b ∷ fs) gs = ap (λ l. b ∷ l) (handed-append fs gs)
handed-append (replaced b ∷ fs) gs = handed-append fs gs

pub none-append : (fs gs : List Fate) → none (replaced_in (fs ++ gs)) ≡ none (replaced_in fs) && none (replaced_in gs)
unfolding replaced_in none
none-append [] gs = refl
none-append (handed b ∷ fs) gs = none-append fs gs
none-append (replaced b ∷ fs) gs = refl

-- nothing is replaced: all is handed
pub all-handed : (fs : List Fate) → none (replaced_in fs) ≡ true → bytes_of fs ≡ handed_in fs
unfolding bytes_of handed_in replaced_in none
all-handed [] e = refl
all-handed (handed b ∷ fs) e = ap (λ l. b ∷ l) (all-handed fs e)
all-handed (replaced b ∷ fs) e = absurd (mathlib.Core.Bool.false≢true e)
