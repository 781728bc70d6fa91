-- Clocks of a word in flight that do not execute it: they have no row, and the word stays in flight.
-- Idea: they are a run of that many clocks with equal inputs, none of which executes a word.
use Prim.Native.Nat.{ℕ, zero, suc, ◌+◌, ◌-◌, ◌≤◌}
use mathlib.Core.Path.{◌≡◌, refl, sym, ap, ◌∙◌, subst}
use mathlib.Core.Logic.{◌≢◌}
use mathlib.Core.Bool.{true, false, cond}
use mathlib.Core.List.{List, [], ◌∷◌, ◌++◌, append_assoc}
use native.Mathlib.Omega.{arith}
use native.Mathlib.Nat.{le_of_suc-le-suc}
use lib.ListN.{length, take, replicate, length-replicate}
use lib.Dec.{eqb}
use borrow.Author.Tests.{eq-eqb, ne_eqb, le-leb}
use Rattle.trm_laws.proofs.Tests.{◌&t◌}
use Rattle.trm_reference.specs.Geometry.{paper_geometry}
use Rattle.trm_reference.specs.Visible.{word_at}
use Rattle.trm_reference.specs.Interrupt.{stalled, interrupt_chosen}
use Rattle.trm_reference.specs.Trace.{Pins, pins_of, clocks, end_of, outs_of, finished_in}
use Rattle.trm_cache.specs.declared.record.Cache.{Cache}
use Rattle.trm_core.specs.Record.{Lent, whole}
use Rattle.trm_core.specs.Clock.{clock_of}
use Rattle.trm_core.specs.Refusals.{all_at_most}
use Rattle.trm_core.proofs.Laws.Rows.{legal_of}
use Rattle.trm_clock_laws.specs.Good.{Good}
use Rattle.trm_clock_laws.proofs.Laws.Facts.{good-at}
use Rattle.trm_run_phases.specs.Reached.{Point, hist, Feed, Reached, Under, Quietly}
use Rattle.trm_run_phases.proofs.Laws.Reached.{reached-none}
use Rattle.trm_list_rows.specs.declared.inner.listed.Listed.{Listed}
use Rattle.trm_list_rows.specs.Rows.{interrupt_at}
use Rattle.trm_list_rows.specs.Onward.{text_from, lent_of, Able, Onward}
use Rattle.trm_list_rows.proofs.Laws.Flight.{stays}
use Rattle.trm_list_rows.proofs.Laws.Text.{text-went}
use Rattle.trm_list_rows.proofs.Laws.Onward.{passed_able}

-- the test for an interrupt
pub none-in_flight : (x : Lent) (i : Pins) → x.machine.scalars.running.phase ≢ 0 → interrupt_at x i ≡ 0
unfolding interrupt_at
none-in_flight x i z = rw (ne_eqb x.machine.scalars.running.phase 0 z)

pub taken-idle : (x : Lent) (i : Pins) (to : ℕ) → x.machine.scalars.running.phase ≡ 0
    → to ≡ interrupt_chosen x.machine.scalars.status i.line_byte → interrupt_at x i ≡ to
unfolding interrupt_at
taken-idle x i to z e = rw (eq-eqb x.machine.scalars.running.phase 0 z) (sym e)

-- lists of equal inputs
pins-same : (m a b : ℕ) → pins_of (replicate m a) (replicate m b) ≡ replicate m (record { line_byte = a; input = b })
unfolding pins_of
pins-same zero a b = refl
pins-same (suc m) a b = ap (λ ps. record { line_byte = a; input = b } ∷ ps) (pins-same m a b)

take_same : {A : Type 0} (k m : ℕ) (y : A) → k ≤ m → take k (replicate m y) ≡ replicate k y
take_same zero m y h = refl
take_same (suc k) zero y h = absurd (omega arith)
take_same (suc k) (suc m) y h = ap (λ t. y ∷ t) (take_same k m y (le_of_suc-le-suc h))

pub line_bytes_same : (m line_byte : ℕ) → m ≤ 64 → take m (replicate 64 line_byte) ≡ replicate m line_byte
line_bytes_same m line_byte h = take_same m 64 line_byte h

split-same : {A : Type 0} (k m : ℕ) (y : A) → replicate (k + m) y ≡ replicate k y ++ replicate m y
split-same zero m y =
    let e : 0 + m ≡ m = omega arith in
    ap (λ n. replicate n y) e
split-same (suc k) m y =
    let e : suc k + m ≡ suc (k + m) = omega arith in
    ap (λ n. replicate n y) e ∙ ap (λ t. y ∷ t) (split-same k m y)

low_same : (m line_byte : ℕ) → line_byte ≤ 7 → all_at_most 7 (replicate m line_byte) ≡ true
unfolding all_at_most
low_same zero line_byte h = refl
low_same (suc m) line_byte h = le-leb line_byte 7 h &t low_same m line_byte h

no_row : (d : ℕ) (A : List ℕ) (T : ℕ → List ℕ) (t : ℕ) → d ≡ 0 → cond (eqb d 1) A [] ++ T (cond (eqb d 1) 0 t) ≡ T t
no_row d A T t q = rw q

module _ (p : List ℕ) (i : Pins) where
  abbrev gone : ℕ → Lent → Lent
  gone k x = end_of x (clocks (clock_of paper_geometry p) x (replicate k i))

  gone-text : stalled i.line_byte ≡ false → (k : ℕ) (x : Lent) (took : ℕ) (is : List Pins) → x.machine.scalars.running.phase ≢ 0
      → finished_in (outs_of (clocks (clock_of paper_geometry p) x (replicate k i))) ≡ 0
      → text_from p x took (replicate k i ++ is) ≡ text_from p (gone k x) (took + k) is
  unfolding clocks end_of outs_of finished_in
  gone-text f zero x took is z d =
      let e : took ≡ took + 0 = omega arith in
      ap (λ t. text_from p x t is) e
  gone-text f (suc k) x took is z d =
      let d0 : (clock_of paper_geometry p x i).out.done ≡ 0 = omega (arith, d) in
      let more : finished_in (outs_of (clocks (clock_of paper_geometry p) (clock_of paper_geometry p x i).state (replicate k i))) ≡ 0 =
      omega (arith, d) in
      let e : took + 1 + k ≡ took + suc k = omega arith in
      let after = (clock_of paper_geometry p x i).state in
      text-went p x i took (replicate k i ++ is) f (none-in_flight x i z)
      ∙ no_row (clock_of paper_geometry p x i).out.done _ (λ n. text_from p after n (replicate k i ++ is)) (took + 1) d0
      ∙ gone-text f k after (took + 1) is (stays p x i f z d0) more
      ∙ ap (λ n. text_from p (gone k after) n is) e

  module _ (l : Listed) (rs : List ℕ) (ca : Cache) (s b : List ℕ) (a : Able p (lent_of l rs ca s) l.took l.left i) where
    abbrev x : Lent
    x = lent_of l rs ca s

    pub good_able : (w : ℕ) → w ≡ word_at p l.scalars.pc → Good w (length s) l.scalars rs ca
    good_able w e = subst (λ y. Good y (length s) l.scalars rs ca) (sym e)
        (good-at p (length s) l.scalars rs ca (legal_of (whole l.scalars rs ca) s a.store) a.rule)

    -- m clocks with these inputs
    module _ (m : ℕ) (le : m ≤ l.left) (few : m ≤ 64) where
      feed : Feed (replicate m i.line_byte) (replicate m i.input) x
      feed =
          let n = length-replicate m i.line_byte in
          let k = length-replicate m i.input in
          record {
            fed = n ∙ sym k;
            many = omega (arith, n, few);
            low = low_same m i.line_byte a.low;
            room = omega (arith, n, le, a.room);
          }

      start : Reached p (replicate m i.line_byte) (replicate m i.input) x (record { lent = x; finished = 0; at = 0 })
          (replicate (length (replicate m i.line_byte)) 0) (replicate (length (replicate m i.line_byte)) 0)
      start = reached-none p (replicate m i.line_byte) (replicate m i.input) x feed (passed_able p i a) a.shaped

      -- the line bytes that the code lends
      module _ (ls : List ℕ) (same : ls ≡ replicate m i.line_byte) where
        begun : Reached p ls (replicate m i.input) x (record { lent = x; finished = 0; at = 0 })
            (replicate (length (replicate m i.line_byte)) 0) (replicate (length (replicate m i.line_byte)) 0)
        begun = subst (λ t. Reached p t (replicate m i.input) x (record { lent = x; finished = 0; at = 0 })
            (replicate (length (replicate m i.line_byte)) 0) (replicate (length (replicate m i.line_byte)) 0)) (sym same) start

        pub under_able : (w : ℕ) → w ≡ word_at p l.scalars.pc → Under ls w (record { lent = x; finished = 0; at = 0 })
        under_able w e = record {
          program = p;
          inputs = replicate m i.input;
          bytes = replicate (length (replicate m i.line_byte)) 0;
          words = replicate (length (replicate m i.line_byte)) 0;
          from = x;
          word = e;
          so = begun;
        }

        module _ (f : stalled i.line_byte ≡ false) (z : l.scalars.running.phase ≢ 0) (w : ℕ)
            (at : w ≡ word_at p l.scalars.pc) (q : Point)
            (quietly : Quietly ls w (record { lent = x; finished = 0; at = 0 }) q) (none : q.finished ≡ 0) where
          r : Reached p (replicate m i.line_byte) (replicate m i.input) x q (replicate (length (replicate m i.line_byte)) 0)
              (replicate (length (replicate m i.line_byte)) 0)
          r = subst (λ t. Reached p t (replicate m i.input) x q (replicate (length (replicate m i.line_byte)) 0)
              (replicate (length (replicate m i.line_byte)) 0)) same (quietly p _ _ _ x at begun)

          pub gone-below : q.at ≤ m
          gone-below = omega (arith, r.below, length-replicate m i.line_byte)

          -- the inputs of these clocks
          taken : take q.at (pins_of (replicate m i.line_byte) (replicate m i.input)) ≡ replicate q.at i
          taken = ap (take q.at) (pins-same m i.line_byte i.input) ∙ take_same q.at m i gone-below

          state : q.lent ≡ gone q.at x
          unfolding hist
          state = r.state ∙ ap (λ ps. end_of x (clocks (clock_of paper_geometry p) x ps)) taken

          silent-so_far : finished_in (outs_of (clocks (clock_of paper_geometry p) x (replicate q.at i))) ≡ 0
          unfolding hist
          silent-so_far = ap (λ ps. finished_in (outs_of (clocks (clock_of paper_geometry p) x ps))) (sym taken) ∙ sym r.done ∙ none

          all : q.at + (l.left - q.at) ≡ l.left
          all = omega (arith, gone-below, le)

          pub onward-gone : l.len ≤ length b → Onward p i l x b
              (record { scalars = q.lent.machine.scalars; left = l.left - q.at; took = l.took + q.at; len = l.len }) q.lent b
          onward-gone fits = record {
            able = record {
              program = r.program;
              store = r.store;
              rule = r.rule;
              shaped = r.shaped;
              room = omega (arith, r.count, a.room, all);
              few = omega (arith, r.count, a.few);
              low = a.low;
            };
            text = λ is. ap (λ t. take l.len b ++ t)
                (ap (λ y. text_from p y (l.took + q.at) (replicate (l.left - q.at) i ++ is)) state
                ∙ sym (gone-text f q.at x l.took (replicate (l.left - q.at) i ++ is) z silent-so_far)
                ∙ ap (text_from p x l.took) (sym (append_assoc (replicate q.at i) (replicate (l.left - q.at) i) is)
                ∙ ap (λ ps. ps ++ is) (sym (split-same q.at (l.left - q.at) i) ∙ ap (λ k. replicate k i) all)));
            long = refl;
            fits = fits;
            fewer = omega arith;
            pace = omega (arith, r.count, all);
            stored = r.long;
          }

-- row 5 for the record after these clocks
pub good-onward : (p : List ℕ) (i : Pins) (l l' : Listed) (x : Lent) (b : List ℕ) (rs : List ℕ) (ca : Cache) (s b' : List ℕ)
    → Onward p i l x b l' (lent_of l' rs ca s) b' → (w : ℕ) → w ≡ word_at p l'.scalars.pc → Good w (length s) l'.scalars rs ca
good-onward p i l l' x b rs ca s b' o w e = good_able p i l' rs ca s b' o.able w e
