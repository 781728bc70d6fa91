-- A listing continued: by no clock, by two continuations in sequence, by one clock with its row.
-- Idea: the text in the buffer and the text still to be written are together always the same.
use Prim.Native.Nat.{ℕ, suc, ◌+◌, ◌-◌, ◌≤◌, ◌<◌}
use mathlib.Core.Path.{◌≡◌, refl, sym, ap, ◌∙◌}
use mathlib.Core.Logic.{◌≢◌}
use mathlib.Core.Bool.{true, false, cond}
use mathlib.Core.List.{List, [], ◌∷◌, ◌++◌, append_assoc}
use native.Mathlib.Omega.{arith}
use lib.ListN.{length, take, replicate}
use lib.Dec.{eqb}
use borrow.Author.Tests.{eqb-true}
use Rattle.trm_laws.proofs.Tests.{both, chosen}
use Rattle.trm_word.specs.Address.{store_length_ok}
use Rattle.trm_reference.specs.Geometry.{paper_geometry}
use Rattle.trm_reference.specs.Visible.{word_at}
use Rattle.trm_reference.specs.Access.{silent}
use Rattle.trm_reference.specs.Interrupt.{stalled}
use Rattle.trm_reference.specs.Trace.{Pins}
use Rattle.trm_cache.specs.declared.record.Cache.{Cache}
use Rattle.trm_core.specs.declared.record.Scalars.{Scalars}
use Rattle.trm_core.specs.Record.{Lent, whole}
use Rattle.trm_core.specs.Clock.{clock_of}
use Rattle.trm_core.specs.Claims.{Kept}
use Rattle.trm_core.specs.Refusals.{store_ok}
use Rattle.trm_core.proofs.Laws.Kept.{record_kept}
use Rattle.trm_core.proofs.Laws.Rows.{Passed}
use Rattle.trm_clock_laws.proofs.Laws.Facts.{paper_ok}
use Rattle.trm_clock_laws.specs.declared.inner.outcome.Clocked.{Clocked}
use Rattle.trm_clock_laws.specs.Made.{made}
use Rattle.trm_run_phases.proofs.Laws.Adds.{clock-adds}
use Rattle.trm_run_phases.proofs.Laws.Free.{clock-free}
use Rattle.trm_list_text.specs.declared.inner.row_text.Shown.TheVariants.{Word, Irq0, Irq1}
use Rattle.trm_list_text.specs.Rows.{row_bytes}
use Rattle.trm_list_rows.specs.declared.inner.listed.Listed.{Listed}
use Rattle.trm_list_rows.specs.Rows.{interrupt_at}
use Rattle.trm_list_rows.specs.Onward.{text_from, lent_of, Able, Onward, Went, Interrupted}
use Rattle.trm_list_rows.proofs.Laws.Text.{text-went, text_interrupt}

-- n clocks are one clock and n - 1 more
one_more : (n : ℕ) (i : Pins) (is : List Pins) → 0 < n → i ∷ (replicate (n - 1) i ++ is) ≡ replicate n i ++ is
one_more n i is h =
    let e : n ≡ suc (n - 1) = omega arith in
    sym (ap (λ k. replicate k i ++ is) e)

-- a store that passes row 4 has the length that the record states
store_long : (x : Lent) → store_ok x.machine x.store ≡ true → length x.store ≡ x.machine.scalars.size
unfolding store_ok
store_long x = both (store_length_ok (length x.store)) (eqb (length x.store) x.machine.scalars.size)
    (λ _ b. eqb-true (length x.store) x.machine.scalars.size b)

stored-long : (x y : Lent) → store_ok x.machine x.store ≡ true → store_ok y.machine y.store ≡ true
    → y.machine.scalars.size ≡ x.machine.scalars.size → length y.store ≡ length x.store
stored-long x y a b e = store_long y b ∙ e ∙ sym (store_long x a)

module _ (p : List ℕ) (i : Pins) where
  pub passed_able : {x : Lent} {took left : ℕ} → Able p x took left i → Passed paper_geometry p x.machine x.store
  passed_able a = record { program = a.program; store = a.store; rule = a.rule }

  pub able_clock : (x : Lent) (took left took' : ℕ) → Able p x took left i → 0 < left → took' ≤ took + 1
      → Able p (clock_of paper_geometry p x i).state took' (left - 1) i
  able_clock x took left took' a some le =
      let k : Kept paper_geometry p (clock_of paper_geometry p x i).state =
      record_kept paper_geometry p x i paper_ok a.shaped (clock-free p x.machine x.store i.line_byte (passed_able a) a.low
      (omega (arith, a.room, some))) in
      let n = (clock-adds p x i).adds in
      record {
        program = a.program;
        store = k.store;
        rule = k.record_ok_lem;
        shaped = k.shaped;
        room = omega (arith, n, a.room, some);
        few = omega (arith, n, a.few, le);
        low = a.low;
      }

  pub onward-none : (l : Listed) (x : Lent) (b : List ℕ) → Able p x l.took l.left i → l.len ≤ length b → Onward p i l x b l x b
  onward-none l x b a h = record { able = a; text = λ _. refl; long = refl; fits = h; fewer = omega arith; pace = refl; stored = refl }

  pub onward_then : {l l' l'' : Listed} {x x' x'' : Lent} {b b' b'' : List ℕ} → Onward p i l x b l' x' b' → Onward p i l' x' b' l'' x'' b''
      → Onward p i l x b l'' x'' b''
  onward_then f g = record {
    able = g.able;
    text = λ is. g.text is ∙ f.text is;
    long = g.long ∙ f.long;
    fits = g.fits;
    fewer = omega (arith, f.fewer, g.fewer);
    pace = g.pace ∙ f.pace;
    stored = g.stored ∙ f.stored;
  }

  module _ (l : Listed) (rs : List ℕ) (ca : Cache) (s b : List ℕ) (a : Able p (lent_of l rs ca s) l.took l.left i)
      (some : 0 < l.left) (f : stalled i.line_byte ≡ false) where
    abbrev x : Lent
    x = lent_of l rs ca s

    -- the text of one clock: T is its row, if it has one, and t the clocks of the word in flight after it
    one : (T : List ℕ) (t : ℕ) → ((is : List Pins) → text_from p x l.took (i ∷ is)
        ≡ T ++ text_from p (clock_of paper_geometry p x i).state t is)
        → (h : Listed) (y : Lent) (b' : List ℕ) → y ≡ (clock_of paper_geometry p x i).state → h.left ≡ l.left - 1 → h.took ≡ t → t ≤
        l.took + 1
        → take h.len b' ≡ take l.len b ++ T → length b' ≡ length b → h.len ≤ length b' → Onward p i l x b h y b'
    one T t go h y b' e left took le text long fits = record {
      able = rw (e, left, took) (able_clock x l.took l.left t a some le);
      text = λ is. rw (e, left, took)
          (ap (λ u. u ++ text_from p (clock_of paper_geometry p x i).state t (replicate (l.left - 1) i ++ is)) text
          ∙ append_assoc (take l.len b) T (text_from p (clock_of paper_geometry p x i).state t (replicate (l.left - 1) i ++ is))
          ∙ ap (λ u. take l.len b ++ u) (sym (go (replicate (l.left - 1) i ++ is)))
          ∙ ap (λ ps. take l.len b ++ text_from p x l.took ps) (one_more l.left i is some));
      long = long;
      fits = fits;
      fewer = omega (arith, left);
      pace = ap (λ z. z.machine.scalars.counts.clocks + h.left) e ∙ omega (arith, left, some, (clock-adds p x i).adds);
      stored = ap (λ z. length z.store) e ∙ stored-long x (clock_of paper_geometry p x i).state a.store
          (able_clock x l.took l.left t a some le).store (clock-adds p x i).size;
    }

    pub onward-went : interrupt_at x i ≡ 0
        → (r : Clocked) (rs' : List ℕ) (ca' : Cache) (s' : List ℕ) → made r rs' ca' s' ≡ clock_of paper_geometry p x i
        → (w : ℕ) → w ≡ word_at p l.scalars.pc → (h : Listed) (b' : List ℕ) → Went l r w b h b'
        → Onward p i l x b h (lent_of h rs' ca' s') b'
    onward-went z r rs' ca' s' e w at h b' g =
        let done = ap (λ t. t.out.done) e in
        let clock : r.scalars.counts.clocks ≡ l.scalars.counts.clocks + 1 =
        ap (λ t. t.state.machine.scalars.counts.clocks) e ∙ (clock-adds p x i).adds in
        one
        (cond (eqb r.finished 1)
        (row_bytes (record { clock = r.scalars.counts.clocks; at = l.scalars.pc; shown = Word w; took = l.took + 1 })) [])
        (cond (eqb r.finished 1) 0 (l.took + 1))
        (λ is. rw (clock, at, done) (text-went p x i l.took is f z))
        h (lent_of h rs' ca' s') b'
        (ap (λ c. record { machine = whole c rs' ca'; store = s' }) g.scalars ∙ ap (λ t. t.state) e)
        g.left g.took (chosen (λ k. k ≤ l.took + 1) (eqb r.finished 1) (omega arith) (omega arith))
        g.text.text g.text.long g.fits

    pub onward-interrupted : (to : ℕ) → interrupt_at x i ≡ to → to ≢ 0 → (c : Scalars) (rs' : List ℕ)
        → record { state = record { machine = whole c rs' ca; store = s }; out = silent 0 } ≡ clock_of paper_geometry p x i
        → (h : Listed) (b' : List ℕ) → Interrupted l c to b h b' → Onward p i l x b h (lent_of h rs' ca s) b'
    onward-interrupted to at z c rs' e h b' g =
        let clock : c.counts.clocks ≡ l.scalars.counts.clocks + 1 =
        ap (λ t. t.state.machine.scalars.counts.clocks) e ∙ (clock-adds p x i).adds in
        one (row_bytes (record { clock = c.counts.clocks; at = l.scalars.pc; shown = cond (eqb to 2) Irq0 Irq1; took = 1 })) 0
        (λ is. rw clock (text_interrupt p x i l.took is f to at z))
        h (lent_of h rs' ca s) b'
        (ap (λ d. record { machine = whole d rs' ca; store = s }) g.scalars ∙ ap (λ t. t.state) e)
        g.left g.took (omega arith) g.text.text g.text.long g.fits
