-- Demand 3: from an accepted reset the two machines run in step, so every list of calls gives the same log.
-- Idea: the relation, with room for the clocks of a call that passes row 8; it holds after a reset, and every clock keeps it.
use Prim.Native.Nat.{ℕ, suc, ◌+◌, ◌-◌, ◌≤◌, ◌<◌}
use mathlib.Core.Path.{◌≡◌, refl, sym, ◌∙◌}
use mathlib.Core.Bool.{Bool, true, false, cond, not, ◌||◌}
use mathlib.Core.List.{List, [], ◌∷◌}
use lib.ListN.{length, get_or}
use lib.Dec.{eqb, ltb}
use borrow.Author.Tests.{eqb-true, eq-eqb, ltb-false}
use native.Mathlib.Omega.{arith}
use Rattle.trm_laws.proofs.Tests.{bool_clash, chosen}
use Rattle.trm_word.specs.Address.{store_length_ok}
use Rattle.trm_reference.specs.Geometry.{Geometry, block_of, line_of, geometry_ok}
use Rattle.trm_reference.specs.Visible.{word_at, reset_visible}
use Rattle.trm_reference.specs.Access.{Answer}
use Rattle.trm_reference.specs.Interrupt.{stalled, interrupt_chosen}
use Rattle.trm_reference.specs.History.{since}
use Rattle.trm_reference.specs.Trace.{Pins, After, pins_of}
use Rattle.trm_reference.specs.Reference.{Reference, charge, carry_out, spend, take_off, reference_held, reference_interrupt}
use Rattle.trm_reference.specs.Reference.{reference_unheld}
use Rattle.trm_reference.specs.Reference.{reference_clock, reference_reset}
use Rattle.trm_reference.proofs.Laws.Trace.{pins-length}
use Rattle.trm_cache.specs.Cache.{line_at, view}
use Rattle.trm_core.specs.Record.{Lent, cache_of, reset_of}
use Rattle.trm_core.specs.Clock.{clock_of}
use Rattle.trm_core.specs.Refusals.{all_at_most, program_ok, store_ok, record_rows, count_row, clock_rows, line_bytes_refused, run_rows}
use Rattle.trm_core.specs.Refusals.{reset_refusal}
use Rattle.trm_core.specs.Refusals.{clock_refusal, run_refusal}
use Rattle.trm_core.specs.Rule.{record_ok}
use Rattle.trm_core.proofs.Laws.Fit.{Fit, fit, any-line_in}
use Rattle.trm_core.proofs.Laws.Reset.{zeros, first, first-line, first-words, first-wide, reset_legal}
use Rattle.trm_cache.proofs.Laws.Cache.{Sane, empty-view}
use Rattle.trm_cache.proofs.Laws.Dirty.{copy_is}
use Rattle.trm_agreement.specs.Log.{log_of}
use Rattle.trm_agreement.specs.Demand.{All}
use Rattle.trm_agreement.specs.Calls.{Call, clock_call, run_call, feed, answer, record_seen, record_code, record_engine, reference_seen}
use Rattle.trm_agreement.specs.Calls.{own_rows, reference_code, reference_engine}
use Rattle.trm_agreement.proofs.Laws.Simulate.{Together, log-alike}
use Rattle.trm_agreement.proofs.Laws.History.{judged-none}
use Rattle.trm_agreement.proofs.Laws.Relation.{Extra, plain_of, Common, ready, Related, Agree}
use Rattle.trm_agreement.proofs.Laws.Clock.{clock-step}
use Rattle.trm_agreement.proofs.Laws.Accepted.{accepted}

-- each clock of the reference machine adds one
pub clock-next : (G : Geometry) (p : List ℕ) (q : Reference) (pins : Pins) → (reference_clock G p q pins).state.clocks ≡ q.clocks + 1
unfolding reference_clock reference_held reference_unheld reference_interrupt take_off carry_out spend
clock-next G p q pins = chosen Next (stalled pins.line_byte) refl
    (chosen Next (eqb q.left 0) (chosen Next (eqb (interrupt_chosen q.visible.status pins.line_byte) 0) (off (charge G w q)) refl)
    (off q.left))
  where
    w : ℕ
    w = word_at p q.visible.pc

    Next : After Reference Answer → Type 0
    Next u = u.state.clocks ≡ q.clocks + 1

    off : (n : ℕ) → Next (take_off G w q n pins.input)
    off n = chosen Next (eqb (n - 1) 0) {a = carry_out G w q pins.input} {b = spend G w q (n - 1)} refl refl

module _ (G : Geometry) (p : List ℕ) where
  -- in step, with room for n more clocks
  pub record Tied (n : ℕ) (x : Lent) (q : Reference) : Type 0 where
    pub extra : Extra
    pub plain : q ≡ plain_of x.machine extra
    pub related : Related G p x.machine x.store extra
    pub room : q.clocks + n ≤ 4294967295

  pub tied-step : (n : ℕ) (x : Lent) (q : Reference) (pins : Pins) → Tied (suc n) x q
      → Together (Tied n) (clock_of G p x pins) (reference_clock G p q pins)
  tied-step n x q pins t = rw t.plain (go (clock-step G p x.machine x.store t.extra pins t.related))
    where
      rm : x.machine.scalars.counts.clocks + suc n ≤ 4294967295
      rm = rw t.plain at t.room

      go : Agree G p (clock_of G p x pins) (reference_clock G p (plain_of x.machine t.extra) pins)
          → Together (Tied n) (clock_of G p x pins) (reference_clock G p (plain_of x.machine t.extra) pins)
      go a = record {
        state = record {
          extra = a.extra;
          plain = a.plain;
          related = a.related;
          room = rw (clock-next G p (plain_of x.machine t.extra) pins) (omega (arith, rm));
        };
        out = a.out;
      }

  pub tied-seen : (n : ℕ) (x : Lent) (q : Reference) → Tied n x q → record_seen G x ≡ reference_seen q
  unfolding record_seen reference_seen
  tied-seen n x q t = rw (
    t.plain,
    copy_is G (cache_of x.machine) x.store t.extra.memory (c.size ∙ sym c.memory)
        (λ a h. c.view a (rw c.size at h)),
  )
    where
      c : Common G x.machine x.store t.extra
      c = t.related.common

  -- a record in step passes rows 4 and 5
  pub rows_are : (x : Lent) (q : Reference) (rest : ℕ) → Tied 0 x q
      → record_rows G p x.machine x.store rest ≡ cond (not (program_ok p)) 3 rest
  unfolding record_rows store_ok
  rows_are x q rest t = rw (c.size, c.legal, eq-eqb x.machine.scalars.size x.machine.scalars.size refl, fifth)
    where
      c : Common G x.machine x.store t.extra
      c = t.related.common

      few : x.machine.scalars.counts.clocks ≤ 4294967295
      few = let h : x.machine.scalars.counts.clocks + 0 ≤ 4294967295 = rw t.plain at t.room in omega arith

      fifth : record_ok G p x.machine.scalars.size x.machine ≡ true
      fifth = accepted G p x.machine x.store t.extra (omega (arith, few)) t.related

  tied-code : (x : Lent) (q : Reference) (c : Call) → Tied 0 x q → record_code G p x c ≡ reference_code p q c
  unfolding record_code reference_code own_rows clock_refusal run_refusal
  tied-code x q (clock_call line_byte input) t = rw t.plain (rows_are x q (clock_rows x.machine.scalars.counts.clocks line_byte) t)
  tied-code x q (run_call line_bytes inputs bytes words) t =
      rw t.plain (rows_are x q (run_rows x.machine.scalars.counts.clocks line_bytes inputs bytes words) t)

  -- a call that passes row 8 has room for its clocks
  pub count_room : (k n : ℕ) → count_row k n ≡ 0 → k + n ≤ 4294967295
  unfolding count_row
  count_room k n = go (ltb 4294967295 (k + n)) refl
    where
      go : (t : Bool) → ltb 4294967295 (k + n) ≡ t → ◌≡◌ {A = ℕ} (cond t 8 0) 0 → k + n ≤ 4294967295
      go true z y = absurd (omega arith)
      go false z y = ltb-false 4294967295 (k + n) z

  own_room : (k : ℕ) (c : Call) → own_rows k c ≡ 0 → k + length (feed c) ≤ 4294967295
  unfolding own_rows clock_rows run_rows line_bytes_refused feed
  own_room k (clock_call line_byte input) = go (ltb 7 line_byte)
    where
      go : (t : Bool) → cond t 6 (count_row k 1) ≡ 0 → k + 1 ≤ 4294967295
      go true y = absurd (omega arith)
      go false y = count_room k 1 y
  own_room k (run_call line_bytes inputs bytes words) =
      go (eqb (length line_bytes) (length inputs)) refl (ltb 65536 (length line_bytes)) (not (all_at_most 7 line_bytes))
      (not (eqb (length bytes) (length line_bytes)) || not (eqb (length words) (length line_bytes)))
    where
      go : (same : Bool) → eqb (length line_bytes) (length inputs) ≡ same → (long bad other : Bool)
          → cond (not same || long || bad) 6 (cond other 7 (count_row k (length line_bytes))) ≡ 0
          → k + length (pins_of line_bytes inputs) ≤ 4294967295
      go true e false false false y = rw (pins-length line_bytes inputs (eqb-true (length line_bytes) (length inputs) e))
          (count_room k (length line_bytes) y)
      go true e false false true y = absurd (omega arith)
      go true e false true other y = absurd (omega arith)
      go true e true bad other y = absurd (omega arith)
      go false e long bad other y = absurd (omega arith)

  tied-room : (x : Lent) (q : Reference) (c : Call) → Tied 0 x q → reference_code p q c ≡ 0 → Tied (length (feed c)) x q
  unfolding reference_code
  tied-room x q c t e = record { extra = t.extra; plain = t.plain; related = t.related; room = go (program_ok p) e }
    where
      go : (b : Bool) → cond (not b) 3 (own_rows q.clocks c) ≡ 0 → q.clocks + length (feed c) ≤ 4294967295
      go true y = own_room q.clocks c y
      go false y = absurd (omega arith)

-- a clock may be given anything
any-input : (is : List Pins) → All (λ i. Unit {0}) is
unfolding All
any-input [] = tt
any-input (i ∷ is) = (tt, any-input is)

module _ (G : Geometry) (p s : List ℕ) where
  tied-reset : Fit G (length s) → store_length_ok (length s) ≡ true
      → Tied G p 0 (record { machine = reset_of G s; store = s }) (reference_reset s)
  unfolding reset_of reference_reset reset_visible first zeros
  tied-reset g legal = record {
    extra = record { memory = s; history = []; left = 0 };
    plain = refl;
    room = omega arith;
    related = record {
      common = record {
        size = refl;
        memory = refl;
        view = through;
        sane = sane;
        off = λ q l h. (first-line G l h).0;
        fit = g;
        legal = legal;
        narrow = record { pc = omega arith; n = omega arith; z = omega arith; c = omega arith; v = omega arith; status = omega arith };
        counted = record { held = omega arith; refills = omega arith; writebacks = omega arith };
      };
      flight = ready refl refl (λ l h. unfold since in judged-none (line_at G (first G) l) (first-line G l h).0 (first-line G l h).1);
    };
  }
    where
      sane : Sane G (first G) s
      sane = record {
        wide = first-wide G;
        each = λ l h. record {
          wide = first-words G l h;
          home = λ q. bool_clash (line_at G (first G) l).full q (first-line G l h).0;
          inside = λ q. bool_clash (line_at G (first G) l).full q (first-line G l h).0;
          empty_clean = λ q. (first-line G l h).1;
          empty_zero = λ q. (first-line G l h).2;
          agrees = λ q d i hi. bool_clash (line_at G (first G) l).full q (first-line G l h).0;
        };
      }

      through : (a : ℕ) → a < length s → view G (first G) s a ≡ get_or s a 0
      through a h = unfold view in (empty-view G g.wpos s (line_at G (first G) (line_of G (block_of G a))) a
          (first-line G (line_of G (block_of G a)) (any-line_in G g.lpos (block_of G a))).0)

  pub reset-tied : geometry_ok G ≡ true → reset_refusal s ≡ 0
      → Tied G p 0 (record { machine = reset_of G s; store = s }) (reference_reset s)
  reset-tied e r = tied-reset (fit G (length s) e (reset_legal s r)) (reset_legal s r)

  pub same_log : (cs : List Call) → geometry_ok G ≡ true → reset_refusal s ≡ 0
      → log_of feed answer (record_engine G p) (record { machine = reset_of G s; store = s }) cs
      ≡ log_of feed answer (reference_engine G p) (reference_reset s) cs
  unfolding record_engine reference_engine
  same_log cs e r = log-alike feed answer (record_engine G p) (reference_engine G p) (Tied G p) (λ i. Unit {0}) (λ c. any-input (feed c))
      (λ n x q i f t. tied-step G p n x q i t) (tied-seen G p) (tied-code G p)
      (tied-room G p) (record { machine = reset_of G s; store = s }) (reference_reset s) cs (reset-tied e r)
