-- An accepted record stays accepted after every accepted clock.
-- By cases: a clock is held, takes an interrupt, executes the word or does not (`goes_on`); each leaves a valid record.
use Prim.Native.Nat.{ℕ, ◌+◌, ◌%◌, ◌≤◌, ◌<◌}
use mathlib.Core.Path.{◌≡◌, refl, sym, ap, ◌∙◌, subst}
use mathlib.Core.Logic.{◌≢◌}
use mathlib.Core.Bool.{Bool, true, false, cond, ◌&&◌, ◌||◌}
use mathlib.Core.List.{List}
use lib.ListN.{length, set, length-set}
use lib.Dec.{eqb}
use borrow.Author.Tests.{eqb-true, eqb-false, eq-eqb}
use native.Mathlib.Omega.{arith}
use native.Mathlib.Nat.{mod-lt}
use Rattle.trm_laws.proofs.Tests.{bool_clash, clash, ◌&t◌, chosen_by}
use Rattle.trm_word.specs.Address.{store_length_ok}
use Rattle.trm_reference.specs.Geometry.{Geometry, burst}
use Rattle.trm_reference.specs.Visible.{Visible, cache_on, word_at}
use Rattle.trm_reference.specs.Access.{is_load, is_store, target, target_line, stored, loaded, Answer, silent, answer_of}
use Rattle.trm_reference.specs.Execute.{execute}
use Rattle.trm_reference.specs.Interrupt.{stalled, interrupt_chosen, interrupted}
use Rattle.trm_reference.specs.Charge.{through_cache, without_cache, turns_cache_off}
use Rattle.trm_reference.specs.Trace.{After}
use Rattle.trm_reference.proofs.Laws.Execute.{Narrow, execute-narrow, execute-on, execute_regs, interrupted-narrow, interrupted-on}
use Rattle.trm_reference.proofs.Laws.Execute.{interrupted_regs}
use Rattle.trm_core.specs.declared.record.Running.{Running}
use Rattle.trm_core.specs.Record.{Machine}
use Rattle.trm_cache.specs.Cache.{Line, line_at, view, stored_to, all_emptied}
use Rattle.trm_cache.specs.declared.record.Cache.{Cache}
use Rattle.trm_core.specs.Record.{Lent, visible_of, cache_of, counts_of}
use Rattle.trm_core.specs.Clock.{Moved, moved, quiet, carried, line_for, hits, is_last, cache_after, store_after, finish, advance}
use Rattle.trm_core.specs.Clock.{held_clock, clock_of}
use Rattle.trm_core.specs.Rule.{due_ok}
use Rattle.trm_core.specs.Refusals.{store_ok}
use Rattle.trm_core.specs.Claims.{left_of, acknowledges, Kept, RecordKept}
use Rattle.trm_core.proofs.Laws.Fit.{Fit, line_in_lem}
use Rattle.trm_core.proofs.Laws.Kind.{cached, kind_of, kind-is, is_cached, is_clearing, cached-is}
use Rattle.trm_cache.proofs.Laws.Lines.{store_line, Wide, Becomes, becomes_stored}
use Rattle.trm_cache.proofs.Laws.Cache.{holds-full}
use Rattle.trm_cache.proofs.Laws.Dirty.{empty_to-wide, emptied-at}
use Rattle.trm_core.proofs.Laws.Deaf.{clocks_are_three}
use Rattle.trm_core.proofs.Laws.Rule.{LineFits, CountsFit, Phase, ready, arithmetic, write_back, clearing_off, refill, waiting, due}
use Rattle.trm_core.proofs.Laws.Rule.{Valid, valid-ok}
use Rattle.trm_core.proofs.Laws.Phases.{due-is, one-hits, left_0, left_2_cached, left_3, last-is}
use Rattle.trm_core.proofs.Laws.Goes.{Lines, lines-update, empty-fits, Goes}
use Rattle.trm_core.proofs.Laws.Table.{Accepted, accepted, goes_on, worked-last, worked-on}

-- a valid record with a store of length n
record Good (G : Geometry) (p : List ℕ) (n : ℕ) (x : Lent) : Type 0 where
  valid : Valid G p n x.machine
  long : length x.store ≡ n
  size : n ≡ x.machine.scalars.size
  regs : 16 ≤ length x.machine.regs

kept_from : (G : Geometry) (p : List ℕ) (n : ℕ) (x : Lent) → Fit G n → store_length_ok n ≡ true → Good G p n x → Kept G p x
unfolding store_ok
kept_from G p n x f legal g = record {
  shaped = record { regs = g.regs; full = wide.full; dirty = wide.dirty; block = wide.block; words = wide.words };
  store = rw g.long (legal &t eq-eqb n x.machine.scalars.size g.size);
  record_ok_lem = rw g.long (valid-ok G p n x.machine f.lpos g.valid);
}
  where
    wide : Wide G (cache_of x.machine)
    wide = g.valid.wide

-- a cache whose arrays are wide and whose lines fit
record Held (G : Geometry) (n : ℕ) (v : Visible) (ca : Cache) : Type 0 where
  wide : Wide G ca
  lines : Lines G n v ca

-- the same lines with another visible state that leaves the cache on
lines-shown : (G : Geometry) (n : ℕ) (v v' : Visible) (ca : Cache) → (cache_on v ≡ true → cache_on v' ≡ true) → Lines G n v ca
    → Lines G n v' ca
lines-shown G n v v' ca on ls l h = let o = ls l h in
    record { home = o.home; inside = o.inside; shown = λ f. on (o.shown f); empty_clean = o.empty_clean; empty_zero = o.empty_zero }

module _ (G : Geometry) (p : List ℕ) (n : ℕ) (m : Machine) (s : List ℕ) (size : n ≡ m.scalars.size)
    (room : m.scalars.counts.clocks + 1 ≤ 4294967295) (ok : CountsFit m.scalars.counts) where
  -- the counts after a clock: each grows by at most one
  grown : (held refills writebacks : ℕ) → let k = m.scalars.counts in held ≤ k.held + 1 → refills ≤ k.refills + 1
      → writebacks ≤ k.writebacks + 1 → CountsFit (counts_of (k.clocks + 1) held refills writebacks)
  grown held refills writebacks a b c = let x = ok.held in let y = ok.refills in let z = ok.writebacks in
      record { clocks = omega arith; held = omega arith; refills = omega arith; writebacks = omega arith }

  -- a clock that executes a word or takes an interrupt
  ended-good : (v : Visible) (ca : Cache) (s' : List ℕ) (a : Answer) → Narrow v → Held G n v ca → length s' ≡ n → 16 ≤ length v.regs
      → Good G p n (carried m.scalars v ca s' a).state
  ended-good v ca s' a nr he len rg = record {
    long = len;
    size = size;
    regs = rg;
    valid = record {
      narrow = nr;
      wide = he.wide;
      lines = he.lines;
      phase = ready refl refl;
      registers = record { product = refl; remainder = refl; quotient = refl };
      counts = grown _ _ _ (omega arith) (omega arith) (omega arith);
    };
  }

  -- a clock that executes no word
  moved-good : (old : ℕ) → Narrow (visible_of m) → 16 ≤ length m.regs
      → (t : Moved) (g : Goes G (word_at p m.scalars.pc) n (visible_of m) m.scalars old t)
      → Good G p n (quiet m.regs (moved m.scalars g.running g.cache g.store g.refilled g.written)).state
  moved-good old nr rg t g = record {
    long = g.long;
    size = size;
    regs = rg;
    valid = record {
      narrow = nr;
      wide = g.wide;
      lines = g.lines;
      phase = g.phase;
      registers = g.registers;
      counts = let o = g.once in grown _ _ _ (omega arith) (omega arith) (omega arith);
    };
  }

  -- a held clock
  held-good : Valid G p n m → 16 ≤ length m.regs → length s ≡ n → Good G p n (held_clock m s).state
  unfolding held_clock
  held-good x rg len = record {
    long = len;
    size = size;
    regs = rg;
    valid = record {
      narrow = x.narrow;
      wide = x.wide;
      lines = x.lines;
      phase = x.phase;
      registers = x.registers;
      counts = grown _ _ _ (omega arith) (omega arith) (omega arith);
    };
  }

-- an access through the cache with one clock left hits
module _ (G : Geometry) (w n : ℕ) (v : Visible) (ca : Cache) (r : Running) (kq : kind_of w v n ≡ cached)
    (one : left_of G w n r v ca ≡ 1) where
  due-hits : due_ok G w n v ca ≡ true → hits G w n v ca ≡ true
  due-hits dk = go (is_load w) (sym (due-is G w n v ca cached kq) ∙ dk)
    where
      go : (t : Bool) → (t && false) || hits G w n v ca ≡ true → hits G w n v ca ≡ true
      go true e = e
      go false e = e

  no_write : r.phase ≡ 2 → r.count < burst G → hits G w n v ca ≡ true
  no_write ph hc = let e = left_2_cached G w n v ca r ph kq in absurd (omega arith)

  no-fill : r.phase ≡ 3 → r.count < burst G → hits G w n v ca ≡ true
  no-fill ph hc = let e = left_3 G w n v ca r ph in absurd (omega arith)

  last-hits : Phase G w n (kind_of w v n) r v ca → hits G w n v ca ≡ true
  last-hits (ready ph ct) = one-hits G w n v ca kq (sym (left_0 G w n v ca r ph) ∙ one)
  last-hits (arithmetic jq ph one top) = clash (ap is_cached (sym jq ∙ kq))
  last-hits (write_back jq ph hc hold d) = no_write ph hc
  last-hits (clearing_off jq ph hc some) = clash (ap is_cached (sym jq ∙ kq))
  last-hits (refill jq ph hc empty) = no-fill ph hc
  last-hits (waiting jq ph one top) = clash (ap is_cached (sym jq ∙ kq))
  last-hits (due ph ct dk) = due-hits dk

-- the cache and the store after a word's last clock
module _ (G : Geometry) (w n : ℕ) (v : Visible) (x : ℕ) (ca : Cache) (fit : Fit G n) (wd : Wide G ca) (ls : Lines G n v ca) where
  same-held : turns_cache_off w v ≡ false → Held G n (execute w v x) ca
  same-held off = record { wide = wd; lines = lines-shown G n v (execute w v x) ca (execute-on w v x off) ls }

  empty-held : Held G n (execute w v x) (all_emptied G ca)
  empty-held = record {
    wide = (unfold all_emptied in empty_to-wide G ca G.lines (omega arith) wd);
    lines = λ l h. rw (emptied-at G ca l wd h) (empty-fits G (cache_on (execute w v x)) n l (line_at G ca l));
  }

  stored-held : turns_cache_off w v ≡ false → hits G w n v ca ≡ true
      → Held G n (execute w v x) (stored_to G ca (target_line G w v n) (target w v n % G.words) (stored w v))
  unfolding hits line_for
  stored-held off hit = record {
    wide = bc.wide;
    lines = lines-shown G n v (execute w v x) ca' (execute-on w v x off)
        (lines-update G n v ca l ln ca' bc ls (record {
          home = o.home;
          inside = o.inside;
          shown = o.shown;
          empty_clean = λ f. bool_clash (line_at G ca l).full (holds-full (line_at G ca l) _ hit) f;
          empty_zero = o.empty_zero;
        }));
  }
    where
      l : ℕ
      l = target_line G w v n

      ln : Line
      ln = store_line (line_at G ca l) (target w v n % G.words) (stored w v)

      ca' : Cache
      ca' = stored_to G ca l (target w v n % G.words) (stored w v)

      lin : l < G.lines
      lin = line_in_lem G w v n fit.lpos

      bc : Becomes G ca l ln ca'
      bc = becomes_stored G ca l wd lin (target w v n % G.words) (stored w v) (mod-lt (target w v n) fit.wpos)

      o : LineFits G (cache_on v) n l (line_at G ca l)
      o = ls l lin

  after-held : (r : Running) → left_of G w n r v ca ≡ 1 → Phase G w n (kind_of w v n) r v ca
      → Held G n (execute w v x) (cache_after G w n v ca)
  unfolding cache_after
  after-held r one ph = chosen_by (Held G n (execute w v x)) (through_cache w v n)
      (λ th. chosen_by (Held G n (execute w v x)) (is_store w) (λ _. stored-held (stays_on th) (last-hits G w n v ca r (kq th) one ph))
      (λ _. same-held (stays_on th)))
      (λ _. chosen_by (Held G n (execute w v x)) (turns_cache_off w v) (λ _. empty-held) same-held)
    where
      kq : through_cache w v n ≡ true → kind_of w v n ≡ cached
      kq th = cached-is (kind_of w v n) (sym (kind-is w v n).through ∙ th)

      stays_on : through_cache w v n ≡ true → turns_cache_off w v ≡ false
      stays_on th = (kind-is w v n).off ∙ ap is_clearing (kq th)

store-after : (G : Geometry) (w n : ℕ) (v : Visible) (s : List ℕ) → length (store_after w n v s) ≡ length s
unfolding store_after
store-after G w n v s = go (without_cache w v n && is_store w)
  where
    go : (t : Bool) → length (cond t (set s (target w v n) (stored w v)) s) ≡ length s
    go true = length-set s (target w v n) (stored w v)
    go false = refl

pub record_kept : RecordKept
unfolding finish
record_kept G p x pins g sh free = go (stalled pins.line_byte) refl (acknowledges m pins) refl (eqb left 1) refl
  where
    m : Machine
    m = x.machine

    s : List ℕ
    s = x.store

    n : ℕ
    n = length s

    w : ℕ
    w = word_at p m.scalars.pc

    v : Visible
    v = visible_of m

    ca : Cache
    ca = cache_of m

    left : ℕ
    left = left_of G w n m.scalars.running v ca

    a : Accepted G p m s
    a = accepted G p m s pins.line_byte g sh free

    to : ℕ
    to = interrupt_chosen m.scalars.status pins.line_byte

    loads : ℕ
    loads = loaded w v n pins.input (view G ca s (target w v n))

    kept : (y : After Lent Answer) → clock_of G p x pins ≡ y → Good G p n y.state → Kept G p (clock_of G p x pins).state
    kept y q good = subst (λ z. Kept G p z.state) (sym q) (kept_from G p n y.state a.fit a.legal good)

    last : is_last G w n m.scalars.running v ca ≡ eqb left 1
    last = last-is G w n v ca m.scalars.running a.valid.phase

    on : left ≢ 1 → Goes G w n v m.scalars left (advance G w n m.scalars v ca s)
    on more = goes_on G w n v a.fit m.scalars ca s a.valid.wide a.valid.lines refl left refl more a.valid.phase

    go : (h : Bool) → stalled pins.line_byte ≡ h → (k : Bool) → acknowledges m pins ≡ k → (t : Bool) → eqb left 1 ≡ t
        → Kept G p (clock_of G p x pins).state
    go true st k ac t q = kept _ ((clocks_are_three G p x pins).held st)
        (held-good G p n m s a.size a.room a.valid.counts a.valid sh.regs refl)
    go false st true ac t q = kept _ ((clocks_are_three G p x pins).takes st ac) (ended-good G p n m s a.size a.room a.valid.counts
        (interrupted v to) ca s (silent 0) (interrupted-narrow v pins.line_byte a.valid.narrow)
        (record { wide = a.valid.wide; lines = lines-shown G n v (interrupted v to) ca (λ e. interrupted-on v to ∙ e) a.valid.lines })
        refl (rw (interrupted_regs v to) sh.regs))
    go false st false ac true q = kept _ ((clocks_are_three G p x pins).works st ac ∙ worked-last G w n m s pins.input (last ∙ q))
        (ended-good G p n m s a.size a.room a.valid.counts (execute w v loads) (cache_after G w n v ca) (store_after w n v s)
        (answer_of w v n pins.input) (execute-narrow w v loads a.valid.narrow)
        (after-held G w n v loads ca a.fit a.valid.wide a.valid.lines m.scalars.running (eqb-true left 1 q)
        a.valid.phase)
        (store-after G w n v s) (rw (execute_regs w v loads) sh.regs))
    go false st false ac false q = let more = eqb-false left 1 q in
        kept _ ((clocks_are_three G p x pins).works st ac ∙ worked-on G w n m s pins.input (last ∙ q)
        ∙ ap (quiet m.regs) (on more).is)
        (moved-good G p n m s a.size a.room a.valid.counts left a.valid.narrow sh.regs
        (advance G w n m.scalars v ca s) (on more))
