-- Row 5 as facts: a record is accepted if and only if it is `Valid`.
-- `Valid` has one field per clause of the rule, and `Phase` one constructor per phase and kind with the facts it needs.
--   valid-ok     a valid record is accepted        valid-from   an accepted record is valid
use Prim.Native.Nat.{ℕ, ◌+◌, ◌*◌, ◌^◌, ◌≤◌, ◌<◌}
use mathlib.Core.Path.{◌≡◌, refl, sym, ap, ◌∙◌, subst}
use mathlib.Core.Logic.{◌≢◌}
use mathlib.Core.Bool.{Bool, true, false, cond, not, ◌&&◌}
use mathlib.Core.List.{List}
use lib.ListN.{get_or}
use lib.Dec.{eqb, leb, ltb}
use borrow.Author.Tests.{eqb-true, eqb-false, eq-eqb, ne_eqb, ltb-true, lt-ltb, leb-true, le-leb, not-true}
use native.Mathlib.Omega.{arith}
use Rattle.trm_laws.proofs.Tests.{bool_clash, ◌&t◌, both, all3, all4, test_at}
use Rattle.trm_reference.specs.Geometry.{Geometry, burst, line_of}
use Rattle.trm_reference.specs.Visible.{Visible, cache_on, word_at}
use Rattle.trm_reference.specs.Access.{is_load, target_line, to_memory}
use Rattle.trm_reference.specs.Charge.{is_stepped, through_cache, without_cache, turns_cache_off, uncached_charge}
use Rattle.trm_reference.proofs.Laws.Execute.{Narrow}
use Rattle.trm_core.specs.declared.record.Counts.{Counts}
use Rattle.trm_core.specs.declared.record.Running.{Running}
use Rattle.trm_core.specs.Record.{Machine}
use Rattle.trm_cache.specs.Cache.{Line, line_at, count_dirty}
use Rattle.trm_cache.specs.declared.record.Cache.{Cache}
use Rattle.trm_core.specs.Record.{visible_of, cache_of, product_at, remainder_at, quotient_at}
use Rattle.trm_core.specs.Clock.{line_for, hits}
use Rattle.trm_core.specs.Rule.{widths_ok, counts_ok, registers_ok, arithmetic_ok, writeback_ok, refill_ok, wait_ok, due_ok, phase_ok}
use Rattle.trm_core.specs.Rule.{line_ok, marks_ok, lines_ok, record_ok}
use Rattle.trm_core.specs.Claims.{Shaped}
use Rattle.trm_core.proofs.Laws.Fit.{all-below, below_all, line_in_lem}
use Rattle.trm_core.proofs.Laws.Kind.{Kind, longer, cached, uncached, clearing, kind_of, Is, kind-is, is_longer, is_cached}
use Rattle.trm_core.proofs.Laws.Kind.{is_uncached, is_clearing, in_memory, waits-are, longer-is, cached-is, uncached_is, clearing_is}
use Rattle.trm_cache.proofs.Laws.Lines.{Wide}
use Rattle.trm_cache.proofs.Laws.Cache.{dirty-full}

-- one line
pub record LineFits (G : Geometry) (on : Bool) (n l : ℕ) (ln : Line) : Type 0 where
  pub home : ln.full ≡ true → line_of G ln.block ≡ l
  pub inside : ln.full ≡ true → ln.block * G.words + G.words ≤ n
  pub shown : ln.full ≡ true → on ≡ true
  pub empty_clean : ln.full ≡ false → ln.dirty ≡ false
  pub empty_zero : ln.full ≡ false → ln.block ≡ 0

pub record CountsFit (k : Counts) : Type 0 where
  pub clocks : k.clocks < 2 ^ 32
  pub held : k.held ≤ k.clocks
  pub refills : k.refills ≤ k.clocks
  pub writebacks : k.writebacks ≤ k.clocks

-- phase and count of a word w of kind k
pub data Phase (G : Geometry) (w n : ℕ) (k : Kind) (r : Running) (v : Visible) (ca : Cache) : Type 0 where
  ready : r.phase ≡ 0 → r.count ≡ 0 → Phase G w n k r v ca
  arithmetic : k ≡ longer → r.phase ≡ 1 → 1 ≤ r.count → r.count ≤ 32 → Phase G w n k r v ca
  write_back : k ≡ cached → r.phase ≡ 2 → r.count < burst G → hits G w n v ca ≡ false → (line_for G w n v ca).dirty ≡ true
      → Phase G w n k r v ca
  clearing_off : k ≡ clearing → r.phase ≡ 2 → r.count < burst G → count_dirty G ca ≢ 0 → Phase G w n k r v ca
  refill : k ≡ cached → r.phase ≡ 3 → r.count < burst G → (line_for G w n v ca).full ≡ false → Phase G w n k r v ca
  waiting : k ≡ uncached → r.phase ≡ 4 → 1 ≤ r.count → r.count < uncached_charge w → Phase G w n k r v ca
  due : r.phase ≡ 5 → r.count ≡ 0 → due_ok G w n v ca ≡ true → Phase G w n k r v ca

pub record Registers (w : ℕ) (r : Running) (v : Visible) : Type 0 where
  pub product : r.product ≡ cond (eqb r.phase 1) (product_at w v r.count) 0
  pub remainder : r.remainder ≡ cond (eqb r.phase 1) (remainder_at w v r.count) 0
  pub quotient : r.quotient ≡ cond (eqb r.phase 1) (quotient_at w v r.count) 0

pub record Valid (G : Geometry) (p : List ℕ) (n : ℕ) (m : Machine) : Type 0 where
  pub narrow : Narrow (visible_of m)
  pub counts : CountsFit m.scalars.counts
  pub wide : Wide G (cache_of m)
  pub lines : (l : ℕ) → l < G.lines → LineFits G (cache_on (visible_of m)) n l (line_at G (cache_of m) l)
  pub phase : Phase G (word_at p m.scalars.pc) n (kind_of (word_at p m.scalars.pc) (visible_of m) n) m.scalars.running
      (visible_of m) (cache_of m)
  pub registers : Registers (word_at p m.scalars.pc) m.scalars.running (visible_of m)

line_ok_lem : (G : Geometry) (on : Bool) (n l : ℕ) (ln : Line) → LineFits G on n l ln → line_ok G on n l ln ≡ true
unfolding line_ok
line_ok_lem G on n l ln ok = go ln.full refl
  where
    go : (f : Bool) → ln.full ≡ f
        → cond f (on && eqb (line_of G ln.block) l && leb (ln.block * G.words + G.words) n)
        (not ln.dirty && eqb ln.block 0) ≡ true
    go true e = ok.shown e &t eq-eqb (line_of G ln.block) l (ok.home e) &t le-leb (ln.block * G.words + G.words) n (ok.inside e)
    go false e = ap not (ok.empty_clean e) &t eq-eqb ln.block 0 (ok.empty_zero e)

-- the tests that choose the phase's clause
phase-ok : (G : Geometry) (w n : ℕ) (k : Kind) (r : Running) (v : Visible) (ca : Cache) → Is k w v n
    → LineFits G (cache_on v) n (target_line G w v n) (line_for G w n v ca) → Phase G w n k r v ca → phase_ok G w n r v ca ≡ true
unfolding phase_ok arithmetic_ok writeback_ok refill_ok wait_ok
phase-ok G w n k r v ca is ok (ready ph ct) = rw (test_at ph 0) (eq-eqb r.count 0 ct)
phase-ok G w n k r v ca is ok (arithmetic q ph one top) = rw (test_at ph 0, test_at ph 1)
    (le-leb 1 r.count one &t le-leb r.count 32 top &t (is.stepped ∙ ap is_longer q))
phase-ok G w n k r v ca is ok (write_back q ph hc hold d) =
    rw (test_at ph 0, test_at ph 1, test_at ph 2, is.memory, ap in_memory q)
    (lt-ltb r.count (burst G) hc &t (dirty-full (line_for G w n v ca) ok.empty_clean d &t d &t ap not hold))
phase-ok G w n k r v ca is ok (clearing_off q ph hc some) =
    rw (test_at ph 0, test_at ph 1, test_at ph 2, is.memory, ap in_memory q)
    (lt-ltb r.count (burst G) hc &t ((is.off ∙ ap is_clearing q) &t ap not (ne_eqb (count_dirty G ca) 0 some)))
phase-ok G w n k r v ca is ok (refill q ph hc empty) =
    rw (test_at ph 0, test_at ph 1, test_at ph 2, test_at ph 3)
    (lt-ltb r.count (burst G) hc &t (is.through ∙ ap is_cached q) &t ap not empty)
phase-ok G w n k r v ca is ok (waiting q ph one top) =
    rw (test_at ph 0, test_at ph 1, test_at ph 2, test_at ph 3, test_at ph 4)
    (le-leb 1 r.count one
    &t le-leb r.count (cond (is_load w) 5 4) (omega (arith, waits-are (subst (λ j. Is j w v n) q is)))
    &t (is.without ∙ ap is_uncached q))
phase-ok G w n k r v ca is ok (due ph ct dk) =
    rw (test_at ph 0, test_at ph 1, test_at ph 2, test_at ph 3, test_at ph 4)
    (eq-eqb r.phase 5 ph &t eq-eqb r.count 0 ct &t dk)

pub valid-ok : (G : Geometry) (p : List ℕ) (n : ℕ) (m : Machine) → 0 < G.lines → Valid G p n m → record_ok G p n m ≡ true
unfolding record_ok widths_ok counts_ok registers_ok lines_ok marks_ok line_for
valid-ok G p n m pos x =
    (lt-ltb m.scalars.pc 4096 nr.pc
    &t (lt-ltb m.scalars.n 2 nr.n &t lt-ltb m.scalars.z 2 nr.z &t lt-ltb m.scalars.c 2 nr.c
    &t lt-ltb m.scalars.v 2 nr.v)
    &t lt-ltb m.scalars.status 16 nr.status)
    &t phase-ok G w n (kind_of w (visible_of m) n) m.scalars.running (visible_of m) (cache_of m) (kind-is w (visible_of m) n)
    (x.lines (target_line G w (visible_of m) n) (line_in_lem G w (visible_of m) n pos)) x.phase
    &t (eq-eqb m.scalars.running.product _ x.registers.product
    &t eq-eqb m.scalars.running.remainder _ x.registers.remainder
    &t eq-eqb m.scalars.running.quotient _ x.registers.quotient)
    &t (lt-ltb k.clocks (2 ^ 32) x.counts.clocks &t le-leb k.held k.clocks x.counts.held
    &t le-leb k.refills k.clocks x.counts.refills &t le-leb k.writebacks k.clocks x.counts.writebacks)
    &t all-below G.lines _ (λ l h. (lt-ltb (get_or m.full l 0) 2 (x.wide.full_mark l h)
    &t lt-ltb (get_or m.dirty l 0) 2 (x.wide.dirty_mark l h))
    &t line_ok_lem G (cache_on (visible_of m)) n l (line_at G (cache_of m) l) (x.lines l h))
  where
    w : ℕ
    w = word_at p m.scalars.pc

    nr : Narrow (visible_of m)
    nr = x.narrow

    k : Counts
    k = m.scalars.counts

-- the converse: an accepted record is valid

pub line-from : (G : Geometry) (on : Bool) (n l : ℕ) (ln : Line) → line_ok G on n l ln ≡ true → LineFits G on n l ln
unfolding line_ok
line-from G on n l ln t = go ln.full refl t
  where
    go : (f : Bool) → ln.full ≡ f
        → cond f (on && eqb (line_of G ln.block) l && leb (ln.block * G.words + G.words) n)
        (not ln.dirty && eqb ln.block 0) ≡ true
        → LineFits G on n l ln
    go true e = all3 on (eqb (line_of G ln.block) l) (leb (ln.block * G.words + G.words) n) (λ s h i. record {
      home = λ _. eqb-true (line_of G ln.block) l h;
      inside = λ _. leb-true (ln.block * G.words + G.words) n i;
      shown = λ _. s;
      empty_clean = λ f. bool_clash ln.full e f;
      empty_zero = λ f. bool_clash ln.full e f;
    })
    go false e = both (not ln.dirty) (eqb ln.block 0) (λ d z. record {
      home = λ f. bool_clash ln.full f e;
      inside = λ f. bool_clash ln.full f e;
      shown = λ f. bool_clash ln.full f e;
      empty_clean = λ _. not-true ln.dirty d;
      empty_zero = λ _. eqb-true ln.block 0 z;
    })

pub widths-from : (v : Visible) → widths_ok v ≡ true → Narrow v
unfolding widths_ok
widths-from v = all3 (ltb v.pc 4096) (ltb v.n 2 && ltb v.z 2 && ltb v.c 2 && ltb v.v 2) (ltb v.status 16) (λ p f s.
    all4 (ltb v.n 2) (ltb v.z 2) (ltb v.c 2) (ltb v.v 2) (λ a b c d. record {
      pc = ltb-true v.pc 4096 p;
      n = ltb-true v.n 2 a;
      z = ltb-true v.z 2 b;
      c = ltb-true v.c 2 c;
      v = ltb-true v.v 2 d;
      status = ltb-true v.status 16 s;
    }) f)

pub counts-from : (k : Counts) → counts_ok k ≡ true → CountsFit k
unfolding counts_ok
counts-from k = all4 (ltb k.clocks (2 ^ 32)) (leb k.held k.clocks) (leb k.refills k.clocks) (leb k.writebacks k.clocks)
    (λ a b c d. record {
      clocks = ltb-true k.clocks (2 ^ 32) a;
      held = leb-true k.held k.clocks b;
      refills = leb-true k.refills k.clocks c;
      writebacks = leb-true k.writebacks k.clocks d;
    })

pub registers-from : (w : ℕ) (r : Running) (v : Visible) → registers_ok w r v ≡ true → Registers w r v
unfolding registers_ok
registers-from w r v = all3 (eqb r.product p) (eqb r.remainder m) (eqb r.quotient q)
    (λ a b c. record {
      product = eqb-true r.product p a;
      remainder = eqb-true r.remainder m b;
      quotient = eqb-true r.quotient q c;
    })
  where
    p : ℕ
    p = cond (eqb r.phase 1) (product_at w v r.count) 0

    m : ℕ
    m = cond (eqb r.phase 1) (remainder_at w v r.count) 0

    q : ℕ
    q = cond (eqb r.phase 1) (quotient_at w v r.count) 0

-- a line can be full only with the cache on, so an access in phase 2 goes through the cache
write-from : (G : Geometry) (w n : ℕ) (k : Kind) (r : Running) (v : Visible) (ca : Cache) → Is k w v n
    → LineFits G (cache_on v) n (target_line G w v n) (line_for G w n v ca) → r.phase ≡ 2 → writeback_ok G w n r.count v ca ≡ true
    → Phase G w n k r v ca
unfolding writeback_ok through_cache
write-from G w n k r v ca is ok ph = both (ltb r.count (burst G)) _ (λ h. go (to_memory w v n) refl (ltb-true r.count (burst G) h))
  where
    ln : Line
    ln = line_for G w n v ca

    go : (me : Bool) → to_memory w v n ≡ me → r.count < burst G
        → cond me (ln.full && ln.dirty && not (hits G w n v ca)) (turns_cache_off w v && not (eqb (count_dirty G ca) 0)) ≡ true
        → Phase G w n k r v ca
    go true me hc = all3 ln.full ln.dirty (not (hits G w n v ca)) (λ f d h. write_back
        (cached-is k (sym is.through ∙ (me &t ok.shown f))) ph hc (not-true (hits G w n v ca) h) d)
    go false me hc = both (turns_cache_off w v) (not (eqb (count_dirty G ca) 0)) (λ o z. clearing_off
        (clearing_is k (sym is.off ∙ o)) ph hc (eqb-false (count_dirty G ca) 0 (not-true (eqb (count_dirty G ca) 0) z)))

pub phase-from : (G : Geometry) (w n : ℕ) (k : Kind) (r : Running) (v : Visible) (ca : Cache) → Is k w v n
    → LineFits G (cache_on v) n (target_line G w v n) (line_for G w n v ca) → phase_ok G w n r v ca ≡ true → Phase G w n k r v ca
unfolding phase_ok arithmetic_ok refill_ok wait_ok
phase-from G w n k r v ca is ok t = go (eqb r.phase 0) refl (eqb r.phase 1) refl (eqb r.phase 2) refl (eqb r.phase 3) refl
    (eqb r.phase 4) refl t
  where
    go : (a : Bool) → eqb r.phase 0 ≡ a → (b : Bool) → eqb r.phase 1 ≡ b → (c : Bool) → eqb r.phase 2 ≡ c
        → (d : Bool) → eqb r.phase 3 ≡ d → (e : Bool) → eqb r.phase 4 ≡ e
        → cond a (eqb r.count 0) (cond b (arithmetic_ok w r.count) (cond c (writeback_ok G w n r.count v ca)
        (cond d (refill_ok G w n r.count v ca) (cond e (wait_ok w n r.count v)
        (eqb r.phase 5 && eqb r.count 0 && due_ok G w n v ca))))) ≡ true
        → Phase G w n k r v ca
    go true a b p c q d x e y = λ z. ready (eqb-true r.phase 0 a) (eqb-true r.count 0 z)
    go false a true p c q d x e y = all3 (leb 1 r.count) (leb r.count 32) (is_stepped w) (λ i j s. arithmetic
        (longer-is k (sym is.stepped ∙ s)) (eqb-true r.phase 1 p) (leb-true 1 r.count i) (leb-true r.count 32 j))
    go false a false p true q d x e y = write-from G w n k r v ca is ok (eqb-true r.phase 2 q)
    go false a false p false q true x e y = all3 (ltb r.count (burst G)) (through_cache w v n) (not (line_for G w n v ca).full) (λ i s f.
        refill (cached-is k (sym is.through ∙ s)) (eqb-true r.phase 3 x) (ltb-true r.count (burst G) i) (not-true _ f))
    go false a false p false q false x true y = all3 (leb 1 r.count) (leb r.count (cond (is_load w) 5 4)) (without_cache w v n)
        (λ i j s.
        let kq = uncached_is k (sym is.without ∙ s) in waiting kq (eqb-true r.phase 4 y) (leb-true 1 r.count i)
        (omega (arith, leb-true r.count (cond (is_load w) 5 4) j, waits-are (subst (λ j. Is j w v n) kq is))))
    go false a false p false q false x false y = all3 (eqb r.phase 5) (eqb r.count 0) (due_ok G w n v ca) (λ i j s.
        due (eqb-true r.phase 5 i) (eqb-true r.count 0 j) s)

pub valid-from : (G : Geometry) (p : List ℕ) (n : ℕ) (m : Machine) → Shaped G m → 0 < G.lines → record_ok G p n m ≡ true → Valid G p n m
unfolding record_ok lines_ok marks_ok line_for
valid-from G p n m sh pos = both (widths_ok v && phase_ok G w n r v ca && registers_ok w r v && counts_ok m.scalars.counts)
    (lines_ok G (cache_on v) n ca) (λ t lt. all4 (widths_ok v) (phase_ok G w n r v ca) (registers_ok w r v) (counts_ok m.scalars.counts)
    (λ wt pt rt ct. record {
      narrow = widths-from v wt;
      counts = counts-from m.scalars.counts ct;
      wide = record {
        full = sh.full;
        dirty = sh.dirty;
        block = sh.block;
        words = sh.words;
        full_mark = λ l h. (marks l (each lt l h)).0;
        dirty_mark = λ l h. (marks l (each lt l h)).1;
      };
      lines = fits lt;
      phase = phase-from G w n (kind_of w v n) r v ca (kind-is w v n) (fits lt (target_line G w v n) (line_in_lem G w v n pos)) pt;
      registers = registers-from w r v rt;
    }) t)
  where
    w : ℕ
    w = word_at p m.scalars.pc

    v : Visible
    v = visible_of m

    r : Running
    r = m.scalars.running

    ca : Cache
    ca = cache_of m

    on : ℕ → Bool
    on l = line_ok G (cache_on v) n l (line_at G ca l)

    each : lines_ok G (cache_on v) n ca ≡ true → (l : ℕ) → l < G.lines → marks_ok ca l && on l ≡ true
    each = below_all G.lines (λ l. marks_ok ca l && on l)

    marks : (l : ℕ) → marks_ok ca l && on l ≡ true → (get_or m.full l 0 < 2) × (get_or m.dirty l 0 < 2)
    marks l = all3 (ltb (get_or m.full l 0) 2) (ltb (get_or m.dirty l 0) 2) (on l)
        (λ a b c. (ltb-true (get_or m.full l 0) 2 a, ltb-true (get_or m.dirty l 0) 2 b))

    fits : lines_ok G (cache_on v) n ca ≡ true → (l : ℕ) → l < G.lines → LineFits G (cache_on v) n l (line_at G ca l)
    fits lt l h = both (marks_ok ca l) (on l) (λ a b. line-from G (cache_on v) n l (line_at G ca l) b) (each lt l h)
