-- The record rule's boolean tests as facts, for the proofs of one clock.
-- Idea: trm_core's laws of the rule take each test apart.
--   facts   all facts of a record that keeps the rule        few-clocks   its count is below 33
use Prim.Native.Nat.{ℕ, ◌+◌, ◌/◌, ◌^◌, ◌≤◌, ◌<◌}
use mathlib.Core.Path.{◌≡◌, refl}
use mathlib.Core.Bool.{Bool, true, false, cond, ◌&&◌}
use mathlib.Core.List.{List}
use lib.Dec.{leb}
use borrow.Author.Tests.{leb-true}
use native.Mathlib.Omega.{arith}
use native.Mathlib.Nat.{mod-lt}
use Rattle.trm_laws.proofs.Tests.{both, all4}
use Rattle.trm_word.specs.Fields.{operation}
use Rattle.trm_word.specs.Charge.{charge_of}
use Rattle.trm_word.specs.Address.{store_length_ok}
use Rattle.trm_reference.specs.Geometry.{paper_geometry, one_of, geometry_ok, burst}
use Rattle.trm_reference.specs.Visible.{Visible, cache_on, word_at}
use Rattle.trm_reference.specs.Access.{is_load, target_line}
use Rattle.trm_reference.specs.Charge.{uncached_charge}
use Rattle.trm_reference.proofs.Laws.Execute.{Narrow}
use Rattle.trm_cache.specs.Cache.{line_at}
use Rattle.trm_cache.specs.declared.record.Cache.{Cache}
use Rattle.trm_core.specs.declared.record.Scalars.{Scalars}
use Rattle.trm_core.specs.Record.{gathered, whole}
use Rattle.trm_core.specs.Clock.{line_for}
use Rattle.trm_core.specs.Rule.{widths_ok, counts_ok, registers_ok, phase_ok, all_below, marks_ok, line_ok, lines_ok, record_ok}
use Rattle.trm_core.proofs.Laws.Fit.{Fit, fit, below_all, line_in_lem}
use Rattle.trm_core.proofs.Laws.Kind.{kind_of, kind-is, uncached, is-of, waits-are}
use Rattle.trm_core.proofs.Laws.Rule.{LineFits, line-from, CountsFit, counts-from, Registers, registers-from, widths-from, phase-from}
use Rattle.trm_core.proofs.Laws.Rule.{Phase, ready, arithmetic, write_back, clearing_off, refill, waiting, due}
use Rattle.trm_clock_laws.specs.Good.{Good}

pub paper_ok : geometry_ok paper_geometry ≡ true
unfolding geometry_ok one_of
paper_ok = refl

pub lines_fit : (n : ℕ) (c : Scalars) (rs : List ℕ) (ca : Cache) → lines_ok paper_geometry (cache_on (gathered c rs)) n ca ≡ true
    → (l : ℕ) → l < 16 → LineFits paper_geometry (cache_on (gathered c rs)) n l (line_at paper_geometry ca l)
unfolding lines_ok
lines_fit n c rs ca t l h = both (marks_ok ca l) (line_ok paper_geometry on n l (line_at paper_geometry ca l))
    (λ a b. line-from paper_geometry on n l (line_at paper_geometry ca l) b)
    (below_all 16 (λ k. marks_ok ca k && line_ok paper_geometry on n k (line_at paper_geometry ca k)) t l h)
  where
    on : Bool
    on = cache_on (gathered c rs)

pub record Facts (w n : ℕ) (c : Scalars) (rs : List ℕ) (ca : Cache) : Type 0 where
  pub fit : Fit paper_geometry n
  pub narrow : Narrow (gathered c rs)
  pub counts : CountsFit c.counts
  pub lines : (l : ℕ) → l < 16 → LineFits paper_geometry (cache_on (gathered c rs)) n l (line_at paper_geometry ca l)
  pub phase : Phase paper_geometry w n (kind_of w (gathered c rs) n) c.running (gathered c rs) ca
  pub registers : Registers w c.running (gathered c rs)
  pub rule : registers_ok w c.running (gathered c rs) ≡ true

pub facts : (w n : ℕ) (c : Scalars) (rs : List ℕ) (ca : Cache) → Good w n c rs ca → Facts w n c rs ca
unfolding line_for
facts w n c rs ca g = record {
  fit = f;
  narrow = widths-from (gathered c rs) g.widths;
  counts = counts-from c.counts g.counts;
  lines = lines_fit n c rs ca g.lines;
  phase = phase-from paper_geometry w n (kind_of w (gathered c rs) n) c.running (gathered c rs) ca (kind-is w (gathered c rs) n)
      (lines_fit n c rs ca g.lines (target_line paper_geometry w (gathered c rs) n) (line_in_lem paper_geometry w (gathered c rs) n f.lpos))
      g.phase;
  registers = registers-from w c.running (gathered c rs) g.registers;
  rule = g.registers;
}
  where
    f : Fit paper_geometry n
    f = fit paper_geometry n paper_ok g.legal

waits : (w : ℕ) (c : Scalars) (t : Bool) → uncached_charge w ≡ cond t 5 4 + 1 → c.running.count < uncached_charge w → c.running.count < 10
waits w c true e h = omega arith
waits w c false e h = omega arith

pub few-waits : (w n : ℕ) (c : Scalars) (rs : List ℕ) → kind_of w (gathered c rs) n ≡ uncached → c.running.count < uncached_charge w
    → c.running.count < 10
few-waits w n c rs q = waits w c (is_load w) (waits-are (is-of w (gathered c rs) n uncached q))

pub few-clocks : (w n : ℕ) (c : Scalars) (rs : List ℕ) (ca : Cache) → Facts w n c rs ca → c.running.count < 33
unfolding burst
few-clocks w n c rs ca f = go f.phase
  where
    go : Phase paper_geometry w n (kind_of w (gathered c rs) n) c.running (gathered c rs) ca → c.running.count < 33
    go (ready p e) = omega arith
    go (arithmetic k p a b) = omega arith
    go (write_back k p h x d) = omega arith
    go (clearing_off k p h s) = omega arith
    go (refill k p h e) = omega arith
    go (waiting k p a b) = omega (arith, few-waits w n c rs k b)
    go (due p e d) = omega arith

-- a base charge is at most 33
pub charge-small : (w : ℕ) → charge_of (operation w) ≤ 33
unfolding all_below
charge-small w = leb-true (charge_of (operation w)) 33
    (below_all 16 (λ o. leb (charge_of o) 33) refl (operation w) (mod-lt (w / 2 ^ 14) {m = 2 ^ 4} (omega arith)))

-- and at least 1
pub charge-some : (w : ℕ) → 1 ≤ charge_of (operation w)
unfolding all_below
charge-some w = leb-true 1 (charge_of (operation w))
    (below_all 16 (λ o. leb 1 (charge_of o)) refl (operation w) (mod-lt (w / 2 ^ 14) {m = 2 ^ 4} (omega arith)))

-- row 5 for the word at PC
pub good-at : (p : List ℕ) (n : ℕ) (c : Scalars) (rs : List ℕ) (ca : Cache) → store_length_ok n ≡ true
    → record_ok paper_geometry p n (whole c rs ca) ≡ true → Good (word_at p c.pc) n c rs ca
unfolding record_ok
good-at p n c rs ca f = both (widths_ok v && phase_ok paper_geometry w n c.running v ca && registers_ok w c.running v && counts_ok
    c.counts)
    (lines_ok paper_geometry (cache_on v) n ca) (λ t lt. all4 (widths_ok v) (phase_ok paper_geometry w n c.running v ca)
    (registers_ok w c.running v) (counts_ok c.counts)
    (λ a b d e. record { legal = f; widths = a; phase = b; registers = d; counts = e; lines = lt }) t)
  where
    w : ℕ
    w = word_at p c.pc

    v : Visible
    v = gathered c rs
