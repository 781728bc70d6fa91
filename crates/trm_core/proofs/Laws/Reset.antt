-- The record after a reset: its lines are empty, and it is accepted.
-- Every clause of the record rule, at zeros.
--   first-line, first-words, first-wide   the first cache        reset_legal   an accepted reset        reset_kept   its record is accepted
use Prim.Native.Nat.{ℕ, ◌*◌, ◌≤◌, ◌<◌}
use mathlib.Core.Path.{◌≡◌, refl}
use mathlib.Core.Bool.{Bool, true, false, cond}
use mathlib.Core.List.{List}
use lib.ListN.{length, drop, replicate, get_or-replicate, length-drop, length-replicate}
use lib.Seq.{length-take-le}
use borrow.Author.Tests.{eq-eqb}
use native.Mathlib.Omega.{arith}
use native.Mathlib.Nat.{mul-le-mul_right, suc-mul}
use Rattle.trm_laws.proofs.Tests.{bool_clash}
use Rattle.trm_word.specs.Address.{store_length_ok}
use Rattle.trm_reference.specs.Geometry.{Geometry, geometry_ok}
use Rattle.trm_cache.specs.Cache.{cache, stride, line_at}
use Rattle.trm_cache.specs.declared.record.Cache.{Cache}
use Rattle.trm_cache.proofs.Laws.Lines.{Wide}
use Rattle.trm_core.specs.Record.{reset_of, start}
use Rattle.trm_core.specs.Refusals.{store_ok, reset_refusal}
use Rattle.trm_core.specs.Claims.{Kept}
use Rattle.trm_core.proofs.Laws.Fit.{fit}
use Rattle.trm_core.proofs.Laws.Rule.{valid-ok, ready}
use Rattle.trm_core.proofs.Laws.Phases.{idle}

unfoldable pub zeros : ℕ → List ℕ
zeros k = replicate k 0

pub length-zeros : (k : ℕ) → length (zeros k) ≡ k
unfolding zeros
length-zeros k = length-replicate k 0

-- reset takes only the store
pub reset_legal : (s : List ℕ) → reset_refusal s ≡ 0 → store_length_ok (length s) ≡ true
unfolding reset_refusal
reset_legal s r = go (store_length_ok (length s)) r
  where
    go : (t : Bool) → ◌≡◌ {A = ℕ} (cond t 0 4) 0 → t ≡ true
    go true y = refl
    go false y = absurd (omega arith)

module _ (G : Geometry) where
  unfoldable pub first : Cache
  first = cache (zeros G.lines) (zeros G.lines) (zeros G.lines) (zeros (G.lines * stride G))

  pub first-line : (l : ℕ) → l < G.lines
      → ((line_at G first l).full ≡ false) × ((line_at G first l).dirty ≡ false) × ((line_at G first l).block ≡ 0)
  unfolding line_at first zeros
  first-line l h = (
    (rw (get_or-replicate {A = ℕ} G.lines l 0 0 h)),
    (rw (get_or-replicate {A = ℕ} G.lines l 0 0 h)),
    (rw (get_or-replicate {A = ℕ} G.lines l 0 0 h)),
  )

  pub first-words : (l : ℕ) → l < G.lines → G.words ≤ length (line_at G first l).words
  unfolding line_at first zeros
  first-words l h = rw (length-take-le (stride G) (drop (l * stride G) (zeros (G.lines * stride G))) enough) (omega arith)
    where
      enough : stride G ≤ length (drop (l * stride G) (zeros (G.lines * stride G)))
      enough = rw (length-drop (l * stride G) (zeros (G.lines * stride G)), length-zeros)
          (omega (arith, mul-le-mul_right (stride G) h, suc-mul l (stride G)))

  pub first-wide : Wide G first
  unfolding first zeros
  first-wide = record {
    full = rw length-zeros (omega arith);
    dirty = rw length-zeros (omega arith);
    block = rw length-zeros (omega arith);
    words = rw length-zeros (omega arith);
    full_mark = λ k h. rw (get_or-replicate {A = ℕ} G.lines k 0 0 h) (omega arith);
    dirty_mark = λ k h. rw (get_or-replicate {A = ℕ} G.lines k 0 0 h) (omega arith);
  }

  pub reset_kept : (p s : List ℕ) → geometry_ok G ≡ true → reset_refusal s ≡ 0 → Kept G p (start G s)
  unfolding reset_of store_ok first zeros
  reset_kept p s e r = record {
    shaped = record {
      regs = omega arith;
      full = first-wide.full;
      dirty = first-wide.dirty;
      block = first-wide.block;
      words = first-wide.words;
    };
    store = rw (reset_legal s r) (eq-eqb (length s) (length s) refl);
    record_ok_lem = valid-ok G p (length s) (reset_of G s) (fit G (length s) e (reset_legal s r)).lpos (record {
      narrow = record { pc = omega arith; n = omega arith; z = omega arith; c = omega arith; v = omega arith; status = omega arith };
      counts = record { clocks = omega arith; held = omega arith; refills = omega arith; writebacks = omega arith };
      wide = first-wide;
      lines = λ l h. record {
        home = λ q. bool_clash (line_at G first l).full q (first-line l h).0;
        inside = λ q. bool_clash (line_at G first l).full q (first-line l h).0;
        shown = λ q. bool_clash (line_at G first l).full q (first-line l h).0;
        empty_clean = λ q. (first-line l h).1;
        empty_zero = λ q. (first-line l h).2;
      };
      phase = ready refl refl;
      registers = idle _ _ 0 0 refl;
    });
  }
