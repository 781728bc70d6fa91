-- What a run that stops before an access to a device has done: clocks without an answer.
-- Idea: its answer bytes are those of the clocks done, then zeros; they are all zeros, as they were.
--   able_reached   the run's first state        silent-from   what it has done
use Prim.Native.Nat.{ℕ, zero, suc, ◌≤◌}
use mathlib.Core.Path.{◌≡◌, refl, sym, ap, ◌∙◌}
use mathlib.Core.List.{List, [], ◌∷◌, ◌++◌}
use lib.ListN.{length, take, drop, replicate, length-replicate}
use lib.Seq.{take_at, length-take-le}
use native.Mathlib.Nat.{le_of_suc-le-suc}
use native.Mathlib.Omega.{arith}
use Rattle.trm_reference.specs.Geometry.{paper_geometry}
use Rattle.trm_reference.specs.Trace.{pins_of, clocks, end_of, outs_of, finished_in}
use Rattle.trm_core.specs.Record.{Lent}
use Rattle.trm_core.specs.Clock.{clock_of}
use Rattle.trm_core.specs.Run.{bytes_of}
use Rattle.trm_run_phases.specs.Reached.{Point, hist, Reached}
use Rattle.trm_run_phases.proofs.Laws.Reached.{reached-none}
use Rattle.trm_run_machine.specs.Quiet.{zero_pins, zero_clocks, Silent, Able}

pub take-zeros : (k m : ℕ) → k ≤ m → take {A = ℕ} k (replicate m 0) ≡ replicate k 0
take-zeros zero m h = refl
take-zeros (suc k) zero h = absurd (omega arith)
take-zeros (suc k) (suc m) h = ap (λ t. 0 ∷ t) (take-zeros k m (le_of_suc-le-suc h))

pins-zero : (k : ℕ) (ls : List ℕ) → k ≤ length ls → take k (pins_of ls (replicate (length ls) 0)) ≡ zero_pins (take k ls)
unfolding pins_of zero_pins
pins-zero zero ls h = refl
pins-zero (suc k) [] h = absurd (omega arith)
pins-zero (suc k) (l ∷ ls) h = ap (λ t. record { line_byte = l; input = 0 } ∷ t) (pins-zero k ls (le_of_suc-le-suc h))

bytes-length : (p ls : List ℕ) (x : Lent) → length (bytes_of (outs_of (zero_clocks p ls x))) ≡ length ls
unfolding zero_pins clocks outs_of bytes_of
bytes-length p [] x = refl
bytes-length p (l ∷ ls) x = ap suc (bytes-length p ls (clock_of paper_geometry p x (record { line_byte = l; input = 0 })).state)

-- n of 64 zeros
pub zeros_in : (ls : List ℕ) → length ls ≤ 64 → take {A = ℕ} (length ls) (replicate 64 0) ≡ replicate (length ls) 0
zeros_in ls few = take-zeros (length ls) 64 few

pub zeros-count : (ls : List ℕ) → length ls ≤ 64 → length ls ≡ length (take {A = ℕ} (length ls) (replicate 64 0))
zeros-count ls few = sym (ap length (zeros_in ls few) ∙ length-replicate (length ls) 0)

module _ (p ls : List ℕ) (x : Lent) (a : Able p x ls) (is : List ℕ) (zero-inputs : is ≡ replicate (length ls) 0) where
  pub able_reached : (bs ws : List ℕ) → bs ≡ replicate (length ls) 0 → ws ≡ replicate (length ls) 0
      → Reached p ls is x (record { lent = x; finished = 0; at = 0 }) bs ws
  able_reached bs ws b w = rw (b, w, zero-inputs) (reached-none p ls (replicate (length ls) 0) x (record {
    fed = sym (length-replicate (length ls) 0);
    many = omega (arith, a.few);
    low = a.low;
    room = a.room;
  }) (record { program = a.program; store = a.store; rule = a.rule }) a.shaped)

  pub silent-from : (q : Point) (bs ws : List ℕ) → Reached p ls is x q bs ws → bs ≡ replicate (length ls) 0
      → (q.at ≤ length ls) × Silent p (take q.at ls) x q.lent q.finished
  unfolding hist
  silent-from q bs ws r e = (
    r.below,
    record { state = r.state ∙ ap (end_of x) same; bytes = mute; done = r.done ∙ ap (λ t. finished_in (outs_of t)) same },
  )
    where
      same : hist p x ls is q.at ≡ zero_clocks p (take q.at ls) x
      same = ap (λ t. clocks (clock_of paper_geometry p) x (take q.at (pins_of ls t))) zero-inputs
          ∙ ap (clocks (clock_of paper_geometry p) x) (pins-zero q.at ls r.below)

      long : length (take q.at ls) ≡ q.at
      long = length-take-le q.at ls r.below

      mute : bytes_of (outs_of (zero_clocks p (take q.at ls) x)) ≡ replicate (length (take q.at ls)) 0
      mute = sym (take_at (bytes_of (outs_of (zero_clocks p (take q.at ls) x))) (drop q.at (replicate (length ls) 0)) q.at
          (bytes-length p (take q.at ls) x ∙ long))
          ∙ ap (λ t. take q.at (bytes_of (outs_of t) ++ drop q.at (replicate (length ls) 0))) (sym same)
          ∙ ap (take q.at) (sym r.bytes ∙ e) ∙ take-zeros q.at (length ls) r.below ∙ ap (λ k. replicate k 0) (sym long)
