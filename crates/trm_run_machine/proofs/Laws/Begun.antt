-- The first state of a run: no clock done, the buffers cleared.
-- Idea: the rows that it passed (run-passed), and the law of a run of 0 clocks (reached-none).
use Prim.Native.Nat.{ℕ}
use mathlib.Core.Path.{◌≡◌}
use mathlib.Core.List.{List}
use lib.ListN.{length, replicate}
use Rattle.trm_reference.specs.Geometry.{paper_geometry}
use Rattle.trm_core.specs.Record.{Lent}
use Rattle.trm_core.specs.Claims.{Shaped}
use Rattle.trm_core.specs.Refusals.{run_refusal}
use Rattle.trm_run_phases.specs.Reached.{Reached}
use Rattle.trm_run_phases.proofs.Laws.Reached.{reached-none}
use Rattle.trm_run_machine.proofs.Laws.Accepted.{run-passed}

pub begun : (p : List ℕ) (x : Lent) (line_bytes inputs bytes words bytes' words' : List ℕ)
    → run_refusal paper_geometry p x.machine x.store line_bytes inputs bytes words ≡ 0 → Shaped paper_geometry x.machine
    → bytes' ≡ replicate (length bytes) 0 → words' ≡ replicate (length words) 0
    → Reached p line_bytes inputs x (record { lent = x; finished = 0; at = 0 }) bytes' words'
begun p x line_bytes inputs bytes words bytes' words' passed shaped b w =
    let q = run-passed p x.machine x.store line_bytes inputs bytes words passed in
    rw (b, w, q.1.wide, q.1.broad)
    (reached-none p line_bytes inputs x (record { fed = q.1.fed; many = q.1.few; low = q.1.low; room = q.1.room }) q.0 shaped)
