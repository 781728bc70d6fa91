-- The outcome of look, copy and watch on every input, refused or not: the number, and the word, the buffer or the clock.
-- Paper: "A look gives one word of data memory .. a copy fills a buffer with all of it"; "the watch names a clock, from 0, whose byte
-- shows that device written, or none if there is no such clock"; "It returns the number only and writes nothing".
--   look_gives p x address    copy_gives p x buffer    the outcome of each
--   LookHolds, CopyHolds, WatchHolds                 the whole promise of each call, r being its result
use Rattle.std.specs.Prelude.{ℕ, ◌≡◌, cond, List, eqb, Option, Result, IfOk}
use Rattle.trm_reference.specs.Geometry.{paper_geometry}
use Rattle.trm_cache.specs.Cache.{copy_of}
use Rattle.trm_core.specs.Record.{Lent, cache_of}
use Rattle.trm_core.specs.Observe.{look_at, SightingHolds}
use Rattle.trm_core.specs.Refusals.{look_refusal, copy_refusal, watch_refusal}
use Rattle.trm_call_refusals.specs.declared.refusal.Refusal.{Refusal}
use Rattle.trm_call_refusals.specs.Numbers.{number_in}
use Rattle.trm_run_machine.specs.declared.machine.Machine.{Machine}
use Rattle.trm_run_machine.specs.Machine.{record_of, lent}

-- one word; 0 if refused
unfoldable pub look_gives : List ℕ → Lent → ℕ → ℕ
look_gives p x address =
    cond (eqb (look_refusal paper_geometry p x.machine x.store address) 0)
    (look_at paper_geometry x.machine x.store address)
    0

-- all words; if refused, the buffer is unchanged
unfoldable pub copy_gives : List ℕ → Lent → List ℕ → List ℕ
copy_gives p x buffer =
    cond (eqb (copy_refusal paper_geometry p x.machine x.store buffer) 0)
    (copy_of paper_geometry (cache_of x.machine) x.store)
    buffer

pub record LookHolds (m : Machine) (p s : List ℕ) (address : ℕ) (r : Result ℕ Refusal) : Type 0 where
  pub number : number_in r ≡ look_refusal paper_geometry p (record_of m) s address
  pub word : IfOk r (λ w. w ≡ look_gives p (lent m s) address)

-- b is the buffer before the call, b' after it
pub record CopyHolds (m : Machine) (p s b : List ℕ) (r : Result (Unit {0}) Refusal) (b' : List ℕ) : Type 0 where
  pub number : number_in r ≡ copy_refusal paper_geometry p (record_of m) s b
  pub buffer : b' ≡ copy_gives p (lent m s) b

-- an accepted watch may name any of several matching clocks; a refused one names none
pub record WatchHolds (bytes : List ℕ) (device : ℕ) (r : Result (Option ℕ) Refusal) : Type 0 where
  pub number : number_in r ≡ watch_refusal device
  pub accepted : IfOk r (SightingHolds bytes device)
