-- Every clock of any record adds 1 to the clock count, keeps `size`, ends at most one instruction, and has no word without a byte.
-- Idea: each branch of the clock's definition ends in `advanced`, `ended` or `waited`.
--   clock-adds   all four facts
use Prim.Native.Nat.{ℕ, ◌+◌, ◌*◌, ◌≤◌}
use mathlib.Core.Path.{◌≡◌, refl}
use mathlib.Core.Bool.{Bool, true, false, cond, not, ◌&&◌}
use mathlib.Core.List.{List}
use lib.ListN.{length}
use lib.Dec.{eqb}
use native.Mathlib.Omega.{arith}
use Rattle.trm_laws.proofs.Tests.{chosen}
use Rattle.trm_reference.specs.Geometry.{paper_geometry, burst}
use Rattle.trm_reference.specs.Visible.{Visible, word_at}
use Rattle.trm_reference.specs.Access.{is_store, place_of_word, to_device, device_number, target_block, target_line, stored}
use Rattle.trm_reference.specs.Access.{Answer, silent, device_answer, answer_of}
use Rattle.trm_reference.specs.Interrupt.{stalled, interrupt_chosen}
use Rattle.trm_reference.specs.Charge.{is_stepped, through_cache, without_cache, turns_cache_off}
use Rattle.trm_reference.specs.Trace.{Pins, After}
use Rattle.trm_cache.specs.Cache.{line_at, cleaned, first_dirty, write_word}
use Rattle.trm_cache.specs.declared.record.Cache.{Cache}
use Rattle.trm_core.specs.declared.record.Scalars.{Scalars}
use Rattle.trm_core.specs.Record.{Machine, Lent, visible_of, cache_of}
use Rattle.trm_core.specs.Clock.{Moved, hits, is_last, finish, written, writing}
use Rattle.trm_core.specs.Clock.{filling, missing, first_clock, write_line, advance, worked, unheld}
use Rattle.trm_core.specs.Clock.{held_clock, clock_of}
use Rattle.trm_core.proofs.Laws.Deaf.{answer-done}

pub record Adds (c : Scalars) (t : Moved) : Type 0 where
  pub adds : t.scalars.counts.clocks ≡ c.counts.clocks + 1
  pub size : t.scalars.size ≡ c.size

written-adds : (clears : Bool) (l : ℕ) (c : Scalars) (ca : Cache) (s : List ℕ) → Adds c (written paper_geometry clears l c ca s)
unfolding written
written-adds clears l c ca s = chosen (Adds c) clears (record { adds = refl; size = refl }) (record { adds = refl; size = refl })

writing-adds : (clears : Bool) (l k : ℕ) (c : Scalars) (ca : Cache) (s : List ℕ) → Adds c (writing paper_geometry clears l k c ca s)
unfolding writing
writing-adds clears l k c ca s = chosen (Adds c) (eqb (k + 1) (burst paper_geometry))
    (written-adds clears l c (cleaned ca l) (write_word paper_geometry (line_at paper_geometry ca l) s k))
    (record { adds = refl; size = refl })

filling-adds : (b l k : ℕ) (c : Scalars) (ca : Cache) (s : List ℕ) → Adds c (filling paper_geometry b l k c ca s)
unfolding filling
filling-adds b l k c ca s = chosen (Adds c) (eqb (k + 1) (burst paper_geometry))
    (record { adds = refl; size = refl }) (record { adds = refl; size = refl })

missing-adds : (l : ℕ) (c : Scalars) (ca : Cache) (s : List ℕ) → Adds c (missing paper_geometry l c ca s)
unfolding missing
missing-adds l c ca s = chosen (Adds c) (line_at paper_geometry ca l).dirty
    (record { adds = refl; size = refl }) (record { adds = refl; size = refl })

first-adds : (w n : ℕ) (c : Scalars) (v : Visible) (ca : Cache) (s : List ℕ) → Adds c (first_clock paper_geometry w n c v ca s)
unfolding first_clock
first-adds w n c v ca s = chosen (Adds c) (is_stepped w) (record { adds = refl; size = refl })
    (chosen (Adds c) (without_cache w v n) (record { adds = refl; size = refl })
    (chosen (Adds c) (turns_cache_off w v) (writing-adds _ (first_dirty paper_geometry ca) 0 c ca s)
    (chosen (Adds c) (through_cache w v n && not (hits paper_geometry w n v ca)) (missing-adds (target_line paper_geometry w v n) c ca s)
    (record { adds = refl; size = refl }))))

advance-adds : (w n : ℕ) (c : Scalars) (v : Visible) (ca : Cache) (s : List ℕ) → Adds c (advance paper_geometry w n c v ca s)
unfolding advance
advance-adds w n c v ca s = chosen (Adds c) (eqb c.running.phase 0) (first-adds w n c v ca s)
    (chosen (Adds c) (eqb c.running.phase 1) (record { adds = refl; size = refl })
    (chosen (Adds c) (eqb c.running.phase 2)
    (writing-adds (turns_cache_off w v) (write_line paper_geometry w n v ca) c.running.count c ca s)
    (chosen (Adds c) (eqb c.running.phase 3)
    (filling-adds (target_block paper_geometry w v n) (target_line paper_geometry w v n) c.running.count c ca s)
    (record { adds = refl; size = refl }))))

-- the same for the whole clock
pub record Clocks (c : Scalars) (t : After Lent Answer) : Type 0 where
  pub adds : t.state.machine.scalars.counts.clocks ≡ c.counts.clocks + 1
  pub size : t.state.machine.scalars.size ≡ c.size
  pub done : t.out.done ≤ 1
  pub mute : t.out.byte ≡ 0 → t.out.word ≡ 0

-- an answer with byte 0 has word 0: a device's byte is never 0
answer-mute : (w : ℕ) (v : Visible) (n i : ℕ) → (answer_of w v n i).byte ≡ 0 → (answer_of w v n i).word ≡ 0
unfolding answer_of device_answer
answer-mute w v n i = go (to_device w v n) (is_store w)
  where
    d : ℕ
    d = device_number (place_of_word w v n)

    go : (t u : Bool) → (cond t (cond u (record { byte = d * 4 + 2; word = stored w v; done = 1 })
        (record { byte = d * 4 + 1; word = i; done = 1 })) (silent 1)).byte ≡ 0
        → (cond t (cond u (record { byte = d * 4 + 2; word = stored w v; done = 1 })
        (record { byte = d * 4 + 1; word = i; done = 1 })) (silent 1)).word ≡ 0
    go true true e = absurd (omega (arith, e))
    go true false e = absurd (omega (arith, e))
    go false u e = refl

worked-adds : (w n : ℕ) (m : Machine) (s : List ℕ) (i : ℕ) → Clocks m.scalars (worked paper_geometry w n m s i)
unfolding worked finish
worked-adds w n m s i = chosen (Clocks m.scalars) (is_last paper_geometry w n m.scalars.running (visible_of m) (cache_of m))
    (record { adds = refl; size = refl; done = omega (arith, answer-done w (visible_of m) n i); mute = answer-mute w (visible_of m) n i })
    (let a = advance-adds w n m.scalars (visible_of m) (cache_of m) s in
    record { adds = a.adds; size = a.size; done = omega arith; mute = λ _. refl })

pub clock-adds : (p : List ℕ) (x : Lent) (pins : Pins) → Clocks x.machine.scalars (clock_of paper_geometry p x pins)
unfolding clock_of unheld held_clock
clock-adds p x pins = let m = x.machine in
    chosen (Clocks m.scalars) (stalled pins.line_byte) (record { adds = refl; size = refl; done = omega arith; mute = λ _. refl })
    (chosen (Clocks m.scalars)
    (eqb m.scalars.running.phase 0 && not (eqb (interrupt_chosen m.scalars.status pins.line_byte) 0))
    (record { adds = refl; size = refl; done = omega arith; mute = λ _. refl })
    (worked-adds (word_at p m.scalars.pc) (length x.store) m x.store pins.input))
