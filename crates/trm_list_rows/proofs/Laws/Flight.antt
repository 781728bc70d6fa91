-- A word in flight stays in flight until it is executed.
-- Idea: a clock that does not end the word leaves the record in one of the phases 1 to 5.
use Prim.Native.Nat.{ℕ, ◌+◌}
use mathlib.Core.Path.{◌≡◌}
use mathlib.Core.Logic.{◌≢◌}
use mathlib.Core.Bool.{Bool, true, false, cond}
use mathlib.Core.List.{List}
use native.Mathlib.Omega.{arith}
use lib.ListN.{length}
use lib.Dec.{eqb}
use borrow.Author.Tests.{ne_eqb}
use Rattle.trm_laws.proofs.Tests.{chosen}
use Rattle.trm_reference.specs.Geometry.{paper_geometry, burst}
use Rattle.trm_reference.specs.Visible.{Visible, word_at}
use Rattle.trm_reference.specs.Access.{target_block, target_line, Answer}
use Rattle.trm_reference.specs.Interrupt.{stalled}
use Rattle.trm_reference.specs.Charge.{turns_cache_off}
use Rattle.trm_reference.specs.Trace.{Pins, After}
use Rattle.trm_cache.specs.Cache.{count_dirty, cleaned}
use Rattle.trm_cache.specs.declared.record.Cache.{Cache}
use Rattle.trm_core.specs.declared.record.Running.{Running}
use Rattle.trm_core.specs.declared.record.Scalars.{Scalars}
use Rattle.trm_core.specs.Record.{Machine, Lent, visible_of, cache_of}
use Rattle.trm_core.specs.Clock.{Moved, quiet, written, writing, filling, write_line, advance, is_last, finish, worked, unheld, clock_of}
use Rattle.trm_core.proofs.Laws.Deaf.{answer-done}

abbrev Busy : Moved → Type 0
Busy t = t.scalars.running.phase ≢ 0

module _ (c : Scalars) (ca : Cache) (s : List ℕ) where
  written-busy : (off : Bool) (l : ℕ) → Busy (written paper_geometry off l c ca s)
  unfolding written
  written-busy off l = chosen Busy off
      (chosen (λ (r : Running). r.phase ≢ 0) (eqb (count_dirty paper_geometry ca) 0) (λ z. absurd (omega (arith, z))) (λ z. absurd
      (omega (arith, z))))
      (λ z. absurd (omega (arith, z)))

  filling-busy : (b l k : ℕ) → Busy (filling paper_geometry b l k c ca s)
  unfolding filling
  filling-busy b l k = chosen Busy (eqb (k + 1) (burst paper_geometry)) (λ z. absurd (omega (arith, z))) (λ z. absurd (omega (arith, z)))

writing-busy : (off : Bool) (l k : ℕ) (c : Scalars) (ca : Cache) (s : List ℕ) → Busy (writing paper_geometry off l k c ca s)
unfolding writing
writing-busy off l k c ca s = chosen Busy (eqb (k + 1) (burst paper_geometry)) (written-busy c (cleaned ca l) _ off l)
    (λ z. absurd (omega (arith, z)))

advance-busy : (w n : ℕ) (c : Scalars) (v : Visible) (ca : Cache) (s : List ℕ) → c.running.phase ≢ 0
    → Busy (advance paper_geometry w n c v ca s)
unfolding advance
advance-busy w n c v ca s z = rw (ne_eqb c.running.phase 0 z)
    (chosen Busy (eqb c.running.phase 1) (λ y. absurd (omega (arith, y)))
    (chosen Busy (eqb c.running.phase 2)
    (writing-busy (turns_cache_off w v) (write_line paper_geometry w n v ca) c.running.count c ca s)
    (chosen Busy (eqb c.running.phase 3)
    (filling-busy c ca s (target_block paper_geometry w v n) (target_line paper_geometry w v n) c.running.count)
    (λ y. absurd (omega (arith, y))))))

worked-busy : (w n : ℕ) (m : Machine) (s : List ℕ) (i : ℕ) → m.scalars.running.phase ≢ 0
    → (worked paper_geometry w n m s i).out.done ≡ 0 → (worked paper_geometry w n m s i).state.machine.scalars.running.phase ≢ 0
unfolding worked finish
worked-busy w n m s i z = go (is_last paper_geometry w n m.scalars.running (visible_of m) (cache_of m))
  where
    either : Bool → After Lent Answer
    either t = cond t (finish paper_geometry w n m s i) (quiet m.regs (advance paper_geometry w n m.scalars (visible_of m)
        (cache_of m) s))

    go : (t : Bool) → (either t).out.done ≡ 0 → (either t).state.machine.scalars.running.phase ≢ 0
    go true d = absurd (omega (arith, answer-done w (visible_of m) n i, d))
    go false d = advance-busy w n m.scalars (visible_of m) (cache_of m) s z

pub stays : (p : List ℕ) (x : Lent) (i : Pins) → stalled i.line_byte ≡ false → x.machine.scalars.running.phase ≢ 0
    → (clock_of paper_geometry p x i).out.done ≡ 0 → (clock_of paper_geometry p x i).state.machine.scalars.running.phase ≢ 0
unfolding clock_of unheld
stays p x i f z = rw (f, ne_eqb x.machine.scalars.running.phase 0 z)
    (worked-busy (word_at p x.machine.scalars.pc) (length x.store) x.machine x.store i.input z)
