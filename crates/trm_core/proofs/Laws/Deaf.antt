-- A clock that reads no device does not depend on the input word; one that executes no word changes nothing that a programmer sees.
-- The input word is used only where an LD from a device is executed.
use Prim.Native.Nat.{ℕ, ◌+◌, ◌*◌}
use mathlib.Core.Path.{◌≡◌, refl, ap}
use mathlib.Core.Bool.{Bool, true, false, cond, not, ◌&&◌, ◌||◌}
use mathlib.Core.List.{List}
use lib.ListN.{length}
use lib.Dec.{eqb}
use borrow.Author.Tests.{eqb-true, ne_eqb}
use native.Mathlib.Omega.{arith}
use Rattle.trm_laws.proofs.Tests.{bool_clash, chosen}
use Rattle.trm_word.specs.Fields.{operation, bit}
use Rattle.trm_reference.specs.Geometry.{Geometry, burst}
use Rattle.trm_reference.specs.Charge.{is_stepped, through_cache, without_cache, turns_cache_off}
use Rattle.trm_reference.specs.Visible.{Visible, word_at}
use Rattle.trm_reference.specs.Access.{is_load, is_store, is_access, is_memory, place_of_word, device_number, to_device, target, stored}
use Rattle.trm_reference.specs.Access.{loaded}
use Rattle.trm_reference.specs.Access.{Answer, target_block, target_line, silent, device_answer, answer_of}
use Rattle.trm_reference.specs.Execute.{execute}
use Rattle.trm_reference.specs.Interrupt.{stalled, interrupt_chosen, interrupted}
use Rattle.trm_reference.specs.Trace.{After}
use Rattle.trm_core.specs.Record.{Machine}
use Rattle.trm_core.specs.declared.record.Running.{Running}
use Rattle.trm_core.specs.declared.record.Scalars.{Scalars}
use Rattle.trm_cache.specs.Cache.{line_at, view, first_dirty}
use Rattle.trm_cache.specs.declared.record.Cache.{Cache}
use Rattle.trm_core.specs.Record.{Lent, gathered, visible_of, cache_of}
use Rattle.trm_core.specs.Clock.{Moved, moved, hits, missing, first_clock, written, writing, filling, write_line, carried, is_last}
use Rattle.trm_core.specs.Clock.{finish, cache_after, store_after, advance, quiet, worked, unheld, held_clock, clock_of}
use Rattle.trm_core.specs.Claims.{acknowledges, Deaf, ClocksAreThree, HeldWaits, SeenChangesLast}

-- only LD uses the loaded word
execute-blind : (w : ℕ) (v : Visible) (x y : ℕ) → is_load w ≡ false → execute w v x ≡ execute w v y
unfolding execute is_load
execute-blind w v x y e = rw e

-- LD is not ST
pub load-only : (w : ℕ) → is_load w ≡ true → is_store w ≡ false
unfolding is_load is_store
load-only w e = ne_eqb (operation w) 13 (let z = eqb-true (operation w) 12 e in omega arith)

-- without a device read the last clock does not depend on the input word
finish_deaf : (G : Geometry) (w n : ℕ) (m : Machine) (s : List ℕ) (i j : ℕ) → bit 0 (answer_of w (visible_of m) n i).byte ≡ 0
    → finish G w n m s i ≡ finish G w n m s j
unfolding finish loaded answer_of device_answer to_device is_access
finish_deaf G w n m s i j = go (is_memory (place_of_word w (visible_of m) n)) (is_load w) refl (is_store w) refl
  where
    x : ℕ
    x = view G (cache_of m) s (target w (visible_of m) n)

    out : Bool → ℕ → Answer
    out st k = cond st (record {
      byte = device_number (place_of_word w (visible_of m) n) * 4 + 2;
      word = stored w (visible_of m);
      done = 1;
    })
        (record { byte = device_number (place_of_word w (visible_of m) n) * 4 + 1; word = k; done = 1 })

    end : Bool → Bool → Bool → ℕ → After Lent Answer
    end me ld st k = carried m.scalars (execute w (visible_of m) (cond me x k)) (cache_after G w n (visible_of m) (cache_of m))
        (store_after w n (visible_of m) s) (cond ((ld || st) && not me) (out st k) (silent 1))

    go : (me ld : Bool) → is_load w ≡ ld → (st : Bool) → is_store w ≡ st
        → bit 0 (cond ((ld || st) && not me) (out st i) (silent 1)).byte ≡ 0
        → end me ld st i ≡ end me ld st j
    go true true e st f h = refl
    go true false e true f h = refl
    go true false e false f h = refl
    go false true e true f h = bool_clash (is_store w) f (load-only w e)
    go false true e false f h = absurd (omega arith)
    go false false e true f h = ap (λ y. carried m.scalars y (cache_after G w n (visible_of m) (cache_of m))
        (store_after w n (visible_of m) s) (out true i)) (execute-blind w (visible_of m) i j e)
    go false false e false f h = ap (λ y. carried m.scalars y (cache_after G w n (visible_of m) (cache_of m))
        (store_after w n (visible_of m) s) (silent 1)) (execute-blind w (visible_of m) i j e)

pub deaf : Deaf
unfolding clock_of unheld worked held_clock
deaf G p x line_byte i j = go (stalled line_byte)
    (eqb x.machine.scalars.running.phase 0 && not (eqb (interrupt_chosen x.machine.scalars.status line_byte) 0))
    (is_last G w n x.machine.scalars.running (visible_of x.machine) (cache_of x.machine))
  where
    w : ℕ
    w = word_at p x.machine.scalars.pc

    n : ℕ
    n = length x.store

    clock : Bool → Bool → Bool → ℕ → After Lent Answer
    clock st ack end k = cond st (held_clock x.machine x.store)
        (cond ack
        (carried x.machine.scalars (interrupted (visible_of x.machine) (interrupt_chosen x.machine.scalars.status line_byte))
        (cache_of x.machine) x.store (silent 0))
        (cond end (finish G w n x.machine x.store k)
        (quiet x.machine.regs (advance G w n x.machine.scalars (visible_of x.machine) (cache_of x.machine) x.store))))

    go : (st ack end : Bool) → bit 0 (clock st ack end i).out.byte ≡ 0 → clock st ack end i ≡ clock st ack end j
    go true ack end h = refl
    go false true end h = refl
    go false false true h = finish_deaf G w n x.machine x.store i j (unfold finish in h)
    go false false false h = refl

pub clocks_are_three : ClocksAreThree
unfolding clock_of unheld acknowledges
clocks_are_three G p x pins = record { held = λ s. rw s; takes = λ s t. rw (s, t); works = λ s t. rw (s, t) }

pub held_waits : HeldWaits
unfolding held_clock
held_waits G p x pins st =
    rw ((clocks_are_three G p x pins).held st)
    (record {
      visible = refl;
      running = refl;
      cache = refl;
      store = refl;
      size = refl;
      clocks = refl;
      held = refl;
      refills = refl;
      writebacks = refl;
      answer = refl;
    })

-- `done` is 1 in the answer of an executed word
pub answer-done : (w : ℕ) (v : Visible) (n i : ℕ) → (answer_of w v n i).done ≡ 1
unfolding answer_of device_answer
answer-done w v n i = chosen done (to_device w v n) (chosen done (is_store w) refl refl) refl
  where
    done : Answer → Type 0
    done a = a.done ≡ 1

-- a clock that executes no word does not change the visible state: by every case of its definition
record Leaves (c : Scalars) (t : Moved) : Type 0 where
  leaves : (rs : List ℕ) → gathered t.scalars rs ≡ gathered c rs

module _ (G : Geometry) where
  leaves-moved : (c : Scalars) (r : Running) (ca : Cache) (s : List ℕ) (a b : ℕ) → Leaves c (moved c r ca s a b)
  leaves-moved c r ca s a b = record { leaves = λ rs. refl }

  leaves-writing : (off : Bool) (l k : ℕ) (c : Scalars) (ca : Cache) (s : List ℕ) → Leaves c (writing G off l k c ca s)
  unfolding writing written
  leaves-writing off l k c ca s = chosen (Leaves c) (eqb (k + 1) (burst G))
      (chosen (Leaves c) off (leaves-moved c _ _ _ 0 1) (leaves-moved c _ _ _ 0 1)) (leaves-moved c _ _ _ 0 0)

  leaves-filling : (b l k : ℕ) (c : Scalars) (ca : Cache) (s : List ℕ) → Leaves c (filling G b l k c ca s)
  unfolding filling
  leaves-filling b l k c ca s = chosen (Leaves c) (eqb (k + 1) (burst G)) (leaves-moved c _ _ _ 1 0) (leaves-moved c _ _ _ 0 0)

  advance-leaves : (w n : ℕ) (c : Scalars) (v : Visible) (ca : Cache) (s : List ℕ) → Leaves c (advance G w n c v ca s)
  unfolding advance first_clock missing
  advance-leaves w n c v ca s =
      chosen (Leaves c) (eqb c.running.phase 0)
      (chosen (Leaves c) (is_stepped w) (leaves-moved c _ _ _ 0 0) (chosen (Leaves c) (without_cache w v n) (leaves-moved c _ _ _ 0 0)
      (chosen (Leaves c) (turns_cache_off w v) (leaves-writing true (first_dirty G ca) 0 c ca s)
      (chosen (Leaves c) (through_cache w v n && not (hits G w n v ca))
      (chosen (Leaves c) (line_at G ca (target_line G w v n)).dirty (leaves-moved c _ _ _ 0 0) (leaves-moved c _ _ _ 0 0))
      (leaves-moved c _ _ _ 0 0)))))
      (chosen (Leaves c) (eqb c.running.phase 1) (leaves-moved c _ _ _ 0 0)
      (chosen (Leaves c) (eqb c.running.phase 2)
      (leaves-writing (turns_cache_off w v) (write_line G w n v ca) c.running.count c ca s)
      (chosen (Leaves c) (eqb c.running.phase 3)
      (leaves-filling (target_block G w v n) (target_line G w v n) c.running.count c ca s) (leaves-moved c _ _ _ 0 0))))

-- an outcome with the same visible state and an empty answer
record Nothing (x : Lent) (t : After Lent Answer) : Type 0 where
  visible : visible_of t.state.machine ≡ visible_of x.machine
  answer : t.out ≡ silent 0

pub seen_changes_last : SeenChangesLast
unfolding clock_of unheld worked held_clock acknowledges
seen_changes_last G p x pins d n = record { visible = u.visible; answer = u.answer }
  where
    w : ℕ
    w = word_at p x.machine.scalars.pc

    k : ℕ
    k = length x.store

    clock : Bool → Bool → Bool → After Lent Answer
    clock st ack end = cond st (held_clock x.machine x.store)
        (cond ack (carried x.machine.scalars
        (interrupted (visible_of x.machine) (interrupt_chosen x.machine.scalars.status pins.line_byte))
        (cache_of x.machine) x.store (silent 0))
        (cond end (finish G w k x.machine x.store pins.input)
        (quiet x.machine.regs (advance G w k x.machine.scalars (visible_of x.machine) (cache_of x.machine) x.store))))

    ended : (finish G w k x.machine x.store pins.input).out.done ≡ 1
    ended = unfold finish in answer-done w (visible_of x.machine) k pins.input

    go : (st ack end : Bool) → (clock st ack end).out.done ≡ 0 → not st && ack ≡ false → Nothing x (clock st ack end)
    go true ack end e h = record { visible = refl; answer = refl }
    go false true end e h = bool_clash true refl h
    go false false true e h = absurd (omega (arith, ended))
    go false false false e h = record {
      answer = refl;
      visible = (advance-leaves G w k x.machine.scalars (visible_of x.machine) (cache_of x.machine) x.store).leaves
          x.machine.regs;
    }

    u : Nothing x (clock (stalled pins.line_byte)
        (eqb x.machine.scalars.running.phase 0 && not (eqb (interrupt_chosen x.machine.scalars.status pins.line_byte) 0))
        (is_last G w k x.machine.scalars.running (visible_of x.machine) (cache_of x.machine)))
    u = go (stalled pins.line_byte)
        (eqb x.machine.scalars.running.phase 0 && not (eqb (interrupt_chosen x.machine.scalars.status pins.line_byte) 0))
        (is_last G w k x.machine.scalars.running (visible_of x.machine) (cache_of x.machine)) d n
