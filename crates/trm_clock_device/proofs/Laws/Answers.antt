-- The answers of a clock by its input word: the byte does not depend on it, a read's word is it, an access ends its instruction.
-- Idea: an input word enters an answer only as the word of a read; by the branches of a clock.
use Prim.Native.Nat.{ℕ, ◌+◌, ◌*◌}
use mathlib.Core.Path.{refl}
use mathlib.Core.Bool.{Bool, true, false, cond, not, ◌&&◌}
use lib.ListN.{length}
use lib.Dec.{eqb}
use native.Mathlib.Omega.{arith}
use Rattle.trm_reference.specs.Geometry.{paper_geometry}
use Rattle.trm_reference.specs.Visible.{Visible, word_at}
use Rattle.trm_reference.specs.Access.{is_store, to_device, place_of_word, device_number, stored, silent, device_answer, answer_of}
use Rattle.trm_reference.specs.Interrupt.{stalled, interrupt_chosen, interrupted}
use Rattle.trm_core.specs.Record.{visible_of, cache_of}
use Rattle.trm_core.specs.Clock.{is_last, finish, advance, quiet, carried, worked, unheld, held_clock, clock_of}
use Rattle.trm_clock_device.specs.Claims.{Answering, Answers}

answering-silent : Answering (λ _. silent 0)
answering-silent = record { same = λ i j. refl; reads = λ i d e. absurd (omega arith); ends = λ i z. absurd (z refl) }

answering-word : (w : ℕ) (v : Visible) (n : ℕ) → Answering (λ i. answer_of w v n i)
unfolding answer_of device_answer
answering-word w v n = go (to_device w v n) (is_store w)
  where
    d : ℕ
    d = device_number (place_of_word w v n)

    go : (t u : Bool) → Answering (λ i. cond t (cond u (record { byte = d * 4 + 2; word = stored w v; done = 1 })
        (record { byte = d * 4 + 1; word = i; done = 1 })) (silent 1))
    go true true = record { same = λ i j. refl; reads = λ i e h. absurd (omega (arith, h)); ends = λ i z. refl }
    go true false = record { same = λ i j. refl; reads = λ i e h. refl; ends = λ i z. refl }
    go false u = record { same = λ i j. refl; reads = λ i e h. absurd (omega (arith, h)); ends = λ i z. absurd (z refl) }

pub answers : Answers
unfolding clock_of unheld worked held_clock finish
answers p x line_byte =
    go (stalled line_byte)
    (eqb x.machine.scalars.running.phase 0 && not (eqb (interrupt_chosen x.machine.scalars.status line_byte) 0))
    (is_last paper_geometry w (length x.store) x.machine.scalars.running (visible_of x.machine) (cache_of x.machine))
  where
    w : ℕ
    w = word_at p x.machine.scalars.pc

    go : (st ack end : Bool) → Answering (λ i. (cond st (held_clock x.machine x.store)
        (cond ack (carried x.machine.scalars (interrupted (visible_of x.machine) (interrupt_chosen
        x.machine.scalars.status line_byte))
        (cache_of x.machine) x.store (silent 0))
        (cond end (finish paper_geometry w (length x.store) x.machine x.store i)
        (quiet x.machine.regs (advance paper_geometry w (length x.store) x.machine.scalars (visible_of x.machine)
        (cache_of x.machine) x.store))))).out)
    go true ack end = answering-silent
    go false true end = answering-silent
    go false false true = answering-word w (visible_of x.machine) (length x.store)
    go false false false = answering-silent
