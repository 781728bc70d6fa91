-- What the answer of an executed word shows of its device, and the device accesses of any clocks of the plain machine.
-- Idea: by cases of the word; R.d is one of the sixteen registers; a clock that executes nothing answers nothing.
use Prim.Native.Nat.{ℕ, ◌+◌, ◌*◌, ◌/◌, ◌^◌, ◌≤◌, ◌<◌}
use mathlib.Core.Path.{◌≡◌, refl, sym, ap, ◌∙◌}
use mathlib.Core.Bool.{Bool, true, false, cond, not, ◌&&◌}
use mathlib.Core.List.{List, [], ◌∷◌}
use lib.ListN.{length}
use lib.Seq.{get_or-set_same}
use lib.Dec.{eqb}
use borrow.Author.Tests.{eqb-true, eqb-false, ne_eqb}
use native.Mathlib.Omega.{arith}
use native.Mathlib.Nat.{mod-lt}
use Rattle.trm_laws.proofs.Tests.{clash}
use Rattle.trm_word.specs.Fields.{operation, destination, bit}
use Rattle.trm_reference.specs.Visible.{Visible, register_index, register, with_register, word_at}
use Rattle.trm_reference.specs.Access.{is_load, is_store, is_access, is_memory, place_of_word, device_number, to_device, stored, loaded}
use Rattle.trm_reference.specs.Access.{silent}
use Rattle.trm_reference.specs.Access.{Answer, device_answer, answer_of}
use Rattle.trm_reference.specs.Execute.{execute}
use Rattle.trm_reference.specs.Trace.{After, clocks, outs_of}
use Rattle.trm_reference.specs.Reference.{Reference, carry_out, reference_clock}
use Rattle.trm_core.proofs.Laws.Deaf.{load-only}
use Rattle.trm_agreement.specs.Audit.{Answers, device_answers}
use Rattle.trm_agreement.specs.Plain.{plain_accesses, PlainDevices}
use Rattle.trm_agreement.proofs.Laws.Interrupts.{plain_clock}

-- the byte of an access is not zero
byte-shows : (w : ℕ) (v : Visible) (n i : ℕ) → eqb (answer_of w v n i).byte 0 ≡ not (to_device w v n)
unfolding answer_of device_answer
byte-shows w v n i = go (to_device w v n) (is_store w)
  where
    go : (t u : Bool) → eqb (cond t (cond u (record { byte = device_number (place_of_word w v n) * 4 + 2; word = stored w v; done = 1 })
        (record { byte = device_number (place_of_word w v n) * 4 + 1; word = i; done = 1 })) (silent 1)).byte 0 ≡ not t
    go true true = ne_eqb (device_number (place_of_word w v n) * 4 + 2) 0 (omega arith)
    go true false = ne_eqb (device_number (place_of_word w v n) * 4 + 1) 0 (omega arith)
    go false u = refl

-- the answer of a word, before the rest, shows a device if the word accesses one
pub one_access : (w : ℕ) (v : Visible) (n i : ℕ) (rest : List Answer)
    → cond (eqb (answer_of w v n i).byte 0) rest (answer_of w v n i ∷ rest) ≡ cond (to_device w v n) (answer_of w v n i ∷ rest) rest
one_access w v n i rest = rw (byte-shows w v n i) (go (to_device w v n))
  where
    go : (t : Bool) → cond (not t) rest (answer_of w v n i ∷ rest) ≡ cond t (answer_of w v n i ∷ rest) rest
    go true = refl
    go false = refl

-- R.d gets what LD loads
load-arrives : (w : ℕ) (v : Visible) (x : ℕ) → is_load w ≡ true → 16 ≤ length v.regs → register (execute w v x) (destination w) ≡ x
unfolding is_load execute register with_register register_index
load-arrives w v x e h = rw (eqb-true (operation w) 12 e) (get_or-set_same v.regs (bit 2 v.status * 8 + destination w) x 0 small)
  where
    small : bit 2 v.status * 8 + destination w < length v.regs
    small = let a = mod-lt (v.status / 2 ^ 2) {m = 2} (omega arith) in let b = mod-lt (w / 2 ^ 11) {m = 2 ^ 3}
        (omega arith) in omega arith

pub answers_hold : (w : ℕ) (v : Visible) (n i : ℕ) → Answers w v n i (answer_of w v n i)
unfolding answer_of device_answer stored
answers_hold w v n i = record { reads = λ d l. rw (d, load-only w l); writes = λ d s. rw (d, s); none = λ d. rw d }

pub device_arrives : (w : ℕ) (v : Visible) (n i x : ℕ) → 16 ≤ length v.regs → to_device w v n ≡ true → is_load w ≡ true
    → register (execute w v (loaded w v n i x)) (destination w) ≡ i
unfolding loaded
device_arrives w v n i x h d l = rw (not_memory d) (load-arrives w v i l h)
  where
    not_memory : to_device w v n ≡ true → is_memory (place_of_word w v n) ≡ false
    not_memory = unfold to_device in go (is_access w) (is_memory (place_of_word w v n))
      where
        go : (s t : Bool) → s && not t ≡ true → t ≡ false
        go true true z = sym z
        go true false z = refl
        go false t z = clash z

pub plain_devices : PlainDevices
unfolding clocks outs_of device_answers plain_accesses
plain_devices G p q [] = refl
plain_devices G p q (i ∷ is) =
    rw (plain_devices G p u.state is) (go (eqb u.out.done 1) refl (plain_accesses G p u.state is))
  where
    u : After Reference Answer
    u = reference_clock G p q i

    word : ℕ
    word = word_at p q.visible.pc

    said : Answer
    said = answer_of word q.visible (length q.memory) i.input

    is_said : u.out.done ≡ 1 → u.out ≡ said
    is_said d = ap (λ (x : After Reference Answer). x.out) ((plain_clock G p q i).carries d) ∙ unfold carry_out in refl

    go : (t : Bool) → eqb u.out.done 1 ≡ t → (rest : List Answer)
        → cond (eqb u.out.byte 0) rest (u.out ∷ rest)
        ≡ cond (t && to_device word q.visible (length q.memory)) (said ∷ rest) rest
    go true e rest = rw (is_said (eqb-true u.out.done 1 e)) (one_access word q.visible (length q.memory) i.input rest)
    go false e rest = rw ((plain_clock G p q i).quiet (eqb-false u.out.done 1 e))
