-- What executing a word or taking an interrupt preserves: the widths of fields, the cache bit (with one exception), the register count.
-- Each property passes through `cond`, so a law is one proof per operation, in the order of `execute`.
use Prim.Native.Nat.{ℕ, ◌+◌, ◌<◌}
use mathlib.Core.Path.{◌≡◌, refl}
use mathlib.Core.Bool.{Bool, true, false, cond}
use lib.Dec.{ltb, eqb}
use lib.ListN.{length, length-set}
use borrow.Author.Tests.{not-false}
use native.Mathlib.Omega.{arith}
use native.Mathlib.Nat.{mod-lt}
use Rattle.trm_word.specs.Fields.{operation, source, new_status, jump_form, call_offset, bit, low_bits}
use Rattle.trm_word.specs.Condition.{is_set}
use Rattle.trm_alu.specs.Flags.{flags_of}
use Rattle.trm_alu.proofs.Laws.Flags.{Below, flags-below}
use Rattle.trm_reference.specs.Visible.{Visible, register, register_index, with_register, with_mode, next_pc, cache_on}
use Rattle.trm_reference.specs.Execute.{operand_a, operand_b, calculated, went_to, wrote_to, status_set, returned, jumped}
use Rattle.trm_reference.specs.Execute.{branch_taken, branch_target, branched, called, execute}
use Rattle.trm_reference.specs.Interrupt.{interrupt_raised, interrupt_chosen, saved_word, interrupted}
use Rattle.trm_reference.specs.Charge.{turns_cache_off}

-- the fields that are narrower than their types
pub record Narrow (seen : Visible) : Type 0 where
  pub pc : seen.pc < 4096
  pub n : seen.n < 2
  pub z : seen.z < 2
  pub c : seen.c < 2
  pub v : seen.v < 2
  pub status : seen.status < 16

cond_below : (k : ℕ) (t : Bool) (a b : ℕ) → a < k → b < k → cond t a b < k
cond_below k true a b p q = p
cond_below k false a b p q = q

next-below : (pc : ℕ) → next_pc pc < 4096
unfolding next_pc
next-below pc = mod-lt (pc + 1) {m = 4096} (omega arith)

mode-below : (mode status : ℕ) → mode < 2 → with_mode mode status < 16
unfolding with_mode
mode-below mode status h = omega arith

narrow-cond : (t : Bool) (a b : Visible) → Narrow a → Narrow b → Narrow (cond t a b)
narrow-cond true a b p q = p
narrow-cond false a b p q = q

calculated-narrow : (w : ℕ) (v : Visible) → Narrow v → Narrow (calculated w v)
unfolding calculated
calculated-narrow w v h =
    record {
      pc = next-below v.pc;
      n = f.n;
      z = f.z;
      c = f.c;
      v = f.v;
      status = h.status;
    }
  where
    f : Below (flags_of (operation w) (operand_a w v) (operand_b w v) v.c v.v)
    f = flags-below (operation w) (operand_a w v) (operand_b w v) v.c v.v h.c h.v

went-narrow : (v : Visible) (pc : ℕ) → pc < 4096 → Narrow v → Narrow (went_to v pc)
went-narrow v pc p h = record { pc = p; n = h.n; z = h.z; c = h.c; v = h.v; status = h.status }

wrote-narrow : (v : Visible) (pc r x : ℕ) → pc < 4096 → Narrow v → Narrow (wrote_to v pc r x)
wrote-narrow v pc r x p h = record { pc = p; n = h.n; z = h.z; c = h.c; v = h.v; status = h.status }

status-narrow : (w : ℕ) (v : Visible) → Narrow v → Narrow (status_set w v)
unfolding status_set
status-narrow w v h =
    record { pc = next-below v.pc; n = h.n; z = h.z; c = h.c; v = h.v; status = mod-lt w {m = 16} (omega arith) }

returned-narrow : (v : Visible) (from : ℕ) → Narrow (returned v from)
unfolding returned
returned-narrow v from =
    record {
      pc = mod-lt from {m = 4096} (omega arith);
      n = omega arith;
      z = omega arith;
      c = omega arith;
      v = omega arith;
      status = mode-below 0 v.status (omega arith);
    }

jumped-narrow : (w : ℕ) (v : Visible) → Narrow v → Narrow (jumped w v)
unfolding jumped
jumped-narrow w v h =
    narrow-cond (eqb (jump_form w) 0) _ _ (went-narrow v _ low h)
    (narrow-cond (eqb (jump_form w) 2) _ _ (wrote-narrow v _ _ _ low h)
    (returned-narrow v _))
  where
    low : low_bits 12 (register v (source w)) < 4096
    low = mod-lt (register v (source w)) {m = 4096} (omega arith)

branched-narrow : (w : ℕ) (v : Visible) → Narrow v → Narrow (branched w v)
unfolding branched branch_target
branched-narrow w v h =
    went-narrow v _ (cond_below 4096 (branch_taken w v) _ _ (mod-lt _ {m = 4096} (omega arith)) (next-below v.pc)) h

called-narrow : (w : ℕ) (v : Visible) → Narrow v → Narrow (called w v)
unfolding called
called-narrow w v h = wrote-narrow v _ _ _ (mod-lt (v.pc + 1 + call_offset w) {m = 4096} (omega arith)) h

pub execute-narrow : (w : ℕ) (v : Visible) (x : ℕ) → Narrow v → Narrow (execute w v x)
unfolding execute
execute-narrow w v x h =
    narrow-cond (ltb (operation w) 11) _ _ (calculated-narrow w v h)
    (narrow-cond (eqb (operation w) 11) _ _ (narrow-cond (is_set (bit 10 w)) _ _ (jumped-narrow w v h) (status-narrow w v h))
    (narrow-cond (eqb (operation w) 12) _ _ (wrote-narrow v _ _ _ (next-below v.pc) h)
    (narrow-cond (eqb (operation w) 13) _ _ (went-narrow v _ (next-below v.pc) h)
    (narrow-cond (eqb (operation w) 14) _ _ (branched-narrow w v h)
    (called-narrow w v h)))))

pub interrupted-narrow : (v : Visible) (line_byte : ℕ) → Narrow v → Narrow (interrupted v (interrupt_chosen v.status line_byte))
unfolding interrupted interrupt_chosen
interrupted-narrow v line_byte h =
    record {
      pc = cond_below 4096 (is_set (bit 2 v.status)) _ _ (omega arith)
          (cond_below 4096 (interrupt_raised 0 v.status line_byte) _ _ (omega arith)
          (cond_below 4096 (interrupt_raised 1 v.status line_byte) _ _ (omega arith) (omega arith)));
      n = h.n;
      z = h.z;
      c = h.c;
      v = h.v;
      status = mode-below 1 v.status (omega arith);
    }

-- setting the mode does not change the cache bit
mode-on : (mode status : ℕ) → mode < 2 → bit 3 (with_mode mode status) ≡ bit 3 status
unfolding with_mode
mode-on mode status h = omega arith

-- each branch of `cond` may assume the value of the test
on-cond : (t : Bool) (a b : Visible) → (t ≡ true → cache_on a ≡ true) → (t ≡ false → cache_on b ≡ true) → cache_on (cond t a b) ≡ true
on-cond true a b p q = p refl
on-cond false a b p q = q refl

jumped-on : (w : ℕ) (v : Visible) → cache_on v ≡ true → cache_on (jumped w v) ≡ true
unfolding jumped returned cache_on
jumped-on w v on =
    on-cond (eqb (jump_form w) 0) _ _ (λ _. on)
    (λ _. on-cond (eqb (jump_form w) 2) _ _ (λ _. on) (λ _. rw (mode-on 0 v.status (omega arith)) on))

status-on : (w : ℕ) (v : Visible) → is_set (bit 3 w) ≡ true → cache_on (status_set w v) ≡ true
unfolding status_set cache_on
status-on w v h = let e : bit 3 (new_status w) ≡ bit 3 w = omega arith in rw e h

-- only a word that clears status bit 3 turns the cache off
pub execute-on : (w : ℕ) (v : Visible) (x : ℕ) → turns_cache_off w v ≡ false → cache_on v ≡ true → cache_on (execute w v x) ≡ true
unfolding execute calculated branched called cache_on turns_cache_off
execute-on w v x n on =
    on-cond (ltb (operation w) 11) _ _ (λ _. on)
    (λ _. on-cond (eqb (operation w) 11) _ _
    (λ e. on-cond (is_set (bit 10 w)) _ _ (λ _. jumped-on w v on) (λ f. status-on w v (stays e f)))
    (λ _. on-cond (eqb (operation w) 12) _ _ (λ _. on)
    (λ _. on-cond (eqb (operation w) 13) _ _ (λ _. on)
    (λ _. on-cond (eqb (operation w) 14) _ _ (λ _. on)
    (λ _. on)))))
  where
    stays : eqb (operation w) 11 ≡ true → is_set (bit 10 w) ≡ false → is_set (bit 3 w) ≡ true
    stays e f = not-false (is_set (bit 3 w)) (rw (e, f, on) at n)

pub interrupted-on : (v : Visible) (to : ℕ) → cache_on (interrupted v to) ≡ cache_on v
unfolding cache_on interrupted
interrupted-on v to = rw (mode-on 1 v.status (omega arith))

-- the number of registers
regs_cond : (k : ℕ) (t : Bool) (a b : Visible) → length a.regs ≡ k → length b.regs ≡ k → length (cond t a b).regs ≡ k
regs_cond k true a b p q = p
regs_cond k false a b p q = q

with_regs : (v : Visible) (r x : ℕ) → length (with_register v r x) ≡ length v.regs
unfolding with_register
with_regs v r x = length-set v.regs (register_index v.status r) x

jumped_regs : (w : ℕ) (v : Visible) → length (jumped w v).regs ≡ length v.regs
unfolding jumped returned
jumped_regs w v =
    regs_cond _ (eqb (jump_form w) 0) _ _ refl (regs_cond _ (eqb (jump_form w) 2) _ _ (with_regs v _ _) refl)

pub execute_regs : (w : ℕ) (v : Visible) (x : ℕ) → length (execute w v x).regs ≡ length v.regs
unfolding execute calculated status_set branched called
execute_regs w v x =
    regs_cond _ (ltb (operation w) 11) _ _ (with_regs v _ _)
    (regs_cond _ (eqb (operation w) 11) _ _ (regs_cond _ (is_set (bit 10 w)) _ _ (jumped_regs w v) refl)
    (regs_cond _ (eqb (operation w) 12) _ _ (with_regs v _ _)
    (regs_cond _ (eqb (operation w) 13) _ _ refl
    (regs_cond _ (eqb (operation w) 14) _ _ refl
    (with_regs v _ _)))))

pub interrupted_regs : (v : Visible) (to : ℕ) → length (interrupted v to).regs ≡ length v.regs
unfolding interrupted
interrupted_regs v to = length-set v.regs 15 (saved_word v)
