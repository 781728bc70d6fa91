-- The query names the device that the clock's answer byte shows.
-- Idea: in phase 5 a clock is the word's last; in any other phase no LD from a device has its last clock.
use Prim.Native.Nat.{ℕ, ◌+◌, ◌*◌, ◌%◌}
use mathlib.Core.Path.{◌≡◌, refl, sym, ◌∙◌}
use mathlib.Core.Bool.{Bool, true, false, cond, not, ◌&&◌, ◌||◌}
use mathlib.Core.List.{List}
use lib.ListN.{length}
use lib.Dec.{eqb}
use borrow.Author.Tests.{eqb-true, eq-eqb, ne_eqb}
use native.Mathlib.Omega.{arith}
use Rattle.trm_laws.proofs.Tests.{bool_clash, both}
use Rattle.trm_word.specs.declared.inner.address.Place.{Place}
use Rattle.trm_word.specs.declared.inner.address.Place.TheVariants.{Device, Memory}
use Rattle.trm_reference.specs.Geometry.{paper_geometry}
use Rattle.trm_reference.specs.Visible.{Visible, word_at}
use Rattle.trm_reference.specs.Access.{is_load, is_store, is_access, is_memory, to_device, place_of_word, device_number, stored, silent}
use Rattle.trm_reference.specs.Access.{device_answer, answer_of}
use Rattle.trm_reference.specs.Interrupt.{stalled, interrupt_chosen}
use Rattle.trm_reference.specs.Trace.{Pins}
use Rattle.trm_cache.specs.declared.record.Cache.{Cache}
use Rattle.trm_core.specs.declared.record.Scalars.{Scalars}
use Rattle.trm_core.specs.Record.{Lent, whole, gathered}
use Rattle.trm_core.specs.Clock.{charge_here, is_last, finish, advance, quiet, worked, held_clock, clock_of}
use Rattle.trm_core.specs.Claims.{acknowledges, Clocked}
use Rattle.trm_core.proofs.Laws.Deaf.{load-only, clocks_are_three}
use Rattle.trm_core.proofs.Laws.Kind.{Kind, quick, second, longer, device, cached, uncached, clearing, kind_of, is-of}
use Rattle.trm_core.proofs.Laws.Kind.{charge_of_kind}
use Rattle.trm_core.proofs.Laws.Rule.{Phase, ready, arithmetic, write_back, clearing_off, refill, waiting, due}
use Rattle.trm_core.proofs.Laws.Phases.{charge-is, last_0, last_5}
use Rattle.trm_clock_laws.specs.Good.{Good}
use Rattle.trm_clock_laws.proofs.Laws.Facts.{facts}
use Rattle.std.specs.Prelude.{None, unwrap_or}
use Rattle.trm_clock_device.specs.Device.{device_at, device_due, device_read, place_device, device_found}

abbrev pins : ℕ → ℕ → Pins
pins line_byte input = record { line_byte = line_byte; input = input }

-- the option names the same device as the number
found-by : (p s l : Bool) (x : Place)
    → unwrap_or (cond (not p) None (cond s None (cond l (place_device x) None))) 64 ≡ cond (p && not s && l) (device_at x) 64
unfolding device_at place_device
found-by false s l x = refl
found-by true true l x = refl
found-by true false false x = refl
found-by true false true (Device d) = refl
found-by true false true (Memory a) = refl

pub found_due : (w n phase : ℕ) (v : Visible) (line_byte : ℕ)
    → unwrap_or (device_found w n phase v line_byte) 64 ≡ device_due w n phase v line_byte
unfolding device_found device_due
found_due w n phase v line_byte = found-by (eqb phase 5) (stalled line_byte) (is_load w) (place_of_word w v n)

-- a held clock reads nothing, in any phase
held_none : (t : Bool) → t && false ≡ false
held_none true = refl
held_none false = refl

read-even : (d : ℕ) → device_read (d * 4 + 2) ≡ 64
unfolding device_read
read-even d = rw (ne_eqb ((d * 4 + 2) % 2) 1 (λ e. omega arith))

read-odd : (d : ℕ) → device_read (d * 4 + 1) ≡ d
unfolding device_read
read-odd d = rw (eq-eqb ((d * 4 + 1) % 2) 1 (omega arith)) (omega arith)

-- the last clock of a word
answer-due : (w : ℕ) (v : Visible) (n : ℕ) → device_read (answer_of w v n 0).byte ≡ cond (is_load w) (device_at (place_of_word w v n)) 64
unfolding answer_of device_answer to_device is_access
answer-due w v n = go (place_of_word w v n) (is_load w) (is_store w) (load-only w)
  where
    go : (at : Place) (ld st : Bool) → (ld ≡ true → st ≡ false)
        → device_read (cond ((ld || st) && not (is_memory at)) (cond st (record {
          byte = device_number at * 4 + 2;
          word = stored w v;
          done
              = 1;
        })
        (record { byte = device_number at * 4 + 1; word = 0; done = 1 })) (silent 1)).byte ≡ cond ld (device_at at) 64
    go at true true f = bool_clash true refl (f refl)
    go (Device d) true false f = unfold device_at is_memory device_number in (read-odd d)
    go (Device d) false true f = unfold is_memory device_number in (read-even d)
    go (Device d) false false f = unfold device_read in refl
    go (Memory a) true false f = unfold device_at is_memory device_read in refl
    go (Memory a) false true f = unfold is_memory device_read in refl
    go (Memory a) false false f = unfold device_read in refl

-- a word that is no LD from a device reads none
none_read : (w : ℕ) (v : Visible) (n : ℕ) → (is_load w ≡ true → to_device w v n ≡ false)
    → cond (is_load w) (device_at (place_of_word w v n)) 64 ≡ 64
unfolding to_device is_access
none_read w v n = go (is_load w) (place_of_word w v n)
  where
    go : (ld : Bool) (at : Place) → (ld ≡ true → (ld || is_store w) && not (is_memory at) ≡ false) → cond ld (device_at at) 64 ≡ 64
    go false at f = refl
    go true (Memory a) f = unfold device_at in refl
    go true (Device d) f = bool_clash true refl (unfold is_memory in (f refl))

module _ (p : List ℕ) (c : Scalars) (rs : List ℕ) (ca : Cache) (s : List ℕ) (g : Good (word_at p c.pc) (length s) c rs ca) where
  abbrev w : ℕ
  w = word_at p c.pc

  abbrev v : Visible
  v = gathered c rs

  abbrev n : ℕ
  n = length s

  abbrev x : Lent
  x = record { machine = whole c rs ca; store = s }

  -- by kind: only a device's LD is at a device, and it takes two clocks
  first_load : (k : Kind) → kind_of w v n ≡ k → is_last paper_geometry w n c.running v ca ≡ true → c.running.phase ≡ 0
      → is_load w ≡ true → to_device w v n ≡ false
  unfolding charge_of_kind
  first_load quick q e ph ld = (is-of w v n quick q).device
  first_load second q e ph ld = (is-of w v n second q).device
  first_load longer q e ph ld = (is-of w v n longer q).device
  first_load cached q e ph ld = (is-of w v n cached q).device
  first_load uncached q e ph ld = (is-of w v n uncached q).device
  first_load clearing q e ph ld = (is-of w v n clearing q).device
  first_load device q e ph ld =
      absurd (let one : charge_here paper_geometry w n v ca ≡ 1 = eqb-true (charge_here paper_geometry w n v ca) 1
      (sym (last_0 paper_geometry w n v ca c.running ph) ∙ e) in
      let two : charge_here paper_geometry w n v ca ≡ 2 = charge-is paper_geometry w n v ca device q ∙ rw (load-only w ld) in
      omega arith)

  last-reads : is_last paper_geometry w n c.running v ca ≡ true → eqb c.running.phase 5 ≡ false → is_load w ≡ true
      → to_device w v n ≡ false
  last-reads e z ld = go (facts w n c rs ca g).phase
    where
      go : Phase paper_geometry w n (kind_of w v n) c.running v ca → to_device w v n ≡ false
      go (ready ph ct) = first_load (kind_of w v n) refl e ph ld
      go (arithmetic kq ph one top) = (is-of w v n longer kq).device
      go (write_back kq ph hc hold d) = (is-of w v n cached kq).device
      go (clearing_off kq ph hc some) = (is-of w v n clearing kq).device
      go (refill kq ph hc empty) = (is-of w v n cached kq).device
      go (waiting kq ph one top) = (is-of w v n uncached kq).device
      go (due ph ct dk) = bool_clash (eqb c.running.phase 5) (eq-eqb c.running.phase 5 ph) z

  -- a clock that works on the word
  works-due : (line : ℕ) → device_read (worked paper_geometry w n (whole c rs ca) s 0).out.byte
      ≡ cond (eqb c.running.phase 5 && true && is_load w) (device_at (place_of_word w v n)) 64
  unfolding worked finish
  works-due line = go (eqb c.running.phase 5) refl (is_last paper_geometry w n c.running v ca) refl
    where
      go : (f : Bool) → eqb c.running.phase 5 ≡ f → (l : Bool) → is_last paper_geometry w n c.running v ca ≡ l
          → device_read (cond l (finish paper_geometry w n (whole c rs ca) s 0) (quiet rs (advance paper_geometry w n c v ca s))).out.byte
          ≡ cond (f && true && is_load w) (device_at (place_of_word w v n)) 64
      go true e true h = answer-due w v n
      go true e false h =
          bool_clash (is_last paper_geometry w n c.running v ca)
          (last_5 paper_geometry w n v ca c.running (eqb-true c.running.phase 5 e)) h
      go false e true h = answer-due w v n ∙ none_read w v n (last-reads h e)
      go false e false h = unfold device_read in refl

  pub due-is : (line : ℕ) → device_read (clock_of paper_geometry p (record { machine = whole c rs ca; store = s }) (pins line 0)).out.byte
      ≡ device_due (word_at p c.pc) (length s) c.running.phase (gathered c rs) line
  unfolding device_due
  due-is line = go (stalled line) refl (acknowledges (whole c rs ca) (pins line 0)) refl
    where
      three : Clocked paper_geometry p x (pins line 0)
      three = clocks_are_three paper_geometry p x (pins line 0)

      go : (st : Bool) → stalled line ≡ st → (ack : Bool) → acknowledges (whole c rs ca) (pins line 0) ≡ ack
          → device_read (clock_of paper_geometry p x (pins line 0)).out.byte
          ≡ cond (eqb c.running.phase 5 && not st && is_load w) (device_at (place_of_word w v n)) 64
      go true e ack f = rw (three.held e, held_none (eqb c.running.phase 5)) (unfold held_clock device_read in refl)
      go false e true f =
          rw (three.takes e f, ne_eqb c.running.phase 5 (λ five. absurd (let z = none f in omega arith))) (unfold device_read in refl)
        where
          none : acknowledges (whole c rs ca) (pins line 0) ≡ true → c.running.phase ≡ 0
          none = unfold acknowledges in (both (eqb c.running.phase 0) (not (eqb (interrupt_chosen c.status line) 0))
              (λ a b. eqb-true c.running.phase 0 a))
      go false e false f = rw (three.works e f) (works-due line)
