-- The core's part of a log of board calls: the plain machine's clocks on what the log shows that it was fed.
-- Idea: the plain machine's answer byte does not depend on its input word, so the log shows which device it reads; then clock by clock.
--   cores_calls
use Prim.Native.Nat.{ℕ, ◌+◌, ◌*◌, ◌-◌}
use mathlib.Core.Path.{◌≡◌, refl, sym, ap, ap₂, ◌∙◌}
use mathlib.Core.Bool.{Bool, true, false, cond}
use mathlib.Core.List.{List, [], ◌∷◌}
use lib.ListN.{length}
use lib.Dec.{eqb}
use Rattle.trm_reference.specs.Geometry.{paper_geometry}
use Rattle.trm_reference.specs.Visible.{Visible, word_at}
use Rattle.trm_reference.specs.Access.{is_store, to_device, place_of_word, device_number, stored, Answer, silent, device_answer, answer_of}
use Rattle.trm_reference.specs.Interrupt.{stalled, interrupt_chosen}
use Rattle.trm_reference.specs.Trace.{Pins, After, clocks}
use Rattle.trm_reference.specs.Reference.{Reference, charge, carry_out, spend, take_off, reference_held, reference_interrupt}
use Rattle.trm_reference.specs.Reference.{reference_unheld}
use Rattle.trm_reference.specs.Reference.{reference_clock}
use Rattle.trm_clock_device.specs.Device.{device_read}
use Rattle.trm_serial.specs.Timing.{paper_timing}
use Rattle.trm_board.specs.Core.{pins, asked}
use Rattle.trm_board.specs.Board.{Inputs, Board, Shown, reply, line_byte, fed, board_clock}
use Rattle.trm_board_calls.specs.Cores.{reference_core}
use Rattle.trm_agreement.specs.Log.{clocked, entries, calls, fed_of}
use Rattle.trm_agreement.specs.Calls.{LogEntry, feed as core_feed, answer as core_answer, reference_seen, reference_engine}
use Rattle.trm_board_agreement.specs.Calls.{BoardCall, feed, answer, BoardEntry, plain_seen, plain_board}
use Rattle.trm_board_agreement.specs.Shown.{fed_at, cores_in, fed_in}
use Rattle.trm_board_agreement.proofs.Laws.Reads.{read-calls}

-- the plain machine's answer byte does not depend on its input word
answer-same : (w : ℕ) (v : Visible) (n i j : ℕ) → (answer_of w v n i).byte ≡ (answer_of w v n j).byte
unfolding answer_of device_answer
answer-same w v n i j = go (to_device w v n) (is_store w)
  where
    go : (t u : Bool) → (cond t (cond u (record { byte = device_number (place_of_word w v n) * 4 + 2; word = stored w v; done = 1 })
        (record { byte = device_number (place_of_word w v n) * 4 + 1; word = i; done = 1 })) (silent 1)).byte
        ≡ (cond t (cond u (record { byte = device_number (place_of_word w v n) * 4 + 2; word = stored w v; done = 1 })
        (record { byte = device_number (place_of_word w v n) * 4 + 1; word = j; done = 1 })) (silent 1)).byte
    go true true = refl
    go true false = refl
    go false u = refl

module _ (p : List ℕ) where
  take_same : (q : Reference) (left i j : ℕ)
      → (take_off paper_geometry (word_at p q.visible.pc) q left i).out.byte ≡ (take_off paper_geometry (word_at p
      q.visible.pc) q left j).out.byte
  unfolding take_off carry_out spend
  take_same q left i j = go (eqb (left - 1) 0)
    where
      go : (t : Bool) → (cond t (carry_out paper_geometry (word_at p q.visible.pc) q i) (spend paper_geometry (word_at p
          q.visible.pc) q (left - 1))).out.byte
          ≡ (cond t (carry_out paper_geometry (word_at p q.visible.pc) q j) (spend paper_geometry (word_at p q.visible.pc) q
          (left - 1))).out.byte
      go true = answer-same (word_at p q.visible.pc) q.visible (length q.memory) i j
      go false = refl

  plain-same : (q : Reference) (l i j : ℕ) → (reference_clock paper_geometry p q (pins l i)).out.byte ≡ (reference_clock paper_geometry p q
      (pins l j)).out.byte
  unfolding reference_clock reference_unheld
  plain-same q l i j = go (stalled l) (eqb q.left 0) (eqb (interrupt_chosen q.visible.status l) 0)
    where
      w : ℕ
      w = word_at p q.visible.pc

      go : (st z none : Bool) → (cond st (reference_held q) (cond z (cond none (take_off paper_geometry w q (charge paper_geometry w q) i)
          (reference_interrupt (interrupt_chosen q.visible.status l) q)) (take_off paper_geometry w q q.left i))).out.byte
          ≡ (cond st (reference_held q) (cond z (cond none (take_off paper_geometry w q (charge paper_geometry w q) j)
          (reference_interrupt (interrupt_chosen q.visible.status l) q)) (take_off paper_geometry w q q.left j))).out.byte
      go true z none = refl
      go false true true = take_same q (charge paper_geometry w q) i j
      go false true false = refl
      go false false none = take_same q q.left i j

  abbrev plain_step : Board Reference → Inputs → After (Board Reference) Shown
  plain_step y i = board_clock paper_timing (reference_core paper_geometry p) y i

  -- what the core is fed in each clock, by the definition of the board's clock
  feeds : Board Reference → List Inputs → List Pins
  feeds y [] = []
  feeds y (i ∷ is) = fed paper_timing (reference_core paper_geometry p) y i ∷ feeds (plain_step y i).state is

  -- the log shows it
  fed-shown : (y : Board Reference) (i : Inputs) → fed_at (plain_seen y) i (plain_step y i).out ≡ fed paper_timing
      (reference_core paper_geometry p) y i
  unfolding fed board_clock asked reference_seen
  fed-shown y i = ap (λ b. pins (line_byte y.devices.tick i) (reply paper_timing y.devices.serial y.core.clocks
      i.switches (device_read b)))
      (plain-same y.core (line_byte y.devices.tick i) _ 0)

  core-entries : Reference → List Pins → List LogEntry
  core-entries q fs = entries core_feed core_answer (reference_engine paper_geometry p) (clocks (reference_clock paper_geometry p) q fs) fs

  core-next : (y : Board Reference) (i : Inputs)
      → (plain_step y i).state.core ≡ (reference_clock paper_geometry p y.core
      (fed paper_timing (reference_core paper_geometry p) y i)).state
  unfolding board_clock
  core-next y i = refl

  core-out : (y : Board Reference) (i : Inputs)
      → (plain_step y i).out.answer ≡ (reference_clock paper_geometry p y.core (fed paper_timing (reference_core paper_geometry p) y i)).out
  unfolding board_clock
  core-out y i = refl

  abbrev plain_entries : Board Reference → List Inputs → List BoardEntry
  plain_entries y is = entries feed answer (plain_board p) (clocks plain_step y is) is

  cores_clocks : (is : List Inputs) (y : Board Reference) → cores_in (plain_seen y) (plain_entries y is) ≡ core-entries y.core (feeds y is)
  unfolding cores_in entries clocks feeds plain_board core-entries reference_engine
  cores_clocks [] y = refl
  cores_clocks (i ∷ is) y = ap₂ (λ (f : Pins) (cs : List LogEntry). clocked f (reference_seen (plain_step y i).state.core)
      (plain_step y i).out.answer ∷ cs)
      (fed-shown y i) (cores_clocks is (plain_step y i).state)
      ∙ ap₂ (λ (q : Reference) (a : Answer). clocked (fed paper_timing (reference_core paper_geometry p) y i) (reference_seen q) a
      ∷ core-entries q (feeds (plain_step y i).state is))
      (core-next y i) (core-out y i)

  fed-clocks : (is : List Inputs) (y : Board Reference) → fed_in (plain_seen y) (plain_entries y is) ≡ feeds y is
  unfolding fed_in entries clocks feeds plain_board
  fed-clocks [] y = refl
  fed-clocks (i ∷ is) y = ap₂ (λ (f : Pins) (fs : List Pins). f ∷ fs) (fed-shown y i) (fed-clocks is (plain_step y i).state)

  abbrev fed_plain : Board Reference → List BoardCall → List Inputs
  fed_plain y cs = fed_of feed answer (plain_board p) y cs

  fed-calls : (y : Board Reference) (cs : List BoardCall)
      → fed_in (plain_seen y) (calls feed answer (plain_board p) y cs) ≡ feeds y (fed_plain y cs)
  unfolding fed_in plain_board
  fed-calls y cs = read-calls (plain_board p) fed_in (λ w i v o. fed_at w i o) (λ w i v o es. refl) (λ w v a es. refl) y cs
      ∙ fed-clocks (fed_plain y cs) y

  cores_fed : (y : Board Reference) (cs : List BoardCall)
      → cores_in (plain_seen y) (calls feed answer (plain_board p) y cs) ≡ core-entries y.core (feeds y (fed_plain y cs))
  unfolding cores_in plain_board
  cores_fed y cs = read-calls (plain_board p) cores_in (λ w i v o. clocked (fed_at w i o) v.core o.answer) (λ w i v o es. refl)
      (λ w v a es. refl) y cs
      ∙ cores_clocks (fed_plain y cs) y

  -- the core's part of the log is the plain machine's clocks on what the log shows it was fed
  pub cores_calls : (y : Board Reference) (cs : List BoardCall)
      → cores_in (plain_seen y) (calls feed answer (plain_board p) y cs)
      ≡ entries core_feed core_answer (reference_engine paper_geometry p)
      (clocks (reference_clock paper_geometry p) y.core (fed_in (plain_seen y) (calls feed answer (plain_board p) y cs)))
      (fed_in (plain_seen y) (calls feed answer (plain_board p) y cs))
  unfolding core-entries
  cores_calls y cs = cores_fed y cs ∙ ap (core-entries y.core) (sym (fed-calls y cs))
