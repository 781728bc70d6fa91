-- What is claimed of the log of an exchange: it is that of the board with the plain machine inside, and all that follows.
-- Idea: the returns have the log of the definitions, which is also the other board's; the log shows the rest.
--   log-holds    any log that is both boards'        exchange-holds
use Prim.Native.Nat.{ℕ}
use mathlib.Core.Path.{◌≡◌, refl, sym, ap, ap₂, subst, subst₂, ◌∙◌}
use mathlib.Core.Logic.{◌≢◌}
use mathlib.Core.Bool.{true}
use mathlib.Core.List.{List, ◌∷◌}
use lib.ListN.{take, drop}
use native.Mathlib.Omega.{arith}
use Rattle.trm_reference.specs.Geometry.{paper_geometry, burst}
use Rattle.trm_reference.specs.Trace.{clocks}
use Rattle.trm_reference.specs.Reference.{Reference, reference_clock, reference_reset}
use Rattle.trm_core.specs.Record.{Lent, reset_of, start}
use Rattle.trm_serial.specs.Timing.{paper_timing}
use Rattle.trm_serial.proofs.Theorems as serial
use Rattle.trm_board.specs.Board.{Inputs, Board as BoardOf, devices_reset, board_reset}
use Rattle.trm_board.specs.Rule.{devices_ok}
use Rattle.trm_board.specs.Turns.{Turn, turns, board_end, all_joined, inputs_in}
use Rattle.trm_board.specs.Course.{Course}
use Rattle.trm_board.proofs.Theorems as board
use Rattle.trm_board.proofs.Laws.Ranges.{in_range, range-ok}
use Rattle.trm_board_calls.specs.declared.board_record.Board.{Board}
use Rattle.trm_board_calls.specs.Cores.{record_core}
use Rattle.trm_board_calls.specs.Coded.{board_of}
use Rattle.trm_board_calls.proofs.Laws.Obeys.{record_obeys}
use Rattle.trm_agreement.specs.Log.{started as begins, entries, calls, log_of, returns_in, last_seen, fed_of, state_of}
use Rattle.trm_agreement.specs.Calls.{feed as core_feed, answer as core_answer, reference_seen, reference_engine}
use Rattle.trm_agreement.specs.Book.{opened}
use Rattle.trm_agreement.specs.Audit.{Audited}
use Rattle.trm_agreement.specs.Demand.{All}
use Rattle.trm_agreement.proofs.Laws.Log.{calls-state, calls_last}
use Rattle.trm_agreement.proofs.Laws.Audit.{plain_machine, audited_devices}
use Rattle.trm_board_agreement.specs.Calls.{BoardCall, feed, answer, number_of, BoardSeen, BoardEntry, board_seen, plain_seen}
use Rattle.trm_board_agreement.specs.Calls.{record_board, plain_board}
use Rattle.trm_board_agreement.specs.Exchange.{Starts, Returned, Exchange, board_after, store_after, seen_at, exchange_log}
use Rattle.trm_board_agreement.specs.Shown.{turns_in, cores_in, fed_in}
use Rattle.trm_board_agreement.specs.Demand.{Holds}
use Rattle.trm_board_agreement.proofs.Laws.InStep.{same_board_log}
use Rattle.trm_board_agreement.proofs.Laws.Turns.{end_is, turns-calls, inputs_turns, fed-bits, fed-joined, range-end}
use Rattle.trm_board_agreement.proofs.Laws.Cores.{cores_calls}
use Rattle.trm_board_agreement.proofs.Laws.Contracts.{started}
use Rattle.trm_board_agreement.proofs.Laws.Returns.{exchange-calls, left-last}
use Rattle.trm_board_agreement.proofs.Laws.Numbers.{returns_not_five}

-- a log that is both boards': all that is claimed of it
module _ (p s : List ℕ) (cs : List BoardCall) where
  abbrev x₀ : BoardOf Lent
  x₀ = board_reset (start paper_geometry s)

  abbrev y₀ : BoardOf Reference
  y₀ = board_reset (reference_reset s)

  abbrev fed_by : List Inputs
  fed_by = fed_of feed answer (record_board p) x₀ cs

  abbrev all_turns : List Turn
  all_turns = turns paper_timing (record_core paper_geometry p) x₀ fed_by

  abbrev last_state : BoardOf Lent
  last_state = board_end paper_timing (record_core paper_geometry p) x₀ fed_by

  zero-count : x₀.core.machine.scalars.counts.clocks ≡ 0
  unfolding reset_of
  zero-count = refl

  end-state : state_of feed answer (record_board p) x₀ cs ≡ last_state
  unfolding record_board
  end-state = calls-state feed answer (record_board p) x₀ cs ∙ sym (end_is p x₀ fed_by)

  course-of : Course paper_timing all_turns last_state.devices
  course-of = (board.theorems).course_holds paper_timing (serial.theorems).paper_fits Lent (record_core paper_geometry p) (record_obeys p)
      (start paper_geometry s) zero-count fed_by

  range-of : devices_ok paper_timing last_state.devices ≡ true
  range-of = ap (λ (x : BoardOf Lent). devices_ok paper_timing x.devices) (end_is p x₀ fed_by)
      ∙ range-ok _ (range-end p fed_by x₀ (fed-bits p x₀ cs) (in_range devices_reset (board.theorems).ranges_kept.reset))

  pub log-holds : (first : BoardSeen) (es : List BoardEntry) (last : BoardSeen)
      → begins first ∷ es ≡ log_of feed answer (record_board p) x₀ cs → log_of feed answer (record_board p) x₀ cs ≡ log_of feed answer
      (plain_board p) y₀ cs
      → last_seen first es ≡ last → Holds p s cs first es last
  unfolding log_of last_seen record_board plain_board
  log-holds first es last mine same end = record {
    same = mine ∙ same;
    core = subst₂ core-claim (sym first_plain) (sym es-plain) (cores_calls p y₀ cs);
    audited = audit;
    devices = audited_devices paper_geometry p (opened first.core) (cores_in first es) audit;
    course = subst₂ (Course paper_timing) (sym turned) (sym last_devices) course-of;
    joined = λ e. ap (λ ts. all_joined (inputs_in ts)) turned ∙ ap all_joined (inputs_turns p x₀ fed_by) ∙ fed-joined p x₀ cs e;
    ranges = ap (devices_ok paper_timing) last_devices ∙ range-of;
    never_five = subst (λ fs. All (λ a. number_of a ≢ 5) (returns_in fs)) (sym es-plain) (returns_not_five p y₀ cs);
    state_alike = sym end ∙ ap₂ last_seen first_plain es-plain ∙ calls_last feed answer (plain_board p) y₀ cs;
  }
    where
      core-claim : BoardSeen → List BoardEntry → Type 0
      core-claim w fs = cores_in w fs ≡ entries core_feed core_answer (reference_engine paper_geometry p)
          (clocks (reference_clock paper_geometry p) (reference_reset s) (fed_in w fs)) (fed_in w fs)

      first-is : first ≡ board_seen x₀
      first-is = ap (λ l. last_seen first (take 1 l)) mine

      es-is : es ≡ calls feed answer (record_board p) x₀ cs
      es-is = ap (drop 1) mine

      first_plain : first ≡ plain_seen y₀
      first_plain = first-is ∙ ap (λ l. last_seen first (take 1 l)) same

      es-plain : es ≡ calls feed answer (plain_board p) y₀ cs
      es-plain = es-is ∙ ap (drop 1) same

      audit : Audited paper_geometry p (opened first.core) (cores_in first es)
      audit = subst₂ (λ w fs. Audited paper_geometry p (opened w.core) (cores_in w fs)) (sym first_plain) (sym es-plain)
          (subst (λ fs. Audited paper_geometry p (opened (reference_seen (reference_reset s))) fs) (sym (cores_calls p y₀ cs))
          ((plain_machine paper_geometry p s (fed_in (plain_seen y₀) (calls feed answer (plain_board p) y₀ cs))).audited (unfold burst in
          (omega arith))))

      turned : turns_in first es ≡ all_turns
      turned = ap₂ turns_in first-is es-is ∙ turns-calls p x₀ cs

      last_devices : last.devices ≡ last_state.devices
      last_devices = ap (λ (w : BoardSeen). w.devices) (sym end ∙ ap₂ last_seen first-is es-is ∙ calls_last feed answer
          (record_board p) x₀ cs)
          ∙ ap (λ (x : BoardOf Lent). x.devices) end-state

pub exchange-holds : (p s : List ℕ) (b : Board) (cs : List BoardCall) (as' : List Returned) → Starts s b → Exchange p b s cs as'
    → Holds p s cs (seen_at b s) (exchange_log p b s cs as') (seen_at (board_after b as') (store_after s as'))
unfolding log_of record_board
exchange-holds p s b cs as' h x = log-holds p s cs _ _ _
    (ap (λ es. begins (board_seen (board_of b s)) ∷ es) (exchange-calls p b s cs as' x)
    ∙ ap (λ y. log_of feed answer (record_board p) y cs) (started s b h).is)
    (same_board_log p s cs (started s b h).taken)
    (left-last p b s cs as' x)
