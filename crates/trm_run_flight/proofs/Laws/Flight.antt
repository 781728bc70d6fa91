-- One turn of an instruction in flight: some clocks that answer nothing, then the last clock of the phase if it is due.
-- Idea: the first ones leave every run at h (Quietly); the last one is one clock of the clock history more (answered).
use Prim.Native.Nat.{ℕ, ◌+◌, ◌≤◌, ◌<◌}
use mathlib.Core.Path.{◌≡◌, refl, sym, ap, ◌∙◌}
use mathlib.Core.Logic.{◌≢◌}
use mathlib.Core.Bool.{Bool, true, false, not, ◌&&◌}
use mathlib.Core.List.{List}
use lib.ListN.{length, get_or, set}
use lib.Dec.{ltb}
use native.Mathlib.Omega.{arith}
use Rattle.trm_reference.specs.Geometry.{paper_geometry}
use Rattle.trm_reference.specs.Visible.{word_at}
use Rattle.trm_reference.specs.Interrupt.{stalled}
use Rattle.trm_reference.specs.Access.{Answer, is_load}
use Rattle.trm_reference.specs.Trace.{After}
use Rattle.trm_cache.specs.declared.record.Cache.{Cache}
use Rattle.trm_core.specs.declared.record.Scalars.{Scalars}
use Rattle.trm_core.specs.Record.{Lent, whole}
use Rattle.trm_core.specs.Clock.{worked}
use Rattle.trm_clock_laws.specs.declared.inner.outcome.Clocked.{Clocked}
use Rattle.trm_clock_laws.specs.Good.{Good}
use Rattle.trm_clock_laws.specs.Made.{made, Late}
use Rattle.trm_clock_laws.proofs.Laws.Facts.{facts}
use Rattle.trm_run_phases.specs.declared.inner.going.Going.{Going}
use Rattle.trm_run_phases.specs.Reached.{point, At, Turned, Quietly, Reached, Room, Did}
use Rattle.trm_run_phases.proofs.Laws.Here.{good-here, flight_here}
use Rattle.trm_run_phases.proofs.Laws.Ahead.{past-free}
use Rattle.trm_run_phases.proofs.Laws.Reached.{zero-sets}
use Rattle.trm_run_phases.proofs.Laws.Did.{did-quiet, mute-worked, flight_inside, late-inside}
use Rattle.trm_run_phases.proofs.Laws.Next.{answered, room, due_true}

module _ (p ls is : List ℕ) (w : ℕ) (g : Going) (rs : List ℕ) (ca : Cache) (s bs ws : List ℕ)
    (a : At p ls is (point g rs ca s) bs ws) (word : w ≡ word_at p g.scalars.pc)
    (h : Going) (ca' : Cache) (s' : List ℕ) (quiet : Quietly ls w (point g rs ca s) (point h rs ca' s'))
    (same : h.scalars.pc ≡ g.scalars.pc)
    (d : Bool) (e : d ≡ (ltb h.at (length ls) && not (stalled (get_or ls h.at 0)))) where
  -- the run ends here, or the next clock is held
  pub none-due : g.at ≤ h.at → g.at < length ls → stalled (get_or ls g.at 0) ≡ false → d ≡ false
      → Turned p ls is (point g rs ca s) bs ws (point h rs ca' s') bs ws × (g.at < h.at) × (bs ≡ bs)
  none-due le more free none =
      (λ x₀ k. quiet p is bs ws x₀ word k, past-free ls g.at h.at d le more free e none, refl)

  module _ (due : d ≡ true) where
    there : Reached p ls is a.from (point h rs ca' s') bs ws
    there = quiet p is bs ws a.from word a.so

    word-there : w ≡ word_at p h.scalars.pc
    word-there = word ∙ ap (λ i. word_at p i) (sym same)

    fact : (h.at < length ls) × (stalled (get_or ls h.at 0) ≡ false)
    fact = due_true h.at (length ls) (stalled (get_or ls h.at 0)) d e due

    pub more-there : h.at < length ls
    more-there = fact.0

    pub good-there : Good w (length s') h.scalars rs ca'
    good-there = good-here p ls is a.from h rs ca' s' bs ws there w word-there

    module _ (flying : h.scalars.running.phase ≢ 0) (r : Clocked) (rs'' : List ℕ) (ca'' : Cache) (s'' : List ℕ)
        (v : made r rs'' ca'' s'' ≡ worked paper_geometry w (length s') (whole h.scalars rs ca') s' (get_or is h.at 0)) where
      pub room-there : Room h r bs ws
      room-there = room p ls is a.from h rs ca' s' bs ws there more-there r rs'' ca'' s'' (flight_here _ _ _ _ _ _ _ word-there fact.1
          flying _ v)

      -- a clock of phases 1 to 4 has no answer
      mute-there : h.scalars.running.phase ≢ 5 → r.byte ≡ 0
      mute-there five = ap (λ (t : After Lent Answer). t.out.byte) v
          ∙ mute-worked w (length s') h.scalars rs ca' s' (get_or is h.at 0)
          (flight_inside w (length s') h.scalars rs ca' (facts w (length s') h.scalars rs ca' good-there) flying five)

      pub ended-there : h.scalars.running.phase ≢ 5 → g.at ≤ h.at → (j : Going) (bs' ws' : List ℕ)
          → j ≡ record { scalars = r.scalars; at = h.at + 1; finished = h.finished + r.finished }
          → bs' ≡ set bs h.at r.byte → ws' ≡ set ws h.at r.word
          → Turned p ls is (point g rs ca s) bs ws (point j rs'' ca'' s'') bs' ws' × (g.at < j.at) × (bs' ≡ bs)
      ended-there five le j bs' ws' x y z = (
        λ x₀ k. answered p ls is x₀ h rs ca' s' bs ws (quiet p is bs ws x₀ word k) more-there r rs'' ca'' s'' (flight_here _ _ _ _ _ _ _
            word-there fact.1 flying _ v) j bs' ws' x y z,
        rw x (omega (arith, le)),
        y ∙ sym (zero-sets bs h.at r.byte (mute-there five) room-there.byte),
      )

-- a turn of phases 1 to 4, as a turn of a run that may stop before an access to a device
pub quiet-turn : {T : Type 0} (stops : Bool) (i j : ℕ) (bs bs' : List ℕ) → T × (i < j) × (bs' ≡ bs) → T × Did stops i j bs bs'
quiet-turn stops i j bs bs' e = (e.0, rw e.2 (did-quiet stops i j bs e.1))

-- in phase 5 such a run carries out the last clock of a word that is no LD: it has no answer
pub last-mute : (w n : ℕ) (c : Scalars) (rs : List ℕ) (ca : Cache) (s : List ℕ) (i : ℕ) → Late w n c rs
    → (stops d : Bool) → d ≡ (stops && is_load w) → d ≡ false → (t : After Lent Answer) → t ≡ worked paper_geometry w n (whole c rs ca) s i
    → stops ≡ true → t.out.byte ≡ 0
last-mute w n c rs ca s i l stops d e none t v st = ap (λ (x : After Lent Answer). x.out.byte) v
    ∙ mute-worked w n c rs ca s i (late-inside w n c rs l (sym (ap (λ b. b && is_load w) st) ∙ sym e ∙ none))
