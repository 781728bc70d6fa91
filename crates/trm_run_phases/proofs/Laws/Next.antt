-- The state of a run after one more clock, from what the code returns: with an answer or without; and instructions of two clocks.
-- Idea: the laws of Laws/Reached, with the state that the code returns in place of the state after `clock_of`.
--   answered, quiet-answered, onward-answered   the next state        room   what `went` requires        due_true   what `due` means
--   Opens, opens   what is known where an instruction begins        device_first, hit-first   the first clock of LD
--   under_at, good-under, good-at_turn, long-turned   facts of a run in a given state
--   rests, retold, turned-from, at_from, long-from   for the loop over words
--   unraised, past-raised, raised_none   for the result of `raised`
--   last-here   the clock of phase 5        entered, ended   the first of an instruction's two clocks, and the second
use Prim.Native.Nat.{ℕ, ◌+◌, ◌/◌, ◌%◌, ◌≤◌, ◌<◌}
use mathlib.Core.Path.{◌≡◌, refl, sym, ap, ◌∙◌, subst}
use mathlib.Core.Bool.{Bool, true, false, cond, not, ◌&&◌, ◌||◌, and-false}
use mathlib.Core.List.{List}
use lib.ListN.{length, get_or, set}
use lib.Dec.{eqb, ltb}
use borrow.Author.Tests.{eqb-true, ltb-true}
use native.Mathlib.Decide.{ℕ_discrete}
use native.Mathlib.Omega.{arith}
use Rattle.trm_laws.proofs.Tests.{both, clash, bool_clash}
use Rattle.trm_word.specs.Fields.{operation, bit}
use Rattle.trm_word.specs.declared.inner.address.Place.TheVariants.{Device, Memory}
use Rattle.trm_word.specs.Condition.{is_set}
use Rattle.trm_reference.specs.Geometry.{paper_geometry}
use Rattle.trm_reference.specs.Visible.{word_at, cache_on}
use Rattle.trm_reference.specs.Access.{place_of_word, Answer}
use Rattle.trm_reference.specs.Interrupt.{stalled, interrupt_raised, interrupt_chosen}
use Rattle.trm_reference.specs.Trace.{Pins, After}
use Rattle.trm_cache.specs.Cache.{line_at, holds}
use Rattle.trm_cache.specs.declared.record.Cache.{Cache}
use Rattle.trm_core.specs.declared.record.Running.{Running}
use Rattle.trm_core.specs.declared.record.Scalars.{Scalars}
use Rattle.trm_core.specs.Record.{Lent, gathered, whole, in_phase, scalars_with, advanced}
use Rattle.trm_core.specs.Clock.{moved, finish, clock_of}
use Rattle.trm_clock_laws.specs.Good.{Good}
use Rattle.trm_clock_laws.proofs.Does.{Does}
use Rattle.trm_clock_laws.proofs.Laws.Facts.{Facts, facts}
use Rattle.trm_clock_laws.proofs.Laws.Kinds.{load_access, kind_device, kind-cached, hits_at}
use Rattle.trm_clock_laws.proofs.Laws.First.{first_device_load, first_hit_load, idle-running}
use Rattle.trm_clock_laws.proofs.Laws.Flight.{due-ends}
use Rattle.trm_clock_laws.specs.declared.inner.outcome.Clocked.{Clocked}
use Rattle.trm_clock_laws.specs.Made.{made}
use Rattle.trm_clock_laws.proofs.Laws.Worked.{ends-worked}
use Rattle.trm_clock_laws.proofs.Laws.Words.{shows, not-store}
use Rattle.trm_run_phases.specs.declared.inner.going.Going.{Going}
use Rattle.trm_run_phases.specs.Reached.{Point, point, Reached, Room, Begins, At, Turned, Under, Quietly}
use Rattle.trm_run_phases.proofs.Laws.Adds.{clock-adds}
use Rattle.trm_run_phases.proofs.Laws.Reached.{step, step-quiet, byte-free, word-free}
use Rattle.trm_run_phases.proofs.Laws.Here.{flight_here, begun-here, good-here}
use Rattle.trm_run_phases.proofs.Laws.Ahead.{onward}

pub due_true : (i n : ℕ) (t : Bool) (r : Bool) → r ≡ (ltb i n && not t) → r ≡ true → (i < n) × (t ≡ false)
due_true i n true r e q = both (ltb i n) false (λ _ z. clash z) (sym e ∙ q)
due_true i n false r e q = both (ltb i n) true (λ a _. (ltb-true i n a, refl)) (sym e ∙ q)

module _ (p ls is : List ℕ) (x₀ : Lent) (g : Going) (rs : List ℕ) (ca : Cache) (s bs ws : List ℕ)
    (r : Reached p ls is x₀ (point g rs ca s) bs ws) (more : g.at < length ls) where
  abbrev pub pins : Pins
  pins = record { line_byte = get_or ls g.at 0; input = get_or is g.at 0 }

  abbrev pub here : After Lent Answer
  here = clock_of paper_geometry p (record { machine = whole g.scalars rs ca; store = s }) pins

  pub answered : (m : Clocked) (rs' : List ℕ) (ca' : Cache) (s' : List ℕ) → made m rs' ca' s' ≡ here → (h : Going) (bs' ws' : List ℕ)
      → h ≡ record { scalars = m.scalars; at = g.at + 1; finished = g.finished + m.finished }
      → bs' ≡ set bs g.at m.byte → ws' ≡ set ws g.at m.word → Reached p ls is x₀ (point h rs' ca' s') bs' ws'
  answered m rs' ca' s' e h bs' ws' a b c = rw (a, b, c) (step p ls is x₀ (point g rs ca s) bs ws r more (made m rs' ca' s') e)

  pub quiet-answered : (y : Scalars) (d : ℕ) (rs' : List ℕ) (ca' : Cache) (s' : List ℕ)
      → made (record { scalars = y; byte = 0; word = 0; finished = d }) rs' ca' s' ≡ here
      → (h : Going) → h ≡ record { scalars = y; at = g.at + 1; finished = g.finished + d } → Reached p ls is x₀ (point h rs' ca' s') bs ws
  quiet-answered y d rs' ca' s' e h a = rw a
      (step-quiet p ls is x₀ (point g rs ca s) bs ws r more (record { machine = whole y rs' ca'; store = s' }) d e)

  pub onward-answered : (y : Scalars) (rs' : List ℕ) (ca' : Cache) (s' : List ℕ)
      → made (record { scalars = y; byte = 0; word = 0; finished = 0 }) rs' ca' s' ≡ here
      → (h : Going) → h ≡ onward g y → Reached p ls is x₀ (point h rs' ca' s') bs ws
  onward-answered y rs' ca' s' e h a = rw a (subst (λ f. Reached p ls is x₀
      (point (record { scalars = y; at = g.at + 1; finished = f }) rs' ca' s') bs ws) (plain g.finished)
      (quiet-answered y 0 rs' ca' s' e (record { scalars = y; at = g.at + 1; finished = g.finished + 0 }) refl))
    where
      plain : (n : ℕ) → n + 0 ≡ n
      plain n = omega arith

  pub room : (m : Clocked) (rs' : List ℕ) (ca' : Cache) (s' : List ℕ) → made m rs' ca' s' ≡ here → Room g m bs ws
  room m rs' ca' s' e = let a = clock-adds p (record { machine = whole g.scalars rs ca; store = s }) pins in record {
    wide = omega (arith, r.wide, more);
    broad = omega (arith, r.broad, more);
    many = omega (arith, r.below, r.feed.many);
    few = omega (arith, r.few, r.below, r.feed.many);
    finished = subst (λ (t : After Lent Answer). t.out.done ≤ 1) (sym e) a.done;
    byte = byte-free p ls is x₀ (point g rs ca s) bs ws r more;
    word = word-free p ls is x₀ (point g rs ca s) bs ws r more;
    mute = subst (λ (t : After Lent Answer). t.out.byte ≡ 0 → t.out.word ≡ 0) (sym e) a.mute;
  }

  pub few-done : (g.at ≤ 65536) × (g.finished ≤ 65536)
  few-done = (omega (arith, r.below, r.feed.many), omega (arith, r.few, r.below, r.feed.many))

  -- w is the word at PC, and the clock is not held
  module _ (w : ℕ) (at : w ≡ word_at p g.scalars.pc) (free : stalled (get_or ls g.at 0) ≡ false) where
    -- the last clock of an instruction, in phase 5
    pub last-here : g.scalars.running.phase ≡ 5 → (t : After Lent Answer)
        → t ≡ finish paper_geometry w (length s) (whole g.scalars rs ca) s (get_or is g.at 0) → t ≡ here
    last-here ph t e = flight_here p g.scalars rs ca s pins w at free (λ z. omega (arith, ph, z)) t
        (ends-worked w (length s) g.scalars rs ca s (get_or is g.at 0)
        (due-ends w (length s) g.scalars rs ca (facts w (length s) g.scalars rs ca (good-here p ls is x₀ g rs ca s bs ws r w at))
        (λ z. omega (arith, ph, z)) (λ z. omega (arith, ph, z)) (λ z. omega (arith, ph, z)) (λ z. omega (arith, ph, z))
        (λ z. omega (arith, ph, z))).0 t e)

-- an instruction of two clocks; h is the state between them
module _ (ls : List ℕ) (w : ℕ) (g : Going) (rs : List ℕ) (ca : Cache) (s : List ℕ) (b : Begins ls g) (h : Going)
    (is-next : h ≡ onward g (advanced g.scalars (in_phase 5 0) 0 0))
    (d : Does w (length s) g.scalars rs ca (λ y. moved g.scalars (in_phase 5 0) ca y 0 0)) where
  pub entered : Quietly ls w (point g rs ca s) (point h rs ca s)
  entered p is bs ws x₀ at r = onward-answered p ls is x₀ g rs ca s bs ws r b.more _ rs ca s
      (begun-here p g.scalars rs ca s (record { line_byte = get_or ls g.at 0; input = get_or is g.at 0 }) w at b.unheld
      b.idle b.none _ d (in_phase 5 0) 0 0 ca s refl) h is-next

  pub seen : gathered h.scalars rs ≡ gathered g.scalars rs
  seen = ap (λ (k : Going). gathered k.scalars rs) is-next

  pub phase : h.scalars.running.phase ≡ 5
  phase = ap (λ (k : Going). k.scalars.running.phase) is-next

  pub word_next : (p : List ℕ) → w ≡ word_at p g.scalars.pc → w ≡ word_at p h.scalars.pc
  word_next p at = at ∙ sym (ap (λ (k : Going). word_at p k.scalars.pc) is-next)

  pub good-next : Under ls w (point g rs ca s) → Good w (length s) h.scalars rs ca
  good-next u = good-here u.program ls u.inputs u.from h rs ca s u.bytes u.words
      (entered u.program u.inputs u.bytes u.words u.from u.word u.so) w (word_next u.program u.word)

  -- the second clock executes the instruction and has no answer
  pub ended : h.at < length ls → stalled (get_or ls h.at 0) ≡ false → (after : Scalars) (rs' : List ℕ)
      → ((i : ℕ) → made (shows after 0 0) rs' ca s ≡ finish paper_geometry w (length s) (whole h.scalars rs ca) s i)
      → (k : Going) → k ≡ record { scalars = after; at = h.at + 1; finished = h.finished + 1 }
      → Quietly ls w (point g rs ca s) (point k rs' ca s)
  ended more free after rs' e k is_last p is bs ws x₀ at r = let q = entered p is bs ws x₀ at r in
      quiet-answered p ls is x₀ h rs ca s bs ws q more after 1 rs' ca s
      (last-here p ls is x₀ h rs ca s bs ws q more w (word_next p at) free phase _ (e (get_or is h.at 0))) k is_last

-- a run in state q, in the form that the functions require
pub under_at : (p ls is : List ℕ) (w : ℕ) (q : Point) (bs ws : List ℕ) → At p ls is q bs ws → w ≡ word_at p q.lent.machine.scalars.pc
    → Under ls w q
under_at p ls is w q bs ws a at =
    record { program = p; inputs = is; bytes = bs; words = ws; from = a.from; word = at; so = a.so }

pub good-under : (ls : List ℕ) (w : ℕ) (g : Going) (rs : List ℕ) (ca : Cache) (s : List ℕ) → Under ls w (point g rs ca s)
    → Good w (length s) g.scalars rs ca
good-under ls w g rs ca s u =
    good-here u.program ls u.inputs u.from g rs ca s u.bytes u.words u.so w u.word

pub good-at_turn : (p ls is : List ℕ) (w : ℕ) (g : Going) (rs : List ℕ) (ca : Cache) (s bs ws : List ℕ)
    → At p ls is (point g rs ca s) bs ws → w ≡ word_at p g.scalars.pc → Good w (length s) g.scalars rs ca
good-at_turn p ls is w g rs ca s bs ws a at = good-here p ls is a.from g rs ca s bs ws a.so w at

-- what is known where an instruction begins
pub record Opens (ls : List ℕ) (w : ℕ) (g : Going) (rs : List ℕ) (ca : Cache) (s : List ℕ) : Type 0 where
  pub under : Under ls w (point g rs ca s)
  pub good : Good w (length s) g.scalars rs ca
  pub facts : Facts w (length s) g.scalars rs ca
  pub few : (g.at ≤ 65536) × (g.finished ≤ 65536)

pub opens : (p ls is : List ℕ) (w : ℕ) (g : Going) (rs : List ℕ) (ca : Cache) (s bs ws : List ℕ)
    → At p ls is (point g rs ca s) bs ws → w ≡ word_at p g.scalars.pc → Begins ls g → Opens ls w g rs ca s
opens p ls is w g rs ca s bs ws a at b = let k = good-at_turn p ls is w g rs ca s bs ws a at in record {
  under = under_at p ls is w (point g rs ca s) bs ws a at;
  good = k;
  facts = facts w (length s) g.scalars rs ca k;
  few = few-done p ls is a.from g rs ca s bs ws a.so b.more;
}

-- LD has a second clock: from a device, and on a hit
module _ (w n : ℕ) (c : Scalars) (rs : List ℕ) (ca : Cache) (f : Facts w n c rs ca) (z : c.running.phase ≡ 0) (o : operation w ≡ 12) where
  pub device_first : (d : ℕ) → place_of_word w (gathered c rs) n ≡ Device d → Does w n c rs ca (λ y. moved c (in_phase 5 0) ca y 0 0)
  device_first d p = first_device_load w n c rs ca f z (kind_device w n (gathered c rs) (load_access w o) d p) (not-store w o)

  pub hit-first : (a : ℕ) → place_of_word w (gathered c rs) n ≡ Memory a → cache_on (gathered c rs) ≡ true
      → (h : Bool) → h ≡ holds (line_at paper_geometry ca (a / 8 % 16)) (a / 8) → h ≡ true
      → Does w n c rs ca (λ y. moved c (in_phase 5 0) ca y 0 0)
  hit-first a p on h e t = first_hit_load w n c rs ca f z (kind-cached w n (gathered c rs) (load_access w o) a p on)
      (hits_at _ _ _ _ _ p ∙ sym e ∙ t) (not-store w o)

-- the lengths of store and buffers stay the same
pub record Long (q : Point) (bs ws : List ℕ) (q' : Point) (bs' ws' : List ℕ) : Type 0 where
  pub store : length q'.lent.store ≡ length q.lent.store
  pub bytes : length bs' ≡ length bs
  pub words : length ws' ≡ length ws

pub long-turned : (p ls is : List ℕ) (q : Point) (bs ws : List ℕ) (q' : Point) (bs' ws' : List ℕ) → At p ls is q bs ws
    → Turned p ls is q bs ws q' bs' ws' → Long q bs ws q' bs' ws'
long-turned p ls is q bs ws q' bs' ws' a t = let r = t a.from a.so in record {
  store = r.long ∙ sym a.so.long;
  bytes = r.wide ∙ sym a.so.wide;
  words = r.broad ∙ sym a.so.broad;
}

-- in phase 0 nothing is in flight
pub rests : (p ls is : List ℕ) (g : Going) (rs : List ℕ) (ca : Cache) (s bs ws : List ℕ) → At p ls is (point g rs ca s) bs ws
    → g.scalars.running.phase ≡ 0 → g.scalars.running ≡ in_phase 0 0
rests p ls is g rs ca s bs ws a z =
    let w = word_at p g.scalars.pc in
    idle-running w (length s) g.scalars rs ca (facts w (length s) g.scalars rs ca (good-at_turn p ls is w g rs ca s bs ws a refl)) z

abbrev pub idled : Going → Running → Going
idled g r =
    record { scalars = scalars_with g.scalars r g.scalars.counts; at = g.at; finished = g.finished }

-- replacing `running` by its own value changes nothing
pub retold : (g : Going) (r : Running) → r ≡ g.scalars.running → idled g r ≡ g
retold g r e = ap (idled g) e

module _ (p ls is : List ℕ) (g h : Going) (rs : List ℕ) (ca : Cache) (s bs ws : List ℕ) (a : At p ls is (point g rs ca s) bs ws)
    (e : h ≡ g) (q : Point) (bs' ws' : List ℕ) (t : Turned p ls is (point h rs ca s) bs ws q bs' ws') where
  pub turned-from : Turned p ls is (point g rs ca s) bs ws q bs' ws'
  turned-from x₀ k = t x₀ (subst (λ y. Reached p ls is x₀ (point y rs ca s) bs ws) (sym e) k)

  pub at_from : At p ls is q bs' ws'
  at_from = record { from = a.from; so = turned-from a.from a.so }

  pub long-from : Long (point g rs ca s) bs ws q bs' ws'
  long-from = long-turned p ls is (point g rs ca s) bs ws q bs' ws' a turned-from

-- what a false result of `raised` means
pub unraised : (t : Bool) (x : ℕ) (r : Bool) → r ≡ (t || not (eqb x 0)) → r ≡ false → (t ≡ false) × (x ≡ 0)
unraised true x r e q = clash (sym (sym e ∙ q))
unraised false x r e q = go (eqb x 0) refl (sym e ∙ q)
  where
    go : (b : Bool) → eqb x 0 ≡ b → not b ≡ false → (false ≡ false) × (x ≡ 0)
    go true y z = (refl, eqb-true x 0 y)
    go false y z = clash (sym z)

-- a clock j ≥ i for which `raised` is true is after the clock i at which an instruction begins
pub past-raised : (ls : List ℕ) (g : Going) (j status : ℕ) (r : Bool) → Begins ls g → g.at ≤ j → (j ≡ g.at → status ≡ g.scalars.status)
    → r ≡ (stalled (get_or ls j 0) || not (eqb (interrupt_chosen status (get_or ls j 0)) 0)) → r ≡ true → g.at < j
past-raised ls g j status r b h s e q = go (ℕ_discrete j g.at)
  where
    quiet : j ≡ g.at → (stalled (get_or ls j 0) || not (eqb (interrupt_chosen status (get_or ls j 0)) 0)) ≡ false
    quiet y = rw (y, s y, b.unheld, b.none)

    go : Dec (j ≡ g.at) → g.at < j
    go (yes y) = bool_clash r q (e ∙ quiet y)
    go (no z) = omega (arith, h, z)

-- a line byte of 0 means neither stall nor interrupt
pub raised_none : (status : ℕ) → (stalled 0 || not (eqb (interrupt_chosen status 0) 0)) ≡ false
unfolding stalled interrupt_chosen interrupt_raised
raised_none status = rw (and-false (is_set (bit 0 status)), and-false (is_set (bit 1 status))) (go (is_set (bit 2 status)))
  where
    go : (t : Bool) → not (eqb (cond t 0 0) 0) ≡ false
    go true = refl
    go false = refl
