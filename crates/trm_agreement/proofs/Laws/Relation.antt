-- The relation between the two machines: the reference machine is the record's visible part and counts with a flat memory, a history and a
-- number of clocks left. Idea: what holds in every phase is `Common`; what is in flight is a data type with a constructor for each phase.
use Prim.Native.Nat.{ℕ, ◌+◌, ◌*◌, ◌≤◌, ◌<◌}
use mathlib.Core.Path.{◌≡◌}
use mathlib.Core.Logic.{◌≢◌}
use mathlib.Core.Bool.{true, false, ◌&&◌}
use mathlib.Core.List.{List}
use lib.ListN.{length, get_or}
use Rattle.trm_word.specs.Address.{store_length_ok}
use Rattle.trm_reference.specs.Geometry.{Geometry, burst}
use Rattle.trm_reference.specs.Visible.{Visible, word_at, cache_on}
use Rattle.trm_reference.specs.Access.{Answer, target_block, target_line}
use Rattle.trm_reference.specs.History.{Event, since, last_in, last_dirty}
use Rattle.trm_reference.specs.Charge.{uncached_charge}
use Rattle.trm_reference.specs.Trace.{After}
use Rattle.trm_reference.specs.Reference.{Reference}
use Rattle.trm_reference.proofs.Laws.Execute.{Narrow}
use Rattle.trm_core.specs.Record.{Machine}
use Rattle.trm_core.specs.declared.record.Running.{Running}
use Rattle.trm_cache.specs.Cache.{line_at, holds, view, count_dirty, first_dirty}
use Rattle.trm_cache.specs.declared.record.Cache.{Cache}
use Rattle.trm_core.specs.Record.{Lent, visible_of, cache_of, stepping, in_phase}
use Rattle.trm_core.specs.Rule.{due_ok}
use Rattle.trm_core.proofs.Laws.Fit.{Fit}
use Rattle.trm_core.proofs.Laws.Kind.{Kind, quick, second, longer, device, cached, uncached, clearing, kind_of}
use Rattle.trm_cache.proofs.Laws.Cache.{Sane}
use Rattle.trm_cache.proofs.Laws.Bursts.{Written, Filled}
use Rattle.trm_agreement.proofs.Laws.History.{Judged, Matches}

-- what the reference machine has in addition to the visible part and the counts
pub record Extra : Type 0 where
  pub memory : List ℕ
  pub history : List Event
  pub left : ℕ

abbrev pub plain_of : Machine → Extra → Reference
plain_of m e =
    record {
      visible = visible_of m;
      memory = e.memory;
      history = e.history;
      left = e.left;
      clocks = m.scalars.counts.clocks;
      held = m.scalars.counts.held;
      refills = m.scalars.counts.refills;
      writebacks = m.scalars.counts.writebacks;
    }

-- no count is above the clock count
pub record Counted (m : Machine) : Type 0 where
  pub held : m.scalars.counts.held ≤ m.scalars.counts.clocks
  pub refills : m.scalars.counts.refills ≤ m.scalars.counts.clocks
  pub writebacks : m.scalars.counts.writebacks ≤ m.scalars.counts.clocks

-- what holds in every phase
pub record Common (G : Geometry) (m : Machine) (s : List ℕ) (e : Extra) : Type 0 where
  pub size : length s ≡ m.scalars.size
  pub memory : length e.memory ≡ m.scalars.size
  pub view : (a : ℕ) → a < m.scalars.size → view G (cache_of m) s a ≡ get_or e.memory a 0
  pub sane : Sane G (cache_of m) s
  pub off : cache_on (visible_of m) ≡ false → (l : ℕ) → l < G.lines → (line_at G (cache_of m) l).full ≡ false
  pub fit : Fit G m.scalars.size
  pub legal : store_length_ok m.scalars.size ≡ true
  pub narrow : Narrow (visible_of m)
  pub counted : Counted m

module _ (G : Geometry) where
  -- all cache lines but k
  abbrev pub MatchesBut : ℕ → List Event → Cache → Type 0
  MatchesBut k h ca = (l : ℕ) → l < G.lines → l ≢ k → Judged (since G h l) (line_at G ca l)

  -- the line of an access in its last clock holds its block
  pub record Holding (b l : ℕ) (h : List Event) (ca : Cache) : Type 0 where
    pub others : MatchesBut l h ca
    pub block : holds (line_at G ca l) b ≡ true
    pub dirty : (line_at G ca l).dirty ≡ last_in (since G h l) b && last_dirty (since G h l)

  -- what a word of each kind needs in its last clock
  abbrev pub Due : Kind → ℕ → ℕ → Visible → Cache → List Event → Type 0
  Due quick w n v ca h = Matches G h ca
  Due second w n v ca h = Matches G h ca
  Due longer w n v ca h = Matches G h ca
  Due device w n v ca h = Matches G h ca
  Due cached w n v ca h = Holding (target_block G w v n) (target_line G w v n) h ca
  Due uncached w n v ca h = Matches G h ca
  Due clearing w n v ca h = count_dirty G ca ≡ 0

  -- what is in flight: the running part r, the store s, the history h and the clocks left
  pub data Flight (w n : ℕ) (k : Kind) (r : Running) (v : Visible) (ca : Cache) (s : List ℕ) (h : List Event) (left : ℕ) : Type 0 where
    ready : r ≡ in_phase 0 0 → left ≡ 0 → Matches G h ca → Flight w n k r v ca s h left
    arithmetic : k ≡ longer → r ≡ stepping w v r.count → 1 ≤ r.count → r.count + left ≡ 33 → 0 < left → Matches G h ca
        → Flight w n k r v ca s h left
    write_back : k ≡ cached → r ≡ in_phase 2 r.count → r.count < burst G → r.count + left ≡ 1 + burst G + burst G → Matches G h ca
        → holds (line_at G ca (target_line G w v n)) (target_block G w v n) ≡ false
        → (line_at G ca (target_line G w v n)).dirty ≡ true
        → Written G (line_at G ca (target_line G w v n)) s r.count → Flight w n k r v ca s h left
    clearing_off : k ≡ clearing → r ≡ in_phase 2 r.count → r.count < burst G → r.count + left ≡ 1 + burst G * count_dirty G ca
        → count_dirty G ca ≢ 0
        → Written G (line_at G ca (first_dirty G ca)) s r.count → Flight w n k r v ca s h left
    refill : k ≡ cached → r ≡ in_phase 3 r.count → r.count < burst G → r.count + left ≡ 1 + burst G
        → MatchesBut (target_line G w v n) h ca
        → (line_at G ca (target_line G w v n)).full ≡ false
        → last_in (since G h (target_line G w v n)) (target_block G w v n) ≡ false
        → Filled G (line_at G ca (target_line G w v n)) s (target_block G w v n) r.count → Flight w n k r v ca s h left
    waiting : k ≡ uncached → r ≡ in_phase 4 r.count → 1 ≤ r.count → r.count + left ≡ uncached_charge w → 0 < left → Matches G h ca
        → Flight w n k r v ca s h left
    last : r ≡ in_phase 5 0 → due_ok G w n v ca ≡ true → left ≡ 1 → Due k w n v ca h → Flight w n k r v ca s h left

  -- the relation, for the program p
  pub record Related (p : List ℕ) (m : Machine) (s : List ℕ) (e : Extra) : Type 0 where
    pub common : Common G m s e
    pub flight : Flight (word_at p m.scalars.pc) m.scalars.size
        (kind_of (word_at p m.scalars.pc) (visible_of m) m.scalars.size)
        m.scalars.running (visible_of m) (cache_of m) s e.history e.left

  -- one clock of each machine
  pub record Agree (p : List ℕ) (t : After Lent Answer) (u : After Reference Answer) : Type 0 where
    pub extra : Extra
    pub plain : u.state ≡ plain_of t.state.machine extra
    pub related : Related p t.state.machine t.state.store extra
    pub out : t.out ≡ u.out
