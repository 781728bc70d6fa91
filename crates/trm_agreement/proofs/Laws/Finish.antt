-- The last clock of a word: what its execution leaves in both machines agrees.
-- Idea: six facts (`Settled`) build the agreement; most words change no memory, no line and no history; the others are LD and ST through
-- the cache, uncached ST, and turning the cache off.
use Prim.Native.Nat.{ℕ, ◌+◌, ◌%◌, ◌<◌}
use mathlib.Core.Path.{◌≡◌, refl, sym, ap, ap₂, ◌∙◌}
use mathlib.Core.Bool.{Bool, true, false, ◌&&◌, ◌||◌}
use mathlib.Core.List.{List, ◌∷◌}
use lib.ListN.{length, get_or, set, length-set}
use lib.Seq.{get_or-set_same, get_or-set_other}
use native.Mathlib.Omega.{arith}
use native.Mathlib.Decide.{ℕ_discrete}
use native.Mathlib.Nat.{mod-lt}
use Rattle.trm_laws.proofs.Tests.{bool_clash}
use Rattle.trm_reference.specs.Geometry.{Geometry, block_of, line_of}
use Rattle.trm_reference.specs.Visible.{cache_on}
use Rattle.trm_reference.specs.Access.{is_store, target, target_block, target_line, stored, loaded, answer_of}
use Rattle.trm_reference.specs.Execute.{execute}
use Rattle.trm_reference.specs.History.{Touch, Event, access, since, last_in, last_dirty}
use Rattle.trm_reference.specs.Charge.{turns_cache_off}
use Rattle.trm_reference.specs.Reference.{carry_out, memory_after, history_after}
use Rattle.trm_reference.proofs.Laws.Execute.{execute-on, execute-narrow}
use Rattle.trm_core.specs.Record.{Machine}
use Rattle.trm_cache.specs.Cache.{Line, line_at, view, stored_to, count_dirty}
use Rattle.trm_cache.specs.declared.record.Cache.{Cache}
use Rattle.trm_core.specs.Record.{visible_of, cache_of}
use Rattle.trm_core.specs.Clock.{cache_after, store_after, finish}
use Rattle.trm_core.proofs.Laws.Kind.{Kind, quick, second, longer, device, cached, uncached, clearing, Is, is_clearing, is_cached}
use Rattle.trm_core.proofs.Laws.Kind.{is_uncached, in_memory}
use Rattle.trm_core.proofs.Laws.Fit.{target_in, any-line_in}
use Rattle.trm_cache.proofs.Laws.Lines.{empty_line, store_line, Becomes, becomes_stored}
use Rattle.trm_cache.proofs.Laws.Cache.{Sane, holds-full, holds-block, empty-view, sane_update, stored_ok, stored-view, stored_view_other}
use Rattle.trm_cache.proofs.Laws.Dirty.{emptied-at, all_emptied_sane, all_emptied-view}
use Rattle.trm_agreement.proofs.Laws.History.{Judged, Matches, judged_access, judged-none, since-here, since-there, since_emptying}
use Rattle.trm_agreement.proofs.Laws.Relation.{Extra, plain_of, Common, MatchesBut, Due, ready, Agree}

module _ (G : Geometry) where
  -- what execution leaves
  record Settled (w n : ℕ) (m : Machine) (s : List ℕ) (e : Extra) : Type 0 where
    size : length (store_after w n (visible_of m) s) ≡ m.scalars.size
    memory : length (memory_after G w (plain_of m e)) ≡ m.scalars.size
    view : (a : ℕ) → a < m.scalars.size
        → view G (cache_after G w n (visible_of m) (cache_of m)) (store_after w n (visible_of m) s) a ≡ get_or
        (memory_after G w (plain_of m e)) a 0
    sane : Sane G (cache_after G w n (visible_of m) (cache_of m)) (store_after w n (visible_of m) s)
    off : (x : ℕ) → cache_on (execute w (visible_of m) x) ≡ false → (l : ℕ) → l < G.lines
        → (line_at G (cache_after G w n (visible_of m) (cache_of m)) l).full ≡ false
    matches : Matches G (history_after G w (plain_of m e)) (cache_after G w n (visible_of m) (cache_of m))

  settled : (p : List ℕ) (w : ℕ) (m : Machine) (s : List ℕ) (e : Extra) (i : ℕ) → Common G m s e → Settled w m.scalars.size m s e
      → Agree G p (finish G w m.scalars.size m s i) (carry_out G w (plain_of m e) i)
  unfolding finish carry_out
  settled p w m s e i c st = record {
    extra = record { memory = memory_after G w (plain_of m e); history = history_after G w (plain_of m e); left = 0 };
    plain = ap₂ (λ (x n : ℕ). record {
      visible = execute w (visible_of m) (loaded w (visible_of m) n i x);
      memory = memory_after G w (plain_of m e);
      history = history_after G w (plain_of m e);
      left = 0;
      clocks = m.scalars.counts.clocks + 1;
      held = m.scalars.counts.held;
      refills = m.scalars.counts.refills;
      writebacks = m.scalars.counts.writebacks;
    }) same c.memory;
    related = record {
      common = record {
        size = st.size;
        memory = st.memory;
        view = st.view;
        sane = st.sane;
        off = st.off _;
        fit = c.fit;
        legal = c.legal;
        narrow = execute-narrow w (visible_of m) (loaded w (visible_of m) m.scalars.size i
            (view G (cache_of m) s (target w (visible_of m) m.scalars.size))) c.narrow;
        counted = record {
          held = (let h = c.counted.held in omega arith);
          refills = (let h = c.counted.refills in omega arith);
          writebacks = (let h = c.counted.writebacks in omega arith);
        };
      };
      flight = ready refl refl st.matches;
    };
    out = ap (λ n. answer_of w (visible_of m) n i) (sym c.memory);
  }
    where
      same : get_or e.memory (target w (visible_of m) (length e.memory)) 0
          ≡ view G (cache_of m) s (target w (visible_of m) m.scalars.size)
      same = rw c.memory
          (sym (c.view (target w (visible_of m) m.scalars.size) (target_in w (visible_of m) m.scalars.size c.fit.npos)))

  -- a word that changes no memory, no line and no history
  still : (w : ℕ) (m : Machine) (s : List ℕ) (e : Extra) → Common G m s e → turns_cache_off w (visible_of m) ≡ false
      → cache_after G w m.scalars.size (visible_of m) (cache_of m) ≡ cache_of m → store_after w m.scalars.size (visible_of m) s ≡ s
      → memory_after G w (plain_of m e) ≡ e.memory → history_after G w (plain_of m e) ≡ e.history
      → Matches G e.history (cache_of m) → Settled w m.scalars.size m s e
  still w m s e c n l1 s1 m1 h1 mt = record {
    size = rw s1 c.size;
    memory = rw m1 c.memory;
    view = rw (l1, s1, m1) c.view;
    sane = rw (l1, s1) c.sane;
    off = λ x q. rw l1 (was-off x q (cache_on (visible_of m)) refl);
    matches = rw (l1, h1) mt;
  }
    where
      was-off : (x : ℕ) → cache_on (execute w (visible_of m) x) ≡ false → (b : Bool) → cache_on (visible_of m) ≡ b → (l : ℕ) → l < G.lines
          → (line_at G (cache_of m) l).full ≡ false
      was-off x q true o = bool_clash (cache_on (execute w (visible_of m) x)) (execute-on w (visible_of m) x n o) q
      was-off x q false o = c.off o

  access_matches : (h : List Event) (ca : Cache) (b : ℕ) (st : Bool) → MatchesBut G (line_of G b) h ca
      → (line_at G ca (line_of G b)).full ≡ true → (line_at G ca (line_of G b)).block ≡ b
      → (line_at G ca (line_of G b)).dirty ≡ st || (last_in (since G h (line_of G b)) b && last_dirty (since G h (line_of G b)))
      → Matches G (access (record { block = b; store = st }) ∷ h) ca
  access_matches h ca b st mt f bl d l hl = go (ℕ_discrete l (line_of G b))
    where
      a : Touch
      a = record { block = b; store = st }

      go : Dec (l ≡ line_of G b) → Judged (since G (access a ∷ h) l) (line_at G ca l)
      go (yes e) = rw (since-here G a h l (sym e), e) (judged_access (since G h (line_of G b)) a (line_at G ca (line_of G b)) f bl d)
      go (no n) = rw (since-there G a h l (λ e. n (sym e))) (mt l hl n)

  -- what the definitions give for a word of kind k
  module _ (w : ℕ) (m : Machine) (s : List ℕ) (e : Extra) (c : Common G m s e) where
    -- an LD or ST through the cache
    cached-settled : Is cached w (visible_of m) m.scalars.size
        → Due G cached w m.scalars.size (visible_of m) (cache_of m) e.history
        → Settled w m.scalars.size m s e
    unfolding cache_after store_after memory_after history_after target_line target_block
    cached-settled is du = go (is_store w) refl
      where
        a : ℕ
        a = target w (visible_of m) m.scalars.size

        x : ℕ
        x = stored w (visible_of m)

        l : ℕ
        l = line_of G (block_of G a)

        ln : Line
        ln = line_at G (cache_of m) l

        ln' : Line
        ln' = store_line ln (a % G.words) x

        ls' : Cache
        ls' = stored_to G (cache_of m) l (a % G.words) x

        full : ln.full ≡ true
        full = holds-full ln (block_of G a) du.block

        block : ln.block ≡ block_of G a
        block = holds-block ln (block_of G a) du.block

        lin : l < G.lines
        lin = any-line_in G c.fit.lpos (block_of G a)

        wpos : 0 < G.words
        wpos = c.fit.wpos

        bc : Becomes G (cache_of m) l ln' ls'
        bc = becomes_stored G (cache_of m) l c.sane.wide lin (a % G.words) x (mod-lt a wpos)

        off : (y : ℕ) → cache_on (execute w (visible_of m) y) ≡ false → {A : Type 0} → A
        off y q = bool_clash (cache_on (execute w (visible_of m) y)) (execute-on w (visible_of m) y is.off is.on) q

        flat : (k : ℕ) → k < m.scalars.size → view G ls' s k ≡ get_or (set e.memory a x) k 0
        flat k h = choose (ℕ_discrete k a)
          where
            choose : Dec (k ≡ a) → view G ls' s k ≡ get_or (set e.memory a x) k 0
            choose (yes q) = rw q (stored-view G wpos (cache_of m) s a x (omega arith) lin c.sane du.block
                ∙ sym (get_or-set_same e.memory a x 0 (rw c.memory (target_in w (visible_of m) m.scalars.size c.fit.npos))))
            choose (no n) = stored_view_other G wpos (cache_of m) s a x k (omega arith) lin c.sane du.block n ∙ c.view k h
                ∙ sym (get_or-set_other e.memory a k x 0 n)

        go : (b : Bool) → is_store w ≡ b → Settled w m.scalars.size m s e
        go false z = record {
          size = rw is.without c.size;
          memory = rw (c.memory, is.memory, z) c.memory;
          view = rw (is.through, is.without, c.memory, is.memory, z) c.view;
          sane = rw (is.through, is.without, z) c.sane;
          off = λ y q. off y q;
          matches = rw (is.through, c.memory, is.through, z)
              (access_matches e.history (cache_of m) (block_of G a) false du.others full block du.dirty);
        }
        go true z = record {
          size = rw is.without c.size;
          memory = rw (c.memory, is.memory, z) (length-set e.memory a x ∙ c.memory);
          view = rw (is.through, is.without, c.memory, is.memory, z) flat;
          sane = rw (is.through, is.without, z) (sane_update G wpos (cache_of m) s l ln' ls' s bc c.sane refl
              (stored_ok G wpos s l ln (a % G.words) x full (c.sane.each l lin)) (λ k q. refl));
          off = λ y q. off y q;
          matches = rw (is.through, c.memory, is.through, z) (access_matches e.history ls' (block_of G a) true
              (λ k hk n. rw (bc.there k n) (du.others k hk n))
              (rw bc.here full) (rw bc.here block) (rw bc.here));
        }

    -- an uncached LD or ST
    uncached_settled : Is uncached w (visible_of m) m.scalars.size → Matches G e.history (cache_of m)
        → Settled w m.scalars.size m s e
    unfolding cache_after store_after memory_after history_after
    uncached_settled is mt = go (is_store w) refl
      where
        a : ℕ
        a = target w (visible_of m) m.scalars.size

        x : ℕ
        x = stored w (visible_of m)

        wpos : 0 < G.words
        wpos = c.fit.wpos

        none : (l : ℕ) → l < G.lines → (line_at G (cache_of m) l).full ≡ false
        none = c.off is.on

        through : (t : List ℕ) (k : ℕ) → view G (cache_of m) t k ≡ get_or t k 0
        through t k = unfold view in empty-view G wpos t (line_at G (cache_of m) (line_of G (block_of G k))) k
            (none _ (any-line_in G c.fit.lpos (block_of G k)))

        flat : (k : ℕ) → k < m.scalars.size → view G (cache_of m) (set s a x) k ≡ get_or (set e.memory a x) k 0
        flat k h = through (set s a x) k ∙ choose (ℕ_discrete k a)
          where
            choose : Dec (k ≡ a) → get_or (set s a x) k 0 ≡ get_or (set e.memory a x) k 0
            choose (yes q) = rw q (get_or-set_same s a x 0 (rw c.size (target_in w (visible_of m) m.scalars.size c.fit.npos))
                ∙ sym (get_or-set_same e.memory a x 0 (rw c.memory (target_in w (visible_of m) m.scalars.size c.fit.npos))))
            choose (no n) = get_or-set_other s a k x 0 n ∙ sym (through s k) ∙ c.view k h ∙ sym (get_or-set_other e.memory a k x 0 n)

        sane' : Sane G (cache_of m) (set s a x)
        sane' = record {
          wide = c.sane.wide;
          each = λ l h.
              let o = c.sane.each l h in
              record {
                wide = o.wide;
                home = o.home;
                inside = λ f. bool_clash (line_at G (cache_of m) l).full f (none l h);
                empty_clean = o.empty_clean;
                empty_zero = o.empty_zero;
                agrees = λ f d i hi. bool_clash (line_at G (cache_of m) l).full f (none l h);
              };
        }

        go : (b : Bool) → is_store w ≡ b → Settled w m.scalars.size m s e
        go false z = still w m s e c is.off (rw (is.through, is.off)) (rw (is.without, z)) (rw (c.memory, is.memory, z))
            (rw (c.memory, is.through, is.off)) mt
        go true z = record {
          size = rw (is.without, z) (length-set s a x ∙ c.size);
          memory = rw (c.memory, is.memory, z) (length-set e.memory a x ∙ c.memory);
          view = rw (is.through, is.off, is.without, c.memory, is.memory, z) flat;
          sane = rw (is.through, is.off, is.without, z) sane';
          off = λ y q l hl. rw (is.through, is.off) (none l hl);
          matches = rw (is.through, is.off, c.memory, is.through) mt;
        }

    -- turning the cache off, with no line dirty
    clearing_settled : Is clearing w (visible_of m) m.scalars.size → count_dirty G (cache_of m) ≡ 0 → Settled w m.scalars.size m s e
    unfolding cache_after store_after memory_after history_after
    clearing_settled is z = record {
      size = rw is.without c.size;
      memory = rw (c.memory, is.memory) c.memory;
      view = rw (is.through, is.off, is.without, c.memory, is.memory) (λ a h.
          all_emptied-view G c.fit.wpos (cache_of m) s a (any-line_in G c.fit.lpos (block_of G a)) c.sane z
          ∙ c.view a h);
      sane = rw (is.through, is.off, is.without) (all_emptied_sane G c.fit.wpos (cache_of m) s c.sane);
      off = λ x q l hl. rw (is.through, is.off) (rw (emptied-at G (cache_of m) l c.sane.wide hl));
      matches = rw (is.through, is.off, c.memory, is.through) (λ l hl.
          rw (since_emptying G e.history l, emptied-at G (cache_of m) l c.sane.wide hl)
          (judged-none (empty_line (line_at G (cache_of m) l)) refl refl));
    }

    -- every other word
    other-settled : (k : Kind) → Is k w (visible_of m) m.scalars.size → in_memory k ≡ false → is_clearing k ≡ false → is_cached k ≡ false
        → is_uncached k ≡ false → Matches G e.history (cache_of m) → Settled w m.scalars.size m s e
    unfolding cache_after store_after memory_after history_after
    other-settled k is no-memory no-clear no-cache no-wait mt =
        still w m s e c (is.off ∙ no-clear) (rw (is.through, no-cache, is.off, no-clear)) (rw (is.without, no-wait))
        (rw (c.memory, is.memory, no-memory)) (rw (c.memory, is.through, no-cache, is.off, no-clear)) mt

    due-settled : (k : Kind) → Is k w (visible_of m) m.scalars.size
        → Due G k w m.scalars.size (visible_of m) (cache_of m) e.history
        → Settled w m.scalars.size m s e
    due-settled quick is d = other-settled quick is refl refl refl refl d
    due-settled second is d = other-settled second is refl refl refl refl d
    due-settled longer is d = other-settled longer is refl refl refl refl d
    due-settled device is d = other-settled device is refl refl refl refl d
    due-settled cached is d = cached-settled is d
    due-settled uncached is d = uncached_settled is d
    due-settled clearing is d = clearing_settled is d

  pub finish-agrees : (p : List ℕ) (k : Kind) (w : ℕ) (m : Machine) (s : List ℕ) (e : Extra) (i : ℕ) → Common G m s e
      → Is k w (visible_of m) m.scalars.size → Due G k w m.scalars.size (visible_of m) (cache_of m) e.history
      → Agree G p (finish G w m.scalars.size m s i) (carry_out G w (plain_of m e) i)
  finish-agrees p k w m s e i c is du = settled p w m s e i c (due-settled w m s e c k is du)
