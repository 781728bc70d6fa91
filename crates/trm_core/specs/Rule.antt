-- The record rule, row 5: `record_ok` decides whether a record is valid, clause by clause. n is the store's length, w the word at PC.
-- Paper: "The record holds phase and count: ..", "Phase 1 needs ..", row 5 of the refusals.
-- Each field and the clause that checks its width (D-07):
--   widths_ok   PC, N, Z, C, V, status        phase_ok   phase, count        registers_ok   product, remainder, quotient
--   counts_ok   clocks, held, refills, write-backs        lines_ok   of every line full and dirty (marks_ok), block (line_ok)
--   not checked here: `size` (row 4 does); registers, H and cached words, whose types in code have 32 bits (src/record.rt, and
--   src/machine.rt of trm_run_machine)        record_ok G p n m   all clauses
use Rattle.std.specs.Prelude.{ℕ, zero, suc, ◌+◌, ◌*◌, ◌^◌, Bool, true, cond, not, ◌&&◌, ◌||◌, List, get_or, eqb, leb, ltb}
use Rattle.trm_word.specs.Fields.{operation}
use Rattle.trm_reference.specs.Geometry.{Geometry, burst, line_of}
use Rattle.trm_reference.specs.Visible.{Visible, cache_on, word_at}
use Rattle.trm_reference.specs.Access.{is_load, to_memory, to_device}
use Rattle.trm_reference.specs.Charge.{is_stepped, is_jump, takes_branch, through_cache, without_cache, turns_cache_off}
use Rattle.trm_core.specs.declared.record.Counts.{Counts}
use Rattle.trm_core.specs.declared.record.Running.{Running}
use Rattle.trm_core.specs.Record.{Machine}
use Rattle.trm_cache.specs.Cache.{Line, line_at, count_dirty}
use Rattle.trm_cache.specs.declared.record.Cache.{Cache}
use Rattle.trm_core.specs.Record.{visible_of, cache_of, product_at, remainder_at, quotient_at}
use Rattle.trm_core.specs.Clock.{line_for, hits}

-- "field outside its width": PC 12 bits, each flag 1, status 4
unfoldable pub widths_ok : Visible → Bool
widths_ok v =
    ltb v.pc 4096
    && (ltb v.n 2 && ltb v.z 2 && ltb v.c 2 && ltb v.v 2)
    && ltb v.status 16

-- the clock count has 32 bits (row 8: at most 4,294,967,295; D-07); "a held, refill or write-back count above the clock count"
unfoldable pub counts_ok : Counts → Bool
counts_ok k = ltb k.clocks (2 ^ 32) && leb k.held k.clocks && leb k.refills k.clocks && leb k.writebacks k.clocks

-- "a multiplier or divider register other than stated"
unfoldable pub registers_ok : ℕ → Running → Visible → Bool
registers_ok w r v =
    eqb r.product (cond (eqb r.phase 1) (product_at w v r.count) 0)
    && eqb r.remainder (cond (eqb r.phase 1) (remainder_at w v r.count) 0)
    && eqb r.quotient (cond (eqb r.phase 1) (quotient_at w v r.count) 0)

-- "1 arithmetic, 1–32"; "Phase 1 needs operation 8 or 9"
unfoldable pub arithmetic_ok : ℕ → ℕ → Bool
arithmetic_ok w count = leb 1 count && leb count 32 && is_stepped w

-- "4 uncached wait, 1–5 for LD, 1–4 for ST"
unfoldable pub wait_ok : ℕ → ℕ → ℕ → Visible → Bool
wait_ok w n count v = leb 1 count && leb count (cond (is_load w) 5 4) && without_cache w v n

-- each of full and dirty has one bit (D-07)
unfoldable pub marks_ok : Cache → ℕ → Bool
marks_ok ca l = ltb (get_or ca.full l 0) 2 && ltb (get_or ca.dirty l 0) 2

module _ (G : Geometry) where
  -- "2 write-back, 0–9, on a full dirty line"; "2 needs 12 or 13 to memory, its line holding another block, or 11 clearing status bit 3"
  unfoldable pub writeback_ok : ℕ → ℕ → ℕ → Visible → Cache → Bool
  writeback_ok w n count v ca =
      ltb count (burst G)
      && cond (to_memory w v n) ((line_for G w n v ca).full && (line_for G w n v ca).dirty && not (hits G w n v ca))
      (turns_cache_off w v && not (eqb (count_dirty G ca) 0))

  -- "3 refill, 0–9"; "3 and 4 need 12 or 13 to memory, cache on and off, in 3 the line empty"
  unfoldable pub refill_ok : ℕ → ℕ → ℕ → Visible → Cache → Bool
  refill_ok w n count v ca = ltb count (burst G) && through_cache w v n && not (line_for G w n v ca).full

  -- "5 needs 14 taken, 15, 11 with bit 10 set, 11 clearing bit 3 with cache on and no line dirty, LD from a device, or LD or ST with
  -- its block in the line"
  unfoldable pub due_ok : ℕ → ℕ → Visible → Cache → Bool
  due_ok w n v ca =
      takes_branch w v
      || eqb (operation w) 15
      || is_jump w
      || (turns_cache_off w v && eqb (count_dirty G ca) 0)
      || (is_load w && to_device w v n)
      || (to_memory w v n && hits G w n v ca)

  -- "0 ready, 0 .. 5 last clock due, 0"
  unfoldable pub phase_ok : ℕ → ℕ → Running → Visible → Cache → Bool
  phase_ok w n r v ca =
      cond (eqb r.phase 0) (eqb r.count 0)
      (cond (eqb r.phase 1) (arithmetic_ok w r.count)
      (cond (eqb r.phase 2) (writeback_ok w n r.count v ca)
      (cond (eqb r.phase 3) (refill_ok w n r.count v ca)
      (cond (eqb r.phase 4) (wait_ok w n r.count v)
      (eqb r.phase 5 && eqb r.count 0 && due_ok w n v ca)))))

  -- "a full line whose block is outside the store or belongs to another line, a full line with cache off, an empty line dirty or with a
  -- block other than 0"
  unfoldable pub line_ok : Bool → ℕ → ℕ → Line → Bool
  line_ok on n l ln =
      cond ln.full
      (on && eqb (line_of G ln.block) l && leb (ln.block * G.words + G.words) n)
      (not ln.dirty && eqb ln.block 0)

-- every number below k passes the test
unfoldable pub all_below : ℕ → (ℕ → Bool) → Bool
all_below zero f = true
all_below (suc k) f = all_below k f && f k

module _ (G : Geometry) where
  unfoldable pub lines_ok : Bool → ℕ → Cache → Bool
  lines_ok on n ca = all_below G.lines (λ l. marks_ok ca l && line_ok G on n l (line_at G ca l))

  -- row 5; "The operation is that of the word at PC"
  unfoldable pub record_ok : List ℕ → ℕ → Machine → Bool
  record_ok p n m =
      widths_ok (visible_of m)
      && phase_ok G (word_at p m.scalars.pc) n m.scalars.running (visible_of m) (cache_of m)
      && registers_ok (word_at p m.scalars.pc) m.scalars.running (visible_of m)
      && counts_ok m.scalars.counts
      && lines_ok (cache_on (visible_of m)) n (cache_of m)
