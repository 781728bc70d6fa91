-- The history of accesses through the cache, and the state of each line that follows from it.
-- Paper: "Judged from history, an access refills unless its line's last access finished with the cache on since reset or emptying was
-- in its block; that access's block is the one its line holds, dirty if stored to since its refill, and a line without such an access
-- holds none." The latest event is first.
--   refills_now G h b   an access to block b refills      dirty_now G h l   line l is dirty      dirty_lines G h   how many lines are
--   refills_in G h, writebacks_in G h   the refills and write-backs of a whole history, a sum over its events
use Rattle.std.specs.Prelude.{ℕ, zero, suc, ◌+◌, Bool, false, cond, not, ◌&&◌, ◌||◌, List, [], ◌∷◌, eqb}
use Rattle.trm_reference.specs.Geometry.{Geometry, line_of}

-- an access to memory that finished with the cache on
pub record Touch : Type 0 where
  pub block : ℕ
  pub store : Bool

-- "a memory access with cache on, or an emptying, joins the history"; an emptying is turning the cache off
pub data Event : Type 0 where
  access : Touch → Event
  emptying : Event

-- the accesses on line l "since reset or emptying"
unfoldable pub since : Geometry → List Event → ℕ → List Touch
since G [] l = []
since G (access t ∷ h) l = cond (eqb (line_of G t.block) l) (t ∷ since G h l) (since G h l)
since G (emptying ∷ h) l = []

-- the last access was in block b
unfoldable pub last_in : List Touch → ℕ → Bool
last_in [] b = false
last_in (t ∷ ts) b = eqb t.block b

-- "stored to since its refill": one of the latest consecutive accesses to block b was a store
unfoldable pub stored_since : List Touch → ℕ → Bool
stored_since [] b = false
stored_since (t ∷ ts) b = cond (eqb t.block b) (t.store || stored_since ts b) false

-- the block that the line holds is dirty
unfoldable pub last_dirty : List Touch → Bool
last_dirty [] = false
last_dirty (t ∷ ts) = stored_since (t ∷ ts) t.block

-- "refills unless its line's last access .. was in its block"
unfoldable pub refills_now : Geometry → List Event → ℕ → Bool
refills_now G h b = not (last_in (since G h (line_of G b)) b)

unfoldable pub dirty_now : Geometry → List Event → ℕ → Bool
dirty_now G h l = last_dirty (since G h l)

-- how many of the numbers below k pass the test
unfoldable pub how_many : ℕ → (ℕ → Bool) → ℕ
how_many zero f = 0
how_many (suc k) f = how_many k f + cond (f k) 1 0

unfoldable pub dirty_lines : Geometry → List Event → ℕ
dirty_lines G h = how_many G.lines (dirty_now G h)

-- "an access refills unless ..": the number of accesses that refilled, each by the events before it
unfoldable pub refills_in : Geometry → List Event → ℕ
refills_in G [] = 0
refills_in G (access t ∷ h) = cond (refills_now G h t.block) 1 0 + refills_in G h
refills_in G (emptying ∷ h) = refills_in G h

-- "22 if the old block is dirty", "10 for each dirty line": the number of dirty blocks that these refills and the emptyings wrote back
unfoldable pub writebacks_in : Geometry → List Event → ℕ
writebacks_in G [] = 0
writebacks_in G (access t ∷ h) =
    cond (refills_now G h t.block && dirty_now G h (line_of G t.block)) 1 0 + writebacks_in G h
writebacks_in G (emptying ∷ h) = dirty_lines G h + writebacks_in G h
