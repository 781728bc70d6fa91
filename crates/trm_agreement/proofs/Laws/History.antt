-- What the history says of each cache line agrees with the line itself.
-- Idea: a line holds block b iff its last access was in b, and is dirty iff `last_dirty`; one law says what an access adds.
use Prim.Native.Nat.{ℕ, ◌<◌}
use mathlib.Core.Path.{◌≡◌, refl, sym, ap, ◌∙◌}
use mathlib.Core.Logic.{◌≢◌}
use mathlib.Core.Bool.{Bool, true, false, cond, ◌&&◌, ◌||◌}
use mathlib.Core.List.{List, [], ◌∷◌}
use lib.Dec.{eqb}
use borrow.Author.Tests.{eqb-true, eq-eqb, ne_eqb}
use Rattle.trm_reference.specs.Geometry.{Geometry, line_of}
use Rattle.trm_reference.specs.History.{Touch, Event, access, emptying, since, last_in, stored_since, last_dirty, dirty_now, dirty_lines}
use Rattle.trm_cache.specs.Cache.{Line, line_at, holds, count_dirty}
use Rattle.trm_cache.specs.declared.record.Cache.{Cache}
use Rattle.trm_cache.proofs.Laws.Cache.{holds-empty}
use Rattle.trm_cache.proofs.Laws.Dirty.{how_many-ext}

-- the line is as its accesses say
pub record Judged (as' : List Touch) (ln : Line) : Type 0 where
  pub block : (b : ℕ) → holds ln b ≡ last_in as' b
  pub dirty : ln.dirty ≡ last_dirty as'

pub stored-since : (as' : List Touch) (b : ℕ) → stored_since as' b ≡ last_in as' b && last_dirty as'
unfolding stored_since last_in last_dirty
stored-since [] b = refl
stored-since (a ∷ more) b = go (eqb a.block b) refl
  where
    go : (t : Bool) → eqb a.block b ≡ t
        → cond t (a.store || stored_since more b) false ≡ t && cond (eqb a.block a.block)
        (a.store || stored_since more a.block) false
    go true e = rw (eq-eqb a.block a.block refl, eqb-true a.block b e)
    go false e = refl

-- an access joins: the line of the access
pub last_dirty-more : (as' : List Touch) (a : Touch) → last_dirty (a ∷ as') ≡ a.store || (last_in as' a.block && last_dirty as')
unfolding stored_since last_dirty
last_dirty-more as' a = rw (eq-eqb a.block a.block refl) (ap (λ t. a.store || t) (stored-since as' a.block))

pub judged_access : (as' : List Touch) (a : Touch) (ln : Line) → ln.full ≡ true → ln.block ≡ a.block
    → ln.dirty ≡ a.store || (last_in as' a.block && last_dirty as') → Judged (a ∷ as') ln
unfolding holds last_in
judged_access as' a ln f b d = record { block = λ c. rw (f, b); dirty = d ∙ sym (last_dirty-more as' a) }

pub judged-none : (ln : Line) → ln.full ≡ false → ln.dirty ≡ false → Judged [] ln
unfolding last_in last_dirty
judged-none ln f d = record { block = λ b. holds-empty ln b f; dirty = d }

module _ (G : Geometry) where
  pub since-here : (a : Touch) (h : List Event) (l : ℕ) → line_of G a.block ≡ l → since G (access a ∷ h) l ≡ a ∷ since G h l
  unfolding since
  since-here a h l e = rw (eq-eqb (line_of G a.block) l e)

  pub since-there : (a : Touch) (h : List Event) (l : ℕ) → line_of G a.block ≢ l → since G (access a ∷ h) l ≡ since G h l
  unfolding since
  since-there a h l n = rw (ne_eqb (line_of G a.block) l n)

  pub since_emptying : (h : List Event) (l : ℕ) → since G (emptying ∷ h) l ≡ []
  unfolding since
  since_emptying h l = refl

  abbrev pub Matches : List Event → Cache → Type 0
  Matches h ls = (l : ℕ) → l < G.lines → Judged (since G h l) (line_at G ls l)

  pub dirty-lines : (h : List Event) (ls : Cache) → Matches h ls → dirty_lines G h ≡ count_dirty G ls
  unfolding dirty_lines dirty_now count_dirty
  dirty-lines h ls mt = how_many-ext G.lines (λ l. last_dirty (since G h l)) (λ l. (line_at G ls l).dirty) (λ l hl. sym (mt l hl).dirty)
