-- Laws about memory as seen through the cache: unchanged cache, one line changed, a store to a line, a line emptied.
-- `Sane` relates each line to the store; `view-update` and `sane_update` cover any change of one line.
use Prim.Native.Nat.{ℕ, ◌+◌, ◌*◌, ◌%◌, ◌≤◌, ◌<◌}
use mathlib.Core.Path.{◌≡◌, refl, sym, ap, ap₂, ◌∙◌}
use mathlib.Core.Logic.{◌≢◌}
use mathlib.Core.Bool.{Bool, true, false, cond, ◌&&◌}
use mathlib.Core.List.{List}
use lib.ListN.{length, get_or, length-set}
use lib.Seq.{get_or-set_same, get_or-set_other}
use lib.Dec.{eqb}
use borrow.Author.Tests.{eqb-true, eq-eqb}
use native.Mathlib.Decide.{ℕ_discrete}
use native.Mathlib.Nat.{div-add-mod', mul-add-div_right, div-eq_of_lt, mod-lt, add-zero, le_trans}
use Rattle.trm_laws.proofs.Tests.{bool_clash, clash}
use Rattle.trm_reference.specs.Geometry.{Geometry, block_of, line_of}
use Rattle.trm_cache.specs.Cache.{Line, stride, line_at, holds, line_view, view, stored_to}
use Rattle.trm_cache.specs.declared.record.Cache.{Cache}
use Rattle.trm_cache.proofs.Laws.Lines.{empty_line, store_line, Wide, Becomes, becomes_stored}

pub record LineOk (G : Geometry) (s : List ℕ) (l : ℕ) (ln : Line) : Type 0 where
  pub wide : G.words ≤ length ln.words
  pub home : ln.full ≡ true → line_of G ln.block ≡ l
  pub inside : ln.full ≡ true → ln.block * G.words + G.words ≤ length s
  pub empty_clean : ln.full ≡ false → ln.dirty ≡ false
  pub empty_zero : ln.full ≡ false → ln.block ≡ 0
  pub agrees : ln.full ≡ true → ln.dirty ≡ false → (i : ℕ) → i < G.words → get_or s (ln.block * G.words + i) 0 ≡ get_or ln.words i 0

pub record Sane (G : Geometry) (ls : Cache) (s : List ℕ) : Type 0 where
  pub wide : Wide G ls
  pub each : (l : ℕ) → l < G.lines → LineOk G s l (line_at G ls l)

-- a dirty line is full if empty lines are clean
pub dirty-full : (ln : Line) → (ln.full ≡ false → ln.dirty ≡ false) → ln.dirty ≡ true → ln.full ≡ true
dirty-full ln clean d = go ln.full refl
  where
    go : (b : Bool) → ln.full ≡ b → b ≡ true
    go true e = refl
    go false e = bool_clash ln.dirty d (clean e)

pub holds-full : (ln : Line) (b : ℕ) → holds ln b ≡ true → ln.full ≡ true
unfolding holds
holds-full ln b = go ln.full
  where
    go : (f : Bool) → f && eqb ln.block b ≡ true → f ≡ true
    go true e = refl
    go false e = e

pub holds-block : (ln : Line) (b : ℕ) → holds ln b ≡ true → ln.block ≡ b
unfolding holds
holds-block ln b = go ln.full
  where
    go : (f : Bool) → f && eqb ln.block b ≡ true → ln.block ≡ b
    go true e = eqb-true ln.block b e
    go false e = clash e

pub holds-yes : (ln : Line) (b : ℕ) → ln.full ≡ true → ln.block ≡ b → holds ln b ≡ true
unfolding holds
holds-yes ln b e f = rw (e, eq-eqb ln.block b f)

pub holds-empty : (ln : Line) (b : ℕ) → ln.full ≡ false → holds ln b ≡ false
unfolding holds
holds-empty ln b e = rw e

module _ (G : Geometry) (wpos : 0 < G.words) where
  pub block_at : (b i : ℕ) → i < G.words → block_of G (b * G.words + i) ≡ b
  unfolding block_of
  block_at b i h = rw (mul-add-div_right wpos b i, div-eq_of_lt h, add-zero)

  pub address_is : (a : ℕ) → block_of G a * G.words + a % G.words ≡ a
  unfolding block_of
  address_is a = div-add-mod' a G.words

  -- the words of a clean line are those of the store
  pub clean-view : (s : List ℕ) (l : ℕ) (ln : Line) (a : ℕ) → LineOk G s l ln → ln.dirty ≡ false → line_view G ln s a ≡ get_or s a 0
  unfolding line_view
  clean-view s l ln a ok d = go (holds ln (block_of G a)) refl
    where
      go : (b : Bool) → holds ln (block_of G a) ≡ b → cond b (get_or ln.words (a % G.words) 0) (get_or s a 0) ≡ get_or s a 0
      go true e = rw (← ok.agrees (holds-full ln _ e) d (a % G.words) (mod-lt a wpos), holds-block ln _ e, address_is a)
      go false e = refl

  pub empty-view : (s : List ℕ) (ln : Line) (a : ℕ) → ln.full ≡ false → line_view G ln s a ≡ get_or s a 0
  unfolding line_view
  empty-view s ln a e = rw (holds-empty ln (block_of G a) e)

  -- memory after a change of one line and of the store
  pub view-update : (ls : Cache) (s : List ℕ) (l : ℕ) (ln : Line) (ls' : Cache) (s' : List ℕ) → Becomes G ls l ln ls'
      → ((a : ℕ) → line_of G (block_of G a) ≡ l → line_view G ln s' a ≡ line_view G (line_at G ls l) s a)
      → ((a : ℕ) → line_of G (block_of G a) ≢ l → get_or s' a 0 ≡ get_or s a 0)
      → (a : ℕ) → view G ls' s' a ≡ view G ls s a
  unfolding view
  view-update ls s l ln ls' s' h here there a = go (ℕ_discrete (line_of G (block_of G a)) l)
    where
      go : Dec (line_of G (block_of G a) ≡ l)
          → line_view G (line_at G ls' (line_of G (block_of G a))) s' a ≡ line_view G (line_at G ls (line_of G (block_of G a))) s a
      go (yes e) = rw (e, h.here) (here a e)
      go (no n) = rw (h.there (line_of G (block_of G a)) n) (unfold line_view in rw (there a n))

  -- `Sane` after a change of one line and of its block of the store
  pub sane_update : (ls : Cache) (s : List ℕ) (l : ℕ) (ln : Line) (ls' : Cache) (s' : List ℕ) → Becomes G ls l ln ls' → Sane G ls s
      → length s' ≡ length s
      → LineOk G s' l ln → ((a : ℕ) → line_of G (block_of G a) ≢ l → get_or s' a 0 ≡ get_or s a 0) → Sane G ls' s'
  sane_update ls s l ln ls' s' h sn len ok there = record { wide = h.wide; each = λ k g. go k g (ℕ_discrete k l) }
    where
      go : (k : ℕ) → k < G.lines → Dec (k ≡ l) → LineOk G s' k (line_at G ls' k)
      go k g (yes e) = rw (e, h.here) ok
      go k g (no n) = rw (h.there k n)
          (let o = sn.each k g in record {
            wide = o.wide;
            home = o.home;
            inside = λ f. rw len (o.inside f);
            empty_clean = o.empty_clean;
            empty_zero = o.empty_zero;
            agrees = λ f d i hi. there ((line_at G ls k).block * G.words + i)
                (λ e. n (sym (o.home f) ∙ sym (ap (line_of G) (block_at _ i hi)) ∙ e)) ∙ o.agrees f d i hi;
          })

  -- replacing a clean line by a clean line does not change the view
  pub clean-swap : (ls : Cache) (s : List ℕ) (l : ℕ) (ln : Line) (ls' : Cache) → Becomes G ls l ln ls' → l < G.lines → Sane G ls s
      → (line_at G ls l).dirty ≡ false → LineOk G s l ln → ln.dirty ≡ false
      → (a : ℕ) → view G ls' s a ≡ view G ls s a
  clean-swap ls s l ln ls' bc h sn d ok e = view-update ls s l ln ls' s bc
      (λ a q. clean-view s l ln a ok e ∙ sym (clean-view s l (line_at G ls l) a (sn.each l h) d)) (λ a q. refl)

  pub emptied-ok : (s : List ℕ) (l : ℕ) (ln : Line) → G.words ≤ length ln.words → LineOk G s l (empty_line ln)
  emptied-ok s l ln w =
      record {
        wide = w;
        home = λ q. clash q;
        inside = λ q. clash q;
        empty_clean = λ q. refl;
        empty_zero = λ q. refl;
        agrees = λ q d i hi. clash q;
      }

  -- a store that hits
  pub stored_ok : (s : List ℕ) (l : ℕ) (ln : Line) (i x : ℕ) → ln.full ≡ true → LineOk G s l ln → LineOk G s l (store_line ln i x)
  stored_ok s l ln i x f ok = record {
    wide = rw (length-set ln.words i x) ok.wide;
    home = ok.home;
    inside = ok.inside;
    empty_clean = λ q. bool_clash ln.full f q;
    empty_zero = ok.empty_zero;
    agrees = λ q d j hj. bool_clash true refl d;
  }

  pub stored-view : (ls : Cache) (s : List ℕ) (a x : ℕ) → G.words ≤ stride G → line_of G (block_of G a) < G.lines → Sane G ls s
      → holds (line_at G ls (line_of G (block_of G a))) (block_of G a) ≡ true
      → view G (stored_to G ls (line_of G (block_of G a)) (a % G.words) x) s a ≡ x
  unfolding view line_view
  stored-view ls s a x st h sn q = rw
      (becomes_stored G ls (line_of G (block_of G a)) sn.wide h (a % G.words) x (le_trans (mod-lt a wpos) st)).here
      (rw (holds-yes (store_line (line_at G ls (line_of G (block_of G a))) (a % G.words) x) (block_of G a) (holds-full _ _ q)
      (holds-block _ _ q))
      (get_or-set_same (line_at G ls (line_of G (block_of G a))).words (a % G.words) x 0 (le_trans (mod-lt a wpos) (sn.each _ h).wide)))

  pub stored_view_other : (ls : Cache) (s : List ℕ) (a x k : ℕ) → G.words ≤ stride G → line_of G (block_of G a) < G.lines → Sane G ls s
      → holds (line_at G ls (line_of G (block_of G a))) (block_of G a) ≡ true → k ≢ a
      → view G (stored_to G ls (line_of G (block_of G a)) (a % G.words) x) s k ≡ view G ls s k
  unfolding view line_view
  stored_view_other ls s a x k st h sn q n = go (ℕ_discrete (line_of G (block_of G k)) (line_of G (block_of G a)))
    where
      ln : Line
      ln = line_at G ls (line_of G (block_of G a))

      ln' : Line
      ln' = store_line ln (a % G.words) x

      ls' : Cache
      ls' = stored_to G ls (line_of G (block_of G a)) (a % G.words) x

      bc : Becomes G ls (line_of G (block_of G a)) ln' ls'
      bc = becomes_stored G ls (line_of G (block_of G a)) sn.wide h (a % G.words) x (le_trans (mod-lt a wpos) st)

      go : Dec (line_of G (block_of G k) ≡ line_of G (block_of G a))
          → line_view G (line_at G ls' (line_of G (block_of G k))) s k ≡ line_view G (line_at G ls (line_of G (block_of G k))) s k
      go (yes e) = rw (e, bc.here) (choose (holds ln (block_of G k)) refl)
        where
          choose : (t : Bool) → holds ln (block_of G k) ≡ t → line_view G ln' s k ≡ line_view G ln s k
          choose true z = rw (holds-yes ln' (block_of G k) (holds-full ln _ z) (holds-block ln _ z), z)
              (get_or-set_other ln.words (a % G.words) (k % G.words) x 0
              (λ y. n (sym (address_is k) ∙ ap₂ (λ b o. b * G.words + o) (sym (holds-block ln _ z) ∙ holds-block ln _ q) y
              ∙ address_is a)))
          choose false z = unfold holds in (rw z)
      go (no y) = rw (bc.there (line_of G (block_of G k)) y)
