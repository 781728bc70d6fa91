-- A listing continued along the runs of an image: by the clocks of the current run, by the next record.
-- Idea: the inputs to come are those of the current run, then those of the records from the next offset on.
use Prim.Native.Nat.{ℕ, ◌+◌, ◌*◌, ◌-◌, ◌≤◌, ◌<◌}
use mathlib.Core.Path.{◌≡◌, refl, sym, ap, ◌∙◌, subst}
use mathlib.Core.List.{List, ◌++◌}
use native.Mathlib.Omega.{arith}
use lib.ListN.{length, take, drop, replicate}
use Rattle.trm_cache.specs.declared.record.Cache.{Cache}
use Rattle.trm_core.specs.Record.{Lent}
use Rattle.trm_image.specs.Records.{begins}
use Rattle.trm_image.specs.Refused.{count_at, line_byte_at, input_at}
use Rattle.trm_image.specs.Meaning.{runs_in}
use Rattle.trm_image.proofs.Laws.Runs.{Next, runs-next, runs-end}
use Rattle.trm_list_rows.specs.declared.inner.listed.Listed.{Listed}
use Rattle.trm_listing.specs.declared.inner.runs.Place.{Place}
use Rattle.trm_list_rows.specs.Rows.{end_row}
use Rattle.trm_listing.specs.Listing.{pins_of_runs}
use Rattle.trm_list_rows.specs.Onward.{text_from, lent_of, Onward}
use Rattle.trm_listing.specs.Rest.{pins_at, pins_left, Stands, Along}

module _ (s p : List ℕ) where
  pub along_then : {q q' q'' : Place} {x x' x'' : Lent} {b b' b'' : List ℕ} → Along s p q x b q' x' b' → Along s p q' x' b' q'' x'' b''
      → Along s p q x b q'' x'' b''
  along_then f g = record { stands = g.stands; text = g.text ∙ f.text; long = g.long ∙ f.long; stored = g.stored ∙ f.stored }

  -- the clocks of the current run; those that have run are in the clock count
  pub along-clocks : (q : Place) (x : Lent) (b : List ℕ) (l : Listed) (x' : Lent) (b' : List ℕ) → Stands s p q x b
      → Onward p (pins_at q) q.listed x b l x' b'
      → Along s p q x b (record { listed = l; at = q.at; pins = q.pins; input = q.input }) x' b'
  unfolding pins_left
  along-clocks q x b l x' b' st o = record {
    stands = record {
      able = o.able;
      runs = st.runs;
      small = st.small;
      room = omega (arith, st.room, o.pace);
      fits = o.fits;
    };
    text = o.text (pins_of_runs (runs_in s (begins 0 q.at (drop q.at s))));
    long = o.long;
    stored = o.stored;
  }

  abbrev next_place : Place → Place
  next_place q = record {
    listed = record { scalars = q.listed.scalars; left = count_at s q.at; took = q.listed.took; len = q.listed.len };
    at = q.at + 15;
    pins = line_byte_at s q.at;
    input = input_at s q.at;
  }

  along-next_place : (q : Place) (x : Lent) (b : List ℕ) → Stands s p q x b → q.listed.left ≡ 0 → q.at < length s
      → Along s p q x b (next_place q) x b
  unfolding pins_left pins_of_runs
  along-next_place q x b st none more =
      let n : Next 2048 s q.at = runs-next 2048 s q.at st.runs more in
      let a = st.able in
      let room : x.machine.scalars.counts.clocks + count_at s q.at + (length s - (q.at + 15)) * 4370 ≤ 4294967295 =
      omega (arith, st.room, n.whole, n.most) in
      record {
        stands = record {
          able = record {
            program = a.program;
            store = a.store;
            rule = a.rule;
            shaped = a.shaped;
            room = omega (arith, room);
            few = a.few;
            low = n.line_byte;
          };
          runs = n.runs;
          small = st.small;
          room = room;
          fits = st.fits;
        };
        text = ap (λ ps. take q.listed.len b ++ text_from p x q.listed.took ps)
            (sym (ap (λ k. replicate k (pins_at q) ++ pins_of_runs (runs_in s (begins 0 q.at (drop q.at s)))) none
            ∙ ap pins_of_runs n.list));
        long = refl;
        stored = refl;
      }

  -- the same, in the form of the code
  pub along-next : (q q' : Place) (rs : List ℕ) (ca : Cache) (st b : List ℕ) → q' ≡ next_place q
      → Stands s p q (lent_of q.listed rs ca st) b → q.listed.left ≡ 0 → q.at < length s
      → Along s p q (lent_of q.listed rs ca st) b q' (lent_of q'.listed rs ca st) b
  along-next q q' rs ca st b e h none more = subst (λ y. Along s p q (lent_of q.listed rs ca st) b y (lent_of
      y.listed rs ca st) b) (sym e)
      (along-next_place q (lent_of q.listed rs ca st) b h none more)

  pub along-none : (q : Place) (x : Lent) (b : List ℕ) → Stands s p q x b → Along s p q x b q x b
  along-none q x b h = record { stands = h; text = refl; long = refl; stored = refl }

  -- only the last row is left
  pub along-end : (q : Place) (x : Lent) → q.listed.left ≡ 0 → length s ≤ q.at
      → text_from p x q.listed.took (pins_left s q) ≡ end_row x
  unfolding pins_left pins_of_runs text_from
  along-end q x none over = rw (none, runs-end s q.at over)
