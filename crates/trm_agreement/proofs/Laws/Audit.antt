-- The log of the reference machine passes the audit: every entry is audited, the book is balanced after it, and its devices are listed.
-- Idea: one clock keeps the book; then the list of clocks, and the list of calls; the rest follows from an audited log.
--   plain_machine   the plain machine over any clocks        of-log   any log that equals the reference machine's
use Prim.Native.Nat.{ℕ, suc, ◌<◌}
use mathlib.Core.Path.{◌≡◌, refl, sym, ap, ap₂, ◌∙◌, subst}
use mathlib.Core.Logic.{◌≢◌}
use mathlib.Core.Bool.{Bool, true, false, cond, ◌&&◌}
use mathlib.Core.List.{List, [], ◌∷◌, ◌++◌, append-nil}
use lib.ListN.{take, drop}
use lib.Dec.{eqb}
use borrow.Author.Tests.{eq-eqb}
use native.Mathlib.Omega.{arith}
use Rattle.trm_word.specs.Address.{store_length_ok}
use Rattle.trm_reference.specs.Geometry.{Geometry, geometry_ok, burst}
use Rattle.trm_reference.specs.Access.{Answer, silent, answer_of}
use Rattle.trm_reference.specs.Interrupt.{stalled}
use Rattle.trm_reference.specs.Trace.{Pins, After, clocks, end_of, outs_of}
use Rattle.trm_reference.specs.Reference.{Reference, reference_clock, reference_reset}
use Rattle.trm_core.proofs.Laws.Fit.{fit}
use Rattle.trm_agreement.specs.Log.{started, clocked, ended, clocks_of, entries, calls, log_of, answers_in, last_seen}
use Rattle.trm_agreement.specs.Calls.{Call, feed, answer, Seen, LogEntry, reference_seen, reference_code, reference_engine}
use Rattle.trm_agreement.specs.Book.{Did, waited, acknowledged, worked, finished, is_finish, Book, opened, word_of, size_of}
use Rattle.trm_agreement.specs.Book.{accessing, interrupting, due, went, turned, closed}
use Rattle.trm_agreement.specs.Audit.{Balanced, Does, Audited, book_at, accesses_in, device_answers}
use Rattle.trm_agreement.specs.Demand.{Holds}
use Rattle.trm_agreement.specs.Plain.{plain_entries, plain_end, plain_book, PlainMachine}
use Rattle.trm_agreement.proofs.Laws.Log.{calls_last}
use Rattle.trm_agreement.proofs.Laws.Numbers.{returns_not_five}
use Rattle.trm_agreement.proofs.Laws.Devices.{one_access}
use Rattle.trm_agreement.proofs.Laws.Book.{seen_of, book_of, due-is, Kept, balanced, Step, clock-step, reset_kept}

module _ (G : Geometry) (p : List ℕ) where
  -- a call that ends with what its last clock left
  closes : (b : Book) (w : Seen) → w ≡ b.seen → Balanced G p b → Balanced G p (closed b w)
  unfolding closed
  closes b w e h = rw e h

  -- every prefix of an audited log leaves the book balanced
  pub prefixes : (b : Book) (es rest : List LogEntry) → Balanced G p b → Audited G p b (es ++ rest) → Balanced G p (book_at G p b es)
  unfolding Audited book_at
  prefixes b [] rest h a = h
  prefixes b (started w ∷ es) rest h a = absurd a
  prefixes b (clocked i w o ∷ es) rest h a = prefixes (turned G p b w (went G p b i o)) es rest a.1 a.2
  prefixes b (ended w c ∷ es) rest h a = prefixes (closed b w) es rest (closes b w a.0 h) a.1

  -- an audited log shows every device access of its instructions, once each, in order
  pub audited_devices : (b : Book) (es : List LogEntry) → Audited G p b es → device_answers (answers_in es) ≡ accesses_in G p b es
  unfolding Audited Does is_finish answers_in device_answers accesses_in
  audited_devices b [] h = refl
  audited_devices b (started w ∷ es) h = absurd h
  audited_devices b (ended w a ∷ es) h = audited_devices (closed b w) es h.1
  audited_devices b (clocked i w o ∷ es) h =
      go (went G p b i o) h.0 (audited_devices (turned G p b w (went G p b i o)) es h.2)
    where
      rest : Did → List Answer
      rest d = accesses_in G p (turned G p b w d) es

      go : (d : Did) → Does p b i w o d → device_answers (answers_in es) ≡ rest d
          → cond (eqb o.byte 0) (device_answers (answers_in es)) (o ∷ device_answers (answers_in es))
          ≡ cond (is_finish d && accessing p b)
          (answer_of (word_of p b) b.seen.visible (size_of b) i.input ∷ rest d) (rest d)
      go waited x e = rw x.silent e
      go acknowledged x e = rw x.silent e
      go worked x e = rw x.silent e
      go (finished c) x e = rw (x.answer, e)
          (one_access (word_of p b) b.seen.visible (size_of b) i.input (rest (finished c)))

module _ (G : Geometry) (p : List ℕ) where
  -- the book after a clock is the book of the state after it
  turned-is : (q : Reference) (sp hd ch : ℕ) (i : Pins) (k : Kept G p q sp hd ch)
      → let st = clock-step G p q sp hd ch i k in
      turned G p (book_of q sp hd ch) (seen_of (reference_clock G p q i).state)
      (went G p (book_of q sp hd ch) i (reference_clock G p q i).out)
      ≡ book_of (reference_clock G p q i).state st.sp' st.hd' st.ch'
  turned-is q sp hd ch i k = let st = clock-step G p q sp hd ch i k in
      ap (turned G p (book_of q sp hd ch) (seen_of (reference_clock G p q i).state)) st.is ∙ st.next

  -- the book after some clocks, and how it relates to the state then
  record Reached (q : Reference) (b : Book) : Type 0 where
    sp : ℕ
    hd : ℕ
    ch : ℕ
    is : b ≡ book_of q sp hd ch
    kept : Kept G p q sp hd ch

  reached-clocks : (is : List Pins) (q : Reference) (sp hd ch : ℕ) → Kept G p q sp hd ch
      → Reached (end_of q (clocks (reference_clock G p) q is))
      (book_at G p (book_of q sp hd ch) (entries feed answer (reference_engine G p) (clocks (reference_clock G p) q is) is))
  unfolding clocks end_of entries book_at reference_engine reference_seen
  reached-clocks [] q sp hd ch k = record { sp = sp; hd = hd; ch = ch; is = refl; kept = k }
  reached-clocks (i ∷ is) q sp hd ch k = let st = clock-step G p q sp hd ch i k in
      subst (λ b. Reached (end_of (reference_clock G p q i).state (clocks (reference_clock G p) (reference_clock G p q i).state is))
      (book_at G p b (entries feed answer (reference_engine G p) (clocks (reference_clock G p) (reference_clock G p q i).state is) is)))
      (sym (turned-is q sp hd ch i k))
      (reached-clocks is (reference_clock G p q i).state st.sp' st.hd' st.ch' st.kept)

module _ (G : Geometry) (pos : 0 < burst G) (p : List ℕ) where
  -- the clocks of a call, and the rest of the log after them
  audited_clocks : (is : List Pins) (es : List LogEntry) (q : Reference) (sp hd ch : ℕ) → Kept G p q sp hd ch
      → ((sp' hd' ch' : ℕ) → Kept G p (end_of q (clocks (reference_clock G p) q is)) sp' hd' ch'
      → Audited G p (book_of (end_of q (clocks (reference_clock G p) q is)) sp' hd' ch') es)
      → Audited G p (book_of q sp hd ch)
      (entries feed answer (reference_engine G p) (clocks (reference_clock G p) q is) is ++ es)
  unfolding clocks end_of entries Audited reference_engine reference_seen
  audited_clocks [] es q sp hd ch k rest = rest sp hd ch k
  audited_clocks (i ∷ is) es q sp hd ch k rest = (
    subst (λ d. Does p (book_of q sp hd ch) i (seen_of u) (reference_clock G p q i).out d) (sym st.is) st.does,
    subst (Balanced G p) (sym after) (balanced G p pos u st.sp' st.hd' st.ch' st.kept),
    subst (λ b. Audited G p b
        (entries feed answer (reference_engine G p) (clocks (reference_clock G p) u is) is ++ es)) (sym after)
        (audited_clocks is es u st.sp' st.hd' st.ch' st.kept rest),
  )
    where
      u : Reference
      u = (reference_clock G p q i).state

      st : Step G p q sp hd ch i (reference_clock G p q i)
      st = clock-step G p q sp hd ch i k

      after : turned G p (book_of q sp hd ch) (seen_of u) (went G p (book_of q sp hd ch) i (reference_clock G p q i).out)
          ≡ book_of u st.sp' st.hd' st.ch'
      after = turned-is G p q sp hd ch i k

  audited_calls : (cs : List Call) (q : Reference) (sp hd ch : ℕ) → Kept G p q sp hd ch
      → Audited G p (book_of q sp hd ch) (calls feed answer (reference_engine G p) q cs)
  unfolding calls clocks_of end_of entries Audited reference_engine reference_seen closed
  audited_calls [] q sp hd ch k = tt
  audited_calls (c ∷ cs) q sp hd ch k =
      go (λ q' sp' hd' ch' k'. audited_calls cs q' sp' hd' ch' k') (eqb (reference_code p q c) 0)
    where
      done : Bool → List (After Reference Answer)
      done t = cond t (clocks (reference_clock G p) q (feed c)) []

      go : ((q' : Reference) (sp' hd' ch' : ℕ) → Kept G p q' sp' hd' ch'
          → Audited G p (book_of q' sp' hd' ch') (calls feed answer (reference_engine G p) q' cs))
          → (t : Bool) → Audited G p (book_of q sp hd ch) (entries feed answer (reference_engine G p) (done t) (feed c)
          ++ ended (reference_seen (end_of q (done t))) (answer (reference_code p q c) c (outs_of (done t)))
          ∷ calls feed answer (reference_engine G p) (end_of q (done t)) cs)
      go more true = audited_clocks (feed c) _ q sp hd ch k (λ sp' hd' ch' k'.
          (refl, more (end_of q (clocks (reference_clock G p) q (feed c))) sp' hd' ch' k'))
      go more false = (refl, more q sp hd ch k)

opens_at : (s : List ℕ) → opened (reference_seen (reference_reset s)) ≡ book_of (reference_reset s) 0 0 0
unfolding opened reference_seen reference_reset
opens_at s = refl

module _ (G : Geometry) (pos : 0 < burst G) (p s : List ℕ) where
  log-opens : Balanced G p (opened (reference_seen (reference_reset s)))
  log-opens = rw (opens_at s) (balanced G p pos (reference_reset s) 0 0 0 (reset_kept G p s))

  log_audited : (cs : List Call) → Audited G p (opened (reference_seen (reference_reset s)))
      (calls feed answer (reference_engine G p) (reference_reset s) cs)
  log_audited cs = rw (opens_at s) (audited_calls G pos p cs (reference_reset s) 0 0 0 (reset_kept G p s))

  clocks_audited : (is : List Pins) → Audited G p (opened (reference_seen (reference_reset s)))
      (entries feed answer (reference_engine G p) (clocks (reference_clock G p) (reference_reset s) is) is)
  unfolding Audited
  clocks_audited is = rw (opens_at s) (rw (append-nil _) at (audited_clocks G pos p is [] (reference_reset s) 0 0 0 (reset_kept G p s)
      (λ sp hd ch k. tt)))

  -- a log that equals the reference machine's, and what is seen last in it
  log-holds : (cs : List Call) (first : Seen) (es : List LogEntry) (last : Seen)
      → started first ∷ es ≡ log_of feed answer (reference_engine G p) (reference_reset s) cs → last_seen first es ≡ last
      → Holds G p s cs first es last
  unfolding log_of last_seen reference_engine
  log-holds cs first es last whole end = record {
    same = whole;
    balanced = λ ds rest e. prefixes G p (opened first) ds rest (rw starts log-opens) (rw e at audit);
    audited = audit;
    devices = audited_devices G p (opened first) es audit;
    never_five = rw others (returns_not_five G p (reference_reset s) cs);
    state_alike = sym end ∙ ap₂ last_seen starts others ∙ calls_last feed answer (reference_engine G p) (reference_reset s) cs;
  }
    where
      starts : first ≡ reference_seen (reference_reset s)
      starts = ap (λ l. last_seen first (take 1 l)) whole

      others : es ≡ calls feed answer (reference_engine G p) (reference_reset s) cs
      others = ap (drop 1) whole

      audit : Audited G p (opened first) es
      audit = rw (starts, others) (log_audited cs)

-- a clock that reports a finished instruction took the charge, as its book has it
finished-took : (G : Geometry) (p : List ℕ) (b : Book) (i : Pins) (w : Seen) (o : Answer) → Does p b i w o (went G p b i o)
    → o.done ≡ 1 → suc b.spent ≡ due G p b
unfolding went Does
finished-took G p b i w o = go (stalled i.line_byte) (interrupting b i)
  where
    unlike : o ≡ silent 0 → o.done ≢ 1
    unlike x e = absurd (let f = ap (λ (a : Answer). a.done) x in omega arith)

    go : (s t : Bool) → Does p b i w o (cond s waited (cond t acknowledged (cond (eqb o.done 1) (finished (due G p b)) worked)))
        → o.done ≡ 1 → suc b.spent ≡ due G p b
    go true t x e = absurd (unlike x.silent e)
    go false true x e = absurd (unlike x.silent e)
    go false false x e = (rw (eq-eqb o.done 1 e) at x).took

pub plain_machine : PlainMachine
plain_machine G p s is = record {
  audited = λ pos. clocks_audited G pos p s is;
  clocks = rw at-end r.kept.clocks;
  held = rw at-end r.kept.held;
  between = λ z. ap (λ (b : Book). b.spent) at-end ∙ r.kept.idle z;
  flying = λ z. rw at-end (r.kept.sum z ∙ sym (due-is G p q r.sp r.hd r.ch));
  took = λ i. rw at-end (let st = clock-step G p q r.sp r.hd r.ch i r.kept in
      finished-took G p (book_of q r.sp r.hd r.ch) i (seen_of (reference_clock G p q i).state) (reference_clock G p q i).out
      (subst (λ d. Does p (book_of q r.sp r.hd r.ch) i (seen_of (reference_clock G p q i).state) (reference_clock G p q i).out d)
      (sym st.is) st.does));
}
  where
    q : Reference
    q = plain_end G p s is

    r : Reached G p q (book_at G p (book_of (reference_reset s) 0 0 0) (plain_entries G p s is))
    r = reached-clocks G p is (reference_reset s) 0 0 0 (reset_kept G p s)

    at-end : plain_book G p s is ≡ book_of q r.sp r.hd r.ch
    at-end = ap (λ b. book_at G p b (plain_entries G p s is)) (opens_at s) ∙ r.is

-- a burst takes at least a clock
burst-pos : (G : Geometry) → geometry_ok G ≡ true → 0 < burst G
burst-pos G ok = (fit G 64 ok (unfold store_length_ok in refl)).tpos

-- a log that equals the reference machine's, for every geometry of `geometry_ok`
pub of-log : (G : Geometry) → geometry_ok G ≡ true → (p s : List ℕ) (cs : List Call) (first : Seen) (es : List LogEntry) (last : Seen)
    → started first ∷ es ≡ log_of feed answer (reference_engine G p) (reference_reset s) cs → last_seen first es ≡ last
    → Holds G p s cs first es last
of-log G ok p s cs first es last whole end = log-holds G (burst-pos G ok) p s cs first es last whole end
