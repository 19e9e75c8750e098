-- One event of a history: a request that ended, refused or done; or one that was cut.
use Rattle.std.specs.Prelude.{ℕ, zero, suc, ◌+◌, ◌≤◌, ◌≡◌, Bool, true, List, [], ◌++◌, eqb}
use Rattle.std.proofs.Math.Path.{refl, sym, ap}
use Rattle.std.proofs.Common.{◌∙◌, ⊎_elim, true≢false, arith, eq-eqb, ne_eqb}
use Rattle.std.proofs.Math.Bool.{false, cond}
use Rattle.std.proofs.Math.ListN.{length}
use Rattle.model.specs.Chip.{Image, Bytes, right_size}
use Rattle.model.specs.State.{segments_of, entries_in, holds, distinct, Exception, State, clean, unfinished, damaged, state, view}
use Rattle.model.specs.Steps.{room_for}
use Rattle.model.specs.Table.{blocks, table_of}
use Rattle.model.specs.Answers.{Request, format, put, delete, read, read_or, recover, work_of, outcome_of}
use Rattle.model.specs.Histories.{Reply, reply_of, Seen, answered, lost, Proper, recovered, shown}
use Rattle.model.specs.Sequences.{erases_in, among, stored_after, replaces, Ledger, noted}
use Rattle.model.specs.Begun.{marks_in, CutBegun, DoesBegun, Turn, cut_seen}
use Rattle.model.proofs.Laws.Chip.{size_facts}
use Rattle.model.proofs.Laws.Tables.{agree_holds}
use Rattle.model.proofs.Laws.Begun.{whole_begun}
use Rattle.bridge.specs.Predicted.{after_put}
use Rattle.bridge.specs.Views.Room.{room_made}
use Rattle.bridge.specs.Allowance.{Ends, ends_or_stops}
use Rattle.bridge.specs.Held.{clean_view}
use Rattle.bridge.specs.Requests.{put_done, after_table}
use Rattle.crash.specs.Machine.{malformed, OnTable, WantsRecovery, Promise}
use Rattle.crash.specs.Sound.{SoundAs, Sound, Clean, Accepted, finished}
use Rattle.crash.proofs.Requests.{refused_idle, read_idle, read_or_idle, recovered_clean, shown_clean, idle_finished, Unfinished, code_unfinished}
use Rattle.crash.proofs.Works
use Rattle.crash.proofs.Works.{Works, puts, deletes}
use Rattle.crash.proofs.States.{recovered_view, rows_table, clean_with}
use Rattle.crash.proofs.Recover.{recover_done}
use Rattle.crash.proofs.Delete.{finished_delete}
use Rattle.wear.specs.Room.{PaidView, room_moved}
use Rattle.wear.proofs.Requests.{put_paid}
use Rattle.wear.specs.Stored.{stored_put, stored_delete}
use Rattle.tallied.proofs.Theorem.{IsInterrupted}
use Rattle.wear_counts.specs.Counts.{noted_cut, noted_as}
use Rattle.wear_cuts.specs.Passes.{paid_more, Passes, passes_same}
use Rattle.wear_cuts.specs.Recovers.{recover_passes}
use Rattle.wear_cuts.specs.Puts.{put_passes, delete_passes}
use Rattle.wear_cuts.specs.Counted.{Funded, shown_few, funded_more, funded_cut}

-- ---- what a request may do, by what it can do

pub data Did (N B : ℕ) (s m : Image) (r : Request) (x : Promise) (es : List ℕ) (f : ℕ) : Type 0 where
  carries_on : (k : ℕ) → k ≤ 1 → Passes N B k 0 s m es f → Did N B s m r x es f
  recovers : r ≡ recover → IsInterrupted x → f ≡ 0 → Passes N B 0 1 s m es f → Did N B s m r x es f

pub did : (N B : ℕ) (s m : Image) (r : Request) (x : Promise) (es : List ℕ) (f : ℕ) → right_size N B s ≡ true → Bytes s → Sound N B s → ((q : Exception) → state N B s ≡ unfinished q → IsInterrupted x)
    → Works N B s r → CutBegun B (work_of N B s r).steps s m es f → Did N B s m r x es f
did N B s m r x es f z y h i (Works.idle e) c = let d : CutBegun B [] s m es f = rw e at c in carries_on 0 (omega arith) (rw (d.1, d.2) (passes_same N B 0 s m d.0))
did N B s m r x es f z y h i (puts b v k p a) c = carries_on 1 (omega arith) (put_passes N B s z k b v y p a m es f c)
did N B s m r x es f z y h i (deletes b k a) c = carries_on 1 (omega arith) (delete_passes N B s z k b a m es f c)
did N B s m r x es f z y h i (Works.recovers q e) c = let p = recover_passes N B s z h m es f c in recovers refl (i q e) p.0 p.1

-- ---- a request that ended

module _ (N B : ℕ) (s : Image) (t : Ledger) (K : ℕ) (z : right_size N B s ≡ true) (y : Bytes s) (a : Funded N B s t K) where
  -- the count after a request with this answer
  abbrev after : Request → ℕ → List ℕ → Ledger
  after r n es = noted (record { request = r; code = n; erases = es }) t

  -- no block is stored or removed, and nothing is shown that was not
  same_funded : (m : Image) (r : Request) (n : ℕ) (es : List ℕ) → shown N B m ≡ shown N B s → PaidView N B t.largest (t.replaced + K) (recovered_view N B m)
      → cond (eqb n 0) (stored_after r t.stored) t.stored ≡ t.stored → cond (eqb n 0) (replaces r t.stored) 0 ≡ 0 → Funded N B m (after r n es) K
  unfolding noted
  same_funded m r n es q p st none = funded_more N B s m t K a (after r n es) K (t.replaced + K) (rw (st, q) a.stored) refl p (omega (arith, none))

  idle_funded : (r : Request) (n : ℕ) (es : List ℕ) → (work_of N B s r).steps ≡ [] → cond (eqb n 0) (stored_after r t.stored) t.stored ≡ t.stored → cond (eqb n 0) (replaces r t.stored) 0 ≡ 0
      → Funded N B (finished N B s r) (after r n es) K
  idle_funded r n es none st re = rw (idle_finished N B s r none) (same_funded s r n es refl a.paid st re)

  put_funded : (b : ℕ) (d : List ℕ) (es : List ℕ) → Clean N B s → Bytes d → Accepted N B s (put b d) → distinct (shown N B s) ≡ true → Funded N B (finished N B s (put b d)) (after (put b d) 0 es) K
  unfolding noted stored_after replaces table_of after_put
  put_funded b d es c bd e ds =
      let v = view N B s in
      let m = finished N B s (put b d) in
      let r = (room_for N B v).result in
      let cv = clean_view N B s z c in
      let size = size_facts N B s z in
      let done = put_done N B s z c b d y bd e in
      let rows = (clean_with N B m (after_put N B b d v) done.0 done.1).1 in
      let before = shown_clean N B s c in
      let rv : recovered_view N B s ≡ v = ap (λ x. view N B x) (recovered_clean N B s c) in
      let few : length (entries_in v) ≤ t.largest = rw before at (shown_few N B s s t K a ds) in
      let room = (room_moved N B t.largest (t.replaced + K) v cv few (rw rv at a.paid)).paid in
      let held : among b t.stored ≡ holds b (entries_in r) = a.stored.same b ∙ (ap (λ x. holds b x) before ∙ sym (agree_holds (entries_in r) (entries_in v) (room_made N B size.two size.slots v cv).table b)) in
      funded_more N B s m t K a (after (put b d) 0 es) K (t.replaced + K + cond (holds b (entries_in r)) 1 0)
      (stored_put t.stored (shown N B s) (shown N B m) b d a.stored (rw (rows_table N B m (after_put N B b d v) rows, before) (after_table N B s z c b d y bd e)))
      refl (rw (rows.0, rows.1) (put_paid N B r b d room)) (rw held (omega arith))

  delete_funded : (b : ℕ) (es : List ℕ) → Clean N B s → Accepted N B s (delete b) → distinct (shown N B s) ≡ true → Funded N B (finished N B s (delete b)) (after (delete b) 0 es) K
  unfolding noted stored_after replaces
  delete_funded b es c e ds =
      let m = finished N B s (delete b) in
      let xs = (work_of N B s (delete b)).steps in
      let done = finished_delete N B s b z c e in
      let p = delete_passes N B s z c b e m (erases_in xs) (marks_in B xs) (whole_begun B xs s) in
      funded_more N B s m t K a (after (delete b) 0 es) K (t.replaced + K + 1)
      (stored_delete t.stored (shown N B s) (shown N B m) b a.stored (rw (shown_clean N B m done.0, shown_clean N B s c) done.1))
      refl (p.paid t.largest (t.replaced + K) (shown_few N B s m t K a ds) a.paid) (omega arith)

  recover_funded : (es : List ℕ) → Sound N B s → distinct (shown N B s) ≡ true → Funded N B (finished N B s recover) (after recover 0 es) K
  unfolding stored_after replaces recovered shown
  recover_funded es h ds =
      let m = finished N B s recover in
      let xs = (work_of N B s recover).steps in
      let p = (recover_passes N B s z h m (erases_in xs) (marks_in B xs) (whole_begun B xs s)).1 in
      same_funded m recover 0 es (shown_clean N B m (recover_done N B s z h))
      (paid_more N B t.largest (t.replaced + K + 0) (t.replaced + K) (recovered_view N B m) (omega arith) (p.paid t.largest (t.replaced + K) (shown_few N B s m t K a ds) a.paid)) refl refl

  pub ended_funded : (r : Request) → OnTable r → Proper r → Sound N B s → distinct (shown N B s) ≡ true → (es : List ℕ) (n : ℕ) → (work_of N B s r).code ≡ n → Funded N B (finished N B s r) (after r n es) K
  ended_funded r on pr h ds es (suc n) e =
      let no : eqb (suc n) 0 ≡ false = ne_eqb (suc n) 0 (λ q. omega arith) in idle_funded r (suc n) es (refused_idle N B s r n e) (rw no) (rw no)
  ended_funded r on pr h ds es zero e = go (state N B s) refl h
    where
      done : (q : Request) → OnTable q → Proper q → Clean N B s → (work_of N B s q).code ≡ 0 → Funded N B (finished N B s q) (after q 0 es) K
      done format oq pq c k = absurd oq
      done (put b d) oq pq c k = put_funded b d es c pq k ds
      done (delete b) oq pq c k = delete_funded b es c k ds
      done (read b) oq pq c k = idle_funded (read b) 0 es (read_idle N B s b) (unfold stored_after in refl) (unfold replaces in refl)
      done (read_or b d) oq pq c k = idle_funded (read_or b d) 0 es (read_or_idle N B s b d) (unfold stored_after in refl) (unfold replaces in refl)
      done recover oq pq c k = recover_funded es h ds

      -- what is refused until a recovery does not answer 0
      asks : (q : Request) → WantsRecovery q → Unfinished N B s → (work_of N B s q).code ≡ 0 → ⊥
      asks q w un k = wants (malformed q) (sym (code_unfinished N B s z un q w) ∙ k)
        where
          wants : (n : ℕ) → cond (eqb n 0) 5 n ≡ 0 → ⊥
          wants zero p = omega (arith, p)
          wants (suc n) p = let no : eqb (suc n) 0 ≡ false = ne_eqb (suc n) 0 (λ o. omega arith) in let f : suc n ≡ 0 = rw no at p in omega (arith, f)

      recovery : (q : Request) → OnTable q → Unfinished N B s → (work_of N B s q).code ≡ 0 → Funded N B (finished N B s q) (after q 0 es) K
      recovery format oq un k = absurd oq
      recovery (put b d) oq un k = absurd (asks (put b d) tt un k)
      recovery (delete b) oq un k = absurd (asks (delete b) tt un k)
      recovery (read b) oq un k = absurd (asks (read b) tt un k)
      recovery (read_or b d) oq un k = absurd (asks (read_or b d) tt un k)
      recovery recover oq un k = recover_funded es h ds

      go : (x : State) → state N B s ≡ x → SoundAs N B s (segments_of N B s) x → Funded N B (finished N B s r) (after r 0 es) K
      go clean c k = done r on pr c e
      go (unfinished x) c k = recovery r on (x, c) e
      go damaged c k = absurd k

-- ---- any request, by what was seen of it

pub noted_erased : (e : Turn) (o : Seen) (t : Ledger) → (noted_as e o t).erased ≡ t.erased ++ e.begun
unfolding noted_as noted_cut
noted_erased e lost t = refl
noted_erased e (answered o) t = go (eqb o.code 9)
  where
    go : (b : Bool) → (cond b (noted_cut e t) (noted (record { request = e.request; code = o.code; erases = e.begun }) t)).erased ≡ t.erased ++ e.begun
    go true = unfold noted_cut in refl
    go false = unfold noted in refl

few_paid : {N B : ℕ} {s m : Image} {r : Request} {x : Promise} {es : List ℕ} {f : ℕ} → Did N B s m r x es f → (k : ℕ) × (c : ℕ) × (k ≤ 1) × Passes N B k c s m es f
few_paid (carries_on k h p) = (k, 0, h, p)
few_paid (recovers is cut none p) = (0, 1, omega arith, p)

module _ (N B : ℕ) (s m : Image) (e : Turn) (x : Promise) (t : Ledger) (K : ℕ) (z : right_size N B s ≡ true) (y : Bytes s) (h : Sound N B s) (a : Funded N B s t K) (ds : distinct (shown N B s) ≡ true)
    (dm : distinct (shown N B m) ≡ true) (kept : e.kept ≡ blocks (shown N B m)) (on : OnTable e.request) (pr : Proper e.request) (what : Did N B s m e.request x e.begun e.marks) where
  cut_funded : Funded N B m (noted_cut e t) (1 + K)
  cut_funded = let (k, c, few, p) = few_paid what in funded_cut N B s m t K a e kept ds dm few p

  pub event_funded : (o : Seen) → DoesBegun N B e.request o s m e.begun e.marks → Funded N B m (noted_as e o t) (cut_seen o + K)
  unfolding noted_as cut_seen
  event_funded lost c = cut_funded
  event_funded (answered o) (allowance, reply, image, begun) = go (eqb o.code 9) refl
    where
      r : Request
      r = e.request

      code : o.code ≡ (outcome_of N B s allowance e.request).code
      code = unfold reply_of in ap (λ (q : Reply). q.code) reply

      ended : Ends N B s allowance e.request → Funded N B m (noted (record { request = e.request; code = o.code; erases = e.begun }) t) (0 + K)
      ended d = let n : o.code ≡ (work_of N B s r).code = code ∙ d.code in let none : 0 + K ≡ K = omega arith in
          rw (image ∙ d.image, n, none) (ended_funded N B s t K z y a r on pr h ds e.begun (work_of N B s r).code refl)

      go : (b : Bool) → eqb o.code 9 ≡ b → Funded N B m (cond b (noted_cut e t) (noted (record { request = e.request; code = o.code; erases = e.begun }) t)) (cond b 1 0 + K)
      go true q = cut_funded
      go false q = ⊎_elim (λ d. ended d) (λ d. absurd (true≢false (sym (eq-eqb o.code 9 (code ∙ d.code)) ∙ q))) (ends_or_stops N B s allowance r)
