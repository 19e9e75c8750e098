-- Demand 3, by induction over the calls of a sequence.
use Prim.Native.Nat.{ℕ, zero, suc, ◌-◌, ◌≤◌}
use Rattle.std.specs.Prelude.{◌≡◌, ◌≢◌, Bool, true, false, cond, length, take, eqb}
use Rattle.std.proofs.Math.Path.{refl, ap}
use Rattle.std.proofs.Common.{sym, ◌∙◌, arith, eqb-true}
use mathlib.Core.List.{List, [], ◌∷◌}
use Rattle.std.proofs.Math.Seq.{take-length}
use Rattle.model.specs.Chip.{Image, Bytes, right_size, run}
use Rattle.model.specs.State.{view, clean, state}
use Rattle.model.specs.Steps.{format_steps}
use Rattle.model.specs.Answers.{Request, format, put, delete, read, read_or, recover, steps_for, work_of, outcome_of}
use Rattle.model.specs.Sequences.{Call, play, erases_in, observe, observed, InSequence, Uncut, stored_after, replaces, Ledger, start, noted, ledger}
use Rattle.model.proofs.Laws.Chip.{size_facts, run_size}
use Rattle.model.proofs.Laws.Bytes.{run_bytes}
use Rattle.bridge.specs.Held.{clean_view}
use Rattle.bridge.specs.Accepted.{refused_none, accepted, quiet_none, recover_none, delete_passed, format_passed}
use Rattle.bridge.specs.Allowance.{Ends, ends}
use Rattle.bridge.specs.Requests.{put_done, delete_done}
use Rattle.bridge.specs.Format.{format_bytes, format_done}
use Rattle.wear.specs.Demand3.{FewErases, Bounded, Demand3}
use Rattle.wear.specs.Erases.{delete_none}
use Rattle.wear.proofs.Requests.{Tracks, tracks_paid, tracks_balanced, tracks_start, tracks_still, put_few, tracks_put, tracks_delete}

-- the image is clean, and the count belongs to its view
pub record Sequenced (N B : ℕ) (s : Image) (t : Ledger) : Type 0 where
  pub size : right_size N B s ≡ true
  pub bytes : Bytes s
  pub clean : state N B s ≡ clean
  pub tracks : Tracks N B (view N B s) t

module _ (N B : ℕ) where
  -- a call kept the image clean and the count with it, and did not erase too often
  abbrev Kept : Image → Ledger → Call → Type 0
  Kept s t x = Sequenced N B (outcome_of N B s x.allowance x.request).image (noted (observe N B s x) t) × (length (observe N B s x).erases ≤ N - 1)

  -- a call by its work, all of it done
  kept : (s : Image) (t : Ledger) (x : Call) → Sequenced N B s t → Ends N B s x.allowance x.request
      → let w = work_of N B s x.request in
      state N B (run B w.steps s) ≡ clean
      → Tracks N B (view N B (run B w.steps s)) (noted (record { request = x.request; code = w.code; erases = erases_in w.steps }) t)
      → length (erases_in w.steps) ≤ N - 1
      → Kept s t x
  unfolding observe
  kept s t x g f c k few = (
    record {
      size = rw f.image (run_size N B (work_of N B s x.request).steps s ∙ g.size);
      bytes = rw f.image (run_bytes B (work_of N B s x.request).steps s g.bytes);
      clean = rw f.image c;
      tracks = rw (f.image, f.code) k;
    },
    few,
  )

  -- one that takes no step, and neither stores nor removes a block
  still : (s : Image) (t : Ledger) (x : Call) → Sequenced N B s t → Ends N B s x.allowance x.request → (work_of N B s x.request).steps ≡ []
      → cond (eqb (work_of N B s x.request).code 0) (stored_after x.request t.stored) t.stored ≡ t.stored
      → cond (eqb (work_of N B s x.request).code 0) (replaces x.request t.stored) 0 ≡ 0
      → Kept s t x
  unfolding run erases_in
  still s t x g f none stays free =
      let same : run B (work_of N B s x.request).steps s ≡ s = ap (λ xs. run B xs s) none in
      kept s t x g f (rw same g.clean) (rw same (tracks_still N B (view N B s) t _ g.tracks (rw none) stays free)) (rw none (omega arith))

  done_put : (s : Image) (t : Ledger) (b : ℕ) (c : List ℕ) (allowance : ℕ) → Sequenced N B s t → Ends N B s allowance (put b c) → Bytes c → (work_of N B s (put b c)).code ≡ 0
      → Kept s t (record { request = put b c; allowance = allowance })
  unfolding steps_for view
  done_put s t b c allowance g f bytes e =
      let a = accepted N B s (put b c) e in
      let d = put_done N B s g.size g.clean b c g.bytes bytes e in
      let cv = clean_view N B s g.size g.clean in
      let size = size_facts N B s g.size in
      kept s t (record { request = put b c; allowance = allowance }) g f d.0
      (rw (d.1, e, a.0) (tracks_put N B size.two size.slots (view N B s) t b c cv g.tracks))
      (rw a.0 (put_few N B (view N B s) b c))

  done_delete : (s : Image) (t : Ledger) (b allowance : ℕ) → Sequenced N B s t → Ends N B s allowance (delete b) → (work_of N B s (delete b)).code ≡ 0
      → Kept s t (record { request = delete b; allowance = allowance })
  unfolding steps_for view
  done_delete s t b allowance g f e =
      let a = accepted N B s (delete b) e in
      let d = delete_done N B s g.size g.clean b e in
      let cv = clean_view N B s g.size g.clean in
      kept s t (record { request = delete b; allowance = allowance }) g f d.0
      (rw (d.1, e, a.0) (tracks_delete N B (view N B s) t b cv (delete_passed N B s b a.1) g.tracks))
      (rw (a.0, delete_none N B b (view N B s)) (omega arith))

  -- refused, or done
  decided : (s : Image) (t : Ledger) (x : Call) → Sequenced N B s t → Ends N B s x.allowance x.request → ((work_of N B s x.request).code ≡ 0 → Kept s t x) → Kept s t x
  decided s t x g f done = go (eqb (work_of N B s x.request).code 0) refl
    where
      go : (u : Bool) → eqb (work_of N B s x.request).code 0 ≡ u → Kept s t x
      go true e = done (eqb-true (work_of N B s x.request).code 0 e)
      go false e = still s t x g f (refused_none N B s x.request e) (rw e) (rw e)

  -- a request that neither stores nor removes a block, whatever its answer
  quiet : (s : Image) (t : Ledger) (x : Call) → Sequenced N B s t → Ends N B s x.allowance x.request → (work_of N B s x.request).steps ≡ []
      → stored_after x.request t.stored ≡ t.stored → replaces x.request t.stored ≡ 0 → Kept s t x
  quiet s t x g f none stays free =
      let u = eqb (work_of N B s x.request).code 0 in
      still s t x g f none (rw stays (either u t.stored)) (rw free (either u 0))
    where
      either : {A : Type 0} (u : Bool) (a : A) → cond u a a ≡ a
      either true a = refl
      either false a = refl

  call : (s : Image) (t : Ledger) (r : Request) (allowance : ℕ) → Sequenced N B s t → InSequence r → (outcome_of N B s allowance r).code ≢ 9 → Kept s t (record { request = r; allowance = allowance })
  unfolding steps_for stored_after replaces
  call s t format allowance g i n = absurd i
  call s t (put b c) allowance g i n =
      let f = ends N B s allowance (put b c) n in
      decided s t (record { request = put b c; allowance = allowance }) g f (λ e. done_put s t b c allowance g f i e)
  call s t (delete b) allowance g i n =
      let f = ends N B s allowance (delete b) n in
      decided s t (record { request = delete b; allowance = allowance }) g f (λ e. done_delete s t b allowance g f e)
  call s t (read b) allowance g i n =
      quiet s t (record { request = read b; allowance = allowance }) g (ends N B s allowance (read b) n) (quiet_none N B s (read b) refl) refl refl
  call s t (read_or b c) allowance g i n =
      quiet s t (record { request = read_or b c; allowance = allowance }) g (ends N B s allowance (read_or b c) n) (quiet_none N B s (read_or b c) refl) refl refl
  call s t recover allowance g i n =
      quiet s t (record { request = recover; allowance = allowance }) g (ends N B s allowance recover n) (recover_none N B s g.clean) refl refl

  -- ---- a sequence: each call works on what the one before left

  abbrev AllKept : Image → Ledger → List Call → Type 0
  AllKept s t xs = FewErases N (observed N B s xs) × ((k : ℕ) → Sequenced N B (play N B s (take k xs)) (ledger (take k (observed N B s xs)) t))

  sequence : (s : Image) (t : Ledger) (xs : List Call) → Sequenced N B s t → Uncut (observed N B s xs) → AllKept s t xs
  unfolding observed observe play ledger
  sequence s t [] g u = (tt, none)
    where
      none : (k : ℕ) → Sequenced N B (play N B s (take k [])) (ledger (take k []) t)
      none zero = g
      none (suc k) = g
  sequence s t (x ∷ xs) g u =
      let c = call s t x.request x.allowance g u.0 u.1 in
      let m = sequence (outcome_of N B s x.allowance x.request).image (noted (observe N B s x) t) xs c.0 u.2 in
      ((omega (arith, c.1), m.0), some m.1)
    where
      after : Image
      after = (outcome_of N B s x.allowance x.request).image

      some : ((k : ℕ) → Sequenced N B (play N B after (take k xs)) (ledger (take k (observed N B after xs)) (noted (observe N B s x) t)))
          → (k : ℕ) → Sequenced N B (play N B s (take k (x ∷ xs))) (ledger (take k (observed N B s (x ∷ xs))) t)
      some h zero = g
      some h (suc k) = h k

  -- ---- from a format that answered 0, which has run whole

  pub format_answered : (s : Image) (allowance : ℕ) → (outcome_of N B s allowance format).code ≡ 0 → (right_size N B s ≡ true) × ((outcome_of N B s allowance format).image ≡ run B (format_steps N B) s)
  unfolding steps_for
  format_answered s allowance e =
      let f = ends N B s allowance format (λ p. omega arith) in
      let a = accepted N B s format (sym f.code ∙ e) in
      (format_passed N B s a.1, f.image ∙ ap (λ xs. run B xs s) a.0)

  formatted : (s : Image) (allowance : ℕ) → (outcome_of N B s allowance format).code ≡ 0 → Sequenced N B (outcome_of N B s allowance format).image start
  formatted s allowance e =
      let (size, image) = format_answered s allowance e in
      let d = format_done N B s size in
      rw image (record { size = run_size N B (format_steps N B) s ∙ size; bytes = format_bytes N B s size; clean = d.0; tracks = rw d.1 (tracks_start N B (size_facts N B s size).two) })

-- after each call of a sequence
pub all_kept : (N B : ℕ) (s : Image) (allowance : ℕ) (xs : List Call) → (outcome_of N B s allowance format).code ≡ 0
    → Uncut (observed N B (outcome_of N B s allowance format).image xs)
    → FewErases N (observed N B (outcome_of N B s allowance format).image xs)
    × ((k : ℕ) → Sequenced N B (play N B (outcome_of N B s allowance format).image (take k xs)) (ledger (take k (observed N B (outcome_of N B s allowance format).image xs)) start))
all_kept N B s allowance xs e u =
    sequence N B (outcome_of N B s allowance format).image start xs (formatted N B s allowance e) u

-- the image is clean after each call
pub stays_clean : (N B : ℕ) (s : Image) (allowance : ℕ) (xs : List Call) → (outcome_of N B s allowance format).code ≡ 0
    → Uncut (observed N B (outcome_of N B s allowance format).image xs)
    → (k : ℕ) → state N B (play N B (outcome_of N B s allowance format).image (take k xs)) ≡ clean
stays_clean N B s allowance xs e u k = ((all_kept N B s allowance xs e u).1 k).clean

-- so that recover takes no step there
pub recover_idle : (N B : ℕ) (s : Image) (allowance : ℕ) (xs : List Call) → (outcome_of N B s allowance format).code ≡ 0
    → Uncut (observed N B (outcome_of N B s allowance format).image xs)
    → (k : ℕ) → (work_of N B (play N B (outcome_of N B s allowance format).image (take k xs)) recover).steps ≡ []
recover_idle N B s allowance xs e u k = recover_none N B (play N B (outcome_of N B s allowance format).image (take k xs)) (stays_clean N B s allowance xs e u k)

-- what demand 3 says, from any clean image to whose view the count belongs
pub bounded_from : (N B : ℕ) (s : Image) (t : Ledger) (xs : List Call) → Sequenced N B s t → Uncut (observed N B s xs) → Bounded N B t (observed N B s xs)
bounded_from N B s t xs g u =
    let os = observed N B s xs in
    let a = sequence N B s t xs g u in
    let whole = rw (take-length os) at (a.1 (length os)).tracks in
    (tracks_paid N B _ (ledger os t) whole, a.0, λ k. tracks_balanced N B _ (ledger (take k os) t) (a.1 k).tracks)

pub demand3 : Demand3
demand3 = λ N B s allowance xs e u. bounded_from N B (outcome_of N B s allowance format).image start xs (formatted N B s allowance e) u
