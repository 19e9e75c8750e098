-- The proofs: a mounted call in step is the unmounted one, and runs and sessions go by it call by call.
use Rattle.std.specs.Prelude.{ℕ, zero, suc, ◌+◌, ◌<◌, ◌≡◌, refl, ◌≢◌, Bool, true, length, get_or, take, drop, ltb, eqb}
use Rattle.std.proofs.Common.{sym, ap, ◌∙◌, subst, inl, inr, ⊎_elim, true≢false, arith}
use Rattle.std.proofs.Math.Path.{ap₂}
use Rattle.std.proofs.Math.Bool.{false}
use mathlib.Core.List.{List, [], ◌∷◌}
use Rattle.std.proofs.Math.Decide.{ℕ_discrete}
use borrow.Author.Tests.{ltb-true, le-leb, eqb-true}
use Rattle.model.specs.Chip.{Image, Step, right_size, run}
use Rattle.model.specs.Slot.{number_ok}
use Rattle.model.specs.State.{View, entries_in, holds, State, clean, unfinished, damaged, state, view}
use Rattle.model.specs.Answers.{Request, format, put, delete, read, read_or, recover, work_of, code_under, Outcome, outcome_of, ReadOutcome, contents_at, read_outcome, piece_read}
use Rattle.model.specs.Histories.{Reply, bytes_read, reply_of, Seen, answered, lost, Does, Event, History, recovered}
use Rattle.model.specs.Sequences.{Call, observe, observed, Uncut}
use Rattle.model.specs.Mounted.{Places, least_places, place_entry, filled_places, MountOutcome, mount_outcome, InStep, Writes}
use Rattle.model.specs.Laws.Lists.{and_left, and_right}
use Rattle.model.proofs.Laws.Chip.{run_size}
use Rattle.bridge.specs.Held.{held_of_clean}
use Rattle.bridge.specs.Accepted.{refusal, code_of_lem}
use Rattle.bridge.specs.Refusals.{wrong_size_code, recover_damaged, read_absent, read_found}
use Rattle.bridge.specs.Allowance.{ends}
use Rattle.bridge.specs.Mounting.{filled_zero, filled_entry, filled_past, Mountable, mount_asks, mount_fills, mount_in_step, held_number}
use Rattle.crash.proofs.Requests.{read_idle, recovered_clean, read_code}
use Rattle.crash.proofs.States.{done}
use Rattle.crash.proofs.Recover.{recovery_mends}
use Rattle.crash.proofs.Theorem.{demand2}
use Rattle.wear.proofs.Sequence.{demand3}
use Rattle.sessions.specs.Law.{EntryReads, MountFills, RecoveredMounts, Given, given_by, given_all, Calls, Runs, last_image, NoneCut, MountedRuns, Turn, plain, mount, call, CallDoes, stays, Session, events_in, MountedDemand2, Observes, Unbroken, MountedDemand3}

-- ---- the table

-- a read that answers 0 tells the entry's place
read_place : (N B : ℕ) (s : Image) (k : ℕ) → (work_of N B s (read k)).code ≡ 0 → holds k (entries_in (view N B s)) ≡ true → (read_outcome N B s k).offset ≡ place_entry N B (view N B s) k + 8
unfolding read_outcome contents_at place_entry
read_place N B s k c e = rw (c, e)

absent_entry : (N B : ℕ) (s : Image) (k : ℕ) → holds k (entries_in (view N B s)) ≡ false → place_entry N B (view N B s) k ≡ 0
unfolding place_entry
absent_entry N B s k e = rw e

filled_reads : (N B : ℕ) (s : Image) (t : Places) → Mountable N B s t → (k : ℕ) → number_ok k ≡ true → EntryReads (get_or (filled_places N B (view N B s) t) k 0) (read_outcome N B s k)
filled_reads N B s t m k n = go (holds k (entries_in v)) refl
  where
    v : View
    v = view N B s

    range : (0 < k) × (k < least_places)
    range = unfold number_ok in (ltb-true 0 k (and_left (ltb 0 k) (ltb k 65535) n), omega (arith, ltb-true k 65535 (and_right (ltb 0 k) (ltb k 65535) n)))

    here : get_or (filled_places N B v t) k 0 ≡ place_entry N B v k
    here = filled_entry N B v t k range.0 range.1

    go : (x : Bool) → holds k (entries_in v) ≡ x → EntryReads (get_or (filled_places N B v t) k 0) (read_outcome N B s k)
    go true e =
        let code : (work_of N B s (read k)).code ≡ 0 = code_of_lem N B s (read k) ∙ read_found N B s m.size k n m.fine e in
        inl (read_code N B s k ∙ code, read_place N B s k code e ∙ ap (λ (y : ℕ). y + 8) (sym here))
    go false e =
        let code : (work_of N B s (read k)).code ≡ 6 = code_of_lem N B s (read k) ∙ read_absent N B s m.size k n m.fine e in
        inr (read_code N B s k ∙ code, here ∙ absent_entry N B s k e)

-- no block has this number
last_none : (N B : ℕ) (s : Image) (t : Places) → Mountable N B s t → get_or (filled_places N B (view N B s) t) 65535 0 ≡ 0
last_none N B s t m = filled_entry N B v t 65535 (omega arith) (omega arith) ∙ go (holds 65535 (entries_in v)) refl
  where
    v : View
    v = view N B s

    go : (x : Bool) → holds 65535 (entries_in v) ≡ x → place_entry N B v 65535 ≡ 0
    go true e = absurd (true≢false (sym (held_number N B 65535 s v (held_of_clean N B s m.size m.fine) e) ∙ (unfold number_ok in refl)))
    go false e = absent_entry N B s 65535 e

pub mount_fills_reads : MountFills
mount_fills_reads N B s t e =
    let m = mount_asks N B s t e in
    let v = view N B s in
    let f : (mount_outcome N B s t).places ≡ filled_places N B v t = ap (λ (o : MountOutcome). o.places) (mount_fills N B s t m) in
    rw f (filled_zero N B v t, filled_reads N B s t m, last_none N B s t m, filled_past N B v t)

-- ---- a mount after a recovery

-- a recovery that answers 0 leaves a clean image
recovered_fine : (N B : ℕ) (s : Image) → (work_of N B s recover).code ≡ 0 → (right_size N B s ≡ true) × (state N B (recovered N B s) ≡ clean)
recovered_fine N B s e = size (right_size N B s) refl
  where
    none : refusal N B s recover ≡ 0
    none = sym (code_of_lem N B s recover) ∙ e

    fine : right_size N B s ≡ true → (x : State) → state N B s ≡ x → state N B (recovered N B s) ≡ clean
    fine z clean h = rw (recovered_clean N B s h) h
    fine z (unfinished x) h = done N B s x z h (recovery_mends N B s z x h)
    fine z damaged h = absurd (omega (arith, none, recover_damaged N B s z h))

    size : (t : Bool) → right_size N B s ≡ t → (right_size N B s ≡ true) × (state N B (recovered N B s) ≡ clean)
    size true z = (z, fine z (state N B s) refl)
    size false z = absurd (omega (arith, none, wrong_size_code N B s recover z))

pub recovered_mounts : RecoveredMounts
unfolding recovered
recovered_mounts N B s t allowance e l =
    let x = ends N B s allowance recover (λ q. omega (arith, e, q)) in
    let f = recovered_fine N B s (sym x.code ∙ e) in
    let z : right_size N B (run B (work_of N B s recover).steps s) ≡ true = run_size N B (work_of N B s recover).steps s ∙ f.0 in
    rw x.image (ap (λ (o : MountOutcome). o.code) (mount_fills N B (run B (work_of N B s recover).steps s) t (record { size = z; fine = f.1; long = l })))

-- ---- one call

no_steps : (n : ℕ) → take {A = Step} n [] ≡ []
no_steps zero = refl
no_steps (suc n) = refl

-- an unmounted read
read_given : (N B : ℕ) (s : Image) (b allowance : ℕ) (o : ReadOutcome) → o ≡ read_outcome N B s b
    → record { code = o.code; count = 0; bytes = take o.length (drop o.offset s); image = s } ≡ given_by N B s (record { request = read b; allowance = allowance })
unfolding given_by outcome_of code_under bytes_read piece_read run
read_given N B s b allowance o e = rw (e, read_idle N B s b, no_steps allowance, le-leb 0 allowance (omega arith), read_code N B s b)

module _ (N B : ℕ) (s : Image) (t : Places) (step : InStep N B s t) where
  -- a put or a delete
  write_given : (b : ℕ) (taken : Bool) (codes : List ℕ) (r : Request) (allowance : ℕ) (g : Given) (u : Places) → Writes N B b taken codes r allowance (record { code = g.code; count = g.count; image = g.image }) s t u
      → g.bytes ≡ bytes_read N B s r → (g ≡ given_by N B s (record { request = r; allowance = allowance })) × (g.code ≢ 9 → InStep N B g.image u)
  unfolding given_by
  write_given b taken codes r allowance g u w e = (
    ap₂ (λ (o : Outcome) (bytes : List ℕ). record { code = o.code; count = o.count; bytes = bytes; image = o.image }) (w.same step) e,
    λ n. elim (ℕ_discrete g.code 0) [ yes z ↦ w.kept step z | no z ↦ let k = w.refused z n in rw (k.1, k.2) step ],
  )

  call_given : (r : Request) (allowance : ℕ) (g : Given) (u : Places) → Calls N B r allowance g s t u
      → (g ≡ given_by N B s (record { request = r; allowance = allowance })) × (g.code ≢ 9 → InStep N B g.image u)
  unfolding bytes_read
  call_given format allowance g u h = absurd h
  call_given (put b c) allowance g u h = write_given b _ _ (put b c) allowance g u h.0 h.1
  call_given (delete b) allowance g u h = write_given b _ _ (delete b) allowance g u h.0 h.1
  call_given (read b) allowance g u h = (h.2 ∙ read_given N B s b allowance h.0 (h.1.same step), λ n. rw (h.2, h.3) step)
  call_given (read_or b f) allowance g u h = absurd h
  call_given recover allowance g u h = absurd h

-- ---- runs

-- no call is left
last_given : (N B : ℕ) (s : Image) (t u : Places) (xs : List Call) (gs : List Given) → xs ≡ [] → Runs N B s t xs gs u → gs ≡ given_all N B s xs
unfolding given_all
last_given N B s t u [] [] e h = refl
last_given N B s t u [] (g ∷ gs) e h = absurd h
last_given N B s t u (x ∷ xs) gs e h = absurd (let z : ◌≡◌ {A = ℕ} 0 1 = cc in omega arith)

runs_given : (N B : ℕ) (s : Image) (t u : Places) (xs : List Call) (gs : List Given) → InStep N B s t → Runs N B s t xs gs u → (gs ≡ given_all N B s xs) × (NoneCut gs → InStep N B (last_image s gs) u)
unfolding given_all last_image
runs_given N B s t u [] [] p h = (refl, λ n. rw h p)
runs_given N B s t u [] (g ∷ gs) p h = absurd h
runs_given N B s t u (x ∷ xs) [] p h = absurd h
runs_given N B s t u (x ∷ xs) (g ∷ gs) p h =
    let c = call_given N B s t p x.request x.allowance g h.0 h.1 in
    let more : g.code ≢ 9 → (gs ≡ given_all N B g.image xs) × (NoneCut gs → InStep N B (last_image g.image gs) u) = (λ n. runs_given N B g.image h.0 u xs gs (c.1 n) h.3) in
    let rest : gs ≡ given_all N B g.image xs = ⊎_elim (λ n. (more n).0) (λ e. last_given N B g.image h.0 u xs gs e h.3) h.2 in
    (ap₂ (λ (y : Given) (ys : List Given). y ∷ ys) c.0 (rest ∙ ap (λ (y : Given). given_all N B y.image xs) c.0), λ n. (more n.0).1 n.1)

pub mounted_runs : MountedRuns
mounted_runs N B s t u xs gs h r = runs_given N B s (mount_outcome N B s t).places u xs gs (mount_in_step N B s t h) r

-- ---- sessions

-- what a mounted call in step shows and leaves is what the unmounted one does
call_does : (N B : ℕ) (s : Image) (t : Places) → InStep N B s t → (r : Request) (seen : Seen) (m : Image) (w : Places) → CallDoes N B r seen s t m w → Does N B r seen s m × (stays seen ≡ true → InStep N B m w)
unfolding reply_of given_by stays
call_does N B s t step r (answered o) m w h =
    let g = h.1.0 in
    let c = call_given N B s t step r h.0 g w h.1.1 in (
      (h.0, h.1.2 ∙ ap (λ (y : Given). record { code = y.code; bytes = y.bytes }) c.0, h.1.3 ∙ ap (λ (y : Given). y.image) c.0),
      λ z. rw h.1.3 (c.1 (λ n. absurd (true≢false (sym z ∙ rw (h.1.2, n))))),
    )
call_does N B s t step r lost m w h = (h, λ z. absurd (true≢false (sym z)))

session_history : (N B : ℕ) (ready : Bool) (s : Image) (t : Places) (es : List Turn) (u : Image) → (ready ≡ true → InStep N B s t) → Session N B ready s t es u → History N B s (events_in es) u
unfolding events_in
session_history N B ready s t [] u p h = h
session_history N B ready s t (plain e ∷ es) u p h =
    let m = h.2.0 in (
      h.0,
      h.1,
      (
        m,
        h.2.1,
        ⊎_elim (λ k. subst (λ (y : Image). History N B y (events_in es) u) (sym k.0) (session_history N B ready s t es u p k.1))
            (λ k. session_history N B false m t es u (λ z. absurd (true≢false (sym z))) k) h.2.2,
      ),
    )
session_history N B ready s t (mount code ∷ es) u p h =
    ⊎_elim (λ k. session_history N B (eqb code 0) s (mount_outcome N B s h.0).places es u (λ z. mount_in_step N B s h.0 (sym h.1 ∙ eqb-true code 0 z)) k)
    (λ k. session_history N B ready s t es u p k) h.2
session_history N B true s t (call e ∷ es) u p h =
    let c = call_does N B s t (p refl) e.request e.seen h.2.0 h.2.1 h.2.2 in
    (h.0, h.1, (h.2.0, c.0, session_history N B (stays e.seen) h.2.0 h.2.1 es u c.1 h.2.3))
session_history N B false s t (call e ∷ es) u p h = absurd h

-- one that begins without a table
pub unmounted_history : (N B : ℕ) (s : Image) (t : Places) (es : List Turn) (u : Image) → Session N B false s t es u → History N B s (events_in es) u
unmounted_history N B s t es u h = session_history N B false s t es u (λ y. absurd (true≢false (sym y))) h

pub mounted_demand2 : MountedDemand2
mounted_demand2 N B s u t es z h = demand2 N B s u (events_in es) z (unmounted_history N B s t es u h)

-- ---- without a cut: the calls of a history

pub history_calls : (N B : ℕ) (s : Image) (es : List Event) (u : Image) → History N B s es u → Unbroken es → (xs : List Call) × Observes es (observed N B s xs) × Uncut (observed N B s xs)
unfolding observed observe reply_of
history_calls N B s [] u h q = ([], tt, tt)
history_calls N B s (e ∷ es) u h q =
    let reply = q.1.0 in
    let d = subst (λ (y : Seen). Does N B e.request y s h.2.0) q.1.1 h.2.1 in
    let code : reply.code ≡ (outcome_of N B s d.0 e.request).code = ap (λ (y : Reply). y.code) d.1 in
    let ih = history_calls N B (outcome_of N B s d.0 e.request).image es u (subst (λ (y : Image). History N B y es u) d.2 h.2.2) q.2 in
    (record { request = e.request; allowance = d.0 } ∷ ih.0, (refl, (reply, q.1.1, code), ih.1), (q.0, λ n. q.1.2 (code ∙ n), ih.2))

pub mounted_demand3 : MountedDemand3
mounted_demand3 N B s u allowance t es z h q =
    let i = (outcome_of N B s allowance format).image in
    let c = history_calls N B i (events_in es) u (unmounted_history N B i t es u h) q in
    (c.0, c.1, demand3 N B s allowance c.0 z c.2)
