-- The induction over histories: one lemma for each event, by what demand 2 knows of the image.
use Rattle.std.specs.Prelude.{ℕ, suc, ◌+◌, ◌≤◌, ◌<◌, ◌≡◌, Bool, true, cond, length}
use Rattle.std.proofs.Math.Path.{refl, ap}
use Rattle.std.proofs.Common.{sym, ◌∙◌, subst, inl, inr, true≢false}
use Rattle.std.proofs.Math.Bool.{false}
use mathlib.Core.List.{List, [], ◌∷◌}
use native.Mathlib.Omega.{arith}
use Rattle.std.proofs.Math.Dec.{eqb}
use Rattle.model.specs.Lists.{count}
use Rattle.model.specs.Chip.{Image, Bytes, right_size, run, erased}
use Rattle.model.specs.Header.{new_version, is_former, bit_values, cleared_in, cleared_bits, tally_of, no_bit_left}
use Rattle.model.specs.State.{segments_of, next_number, top_version, View, view_of, view, Exception, clean, unfinished, state}
use Rattle.model.specs.Steps.{format_steps}
use Rattle.model.specs.Answers.{Request, format, put, delete, read, read_or, recover, steps_for, work_of, outcome_of}
use Rattle.model.specs.Histories.{Seen, answered, lost, Proper}
use Rattle.model.specs.Sequences.{erases_in}
use Rattle.model.specs.Begun.{CutBegun, DoesBegun, Turn, Turns, cut_seen, cuts_in, by_recovery, recovery_erases, begun_on}
use Rattle.model.proofs.Laws.Chip.{size_facts, run_size}
use Rattle.model.proofs.Laws.Begun.{begun_cut, begun_does, begun_none, taken_begun}
use Rattle.bridge.specs.Predicted.{fresh}
use Rattle.bridge.specs.Accepted.{accepted}
use Rattle.bridge.specs.Held.{Held}
use Rattle.bridge.specs.Format.{format_held}
use Rattle.crash.specs.Machine.{Board, malformed, Promise, settled, interrupted, unknown, IsCut, OnTable, WantsRecovery, Moves, answers, answers_again, asks_recovery, refuses_malformed, not_begun, wholly_done, formats, format_cut, no_promise}
use Rattle.crash.specs.Sound.{Sound}
use Rattle.crash.proofs.Requests.{sound_clean}
use Rattle.crash.proofs.ReadingRuns.{Known, move_known}
use Rattle.crash.specs.Invariant.{Invariant}
use Rattle.crash.proofs.Skeleton.{one_event}
use Rattle.crash.proofs.Works
use Rattle.crash.proofs.Works.{Works, puts, deletes, works, may}
use Rattle.crash.proofs.Starts.{formatted_stores}
use Rattle.crash.specs.Tops.{same_image}
use Rattle.crash.proofs.Delete.{delete_top}
use Rattle.crash.proofs.Theorem.{request_laws}
use Rattle.wear.specs.Erases.{delete_none}
use Rattle.tallied.specs.Law.{tally_in, BitLeft, Unformatted, TallyTells}
use Rattle.tallied.proofs.Counts.{turns_to, turns_bound, Advances, advances_same}
use Rattle.tallied.proofs.Puts.{put_advances}
use Rattle.tallied.proofs.Recovers.{Recovers, recover_counts}

-- ---- what each event gives

abbrev pub IsInterrupted : Promise → Type 0
IsInterrupted (settled t) = ⊥
IsInterrupted (interrupted t) = Unit {0}
IsInterrupted unknown = ⊥

-- what demand 2 knows of an image
pub record Facts (N B : ℕ) (s : Image) (x : Promise) : Type 0 where
  pub size : right_size N B s ≡ true
  pub bytes : Bytes s
  pub sound : Sound N B s
  pub pending : (q : Exception) → state N B s ≡ unfinished q → IsInterrupted x

pub facts : (N B : ℕ) (s : Image) (x : Promise) → Invariant N B false s x → Known x → Facts N B s x
facts N B s (settled t) (z, k) kn = record { size = z; bytes = k.bytes; sound = sound_clean N B s k.clean; pending = λ q e. clash q (sym k.clean ∙ e) }
  where
    clash : (q : Exception) → clean ≡ unfinished q → ⊥
    clash q e = let n : ◌≡◌ {A = ℕ} 0 1 = cc in omega (arith, n)
facts N B s (interrupted t) (z, k) kn = record { size = z; bytes = k.bytes; sound = k.sound; pending = λ q e. tt }
facts N B s unknown i kn = absurd kn

-- a recovery on an image that is not clean, or any other request
pub data Shown (N B : ℕ) (s m : Image) (r : Request) (es : List ℕ) (x : Promise) : Type 0 where
  carries_on : Advances N B s m es → by_recovery r es ≡ 0 → Shown N B s m r es x
  recovers : Recovers N B s m es → r ≡ recover → IsInterrupted x → by_recovery r es ≡ length es → Shown N B s m r es x

pub begun_of : (N B : ℕ) (r : Request) (o : Seen) (s m : Image) (es : List ℕ) (f : ℕ) → DoesBegun N B r o s m es f → CutBegun B (work_of N B s r).steps s m es f
unfolding outcome_of
begun_of N B r (answered y) s m es f (k, reply, image, (begun, marks)) = rw (image, begun, marks) (taken_begun B (work_of N B s r).steps s k)
begun_of N B r lost s m es f c = c

idle : (N B : ℕ) (s m : Image) (r : Request) (es : List ℕ) (f : ℕ) (x : Promise) → by_recovery r [] ≡ 0 → (work_of N B s r).steps ≡ [] → CutBegun B (work_of N B s r).steps s m es f → Shown N B s m r es x
idle N B s m r es f x z e c = let d : CutBegun B [] s m es f = rw e at c in carries_on (advances_same N B s m es d.1 (same_image N B s m d.0)) (ap (λ (y : List ℕ). by_recovery r y) d.1 ∙ z)

none_by : (r : Request) → by_recovery r [] ≡ 0
unfolding by_recovery
none_by format = refl
none_by (put b c) = refl
none_by (delete b) = refl
none_by (read b) = refl
none_by (read_or b f) = refl
none_by recover = refl

delete_erases : (N B : ℕ) (s : Image) (b : ℕ) → (work_of N B s (delete b)).code ≡ 0 → erases_in (work_of N B s (delete b)).steps ≡ []
delete_erases N B s b e = unfold steps_for in (ap erases_in (accepted N B s (delete b) e).0 ∙ delete_none N B b (view_of N (segments_of N B s)))

-- by what a request can do; an image that is not clean is one of an interrupted request
shown_by : (N B : ℕ) (s m : Image) (r : Request) (es : List ℕ) (f : ℕ) (x : Promise) → right_size N B s ≡ true → Bytes s → Sound N B s → is_former (top_version N (segments_of N B s)) ≡ false
    → ((q : Exception) → state N B s ≡ unfinished q → IsInterrupted x) → Works N B s r → CutBegun B (work_of N B s r).steps s m es f → Shown N B s m r es x
shown_by N B s m r es f x z y h new i (Works.idle e) c = idle N B s m r es f x (none_by r) e c
shown_by N B s m r es f x z y h new i (puts b v k p a) c = carries_on (put_advances N B s z k b v y p a m es f c) (unfold by_recovery in refl)
shown_by N B s m r es f x z y h new i (deletes b k a) c =
    let xs = (work_of N B s (delete b)).steps in
    carries_on (advances_same N B s m es (begun_none B xs s m es f (delete_erases N B s b a) c) (delete_top N B s b z k a m (begun_cut B xs s m es f c))) (unfold by_recovery in refl)
shown_by N B s m r es f x z y h new i (Works.recovers q e) c = recovers (recover_counts N B s z h new y m es f c) refl (i q e) (unfold by_recovery in refl)

-- ---- the invariant

-- the tally against the cuts: a cut that no recovery has finished after is still to be counted
abbrev pub Below : Promise → ℕ → ℕ → Type 0
Below (settled t) a k = a ≤ k
Below (interrupted t) a k = a < k
Below unknown a k = ⊥

record Tallies (N B : ℕ) (s : Image) (x : Promise) (R K : ℕ) (E : ℕ → ℕ) : Type 0 where
  second : is_former (top_version N (segments_of N B s)) ≡ false
  counted : BitLeft N B s → (R ≤ tally_in N B s) × Below x (tally_in N B s) K
  erases : (i : ℕ) → E i ≤ turns_to N i (next_number (segments_of N B s)) + R

pub known : (x : Promise) (a k : ℕ) → Below x a k → a ≤ k
known (settled t) a k h = h
known (interrupted t) a k h = omega arith
known unknown a k h = absurd h

cut_one : (o : Seen) → IsCut o → cut_seen o ≡ 1
unfolding cut_seen
cut_one o (inl e) = rw e
cut_one o (inr e) = rw e

-- the tally as it was
pub below_same : {C : Board} {w : Bool} {r : Request} {o : Seen} {x y : Promise} → Moves C w r o x y → OnTable r → (a k : ℕ) → Below x a k → Below y a (cut_seen o + k)
below_same (answers q e) f a k h = omega (arith, h)
below_same (answers_again q i e) f a k h = omega (arith, h)
below_same (asks_recovery q i e) f a k h = omega (arith, h)
below_same (refuses_malformed n i e) f a k h = omega (arith, h)
below_same {o = o} {x = x} (not_begun t q i e) f a k h = omega (arith, known x a k h, cut_one o e)
below_same {o = o} {x = x} (wholly_done t q i e) f a k h = omega (arith, known x a k h, cut_one o e)
below_same {r = r} (formats i e) f a k h = absurd (subst OnTable i f)
below_same {r = r} (format_cut i e) f a k h = absurd (subst OnTable i f)
below_same (no_promise q) f a k h = absurd h

-- one more, by a recovery after a cut
pub below_more : {C : Board} {w : Bool} {r : Request} {o : Seen} {x y : Promise} → Moves C w r o x y → r ≡ recover → IsInterrupted x → (a b k : ℕ) → b ≤ suc a → Below x a k → Below y b (cut_seen o + k)
unfolding malformed
below_more (answers q e) f i a b k l h = absurd i
below_more (answers_again q m e) f i a b k l h = omega (arith, h)
below_more (asks_recovery q m e) f i a b k l h = absurd (subst WantsRecovery f q)
below_more (refuses_malformed n m e) f i a b k l h = absurd (let z : malformed recover ≡ suc n = subst (λ y. malformed y ≡ suc n) f m in omega (arith, z))
below_more {o = o} {x = interrupted u} (not_begun t q m e) f i a b k l h = omega (arith, h, cut_one o e)
below_more {o = o} {x = interrupted u} (wholly_done t q m e) f i a b k l h = omega (arith, h, cut_one o e)
below_more {o = o} {x = settled u} (not_begun t q m e) f i a b k l h = absurd i
below_more {o = o} {x = settled u} (wholly_done t q m e) f i a b k l h = absurd i
below_more {o = o} {x = unknown} (not_begun t q m e) f i a b k l h = absurd i
below_more {o = o} {x = unknown} (wholly_done t q m e) f i a b k l h = absurd i
below_more (formats m e) f i a b k l h = absurd (subst OnTable m (subst OnTable (sym f) tt))
below_more (format_cut m e) f i a b k l h = absurd (subst OnTable m (subst OnTable (sym f) tt))
below_more (no_promise q) f i a b k l h = absurd h

-- ---- one event

left_before : (N B : ℕ) (s m : Image) → (no_bit_left (top_version N (segments_of N B s)) ≡ true → no_bit_left (top_version N (segments_of N B m)) ≡ true) → BitLeft N B m → BitLeft N B s
left_before N B s m used b = go (no_bit_left (top_version N (segments_of N B s))) refl
  where
    go : (t : Bool) → no_bit_left (top_version N (segments_of N B s)) ≡ t → no_bit_left (top_version N (segments_of N B s)) ≡ false
    go true e = absurd (true≢false (sym (used e) ∙ b))
    go false e = e

pub count_least : (f : ℕ → Bool) (es : List ℕ) → count f es ≤ length es
unfolding count
count_least f [] = omega arith
count_least f (x ∷ es) = go (f x) (count_least f es)
  where
    go : (t : Bool) → count f es ≤ length es → cond t (suc (count f es)) (count f es) ≤ suc (length es)
    go true h = omega arith
    go false h = omega arith

step_tallies : (N B : ℕ) (s m : Image) (r : Request) (o : Seen) (es : List ℕ) (x y : Promise) (R K : ℕ) (E : ℕ → ℕ) {C : Board} {w : Bool} → OnTable r → Moves C w r o x y → Tallies N B s x R K E
    → Shown N B s m r es x → Tallies N B m y (by_recovery r es + R) (cut_seen o + K) (λ i. count (λ k. eqb i k) es + E i)
step_tallies N B s m r o es x y R K E on moves t (carries_on a none) = record {
  second = a.second t.second;
  counted = λ b. (let c = t.counted (left_before N B s m a.used b) in
      (omega (arith, none, a.tally, c.0), subst (λ (q : ℕ). Below y q (cut_seen o + K)) (sym a.tally) (below_same moves on (tally_in N B s) K c.1)));
  erases = λ i. omega (arith, none, t.erases i, a.erases i);
}
step_tallies N B s m r o es x y R K E on moves t (recovers a is cut by) = record {
  second = a.second t.second;
  counted = λ b. (let c = t.counted (left_before N B s m a.used b) in let d = a.counts b in
      (omega (arith, by, c.0, d.0), below_more moves is cut (tally_in N B s) (tally_in N B m) K d.1 c.1));
  erases = λ i. let n = a.next in rw n (omega (arith, by, t.erases i, count_least (λ k. eqb i k) es));
}

-- the counts in other words
same_counts : (N B : ℕ) (s : Image) (x : Promise) (R K Q L : ℕ) (E F : ℕ → ℕ) → R ≡ Q → K ≡ L → ((i : ℕ) → F i ≡ E i) → Tallies N B s x R K E → Tallies N B s x Q L F
same_counts N B s x R K Q L E F r k f t = record {
  second = t.second;
  counted = λ b. (let c = t.counted b in (omega (arith, c.0, r), subst (λ (q : ℕ). Below x (tally_in N B s) q) k c.1));
  erases = λ i. omega (arith, t.erases i, f i, r);
}

-- ---- the history

module _ (N B : ℕ) where
  event_shown : (s m : Image) (r : Request) (o : Seen) (es : List ℕ) (f : ℕ) (x : Promise) (R K : ℕ) (E : ℕ → ℕ) → OnTable r → Proper r → Invariant N B false s x → Known x
      → Tallies N B s x R K E → DoesBegun N B r o s m es f → Shown N B s m r es x
  event_shown s m r o es f x R K E on p inv kn tl d =
      let a = facts N B s x inv kn in shown_by N B s m r es f x a.size a.bytes a.sound tl.second a.pending (works N B s a.size r on p a.sound) (begun_of N B r o s m es f d)

  history : (es : List Turn) (s u : Image) (x : Promise) (R K : ℕ) (E : ℕ → ℕ) → Unformatted es → Invariant N B false s x → Known x → Tallies N B s x R K E → Turns N B s es u
      → (y : Promise) × Tallies N B u y (recovery_erases es + R) (cuts_in es + K) (λ i. begun_on i es + E i)
  unfolding recovery_erases cuts_in begun_on
  history [] s u x R K E none inv kn t e = (x, same_counts N B u x R K (0 + R) (0 + K) E (λ i. 0 + E i) (omega arith) (omega arith) (λ i. omega arith) (subst (λ (q : Image). Tallies N B q x R K E) (sym e) t))
  history (v ∷ es) s u x R K E none inv kn t (p, (m, d, kept, rest)) =
      let a = one_event N B false (request_laws N B) s m x v.request (may N B (request_laws N B) v.request none.0) p inv v.seen (begun_does N B v.request v.seen s m v.begun v.marks d) in
      let sh = event_shown s m v.request v.seen v.begun v.marks x R K E none.0 p inv kn t d in
      let t2 = step_tallies N B s m v.request v.seen v.begun x a.0 R K E none.0 a.1 t sh in
      let b = history es m u a.0 (by_recovery v.request v.begun + R) (cut_seen v.seen + K) (λ i. count (λ k. eqb i k) v.begun + E i) none.1 a.2 (move_known a.1 none.0 kn) t2 rest in
      (b.0, same_counts N B u b.0 _ _ _ _ _ _ (omega arith) (omega arith) (λ i. omega arith) b.1)

-- ---- from a finished format

module _ (N B : ℕ) (s : Image) (z : right_size N B s ≡ true) where
  abbrev formatted : Image
  formatted = run B (format_steps N B) s

  held : Held N B formatted (fresh B)
  held = format_held N B s z

  fresh_version : top_version N (segments_of N B formatted) ≡ new_version 0
  unfolding view view_of fresh
  fresh_version = ap (λ (y : View). y.version) held.view

  fresh_tally : tally_of (new_version 0) ≡ 0
  unfolding new_version tally_of cleared_bits cleared_in bit_values count erased
  fresh_tally = refl

  start : Tallies N B formatted (settled []) 0 0 (λ i. 0)
  unfolding new_version is_former
  start = record {
    second = ap is_former fresh_version;
    counted = λ b. (omega arith, omega (arith, ap tally_of fresh_version ∙ fresh_tally));
    erases = λ i. omega arith;
  }

  begins : Invariant N B false formatted (settled [])
  begins = (run_size N B (format_steps N B) s ∙ z, formatted_stores N B (request_laws N B) s z)

pub tally_tells : TallyTells
tally_tells N B s u es z runs none left =
    let (y, t) = history N B es (run B (format_steps N B) s) u (settled []) 0 0 (λ i. 0) none (begins N B s z) tt (start N B s z) runs in
    let c = t.counted left in
    let some : 0 < N = omega (arith, (size_facts N B s z).two) in (
      omega (arith, c.0),
      omega (arith, known y (tally_in N B u) (cuts_in es + 0) c.1),
      λ i h. omega (arith, t.erases i, turns_bound N i some h (next_number (segments_of N B u)), c.0),
    )
