-- Request #112, by induction over the turns of a history, along with demand 2's machine.
use Rattle.std.specs.Prelude.{ℕ, ◌+◌, ◌-◌, ◌≤◌, ◌≡◌, refl, Bool, true, length, eqb}
use Rattle.std.proofs.Common.{sym, ◌∙◌, eqb-true}
use Rattle.std.proofs.Math.Path.{subst}
use Rattle.std.proofs.Math.Bool.{false}
use mathlib.Core.List.{List, [], ◌∷◌}
use native.Mathlib.Omega.{arith}
use Rattle.model.specs.Lists.{count}
use Rattle.model.specs.Chip.{Image, right_size, run}
use Rattle.model.specs.State.{segments_of, view_of, clean}
use Rattle.model.specs.Steps.{format_steps}
use Rattle.model.specs.Table.{blocks}
use Rattle.model.specs.Answers.{Request, format, put, delete, read, read_or, recover, steps_for, work_of}
use Rattle.model.specs.Histories.{Proper, shown}
use Rattle.model.specs.Sequences.{erases_in, Ledger, start, erase_count, erases_of}
use Rattle.model.specs.Begun.{DoesBegun, Turn, Turns, cut_seen, cuts_in, by_recovery}
use Rattle.model.proofs.Laws.Chip.{size_facts, run_size}
use Rattle.model.proofs.Laws.Begun.{begun_does, begun_few}
use Rattle.bridge.specs.Predicted.{fresh}
use Rattle.bridge.specs.Accepted.{accepted, refused_none}
use Rattle.bridge.specs.Format.{format_done}
use Rattle.crash.specs.Machine.{Board, Promise, settled, interrupted, unknown, OnTable, Moves}
use Rattle.crash.proofs.Requests.{read_idle, read_or_idle}
use Rattle.crash.proofs.ReadingRuns.{Known, move_known}
use Rattle.crash.specs.Invariant.{Invariant}
use Rattle.crash.proofs.Skeleton.{one_event}
use Rattle.crash.proofs.Works.{works, may}
use Rattle.crash.proofs.States.{recovered_view, rows_table, clean_with}
use Rattle.crash.proofs.Starts.{formatted_stores}
use Rattle.crash.proofs.Theorem.{request_laws}
use Rattle.wear.specs.Erases.{delete_none, turns, erases_at, balanced}
use Rattle.wear.specs.Room.{paid_bound}
use Rattle.wear.proofs.Requests.{tracks_start, put_few}
use Rattle.wear.proofs.Sequence.{format_answered}
use Rattle.tallied.specs.Law.{Unformatted}
use Rattle.tallied.proofs.Theorem.{IsInterrupted, Facts, facts, Below, known, count_least, begun_of}
use Rattle.wear_counts.specs.Counts.{marks_of, noted_as, ledger_of}
use Rattle.wear_counts.specs.Law.{WithinRequest, OneErase, FewEach, FromFormat, WearWithCuts, CountsTell}
use Rattle.wear_cuts.specs.Passes.{erases_if, due, due_clean, Passes}
use Rattle.wear_cuts.specs.Recovers.{recover_few}
use Rattle.wear_cuts.specs.Counted.{Erased, erased_on, erased_recovered, Funded, shown_distinct}
use Rattle.wear_cuts.specs.Events.{Did, carries_on, recovers, did, noted_erased, event_funded}

record Counts (N B : ℕ) (s : Image) (x : Promise) (t : Ledger) (K F : ℕ) : Type 0 where
  erased : Erased N B s x t K F
  funded : Funded N B s t K

-- ---- one event

module _ (N B : ℕ) where
  event : (s m : Image) (e : Turn) (x y : Promise) (t : Ledger) (K F : ℕ) {C : Board} {w : Bool} → OnTable e.request → Proper e.request → Facts N B s x → Facts N B m y
      → Moves C w e.request e.seen x y → DoesBegun N B e.request e.seen s m e.begun e.marks → e.kept ≡ blocks (shown N B m)
      → Counts N B s x t K F → Counts N B m y (noted_as e e.seen t) (cut_seen e.seen + K) (e.marks + F)
  event s m e x y t K F on pr a b moves d kept c =
      let what = did N B s m e.request x e.begun e.marks a.size a.bytes a.sound a.pending (works N B s a.size e.request on pr a.sound)
      (begun_of N B e.request e.seen s m e.begun e.marks d) in
      record {
        erased = go what;
        funded = event_funded N B s m e x t K a.size a.bytes a.sound c.funded (shown_distinct N B s a.size a.sound) (shown_distinct N B m b.size b.sound) kept on pr what e.seen d;
      }
    where
      go : Did N B s m e.request x e.begun e.marks → Erased N B m y (noted_as e e.seen t) (cut_seen e.seen + K) (e.marks + F)
      go (carries_on k few p) = erased_on N B s m e.request e.seen e.begun e.marks x y t (noted_as e e.seen t) K F (noted_erased e e.seen t) on moves c.erased p
      go (recovers is cut none p) = erased_recovered N B s m e.request e.seen e.begun e.marks x y t (noted_as e e.seen t) K F (noted_erased e e.seen t) moves is cut none c.erased p

  -- ---- the history

  counts_as : (s : Image) (x : Promise) (t : Ledger) (K F J G : ℕ) → K ≡ J → F ≡ G → Counts N B s x t K F → Counts N B s x t J G
  counts_as s x t K F J G k f c = subst (λ (q : ℕ). Counts N B s x t J q) f (subst (λ (q : ℕ). Counts N B s x t q F) k c)

  history : (es : List Turn) (s u : Image) (x : Promise) (t : Ledger) (K F : ℕ) → Unformatted es → Invariant N B false s x → Known x → Counts N B s x t K F → Turns N B s es u
      → (y : Promise) × Invariant N B false u y × Counts N B u y (ledger_of es t) (cuts_in es + K) (marks_of es + F)
  unfolding ledger_of cuts_in marks_of
  history [] s u x t K F none inv kn c e = (x, subst (λ (q : Image). Invariant N B false q x) (sym e) inv, counts_as u x t K F (0 + K) (0 + F) (omega arith) (omega arith) (subst (λ (q : Image). Counts N B q x t K F) (sym e) c))
  history (v ∷ es) s u x t K F none inv kn c (p, (m, d, kept, rest)) =
      let r = v.request in
      let o = v.seen in
      let (y, moves, after) = one_event N B false (request_laws N B) s m x r (may N B (request_laws N B) r none.0) p inv o (begun_does N B r o s m v.begun v.marks d) in
      let ky = move_known moves none.0 kn in
      let c2 = event s m v x y t K F none.0 p (facts N B s x inv kn) (facts N B m y after ky) moves d kept c in
      let (z, end, last) = history es m u y (noted_as v o t) (cut_seen o + K) (v.marks + F) none.1 after ky c2 rest in
      (z, end, counts_as u z (ledger_of es (noted_as v o t)) (cuts_in es + (cut_seen o + K)) (marks_of es + (v.marks + F)) (cut_seen o + cuts_in es + K) (v.marks + marks_of es + F) (omega arith) (omega arith) last)

  -- ---- from a finished format

  module _ (s : Image) (z : right_size N B s ≡ true) where
    abbrev formatted : Image
    formatted = run B (format_steps N B) s

    fresh_rows : ((recovered_view N B formatted).first ≡ (fresh B).first) × ((recovered_view N B formatted).slots ≡ (fresh B).slots)
    fresh_rows = let d = format_done N B s z in (clean_with N B formatted (fresh B) d.0 d.1).1

    begins : Counts N B formatted (settled []) start 0 0
    unfolding start erase_count erases_of turns count fresh
    begins =
        let t = tracks_start N B (size_facts N B s z).two in record {
          erased = record { first = fresh_rows.0; total = omega arith; each = λ i. omega arith; owed = λ i. omega arith };
          funded = record { stored = rw (rows_table N B formatted (fresh B) fresh_rows) t.stored; most = t.most; paid = rw (fresh_rows.0, fresh_rows.1) t.paid };
        }

-- an erase is due only after a cut, which no erase has used up yet
covered : (N B : ℕ) (u : Image) (y : Promise) (i a k : ℕ) → Invariant N B false u y → Below y a k → a + erases_if i (due N B u) ≤ k
unfolding count
covered N B u (settled t) i a k (z, h) b = rw (due_clean N B u h.clean) (omega (arith, b))
covered N B u (interrupted t) i a k (z, h) b = omega (arith, b, count_least (λ x. eqb i x) (due N B u), recover_few N B u)
covered N B u unknown i a k h b = absurd b

-- ---- the erases of each request

few_each : (N B : ℕ) → 2 ≤ N → (es : List Turn) (s u : Image) → Unformatted es → Turns N B s es u → OneErase es × FewEach N es
few_each N B two [] s u none e = (tt, tt)
few_each N B two (v ∷ es) s u none (p, (m, d, kept, rest)) =
    let few = begun_few B (work_of N B s v.request).steps s m v.begun v.marks (begun_of N B v.request v.seen s m v.begun v.marks d) in
    let later = few_each N B two es m u none.1 rest in
    ((one v.request few, later.0), (omega (arith, few, most v.request none.0), later.1))
  where
    one : (r : Request) → length v.begun ≤ length (erases_in (work_of N B s r).steps) → by_recovery r v.begun ≤ 1
    one format h = unfold by_recovery in omega arith
    one (put b c) h = unfold by_recovery in omega arith
    one (delete b) h = unfold by_recovery in omega arith
    one (read b) h = unfold by_recovery in omega arith
    one (read_or b f) h = unfold by_recovery in omega arith
    one recover h = unfold by_recovery in omega (arith, h, recover_few N B s)

    -- a request that is refused has none
    done : (r : Request) → length (erases_in (steps_for N B (segments_of N B s) r)) ≤ N - 1 → length (erases_in (work_of N B s r).steps) ≤ N - 1
    done r h = go (eqb (work_of N B s r).code 0) refl
      where
        go : (t : Bool) → eqb (work_of N B s r).code 0 ≡ t → length (erases_in (work_of N B s r).steps) ≤ N - 1
        go true e = rw (accepted N B s r (eqb-true (work_of N B s r).code 0 e)).0 h
        go false e = rw (refused_none N B s r e) (unfold erases_in in omega arith)

    most : (r : Request) → OnTable r → length (erases_in (work_of N B s r).steps) ≤ N - 1
    most format o = absurd o
    most (put b c) o = done (put b c) (unfold steps_for in put_few N B (view_of N (segments_of N B s)) b c)
    most (delete b) o = done (delete b) (unfold steps_for in rw (delete_none N B b (view_of N (segments_of N B s))) (omega arith))
    most (read b) o = rw (read_idle N B s b) (unfold erases_in in omega arith)
    most (read_or b f) o = rw (read_or_idle N B s b f) (unfold erases_in in omega arith)
    most recover o = omega (arith, recover_few N B s, two)

-- ---- a history from a finished format

module _ (N B : ℕ) (es : List Turn) (u : Image) (h : FromFormat N B es u) where
  abbrev made : Image
  made = run B (format_steps N B) h.before

  from : (right_size N B h.before ≡ true) × Turns N B made es u
  from = let (z, image) = format_answered N B h.before h.allowance h.finished in (z, subst (λ (q : Image). Turns N B q es u) image h.runs)

  counted : (y : Promise) × Invariant N B false u y × Counts N B u y (ledger_of es start) (cuts_in es + 0) (marks_of es + 0)
  counted = let z = from.0 in
      history N B es made u (settled []) start 0 0 h.unformatted (run_size N B (format_steps N B) h.before ∙ z, formatted_stores N B (request_laws N B) h.before z) tt (begins N B h.before z) from.1

  first_number_lem : (recovered_view N B u).first ≡ marks_of es
  first_number_lem = omega (arith, counted.2.erased.first)

-- ---- inside a request

-- a recovery has something to do only after a cut, which no erase has used up yet
strictly : (y : Promise) (a k : ℕ) → IsInterrupted y → Below y a k → a + 1 ≤ k
strictly (settled t) a k i b = absurd i
strictly (interrupted t) a k i b = omega (arith, b)
strictly unknown a k i b = absurd b

within_request : (N B : ℕ) (es : List Turn) (u : Image) → FromFormat N B es u → WithinRequest N B es u
within_request N B es u h r w ds f on pr c cl i j hi hj =
    let (y, inv, k) = counted N B es u h in
    let a = facts N B u y inv (known_of y (erase_count t) (marks_of es + 0 + (cuts_in es + 0)) k.erased.total) in
    go y k (did N B u w r y ds f a.size a.bytes a.sound a.pending (works N B u a.size r on pr a.sound) c)
  where
    known_of : (y : Promise) (a k : ℕ) → Below y a k → Known y
    known_of (settled t) a k b = tt
    known_of (interrupted t) a k b = tt
    known_of unknown a k b = absurd b

    t : Ledger
    t = ledger_of es start

    both : (y : Promise) (e : ℕ) {k : ℕ} → (q : Counts N B u y (ledger_of es start) (cuts_in es + 0) (marks_of es + 0)) → Passes N B k e u w ds f → erases_of i (ledger_of es start) + e ≤ erases_at N (marks_of es + 0) i + (cuts_in es + 0)
        → erases_of i (ledger_of es start) + erases_if i ds ≤ erases_of j (ledger_of es start) + erases_if j ds + (1 + cuts_in es)
    both y e q p b =
        let each = rw q.erased.first at (p.each i) in
        let owed = rw q.erased.first at (p.owed j) in
        let none : erases_if j (due N B w) ≡ 0 = rw (due_clean N B w cl) (unfold count in refl) in
        omega (arith, each, owed, none, b, q.erased.owed j, balanced N (recovered_view N B w).first i j hi hj)

    go : (y : Promise) → Counts N B u y (ledger_of es start) (cuts_in es + 0) (marks_of es + 0) → Did N B u w r y ds f → erases_of i (ledger_of es start) + erases_if i ds ≤ erases_of j (ledger_of es start) + erases_if j ds + (1 + cuts_in es)
    go y q (carries_on k few p) = both y 0 q p (omega (arith, known y (erases_of i t) (erases_at N (marks_of es + 0) i + (cuts_in es + 0)) (q.erased.each i)))
    go y q (recovers is cut none p) = both y 1 q p (strictly y (erases_of i t) (erases_at N (marks_of es + 0) i + (cuts_in es + 0)) cut (q.erased.each i))

-- ---- the theorem

pub wear_with_cuts : WearWithCuts
wear_with_cuts N B es u h =
    let (y, end, c) = counted N B es u h in
    let t = ledger_of es start in
    let F = marks_of es + 0 in
    let K = cuts_in es + 0 in
    let a = c.erased in
    let k : t.replaced + K ≡ t.replaced + cuts_in es = omega arith in
    let bound = paid_bound c.funded.paid in
    let (z, runs) = from N B es u h in
    let each = few_each N B (size_facts N B h.before z).two es (made N B es u h) u h.unformatted runs in (
      rw (first_number_lem N B es u h, k) at bound,
      omega (arith, known y (erase_count t) (F + K) a.total),
      λ i j hi hj. omega (arith, covered N B u y j (erases_of i t) (erases_at N F i + K) end (a.each i), balanced N F i j hi hj, a.owed j),
      within_request N B es u h,
      each.0,
      each.1,
    )

pub counts_tell : CountsTell
counts_tell N B es u h = (first_number_lem N B es u h, (counted N B es u h).2.funded.stored.same)
