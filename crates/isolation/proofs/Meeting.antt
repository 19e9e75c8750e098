-- A tenant's request as the store meets it: it does nothing there, or it is what the store's own request does, of an own block on a clean image. Refused, but not by the layer itself, it is what the store refuses.
use Prim.Native.Nat.{ℕ, zero, suc}
use Rattle.std.specs.Prelude.{◌≡◌, ◌⊎◌, ◌≢◌, Bool}
use Rattle.std.proofs.Math.Path.{refl, sym, ap, ap₂}
use Rattle.std.proofs.Common.{◌∙◌, ⊎_elim, arith}
use Rattle.std.proofs.Math.Logic.{inl, inr}
use Rattle.std.proofs.Math.Bool.{true, false}
use mathlib.Core.List.{List, []}
use Rattle.std.proofs.Math.ListN.{length}
use Rattle.std.proofs.Math.Dec.{eqb}
use borrow.Author.Tests.{eqb-true, eqb-false, ne_eqb}
use Rattle.model.specs.Chip.{Image, right_size, run}
use Rattle.model.specs.State.{segments_of, state}
use Rattle.model.specs.Table.{table_of}
use Rattle.model.specs.Answers.{Request, put, delete, read, first_of, is_damaged, is_unfinished, absent_refusals, refusals, work_of}
use Rattle.model.specs.Histories.{Reply, bytes_read, reply_of, Seen, answered, lost, Does}
use Rattle.bridge.specs.Accepted.{code_of_lem, size_passed}
use Rattle.bridge.specs.Allowance.{Ends, ends_or_stops}
use Rattle.bridge.specs.Refusals.{none_applies, neither}
use Rattle.crash.specs.Sound.{Clean}
use Rattle.crash.proofs.Requests.{refused_idle, idle_finished, read_refused}
use Rattle.crash.proofs.Theorem.{request_laws}
use Rattle.shares.specs.Layer.{Asked, puts, deletes, reads, store_request, share_code, share_work, contents_asked, share_outcome}
use Rattle.isolation.specs.Law.{Call, served, reply_to, Serves, Begun, ByLayer}
use Rattle.isolation.specs.Codes.{Taken, taken, of_layer, store_same}

-- ---- what the store accepts of put, delete and read, it accepts on a clean image

absent_clean : (N B : ℕ) (s : Image) (b : ℕ) → first_of (absent_refusals N B (right_size N B s) (segments_of N B s) b) ≡ 0 → Clean N B s
unfolding absent_refusals state
absent_clean N B s b h =
    let size = (none_applies 0 _ _ h).1 in
    let number = (none_applies 1 _ _ size).1 in
    let damage = none_applies 3 (is_damaged (state N B s)) _ number in
    neither (state N B s) damage.0 (none_applies 4 (is_unfinished (state N B s)) _ damage.1).0

pub accepted_clean : (N B : ℕ) (s : Image) (r : Asked) → (work_of N B s (store_request r)).code ≡ 0 → Clean N B s
unfolding store_request refusals state
accepted_clean N B s (puts b c) e =
    let h = sym (code_of_lem N B s (put b c)) ∙ e in
    let size = (none_applies 0 _ _ h).1 in
    let number = (none_applies 1 _ _ size).1 in
    let contents = (none_applies 2 _ _ number).1 in
    let damage = none_applies 3 (is_damaged (state N B s)) _ contents in
    neither (state N B s) damage.0 (none_applies 4 (is_unfinished (state N B s)) _ damage.1).0
accepted_clean N B s (deletes b) e = absent_clean N B s b (sym (code_of_lem N B s (delete b)) ∙ e)
accepted_clean N B s (reads b size) e = absent_clean N B s b (sym (code_of_lem N B s (read b)) ∙ e)

-- ---- refused, or the store's own

module _ (N B : ℕ) (ns : List ℕ) (s : Image) (a : ℕ) (r : Asked) where
  refused_steps : eqb (share_code N B ns s a r) 0 ≡ false → (share_work N B ns s a r).steps ≡ []
  unfolding share_work
  refused_steps h = rw h

  refused_image : eqb (share_code N B ns s a r) 0 ≡ false → (share_outcome N B ns s a r).image ≡ s
  unfolding share_outcome run
  refused_image h = ap (λ y. run B y s) (refused_steps h)

  refused_given : eqb (share_code N B ns s a r) 0 ≡ false → (share_outcome N B ns s a r).given ≡ []
  unfolding share_outcome share_work
  refused_given h = rw h

  pub outcome_code : (share_outcome N B ns s a r).code ≡ share_code N B ns s a r
  unfolding share_outcome share_work
  outcome_code = refl

  module _ (h : share_code N B ns s a r ≡ 0) where
    own_steps : (share_work N B ns s a r).steps ≡ (work_of N B s (store_request r)).steps
    unfolding share_work
    own_steps = rw h

    own_image : (share_outcome N B ns s a r).image ≡ run B (work_of N B s (store_request r)).steps s
    unfolding share_outcome
    own_image = ap (λ y. run B y s) own_steps

    own_given : (share_outcome N B ns s a r).given ≡ contents_asked (table_of N B s) r
    unfolding share_outcome share_work
    own_given = rw h

-- the contents that the layer gives are those that the store tells of
asked_bytes : (N B : ℕ) (s : Image) (r : Asked) → (work_of N B s (store_request r)).code ≡ 0 → contents_asked (table_of N B s) r ≡ bytes_read N B s (store_request r)
unfolding contents_asked bytes_read store_request
asked_bytes N B s (puts b c) e = refl
asked_bytes N B s (deletes b) e = refl
asked_bytes N B s (reads b size) e =
    sym ((request_laws N B).read_done s b (size_passed N B s (read b) (sym (code_of_lem N B s (read b)) ∙ e)) (accepted_clean N B s (reads b size) (unfold store_request in e)) e)

-- a refusal tells of none
refused_bytes : (N B : ℕ) (s : Image) (r : Asked) (n : ℕ) → (work_of N B s (store_request r)).code ≡ suc n → bytes_read N B s (store_request r) ≡ []
unfolding bytes_read store_request
refused_bytes N B s (puts b c) n e = refl
refused_bytes N B s (deletes b) n e = refl
refused_bytes N B s (reads b size) n e = read_refused N B s b n e

-- under an allowance of all its steps a request ends
ends_whole : (N B : ℕ) (s : Image) (r : Request) → Ends N B s (length (work_of N B s r).steps) r
ends_whole N B s r = ⊎_elim (λ e. e) (λ e. absurd (omega (arith, e.short))) (ends_or_stops N B s (length (work_of N B s r).steps) r)

-- no answer came back, or a refusal
abbrev pub Unacknowledged : Seen → Type 0
Unacknowledged (answered o) = o.code ≢ 0
Unacknowledged lost = Unit {0}

pub record Asks (N B : ℕ) (ns : List ℕ) (x : Call) (o : Seen) (s m : Image) : Type 0 where
  pub zero_code : share_code N B ns s x.tenant x.asked ≡ 0
  pub begun : Begun o
  pub taken_so : Taken N B ns s x.tenant x.asked
  pub tidy : Clean N B s
  pub does : Does N B (store_request x.asked) o s m

module _ (N B : ℕ) (ns : List ℕ) (x : Call) (s : Image) where
  abbrev code : ℕ
  code = share_code N B ns s x.tenant x.asked

  answered_so : (m : Image) (o : Reply) → Serves N B ns x (answered o) s m → code ≡ 0 → Does N B (store_request x.asked) (answered o) s m
  unfolding served reply_to reply_of
  answered_so m o (e, i) h =
      let r = x.asked in
      let t = taken N B ns s x.tenant r h in
      let w = ends_whole N B s (store_request r) in (
        length (work_of N B s (store_request r)).steps,
        e
            ∙ ap₂ (λ (n : ℕ) (y : List ℕ). record { code = n; bytes = y }) (outcome_code N B ns s x.tenant r ∙ (h ∙ (sym t.accepted ∙ sym w.code)))
            (own_given N B ns s x.tenant r h ∙ asked_bytes N B s r t.accepted),
        i ∙ (own_image N B ns s x.tenant r h ∙ sym w.image),
      )

  pub meets : (o : Seen) (m : Image) → Serves N B ns x o s m → (Unacknowledged o × (m ≡ s)) ⊎ Asks N B ns x o s m
  unfolding served reply_to
  meets o m h = go (eqb code 0) refl o h
    where
      asks : (q : Seen) → code ≡ 0 → Begun q → Does N B (store_request x.asked) q s m → Asks N B ns x q s m
      asks q e i d = let t = taken N B ns s x.tenant x.asked e in record { zero_code = e; begun = i; taken_so = t; tidy = accepted_clean N B s x.asked t.accepted; does = d }

      go : (t : Bool) → eqb code 0 ≡ t → (q : Seen) → Serves N B ns x q s m → (Unacknowledged q × (m ≡ s)) ⊎ Asks N B ns x q s m
      go true e (answered p) k = let z = eqb-true code 0 e in inr (asks (answered p) z (ap (λ (y : Reply). y.code) k.0 ∙ (outcome_code N B ns s x.tenant x.asked ∙ z)) (answered_so m p k z))
      go true e lost k = let z = eqb-true code 0 e in inr (asks lost z tt (rw (own_steps N B ns s x.tenant x.asked z) at k))
      go false e (answered p) (i, j) = inl (
        (λ n. eqb-false code 0 e (sym (outcome_code N B ns s x.tenant x.asked) ∙ (ap (λ (y : Reply). y.code) (sym i) ∙ n))),
        j ∙ refused_image N B ns s x.tenant x.asked e,
      )
      go false e lost k = inl (tt, rw (refused_steps N B ns s x.tenant x.asked e) at k)

  -- ---- the event at the store

  refused_so : (m : Image) (o : Reply) (k : ℕ) → Serves N B ns x (answered o) s m → m ≡ s → code ≡ suc k → of_layer (suc k) ≡ false → Does N B (store_request x.asked) (answered o) s m
  unfolding served reply_to reply_of
  refused_so m o k (e, i) j h n =
      let r = x.asked in
      let same = store_same N B ns s x.tenant r k h n in
      let w = ends_whole N B s (store_request r) in (
        length (work_of N B s (store_request r)).steps,
        e
            ∙ ap₂ (λ (n : ℕ) (y : List ℕ). record { code = n; bytes = y }) (outcome_code N B ns s x.tenant r ∙ (h ∙ (sym same ∙ sym w.code)))
            (refused_given N B ns s x.tenant r (ap (λ (y : ℕ). eqb y 0) h ∙ ne_eqb (suc k) 0 (λ z. omega (arith, z))) ∙ sym (refused_bytes N B s r k same)),
        j ∙ sym (w.image ∙ idle_finished N B s (store_request r) (refused_idle N B s (store_request r) k same)),
      )

  -- what the layer did not refuse by itself is what the store's own request does
  pub event : (o : Seen) (m : Image) → Serves N B ns x o s m → (ByLayer o × (m ≡ s)) ⊎ Does N B (store_request x.asked) o s m
  unfolding served reply_to
  event o m h = go o h (meets o m h)
    where
      by_code : (p : Reply) → Serves N B ns x (answered p) s m → m ≡ s → (k : ℕ) → code ≡ k → p.code ≡ k → p.code ≢ 0 → (t : Bool) → of_layer k ≡ t
          → (ByLayer (answered p) × (m ≡ s)) ⊎ Does N B (store_request x.asked) (answered p) s m
      by_code p d i zero c q n t e = absurd (n q)
      by_code p d i (suc k) c q n true e = inl (ap (λ (y : ℕ). of_layer y) q ∙ e, i)
      by_code p d i (suc k) c q n false e = inr (refused_so m p k d i c e)

      go : (q : Seen) → Serves N B ns x q s m → (Unacknowledged q × (m ≡ s)) ⊎ Asks N B ns x q s m → (ByLayer q × (m ≡ s)) ⊎ Does N B (store_request x.asked) q s m
      go q d (inr k) = inr k.does
      go lost d (inl (n, i)) = inl (tt, i)
      go (answered p) d (inl (n, i)) = by_code p d i code refl (ap (λ (y : Reply). y.code) d.0 ∙ outcome_code N B ns s x.tenant x.asked) n (of_layer code) refl
