-- What the definitions say of one request: refused it takes no step; it ends, or stops at its allowance; its code and bytes on a clean image and on an unfinished one.
use Rattle.std.specs.Prelude.{ℕ, suc, ◌≤◌, ◌<◌, ◌≡◌, refl, ◌⊎◌, ◌≢◌, Bool, true, false, cond, ◌||◌, ◌&&◌, not, List, [], ◌∷◌, length, ltb, leb, eqb}
use Rattle.std.proofs.Common.{sym, ap, ap₂, ◌∙◌, subst, inl, inr, ⊎_elim, arith, ltb-true, ltb-false, le-leb, ne_eqb, eqb-true}
use Rattle.std.proofs.lemmas.Bool.{lt-leb}
use Rattle.model.specs.Chip.{Image, right_size, run}
use Rattle.model.specs.Header.{is_former}
use Rattle.model.specs.Slot.{number_ok}
use Rattle.model.specs.State.{Exception, segments_of, view_of, entries_in, holds, distinct, capacity, place_of, unfinished, state, view}
use Rattle.model.specs.Steps.{is_worn, format_steps}
use Rattle.model.specs.Table.{Table, lookup, Agree, contents_found, table_of}
use Rattle.model.specs.Answers.{Request, format, put, delete, read, read_or, recover, ◌when◌, first_of, is_damaged, is_unfinished, length_ok, is_full, absent_refusals, refusals, steps_for, Work, work_on, work_of, outcome_of, ReadOutcome, contents_at, read_outcome, piece_read, piece_or}
use Rattle.model.specs.Histories.{Reply, bytes_read, reply_of, wears, recovered, shown}
use Rattle.model.proofs.Laws.Tables.{agree_of, agree_holds, agree_without, agree_store, distinct_without, distinct_store}
use Rattle.bridge.specs.Accepted.{code_of_lem, refused_none, quiet_none, recover_none}
use Rattle.bridge.specs.Allowance.{ends_or_stops}
use Rattle.crash.specs.Machine.{Board, malformed, code_on_table, plain_code, made, OnTable, WantsRecovery}
use Rattle.crash.specs.Demand2.{board}
use Rattle.crash.specs.Sound.{SoundAs, Sound, Clean, finished, CutOf, former_in, former_shown}

-- ---- a request without steps

pub refused_idle : (N B : ℕ) (s : Image) (r : Request) (n : ℕ) → (work_of N B s r).code ≡ suc n → (work_of N B s r).steps ≡ []
refused_idle N B s r n e = refused_none N B s r (ap (λ (y : ℕ). eqb y 0) e ∙ ne_eqb (suc n) 0 (λ z. omega arith))

pub idle_finished : (N B : ℕ) (s : Image) (r : Request) → (work_of N B s r).steps ≡ [] → finished N B s r ≡ s
unfolding run
idle_finished N B s r e = ap (λ y. run B y s) e

pub idle_cut : (N B : ℕ) (s u : Image) (r : Request) → (work_of N B s r).steps ≡ [] → CutOf N B s r u → u ≡ s
idle_cut N B s u r e c = rw e at c

pub read_idle : (N B : ℕ) (s : Image) (b : ℕ) → (work_of N B s (read b)).steps ≡ []
unfolding steps_for
read_idle N B s b = quiet_none N B s (read b) refl

-- both forms of reading have the same work
pub read_or_work : (N B : ℕ) (s : Image) (b : ℕ) (f : List ℕ) → work_of N B s (read_or b f) ≡ work_of N B s (read b)
unfolding work_of work_on refusals steps_for
read_or_work N B s b f = refl

pub read_or_idle : (N B : ℕ) (s : Image) (b : ℕ) (f : List ℕ) → (work_of N B s (read_or b f)).steps ≡ []
unfolding steps_for
read_or_idle N B s b f = quiet_none N B s (read_or b f) refl

-- ---- a clean image

pub recovered_clean : (N B : ℕ) (s : Image) → Clean N B s → recovered N B s ≡ s
unfolding recovered
recovered_clean N B s h = idle_finished N B s recover (recover_none N B s h)

pub shown_clean : (N B : ℕ) (s : Image) → Clean N B s → shown N B s ≡ table_of N B s
unfolding shown
shown_clean N B s h = ap (λ y. table_of N B y) (recovered_clean N B s h)

pub former_clean : (N B : ℕ) (s : Image) → Clean N B s → former_shown N B s ≡ former_in N B s
former_clean N B s h = ap (λ y. former_in N B y) (recovered_clean N B s h)

pub sound_clean : (N B : ℕ) (s : Image) → Clean N B s → Sound N B s
sound_clean N B s h = subst (λ y. SoundAs N B s (segments_of N B s) y) (sym h) tt

-- ---- what a read hands back

pub read_code : (N B : ℕ) (s : Image) (b : ℕ) → (read_outcome N B s b).code ≡ (work_of N B s (read b)).code
unfolding read_outcome
read_code N B s b = go (work_of N B s (read b)).code (contents_at N B (place_of b (view N B s))) (length (contents_found (lookup b (entries_in (view N B s)))))
  where
    by_test : (n at k : ℕ) (t : Bool) → eqb n 0 ≡ t → (cond {A = ReadOutcome} t (record { code = 0; offset = at; length = k }) (record { code = n; offset = 0; length = 0 })).code ≡ n
    by_test n at k true e = sym (eqb-true n 0 e)
    by_test n at k false e = refl

    go : (n at k : ℕ) → (cond {A = ReadOutcome} (eqb n 0) (record { code = 0; offset = at; length = k }) (record { code = n; offset = 0; length = 0 })).code ≡ n
    go n at k = by_test n at k (eqb n 0) refl

-- a refused read hands back an empty piece
pub read_refused : (N B : ℕ) (s : Image) (b n : ℕ) → (work_of N B s (read b)).code ≡ suc n → piece_read N B s b ≡ []
unfolding piece_read read_outcome
read_refused N B s b n e = rw (e, ne_eqb (suc n) 0 (λ z. omega arith))

-- the second form: the factory record for answer 6, else as the first
pub read_or_bytes : (N B : ℕ) (s : Image) (b : ℕ) (f : List ℕ) → piece_or N B s b f ≡ cond (eqb (work_of N B s (read b)).code 6) f (piece_read N B s b)
unfolding piece_or
read_or_bytes N B s b f = rw (read_code N B s b)

pub bytes_refused : (N B : ℕ) (s : Image) (r : Request) (n : ℕ) → (work_of N B s r).code ≡ suc n → suc n ≢ 6 → bytes_read N B s r ≡ []
unfolding bytes_read
bytes_refused N B s format n e k = refl
bytes_refused N B s (put b c) n e k = refl
bytes_refused N B s (delete b) n e k = refl
bytes_refused N B s (read b) n e k = read_refused N B s b n e
bytes_refused N B s (read_or b f) n e k =
    let w : (work_of N B s (read b)).code ≡ suc n = ap (λ (y : Work). y.code) (sym (read_or_work N B s b f)) ∙ e in
    read_or_bytes N B s b f ∙ rw (w, ne_eqb (suc n) 6 k) (read_refused N B s b n w)
bytes_refused N B s recover n e k = refl

-- ---- an answer: the request ran to its end (or was refused), or stopped at its allowance

-- the reply of a request that ran to its end
unfoldable pub ended : ℕ → ℕ → Image → Request → Reply
ended N B s r = record { code = (work_of N B s r).code; bytes = bytes_read N B s r }

pub record Ended (N B : ℕ) (s : Image) (allowance : ℕ) (r : Request) : Type 0 where
  pub reply : reply_of N B s allowance r ≡ ended N B s r
  pub image : (outcome_of N B s allowance r).image ≡ finished N B s r

pub record Stopped (N B : ℕ) (s : Image) (allowance : ℕ) (r : Request) : Type 0 where
  pub reply : reply_of N B s allowance r ≡ record { code = 9; bytes = [] }
  pub image : CutOf N B s r (outcome_of N B s allowance r).image

-- only what has steps can stop, and that hands back no bytes
bytes_stopped : (N B : ℕ) (s : Image) (r : Request) (k : ℕ) → k < length (work_of N B s r).steps → bytes_read N B s r ≡ []
unfolding bytes_read
bytes_stopped N B s format k h = refl
bytes_stopped N B s (put b c) k h = refl
bytes_stopped N B s (delete b) k h = refl
bytes_stopped N B s (read b) k h = absurd (let e : length (work_of N B s (read b)).steps ≡ 0 = ap length (read_idle N B s b) in omega arith)
bytes_stopped N B s (read_or b f) k h = absurd (let e : length (work_of N B s (read_or b f)).steps ≡ 0 = ap length (read_or_idle N B s b f) in omega arith)
bytes_stopped N B s recover k h = refl

pub ended_or_stopped : (N B : ℕ) (s : Image) (allowance : ℕ) (r : Request) → Ended N B s allowance r ⊎ Stopped N B s allowance r
unfolding reply_of ended
ended_or_stopped N B s allowance r = ⊎_elim
    (λ e. inl (record { reply = rw e.code; image = e.image }))
    (λ e. inr (record { reply = rw (e.code, bytes_stopped N B s r allowance e.short); image = e.image }))
    (ends_or_stops N B s allowance r)

-- ---- codes on a clean image: 2, 3, 6, 7, 8, 11 and 0, exactly

not_ltb : (a b : ℕ) → leb a b ≡ not (ltb b a)
not_ltb a b = go (ltb b a) refl
  where
    go : (t : Bool) → ltb b a ≡ t → leb a b ≡ not t
    go true e = lt-leb a b (ltb-true b a e)
    go false e = le-leb a b (ltb-false b a e)

-- the rows of a put and of a delete or a read, with sized, damaged and unfinished decided
put_codes : (number taken former stored room worn : Bool)
    → first_of ((1 when false) ∷ (2 when not number) ∷ (3 when not taken) ∷ (4 when false) ∷ (5 when false) ∷ (11 when former) ∷ (7 when not stored && not room) ∷ (8 when worn) ∷ [])
    ≡ cond (eqb (cond number (cond taken 0 3) 2) 0) (cond former 11 (cond (stored || room) (cond worn 8 0) 7)) (cond number (cond taken 0 3) 2)
unfolding first_of
put_codes false taken former stored room worn = refl
put_codes true false former stored room worn = refl
put_codes true true true stored room worn = refl
put_codes true true false true room worn = refl
put_codes true true false false true worn = refl
put_codes true true false false false worn = refl

absent_codes : (number stored : Bool)
    → first_of ((1 when false) ∷ (2 when not number) ∷ (4 when false) ∷ (5 when false) ∷ (6 when not stored) ∷ []) ≡ cond (eqb (cond number 0 2) 0) (cond stored 0 6) (cond number 0 2)
unfolding first_of
absent_codes false stored = refl
absent_codes true true = refl
absent_codes true false = refl

module _ (N B : ℕ) (s : Image) (z : right_size N B s ≡ true) (h : Clean N B s) where
  absent_clean : (b : ℕ) → first_of (absent_refusals N B (right_size N B s) (segments_of N B s) b) ≡ cond (eqb (cond (number_ok b) 0 2) 0) (cond (holds b (table_of N B s)) 0 6) (cond (number_ok b) 0 2)
  unfolding absent_refusals is_damaged is_unfinished state table_of view
  absent_clean b = rw (z, h) (absent_codes (number_ok b) (holds b (entries_in (view N B s))))

  pub code_clean : (r : Request) → OnTable r → (work_of N B s r).code ≡ plain_code (board N B (former_in N B s)) (wears N B s) (table_of N B s) r
  unfolding plain_code malformed code_on_table refusals is_damaged is_unfinished is_full state table_of view wears first_of
  code_clean format o = absurd o
  code_clean (put b c) o = code_of_lem N B s (put b c)
      ∙ rw (z, h, not_ltb (capacity N B) (length (entries_in (view N B s))))
      (put_codes (number_ok b) (length_ok (length c)) (is_former (view N B s).version) (holds b (entries_in (view N B s))) (ltb (length (entries_in (view N B s))) (capacity N B)) (is_worn N (view N B s)))
  code_clean (delete b) o = code_of_lem N B s (delete b) ∙ absent_clean b
  code_clean (read b) o = code_of_lem N B s (read b) ∙ absent_clean b
  code_clean (read_or b f) o = code_of_lem N B s (read_or b f) ∙ absent_clean b
  code_clean recover o = code_of_lem N B s recover ∙ rw (z, h)

-- ---- codes on an unfinished image: put, delete and read ask for a recovery

abbrev pub Unfinished : ℕ → ℕ → Image → Type 0
Unfinished N B s = (x : Exception) × (state N B s ≡ unfinished x)

put_unfinished : (number taken former full worn : Bool)
    → first_of ((1 when false) ∷ (2 when not number) ∷ (3 when not taken) ∷ (4 when false) ∷ (5 when true) ∷ (11 when former) ∷ (7 when full) ∷ (8 when worn) ∷ [])
    ≡ cond (eqb (cond number (cond taken 0 3) 2) 0) 5 (cond number (cond taken 0 3) 2)
unfolding first_of
put_unfinished false taken former full worn = refl
put_unfinished true false former full worn = refl
put_unfinished true true former full worn = refl

absent_unfinished : (number stored : Bool)
    → first_of ((1 when false) ∷ (2 when not number) ∷ (4 when false) ∷ (5 when true) ∷ (6 when not stored) ∷ []) ≡ cond (eqb (cond number 0 2) 0) 5 (cond number 0 2)
unfolding first_of
absent_unfinished false stored = refl
absent_unfinished true stored = refl

module _ (N B : ℕ) (s : Image) (z : right_size N B s ≡ true) (h : Unfinished N B s) where
  absent_wants : (b : ℕ) → first_of (absent_refusals N B (right_size N B s) (segments_of N B s) b) ≡ cond (eqb (cond (number_ok b) 0 2) 0) 5 (cond (number_ok b) 0 2)
  unfolding absent_refusals is_damaged is_unfinished state
  absent_wants b = rw (z, h.1) (absent_unfinished (number_ok b) (holds b (entries_in (view_of N (segments_of N B s)))))

  pub code_unfinished : (r : Request) → WantsRecovery r → (work_of N B s r).code ≡ cond (eqb (malformed r) 0) 5 (malformed r)
  unfolding malformed refusals is_damaged is_unfinished state
  code_unfinished format o = absurd o
  code_unfinished (put b c) o = code_of_lem N B s (put b c)
      ∙ rw (z, h.1)
      (put_unfinished (number_ok b) (length_ok (length c)) (is_former (view_of N (segments_of N B s)).version) (is_full N B b (view_of N (segments_of N B s))) (is_worn N (view_of N (segments_of N B s))))
  code_unfinished (delete b) o = code_of_lem N B s (delete b) ∙ absent_wants b
  code_unfinished (read b) o = code_of_lem N B s (read b) ∙ absent_wants b
  code_unfinished (read_or b f) o = code_of_lem N B s (read_or b f) ∙ absent_wants b
  code_unfinished recover o = absurd o

  pub code_recover : (work_of N B s recover).code ≡ 0
  unfolding refusals first_of is_damaged state
  code_recover = code_of_lem N B s recover ∙ rw (z, h.1)

pub code_format : (N B : ℕ) (s : Image) → right_size N B s ≡ true → (work_of N B s format).code ≡ 0
unfolding refusals first_of
code_format N B s z = code_of_lem N B s format ∙ rw z

pub steps_format : (N B : ℕ) (s : Image) → right_size N B s ≡ true → (work_of N B s format).steps ≡ format_steps N B
unfolding work_of work_on refusals first_of steps_for
steps_format N B s z = rw z

-- ---- the plain table's answers

number_small : (t : Bool) → cond t 0 2 ≤ 3
number_small true = omega arith
number_small false = omega arith

pub malformed_small : (r : Request) → malformed r ≤ 3
unfolding malformed
malformed_small format = omega arith
malformed_small (put b c) = go (number_ok b) (length_ok (length c))
  where
    go : (t u : Bool) → cond t (cond u 0 3) 2 ≤ 3
    go true true = omega arith
    go true false = omega arith
    go false u = omega arith
malformed_small (delete b) = number_small (number_ok b)
malformed_small (read b) = number_small (number_ok b)
malformed_small (read_or b f) = number_small (number_ok b)
malformed_small recover = omega arith

-- tables that agree answer alike
pub code_agree : (C : Board) (worn : Bool) (t u : Table) → Agree t u → length t ≡ length u → (r : Request) → plain_code C worn t r ≡ plain_code C worn u r
unfolding plain_code code_on_table
code_agree C worn t u g e r = ap (λ y. cond (eqb (malformed r) 0) y (malformed r)) (on_table r)
  where
    on_table : (a : Request) → code_on_table C worn t a ≡ code_on_table C worn u a
    on_table format = refl
    on_table (put b c) = ap₂ (λ x y. cond C.former 11 (cond (x || ltb y C.places) (cond worn 8 0) 7)) (agree_holds t u g b) e
    on_table (delete b) = ap (λ x. cond x 0 6) (agree_holds t u g b)
    on_table (read b) = ap (λ x. cond x 0 6) (agree_holds t u g b)
    on_table (read_or b f) = ap (λ x. cond x 0 6) (agree_holds t u g b)
    on_table recover = refl

pub agree_made : (t u : Table) (r : Request) → Agree t u → Agree (made t r) (made u r)
unfolding made
agree_made t u format g = agree_of [] [] refl
agree_made t u (put b c) g = agree_store b c t u g
agree_made t u (delete b) g = agree_without b t u g
agree_made t u (read b) g = g
agree_made t u (read_or b f) g = g
agree_made t u recover g = g

pub distinct_made : (t : Table) (r : Request) → distinct t ≡ true → distinct (made t r) ≡ true
unfolding made distinct
distinct_made t format q = refl
distinct_made t (put b c) q = distinct_store b c t q
distinct_made t (delete b) q = distinct_without b t q
distinct_made t (read b) q = q
distinct_made t (read_or b f) q = q
distinct_made t recover q = q
