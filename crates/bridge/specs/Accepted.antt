-- One request by its refusals: what an accepted one passed, and that a refused one takes no step.
use Rattle.std.specs.Prelude.{ℕ, suc, ◌≤◌, ◌<◌, ◌≡◌, Bool, cond, ◌||◌, ◌&&◌, not, List, [], ◌∷◌, length, ltb, leb}
use Rattle.std.proofs.Math.Path.{refl, sym, ap}
use Rattle.std.proofs.Common.{◌∙◌, arith, leb-true, leb-false, ltb-true, lt-ltb, eqb-true}
use Rattle.std.proofs.Math.Bool.{true, false}
use Rattle.std.proofs.Math.Dec.{eqb}
use Rattle.std.proofs.lemmas.Bool.{not-false}
use Rattle.model.specs.Chip.{Image, right_size}
use Rattle.model.specs.Header.{is_former}
use Rattle.model.specs.Slot.{most_contents, number_ok}
use Rattle.model.specs.State.{segments_of, View, view_of, view, entries_in, holds, capacity, state, clean}
use Rattle.model.specs.Steps.{recover_steps, is_worn}
use Rattle.model.specs.Answers.{Request, format, put, delete, read, read_or, recover, Refusal, first_of, length_ok, is_full, absent_refusals, refusals, steps_for, Work, work_on, work_of}
use Rattle.model.specs.Laws.Lists.{and_left, and_right}
use Rattle.bridge.specs.Predicted.{Fits}

-- ---- the code and the list

module _ (N B : ℕ) (s : Image) where
  -- the number of the first refusal that applies to a request
  abbrev pub refusal : Request → ℕ
  refusal r = first_of (refusals N B (right_size N B s) (segments_of N B s) r)

  abbrev work : Bool → Request → Work
  work t r = cond t (record { code = 0; steps = steps_for N B (segments_of N B s) r }) (record { code = refusal r; steps = [] })

  -- it is the code
  pub code_of_lem : (r : Request) → (work_of N B s r).code ≡ refusal r
  unfolding work_of work_on
  code_of_lem r = go (eqb (refusal r) 0) refl
    where
      go : (t : Bool) → eqb (refusal r) 0 ≡ t → (work t r).code ≡ refusal r
      go true e = sym (eqb-true (refusal r) 0 e)
      go false e = refl

  pub refused_none : (r : Request) → eqb (work_of N B s r).code 0 ≡ false → (work_of N B s r).steps ≡ []
  unfolding work_of work_on
  refused_none r h = let e : eqb (refusal r) 0 ≡ false = ap (λ (y : ℕ). eqb y 0) (sym (code_of_lem r)) ∙ h in rw e

  pub accepted : (r : Request) → (work_of N B s r).code ≡ 0 → ((work_of N B s r).steps ≡ steps_for N B (segments_of N B s) r) × (refusal r ≡ 0)
  unfolding work_of work_on
  accepted r h = let e : refusal r ≡ 0 = sym (code_of_lem r) ∙ h in (rw e, e)

  -- a request whose list is empty once it is accepted takes no step
  pub quiet_none : (r : Request) → steps_for N B (segments_of N B s) r ≡ [] → (work_of N B s r).steps ≡ []
  quiet_none r h = go (eqb (work_of N B s r).code 0) refl
    where
      go : (t : Bool) → eqb (work_of N B s r).code 0 ≡ t → (work_of N B s r).steps ≡ []
      go true e = (accepted r (eqb-true (work_of N B s r).code 0 e)).0 ∙ h
      go false e = refused_none r e

  -- recover takes no step on a clean image
  pub recover_none : state N B s ≡ clean → (work_of N B s recover).steps ≡ []
  unfolding state steps_for recover_steps
  recover_none h = quiet_none recover (rw h)

-- ---- what an accepted request passed

passed : (n : ℕ) (t : Bool) (r : List Refusal) → first_of (record { number = suc n; applies = t } ∷ r) ≡ 0 → (t ≡ false) × (first_of r ≡ 0)
unfolding first_of
passed n true r h = absurd (omega arith)
passed n false r h = (refl, h)

-- contents that a put takes have at least one byte, and fit a slot
pub taken_some : (n : ℕ) → length_ok n ≡ true → 0 < n
unfolding length_ok
taken_some n h = ltb-true 0 n (and_left (ltb 0 n) (leb n most_contents) h)

pub taken_short : (n : ℕ) → length_ok n ≡ true → n ≤ most_contents
unfolding length_ok
taken_short n h = leb-true n most_contents (and_right (ltb 0 n) (leb n most_contents) h)

not_full : (N B b : ℕ) (v : View) → is_full N B b v ≡ false → Fits N B b v
unfolding is_full
not_full N B b v h = go (holds b (entries_in v)) (leb (capacity N B) (length (entries_in v))) refl h
  where
    go : (u w : Bool) → leb (capacity N B) (length (entries_in v)) ≡ w → (not u && w) ≡ false → (u || ltb (length (entries_in v)) (capacity N B)) ≡ true
    go true w e m = refl
    go false true e m = cc
    go false false e m = lt-ltb _ _ (leb-false (capacity N B) (length (entries_in v)) e)

pub record PutPassed (N B b : ℕ) (c : List ℕ) (v : View) : Type 0 where
  pub number : number_ok b ≡ true
  pub short : length c ≤ most_contents
  pub second : is_former v.version ≡ false
  pub fit : Fits N B b v
  pub fresh : is_worn N v ≡ false

pub put_passed : (N B : ℕ) (s : Image) (b : ℕ) (c : List ℕ) → refusal N B s (put b c) ≡ 0 → PutPassed N B b c (view N B s)
unfolding refusals view
put_passed N B s b c h =
    let v = view_of N (segments_of N B s) in
    let size = (passed 0 _ _ h).1 in
    let number = passed 1 (not (number_ok b)) _ size in
    let contents = passed 2 (not (length_ok (length c))) _ number.1 in
    let damage = (passed 3 _ _ contents.1).1 in
    let whole = (passed 4 _ _ damage).1 in
    let former = passed 10 (is_former v.version) _ whole in
    let full = passed 6 (is_full N B b v) _ former.1 in record {
      number = not-false (number_ok b) number.0;
      short = taken_short (length c) (not-false (length_ok (length c)) contents.0);
      second = former.0;
      fit = not_full N B b v full.0;
      fresh = (passed 7 (is_worn N v) _ full.1).0;
    }

-- a delete or a read
absent_passed : (N B : ℕ) (s : Image) (b : ℕ) → first_of (absent_refusals N B (right_size N B s) (segments_of N B s) b) ≡ 0 → holds b (entries_in (view N B s)) ≡ true
unfolding absent_refusals view
absent_passed N B s b h =
    let size = (passed 0 _ _ h).1 in
    let number = (passed 1 _ _ size).1 in
    let damage = (passed 3 _ _ number).1 in
    let whole = (passed 4 _ _ damage).1 in
    not-false _ (passed 5 (not (holds b (entries_in (view_of N (segments_of N B s))))) _ whole).0

pub delete_passed : (N B : ℕ) (s : Image) (b : ℕ) → refusal N B s (delete b) ≡ 0 → holds b (entries_in (view N B s)) ≡ true
unfolding refusals
delete_passed N B s b h = absent_passed N B s b h

pub read_passed : (N B : ℕ) (s : Image) (b : ℕ) → refusal N B s (read b) ≡ 0 → holds b (entries_in (view N B s)) ≡ true
unfolding refusals
read_passed N B s b h = absent_passed N B s b h

-- every request's first row is the size
pub size_passed : (N B : ℕ) (s : Image) (r : Request) → refusal N B s r ≡ 0 → right_size N B s ≡ true
unfolding refusals absent_refusals
size_passed N B s format h = not-false (right_size N B s) (passed 0 (not (right_size N B s)) _ h).0
size_passed N B s (put b c) h = not-false (right_size N B s) (passed 0 (not (right_size N B s)) _ h).0
size_passed N B s (delete b) h = not-false (right_size N B s) (passed 0 (not (right_size N B s)) _ h).0
size_passed N B s (read b) h = not-false (right_size N B s) (passed 0 (not (right_size N B s)) _ h).0
size_passed N B s (read_or b f) h = not-false (right_size N B s) (passed 0 (not (right_size N B s)) _ h).0
size_passed N B s recover h = not-false (right_size N B s) (passed 0 (not (right_size N B s)) _ h).0

pub format_passed : (N B : ℕ) (s : Image) → refusal N B s format ≡ 0 → right_size N B s ≡ true
unfolding refusals
format_passed N B s h = not-false (right_size N B s) (passed 0 (not (right_size N B s)) [] h).0
