-- Laws of what comes back: a list of steps that was carried out as far as the budget went, and the answers by the newest partition.
use Prim.Native.Nat.{ℕ, zero, suc, ◌+◌, ◌-◌, ◌*◌, ◌/◌, ◌≤◌, ◌<◌}
use mathlib.Core.Path.{◌≡◌, refl, sym, ap, ◌∙◌}
use mathlib.Core.Bool.{Bool, true, false, cond, not}
use mathlib.Core.List.{List, [], ◌∷◌, ◌++◌, append-nil}
use native.Mathlib.Omega.{arith}
use lib.ListN.{length, get_or, take, drop, length-append, length-take}
use lib.Dec.{leb, eqb}
use borrow.Author.Tests.{le-leb, eq-eqb, ne_eqb}
use Rattle.model.specs.Chip.{Image, Step, program, erase}
use Rattle.model.specs.Header.{is_blank}
use Rattle.model.specs.Steps.{programs}
use Rattle.model.specs.Answers.{◌when◌, first_of, Work, code_under, ReadOutcome}
use Rattle.flash.specs.Units.{run_in, RanIn}
use Rattle.flash.specs.Ran.{Programmed}
use Rattle.flash.proofs.Laws.{within_append, within_programs}
use Rattle.flash.proofs.UnitLaws.{◌then◌, length_in, programmed_in}
use Rattle.request.proofs.Answered.{cut_short}
use Rattle.partitions.specs.declared.Reply.{Reply}
use Rattle.partitions.specs.declared.Written.{Written}
use Rattle.partitions.specs.declared.Spot.{Spot}
use Rattle.partitions.specs.declared.Reply.TheVariants.{Done, Mismatch, Statuses, Unwritten}
use Rattle.partitions.specs.Layout.{Item, items_of, has_item, item_of}
use Rattle.partitions.specs.Partitions.{partition_size, next_status, status_of, next_partition, Newest, newest, newest_in, newest_of}
use Rattle.partitions.specs.Items.{identifier_at, data_at, is_written, is_erased}
use Rattle.partitions.specs.Writes.{Entry, write_item, write_items, fill, carried, write_steps, item_steps, entry_for}
use Rattle.partitions.specs.Answers.{worked_in, number_of, is_no_run, refusals, item_fits, write_work, write_outcome, wrote, is_stored, offset_of, read_outcome, told}
use Rattle.std.specs.Prelude.{Option, Some, None, Result, Ok, Err}
use Rattle.partition_status.specs.declared.NoRun.{NoRun}
use Rattle.partition_status.specs.Said.{said}
use Rattle.partition_items.specs.Carrying.{Carry}
use Rattle.partitions.proofs.Laws.{right_layout}
use Rattle.partition_items.proofs.Laws.{inside_item, inside_within, erase_kept}
use Rattle.partition_items.proofs.Carrying.{carried_same}
use Rattle.partition_store.specs.Asking.{Known, Asks}
use Rattle.partition_store.specs.Answering.{Finished, accepted, Performs, write_on, entry_at, read_on}

-- ---- steps under a budget

-- a refusal
pub refused_worked : (S : ℕ) (a : Reply) (s : Image) (budget : ℕ) → wrote (record { answer = a; steps = 0 }) s ≡ worked_in S (record { code = number_of a; steps = [] }) s budget
unfolding wrote worked_in code_under run_in
refused_worked S a s zero = refl
refused_worked S a s (suc k) = rw (le-leb 0 (suc k) (omega arith))

-- a list with a last part of one step at least
pub carried_out : (S : ℕ) (xs ys : List Step) {w : Written} {budget left before last : ℕ} {s t : Image} → 0 < length ys → RanIn (xs ++ ys) S budget left s t
    → before ≡ budget - length xs → last ≡ length ys → Finished budget left before last w → Performs (xs ++ ys) S budget w s t
unfolding wrote worked_in code_under
carried_out S xs ys {w} {budget} {left} {before} {last} {s} {t} some d b l f =
    let code : number_of w.answer ≡ cond (leb (length (xs ++ ys)) budget) 0 9 = f.code ∙ rw (b, l, length-append xs ys) (cut_short (length xs) (length ys) budget some) in
    let count : w.steps ≡ length (take budget (xs ++ ys)) = omega (arith, f.count, d.rest, length-take budget (xs ++ ys)) in
    rw (code, count, d.image)

-- a partition filled: its status is the last step
pub filled : (S p status : ℕ) (es : List Entry) (at v : ℕ) {w : Written} {budget blank full left : ℕ} {s₀ s₁ s₂ s₃ : Image} → at ≡ p * S → v ≡ status
    → RanIn (erase p ∷ []) S budget blank s₀ s₁ → RanIn (write_items S p es) S blank full s₁ s₂ → Programmed (program at v ∷ []) full left s₂ s₃ → Finished budget left full 1 w
    → Performs (fill S p es status) S budget w s₀ s₃
unfolding fill
filled S p status es at v e f a b c g =
    let d = ◌then◌ a b in
    rw (← e, ← f) (carried_out S (erase p ∷ write_items S p es) (program at v ∷ []) (omega arith) (◌then◌ d (programmed_in S (at + 1) (omega arith, tt) c)) d.rest refl g)

-- the item of a first write
pub first_item : (S at item : ℕ) (contents : List ℕ) {n m : ℕ} {s t : Image} → at + 1 + length contents ≤ S → Programmed (item_steps at item contents) n m s t
    → RanIn (write_items S 0 (entry_at at item contents ∷ [])) S n m s t
unfolding write_items write_item data_at identifier_at
first_item S at item contents h d =
    let z : 0 * S + at ≡ at = omega arith in
    rw (z, append-nil (item_steps at item contents)) (programmed_in S (0 * S + S) (inside_within S 0 (item_steps at item contents) (inside_item S 0 at item contents (omega arith) (omega arith))) d)

-- an item written in place: its identifier is the last step
item_length : (at : ℕ) (x : Step) (bs : List ℕ) → length (programs at bs ++ (x ∷ [])) ≡ length bs + 1
unfolding programs
item_length at x [] = omega arith
item_length at x (b ∷ bs) = let e = item_length (suc at) x bs in omega arith

pub item_written : (S at item : ℕ) (contents : List ℕ) {w : Written} {budget left : ℕ} {s t : Image} → Programmed (item_steps at item contents) budget left s t → Finished budget left budget (length contents + 1) w
    → Performs (item_steps at item contents) S budget w s t
item_written S at item contents {budget = budget} d f =
    let l = item_length (at + 1) (program at item) contents in
    carried_out S [] (item_steps at item contents) (omega arith) (programmed_in S (at + 1 + length contents) (within_append _ (programs (at + 1) contents) (program at item ∷ []) (within_programs _ (at + 1) contents (omega arith)) (omega arith, tt)) d)
    (omega arith) (sym l) f

-- the items of the newest partition are the same when the next was erased
pub erased_next : (S from to item : ℕ) (layout contents : List ℕ) {n m : ℕ} {s t : Image} → Carry S from to layout item contents (length s) → RanIn (erase to ∷ []) S n m s t
    → carried S t from (entry_for layout item contents) (items_of layout) ≡ carried S s from (entry_for layout item contents) (items_of layout)
unfolding items_of
erased_next S from to item layout contents {n} {m} {s} {t} z d =
    carried_same S from (entry_for layout item contents) t s (length_in d) (erase_kept S to from n z.apart d) 1 layout (omega (arith, (right_layout S layout z.right).fit))

-- ---- a write by its newest partition

module _ (P : ℕ) (layout : List ℕ) (s : Image) (i at : ℕ) (contents : List ℕ) (a : Known P layout s i at (length contents)) where
  abbrev S : ℕ
  S = length s / P

  abbrev entry : Entry
  entry = entry_for layout i contents

  pub entry_stands : entry ≡ entry_at at i contents
  entry_stands = ap (λ (x : Item). record { item = x; contents = contents }) a.item

  pub steps_in_place : (p : ℕ) → is_blank (take (1 + length contents) (drop (p * S + at) s)) ≡ true → write_steps P S (items_of layout) s (newest p) entry ≡ item_steps (p * S + at) i contents
  unfolding write_steps is_erased identifier_at data_at write_item
  steps_in_place p e = rw (a.item, e)

  pub steps_to_next : (p : ℕ) → is_blank (take (1 + length contents) (drop (p * S + at) s)) ≡ false
      → write_steps P S (items_of layout) s (newest p) entry ≡ fill S (next_partition P p) (carried S s p entry (items_of layout)) (next_status (status_of S s p))
  unfolding write_steps is_erased identifier_at
  steps_to_next p e =
      let f : is_blank (take (1 + entry.item.size) (drop (p * S + entry.item.at) s)) ≡ false = rw a.item e in
      rw f

  module _ {n : Newest} {r : Result (Option ℕ) NoRun} (d : said r ≡ n) where
    pub work_nothing : r ≡ Ok None → write_on P S (items_of layout) s n entry ≡ accepted (fill S 0 (entry_at at i contents ∷ []) 0)
    unfolding write_on is_no_run write_steps said
    work_nothing e = rw (← d, e, ← entry_stands)

    pub work_newest : {p : ℕ} → r ≡ Ok (Some p) → write_on P S (items_of layout) s n entry ≡ accepted (write_steps P S (items_of layout) s (newest p) entry)
    unfolding write_on is_no_run said
    work_newest e = rw (← d, e)

    pub work_none : {x : NoRun} → r ≡ Err x → write_on P S (items_of layout) s n entry ≡ record { code = 4; steps = [] }
    unfolding write_on is_no_run said
    work_none e = rw (← d, e)

-- ---- a write's answer

module _ (P : ℕ) (layout : List ℕ) (s : Image) (i : ℕ) (contents : List ℕ) (budget : ℕ) where
  refused_by : (r : Reply) → (number_of r ≡ 0 → ⊥) → first_of (refusals P layout s (item_fits layout i contents)) ≡ number_of r
      → wrote (record { answer = r; steps = 0 }) s ≡ write_outcome P layout s i contents budget
  unfolding write_outcome write_work partition_size worked_in
  refused_by r n e = rw (e, ne_eqb (number_of r) 0 n) (refused_worked (length s / P) r s budget)

  unfit : has_item i (items_of layout) ≡ false → item_fits layout i contents ≡ false
  unfolding item_fits
  unfit e = rw e

  pub write_refused : (r : Reply) → Asks P layout s i (Err r) → wrote (record { answer = r; steps = 0 }) s ≡ write_outcome P layout s i contents budget
  unfolding refusals
  write_refused r a = refused_by r a.0 (a.1 (item_fits layout i contents) [] unfit)

  module _ (at size : ℕ) (a : Known P layout s i at size) where
    fits_if : (t : Bool) → eqb (length contents) size ≡ t → item_fits layout i contents ≡ t
    unfolding item_fits
    fits_if t e = rw (a.has, a.item, e)

    pub write_mismatched : (length contents ≡ size → ⊥) → wrote (record { answer = Mismatch; steps = 0 }) s ≡ write_outcome P layout s i contents budget
    unfolding first_of refusals number_of
    write_mismatched n = refused_by Mismatch (λ z. omega arith) (rw (a.image, a.table, fits_if false (ne_eqb (length contents) size n)))

    work_is : length contents ≡ size → write_work P layout s i contents ≡ write_on P (length s / P) (items_of layout) s (newest_in P (length s / P) s) (entry_for layout i contents)
    unfolding write_work write_on first_of refusals newest_of partition_size
    work_is e = rw (a.image, a.table, fits_if true (eq-eqb (length contents) size e)) (go (is_no_run (newest_in P (length s / P) s)) _)
      where
        go : (t : Bool) (steps : List Step) → ◌≡◌ {A = Work} (cond (eqb (cond t 4 0) 0) (record { code = 0; steps = steps }) (record { code = cond t 4 0; steps = [] })) (cond t (record { code = 4; steps = [] }) (record { code = 0; steps = steps }))
        go true steps = refl
        go false steps = refl

    pub write_accepted : length contents ≡ size
        → worked_in (length s / P) (write_on P (length s / P) (items_of layout) s (newest_in P (length s / P) s) (entry_for layout i contents)) s budget ≡ write_outcome P layout s i contents budget
    unfolding write_outcome worked_in partition_size
    write_accepted e = ap (λ (w : Work). worked_in (length s / P) w s budget) (sym (work_is e))

-- ---- a read's answer

pub told_unread : (a : Reply) (r : Spot) {o : ReadOutcome} → r ≡ record { answer = a; offset = 0; length = 0 } → told (record { answer = a; offset = 0; length = 0 }) ≡ o → (told r ≡ o) × (r.length ≤ 255)
told_unread a r e f = (ap told e ∙ f, omega (arith, ap (λ (x : Spot). x.length) e))

abbrev asked : ℕ → ℕ → ℕ → Item
asked i size at = record { identifier = i; size = size; at = at }

-- by the newest partition
module _ (S : ℕ) (s : Image) (i size at : ℕ) {n : Newest} {r : Result (Option ℕ) NoRun} (d : said r ≡ n) where
  pub read_nothing : r ≡ Ok None → told (record { answer = Unwritten; offset = 0; length = 0 }) ≡ read_on S s n (asked i size at)
  unfolding told read_on first_of is_no_run is_stored number_of said
  read_nothing e = rw (← d, e)

  pub read_none : {x : NoRun} → r ≡ Err x → told (record { answer = Statuses; offset = 0; length = 0 }) ≡ read_on S s n (asked i size at)
  unfolding told read_on first_of is_no_run is_stored number_of said
  read_none e = rw (← d, e)

  pub read_unwritten : {p : ℕ} → r ≡ Ok (Some p) → (get_or s (p * S + at) 0 ≡ i → ⊥) → told (record { answer = Unwritten; offset = 0; length = 0 }) ≡ read_on S s n (asked i size at)
  unfolding told read_on first_of is_no_run is_stored is_written identifier_at number_of said
  read_unwritten {p} e f = rw (← d, e, ne_eqb (get_or s (p * S + at) 0) i f)

  pub read_written : {p : ℕ} → r ≡ Ok (Some p) → get_or s (p * S + at) 0 ≡ i → told (record { answer = Done; offset = p * S + at + 1; length = size }) ≡ read_on S s n (asked i size at)
  unfolding told read_on first_of is_no_run is_stored is_written offset_of data_at identifier_at number_of said
  read_written {p} e f = rw (← d, e, eq-eqb (get_or s (p * S + at) 0) i f)

module _ (P : ℕ) (layout : List ℕ) (s : Image) (i : ℕ) where
  pub read_refused : (r : Reply) → Asks P layout s i (Err r) → told (record { answer = r; offset = 0; length = 0 }) ≡ read_outcome P layout s i
  unfolding told read_outcome
  read_refused r a = rw (a.1 (has_item i (items_of layout)) ((5 when not (is_stored (partition_size P s) s (newest_of P s) (item_of i (items_of layout)))) ∷ []) (λ e. e), ne_eqb (number_of r) 0 a.0)

  pub read_accepted : (at size : ℕ) → Known P layout s i at size → read_on (length s / P) s (newest_in P (length s / P) s) (asked i size at) ≡ read_outcome P layout s i
  unfolding read_outcome read_on first_of refusals newest_of partition_size
  read_accepted at size a = rw (a.image, a.table, a.has, a.item)
