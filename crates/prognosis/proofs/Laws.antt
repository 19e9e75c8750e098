-- The steps of a recovery counted, and what it would answer in each state.
use Prim.Native.Nat.{ℕ, suc, ◌+◌, ◌-◌, ◌%◌}
use mathlib.Core.Path.{◌≡◌, refl, sym, ap, ◌∙◌}
use mathlib.Core.Bool.{Bool, true, false, cond, ◌||◌, ◌&&◌, not}
use mathlib.Core.List.{List, [], ◌∷◌, ◌++◌}
use native.Mathlib.Omega.{arith}
use lib.ListN.{length, get_or, length-append}
use lib.Dec.{eqb}
use borrow.Author.Tests.{eqb-true}
use Rattle.model.specs.Lists.{all}
use Rattle.model.specs.Chip.{Image, program, erase, right_size}
use Rattle.model.specs.Header.{Version, version1, version2, is_former, no_bit_left, header_version}
use Rattle.model.specs.State.{Segment, blank, segments_of, is_in_use, is_invalid, next_number, next_index, last_slot, older, conditions, Exception, case_a, case_b, case_c, case_d, clean, unfinished, damaged, state}
use Rattle.model.specs.Steps.{on_page, header_at, slot_at, mark_place, settle, highest_bit, clear_next, count_erase, erase_next, unless_blank, mend_steps, recover_steps}
use Rattle.model.specs.Answers.{recover, first_of, is_damaged, refusals, steps_for, work_on}
use Rattle.bridge.specs.Lengths.{page_length, mark_length, settle_length}
use Rattle.tally.specs.declared.Tally.{Tally}
use Rattle.tally.specs.Seen.{header_in, tally_seen}
use Rattle.mend.specs.Erasing.{counting, erasing}
use Rattle.mend.proofs.Laws.Mend.{some_a, some_b, erasing_next}
use Rattle.text.specs.Text.{text}
use Rattle.text.specs.Buffer.{labelled}
use Rattle.account_text.specs.Account.{first_failing, last_line}
use Rattle.std.specs.Prelude.{Result, Ok, Err}
use Rattle.prognosis.specs.declared.FailedCondition.{FailedCondition}
use Rattle.prognosis.specs.Foretold.{prognosis_of}

-- ---- an erase counted in a header

clear_length : (at : ℕ) (bits : List ℕ) → length (clear_next at bits) ≡ cond (all (λ x. eqb x 0) bits) 0 1
unfolding clear_next all
clear_length at [] = refl
clear_length at (x ∷ xs) = go (eqb x 0) (clear_length (suc at) xs)
  where
    go : (t : Bool) → length (clear_next (suc at) xs) ≡ cond (all (λ y. eqb y 0) xs) 0 1
        → length (cond t (clear_next (suc at) xs) (program at (x - highest_bit x) ∷ [])) ≡ cond (t && all (λ y. eqb y 0) xs) 0 1
    go true h = h
    go false h = refl

count_length : (e : Version) → length (count_erase e) ≡ cond (is_former e) 0 (cond (no_bit_left e) 0 1)
unfolding count_erase is_former no_bit_left
count_length version1 = refl
count_length (version2 total bits) = clear_length 32 bits

pub erasing_length : (N B n : ℕ) (s : Image) (t : Tally) → t ≡ tally_seen (header_version (header_in N B n s)) → length (erasing N B n s) ≡ cond t.former 0 (cond t.no_bit_left 0 1) + 1
unfolding erasing counting tally_seen
erasing_length N B n s t e =
    let v = header_version (header_in N B n s) in
    let xs = count_erase v in
    length-append (on_page (header_at N B n) xs) (erase ((n + 1) % N) ∷ []) ∙ rw (e, page_length (header_at N B n) xs, count_length v)

-- ---- in each state

module _ (N B : ℕ) (s : Image) (z : right_size N B s ≡ true) where
  abbrev l : List Segment
  l = segments_of N B s

  pub foretold_clean : state N B s ≡ clean → Ok 0 ≡ prognosis_of N B l
  unfolding prognosis_of work_on refusals first_of is_damaged steps_for recover_steps state
  foretold_clean e = rw e

  pub foretold_damaged : (k : ℕ) → state N B s ≡ damaged → k ≡ first_failing 1 (conditions N B l) → Err (record { 0 = k }) ≡ prognosis_of N B l
  unfolding prognosis_of work_on refusals first_of is_damaged steps_for recover_steps state
  foretold_damaged k e q = rw (e, q)

  -- the steps that mend an exception
  mended : (x : Exception) (k : ℕ) → state N B s ≡ unfinished x → k ≡ length (mend_steps N B l x) → Ok k ≡ prognosis_of N B l
  unfolding prognosis_of work_on refusals first_of is_damaged steps_for recover_steps state
  mended x k e q = rw (e, q)

  module _ (k top : ℕ) (is : top ≡ next_number (segments_of N B s) - 1) where
    pub foretold_a : state N B s ≡ unfinished case_a → k ≡ length (erasing N B top s) → Ok k ≡ prognosis_of N B l
    unfolding mend_steps
    foretold_a e q = mended case_a k e (q ∙ ap length (sym (erasing_next N B s z top is (some_a N B s z e))))

    pub foretold_b : state N B s ≡ unfinished case_b → (b : Bool) → b ≡ not (is_in_use (get_or (segments_of N B s) (next_index N (segments_of N B s)) blank) || is_invalid (get_or (segments_of N B s) (next_index N (segments_of N B s)) blank))
        → k ≡ cond b 0 (length (erasing N B top s)) + 1 → Ok k ≡ prognosis_of N B l
    unfolding mend_steps unless_blank
    foretold_b e b h q = mended case_b k e (q ∙ (rw h (go (is_in_use (get_or l (next_index N l) blank) || is_invalid (get_or l (next_index N l) blank)))))
      where
        xs : erasing N B top s ≡ erase_next N B l
        xs = sym (erasing_next N B s z top is (some_b N B s z e))

        go : (t : Bool) → cond (not t) 0 (length (erasing N B top s)) + 1 ≡ length (cond t (erase_next N B l) [] ++ settle N B (next_number l - 1))
        go true = rw (length-append (erase_next N B l) (settle N B (next_number l - 1)), settle_length N B (next_number l - 1), xs)
        go false = rw (settle_length N B (next_number l - 1))

  pub foretold_c : state N B s ≡ unfinished case_c → Ok 1 ≡ prognosis_of N B l
  unfolding mend_steps mark_place
  foretold_c e = mended case_c 1 e (sym (mark_length (slot_at N B (next_number l - 1) (last_slot N l))))

  pub foretold_d : state N B s ≡ unfinished case_d → Ok 1 ≡ prognosis_of N B l
  unfolding mend_steps mark_place
  foretold_d e = mended case_d 1 e (sym (mark_length (slot_at N B (older N l).number (older N l).slot)))

-- ---- the account's last line, by what is foretold

module _ (N B : ℕ) (l : List Segment) (p : Result ℕ FailedCondition) (e : p ≡ prognosis_of N B l) where
  pub line_recovers : (n : ℕ) → p ≡ Ok n → last_line N B l ≡ labelled "recover " 0 ++ (labelled " steps " n ++ text "\n")
  unfolding prognosis_of last_line
  line_recovers n q = go (eqb (work_on N B true l recover).code 0) refl (sym e ∙ q)
    where
      go : (t : Bool) → eqb (work_on N B true l recover).code 0 ≡ t
          → cond {A = Result ℕ FailedCondition} t (Ok (length (work_on N B true l recover).steps)) (Err (record { 0 = first_failing 1 (conditions N B l) })) ≡ Ok n
          → cond t (labelled "recover " (work_on N B true l recover).code ++ (labelled " steps " (length (work_on N B true l recover).steps) ++ text "\n")) (labelled "fails " (first_failing 1 (conditions N B l)) ++ text "\n")
          ≡ labelled "recover " 0 ++ (labelled " steps " n ++ text "\n")
      go true h r = let a : length (work_on N B true l recover).steps ≡ n = cc in rw (eqb-true (work_on N B true l recover).code 0 h, a)
      go false h r = absurd (let z : ◌≡◌ {A = ℕ} 0 1 = cc in omega arith)

  pub line_fails : (k : ℕ) → p ≡ Err (record { 0 = k }) → last_line N B l ≡ labelled "fails " k ++ text "\n"
  unfolding prognosis_of last_line
  line_fails k q = go (eqb (work_on N B true l recover).code 0) (sym e ∙ q)
    where
      go : (t : Bool) → cond {A = Result ℕ FailedCondition} t (Ok (length (work_on N B true l recover).steps)) (Err (record { 0 = first_failing 1 (conditions N B l) })) ≡ Err (record { 0 = k })
          → cond t (labelled "recover " (work_on N B true l recover).code ++ (labelled " steps " (length (work_on N B true l recover).steps) ++ text "\n")) (labelled "fails " (first_failing 1 (conditions N B l)) ++ text "\n")
          ≡ labelled "fails " k ++ text "\n"
      go true r = absurd (let z : ◌≡◌ {A = ℕ} 0 1 = cc in omega arith)
      go false r =
          let c : ◌≡◌ {A = FailedCondition} (record { 0 = first_failing 1 (conditions N B l) }) (record { 0 = k }) = cc in
          let a : first_failing 1 (conditions N B l) ≡ k = ap (λ (x : FailedCondition). x.0) c in
          rw a
