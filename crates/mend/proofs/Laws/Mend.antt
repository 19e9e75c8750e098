-- Laws of a recovery: each state of an unfinished image and the steps that mend it.
use Prim.Native.Nat.{ℕ, ◌+◌, ◌-◌, ◌*◌, ◌%◌, ◌<◌}
use mathlib.Core.Path.{◌≡◌, refl, ap, ◌∙◌, subst}
use mathlib.Core.Bool.{Bool, true, false, cond, ◌||◌, ◌&&◌, not, false≢true}
use mathlib.Core.List.{List, [], ◌∷◌, ◌++◌}
use native.Mathlib.Nat.{mod-lt, mul-le-mul_right, suc-mul}
use native.Mathlib.Omega.{arith}
use lib.ListN.{length, get_or, length-set}
use lib.Dec.{eqb, ltb}
use borrow.Author.Tests.{eqb-true, lt-ltb}
use Rattle.model.specs.Chip.{Image, Step, erase, image_length, right_size}
use Rattle.model.specs.Slot.{empty, is_torn}
use Rattle.model.specs.State.{Segment, blank, invalid, in_use, segments_of, is_in_use, is_invalid, is_owing, number_after, slots_in, next_number, top_index, next_index, top_slots, used_count, first_number, view_of, entries_in, holds, is_clean, next_blanked, is_a, top_settled, is_b, last_slot, last_kind, torn_marked, is_c, place_of, last_block, copies, older, older_marked, is_d, Exception, case_a, case_b, case_c, case_d, clean, unfinished, damaged, state_of, state}
use Rattle.model.specs.Steps.{on_page, slot_at, mark_dead, mark_place, settle, erase_next, unless_blank, mend_steps, recover_steps}
use Rattle.model.specs.Answers.{code_of, recover, steps_for, performed, outcome_of}
use Rattle.model.specs.declared.Answer.TheVariants.{Done, Damaged}
use Rattle.model.specs.declared.Performed.{Performed}
use Rattle.model.specs.Laws.Lists.{and_left, and_right}
use Rattle.model.proofs.Laws.Chip.{size_facts}
use Rattle.model.proofs.Laws.Exclusive.{inside}
use Rattle.model.proofs.Laws.Segments.{segments_length}
use Rattle.model.proofs.Laws.Ring.{next_ge, next_kept, owing_number}
use Rattle.model.proofs.Laws.Clean.{clean_ring, used_next}
use Rattle.tally.proofs.Laws.{top_version_lem}
use Rattle.request.specs.Request.{Refused, Carried}
use Rattle.mend.specs.Marks.{PageAt, MarkedAt}
use Rattle.mend.specs.Erasing.{counting, erasing}
use Rattle.bridge.specs.Lengths.{mark_length, settle_length, image_row, image_rows, slot_short}
use Rattle.request.proofs.Answered.{refused_outcome, idle_outcome, carried_outcome}
use Rattle.bridge.specs.Refusals.{recover_clean, recover_damaged, recover_unfinished}
use Rattle.model.proofs.Laws.Tables.{holds_copies}

-- ---- the test of an exception

abbrev test : Exception → Bool → Bool → Bool → Bool → Bool
test case_a a b c d = a
test case_b a b c d = b
test case_c a b c d = c
test case_d a b c d = d

passed : (x : Exception) (k a b c d : Bool)
    → cond k clean (cond a (unfinished case_a) (cond b (unfinished case_b) (cond c (unfinished case_c) (cond d (unfinished case_d) damaged)))) ≡ unfinished x → test x a b c d ≡ true
passed x true a b c d e = absurd (let z : ◌≡◌ {A = ℕ} 0 1 = cc in omega arith)
passed x false true b c d e = let h : case_a ≡ x = cc in subst (λ (y : Exception). test y true b c d ≡ true) h refl
passed x false false true c d e = let h : case_b ≡ x = cc in subst (λ (y : Exception). test y false true c d ≡ true) h refl
passed x false false false true d e = let h : case_c ≡ x = cc in subst (λ (y : Exception). test y false false true d ≡ true) h refl
passed x false false false false true e = let h : case_d ≡ x = cc in subst (λ (y : Exception). test y false false false true ≡ true) h refl
passed x false false false false false e = absurd (let z : ◌≡◌ {A = ℕ} 0 1 = cc in omega arith)

-- ---- a segment

unnumbered : (x : Segment) → is_invalid x ≡ true → number_after blank ≡ number_after x
unfolding is_invalid number_after
unnumbered blank e = absurd (false≢true e)
unnumbered invalid e = refl
unnumbered (in_use ver st n ks) e = absurd (false≢true e)

-- ---- an image

module _ (N B : ℕ) (s : Image) (z : right_size N B s ≡ true) where
  abbrev l : List Segment
  l = segments_of N B s

  tested : (x : Exception) → state N B s ≡ unfinished x → test x (is_a N B l) (is_b N B l) (is_c N B l) (is_d N B l) ≡ true
  unfolding state state_of
  tested x e = passed x (is_clean N B l) (is_a N B l) (is_b N B l) (is_c N B l) (is_d N B l) e

  -- ---- (a) and (b) have a top

  pub some_a : state N B s ≡ unfinished case_a → 0 < next_number l
  unfolding is_a next_blanked
  some_a e =
      let x = get_or l (next_index N l) blank in
      let m = next_blanked N l in
      let a = tested case_a e in
      let r = clean_ring N B m (length-set l (next_index N l) blank ∙ segments_length N B s) (and_right (is_invalid x) (is_clean N B m) a) in
      omega (arith, next_kept l (next_index N l) blank (unnumbered x (and_left (is_invalid x) (is_clean N B m) a)), r.some, used_next N m r)

  pub some_b : state N B s ≡ unfinished case_b → 0 < next_number l
  unfolding is_b
  some_b e =
      let x = get_or l (top_index N l) blank in
      omega (arith, owing_number x (and_left (is_owing x) (eqb (used_count (top_settled N l)) (N - 1) && is_clean N B (top_settled N l)) (tested case_b e)), next_ge l (top_index N l))

  -- ---- the steps of a recovery that erases

  pub erasing_next : (top : ℕ) → top ≡ next_number l - 1 → 0 < next_number l → erase_next N B l ≡ erasing N B top s
  unfolding erase_next erasing counting next_index
  erasing_next top is some =
      let e : (top + 1) % N ≡ next_number l % N = ap (λ (y : ℕ). y % N) (omega arith) in
      rw (e, is, top_version_lem N B s (omega (arith, (size_facts N B s z).two)) some)

  -- ---- the marked slots of (c) and (d) are inside the image

  slot_page_lem : (n j : ℕ) → j < B → PageAt (slot_at N B n j * 256) (length s)
  unfolding image_length slot_at
  slot_page_lem n j h =
      let p : 0 < N = omega (arith, (size_facts N B s z).two) in
      record {
        page = slot_at N B n j;
        whole = refl;
        inside = omega (arith, (size_facts N B s z).whole, suc-mul (n % N) (B + 1), mul-le-mul_right (B + 1) (mod-lt n {m = N} p));
      }

  pub torn_page : state N B s ≡ unfinished case_c → PageAt (slot_at N B (next_number l - 1) (last_slot N l) * 256) (length s)
  unfolding is_c last_kind top_slots is_torn
  torn_page e =
      let t = and_left (is_torn (last_kind N l)) (is_clean N B (torn_marked N l)) (tested case_c e) in
      slot_page_lem (next_number l - 1) (last_slot N l) (omega (arith, inside is_torn (slots_in (get_or l (top_index N l) blank)) (last_slot N l) empty refl t, (image_row N B (top_index N l) s).1))

  -- a block that a view has is in one of its rows
  place_short : (b : ℕ) → holds b (entries_in (view_of N l)) ≡ true → (place_of b (view_of N l)).slot < B
  unfolding place_of view_of entries_in
  place_short b h = slot_short B b (first_number l) _ (image_rows N B s (used_count l) (first_number l)) h

  pub older_page : state N B s ≡ unfinished case_d → PageAt (slot_at N B (older N l).number (older N l).slot * 256) (length s)
  unfolding is_d older
  older_page e =
      let t = and_right (ltb 0 (last_block N l)) (eqb (copies (last_block N l) (entries_in (view_of N l))) 2 && is_clean N B (older_marked N l)) (tested case_d e) in
      let c = eqb-true (copies (last_block N l) (entries_in (view_of N l))) 2 (and_left (eqb (copies (last_block N l) (entries_in (view_of N l))) 2) (is_clean N B (older_marked N l)) t) in
      slot_page_lem (older N l).number (older N l).slot
      (place_short (last_block N l) (holds_copies (last_block N l) (entries_in (view_of N l)) ∙ lt-ltb 0 (copies (last_block N l) (entries_in (view_of N l))) (omega arith)))

  -- ---- the outcomes

  module _ (budget : ℕ) where
    pub mend_clean : {p : Performed} → state N B s ≡ clean → Refused Done p → performed p s ≡ outcome_of N B s budget recover
    unfolding code_of steps_for recover_steps state
    mend_clean {p} e r = idle_outcome N B s budget recover Done p (recover_clean N B s z e) (rw e) refl r

    pub mend_damaged : {p : Performed} → state N B s ≡ damaged → Refused Damaged p → performed p s ≡ outcome_of N B s budget recover
    unfolding code_of
    mend_damaged {p} e r = refused_outcome N B s budget recover Damaged p (recover_damaged N B s z e) refl r

    -- the steps that mend an exception
    mended : (x : Exception) (xs ys : List Step) {p : Performed} {t : Image} → state N B s ≡ unfinished x → mend_steps N B l x ≡ xs ++ ys → length ys ≡ 1 → Carried xs ys B budget p s t
        → performed p t ≡ outcome_of N B s budget recover
    unfolding steps_for recover_steps state
    mended x xs ys e n f c = carried_outcome N B s budget recover xs ys (recover_unfinished N B s z x e) (rw e n) (omega arith) c

    module _ (top : ℕ) (is : top ≡ next_number (segments_of N B s) - 1) {p : Performed} {t : Image} where
      pub mend_a : state N B s ≡ unfinished case_a → Carried (counting N B top s) (erase ((top + 1) % N) ∷ []) B budget p s t → performed p t ≡ outcome_of N B s budget recover
      unfolding mend_steps erasing
      mend_a e c = mended case_a (counting N B top s) (erase ((top + 1) % N) ∷ []) e (erasing_next top is (some_a e)) refl c

      pub mend_b : state N B s ≡ unfinished case_b → (b : Bool) → b ≡ not (is_in_use (get_or (segments_of N B s) (next_index N (segments_of N B s)) blank) || is_invalid (get_or (segments_of N B s) (next_index N (segments_of N B s)) blank))
          → Carried (cond b [] (erasing N B top s)) (settle N B top) B budget p s t → performed p t ≡ outcome_of N B s budget recover
      unfolding mend_steps unless_blank
      mend_b e b h c = mended case_b (cond b [] (erasing N B top s)) (settle N B top) e
          (rw (erasing_next top is (some_b e), ← is, h) (flip (is_in_use (get_or l (next_index N l) blank) || is_invalid (get_or l (next_index N l) blank)))) (settle_length N B top) c
        where
          flip : (t : Bool) → cond t (erasing N B top s) [] ++ settle N B top ≡ cond (not t) [] (erasing N B top s) ++ settle N B top
          flip true = refl
          flip false = refl

    module _ (at : ℕ) {p : Performed} {t : Image} where
      pub mend_c : state N B s ≡ unfinished case_c → at ≡ slot_at N B (next_number (segments_of N B s) - 1) (last_slot N (segments_of N B s)) * 256 → MarkedAt at budget p s t → performed p t ≡ outcome_of N B s budget recover
      unfolding mend_steps mark_place
      mend_c e q m = mended case_c [] (on_page (slot_at N B (next_number l - 1) (last_slot N l)) mark_dead) e refl (mark_length _) (m _ B q)

      pub mend_d : state N B s ≡ unfinished case_d → at ≡ slot_at N B (older N (segments_of N B s)).number (older N (segments_of N B s)).slot * 256 → MarkedAt at budget p s t → performed p t ≡ outcome_of N B s budget recover
      unfolding mend_steps mark_place
      mend_d e q m = mended case_d [] (on_page (slot_at N B (older N l).number (older N l).slot) mark_dead) e refl (mark_length _) (m _ B q)
