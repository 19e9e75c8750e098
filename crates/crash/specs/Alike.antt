-- Segments that are alike but for the top's tally, in which a recovery counts before it mends: the same state, the same table, the same version.
use Rattle.std.specs.Prelude.{ℕ, ◌-◌, ◌%◌, ◌≤◌, ◌<◌, ◌≡◌, ◌≢◌, ◌&&◌, length}
use Rattle.std.proofs.Math.Path.{refl, sym, ap, ap₂}
use Rattle.std.proofs.Common.{◌∙◌, subst}
use Rattle.std.proofs.Math.Bool.{true}
use mathlib.Core.List.{List}
use native.Mathlib.Omega.{arith}
use Rattle.std.proofs.Math.Nat.{mod-lt}
use Rattle.std.proofs.Math.ListN.{get_or, set, length-set}
use Rattle.std.proofs.lemmas.List.{set-get_or}
use Rattle.std.proofs.Math.Seq.{set-set, set_comm, get_or-set_same, get_or-set_other}
use Rattle.std.proofs.Math.Dec.{eqb}
use Rattle.model.specs.Header.{Version, version1, version2, is_former, version_number}
use Rattle.model.specs.State.{Segment, blank, invalid, in_use, is_invalid, is_owing, number_after, version_in, next_number, top_index, next_index, top_version, used_count, view_of, is_clean, next_blanked, is_a, settled, top_settled, is_b}
use Rattle.model.specs.Laws.Lists.{and_left, and_right, and_both, mod_inj}
use Rattle.model.proofs.Laws.Ring.{next_kept, used_kept}
use Rattle.model.proofs.Laws.Counted.{with_version, with_version_use, with_version_owing, SameRows, alike_next, alike_rows, alike_clean}

pub record Like (N : ℕ) (l m : List Segment) : Type 0 where
  pub version : Version
  pub number : version_number version ≡ version_number (top_version N l)
  pub segments : m ≡ set l (top_index N l) (with_version version (get_or l (top_index N l) blank))

own_version : (x : Segment) → with_version (version_in x) x ≡ x
unfolding with_version version_in
own_version blank = refl
own_version invalid = refl
own_version (in_use ver st n ks) = refl

pub like_of : (N : ℕ) (l m : List Segment) → m ≡ l → Like N l m
unfolding top_version
like_of N l m e = record {
  version = top_version N l;
  number = refl;
  segments = e ∙ sym (ap (λ (y : Segment). set l (top_index N l) y) (own_version (get_or l (top_index N l) blank)) ∙ set-get_or l (top_index N l) blank);
}

same_former : (a b : Version) → version_number a ≡ version_number b → is_former a ≡ is_former b
unfolding version_number is_former
same_former version1 version1 e = refl
same_former version1 (version2 t b) e = absurd (let q : ◌≡◌ {A = ℕ} 1 2 = e in omega (arith, q))
same_former (version2 t b) version1 e = absurd (let q : ◌≡◌ {A = ℕ} 2 1 = e in omega (arith, q))
same_former (version2 t b) (version2 u c) e = refl

former_with : (e : Version) (x : Segment) → version_number e ≡ version_number (version_in x) → is_former (version_in (with_version e x)) ≡ is_former (version_in x)
unfolding with_version version_in
former_with e blank q = refl
former_with e invalid q = refl
former_with e (in_use ver st n ks) q = same_former e ver q

settled_with : (e : Version) (x : Segment) → settled (with_version e x) ≡ with_version e (settled x)
unfolding with_version settled
settled_with e blank = refl
settled_with e invalid = refl
settled_with e (in_use ver st n ks) = refl

pub index_apart : (N n : ℕ) → 2 ≤ N → 0 < n → (n - 1) % N ≢ n % N
index_apart N n h k e = let q : n - 1 ≡ n = mod_inj N (n - 1) n (omega arith) (omega arith) e in omega arith

like_used : (N : ℕ) (l m : List Segment) (h : Like N l m) → top_index N l < length l → used_count m ≡ used_count l
like_used N l m h inside = let x = get_or l (top_index N l) blank in
    ap used_count h.segments ∙ used_kept l (top_index N l) (with_version h.version x) inside (with_version_use h.version x)

module _ (N : ℕ) (l m : List Segment) (h : Like N l m) (inside : top_index N l < length l) where
  abbrev top : ℕ
  top = top_index N l

  abbrev changed : Segment
  changed = with_version h.version (get_or l (top_index N l) blank)

  pub like_next : next_number m ≡ next_number l
  like_next = ap next_number h.segments ∙ alike_next h.version N l top inside

  pub like_index : top_index N m ≡ top_index N l
  unfolding top_index
  like_index = rw like_next

  pub like_top : get_or m (top_index N l) blank ≡ with_version h.version (get_or l (top_index N l) blank)
  like_top = ap (λ (y : List Segment). get_or y top blank) h.segments ∙ get_or-set_same l top changed blank inside

  pub like_other : (k : ℕ) → k ≢ top_index N l → get_or m k blank ≡ get_or l k blank
  like_other k n = ap (λ (y : List Segment). get_or y k blank) h.segments ∙ get_or-set_other l top k changed blank (λ e. n e)

  pub like_rows : SameRows (view_of N m) (view_of N l)
  like_rows = subst (λ (y : List Segment). SameRows (view_of N y) (view_of N l)) (sym h.segments) (alike_rows h.version N l top inside)

  pub like_clean : (B : ℕ) → is_clean N B m ≡ is_clean N B l
  unfolding top_version
  like_clean B = ap (λ y. is_clean N B y) h.segments ∙ alike_clean h.version N l top inside B h.number

  pub like_former : is_former (top_version N m) ≡ is_former (top_version N l)
  unfolding top_version
  like_former = ap (λ (y : ℕ). is_former (version_in (get_or m y blank))) like_index ∙ (ap (λ (y : Segment). is_former (version_in y)) like_top ∙ former_with h.version (get_or l top blank) h.number)

  -- ---- the segment after the top blanked, where that is not the top
  module _ (size : length l ≡ N) (two : 2 ≤ N) (some : 0 < next_number l) where
    abbrev next : ℕ
    next = next_index N l

    apart : top_index N l ≢ next_index N l
    unfolding top_index next_index
    apart = index_apart N (next_number l) two some

    next_index_lem : next_index N m ≡ next_index N l
    unfolding next_index
    next_index_lem = rw like_next

    pub like_after : get_or m (next_index N m) blank ≡ get_or l (next_index N l) blank
    like_after = ap (λ (y : ℕ). get_or m y blank) next_index_lem ∙ like_other next (λ e. apart (sym e))

    blanked_both : next_blanked N m ≡ set (next_blanked N l) (top_index N l) (with_version h.version (get_or l (top_index N l) blank))
    unfolding next_blanked
    blanked_both = ap₂ {C = List Segment} (λ y k. set y k blank) h.segments next_index_lem ∙ set_comm l top next changed blank apart

    -- the top stays
    module _ (kept : next_number (next_blanked N l) ≡ next_number l) where
      blanked_index : top_index N (next_blanked N l) ≡ top_index N l
      unfolding top_index
      blanked_index = rw kept

      blanked_top : get_or (next_blanked N l) (top_index N l) blank ≡ get_or l (top_index N l) blank
      unfolding next_blanked
      blanked_top = get_or-set_other l next top blank blank apart

      pub like_blanked : Like N (next_blanked N l) (next_blanked N m)
      unfolding top_version
      like_blanked = record {
        version = h.version;
        number = h.number ∙ ap (λ (y : Segment). version_number (version_in y)) (sym (ap (λ (y : ℕ). get_or (next_blanked N l) y blank) blanked_index ∙ blanked_top));
        segments = blanked_both ∙ sym (ap₂ {C = List Segment} (λ k y. set (next_blanked N l) k (with_version h.version y)) blanked_index (ap (λ (y : ℕ). get_or (next_blanked N l) y blank) blanked_index ∙ blanked_top));
      }

      blanked_inside : top_index N l < length (next_blanked N l)
      unfolding next_blanked
      blanked_inside = omega (arith, length-set l next blank, inside)

      settled_number : (x : Segment) → number_after (settled x) ≡ number_after x
      unfolding settled number_after
      settled_number blank = refl
      settled_number invalid = refl
      settled_number (in_use ver st n ks) = refl

      settled_version : (x : Segment) → version_in (settled x) ≡ version_in x
      unfolding settled version_in
      settled_version blank = refl
      settled_version invalid = refl
      settled_version (in_use ver st n ks) = refl

      -- and settled
      settled_both : top_settled N m ≡ set (next_blanked N l) (top_index N l) (with_version h.version (settled (get_or l (top_index N l) blank)))
      unfolding top_settled
      settled_both =
          let a : settled (get_or m (top_index N m) blank) ≡ with_version h.version (settled (get_or l top blank)) =
          ap (λ (y : ℕ). settled (get_or m y blank)) like_index ∙ (ap settled like_top ∙ settled_with h.version (get_or l top blank)) in
          ap₂ {C = List Segment} (λ y k. set y k (settled (get_or m (top_index N m) blank))) blanked_both like_index
          ∙ (set-set (next_blanked N l) top changed (settled (get_or m (top_index N m) blank)) ∙ ap (λ (y : Segment). set (next_blanked N l) top y) a)

      settled_here : get_or (top_settled N l) (top_index N l) blank ≡ settled (get_or l (top_index N l) blank)
      unfolding top_settled
      settled_here = get_or-set_same (next_blanked N l) top (settled (get_or l top blank)) blank blanked_inside

      pub settled_next : next_number (top_settled N l) ≡ next_number l
      unfolding top_settled
      settled_next = next_kept (next_blanked N l) top (settled (get_or l top blank)) (settled_number (get_or l top blank) ∙ ap number_after (sym blanked_top)) ∙ kept

      settled_index : top_index N (top_settled N l) ≡ top_index N l
      unfolding top_index
      settled_index = rw settled_next

      pub like_settled : Like N (top_settled N l) (top_settled N m)
      unfolding top_version
      like_settled =
          let here : get_or (top_settled N l) (top_index N (top_settled N l)) blank ≡ settled (get_or l top blank) = ap (λ (y : ℕ). get_or (top_settled N l) y blank) settled_index ∙ settled_here in
          record {
            version = h.version;
            number = h.number ∙ ap version_number (sym (ap version_in here ∙ settled_version (get_or l top blank)));
            segments = settled_both ∙ sym (ap₂ {C = List Segment} (λ k y. set (top_settled N l) k (with_version h.version y)) settled_index here ∙ over);
          }
        where
          over : set (top_settled N l) top (with_version h.version (settled (get_or l top blank))) ≡ set (next_blanked N l) top (with_version h.version (settled (get_or l top blank)))
          over = unfold top_settled in set-set (next_blanked N l) top (settled (get_or l top blank)) (with_version h.version (settled (get_or l top blank)))

      settled_length : length (top_settled N l) ≡ length (next_blanked N l)
      unfolding top_settled
      settled_length = length-set (next_blanked N l) top (settled (get_or l top blank))

      settled_inside : top_index N (top_settled N l) < length (top_settled N l)
      settled_inside = rw settled_index (omega (arith, settled_length, blanked_inside))

      pub like_settled_used : used_count (top_settled N m) ≡ used_count (top_settled N l)
      like_settled_used = like_used N (top_settled N l) (top_settled N m) like_settled settled_inside

-- ---- the cases that a recovery counts in

module _ (N B : ℕ) (l m : List Segment) (h : Like N l m) (size : length l ≡ N) (two : 2 ≤ N) (some : 0 < next_number l) where
  in_list : top_index N l < length l
  unfolding top_index
  in_list = let p : 0 < N = omega arith in omega (arith, mod-lt (next_number l - 1) p)

  blank_inside : next_number (next_blanked N l) ≡ next_number l → top_index N (next_blanked N l) < length (next_blanked N l)
  unfolding top_index next_blanked
  blank_inside e = let p : 0 < N = omega arith in omega (arith, mod-lt (next_number (set l (next_index N l) blank) - 1) p, length-set l (next_index N l) blank)

  -- (a)
  pub like_a : next_number (next_blanked N l) ≡ next_number l → is_a N B l ≡ true → is_a N B m ≡ true
  unfolding is_a
  like_a e c =
      let x = is_invalid (get_or l (next_index N l) blank) in
      let y = is_clean N B (next_blanked N l) in
      and_both (is_invalid (get_or m (next_index N m) blank)) (is_clean N B (next_blanked N m)) (ap is_invalid (like_after N l m h in_list size two some) ∙ and_left x y c)
      (like_clean N (next_blanked N l) (next_blanked N m) (like_blanked N l m h in_list size two some e) (blank_inside e) B ∙ and_right x y c)

  -- (b)
  pub like_b : next_number (next_blanked N l) ≡ next_number l → is_b N B l ≡ true → is_b N B m ≡ true
  unfolding is_b
  like_b e c =
      let o = is_owing (get_or l (top_index N l) blank) in
      let u = eqb (used_count (top_settled N l)) (N - 1) in
      let y = is_clean N B (top_settled N l) in
      let owing : is_owing (get_or m (top_index N m) blank) ≡ true =
      ap (λ (k : ℕ). is_owing (get_or m k blank)) (like_index N l m h in_list)
      ∙ (ap is_owing (like_top N l m h in_list) ∙ (with_version_owing h.version (get_or l (top_index N l) blank) ∙ and_left o (u && y) c)) in
      let used : eqb (used_count (top_settled N m)) (N - 1) ≡ true = ap (λ (k : ℕ). eqb k (N - 1)) (like_settled_used N l m h in_list size two some e) ∙ and_left u y (and_right o (u && y) c) in
      let fine : is_clean N B (top_settled N m) ≡ true =
      like_clean N (top_settled N l) (top_settled N m) (like_settled N l m h in_list size two some e) (settled_inside N l m h in_list size two some e) B ∙ and_right u y (and_right o (u && y) c) in
      and_both (is_owing (get_or m (top_index N m) blank)) (eqb (used_count (top_settled N m)) (N - 1) && is_clean N B (top_settled N m)) owing
      (and_both (eqb (used_count (top_settled N m)) (N - 1)) (is_clean N B (top_settled N m)) used fine)
