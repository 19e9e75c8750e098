-- The recovery of (b), whole: a count in the top, the old segment erased, the status. The top stays the top.
use Rattle.std.specs.Prelude.{ℕ, suc, ◌+◌, ◌-◌, ◌*◌, ◌%◌, ◌≤◌, ◌<◌, ◌≡◌, ◌⊎◌, ◌≢◌, Bool, true, ◌||◌, ◌&&◌, length, eqb}
use Rattle.std.proofs.Math.Path.{refl, ap}
use Rattle.std.proofs.Common.{sym, ap₂, ◌∙◌, subst, arith, length-set, eqb-true}
use Rattle.std.proofs.lemmas.Bool.{false≢true}
use mathlib.Core.List.{List, ◌∷◌, ◌++◌, append_assoc}
use Rattle.std.proofs.Math.Decide.{dec_lt}
use Rattle.std.proofs.Math.ListN.{get_or, set}
use Rattle.std.proofs.lemmas.List.{set-get_or}
use Rattle.std.proofs.Math.Seq.{set-set, get_or-set_other}
use Rattle.model.specs.Chip.{Image, Step, erase, step, run, most_segments, number_limit, image_length, right_size, Cut}
use Rattle.model.specs.Header.{erase_pending, compacted, Version, header_status}
use Rattle.model.specs.Slot.{Slot}
use Rattle.model.specs.State.{Segment, blank, invalid, in_use, segments_of, is_in_use, is_invalid, is_owing, number_after, slots_in, version_in, next_number, top_index, next_index, top_version, used_count, is_clean, next_blanked, settled, top_settled, is_b, case_b, unfinished, state_of, state}
use Rattle.model.specs.Steps.{on_page, header_at, settle, erase_next, unless_blank, mend_steps}
use Rattle.model.specs.Histories.{recovered}
use Rattle.model.specs.Laws.Lists.{and_left}
use Rattle.model.proofs.Laws.Chip.{size_facts, run_append, run_size, step_length, whole_cut}
use Rattle.model.proofs.Laws.Bytes.{compacted_bit}
use Rattle.model.proofs.Laws.HeaderPage.{clear_pending}
use Rattle.model.proofs.Laws.PageCuts.{one_bit_cut}
use Rattle.model.proofs.Laws.Segments.{part_of, segment_at, segments_length, Only}
use Rattle.model.proofs.Laws.Effects.{index, numbered_at, in_use_parts, erase_effect, settle_effect, top_at}
use Rattle.model.proofs.Laws.Ring.{next_ge, next_same, owing_number}
use Rattle.crash.specs.Alike.{Like, like_of, index_apart, like_next, like_settled, like_b}
use Rattle.crash.specs.Tops.{SameTop, same_set}
use Rattle.crash.proofs.States.{is_case, mended, case_of, state_case, recovered_run, Mended}
use Rattle.crash.specs.RecoverCount.{header_byte_lem, counts, counted_like}

owing_top : (x : Segment) (n : ℕ) → is_owing x ≡ true → number_after x ≡ suc n → x ≡ in_use (version_in x) erase_pending n (slots_in x)
unfolding is_owing number_after slots_in version_in
owing_top blank n h e = absurd (false≢true h)
owing_top invalid n h e = absurd (false≢true h)
owing_top (in_use ver st m ks) n h e = let q : m ≡ n = omega arith in ap₂ (λ a b. in_use ver a b ks) (eqb-true st erase_pending h) q

-- ---- (b)

module _ (N B : ℕ) (s : Image) (z : right_size N B s ≡ true) (e : state N B s ≡ unfinished case_b) where
  abbrev l : List Segment
  l = segments_of N B s

  -- the top's number, and the index of the segment after it
  abbrev n : ℕ
  n = next_number l - 1

  abbrev i : ℕ
  i = next_number l % N

  pub two : 2 ≤ N
  two = (size_facts N B s z).two

  pub most : N ≤ most_segments
  most = (size_facts N B s z).most

  pub size : length s ≡ image_length N B
  size = (size_facts N B s z).whole

  pub inside : i < N
  inside = index N B two s size (next_number l)

  is_b_lem : is_b N B l ≡ true
  unfolding state is_case
  is_b_lem = case_of N B l case_b e

  pub owing : is_owing (get_or l (n % N) blank) ≡ true
  unfolding is_b top_index
  owing = and_left (is_owing (get_or l (n % N) blank)) (eqb (used_count (top_settled N l)) (N - 1) && is_clean N B (top_settled N l)) is_b_lem

  pub some : 0 < next_number l
  some = omega (arith, owing_number (get_or l (n % N) blank) owing, next_ge l (n % N))

  pub apart : n % N ≢ i
  apart = index_apart N (next_number l) two some

  top_number_lem : number_after (get_or l (n % N) blank) ≡ suc n
  top_number_lem = top_at N B s some ∙ omega (arith, some)

  abbrev slots : List Slot
  slots = slots_in (get_or l (n % N) blank)

  abbrev ver : Version
  ver = version_in (get_or l (n % N) blank)

  top : get_or l (n % N) blank ≡ in_use ver erase_pending n slots
  top = owing_top (get_or l (n % N) blank) n owing top_number_lem

  pub below : n < number_limit N
  below = (numbered_at N B s (n % N) n (index N B two s size n) top_number_lem).1

  mended_is : mended N l case_b ≡ set (set l i blank) (n % N) (in_use ver compacted n slots)
  unfolding mended top_settled next_blanked next_index top_index settled
  mended_is = ap (λ (y : Segment). set (set l i blank) (n % N) (settled y)) top

  -- ---- the status after the erase, where the old segment is blank

  module _ (w : Image) (zw : length w ≡ image_length N B) (sw : segments_of N B w ≡ set l i blank) where
    top_there : get_or (segments_of N B w) (n % N) blank ≡ in_use ver erase_pending n slots
    top_there = ap (λ (y : List Segment). get_or y (n % N) blank) sw ∙ (get_or-set_other l i (n % N) blank blank apart ∙ top)

    pub settled_there : segments_of N B (run B (settle N B n) w) ≡ mended N l case_b
    settled_there = settle_effect N B two most (size_facts N B s z).most_b w zw n below ver slots top_there
        ∙ (ap (λ (y : List Segment). set y (n % N) (in_use ver compacted n slots)) sw ∙ sym mended_is)

    pub settled_same : (u : Image) → u ≡ run B (settle N B n) w → SameTop N B w u
    unfolding number_after version_in
    settled_same u q = same_set N B w u (n % N) (in_use ver compacted n slots)
        (ap (λ y. segments_of N B y) q ∙ settle_effect N B two most (size_facts N B s z).most_b w zw n below ver slots top_there) (ap number_after (sym top_there)) (ap version_in (sym top_there))

    -- the mark is set or not
    pub settle_whole : (u : Image) → Cut B (settle N B n) w u → (u ≡ w) ⊎ (u ≡ run B (settle N B n) w)
    unfolding settle on_page header_at
    settle_whole u c = one_bit_cut B (n % N * (B + 1) * 256 + 5) compacted w u (rw (byte, clear_pending) compacted_bit) c
      where
        here : n % N < N
        here = index N B two s size n

        byte : get_or w (n % N * (B + 1) * 256 + 5) 0 ≡ erase_pending
        byte = sym (header_byte_lem N B (n % N) 5 w here (omega arith)) ∙ (unfold header_status in
            (in_use_parts N B (n % N) (part_of N B (n % N) w) ver erase_pending n slots (sym (segment_at N B (n % N) w here) ∙ top_there)).status)

  -- the old segment erased
  abbrev wiped : Image
  wiped = step B (erase i) s

  pub wiped_size : length wiped ≡ image_length N B
  wiped_size = step_length B (erase i) s ∙ size

  pub wiped_segments : segments_of N B wiped ≡ set l i blank
  wiped_segments = erase_effect N B two s size i inside

  -- the segment after the top has a smaller number, if any
  old_number : number_after (get_or l i blank) < next_number l
  old_number = elim (dec_lt (number_after (get_or l i blank)) (next_number l)) [
    | yes p ↦ p
    | no p ↦ absurd (apart (numbered_at N B s i n inside (omega (arith, next_ge l i, some))).0)
  ]

  -- that segment replaced by one that is not the top: (b) again, and mended to the same
  module _ (y : Segment) (small : number_after y ≤ next_number l) where
    pub replaced_next : next_number (set l i y) ≡ next_number l
    replaced_next = next_same l i y old_number small

    pub replaced_mended : top_settled N (set l i y) ≡ top_settled N l
    unfolding top_settled next_blanked top_index next_index
    replaced_mended =
        let g : get_or (set l i y) (n % N) blank ≡ get_or l (n % N) blank = get_or-set_other l i (n % N) y blank apart in
        rw (replaced_next, set-set l i y blank, g)

    pub replaced_top : get_or (set l i y) (top_index N (set l i y)) blank ≡ get_or l (top_index N l) blank
    unfolding top_index
    replaced_top = rw replaced_next (get_or-set_other l i (n % N) y blank apart)

    pub replaced_top_same : (u : Image) → segments_of N B u ≡ set l i y → SameTop N B s u
    unfolding top_version top_index
    replaced_top_same u q = record {
      next = ap next_number q ∙ replaced_next;
      version = ap (λ (v : List Segment). top_version N v) q ∙ rw replaced_next (ap version_in (get_or-set_other l i (n % N) y blank apart));
    }

    replaced_case : is_b N B (set l i y) ≡ true
    unfolding is_b
    replaced_case = rw (replaced_mended, replaced_top) is_b_lem

    pub replaced_state : state_of N B (set l i y) ≡ unfinished case_b
    replaced_state = state_case N B (set l i y) case_b (length-set l i y ∙ segments_length N B s) (unfold is_case in replaced_case)

  -- ---- an erase counted: it is (b) still, and is mended to the same

  pub blanked_same : next_number (next_blanked N l) ≡ next_number l
  unfolding next_blanked next_index
  blanked_same = next_same l i blank old_number (unfold number_after in omega arith)

  module _ (u : Image) (c : Cut B (counts N B (segments_of N B s)) s u) where
    pub left : Only N B ((next_number l - 1) % N) s u × Like N l (segments_of N B u)
    left = counted_like N B s z some u c

    abbrev counted : List Segment
    counted = segments_of N B u

    pub in_list : top_index N l < length l
    unfolding top_index
    in_list = omega (arith, index N B two s size (next_number l - 1), segments_length N B s)

    pub counted_state : state N B u ≡ unfinished case_b
    unfolding state is_case
    counted_state = state_case N B counted case_b (segments_length N B u) (like_b N B l counted left.1 (segments_length N B s) two some blanked_same is_b_lem)

    pub counted_mended : Like N (mended N l case_b) (mended N counted case_b)
    unfolding mended
    counted_mended = like_settled N l counted left.1 in_list (segments_length N B s) two some blanked_same

    pub counted_next : next_number counted ≡ next_number l
    counted_next = like_next N l counted left.1 in_list

-- a segment that is not blank
abbrev pub is_unblank : Segment → Bool
is_unblank x = is_in_use x || is_invalid x

-- the segments after an erase of the old one and the status
pub rest_segments : (N B : ℕ) (s : Image) (z : right_size N B s ≡ true) (e : state N B s ≡ unfinished case_b)
    → segments_of N B (run B (erase (next_number (segments_of N B s) % N) ∷ settle N B (next_number (segments_of N B s) - 1)) s) ≡ mended N (segments_of N B s) case_b
unfolding run
rest_segments N B s z e = settled_there N B s z e (wiped N B s z e) (wiped_size N B s z e) (wiped_segments N B s z e)

module _ (N B : ℕ) (s : Image) (z : right_size N B s ≡ true) (e : state N B s ≡ unfinished case_b) where
  abbrev list : List Segment
  list = segments_of N B s

  abbrev mark : List Step
  mark = settle N B (next_number (segments_of N B s) - 1)

  -- a blank old segment, or any other
  abbrev steps_by : Segment → List Step
  steps_by x = unless_blank x (erase_next N B list) ++ mark

  steps_blank : steps_by blank ≡ mark
  unfolding unless_blank is_in_use is_invalid
  steps_blank = refl

  steps_else : (x : Segment) → is_unblank x ≡ true → steps_by x ≡ counts N B list ++ (erase (next_number list % N) ∷ mark)
  unfolding unless_blank erase_next next_index
  steps_else x q = rw q (simp append_assoc)

  steps_b : mend_steps N B list case_b ≡ steps_by (get_or list (next_number list % N) blank)
  unfolding mend_steps next_index
  steps_b = refl

  -- what is said of both
  pub by_old : (P : Type 0) → (get_or list (next_number list % N) blank ≡ blank → mend_steps N B list case_b ≡ mark → P)
      → (is_unblank (get_or list (next_number list % N) blank) ≡ true → mend_steps N B list case_b ≡ counts N B list ++ (erase (next_number list % N) ∷ mark) → P) → P
  by_old P f g = go (get_or list (next_number list % N) blank) refl
    where
      go : (x : Segment) → get_or list (next_number list % N) blank ≡ x → P
      go blank q = f q (steps_b ∙ (ap steps_by q ∙ steps_blank))
      go invalid q = g (ap is_unblank q ∙ (unfold is_in_use is_invalid in refl)) (steps_b ∙ (ap steps_by q ∙ steps_else invalid (unfold is_in_use is_invalid in refl)))
      go (in_use ver st a ks) q = g (ap is_unblank q ∙ (unfold is_in_use in refl)) (steps_b ∙ (ap steps_by q ∙ steps_else (in_use ver st a ks) (unfold is_in_use in refl)))

  pub mended_b : Mended N B s case_b
  mended_b = by_old (Mended N B s case_b)
      (λ q d. like_of N (mended N list case_b) (segments_of N B (recovered N B s)) (ap (λ y. segments_of N B y) (recovered_run N B s case_b z e ∙ ap (λ y. run B y s) d)
      ∙ settled_there N B s z e s (size_facts N B s z).whole (sym (ap (λ (y : Segment). set list (next_number list % N) y) (sym q) ∙ set-get_or list (next_number list % N) blank))))
      (λ q d.
      let t = run B (counts N B list) s in
      let zt = run_size N B (counts N B list) s ∙ z in
      let c = whole_cut B (counts N B list) s in
      let same : segments_of N B (recovered N B s) ≡ mended N (segments_of N B t) case_b =
      ap (λ y. segments_of N B y) (recovered_run N B s case_b z e ∙ (ap (λ y. run B y s) d ∙ run_append B (counts N B list) (erase (next_number list % N) ∷ mark) s))
      ∙ (ap (λ (y : ℕ). segments_of N B (run B (erase (y % N) ∷ settle N B (y - 1)) t)) (sym (counted_next N B s z e t c)) ∙ rest_segments N B t zt (counted_state N B s z e t c)) in
      subst (λ (y : List Segment). Like N (mended N list case_b) y) (sym same) (counted_mended N B s z e t c))
