-- One slot marked: the recovery of (c) and of (d), and a delete. It is one step with no inside, so that a cut does it or not.
use Prim.Native.Nat.{ℕ, suc, ◌+◌, ◌-◌, ◌*◌, ◌%◌, ◌<◌}
use Rattle.std.specs.Prelude.{◌≡◌, ◌⊎◌, true, ◌&&◌, length, set, ltb, eqb}
use Rattle.std.proofs.Math.Path.{refl}
use Rattle.std.proofs.Common.{sym, ap, ◌∙◌, subst, ⊎_elim, arith, eqb-true, eq-eqb, lt-ltb}
use Rattle.std.proofs.lemmas.Bool.{false≢true}
use mathlib.Core.List.{List, [], ◌++◌, flatten}
use Rattle.std.proofs.Math.Decide.{dec_lt}
use Rattle.std.proofs.Math.ListN.{get_or, get_or-eq_default}
use Rattle.model.specs.Chip.{Image, Page, clear, run, right_size, Cut}
use Rattle.model.specs.Header.{Version}
use Rattle.model.specs.Slot.{Slot, empty, torn, dead, cut, wrong, live, slot_of, is_torn, entry_of}
use Rattle.model.specs.State.{Segment, blank, invalid, in_use, segments_of, slots_in, next_number, top_index, top_slots, used_count, first_number, slots_from, view_of, entries, entries_in, holds, is_clean, with_slot, last_slot, last_kind, torn_marked, is_c, Place, place_of, last_block, copies, older, older_marked, is_d, Exception, case_c, case_d, unfinished, state}
use Rattle.model.specs.Steps.{on_page, slot_at, mark_dead, mark_place, mend_steps}
use Rattle.model.specs.Table.{present, lookup}
use Rattle.model.specs.Answers.{recover}
use Rattle.model.specs.Histories.{recovered}
use Rattle.model.specs.Laws.Lists.{and_left, and_right}
use Rattle.model.proofs.Laws.Chip.{SizeFacts, size_facts}
use Rattle.model.proofs.Laws.Bytes.{OneBit}
use Rattle.model.proofs.Laws.SlotPage.{Markable, live_markable, torn_markable}
use Rattle.model.proofs.Laws.PageCuts.{one_bit_cut, mark_bit}
use Rattle.model.proofs.Laws.Tables.{holds_copies, lookup_append}
use Rattle.model.proofs.Laws.Segments.{part_of, page_byte}
use Rattle.model.proofs.Laws.Effects.{index, slot_kind, slot_count, mark_effect}
use Rattle.model.proofs.Laws.Ring.{slots_get, slots_length}
use Rattle.bridge.specs.Views.Places.{Gap, earlier, later, fill_entries, fill_length, FirstLive, first_live, gap_slot}
use Rattle.crash.specs.Sound.{Sound, CutOf}
use Rattle.crash.specs.Alike.{Like, like_of}
use Rattle.crash.specs.Tops.{SameTop, same_image, same_slot}
use Rattle.crash.proofs.States.{is_case, mended, case_of, recover_steps_lem, recovered_run, Kept, kept_same, Mended, kept_clean}

-- ---- slots that can be marked, and what they become

abbrev pub Marks : Slot → Slot → Type 0
Marks empty x = ⊥
Marks torn x = x ≡ cut
Marks dead x = ⊥
Marks cut x = ⊥
Marks wrong x = ⊥
Marks (live b c) x = x ≡ dead

marks_page : (p : Page) (x : Slot) → Marks (slot_of p) x → Markable (get_or p 0 0) x
marks_page p x m = go (slot_of p) refl m
  where
    go : (k : Slot) → slot_of p ≡ k → Marks k x → Markable (get_or p 0 0) x
    go empty e h = absurd h
    go torn e h = rw h (torn_markable p e)
    go dead e h = absurd h
    go cut e h = absurd h
    go wrong e h = absurd h
    go (live b c) e h = rw h (live_markable p b c e)

-- a slot that can be marked is one of a segment in use
marks_in_use : (x : Segment) (j : ℕ) (y : Slot) → Marks (get_or (slots_in x) j empty) y → (ver : Version) × (st : ℕ) × (n : ℕ) × (x ≡ in_use ver st n (slots_in x))
unfolding slots_in
marks_in_use blank j y m = absurd m
marks_in_use invalid j y m = absurd m
marks_in_use (in_use ver st n ks) j y m = (ver, st, n, refl)

marks_inside : (ks : List Slot) (j : ℕ) (x : Slot) → Marks (get_or ks j empty) x → j < length ks
marks_inside ks j x m = elim (dec_lt j (length ks)) [ yes p ↦ p | no p ↦ absurd (subst (λ k. Marks k x) (get_or-eq_default ks empty (omega arith)) m) ]

module _ (N B : ℕ) (s : Image) (z : right_size N B s ≡ true) (k j : ℕ) (x : Slot) (m : Marks (get_or (slots_in (get_or (segments_of N B s) (k % N) blank)) j empty) x) where
  size : SizeFacts N B s
  size = size_facts N B s z

  abbrev row : List Slot
  row = slots_in (get_or (segments_of N B s) (k % N) blank)

  used : (ver : Version) × (st : ℕ) × (n : ℕ) × (get_or (segments_of N B s) (k % N) blank ≡ in_use ver st n row)
  used = marks_in_use (get_or (segments_of N B s) (k % N) blank) j x m

  -- a segment in use has B slots, and this is one of them
  pub slot_inside : j < B
  slot_inside = omega (arith, marks_inside row j x m, slot_count N B size.two s size.whole k 0 used.0 used.1 used.2 row (omega (arith, size.slots)) used.3)

  -- its page has that kind
  pub page_kind : slot_of (get_or (part_of N B (k % N) s) (suc j) []) ≡ get_or (slots_in (get_or (segments_of N B s) (k % N) blank)) j empty
  page_kind = slot_kind N B size.two s size.whole k j used.0 used.1 used.2 row slot_inside used.3

  markable : Markable (get_or (get_or (part_of N B (k % N) s) (suc j) []) 0 0) x
  markable = marks_page (get_or (part_of N B (k % N) s) (suc j) []) x (subst (λ y. Marks y x) (sym page_kind) m)

  pub mark_segments : segments_of N B (run B (mark_place N B (record { number = k; slot = j })) s) ≡ set (segments_of N B s) (k % N) (with_slot j x (get_or (segments_of N B s) (k % N) blank))
  unfolding mark_place
  mark_segments = mark_effect N B size.two s size.whole k j used.0 used.1 used.2 row slot_inside used.3 x markable

  pub mark_whole : (u : Image) → Cut B (mark_place N B (record { number = k; slot = j })) s u → (u ≡ s) ⊎ (u ≡ run B (mark_place N B (record { number = k; slot = j })) s)
  unfolding mark_place on_page mark_dead slot_at
  mark_whole u c = one_bit_cut B ((k % N * (B + 1) + suc j) * 256 + 0) 0xDF s u one_bit c
    where
      byte : get_or (get_or (part_of N B (k % N) s) (suc j) []) 0 0 ≡ get_or s ((k % N * (B + 1) + suc j) * 256 + 0) 0
      byte = page_byte N B (k % N) (suc j) 0 s (index N B size.two s size.whole k) (omega (arith, slot_inside)) (omega arith)

      one_bit : OneBit (clear (get_or s ((k % N * (B + 1) + suc j) * 256 + 0) 0) 0xDF) (get_or s ((k % N * (B + 1) + suc j) * 256 + 0) 0)
      one_bit = mark_bit (get_or s ((k % N * (B + 1) + suc j) * 256 + 0) 0) x (subst (λ y. Markable y x) byte markable)

-- ---- the first live slot of a block

-- what stands at its place, and that this is what the table has
pub record LivePlace (N : ℕ) (l : List Segment) (b : ℕ) : Type 0 where
  pub contents : List ℕ
  pub slot : get_or (slots_in (get_or l ((place_of b (view_of N l)).number % N) blank)) (place_of b (view_of N l)).slot empty ≡ live b contents
  pub found : lookup b (entries_in (view_of N l)) ≡ present contents

pub live_place : (N : ℕ) (l : List Segment) (b : ℕ) → holds b (entries_in (view_of N l)) ≡ true → LivePlace N l b
unfolding entries_in place_of view_of
live_place N l b h = record { contents = f.contents; slot = at; found = looked }
  where
    rows : List (List Slot)
    rows = slots_from N l (used_count l) (first_number l)

    f : FirstLive b (first_number l) rows
    f = first_live b (first_number l) rows h

    g : Gap
    g = f.gap

    row : get_or rows (length g.rows_before) [] ≡ slots_in (get_or l ((first_number l + length g.rows_before) % N) blank)
    row =
        let e : length rows ≡ length g.rows_before + suc (length g.rows_after) = ap length f.split ∙ fill_length g (live b f.contents) in
        slots_get N l (used_count l) (first_number l) (length g.rows_before) (omega (arith, e, slots_length N l (used_count l) (first_number l)))

    at : get_or (slots_in (get_or l ((place_of b (view_of N l)).number % N) blank)) (place_of b (view_of N l)).slot empty ≡ live b f.contents
    at = ap (λ (p : Place). get_or (slots_in (get_or l (p.number % N) blank)) p.slot empty) f.place
        ∙ (ap (λ (y : List Slot). get_or y (length g.before) empty) (sym row)
        ∙ (ap (λ (y : List (List Slot)). get_or (get_or y (length g.rows_before) []) (length g.before) empty) f.split ∙ gap_slot g (live b f.contents)))

    looked : lookup b (entries (flatten rows)) ≡ present f.contents
    looked = ap (λ (y : List (List Slot)). lookup b (entries (flatten y))) f.split
        ∙ (ap (λ y. lookup b y) (fill_entries g (live b f.contents))
        ∙ (lookup_append b (entries (earlier g)) (entry_of (live b f.contents) ++ entries (later g))
        ∙ rw f.first (unfold lookup entry_of in (rw (eq-eqb b b refl)))))

pub live_marks : {N : ℕ} {l : List Segment} {b : ℕ} (p : LivePlace N l b) → Marks (get_or (slots_in (get_or l ((place_of b (view_of N l)).number % N) blank)) (place_of b (view_of N l)).slot empty) dead
live_marks p = subst (λ k. Marks k dead) (sym p.slot) refl

-- ---- (c) and (d)

-- the slot that is marked is torn in (c), and live in (d)
pub last_marks : (N B : ℕ) (l : List Segment) → is_case N B l case_c ≡ true → Marks (get_or (slots_in (get_or l ((next_number l - 1) % N) blank)) (last_slot N l) empty) cut
unfolding is_case is_c last_kind top_slots top_index
last_marks N B l h = torn_marks (last_kind N l) (and_left (is_torn (last_kind N l)) (is_clean N B (torn_marked N l)) h)
  where
    torn_marks : (k : Slot) → is_torn k ≡ true → Marks k cut
    torn_marks empty e = absurd (false≢true (unfold is_torn in e))
    torn_marks torn e = refl
    torn_marks dead e = absurd (false≢true (unfold is_torn in e))
    torn_marks cut e = absurd (false≢true (unfold is_torn in e))
    torn_marks wrong e = absurd (false≢true (unfold is_torn in e))
    torn_marks (live b c) e = absurd (false≢true (unfold is_torn in e))

pub older_marks : (N B : ℕ) (l : List Segment) → is_case N B l case_d ≡ true → Marks (get_or (slots_in (get_or l ((older N l).number % N) blank)) (older N l).slot empty) dead
unfolding is_case is_d older
older_marks N B l h =
    let b = last_block N l in
    let q = and_right (ltb 0 b) (eqb (copies b (entries_in (view_of N l))) 2 && is_clean N B (older_marked N l)) h in
    let c : copies b (entries_in (view_of N l)) ≡ 2 = eqb-true (copies b (entries_in (view_of N l))) 2 (and_left (eqb (copies b (entries_in (view_of N l))) 2) (is_clean N B (older_marked N l)) q) in
    live_marks (live_place N l b (holds_copies b (entries_in (view_of N l)) ∙ lt-ltb 0 (copies b (entries_in (view_of N l))) (omega arith)))

-- the place that a recovery marks, and what the slot there becomes
record OneMark (N B : ℕ) (l : List Segment) (x : Exception) : Type 0 where
  place : Place
  kind : Slot
  marks : Marks (get_or (slots_in (get_or l (place.number % N) blank)) place.slot empty) kind
  steps : mend_steps N B l x ≡ mark_place N B place
  same : mended N l x ≡ set l (place.number % N) (with_slot place.slot kind (get_or l (place.number % N) blank))

mark_c : (N B : ℕ) (l : List Segment) → is_case N B l case_c ≡ true → OneMark N B l case_c
unfolding top_index mended torn_marked mend_steps
mark_c N B l h = record { place = record { number = next_number l - 1; slot = last_slot N l }; kind = cut; marks = last_marks N B l h; steps = refl; same = refl }

mark_d : (N B : ℕ) (l : List Segment) → is_case N B l case_d ≡ true → OneMark N B l case_d
unfolding older_marked mended mend_steps
mark_d N B l h = record { place = older N l; kind = dead; marks = older_marks N B l h; steps = refl; same = refl }

module _ (N B : ℕ) (s : Image) (z : right_size N B s ≡ true) (x : Exception) (e : state N B s ≡ unfinished x) (o : OneMark N B (segments_of N B s) x) where
  one_recovered : recovered N B s ≡ run B (mark_place N B o.place) s
  one_recovered = recovered_run N B s x z e ∙ ap (λ y. run B y s) o.steps

  one_mended : Mended N B s x
  one_mended = like_of N (mended N (segments_of N B s) x) (segments_of N B (recovered N B s))
      (ap (λ y. segments_of N B y) one_recovered ∙ (mark_segments N B s z o.place.number o.place.slot o.kind o.marks ∙ sym o.same))

  one_cut : (u : Image) → Sound N B s → CutOf N B s recover u → Kept N B s u
  one_cut u h c = ⊎_elim (λ q. kept_same N B s u h q) (λ q. kept_clean N B s x z e one_mended u (subst (λ (y : Image). Like N (mended N (segments_of N B s) x) (segments_of N B y)) (sym (q ∙ sym one_recovered)) one_mended))
      (mark_whole N B s z o.place.number o.place.slot o.kind o.marks u (rw (recover_steps_lem N B s x z e ∙ o.steps) at c))

  one_top : (u : Image) → CutOf N B s recover u → SameTop N B s u
  one_top u c = ⊎_elim (λ q. same_image N B s u q)
      (λ q. same_slot N B s u (o.place.number % N) o.place.slot o.kind (ap (λ y. segments_of N B y) q ∙ mark_segments N B s z o.place.number o.place.slot o.kind o.marks))
      (mark_whole N B s z o.place.number o.place.slot o.kind o.marks u (rw (recover_steps_lem N B s x z e ∙ o.steps) at c))

module _ (N B : ℕ) (s : Image) (z : right_size N B s ≡ true) where
  the_c : state N B s ≡ unfinished case_c → OneMark N B (segments_of N B s) case_c
  unfolding state
  the_c e = mark_c N B (segments_of N B s) (case_of N B (segments_of N B s) case_c e)

  the_d : state N B s ≡ unfinished case_d → OneMark N B (segments_of N B s) case_d
  unfolding state
  the_d e = mark_d N B (segments_of N B s) (case_of N B (segments_of N B s) case_d e)

  pub mended_c : state N B s ≡ unfinished case_c → Mended N B s case_c
  mended_c e = one_mended N B s z case_c e (the_c e)

  pub mended_d : state N B s ≡ unfinished case_d → Mended N B s case_d
  mended_d e = one_mended N B s z case_d e (the_d e)

  pub cut_c : (u : Image) → state N B s ≡ unfinished case_c → Sound N B s → CutOf N B s recover u → Kept N B s u
  cut_c u e h c = one_cut N B s z case_c e (the_c e) u h c

  pub cut_d : (u : Image) → state N B s ≡ unfinished case_d → Sound N B s → CutOf N B s recover u → Kept N B s u
  cut_d u e h c = one_cut N B s z case_d e (the_d e) u h c

  pub top_c : (u : Image) → state N B s ≡ unfinished case_c → CutOf N B s recover u → SameTop N B s u
  top_c u e c = one_top N B s z case_c e (the_c e) u c

  pub top_d : (u : Image) → state N B s ≡ unfinished case_d → CutOf N B s recover u → SameTop N B s u
  top_d u e c = one_top N B s z case_d e (the_d e) u c
