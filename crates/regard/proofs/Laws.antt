-- What the headers tell of segments: their numbers, and whether the top is owing.
use Prim.Native.Nat.{ℕ, suc, ◌+◌, ◌-◌, ◌*◌, ◌%◌, ◌<◌}
use mathlib.Core.Path.{◌≡◌, refl, sym, ap, ◌∙◌, subst}
use mathlib.Core.Bool.{Bool, true, false, cond, false≢true}
use mathlib.Core.List.{List, map}
use native.Mathlib.Omega.{arith}
use native.Mathlib.Nat.{mod-lt}
use lib.ListN.{length, get_or, take, drop, set, length-set}
use lib.Seq.{get_or-take, get_or-drop, take-set-lt}
use lib.Dec.{eqb}
use borrow.Author.Tests.{eq-eqb, ne_eqb}
use Rattle.model.specs.Chip.{Image, Page, most_segments}
use Rattle.model.specs.Header.{erase_pending, is_former, header_version, header_status, header_number, header_in_use, is_blank}
use Rattle.model.specs.Slot.{Slot}
use Rattle.model.specs.State.{Segment, blank, invalid, in_use, is_in_use, is_owing, number_after, segments_of, next_number, next_index, top_index, next_blanked}
use Rattle.model.specs.Laws.Lists.{map_set}
use Rattle.model.proofs.Laws.Ring.{owing_number, next_ge, next_at}
use Rattle.judge.specs.Rows.{slots_at}
use Rattle.judge.specs.Parts.{header_offset, slots_offset, segment_seen, segment_seen_lem}
use Rattle.std.specs.Prelude.{Option, Some, None}
use Rattle.header_seen.specs.declared.HeaderInUse.{HeaderInUse}
use Rattle.header_seen.specs.Seen.{header_seen}
use Rattle.index.proofs.Walks.{held_all, number_use}
use Rattle.descent.specs.Descent.{largest, largest_next}
use Rattle.salvage.specs.Salvage.{regarded}

-- ---- one segment

module _ (N B i : ℕ) (h : Page) (t : Bool) (ks : List Slot) where
  after_used : (x : HeaderInUse) → header_seen N B i h ≡ Some x → number_after (segment_seen N B i h t ks) ≡ x.number.0 + 1
  unfolding header_seen segment_seen number_after
  after_used x e = go (header_in_use N B i h) e
    where
      go : (b : Bool) → cond {A = Option HeaderInUse} b (Some (record { former = is_former (header_version h); status = header_status h; number = record { 0 = header_number h } })) None ≡ Some x
          → number_after (cond b (in_use (header_version h) (header_status h) (header_number h) ks) (cond t blank invalid)) ≡ x.number.0 + 1
      go true q =
          let r : ◌≡◌ {A = HeaderInUse} (record { former = is_former (header_version h); status = header_status h; number = record { 0 = header_number h } }) x = cc in
          let m : header_number h ≡ x.number.0 = ap (λ (y : HeaderInUse). y.number.0) r in
          omega arith
      go false q = absurd (let z : ◌≡◌ {A = ℕ} 0 1 = cc in omega arith)

  after_unused : header_seen N B i h ≡ None → number_after (segment_seen N B i h t ks) ≡ 0
  unfolding header_seen segment_seen number_after
  after_unused e = go (header_in_use N B i h) t e
    where
      go : (b u : Bool) → cond {A = Option HeaderInUse} b (Some (record { former = is_former (header_version h); status = header_status h; number = record { 0 = header_number h } })) None ≡ None
          → number_after (cond b (in_use (header_version h) (header_status h) (header_number h) ks) (cond u blank invalid)) ≡ 0
      go true u q = absurd (let z : ◌≡◌ {A = ℕ} 0 1 = cc in omega arith)
      go false true q = refl
      go false false q = refl

  -- of one in use the status tells it
  owing_used : is_in_use (segment_seen N B i h t ks) ≡ true → is_owing (segment_seen N B i h t ks) ≡ eqb (get_or h 5 0) erase_pending
  unfolding segment_seen is_in_use is_owing header_status
  owing_used e = go (header_in_use N B i h) t e
    where
      go : (b u : Bool) → is_in_use (cond b (in_use (header_version h) (header_status h) (header_number h) ks) (cond u blank invalid)) ≡ true
          → is_owing (cond b (in_use (header_version h) (header_status h) (header_number h) ks) (cond u blank invalid)) ≡ eqb (get_or h 5 0) erase_pending
      go true u q = refl
      go false true q = absurd (false≢true q)
      go false false q = absurd (false≢true q)

module _ (N B i : ℕ) (s : Image) (h : i < N) where
  abbrev page : Page
  page = take 256 (drop (header_offset B i) s)

  -- the header page as a part of the image
  page_is : take (i * (B + 1) * 256 + 256 - i * (B + 1) * 256) (drop (i * (B + 1) * 256) s) ≡ page
  page_is = let e : i * (B + 1) * 256 + 256 - i * (B + 1) * 256 ≡ 256 = omega arith in rw e

  abbrev is_it : Bool
  is_it = is_blank (take ((B + 1) * 256) (drop (header_offset B i) s))

  pub number_used : (r : Option HeaderInUse) (x : HeaderInUse) → r ≡ header_seen N B i (take (i * (B + 1) * 256 + 256 - i * (B + 1) * 256) (drop (i * (B + 1) * 256) s)) → r ≡ Some x
      → x.number.0 + 1 ≡ number_after (get_or (segments_of N B s) i blank)
  number_used r x e q = sym (ap number_after (segment_seen_lem N B i s h) ∙ after_used N B i page is_it (slots_at s (slots_offset B i) B) x (sym (e ∙ ap (header_seen N B i) page_is) ∙ q))

  pub number_unused : (r : Option HeaderInUse) → r ≡ header_seen N B i (take (i * (B + 1) * 256 + 256 - i * (B + 1) * 256) (drop (i * (B + 1) * 256) s)) → r ≡ None
      → 0 ≡ number_after (get_or (segments_of N B s) i blank)
  number_unused r e q = sym (ap number_after (segment_seen_lem N B i s h) ∙ after_unused N B i page is_it (slots_at s (slots_offset B i) B) (sym (e ∙ ap (header_seen N B i) page_is) ∙ q))

  status_tells : is_in_use (get_or (segments_of N B s) i blank) ≡ true → is_owing (get_or (segments_of N B s) i blank) ≡ eqb (get_or s (i * (B + 1) * 256 + 5) 0) erase_pending
  status_tells u =
      let b : get_or page 5 0 ≡ get_or s (i * (B + 1) * 256 + 5) 0 = get_or-take 256 (drop (header_offset B i) s) 5 0 (omega arith) ∙ get_or-drop (header_offset B i) s 5 0 in
      ap is_owing (segment_seen_lem N B i s h) ∙ (owing_used N B i page is_it (slots_at s (slots_offset B i) B) (sym (ap is_in_use (segment_seen_lem N B i s h)) ∙ u) ∙ ap (λ (k : ℕ). eqb k erase_pending) b)

-- ---- those that are looked at

module _ (N B : ℕ) (s : Image) (some : 0 < N) (left : List ℕ) (next : ℕ) (e : take N left ≡ map number_after (segments_of N B s)) (long : length left ≡ most_segments) (n : next ≡ largest (take N left)) where
  abbrev l : List Segment
  l = segments_of N B s

  is_next : next ≡ next_number l
  is_next = n ∙ (ap largest e ∙ largest_next l)

  -- none in use
  pub regards_none : next ≡ 0 → (take N left ≡ map number_after (regarded N (segments_of N B s))) × (length left ≡ most_segments)
  unfolding regarded
  regards_none z = (rw no e, long)
    where
      no : is_owing (get_or l (top_index N l) blank) ≡ false
      no = go (is_owing (get_or l (top_index N l) blank)) refl
        where
          go : (t : Bool) → is_owing (get_or l (top_index N l) blank) ≡ t → t ≡ false
          go true q = absurd (omega (arith, owing_number (get_or l (top_index N l) blank) q, next_ge l (top_index N l), is_next))
          go false q = refl

  module _ (more : 0 < next) where
    abbrev top : ℕ
    top = (next - 1) % N

    at_top : top ≡ top_index N l
    at_top = unfold top_index in (ap (λ (k : ℕ). (k - 1) % N) is_next)

    in_use_lem : is_in_use (get_or l top blank) ≡ true
    in_use_lem =
        let h = held_all N B s in
        let r = next_at l (omega (arith, is_next)) in
        let m : number_after (get_or l r.0 blank) ≡ suc (next - 1) = r.2 ∙ omega (arith, is_next) in
        let q : top ≡ r.0 = h.index r.0 (next - 1) (subst (λ (k : ℕ). r.0 < k) h.count r.1) m in
        number_use (get_or l top blank) (next - 1) (ap (λ (k : ℕ). number_after (get_or l k blank)) q ∙ m)

    tells : is_owing (get_or l (top_index N l) blank) ≡ eqb (get_or s (top * (B + 1) * 256 + 5) 0) erase_pending
    tells = ap (λ (k : ℕ). is_owing (get_or l k blank)) (sym at_top) ∙ status_tells N B top s (mod-lt (next - 1) some) in_use_lem

    -- the top is owing: the one after it is left aside
    pub regards_owing : get_or s ((next - 1) % N * (B + 1) * 256 + 5) 0 ≡ erase_pending → (take N (set left (next % N) 0) ≡ map number_after (regarded N (segments_of N B s))) × (length (set left (next % N) 0) ≡ most_segments)
    unfolding regarded next_blanked next_index
    regards_owing o =
        let yes : is_owing (get_or l (top_index N l) blank) ≡ true = tells ∙ eq-eqb (get_or s (top * (B + 1) * 256 + 5) 0) erase_pending o in
        let aside : take N (set left (next % N) 0) ≡ map number_after (set l (next_number l % N) blank) =
        take-set-lt N left (next % N) 0 (mod-lt next some)
        ∙ (ap (λ (z : List ℕ). set z (next % N) 0) e ∙ (ap (λ (k : ℕ). set (map number_after l) (k % N) 0) is_next ∙ sym (map_set number_after l (next_number l % N) blank ∙ ap (set (map number_after l) (next_number l % N)) (unfold number_after in refl)))) in
        (rw yes aside, length-set left (next % N) 0 ∙ long)

    pub regards_settled : (get_or s ((next - 1) % N * (B + 1) * 256 + 5) 0 ≡ erase_pending → ⊥) → (take N left ≡ map number_after (regarded N (segments_of N B s))) × (length left ≡ most_segments)
    unfolding regarded
    regards_settled o =
        let no : is_owing (get_or l (top_index N l) blank) ≡ false = tells ∙ ne_eqb (get_or s (top * (B + 1) * 256 + 5) 0) erase_pending o in
        (rw no e, long)
