-- What each list of steps makes of the segments: a slot written or marked, a segment opened, copied to, settled or erased.
use Rattle.std.specs.Prelude.{ℕ, zero, suc, ◌+◌, ◌-◌, ◌*◌, ◌%◌, ◌≤◌, ◌<◌, ◌≡◌, refl, Bool, false, cond, length, get_or, drop, set, replicate}
use Rattle.std.proofs.Common.{sym, ap₂, ◌∙◌, mod-lt, length-drop, get_or-drop}
use Rattle.std.proofs.Math.Path.{ap}
use Rattle.std.proofs.Math.Bool.{true}
use Rattle.std.proofs.lemmas.Bool.{false≢true}
use mathlib.Core.List.{List, [], ◌∷◌, map}
use native.Mathlib.Omega.{arith}
use Rattle.model.specs.Lists.{all, chunk}
use Rattle.model.specs.Chip.{Image, Page, Step, erase, erased, with_segment, step, run, most_segments, erase_limit, number_limit, image_length, Cut}
use Rattle.model.specs.Header.{opened, erase_pending, compacted, Version, new_version, total_fits, no_old_segment, status_in_use, header_page, header_status, header_number, header_version, old_index, header_in_use, is_blank, all_blank}
use Rattle.model.specs.Slot.{Slot, empty, live, slot_of}
use Rattle.model.specs.State.{Segment, blank, invalid, in_use, segment_of, segments_of, number_after, next_number, with_slot}
use Rattle.model.specs.Steps.{on_page, header_at, slot_at, write_slot, mark_dead, open_segment, settle}
use Rattle.model.specs.Laws.Lists.{all_get, map_set, map_length, map_get}
use Rattle.model.specs.Laws.Chunk.{chunk_replicate}
use Rattle.model.proofs.Laws.Bytes.{blank_erased, erased_blank, erased_length}
use Rattle.model.proofs.Laws.Pages.{InPage}
use Rattle.model.proofs.Laws.HeaderPage.{header_status_lem, header_number_lem, header_version_lem, new_fits, header_in_use_lem, number_fits, in_use_facts, opening_header, settled_header, open_segment_page, settle_page, opening_in_page, settled_in_page, opening_run, settled_run, erased_unused}
use Rattle.model.proofs.Laws.SlotPage.{Valid, slot_live, erased_empty, empty_erased, Markable, marked_kind, mark_in_page, write_in_page, write_run}
use Rattle.model.proofs.Laws.Ring.{next_at}
use Rattle.model.proofs.Laws.Segments.{part_of, part_size, page_size, segment_at, segments_length, Only, only_segments, only_part, page_in_segment, only_run, only_cut, part_run, part_cut, replaced_parts, erased_image}

-- ---- a segment, taken apart

-- what a segment in use says of its pages
pub record InUseParts (N B i : ℕ) (ps : List Page) (ver : Version) (st n : ℕ) (ks : List Slot) : Type 0 where
  pub header : header_in_use N B i (get_or ps 0 []) ≡ true
  pub version : header_version (get_or ps 0 []) ≡ ver
  pub status : header_status (get_or ps 0 []) ≡ st
  pub number : header_number (get_or ps 0 []) ≡ n
  pub slots : map slot_of (drop 1 ps) ≡ ks

in_use_only : (v : Version) (a b : ℕ) (x : List Slot) (w : Version) (c d : ℕ) (y : List Slot) → in_use v a b x ≡ in_use w c d y → (v ≡ w) × (a ≡ c) × (b ≡ d) × (x ≡ y)
in_use_only v a b x w c d y e = (cc, cc, cc, cc)

pub in_use_parts : (N B i : ℕ) (ps : List Page) (ver : Version) (st n : ℕ) (ks : List Slot) → segment_of N B i ps ≡ in_use ver st n ks → InUseParts N B i ps ver st n ks
unfolding segment_of
in_use_parts N B i ps ver st n ks e = go (header_in_use N B i (get_or ps 0 [])) refl (all_blank ps) e
  where
    go : (t : Bool) → header_in_use N B i (get_or ps 0 []) ≡ t → (b : Bool)
        → cond t (in_use (header_version (get_or ps 0 [])) (header_status (get_or ps 0 [])) (header_number (get_or ps 0 [])) (map slot_of (drop 1 ps))) (cond b blank invalid) ≡ in_use ver st n ks → InUseParts N B i ps ver st n ks
    go true h b q = let r = in_use_only (header_version (get_or ps 0 [])) (header_status (get_or ps 0 [])) (header_number (get_or ps 0 [])) (map slot_of (drop 1 ps)) ver st n ks q in
        record { header = h; version = r.0; status = r.1; number = r.2; slots = r.3 }
    go false h true q = absurd (false≢true cc)
    go false h false q = absurd (false≢true cc)

-- a segment in use has a number below the limit, and the index of that number
pub numbered_at : (N B : ℕ) (s : Image) (i n : ℕ) → i < N → number_after (get_or (segments_of N B s) i blank) ≡ suc n → (n % N ≡ i) × (n < number_limit N)
unfolding number_after
numbered_at N B s i n h e = go (get_or (segments_of N B s) i blank) refl e
  where
    go : (x : Segment) → get_or (segments_of N B s) i blank ≡ x → number_after x ≡ suc n → (n % N ≡ i) × (n < number_limit N)
    go blank q d = absurd (omega arith)
    go invalid q d = absurd (omega arith)
    go (in_use ver st m ks) q d =
        let u = in_use_parts N B i (part_of N B i s) ver st m ks (sym (segment_at N B i s h) ∙ q) in
        let f = in_use_facts N B i (get_or (part_of N B i s) 0 []) u.header in
        let w : header_number (get_or (part_of N B i s) 0 []) ≡ n = u.number ∙ omega arith in
        (rw w at f.place, rw w at f.below)

-- so the segment with the largest number stands at that number's index
pub top_at : (N B : ℕ) (s : Image) → 0 < next_number (segments_of N B s) → number_after (get_or (segments_of N B s) ((next_number (segments_of N B s) - 1) % N) blank) ≡ next_number (segments_of N B s)
top_at N B s h =
    let l = segments_of N B s in
    let r = next_at l h in
    let q = numbered_at N B s r.0 (next_number l - 1) (omega (arith, r.1, segments_length N B s)) (r.2 ∙ omega arith) in
    ap (λ (y : ℕ). number_after (get_or l y blank)) q.0 ∙ r.2

-- a header in use
pub segment_in_use : (N B i : ℕ) (ps : List Page) → header_in_use N B i (get_or ps 0 []) ≡ true
    → segment_of N B i ps ≡ in_use (header_version (get_or ps 0 [])) (header_status (get_or ps 0 [])) (header_number (get_or ps 0 [])) (map slot_of (drop 1 ps))
unfolding segment_of
segment_in_use N B i ps h = rw h

pub blank_parts : (N B i : ℕ) (ps : List Page) → segment_of N B i ps ≡ blank → all_blank ps ≡ true
unfolding segment_of
blank_parts N B i ps e = go (header_in_use N B i (get_or ps 0 [])) (all_blank ps) refl e
  where
    go : (t b : Bool) → all_blank ps ≡ b → cond t (in_use (header_version (get_or ps 0 [])) (header_status (get_or ps 0 [])) (header_number (get_or ps 0 [])) (map slot_of (drop 1 ps))) (cond b blank invalid) ≡ blank → all_blank ps ≡ true
    go t true h q = h
    go true false h q = cc
    go false false h q = cc

pages_blank : (c : ℕ) → all is_blank (replicate c (erased 256)) ≡ true
unfolding all
pages_blank zero = refl
pages_blank (suc c) = rw (erased_blank 256, pages_blank c)

-- one slot page of a segment in use replaced
pub slot_part : (N B i j : ℕ) (ps : List Page) (x : Page) → header_in_use N B i (get_or ps 0 []) ≡ true → segment_of N B i (set ps (suc j) x) ≡ with_slot j (slot_of x) (segment_of N B i ps)
unfolding segment_of with_slot
slot_part N B i j ps x h = rw (header ps, h, slots ps)
  where
    header : (qs : List Page) → get_or (set qs (suc j) x) 0 [] ≡ get_or qs 0 []
    header [] = refl
    header (q ∷ qs) = refl

    slots : (qs : List Page) → map slot_of (drop 1 (set qs (suc j) x)) ≡ set (map slot_of (drop 1 qs)) j (slot_of x)
    slots [] = refl
    slots (q ∷ qs) = map_set slot_of qs j x

-- the header page replaced
pub head_part : (N B i : ℕ) (ps : List Page) (h : Page) → 0 < length ps → header_in_use N B i h ≡ true
    → segment_of N B i (set ps 0 h) ≡ in_use (header_version h) (header_status h) (header_number h) (map slot_of (drop 1 ps))
head_part N B i [] h l e = absurd (omega arith)
head_part N B i (p ∷ ps) h l e = segment_in_use N B i (h ∷ ps) e

module _ (N B : ℕ) (two : 2 ≤ N) (s : Image) (z : length s ≡ image_length N B) where
  pub index : (n : ℕ) → n % N < N
  index n = let p : 0 < N = omega arith in mod-lt n p

  -- the pages of a blank segment are erased
  pub blank_page : (i q : ℕ) → i < N → q < B + 1 → get_or (segments_of N B s) i blank ≡ blank → get_or (part_of N B i s) q [] ≡ erased 256
  unfolding all_blank
  blank_page i q h k e =
      let b : all is_blank (part_of N B i s) ≡ true = blank_parts N B i (part_of N B i s) (sym (segment_at N B i s h) ∙ e) in
      let len = page_size N B i q s z h k in
      blank_erased (get_or (part_of N B i s) q []) (all_get is_blank (part_of N B i s) q [] b (omega (arith, part_size N B i s h))) ∙ ap erased len

  pub blank_slots : (i : ℕ) → i < N → get_or (segments_of N B s) i blank ≡ blank → map slot_of (drop 1 (part_of N B i s)) ≡ replicate B empty
  blank_slots i h e = each (drop 1 (part_of N B i s)) B (length-drop 1 (part_of N B i s) ∙ omega (arith, part_size N B i s h))
      (λ q k. get_or-drop 1 (part_of N B i s) q [] ∙ blank_page i (1 + q) h (omega arith) e)
    where
      each : (ps : List Page) (c : ℕ) → length ps ≡ c → ((q : ℕ) → q < c → get_or ps q [] ≡ erased 256) → map slot_of ps ≡ replicate c empty
      each [] zero l f = refl
      each [] (suc c) l f = absurd (omega arith)
      each (p ∷ ps) zero l f = absurd (omega arith)
      each (p ∷ ps) (suc c) l f = ap₂ {C = List Slot} (λ x xs. x ∷ xs) (ap slot_of (f 0 (omega arith)) ∙ erased_empty) (each ps c (omega arith) (λ q k. f (suc q) (omega arith)))

  -- ---- steps in one slot

  module _ (k j : ℕ) (ver : Version) (st n : ℕ) (ks : List Slot) (inside : j < B) (used : get_or (segments_of N B s) (k % N) blank ≡ in_use ver st n ks) where
    -- its page, and its kind
    abbrev pub slot_page_at : Page
    slot_page_at = get_or (part_of N B (k % N) s) (suc j) []

    used_parts : InUseParts N B (k % N) (part_of N B (k % N) s) ver st n ks
    used_parts = in_use_parts N B (k % N) (part_of N B (k % N) s) ver st n ks (sym (segment_at N B (k % N) s (index k)) ∙ used)

    pub slot_kind : slot_of slot_page_at ≡ get_or ks j empty
    slot_kind =
        let ps = part_of N B (k % N) s in
        let l : j < length (drop 1 ps) = omega (arith, length-drop 1 ps, part_size N B (k % N) s (index k)) in
        let e : 1 + j ≡ suc j = omega arith in
        ap slot_of (sym (rw e at (get_or-drop 1 ps j []))) ∙ (sym (map_get slot_of (drop 1 ps) j [] empty l) ∙ ap (λ (y : List Slot). get_or y j empty) used_parts.slots)

    pub slot_page_size : length slot_page_at ≡ 256
    slot_page_size = page_size N B (k % N) (suc j) s z (index k) (omega arith)

    pub slot_count : length ks ≡ B
    slot_count = let ps = part_of N B (k % N) s in
        sym (ap length used_parts.slots) ∙ (map_length slot_of (drop 1 ps) ∙ (length-drop 1 ps ∙ omega (arith, part_size N B (k % N) s (index k))))

    abbrev at : ℕ
    at = k % N * (B + 1) + suc j

    slot_only : (xs : List Step) (p : InPage xs) (u : Image) → Only N B (k % N) s u → (x : Page) → part_of N B (k % N) u ≡ set (part_of N B (k % N) s) (suc j) x
        → segments_of N B u ≡ set (segments_of N B s) (k % N) (with_slot j (slot_of x) (get_or (segments_of N B s) (k % N) blank))
    slot_only xs p u o x e = only_segments N B (k % N) s u o
        ∙ ap (λ (y : Segment). set (segments_of N B s) (k % N) y) (ap (λ y. segment_of N B (k % N) y) e
        ∙ (slot_part N B (k % N) j (part_of N B (k % N) s) x used_parts.header ∙ ap (λ y. with_slot j (slot_of x) y) (sym (segment_at N B (k % N) s (index k)))))

    pub slot_run : (xs : List Step) → InPage xs
        → segments_of N B (run B (on_page (slot_at N B k j) xs) s) ≡ set (segments_of N B s) (k % N) (with_slot j (slot_of (run B xs slot_page_at)) (get_or (segments_of N B s) (k % N) blank))
    unfolding slot_at
    slot_run xs p = slot_only xs p (run B (on_page at xs) s)
        (only_run N B (k % N) (on_page at xs) s (index k) (page_in_segment B (k % N) (suc j) xs (omega arith) p)) (run B xs slot_page_at)
        (part_run N B (k % N) (suc j) (index k) (omega arith) xs p s z)

    -- what a cut leaves: some page that is a cut of that page alone
    pub slot_cut : (xs : List Step) → InPage xs → (u : Image) → Cut B (on_page (slot_at N B k j) xs) s u
        → (x : Page) × Cut B xs slot_page_at x × (segments_of N B u ≡ set (segments_of N B s) (k % N) (with_slot j (slot_of x) (get_or (segments_of N B s) (k % N) blank)))
    unfolding slot_at
    slot_cut xs p u c = let r = part_cut N B (k % N) (suc j) (index k) (omega arith) xs p s z u c in
        (r.0, r.1, slot_only xs p u (only_cut N B (k % N) (on_page at xs) s u (index k) (page_in_segment B (k % N) (suc j) xs (omega arith) p) c) r.0 r.2)

    -- a slot marked
    pub mark_effect : (x : Slot) → Markable (get_or slot_page_at 0 0) x → segments_of N B (run B (on_page (slot_at N B k j) mark_dead) s) ≡ set (segments_of N B s) (k % N) (with_slot j x (get_or (segments_of N B s) (k % N) blank))
    mark_effect x m = slot_run mark_dead mark_in_page ∙ ap (λ (y : Slot). set (segments_of N B s) (k % N) (with_slot j y (get_or (segments_of N B s) (k % N) blank))) (marked_kind B slot_page_at x m)

    -- an empty slot written
    pub empty_page : get_or ks j empty ≡ empty → slot_page_at ≡ erased 256
    empty_page e = empty_erased slot_page_at (slot_kind ∙ e) ∙ ap erased slot_page_size

    pub write_effect : (b : ℕ) (c : List ℕ) → Valid b c → get_or ks j empty ≡ empty
        → segments_of N B (run B (on_page (slot_at N B k j) (write_slot b c)) s) ≡ set (segments_of N B s) (k % N) (with_slot j (live b c) (get_or (segments_of N B s) (k % N) blank))
    write_effect b c v e = slot_run (write_slot b c) (write_in_page b c v.short)
        ∙ ap (λ (y : Slot). set (segments_of N B s) (k % N) (with_slot j y (get_or (segments_of N B s) (k % N) blank)))
        (ap (λ (y : Page). slot_of (run B (write_slot b c) y)) (empty_page e) ∙ (ap slot_of (write_run B b c v) ∙ slot_live b c v.number v.short))

  -- ---- an erase

  pub erase_effect : (i : ℕ) → i < N → segments_of N B (step B (erase i) s) ≡ set (segments_of N B s) i blank
  erase_effect i h =
      let u = with_segment B i (erased ((B + 1) * 256)) s in
      let r = only_part N B i s u (chunk (B + 1) 256 (erased ((B + 1) * 256))) h (replaced_parts N B i h s z (erased ((B + 1) * 256)) (erased_length ((B + 1) * 256))) in
      ap (λ y. segments_of N B y) (erased_image N B i h s z) ∙ (only_segments N B i s u r.0 ∙ ap (λ (y : Segment). set (segments_of N B s) i y) (ap (λ y. segment_of N B i y) (r.1 ∙ pages) ∙ is_blank_lem))
    where
      pages : chunk (B + 1) 256 (erased ((B + 1) * 256)) ≡ replicate (B + 1) (erased 256)
      pages = unfold erased in chunk_replicate (B + 1) 256 255

      first : (c : ℕ) → 0 < c → get_or (replicate c (erased 256)) 0 [] ≡ erased 256
      first zero q = absurd (omega arith)
      first (suc c) q = refl

      is_blank_lem : segment_of N B i (replicate (B + 1) (erased 256)) ≡ blank
      is_blank_lem = unfold segment_of all_blank in rw (first (B + 1) (omega arith), erased_unused N B i, pages_blank (B + 1))

-- ---- header steps

-- a header status in use
pub open_status : status_in_use opened ≡ true
unfolding status_in_use
open_status = refl

pub pending_status : status_in_use erase_pending ≡ true
unfolding status_in_use
pending_status = refl

pub compacted_status : status_in_use compacted ≡ true
unfolding status_in_use
compacted_status = refl

pub open_old : (N i : ℕ) → old_index N i opened ≡ no_old_segment
unfolding old_index
open_old N i = refl

pub pending_old : (N i : ℕ) → old_index N i erase_pending ≡ (i + 1) % N
unfolding old_index
pending_old N i = refl

pub compacted_old : (N i : ℕ) → old_index N i compacted ≡ (i + 1) % N
unfolding old_index
compacted_old N i = refl

-- a segment with a finished header
pub headed : (N B : ℕ) (ver : Version) (st n : ℕ) (ps : List Page) → N ≤ most_segments → status_in_use st ≡ true → total_fits ver ≡ true → n < number_limit N → 0 < length ps
    → segment_of N B (n % N) (set ps 0 (header_page N B ver st n (old_index N (n % N) st))) ≡ in_use ver st n (map slot_of (drop 1 ps))
headed N B ver st n ps m e t l p =
    let old = old_index N (n % N) st in
    let h = header_page N B ver st n old in
    head_part N B (n % N) ps h p (header_in_use_lem N B ver st n m e t l)
    ∙ (ap (λ y. in_use y (header_status h) (header_number h) (map slot_of (drop 1 ps))) (header_version_lem N B ver st n old t)
    ∙ ap₂ (λ a b. in_use ver a b (map slot_of (drop 1 ps))) (header_status_lem N B ver st n old) (header_number_lem N B ver st n old (number_fits N n m l)))

module _ (N B : ℕ) (two : 2 ≤ N) (most : N ≤ most_segments) (most_b : B < 256) (s : Image) (z : length s ≡ image_length N B) (n : ℕ) (below : n < number_limit N) where
  pub place : n % N < N
  place = index N B two s z n

  pub few : N < 256
  few = let h : N ≤ most_segments = most in omega arith

  abbrev header_at_lem : ℕ
  header_at_lem = n % N * (B + 1) + 0

  at_header : (xs : List Step) → on_page (header_at N B n) xs ≡ on_page header_at_lem xs
  unfolding header_at
  at_header xs = let e : n % N * (B + 1) + 0 ≡ n % N * (B + 1) = omega arith in rw e

  pub header_only : (xs : List Step) → InPage xs → (u : Image) → Cut B (on_page (header_at N B n) xs) s u → Only N B (n % N) s u
  header_only xs p u c = only_cut N B (n % N) (on_page header_at_lem xs) s u place (page_in_segment B (n % N) 0 xs (omega arith) p) (rw (at_header xs) at c)

  pub header_run : (xs : List Step) → InPage xs → Only N B (n % N) s (run B (on_page (header_at N B n) xs) s)
      × (part_of N B (n % N) (run B (on_page (header_at N B n) xs) s) ≡ set (part_of N B (n % N) s) 0 (run B xs (get_or (part_of N B (n % N) s) 0 [])))
  header_run xs p = rw (at_header xs)
      (only_run N B (n % N) (on_page header_at_lem xs) s place (page_in_segment B (n % N) 0 xs (omega arith) p), part_run N B (n % N) 0 place (omega arith) xs p s z)

  -- what a cut of them leaves: some page that is a cut of the header alone
  pub header_cut : (xs : List Step) → InPage xs → (u : Image) → Cut B (on_page (header_at N B n) xs) s u
      → (x : Page) × Cut B xs (get_or (part_of N B (n % N) s) 0 []) x × (part_of N B (n % N) u ≡ set (part_of N B (n % N) s) 0 x)
  header_cut xs p u c = part_cut N B (n % N) 0 place (omega arith) xs p s z u (rw (at_header xs) at c)

  -- a blank segment opened, with a total that fits
  pub open_effect : (t : ℕ) → t < erase_limit → get_or (segments_of N B s) (n % N) blank ≡ blank
      → segments_of N B (run B (open_segment N B (new_version t) n) s) ≡ set (segments_of N B s) (n % N) (in_use (new_version t) opened n (replicate B empty))
  open_effect t fits e =
      let ver = new_version t in
      let ps = part_of N B (n % N) s in
      let r = header_run (opening_header N B ver n) (opening_in_page N B ver n) in
      let page : run B (opening_header N B ver n) (get_or ps 0 []) ≡ header_page N B ver opened n (old_index N (n % N) opened) =
      ap (λ (y : Page). run B (opening_header N B ver n) y) (blank_page N B two s z (n % N) 0 place (omega arith) e)
      ∙ (opening_run N B t n few most_b ∙ ap (λ (y : ℕ). header_page N B ver opened n y) (sym (open_old N (n % N)))) in
      ap (λ (y : List Step). segments_of N B (run B y s)) (open_segment_page N B ver n)
      ∙ (only_segments N B (n % N) s (run B (on_page (header_at N B n) (opening_header N B ver n)) s) r.0
      ∙ ap (λ (y : Segment). set (segments_of N B s) (n % N) y)
      (ap (λ y. segment_of N B (n % N) y) (r.1 ∙ ap (λ (y : Page). set ps 0 y) page)
      ∙ (headed N B ver opened n ps most open_status (new_fits t fits) below (omega (arith, part_size N B (n % N) s place))
      ∙ ap (λ y. in_use ver opened n y) (blank_slots N B two s z (n % N) place e))))

  -- the old segment erased: an owing segment settled
  pub settle_effect : (ver : Version) (ks : List Slot) → get_or (segments_of N B s) (n % N) blank ≡ in_use ver erase_pending n ks
      → segments_of N B (run B (settle N B n) s) ≡ set (segments_of N B s) (n % N) (in_use ver compacted n ks)
  settle_effect ver ks e =
      let ps = part_of N B (n % N) s in
      let h = get_or ps 0 [] in
      let u = in_use_parts N B (n % N) ps ver erase_pending n ks (sym (segment_at N B (n % N) s place) ∙ e) in
      let f = in_use_facts N B (n % N) h u.header in
      let r = header_run settled_header settled_in_page in
      let page : h ≡ header_page N B ver erase_pending n ((n % N + 1) % N) =
      f.page ∙ ap (λ y. header_page N B y (header_status h) (header_number h) (old_index N (n % N) (header_status h))) u.version
      ∙ ap₂ (λ a b. header_page N B ver a b (old_index N (n % N) a)) u.status u.number ∙ ap (λ (y : ℕ). header_page N B ver erase_pending n y) (pending_old N (n % N)) in
      let page2 : run B settled_header h ≡ header_page N B ver compacted n (old_index N (n % N) compacted) =
      ap (λ (y : Page). run B settled_header y) page ∙ (settled_run N B ver n ((n % N + 1) % N) ∙ ap (λ (y : ℕ). header_page N B ver compacted n y) (sym (compacted_old N (n % N)))) in
      ap (λ (y : List Step). segments_of N B (run B y s)) (settle_page N B n)
      ∙ (only_segments N B (n % N) s (run B (on_page (header_at N B n) settled_header) s) r.0
      ∙ ap (λ (y : Segment). set (segments_of N B s) (n % N) y)
      (ap (λ y. segment_of N B (n % N) y) (r.1 ∙ ap (λ (y : Page). set ps 0 y) page2)
      ∙ (headed N B ver compacted n ps most compacted_status (rw u.version at f.fits) below (omega (arith, part_size N B (n % N) s place)) ∙ ap (λ y. in_use ver compacted n y) u.slots)))
