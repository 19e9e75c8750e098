-- A compaction up to and with the owing mark leaves state (b): sound, with the old table.
use Prim.Native.Nat.{ℕ, suc, ◌+◌, ◌-◌, ◌*◌, ◌%◌, ◌≤◌, ◌<◌}
use Rattle.std.specs.Prelude.{◌≡◌, ◌≢◌, true, false, length, get_or}
use Rattle.std.proofs.Math.Path.{refl, sym, ap}
use Rattle.std.proofs.Common.{◌∙◌, mod-lt, get_or-drop, set-set, get_or-set_same, get_or-set_other}
use mathlib.Core.List.{List, [], ◌∷◌, append_assoc}
use native.Mathlib.Omega.{arith}
use Rattle.std.proofs.Math.Nat.{add-mod_right}
use Rattle.std.proofs.Math.ListN.{set, get_or-append}
use Rattle.std.proofs.lemmas.List.{set_comm}
use borrow.Author.Tests.{eq-eqb}
use Rattle.model.specs.Chip.{Image, Page, Bytes, right_size, run, number_limit}
use Rattle.model.specs.Header.{erase_pending, compacted, number_bytes, inverted, Version, new_version, is_former, tally_bytes, header_page, header_version, header_status, old_index}
use Rattle.model.specs.Slot.{Entry}
use Rattle.model.specs.State.{Segment, blank, in_use, segments_of, is_in_use, is_owing, number_after, next_number, top_index, next_index, top_version, version_in, used_count, View, view_of, view, entries, entries_in, is_clean, next_blanked, settled, top_settled, is_b, case_b, unfinished, state}
use Rattle.model.specs.Steps.{top_number, has_room, header_at, copied, next_version, compact_oldest}
use Rattle.model.specs.Histories.{shown}
use Rattle.model.proofs.Laws.Chip.{size_facts}
use Rattle.model.proofs.Laws.HeaderPage.{in_use_facts}
use Rattle.model.proofs.Laws.Tables.{agree_trans}
use Rattle.model.proofs.Laws.Segments.{part_of, Only, segment_at}
use Rattle.model.proofs.Laws.Effects.{in_use_parts}
use Rattle.model.proofs.Laws.CopyOut.{Valids}
use Rattle.model.proofs.Laws.Ring.{next_raised}
use Rattle.model.proofs.Laws.Clean.{index_inside}
use Rattle.bridge.specs.Predicted.{CleanView, Carries}
use Rattle.bridge.specs.Views.Room.{tidied}
use Rattle.bridge.specs.Held.{Held, held_top, held_count, held_row, held_clean, row_valid}
use Rattle.bridge.specs.Done.{ring_closed, old_apart, compact_segments}
use Rattle.bridge.specs.Requests.{row_fits, one_compaction, compacted_rows}
use Rattle.crash.specs.Sound.{SoundAs}
use Rattle.crash.proofs.States.{is_case, mended, ShowsOf, SoundWith}
use Rattle.crash.specs.RecoverCount.{header_byte_lem, other_part}
use Rattle.crash.proofs.OwingCuts.{both, both_length, Keeps, keeps_of}
use Rattle.crash.proofs.Recover.{case_state, case_shows}

-- bytes 8 to 15 of a header are its number and the inverse
header_digits : (N B : ℕ) (ver : Version) (st n old k : ℕ) → k < 8 → get_or (header_page N B ver st n old) (8 + k) 0 ≡ get_or (both n) k 0
unfolding header_page
header_digits N B ver st n old k h =
    sym (get_or-drop 8 (header_page N B ver st n old) k 0)
    ∙ (ap (λ (y : List ℕ). get_or y k 0) (sym (append_assoc (number_bytes n) (inverted (number_bytes n)) (old ∷ tally_bytes ver)))
    ∙ get_or-append (both n) (old ∷ tally_bytes ver) 0 k (omega (arith, both_length n)))

-- no room, and all segments but one in use
pub record Full (N B : ℕ) (s : Image) (v : View) : Type 0 where
  pub held : Held N B s v
  pub clean : CleanView N B v
  pub no_room : has_room v ≡ false
  pub all : length v.slots ≡ N - 1
  pub bytes : Bytes s
  pub carries : Carries v
  pub below : suc (top_number v) < number_limit N

module _ (N B : ℕ) (s : Image) (v : View) (f : Full N B s v) where
  abbrev segments : List Segment
  segments = segments_of N B s

  h : Held N B s v
  h = f.held

  two : 2 ≤ N
  two = (size_facts N B s h.size).two

  -- what the old segment holds
  abbrev pub old_entries : List Entry
  old_entries = entries (get_or v.slots 0 [])

  pub old_valid : Valids (entries (get_or v.slots 0 []))
  old_valid = row_valid N B s v h f.bytes 0 f.clean.some

  pub old_fits : length (entries (get_or v.slots 0 [])) ≤ B
  old_fits = row_fits B v f.clean.rows f.clean.sound f.clean.some

  -- the old segment's number, and that of the target
  abbrev o : ℕ
  o = v.first

  abbrev n : ℕ
  n = suc (top_number v)

  abbrev i : ℕ
  i = suc (top_number v) % N

  turn : o + N ≡ suc n
  turn = ring_closed N B s v h f.carries f.below f.all old_entries old_valid old_fits

  apart : o % N ≢ i
  apart = old_apart N B s v h f.carries f.below f.all old_entries old_valid old_fits

  pub old_inside : v.first % N < N
  old_inside = let p : 0 < N = omega (arith, two) in mod-lt o p

  old_segment : (ver : Version) × (st : ℕ) × (get_or segments (o % N) blank ≡ in_use ver st o (get_or v.slots 0 []))
  old_segment = let r = held_row N B s v h 0 f.clean.some in let e : o + 0 ≡ o = omega arith in (r.0, r.1, rw e at r.2)

  abbrev target : ℕ → Segment
  target st = in_use (next_version v) st n (copied B old_entries)

  -- the target in use and owing
  abbrev pub owing : List Segment
  owing = set (segments_of N B s) (suc (top_number v) % N) (in_use (next_version v) erase_pending (suc (top_number v)) (copied B (entries (get_or v.slots 0 []))))

  -- and with the old one erased
  abbrev moved : List Segment
  moved = set (set segments i (target compacted)) (o % N) blank

  target_inside : i < length segments
  target_inside = index_inside N segments h.ring n

  owing_next : next_number owing ≡ suc n
  unfolding number_after
  owing_next = next_raised segments i (target erase_pending) target_inside (omega (arith, held_top N B s v h))

  owing_top : top_index N owing ≡ i
  unfolding top_index
  owing_top = let e : suc n - 1 ≡ n = omega arith in rw (owing_next, e)

  owing_after : next_index N owing ≡ o % N
  unfolding next_index
  owing_after = rw (owing_next, ← turn) (add-mod_right o N)

  owing_target : get_or owing i blank ≡ target erase_pending
  owing_target = get_or-set_same segments i (target erase_pending) blank target_inside

  owing_version : top_version N owing ≡ next_version v
  unfolding top_version version_in
  owing_version = rw (owing_top, owing_target)

  owing_mended : mended N owing case_b ≡ moved
  unfolding mended top_settled next_blanked settled
  owing_mended = rw (owing_top, owing_after, owing_target)
      (set_comm owing (o % N) i blank (target compacted) apart
      ∙ ap (λ (y : List Segment). set y (o % N) blank) (set-set segments i (target erase_pending) (target compacted)))

  -- the whole compaction leaves a clean image with those segments
  whole_held : Held N B (run B (compact_oldest N B v).steps s) (compact_oldest N B v).result
  whole_held = one_compaction N B s v h f.bytes f.clean f.all f.carries f.below

  whole_segments : segments_of N B (run B (compact_oldest N B v).steps s) ≡ moved
  unfolding compact_oldest
  whole_segments = compact_segments N B s v h f.carries f.below f.all old_entries old_valid old_fits

  moved_clean : is_clean N B moved ≡ true
  moved_clean = rw whole_segments at (held_clean N B (run B (compact_oldest N B v).steps s) (compact_oldest N B v).result whole_held (tidied N B v f.clean f.no_room).clean)

  moved_used : used_count moved ≡ N - 1
  moved_used = ap used_count (sym whole_segments)
      ∙ (sym (held_count N B (run B (compact_oldest N B v).steps s) (compact_oldest N B v).result whole_held) ∙ (compacted_rows N B v f.clean.some ∙ f.all))

  moved_view : view_of N moved ≡ (compact_oldest N B v).result
  unfolding view
  moved_view = ap (λ y. view_of N y) (sym whole_segments) ∙ whole_held.view

  new_former : is_former (compact_oldest N B v).result.version ≡ is_former v.version
  unfolding compact_oldest next_version new_version is_former
  new_former = sym f.carries.second

  -- compacted, it shows what it showed
  pub compacted_shows : (u : Image) → ShowsOf N B u (compact_oldest N B v).result → ShowsOf N B u v
  compacted_shows u r = (r.0, agree_trans (shown N B u) (entries_in (compact_oldest N B v).result) (entries_in v) r.1 (tidied N B v f.clean f.no_room).table, r.2 ∙ new_former)

  owing_case : is_case N B owing case_b ≡ true
  unfolding is_case is_b is_owing mended
  owing_case = rw (owing_top, owing_target, owing_mended, moved_used, moved_clean, eq-eqb (N - 1) (N - 1) refl)

  -- ---- the image

  pub record Owing (u : Image) : Type 0 where
    pub shows : SoundWith N B u (compact_oldest N B v).result
    pub pending : state N B u ≡ unfinished case_b
    -- the number after the top's
    pub next : next_number (segments_of N B u) ≡ v.first + N
    pub version : top_version N (segments_of N B u) ≡ next_version v
    -- the old segment is in use still
    pub old : is_in_use (get_or (segments_of N B u) (v.first % N) blank) ≡ true

  module _ (u : Image) (z : right_size N B u ≡ true) (only : Only N B i s u) (e : segments_of N B u ≡ owing) where
    old_part : part_of N B (o % N) u ≡ part_of N B (o % N) s
    old_part = other_part N B i (o % N) s u only apart

    -- the old header's number stands
    old_keeps : Keeps B (o % N) o u
    old_keeps k l =
        let ps = part_of N B (o % N) s in
        let p = in_use_parts N B (o % N) ps old_segment.0 old_segment.1 o (get_or v.slots 0 []) (sym (segment_at N B (o % N) s old_inside) ∙ old_segment.2) in
        let g = in_use_facts N B (o % N) (get_or ps 0 []) p.header in
        let st = header_status (get_or ps 0 []) in
        let ver = header_version (get_or ps 0 []) in
        let byte : get_or u (o % N * (B + 1) * 256 + (8 + k)) 0 ≡ get_or (both o) k 0 =
        sym (header_byte_lem N B (o % N) (8 + k) u old_inside (omega arith))
        ∙ (ap (λ (y : List Page). get_or (get_or y 0 []) (8 + k) 0) old_part
        ∙ (ap (λ (y : Page). get_or y (8 + k) 0) (g.page ∙ ap (λ (y : ℕ). header_page N B ver st y (old_index N (o % N) st)) p.number)
        ∙ header_digits N B ver st o (old_index N (o % N) st) k l)) in
        omega (arith, byte)

    owing_sound : SoundAs N B u (segments_of N B u) (unfinished case_b)
    unfolding header_at
    owing_sound =
        let d : suc n - N ≡ o = omega (arith, turn) in
        let m : suc n % N ≡ o % N = ap (λ (y : ℕ). y % N) (sym turn) ∙ add-mod_right o N in
        rw (e, owing_next, d, m) (omega (arith, turn), keeps_of B (o % N) o u old_keeps)

    used : is_in_use (in_use old_segment.0 old_segment.1 o (get_or v.slots 0 [])) ≡ true
    unfolding is_in_use
    used = refl

    pub owing_left : Owing u
    owing_left =
        record {
          shows = rw moved_view at (case_shows N B u case_b z (rw e owing_case) moved (rw e owing_mended) owing_sound);
          pending = case_state N B u case_b z (rw e owing_case);
          next = ap next_number e ∙ (owing_next ∙ sym turn);
          version = ap (λ y. top_version N y) e ∙ owing_version;
          old = ap (λ (y : List Segment). is_in_use (get_or y (o % N) blank)) e ∙ (ap is_in_use (get_or-set_other segments i (o % N) (target erase_pending) blank apart ∙ old_segment.2) ∙ used);
        }
