-- An image whose segments in use form a ring, with a given view; and where the view's rows and slots stand in the image.
use Rattle.std.specs.Prelude.{ℕ, suc, ◌+◌, ◌*◌, ◌%◌, ◌<◌, ◌≡◌, refl, true, length, get_or, drop}
use Rattle.std.proofs.Common.{sym, ap, ap₂, ◌∙◌, subst, arith, mod-lt, length-drop, get_or-drop}
use mathlib.Core.List.{List, [], ◌∷◌, ◌++◌, map}
use Rattle.model.specs.Chip.{Image, Page, Bytes, pages_of, right_size}
use Rattle.model.specs.Header.{Version}
use Rattle.model.specs.Slot.{Slot, empty, torn, dead, cut, wrong, live, slot_of, entry_of}
use Rattle.model.specs.State.{Segment, blank, in_use, segments_of, number_after, slots_in, version_in, next_number, used_count, first_number, slots_from, View, view_of, entries, entries_in, is_clean, clean, state, view}
use Rattle.model.specs.Steps.{top_number}
use Rattle.model.specs.Table.{table_of}
use Rattle.model.proofs.Laws.Chip.{size_facts}
use Rattle.model.proofs.Laws.Bytes.{chunk_bytes}
use Rattle.model.proofs.Laws.SlotPage.{live_valid}
use Rattle.model.proofs.Laws.Segments.{part_of, part_page, part_size, segment_at, segments_length}
use Rattle.model.proofs.Laws.Effects.{in_use_parts, slot_count}
use Rattle.model.proofs.Laws.CopyOut.{Valids}
use Rattle.model.proofs.Laws.Ring.{slots_get, slots_length}
use Rattle.model.proofs.Laws.Clean.{RingFacts, clean_ring, clean_slots, ring_clean, state_clean, clean_state, used_next, numbered, in_use_numbered}
use Rattle.bridge.specs.Predicted.{Rows, CleanView}

pub record Held (N B : ℕ) (s : Image) (v : View) : Type 0 where
  pub size : right_size N B s ≡ true
  pub ring : RingFacts N (segments_of N B s)
  pub view : view N B s ≡ v

-- ---- the view's rows

module _ (N B : ℕ) (s : Image) (v : View) (h : Held N B s v) where
  abbrev l : List Segment
  l = segments_of N B s

  pub held_first : v.first ≡ first_number l
  held_first = sym (ap (λ (y : View). y.first) h.view) ∙ (unfold view view_of in refl)

  pub held_rows : v.slots ≡ slots_from N l (used_count l) (first_number l)
  held_rows = sym (ap (λ (y : View). y.slots) h.view) ∙ (unfold view view_of in refl)

  pub held_count : length v.slots ≡ used_count l
  held_count = ap length held_rows ∙ slots_length N l (used_count l) (first_number l)

  pub held_next : v.first + length v.slots ≡ next_number l
  held_next = ap₂ ◌+◌ held_first held_count ∙ used_next N l h.ring

  pub held_top : suc (top_number v) ≡ next_number l
  unfolding top_number
  held_top = omega (arith, held_next, held_count, h.ring.some)

  -- row k is the segment with number first + k
  pub held_row : (k : ℕ) → k < length v.slots → (ver : Version) × (st : ℕ) × (get_or l ((v.first + k) % N) blank ≡ in_use ver st (v.first + k) (get_or v.slots k []))
  held_row k b =
      let n = v.first + k in
      let e = held_first in
      let c = held_count in
      let num : number_after (get_or l (n % N) blank) ≡ suc n = numbered N l h.ring n (omega arith) (omega (arith, used_next N l h.ring)) in
      let r = in_use_numbered (get_or l (n % N) blank) n num in
      let row : get_or v.slots k [] ≡ slots_in (get_or l (n % N) blank) =
      ap (λ (y : List (List Slot)). get_or y k []) held_rows ∙ (slots_get N l (used_count l) (first_number l) k (omega arith) ∙ ap (λ (y : ℕ). slots_in (get_or l ((y + k) % N) blank)) (sym e)) in
      (version_in (get_or l (n % N) blank), r.0, r.1 ∙ ap (λ y. in_use (version_in (get_or l (n % N) blank)) r.0 n y) (sym row))

  row_length : (k : ℕ) → k < length v.slots → length (get_or v.slots k []) ≡ B
  row_length k b = let r = held_row k b in let size = size_facts N B s h.size in
      slot_count N B size.two s size.whole (v.first + k) 0 r.0 r.1 (v.first + k) (get_or v.slots k []) (omega (arith, size.slots)) r.2

  pub held_lengths : Rows B v.slots
  held_lengths = rows v.slots (λ k b. row_length k b)
    where
      rows : (r : List (List Slot)) → ((k : ℕ) → k < length r → length (get_or r k []) ≡ B) → Rows B r
      rows [] f = tt
      rows (x ∷ r) f = (f 0 (omega arith), rows r (λ k b. f (suc k) (omega arith)))

-- ---- a clean image

pub held_of_clean : (N B : ℕ) (s : Image) → right_size N B s ≡ true → state N B s ≡ clean → Held N B s (view N B s)
unfolding state
held_of_clean N B s z c = record { size = z; ring = clean_ring N B (segments_of N B s) (segments_length N B s) (state_clean N B (segments_of N B s) c); view = refl }

pub clean_view : (N B : ℕ) (s : Image) → right_size N B s ≡ true → state N B s ≡ clean → CleanView N B (view N B s)
unfolding state view
clean_view N B s z c =
    let l = segments_of N B s in
    let h = held_of_clean N B s z c in
    let f = clean_slots N B l (state_clean N B l c) in
    record {
      some = omega (arith, held_count N B s (view N B s) h, h.ring.some);
      spare = omega (arith, held_count N B s (view N B s) h, h.ring.spare);
      rows = held_lengths N B s (view N B s) h;
      sound = f.sound;
      once = f.once;
      last = f.last;
      within = f.within;
    }

-- and back
pub segments_clean : (N B : ℕ) (l : List Segment) → RingFacts N l → CleanView N B (view_of N l) → is_clean N B l ≡ true
segments_clean N B l r c = ring_clean N B l r (record { sound = c.sound; once = c.once; last = c.last; within = c.within })

pub held_clean : (N B : ℕ) (s : Image) (v : View) → Held N B s v → CleanView N B v → is_clean N B (segments_of N B s) ≡ true
unfolding view
held_clean N B s v h c = segments_clean N B (segments_of N B s) h.ring (subst (λ (y : View). CleanView N B y) (sym h.view) c)

pub clean_of_held : (N B : ℕ) (s : Image) (v : View) → Held N B s v → CleanView N B v → state N B s ≡ clean
unfolding state
clean_of_held N B s v h c = clean_state N B (segments_of N B s) (held_clean N B s v h c)

pub held_table : (N B : ℕ) (s : Image) (v : View) → Held N B s v → table_of N B s ≡ entries_in v
unfolding table_of
held_table N B s v h = ap entries_in h.view

-- ---- the entries of an image of bytes can be written

valid_entries : (ps : List Page) → ((q : ℕ) → q < length ps → Bytes (get_or ps q [])) → Valids (entries (map slot_of ps))
unfolding entries mathlib.Core.List.flat_map
valid_entries [] f = tt
valid_entries (p ∷ ps) f = go (slot_of p) refl (valid_entries ps (λ q b. f (suc q) (omega arith)))
  where
    go : (k : Slot) → slot_of p ≡ k → Valids (entries (map slot_of ps)) → Valids (entry_of k ++ entries (map slot_of ps))
    go empty e r = unfold entry_of in r
    go torn e r = unfold entry_of in r
    go dead e r = unfold entry_of in r
    go cut e r = unfold entry_of in r
    go wrong e r = unfold entry_of in r
    go (live b c) e r = unfold entry_of in (live_valid p b c e (f 0 (omega arith)), r)

pub row_valid : (N B : ℕ) (s : Image) (v : View) → Held N B s v → Bytes s → (k : ℕ) → k < length v.slots → Valids (entries (get_or v.slots k []))
unfolding pages_of
row_valid N B s v h bs k b =
    let r = held_row N B s v h k b in
    let two = (size_facts N B s h.size).two in
    let p : 0 < N = omega arith in
    let n = v.first + k in
    let ps = part_of N B (n % N) s in
    let i = mod-lt n p in
    let parts = in_use_parts N B (n % N) ps r.0 r.1 n (get_or v.slots k []) (sym (segment_at N B (n % N) s i) ∙ r.2) in
    subst (λ (y : List Slot). Valids (entries y)) parts.slots
    (valid_entries (drop 1 ps) (λ q c. rw (get_or-drop 1 ps q [], part_page N B (n % N) (1 + q) s i (omega (arith, length-drop 1 ps, part_size N B (n % N) s i))) (chunk_bytes (N * (B + 1)) 256 _ s bs)))
