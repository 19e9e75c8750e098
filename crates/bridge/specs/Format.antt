-- A finished format, of any image of a right size: an image of bytes, clean, with one empty segment.
use Prim.Native.Nat.{ℕ, zero, suc, ◌+◌, ◌*◌, ◌%◌, ◌≤◌, ◌<◌}
use Rattle.std.specs.Prelude.{◌≡◌, true, length, get_or, take, drop, set, replicate}
use Rattle.std.proofs.Math.Path.{refl, ap}
use Rattle.std.proofs.Common.{sym, ap₂, ◌∙◌, mod-eq_of_lt, length-take, drop_of_length-le, take_all, take_at, drop-cons, get_or-set_same, le-leb}
use Rattle.std.proofs.Math.Bool.{not}
use mathlib.Core.List.{List, [], ◌∷◌, ◌++◌, append-nil, flatten, flat_map}
use native.Mathlib.Omega.{arith}
use Rattle.std.proofs.Math.ListN.{length-replicate, length-set}
use Rattle.std.proofs.lemmas.List.{get_or-replicate}
use Rattle.std.proofs.Math.Seq.{take-append-add, set-append_seam}
use Rattle.model.specs.Lists.{all, count}
use Rattle.model.specs.Chip.{Image, Bytes, number_limit, image_length, right_size, erase, erased, with_segment, step, run}
use Rattle.model.specs.Header.{opened, new_version, version_number}
use Rattle.model.specs.Slot.{Slot, empty}
use Rattle.model.specs.State.{Segment, blank, in_use, is_in_use, is_invalid, is_owing, number_after, slots_in, version_in, of_version, segments_of, next_number, top_index, top_version, used_count, first_number, slots_from, numbers_from, view_of, view, entries, entries_in, distinct, capacity, none_owing, others_blank, state, clean}
use Rattle.model.specs.Steps.{open_segment, erase_first, format_steps}
use Rattle.model.specs.Laws.Lists.{all_set, all_replicate}
use Rattle.model.proofs.Laws.Chip.{run_append, run_length, size_facts, run_size}
use Rattle.model.proofs.Laws.Bytes.{run_bytes, erased_bytes, erased_length, erased_add}
use Rattle.model.proofs.Laws.Segments.{segments_length}
use Rattle.model.proofs.Laws.Effects.{erase_effect, open_effect}
use Rattle.model.proofs.Laws.Ring.{used_more, next_raised}
use Rattle.model.proofs.Laws.Clean.{RingFacts}
use Rattle.model.proofs.Laws.View.{seconds_one}
use Rattle.bridge.specs.Predicted.{fresh, CleanView}
use Rattle.bridge.specs.Views.Slots.{copied_none}
use Rattle.bridge.specs.Views.Shape.{shape_clean, added_shape, added_entries, row_added}
use Rattle.bridge.specs.Held.{Held, clean_of_held}

-- ---- bytes

-- the first k segments erased, of any image
first_erased : (B k : ℕ) (s : Image) → k * ((B + 1) * 256) ≤ length s → take (k * ((B + 1) * 256)) (run B (erase_first k) s) ≡ erased (k * ((B + 1) * 256))
unfolding erase_first run step with_segment
first_erased B zero s h = let e : 0 * ((B + 1) * 256) ≡ 0 = omega arith in rw e (unfold erased in refl)
first_erased B (suc k) s h = rw (run_append B (erase_first k) (erase k ∷ []) s, le-leb ((k * (B + 1) + (B + 1)) * 256) (length u) (omega (arith, run_length B (erase_first k) s)), total)
    (take-append-add (take before u) (erased size ++ rest) size
    ∙ (ap₂ (λ (x y : List ℕ). x ++ y) (ap (λ (n : ℕ). take n u) same ∙ first_erased B k s (omega arith)) (take_at (erased size) rest size (erased_length size)) ∙ erased_add (k * size) size ∙ ap erased count))
  where
    u : Image
    u = run B (erase_first k) s

    size : ℕ
    size = (B + 1) * 256

    before : ℕ
    before = k * (B + 1) * 256

    rest : List ℕ
    rest = drop ((k * (B + 1) + (B + 1)) * 256) u

    same : before ≡ k * size
    same = omega arith

    total : suc k * ((B + 1) * 256) ≡ length (take before u) + size
    total = omega (arith, length-take before u, run_length B (erase_first k) s)

    count : k * size + size ≡ length (take before u) + size
    count = omega (arith, length-take before u, run_length B (erase_first k) s)

all_wiped : (N B : ℕ) (s : Image) → right_size N B s ≡ true → run B (erase_first N) s ≡ erased (N * ((B + 1) * 256))
unfolding image_length
all_wiped N B s z =
    let u = run B (erase_first N) s in
    let size : length s ≡ N * (B + 1) * 256 = (size_facts N B s z).whole in
    sym (take_all (N * ((B + 1) * 256)) u (omega (arith, run_length B (erase_first N) s))) ∙ first_erased B N s (omega arith)

-- whatever there was before
pub format_same : (N B : ℕ) (s t : Image) → right_size N B s ≡ true → right_size N B t ≡ true → run B (format_steps N B) s ≡ run B (format_steps N B) t
unfolding format_steps
format_same N B s t y z =
    rw (run_append B (erase_first N) (open_segment N B (new_version 0) 0) s, run_append B (erase_first N) (open_segment N B (new_version 0) 0) t, all_wiped N B s y, all_wiped N B t z)

pub format_bytes : (N B : ℕ) (s : Image) → right_size N B s ≡ true → Bytes (run B (format_steps N B) s)
unfolding format_steps erased
format_bytes N B s z =
    rw (run_append B (erase_first N) (open_segment N B (new_version 0) 0) s, all_wiped N B s z) (run_bytes B (open_segment N B (new_version 0) 0) (erased (N * ((B + 1) * 256))) (erased_bytes (N * ((B + 1) * 256))))

-- ---- segments

erased_first : (N B k : ℕ) (s : Image) → right_size N B s ≡ true → k ≤ N → segments_of N B (run B (erase_first k) s) ≡ replicate k blank ++ drop k (segments_of N B s)
unfolding erase_first run
erased_first N B zero s z h = refl
erased_first N B (suc k) s z h =
    let u = run B (erase_first k) s in
    let l = segments_of N B s in
    let len = segments_length N B s in
    ap (λ y. segments_of N B y) (run_append B (erase_first k) (erase k ∷ []) s)
    ∙ (erase_effect N B (size_facts N B s z).two u (run_length B (erase_first k) s ∙ (size_facts N B s z).whole) k (omega arith)
    ∙ (ap (λ (y : List Segment). set y k blank) (erased_first N B k s z (omega arith) ∙ ap (λ (y : List Segment). replicate k blank ++ y) (drop-cons l k blank (omega arith)))
    ∙ (ap (λ (y : ℕ). set (replicate k blank ++ (get_or l k blank ∷ drop (suc k) l)) y blank) (sym (length-replicate k blank))
    ∙ (set-append_seam (replicate k blank) (get_or l k blank) (drop (suc k) l) blank ∙ one_more k (drop (suc k) l)))))
  where
    one_more : (c : ℕ) (r : List Segment) → replicate c blank ++ (blank ∷ r) ≡ blank ∷ (replicate c blank ++ r)
    one_more zero r = refl
    one_more (suc c) r = ap {B = List Segment} (λ y. blank ∷ y) (one_more c r)

all_erased : (N B : ℕ) (s : Image) → right_size N B s ≡ true → segments_of N B (run B (erase_first N) s) ≡ replicate N blank
all_erased N B s z =
    let h : length (segments_of N B s) ≤ N = omega (arith, segments_length N B s) in
    erased_first N B N s z (omega arith)
    ∙ (ap (λ (y : List Segment). replicate N blank ++ y) (drop_of_length-le (segments_of N B s) h) ∙ append-nil (replicate N blank))

opened_segments : (N B : ℕ) (s : Image) → right_size N B s ≡ true → segments_of N B (run B (format_steps N B) s) ≡ set (replicate N blank) 0 (in_use (new_version 0) opened 0 (replicate B empty))
unfolding format_steps number_limit
opened_segments N B s z =
    let u = run B (erase_first N) s in
    let two = (size_facts N B s z).two in
    let p : 0 < N = omega arith in
    let zero_index : 0 % N ≡ 0 = mod-eq_of_lt p in
    let size = size_facts N B s z in
    let l = all_erased N B s z in
    ap (λ y. segments_of N B y) (run_append B (erase_first N) (open_segment N B (new_version 0) 0) s)
    ∙ (open_effect N B two size.most (size_facts N B s z).most_b u (run_length B (erase_first N) s ∙ size.whole) 0 (omega arith) 0 (omega arith)
    (ap₂ (λ (x : List Segment) (y : ℕ). get_or x y blank) l zero_index ∙ get_or-replicate N 0 blank blank p)
    ∙ ap₂ (λ (x : List Segment) (y : ℕ). set x y (in_use (new_version 0) opened 0 (replicate B empty))) l zero_index)

-- ---- one empty segment

module _ (N B : ℕ) (two : 2 ≤ N) where
  abbrev l : List Segment
  l = set (replicate N blank) 0 (in_use (new_version 0) opened 0 (replicate B empty))

  none_used : (c : ℕ) → count is_in_use (replicate c blank) ≡ 0
  unfolding count is_in_use
  none_used zero = refl
  none_used (suc c) = none_used c

  none_numbered : (c : ℕ) → next_number (replicate c blank) ≡ 0
  unfolding next_number number_after
  none_numbered zero = refl
  none_numbered (suc c) = let h = none_numbered c in omega arith

  inside : 0 < length (replicate N blank)
  inside = omega (arith, length-replicate N blank)

  one_used : used_count l ≡ 1
  unfolding used_count is_in_use
  one_used = used_more (replicate N blank) 0 (in_use (new_version 0) opened 0 (replicate B empty)) inside (ap is_in_use (get_or-replicate N 0 blank blank (omega arith))) refl ∙ ap suc (none_used N)

  next_one : next_number l ≡ 1
  unfolding number_after
  next_one = next_raised (replicate N blank) 0 (in_use (new_version 0) opened 0 (replicate B empty)) inside (omega (arith, none_numbered N))

  first_zero : first_number l ≡ 0
  unfolding first_number
  first_zero = rw (one_used, next_one) refl

  zero_index : 0 % N ≡ 0
  zero_index = let p : 0 < N = omega arith in mod-eq_of_lt p

  here : get_or l (0 % N) blank ≡ in_use (new_version 0) opened 0 (replicate B empty)
  here = rw zero_index (get_or-set_same (replicate N blank) 0 (in_use (new_version 0) opened 0 (replicate B empty)) blank inside)

  fresh_ring : RingFacts N l
  unfolding numbers_from none_owing others_blank is_owing is_invalid of_version version_number new_version number_after
  fresh_ring = record {
    size = length-set (replicate N blank) 0 (in_use (new_version 0) opened 0 (replicate B empty)) ∙ length-replicate N blank;
    some = rw one_used (omega arith);
    spare = rw one_used (omega arith);
    chain = rw (one_used, first_zero, here) refl;
    one = seconds_one l (all_set (λ x. of_version 2 x) (replicate N blank) 0 (in_use (new_version 0) opened 0 (replicate B empty)) (all_replicate (λ x. of_version 2 x) blank refl N) refl);
    paid = all_set (λ x. not (is_owing x)) (replicate N blank) 0 (in_use (new_version 0) opened 0 (replicate B empty)) (all_replicate (λ x. not (is_owing x)) blank refl N) refl;
    others = all_set (λ x. not (is_invalid x)) (replicate N blank) 0 (in_use (new_version 0) opened 0 (replicate B empty)) (all_replicate (λ x. not (is_invalid x)) blank refl N) refl;
  }

  top_here : top_version N l ≡ new_version 0
  unfolding top_version top_index version_in
  top_here = rw (next_one, here) refl

  fresh_view : view_of N l ≡ fresh B
  unfolding view_of slots_from slots_in fresh
  fresh_view = rw (one_used, first_zero, here, top_here) refl

-- a fresh view is the view of no rows with one added
pub fresh_clean : (N B : ℕ) → 2 ≤ N → 2 ≤ B → CleanView N B (fresh B)
unfolding fresh row_added all flatten flat_map entries distinct capacity
fresh_clean N B n b =
    let e : fresh B ≡ row_added (new_version 0) B 0 [] [] = ap (λ (y : List Slot). record { first = 0; slots = y ∷ []; version = new_version 0 }) (copied_none B) in
    rw e (shape_clean (added_shape (new_version 0) N B 0 [] [] (omega arith) tt refl refl (omega arith)) (rw (added_entries (new_version 0) B 0 [] []) refl) (rw (added_entries (new_version 0) B 0 [] []) (omega arith)))

pub fresh_table : (B : ℕ) → entries_in (fresh B) ≡ []
unfolding fresh row_added flatten flat_map entries
fresh_table B = ap (λ (y : List Slot). entries_in (record { first = 0; slots = y ∷ []; version = new_version 0 })) (copied_none B) ∙ added_entries (new_version 0) B 0 [] []

pub format_held : (N B : ℕ) (s : Image) → right_size N B s ≡ true → Held N B (run B (format_steps N B) s) (fresh B)
unfolding view
format_held N B s z = record {
  size = run_size N B (format_steps N B) s ∙ z;
  ring = rw (opened_segments N B s z) (fresh_ring N B (size_facts N B s z).two);
  view = rw (opened_segments N B s z) (fresh_view N B (size_facts N B s z).two);
}

pub format_done : (N B : ℕ) (s : Image) → right_size N B s ≡ true → (state N B (run B (format_steps N B) s) ≡ clean) × (view N B (run B (format_steps N B) s) ≡ fresh B)
format_done N B s z = let h = format_held N B s z in
    (clean_of_held N B _ (fresh B) h (fresh_clean N B (size_facts N B s z).two (size_facts N B s z).slots), h.view)
