-- Every bench example holds: computed over pages, and carried to the image by the law that joins the two.
use Rattle.std.specs.Prelude.{ℕ, suc, ◌+◌, ◌*◌, ◌≡◌, refl, Bool, true, cond, ◌&&◌, length, take, replicate, eqb}
use Rattle.std.proofs.Common.{ap, ap₂, ◌∙◌, eq-eqb}
use Rattle.std.proofs.Math.Bool.{and-true}
use mathlib.Core.List.{List, [], ◌∷◌, ◌++◌, flat_map, flatten}
use Rattle.std.proofs.lemmas.List.{length-replicate}
use Rattle.model.specs.Lists.{same, all, count, chunk}
use Rattle.model.specs.Chip.{Image, Page, number_limit, image_length, in_range, right_size, pages_of, by_segment, clear, erased}
use Rattle.model.specs.Header.{number_bytes, inverted, value, status_in_use, new_version, is_former, version_number, total_fits, bit_values, cleared_in, cleared_bits, tally_of, no_bit_left, tally_bytes, header_page, header_status, header_number, header_version, old_index, header_in_use, is_blank, all_blank}
use Rattle.model.specs.Slot.{most_contents, number_ok, slot_page, page_block, page_contents, slot_fits, slot_of, is_empty, is_torn, is_dead, is_wrong, entry_of, holding}
use Rattle.model.specs.State.{segment_of, segments_from, segments_on, segments_of, is_in_use, is_invalid, is_owing, number_after, slots_in, version_in, of_version, next_number, top_index, next_index, top_slots, top_version, used_count, first_number, slots_from, view_of, entries, entries_in, some_in_use, numbers_from, consecutive, one_version, none_owing, others_blank, none_wrong_or_torn, holds, distinct, blocks_distinct, empty_last, only_top_empty, empty_slots_last, capacity, within_capacity, conditions, is_clean, next_blanked, is_a, settled, top_settled, is_b, with_slot, filled, last_slot, last_kind, torn_marked, is_c, slot_from, place_from, place_of, block_in, last_block, copies, older, older_marked, is_d, state_of, view}
use Rattle.model.specs.Steps.{programs, program_part, on_page, header_at, slot_at, write_slot, mark_dead, mark_place, open_segment, copy_entries, copy_out, settle, compact, top_row, top_number, has_room, first_empty, copied, next_version, open_next, compact_oldest, compact_until_room, room_for, mark_old, write_at_top, put_steps, delete_steps, erase_first, format_steps, highest_of, highest_bit, clear_next, count_erase, erase_next, unless_blank, mend_steps, recover_steps, compactions, new_numbers, is_worn}
use Rattle.model.specs.Table.{lookup, contents_found}
use Rattle.model.specs.Answers.{Request, read, recover, Work, first_of, is_damaged, is_unfinished, length_ok, is_full, absent_refusals, refusals, steps_for, work_on, work_of, code_under, outcome_of, ReadOutcome, contents_at, read_outcome}
use Rattle.model.specs.Sequences.{Call, play, erases_in, Observed, observe, observed, among, removed, inserted, stored_after, replaces, start, noted, ledger, erase_count}
use Rattle.model.specs.Pages.{program_page, step_pages, run_pages}
use Rattle.model.specs.Bench.{call, whole, Setup, and_then, recording, recorded, left, Bench, bench, Example, sizes, olds, begins, answers, reads, counts, cuts, contents_in, is_clean_in, cut_holds, example_holds, failing, up_from, put_each, examples}
use Rattle.model.specs.Laws.Lists.{and_left, and_right}
use Rattle.model.specs.Laws.Chunk.{chunk_length}
use Rattle.model.proofs.Laws.Chip.{run_length}
use Rattle.model.proofs.Laws.Pages.{pages_run, all_erased}

-- every definition unfolds where this name does
unfoldable pub evaluate : ℕ
unfolding flat_map flatten same all count chunk number_limit image_length in_range by_segment clear erased number_bytes inverted value status_in_use new_version is_former version_number total_fits bit_values cleared_in cleared_bits tally_of no_bit_left tally_bytes header_page header_status header_number header_version old_index header_in_use is_blank all_blank most_contents number_ok slot_page page_block page_contents slot_fits slot_of is_empty is_torn is_dead is_wrong entry_of holding segment_of segments_from segments_on is_in_use is_invalid is_owing number_after slots_in version_in of_version next_number top_index next_index top_slots top_version used_count first_number slots_from view_of entries entries_in some_in_use numbers_from consecutive one_version none_owing others_blank none_wrong_or_torn holds distinct blocks_distinct empty_last only_top_empty empty_slots_last capacity within_capacity conditions is_clean next_blanked is_a settled top_settled is_b with_slot filled last_slot last_kind torn_marked is_c slot_from place_from place_of block_in last_block copies older older_marked is_d state_of programs program_part on_page header_at slot_at write_slot mark_dead mark_place open_segment copy_entries copy_out settle compact top_row top_number has_room first_empty copied next_version open_next compact_oldest compact_until_room room_for mark_old write_at_top put_steps delete_steps erase_first format_steps highest_of highest_bit clear_next count_erase erase_next unless_blank mend_steps recover_steps compactions new_numbers is_worn lookup contents_found first_of is_damaged is_unfinished length_ok is_full absent_refusals refusals steps_for work_on code_under erases_in among removed inserted stored_after replaces start noted ledger erase_count program_page step_pages run_pages contents_in is_clean_in cut_holds example_holds failing up_from put_each examples
evaluate = 0

-- ---- the bench over pages

work_pages : ℕ → ℕ → List Page → Request → Work
work_pages N B ps r = work_on N B (in_range N B) (segments_on N B ps) r

play_pages : ℕ → ℕ → List Page → List Call → List Page
play_pages N B ps [] = ps
play_pages N B ps (x ∷ xs) = play_pages N B (run_pages B (take x.allowance (work_pages N B ps x.request).steps) ps) xs

seen_pages : ℕ → ℕ → List Page → List Call → List Observed
seen_pages N B ps [] = []
seen_pages N B ps (x ∷ xs) = let w = work_pages N B ps x.request in
    record { request = x.request; code = code_under x.allowance w; erases = erases_in w.steps }
    ∷ seen_pages N B (run_pages B (take x.allowance w.steps) ps) xs

read_pages : ℕ → ℕ → List Page → ℕ → ReadOutcome
read_pages N B ps b =
    let code = (work_pages N B ps (read b)).code in
    let v = view_of N (segments_on N B ps) in
    cond (eqb code 0)
    (record { code = 0; offset = contents_at N B (place_of b v); length = length (contents_found (lookup b (entries_in v))) })
    (record { code = code; offset = 0; length = 0 })

recorded_pages : Setup → List Page
recorded_pages u = run_pages u.slots u.made (replicate (u.segments * (u.slots + 1)) (erased 256))

left_pages : Setup → List Page
left_pages u = play_pages u.segments u.slots (recorded_pages u) u.calls

bench_pages : Bench
bench_pages = record {
  pages = λ u. left_pages u;
  work = λ u r. work_pages u.segments u.slots (left_pages u) r;
  found = λ u b. read_pages u.segments u.slots (left_pages u) b;
  seen = λ u. seen_pages u.segments u.slots (recorded_pages u) u.calls;
}

-- the cuts of one request, of an image that is made once
cut_pages : ℕ → ℕ → List Page → Work → ℕ → ℕ → List ℕ → List ℕ → Bool
cut_pages N B ps w count b bytes [] = true
cut_pages N B ps w count b bytes (k ∷ ks) =
    let rest = cut_pages N B ps w count b bytes ks in
    let cut_off = run_pages B (take k w.steps) ps in
    let mending = (work_pages N B cut_off recover).steps in
    let mended = run_pages B (take 1000 mending) cut_off in
    eqb (code_under k w) 9 && (eqb (length mending) count && (is_clean_in N B mended && (same (contents_in N B b mended) bytes && rest)))

holds_pages : Example → Bool
holds_pages (sizes N B l c) = example_holds bench_pages (sizes N B l c)
holds_pages (olds N i old) = example_holds bench_pages (olds N i old)
holds_pages (begins u p bytes) = example_holds bench_pages (begins u p bytes)
holds_pages (answers u r code n e) = example_holds bench_pages (answers u r code n e)
holds_pages (reads u b code at n) = example_holds bench_pages (reads u b code at n)
holds_pages (counts u e r l) = example_holds bench_pages (counts u e r l)
holds_pages (cuts u r ks n b bytes) = let ps = left_pages u in cut_pages u.segments u.slots ps (work_pages u.segments u.slots ps r) n b bytes ks

-- up to the first that fails
all_hold : List Example → Bool
all_hold [] = true
all_hold (x ∷ xs) = let rest = all_hold xs in holds_pages x && rest

computed : all_hold examples ≡ true
unfolding evaluate work_pages play_pages seen_pages read_pages recorded_pages left_pages bench_pages contents_at cut_pages holds_pages all_hold
computed = refl

-- ---- the bench over pages is the bench over the image

work_pages_lem : (N B : ℕ) (s : Image) (r : Request) → length s ≡ image_length N B → work_of N B s r ≡ work_pages N B (pages_of N B s) r
unfolding work_of work_pages right_size segments_of
work_pages_lem N B s r h = rw (eq-eqb (length s) (image_length N B) h, and-true (in_range N B))

outcome_pages : (N B : ℕ) (s : Image) (x : Call) → length s ≡ image_length N B
    → pages_of N B (outcome_of N B s x.allowance x.request).image ≡ run_pages B (take x.allowance (work_pages N B (pages_of N B s) x.request).steps) (pages_of N B s)
unfolding outcome_of
outcome_pages N B s x h = pages_run N B (take x.allowance (work_of N B s x.request).steps) s h
    ∙ ap (λ (w : Work). run_pages B (take x.allowance w.steps) (pages_of N B s)) (work_pages_lem N B s x.request h)

outcome_length : (N B : ℕ) (s : Image) (a : ℕ) (r : Request) → length s ≡ image_length N B → length (outcome_of N B s a r).image ≡ image_length N B
unfolding outcome_of
outcome_length N B s a r h = run_length B (take a (work_of N B s r).steps) s ∙ h

play_length : (N B : ℕ) (xs : List Call) (s : Image) → length s ≡ image_length N B → length (play N B s xs) ≡ image_length N B
unfolding play
play_length N B [] s h = h
play_length N B (x ∷ xs) s h = play_length N B xs (outcome_of N B s x.allowance x.request).image (outcome_length N B s x.allowance x.request h)

play_pages_lem : (N B : ℕ) (xs : List Call) (s : Image) → length s ≡ image_length N B → pages_of N B (play N B s xs) ≡ play_pages N B (pages_of N B s) xs
unfolding play play_pages
play_pages_lem N B [] s h = refl
play_pages_lem N B (x ∷ xs) s h = play_pages_lem N B xs (outcome_of N B s x.allowance x.request).image (outcome_length N B s x.allowance x.request h)
    ∙ ap (λ y. play_pages N B y xs) (outcome_pages N B s x h)

observe_pages : (N B : ℕ) (s : Image) (x : Call) → length s ≡ image_length N B
    → observe N B s x ≡ record { request = x.request; code = code_under x.allowance (work_pages N B (pages_of N B s) x.request); erases = erases_in (work_pages N B (pages_of N B s) x.request).steps }
unfolding observe outcome_of
observe_pages N B s x h = ap (λ (w : Work). record { request = x.request; code = code_under x.allowance w; erases = erases_in w.steps }) (work_pages_lem N B s x.request h)

seen_pages_lem : (N B : ℕ) (xs : List Call) (s : Image) → length s ≡ image_length N B → observed N B s xs ≡ seen_pages N B (pages_of N B s) xs
unfolding observed seen_pages
seen_pages_lem N B [] s h = refl
seen_pages_lem N B (x ∷ xs) s h =
    ap₂ {C = List Observed} (λ y ys. y ∷ ys) (observe_pages N B s x h)
    (seen_pages_lem N B xs (outcome_of N B s x.allowance x.request).image (outcome_length N B s x.allowance x.request h)
    ∙ ap (λ y. seen_pages N B y xs) (outcome_pages N B s x h))

read_pages_lem : (N B : ℕ) (s : Image) (b : ℕ) → length s ≡ image_length N B → read_outcome N B s b ≡ read_pages N B (pages_of N B s) b
unfolding read_outcome read_pages view segments_of
read_pages_lem N B s b h = rw (work_pages_lem N B s (read b) h)

zeros : Setup → Image
zeros u = replicate (image_length u.segments u.slots) 0

zeros_length : (u : Setup) → length (zeros u) ≡ image_length u.segments u.slots
unfolding zeros
zeros_length u = length-replicate (image_length u.segments u.slots) 0

recorded_length : (u : Setup) → length (recorded u) ≡ image_length u.segments u.slots
unfolding recorded zeros
recorded_length u = run_length u.slots (recording u) (zeros u) ∙ zeros_length u

recorded_pages_lem : (u : Setup) → pages_of u.segments u.slots (recorded u) ≡ recorded_pages u
unfolding recorded recording recorded_pages zeros
recorded_pages_lem u =
    let ps = pages_of u.segments u.slots (zeros u) in
    pages_run u.segments u.slots (recording u) (zeros u) (zeros_length u)
    ∙ all_erased u.segments u.slots u.made ps (unfold pages_of in chunk_length (u.segments * (u.slots + 1)) 256 (zeros u))

left_length : (u : Setup) → length (left u) ≡ image_length u.segments u.slots
unfolding left
left_length u = play_length u.segments u.slots u.calls (recorded u) (recorded_length u)

pages_same : (u : Setup) → bench.pages u ≡ bench_pages.pages u
unfolding bench bench_pages left left_pages
pages_same u = play_pages_lem u.segments u.slots u.calls (recorded u) (recorded_length u) ∙ ap (λ y. play_pages u.segments u.slots y u.calls) (recorded_pages_lem u)

work_same : (u : Setup) (r : Request) → bench.work u r ≡ bench_pages.work u r
unfolding bench bench_pages
work_same u r = work_pages_lem u.segments u.slots (left u) r (left_length u) ∙ ap (λ y. work_pages u.segments u.slots y r) (pages_same u)

found_same : (u : Setup) (b : ℕ) → bench.found u b ≡ bench_pages.found u b
unfolding bench bench_pages
found_same u b = read_pages_lem u.segments u.slots (left u) b (left_length u) ∙ ap (λ y. read_pages u.segments u.slots y b) (pages_same u)

seen_same : (u : Setup) → bench.seen u ≡ bench_pages.seen u
unfolding bench bench_pages
seen_same u = seen_pages_lem u.segments u.slots u.calls (recorded u) (recorded_length u) ∙ ap (λ y. seen_pages u.segments u.slots y u.calls) (recorded_pages_lem u)

play_append : (N B : ℕ) (xs ys : List Call) (ps : List Page) → play_pages N B ps (xs ++ ys) ≡ play_pages N B (play_pages N B ps xs) ys
unfolding play_pages
play_append N B [] ys ps = refl
play_append N B (x ∷ xs) ys ps = play_append N B xs ys (run_pages B (take x.allowance (work_pages N B ps x.request).steps) ps)

left_then : (u : Setup) (r : Request) (k : ℕ) → left_pages (and_then u (call r k ∷ [])) ≡ run_pages u.slots (take k (work_pages u.segments u.slots (left_pages u) r).steps) (left_pages u)
unfolding left_pages play_pages recorded_pages
left_then u r k = play_append u.segments u.slots u.calls (call r k ∷ []) (recorded_pages u)

cut_same : (u : Setup) (r : Request) (n b : ℕ) (bytes ks : List ℕ)
    → cut_holds bench u r n b bytes ks ≡ cut_pages u.segments u.slots (left_pages u) (work_pages u.segments u.slots (left_pages u) r) n b bytes ks
unfolding cut_holds cut_pages bench_pages
cut_same u r n b bytes [] = refl
cut_same u r n b bytes (k ∷ ks) =
    let cut_off = and_then u (call r k ∷ []) in
    rw (work_same u r, work_same cut_off recover, pages_same (and_then cut_off (whole recover ∷ [])), left_then cut_off recover 1000, left_then u r k, cut_same u r n b bytes ks)

example_same : (x : Example) → example_holds bench x ≡ holds_pages x
unfolding example_holds holds_pages
example_same (sizes N B l c) = refl
example_same (olds N i old) = refl
example_same (begins u p bytes) = rw (pages_same u)
example_same (answers u r code n e) = rw (work_same u r)
example_same (reads u b code at n) = rw (found_same u b)
example_same (counts u e r l) = rw (seen_same u)
example_same (cuts u r ks n b bytes) = cut_same u r n b bytes ks

none_fails : (i : ℕ) (xs : List Example) → all_hold xs ≡ true → failing bench i xs ≡ []
unfolding failing all_hold
none_fails i [] h = refl
none_fails i (x ∷ xs) h = rw (example_same x, and_left (holds_pages x) (all_hold xs) h) (none_fails (suc i) xs (and_right (holds_pages x) (all_hold xs) h))

-- no example of the table fails
pub examples_hold : failing bench 0 examples ≡ []
examples_hold = none_fails 0 examples computed
