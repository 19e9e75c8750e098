-- The owing marks in the step lists: a compaction has one, its last step, and the other lists have none.
use Rattle.std.specs.Prelude.{ℕ, suc, ◌+◌, ◌-◌, ◌*◌, ◌/◌, ◌%◌, ◌≤◌, ◌<◌, ◌≡◌, refl, ◌⊎◌, Bool, true, false, cond, ◌&&◌, List, [], ◌∷◌, ◌++◌, length, get_or, eqb}
use Rattle.std.proofs.Common.{sym, ap, ◌∙◌, inl, inr, ⊎_elim, append_assoc, arith, mod-eq_of_lt, ne_eqb}
use Rattle.std.proofs.lemmas.Bool.{false≢true}
use Rattle.std.proofs.Math.Nat.{mul-add-mod_self_right, mul-mod_left}
use Rattle.model.specs.Lists.{same, count}
use Rattle.model.specs.Chip.{Image, Page, Step, program, erase, clear, step, run}
use Rattle.model.specs.Header.{opened, compaction_begun, erase_pending, Version, version1, version2, no_old_segment, header_page}
use Rattle.model.specs.Slot.{most_contents, Entry}
use Rattle.model.specs.State.{Place}
use Rattle.model.specs.Steps.{program_part, on_page, header_at, slot_at, write_slot, mark_dead, mark_place, open_segment, copy_entries, copy_out, settle, highest_bit, clear_next, count_erase}
use Rattle.model.specs.Begun.{is_mark, marks_in, CutBegun}
use Rattle.model.proofs.Laws.Bytes.{same_eq, same_refl, OneBit, erase_pending_bit}
use Rattle.model.proofs.Laws.Pages.{InPage, in_part, on_page_append}
use Rattle.model.proofs.Laws.Programs.{Spares, Outside, spares_part}
use Rattle.model.proofs.Laws.HeaderPage.{opening_header, compaction_header, number_header, settled_header, open_segment_page, copy_out_pages, settle_page, pending_parts, opening_in_page, compaction_in_page, number_in_page, settled_in_page, clear_compaction}
use Rattle.model.proofs.Laws.SlotPage.{write_in_page}
use Rattle.model.proofs.Laws.PageCuts.{one_bit_cut}
use Rattle.model.proofs.Laws.CopyOut.{Valids}
use Rattle.model.proofs.Laws.Counted.{clear_in_page}
use Rattle.model.proofs.Laws.Begun.{marks_append}

-- ---- one page

-- a byte's page and its offset there
mark_at : (B p at q v : ℕ) → at < 256 → q ≡ p * 256 + at → is_mark B (program q v) ≡ eqb (p % (B + 1)) 0 && (eqb at 5 && eqb v erase_pending)
unfolding is_mark
mark_at B p at q v h e =
    let page : q / 256 ≡ p = omega arith in
    let offset : q % 256 ≡ at = omega arith in
    rw (page, offset)

-- in the header of segment k a list has as many marks as in a page that is a segment of its own
header_marks : (B k : ℕ) (xs : List Step) → InPage xs → marks_in B (on_page (k * (B + 1)) xs) ≡ marks_in 0 xs
unfolding marks_in count on_page
header_marks B k [] i = refl
header_marks B k (erase n ∷ xs) i = absurd i
header_marks B k (program at v ∷ xs) i =
    let first : k * (B + 1) % (B + 1) ≡ 0 = mul-mod_left k (B + 1) in
    rw (mark_at B (k * (B + 1)) at (k * (B + 1) * 256 + at) v i.0 refl, first, mark_at 0 0 at at v i.0 (omega arith), header_marks B k xs i.1)

-- only byte 5 is a status
spared_marks : (xs : List Step) → InPage xs → Spares 5 xs → marks_in 0 xs ≡ 0
unfolding marks_in count
spared_marks [] i p = refl
spared_marks (erase n ∷ xs) i p = absurd i
spared_marks (program at v ∷ xs) i p = rw (mark_at 0 0 at at v i.0 (omega arith), ne_eqb at 5 (λ e. p.0 (sym e))) (spared_marks xs i.1 p.1)

part_marks : (p : Page) (at k : ℕ) → at + k ≤ 256 → Outside 5 at k → marks_in 0 (program_part p at k) ≡ 0
part_marks p at k h o = spared_marks (program_part p at k) (in_part p at k h) (spares_part 5 p at k o)

-- no slot's page is the first of its segment
pub slot_unmarked : (N B n j : ℕ) (xs : List Step) → j < B → InPage xs → marks_in B (on_page (slot_at N B n j) xs) ≡ 0
unfolding marks_in count on_page slot_at
slot_unmarked N B n j [] h i = refl
slot_unmarked N B n j (erase k ∷ xs) h i = absurd i
slot_unmarked N B n j (program at v ∷ xs) h i =
    let place : (n % N * (B + 1) + suc j) % (B + 1) ≡ suc j = mul-add-mod_self_right (n % N) (B + 1) (suc j) ∙ mod-eq_of_lt {n = suc j} {m = B + 1} (omega arith) in
    rw (mark_at B (n % N * (B + 1) + suc j) at ((n % N * (B + 1) + suc j) * 256 + at) v i.0 refl, place, ne_eqb (suc j) 0 (λ e. omega arith)) (slot_unmarked N B n j xs h i.1)

-- ---- lists within a header

in_header : (N B n : ℕ) (xs : List Step) → InPage xs → marks_in 0 xs ≡ 0 → marks_in B (on_page (header_at N B n) xs) ≡ 0
unfolding header_at
in_header N B n xs i e = header_marks B (n % N) xs i ∙ e

opening_marks : (N B : ℕ) (ver : Version) (n : ℕ) → marks_in 0 (opening_header N B ver n) ≡ 0
unfolding opening_header marks_in is_mark count
opening_marks N B ver n = let h = header_page N B ver opened n no_old_segment in
    simp (marks_append, part_marks h 0 5 (omega arith) (inr (omega arith)), part_marks h 6 2 (omega arith) (inl (omega arith)), part_marks h 17 4 (omega arith) (inl (omega arith)), part_marks h 8 8 (omega arith) (inl (omega arith)))

pub open_unmarked : (N B : ℕ) (ver : Version) (n : ℕ) → marks_in B (open_segment N B ver n) ≡ 0
open_unmarked N B ver n = rw (open_segment_page N B ver n) (in_header N B n (opening_header N B ver n) (opening_in_page N B ver n) (opening_marks N B ver n))

pub settle_unmarked : (N B n : ℕ) → marks_in B (settle N B n) ≡ 0
unfolding settled_header marks_in is_mark count
settle_unmarked N B n = rw (settle_page N B n) (in_header N B n settled_header settled_in_page refl)

-- the bits come long after the status
clear_spares : (bits : List ℕ) (at : ℕ) → 5 < at → Spares 5 (clear_next at bits)
unfolding clear_next
clear_spares [] at h = tt
clear_spares (x ∷ xs) at h = go (eqb x 0) (clear_spares xs (suc at) (omega arith))
  where
    go : (t : Bool) → Spares 5 (clear_next (suc at) xs) → Spares 5 (cond t (clear_next (suc at) xs) (program at (x - highest_bit x) ∷ []))
    go true later = later
    go false later = ((λ e. omega arith), tt)

pub count_unmarked : (N B n : ℕ) (e : Version) → ((total : ℕ) (bits : List ℕ) → e ≡ version2 total bits → length bits ≡ 224) → marks_in B (on_page (header_at N B n) (count_erase e)) ≡ 0
unfolding count_erase on_page marks_in count
count_unmarked N B n version1 h = refl
count_unmarked N B n (version2 total bits) h =
    let i = clear_in_page bits 32 (omega (arith, h total bits refl)) in in_header N B n (clear_next 32 bits) i (spared_marks (clear_next 32 bits) i (clear_spares bits 32 (omega arith)))

-- ---- lists within slots

pub dead_unmarked : (N B : ℕ) (p : Place) → p.slot < B → marks_in B (mark_place N B p) ≡ 0
unfolding mark_place mark_dead
dead_unmarked N B p h = slot_unmarked N B p.number p.slot mark_dead h (omega arith, tt)

pub write_unmarked : (N B n j b : ℕ) (c : List ℕ) → j < B → length c ≤ most_contents → marks_in B (on_page (slot_at N B n j) (write_slot b c)) ≡ 0
write_unmarked N B n j b c h l = slot_unmarked N B n j (write_slot b c) h (write_in_page b c l)

pub copy_unmarked : (N B n j : ℕ) (es : List Entry) → Valids es → j + length es ≤ B → marks_in B (copy_entries N B n j es) ≡ 0
unfolding copy_entries marks_in count
copy_unmarked N B n j [] v h = refl
copy_unmarked N B n j (e ∷ es) v h =
    simp (marks_append, write_unmarked N B n j e.block e.contents (omega arith) v.0.short, copy_unmarked N B n (suc j) es v.1 (omega arith))

-- ---- a compaction

-- all but its last step, the owing mark
unfoldable pub numbered : ℕ → ℕ → Version → ℕ → ℕ → List Entry → List Step
numbered N B ver o n es =
    on_page (header_at N B n) (compaction_header N B ver n (o % N)) ++ (copy_entries N B n 0 es ++ on_page (header_at N B n) (number_header N B ver n (o % N)))

abbrev pub owing_mark : ℕ → ℕ → ℕ → Step
owing_mark N B n = program (header_at N B n * 256 + 5) erase_pending

pub copy_out_marks : (N B : ℕ) (ver : Version) (o n : ℕ) (es : List Entry) → copy_out N B ver o n es ≡ numbered N B ver o n es ++ (owing_mark N B n ∷ [])
unfolding numbered on_page
copy_out_marks N B ver o n es = simp (copy_out_pages, pending_parts, on_page_append, append_assoc)

compaction_marks : (N B : ℕ) (ver : Version) (n old : ℕ) → marks_in 0 (compaction_header N B ver n old) ≡ 0
unfolding compaction_header marks_in is_mark count
compaction_marks N B ver n old = let h = header_page N B ver erase_pending n old in
    simp (marks_append, part_marks h 0 5 (omega arith) (inr (omega arith)), part_marks h 6 2 (omega arith) (inl (omega arith)), part_marks h 16 1 (omega arith) (inl (omega arith)))

number_marks : (N B : ℕ) (ver : Version) (n old : ℕ) → marks_in 0 (number_header N B ver n old) ≡ 0
unfolding number_header
number_marks N B ver n old = let h = header_page N B ver erase_pending n old in
    simp (marks_append, part_marks h 17 4 (omega arith) (inl (omega arith)), part_marks h 8 8 (omega arith) (inl (omega arith)))

pub numbered_unmarked : (N B : ℕ) (ver : Version) (o n : ℕ) (es : List Entry) → Valids es → length es ≤ B → marks_in B (numbered N B ver o n es) ≡ 0
unfolding numbered
numbered_unmarked N B ver o n es v h =
    simp (marks_append, in_header N B n _ (compaction_in_page N B ver n (o % N)) (compaction_marks N B ver n (o % N)), copy_unmarked N B n 0 es v (omega arith), in_header N B n _ (number_in_page N B ver n (o % N)) (number_marks N B ver n (o % N)))

pub mark_one : (N B n : ℕ) → marks_in B (owing_mark N B n ∷ []) ≡ 1
unfolding header_at on_page marks_in is_mark count
mark_one N B n = header_marks B (n % N) (program 5 erase_pending ∷ []) (omega arith, tt)

pub copy_out_one : (N B : ℕ) (ver : Version) (o n : ℕ) (es : List Entry) → Valids es → length es ≤ B → marks_in B (copy_out N B ver o n es) ≡ 1
copy_out_one N B ver o n es v h = rw (copy_out_marks N B ver o n es, marks_append B (numbered N B ver o n es) (owing_mark N B n ∷ []), numbered_unmarked N B ver o n es v h, mark_one N B n)

-- the mark is one bit: a cut of it leaves the image as it was, or has reached it
pub mark_begun : (N B n : ℕ) (s t : Image) (ds : List ℕ) (f : ℕ) → get_or s (header_at N B n * 256 + 5) 0 ≡ compaction_begun → CutBegun B (owing_mark N B n ∷ []) s t ds f
    → ((t ≡ s) × (f ≡ 0)) ⊎ ((t ≡ run B (owing_mark N B n ∷ []) s) × (f ≡ 1))
unfolding run
mark_begun N B n s t ds f e (inl c) = inl (c.0, c.2)
mark_begun N B n s t ds f e (inr (inr (rest, more, g, h, c))) = inr (c.0, omega (arith, h, c.2, mark_one N B n))
mark_begun N B n s t ds f e (inr (inl c)) = go (same t (step B (owing_mark N B n) s)) refl c.2
  where
    one : OneBit (clear (get_or s (header_at N B n * 256 + 5) 0) erase_pending) (get_or s (header_at N B n * 256 + 5) 0)
    one = rw (e, clear_compaction) erase_pending_bit

    go : (b : Bool) → same t (step B (owing_mark N B n) s) ≡ b → f ≡ cond b (marks_in B (owing_mark N B n ∷ [])) 0 → ((t ≡ s) × (f ≡ 0)) ⊎ ((t ≡ step B (owing_mark N B n) s) × (f ≡ 1))
    go true q h = inr (same_eq t (step B (owing_mark N B n) s) q, h ∙ mark_one N B n)
    go false q h = ⊎_elim (λ k. inl (k, h)) (λ k. absurd (false≢true (sym q ∙ (ap (λ y. same y (step B (owing_mark N B n) s)) k ∙ same_refl (step B (owing_mark N B n) s)))))
        (one_bit_cut B (header_at N B n * 256 + 5) erase_pending s t one (inr (inl c.0)))
