-- Power cuts within one page: what they leave of a slot being written or marked, and of a header being written.
use Rattle.std.specs.Prelude.{ℕ, ◌/◌, ◌%◌, ◌<◌, ◌≡◌, refl, ◌⊎◌, List, [], ◌∷◌, ◌++◌, length, get_or, set}
use Rattle.std.proofs.Common.{sym, ap, ◌∙◌, inl, inr, ⊎_elim, append_assoc, arith, get_or-set_same}
use Rattle.std.proofs.lemmas.List.{set-get_or}
use Rattle.model.specs.Chip.{Image, Page, Step, program, clear, erased, step, run, Cut}
use Rattle.model.specs.Header.{opening_begun, opened, compaction_begun, erase_pending, Version, new_version, no_old_segment, header_page}
use Rattle.model.specs.Slot.{write_begun, written, slot_page, Slot, empty, torn, live, slot_of}
use Rattle.model.specs.Steps.{program_part, write_slot}
use Rattle.model.proofs.Laws.Chip.{run_append, cut_append}
use Rattle.model.proofs.Laws.Bytes.{clear_erased, erased_get, erased_length, OneBit, begun_bit, written_bit, live_dead_bit, torn_cut_bit, compaction_begun_bit}
use Rattle.model.proofs.Laws.Programs.{Spares, spares_append, spares_part, spared_run, spared_cut}
use Rattle.model.proofs.Laws.HeaderPage.{erased_bit_6, opening_header, compaction_header, number_header, begun_page, opening_run, clear_begun}
use Rattle.model.proofs.Laws.SlotPage.{Valid, slot_live, erased_empty, begun_torn, write_middle, write_parts, write_run, Markable, clear_live, clear_torn, clear_written}

-- ---- a status of one bit, programmed first or last

-- one step that changes one bit: it is done or not
pub one_bit_cut : (B at v : ℕ) (s t : Image) → OneBit (clear (get_or s at 0) v) (get_or s at 0) → Cut B (program at v ∷ []) s t → (t ≡ s) ⊎ (t ≡ run B (program at v ∷ []) s)
unfolding run step
one_bit_cut B at v s t one (inl e) = inl e
one_bit_cut B at v s t one (inr (inl (x, b, e))) =
    ⊎_elim (λ lo. inr (e ∙ ap (λ y. set s at y) lo)) (λ hi. inl (e ∙ (ap (λ y. set s at y) hi ∙ set-get_or s at 0))) (one x b)
one_bit_cut B at v s t one (inr (inr e)) = inr e

-- the status first, then bytes that are not the status
pub begin_cut : (B at v : ℕ) (xs : List Step) (s t : Image) → at < length s → OneBit (clear (get_or s at 0) v) (get_or s at 0) → Spares at xs
    → Cut B (program at v ∷ xs) s t → (t ≡ s) ⊎ (get_or t at 0 ≡ clear (get_or s at 0) v)
unfolding run step
begin_cut B at v xs s t l one p c =
    ⊎_elim
    (λ d. ⊎_elim (λ e. inl e) (λ e. inr (ap (λ y. get_or y at 0) e ∙ new)) (one_bit_cut B at v s t one d))
    (λ d. inr (spared_cut B at xs (run B (program at v ∷ []) s) t p d ∙ new))
    (cut_append B (program at v ∷ []) xs s t c)
  where
    new : get_or (run B (program at v ∷ []) s) at 0 ≡ clear (get_or s at 0) v
    new = get_or-set_same s at (clear (get_or s at 0) v) 0 l

-- bytes that are not the status, then the status
pub finish_cut : (B at v : ℕ) (xs : List Step) (s t : Image) → OneBit (clear (get_or s at 0) v) (get_or s at 0) → Spares at xs
    → Cut B (xs ++ (program at v ∷ [])) s t → (get_or t at 0 ≡ get_or s at 0) ⊎ (t ≡ run B (xs ++ (program at v ∷ [])) s)
finish_cut B at v xs s t one p c =
    ⊎_elim
    (λ d. inl (spared_cut B at xs s t p d))
    (λ d. ⊎_elim (λ e. inl (ap (λ y. get_or y at 0) e ∙ kept)) (λ e. inr (e ∙ sym (run_append B xs (program at v ∷ []) s))) (one_bit_cut B at v (run B xs s) t (rw kept one) d))
    (cut_append B xs (program at v ∷ []) s t c)
  where
    kept : get_or (run B xs s) at 0 ≡ get_or s at 0
    kept = spared_run B at xs s p

-- both
pub status_cut : (B at v w : ℕ) (xs : List Step) (s t : Image) → at < length s → OneBit (clear (get_or s at 0) v) (get_or s at 0)
    → OneBit (clear (clear (get_or s at 0) v) w) (clear (get_or s at 0) v) → Spares at xs → Cut B (program at v ∷ (xs ++ (program at w ∷ []))) s t
    → (t ≡ s) ⊎ ((get_or t at 0 ≡ clear (get_or s at 0) v) ⊎ (t ≡ run B (program at v ∷ (xs ++ (program at w ∷ []))) s))
unfolding run step
status_cut B at v w xs s t l one two p c =
    ⊎_elim
    (λ d. ⊎_elim (λ e. inl e) (λ e. inr (inl (ap (λ y. get_or y at 0) e ∙ new))) (one_bit_cut B at v s t one d))
    (λ d. inr (⊎_elim (λ e. inl (e ∙ new)) (λ e. inr e) (finish_cut B at w xs (set s at (clear (get_or s at 0) v)) t (rw new two) p d)))
    (cut_append B (program at v ∷ []) (xs ++ (program at w ∷ [])) s t c)
  where
    new : get_or (set s at (clear (get_or s at 0) v)) at 0 ≡ clear (get_or s at 0) v
    new = get_or-set_same s at (clear (get_or s at 0) v) 0 l

-- ---- a slot

write_spares : (b : ℕ) (c : List ℕ) → Spares 0 (write_middle b c)
unfolding write_middle
write_spares b c = let p = slot_page b c in
    spares_append 0 (program_part p 1 3) (program_part p 8 (length c)) (spares_part 0 p 1 3 (inl (omega arith))) (spares_part 0 p 8 (length c) (inl (omega arith)))

-- erased still, torn, or whole
pub write_cut : (B b : ℕ) (c : List ℕ) (u : Page) → Valid b c → Cut B (write_slot b c) (erased 256) u
    → (u ≡ erased 256) ⊎ ((get_or u 0 0 ≡ write_begun) ⊎ (u ≡ slot_page b c))
write_cut B b c u v k =
    let e : get_or (erased 256) 0 0 ≡ 255 = erased_get 256 0 (omega arith) in
    let f : clear 255 write_begun ≡ write_begun = clear_erased write_begun (omega arith) in
    ⊎_elim (λ h. inl h) (λ h. inr (⊎_elim (λ g. inl (rw (e, f) at g)) (λ g. inr (g ∙ (ap (λ y. run B y (erased 256)) (sym (write_parts b c)) ∙ write_run B b c v))) h))
    (status_cut B 0 write_begun written (write_middle b c) (erased 256) u (omega (arith, erased_length 256)) (rw (e, f) begun_bit) (rw (e, f, clear_written) written_bit)
    (write_spares b c) (rw (write_parts b c) at k))

pub write_cut_kind : (B b : ℕ) (c : List ℕ) (u : Page) → Valid b c → Cut B (write_slot b c) (erased 256) u
    → (slot_of u ≡ empty) ⊎ ((slot_of u ≡ torn) ⊎ (slot_of u ≡ live b c))
write_cut_kind B b c u v k =
    ⊎_elim (λ e. inl (ap slot_of e ∙ erased_empty)) (λ h. inr (⊎_elim (λ e. inl (begun_torn u e)) (λ e. inr (ap slot_of e ∙ slot_live b c v.number v.short)) h)) (write_cut B b c u v k)

-- marked or not
pub mark_bit : (a : ℕ) (k : Slot) → Markable a k → OneBit (clear a 0xDF) a
mark_bit a k (inl (e, q)) = rw (e, clear_live) live_dead_bit
mark_bit a k (inr (e, q)) = rw (e, clear_torn) torn_cut_bit

-- ---- a header: finished, or bit 6 of its status is still set

-- the steps of an opening between the two of the status
opening_middle : ℕ → ℕ → Version → ℕ → List Step
opening_middle N B ver n = let h = header_page N B ver opened n no_old_segment in program_part h 0 5 ++ (program_part h 6 2 ++ (program_part h 17 4 ++ program_part h 8 8))

opening_parts : (N B : ℕ) (ver : Version) (n : ℕ) → opening_header N B ver n ≡ program 5 opening_begun ∷ (opening_middle N B ver n ++ (program 5 opened ∷ []))
unfolding opening_header opening_middle
opening_parts N B ver n = simp append_assoc

opening_spares : (N B : ℕ) (ver : Version) (n : ℕ) → Spares 5 (opening_middle N B ver n)
unfolding opening_middle
opening_spares N B ver n = let h = header_page N B ver opened n no_old_segment in
    spares_append 5 (program_part h 0 5) _ (spares_part 5 h 0 5 (inr (omega arith)))
    (spares_append 5 (program_part h 6 2) _ (spares_part 5 h 6 2 (inl (omega arith)))
    (spares_append 5 (program_part h 17 4) _ (spares_part 5 h 17 4 (inl (omega arith))) (spares_part 5 h 8 8 (inl (omega arith)))))

bit_6 : (st : ℕ) (u : Page) → get_or u 5 0 ≡ st → st / 64 % 2 ≡ 1 → get_or u 5 0 / 64 % 2 ≡ 1
bit_6 st u e h = rw e h

unwritten : (u : Page) → u ≡ erased 256 → get_or u 5 0 / 64 % 2 ≡ 1
unwritten u e = bit_6 (get_or (erased 256) 5 0) u (ap (λ y. get_or y 5 0) e) erased_bit_6

erased_status : get_or (erased 256) 5 0 ≡ 255
erased_status = erased_get 256 5 (omega arith)

pub opening_cut : (N B t n : ℕ) (u : Page) → N < 256 → B < 256 → Cut B (opening_header N B (new_version t) n) (erased 256) u
    → (get_or u 5 0 / 64 % 2 ≡ 1) ⊎ (u ≡ header_page N B (new_version t) opened n no_old_segment)
opening_cut N B t n u h_n h_b k =
    let e = erased_status in
    let f : clear 255 opening_begun ≡ opening_begun = clear_erased opening_begun (omega arith) in
    ⊎_elim (λ h. inl (unwritten u h))
    (λ h. ⊎_elim (λ g. inl (bit_6 opening_begun u (rw (e, f) at g) refl)) (λ g. inr (g ∙ (ap (λ y. run B y (erased 256)) (sym (opening_parts N B (new_version t) n)) ∙ opening_run N B t n h_n h_b))) h)
    (status_cut B 5 opening_begun opened (opening_middle N B (new_version t) n) (erased 256) u (omega (arith, erased_length 256)) (rw (e, f) begun_bit) (rw (e, f, clear_begun) written_bit)
    (opening_spares N B (new_version t) n) (rw (opening_parts N B (new_version t) n) at k))

-- while slots are copied it is never finished
pub compaction_cut : (N B : ℕ) (ver : Version) (n old : ℕ) (u : Page) → Cut B (compaction_header N B ver n old) (erased 256) u → get_or u 5 0 / 64 % 2 ≡ 1
unfolding compaction_header
compaction_cut N B ver n old u k =
    let h = header_page N B ver erase_pending n old in
    let e = erased_status in
    let f : clear 255 compaction_begun ≡ compaction_begun = clear_erased compaction_begun (omega arith) in
    ⊎_elim (λ g. unwritten u g) (λ g. bit_6 compaction_begun u (rw (e, f) at g) refl)
    (begin_cut B 5 compaction_begun (program_part h 0 5 ++ (program_part h 6 2 ++ program_part h 16 1)) (erased 256) u (omega (arith, erased_length 256)) (rw (e, f) compaction_begun_bit)
    (spares_append 5 (program_part h 0 5) _ (spares_part 5 h 0 5 (inr (omega arith)))
    (spares_append 5 (program_part h 6 2) _ (spares_part 5 h 6 2 (inl (omega arith))) (spares_part 5 h 16 1 (inl (omega arith))))) k)

begun_status : (N B old : ℕ) → get_or (begun_page N B old) 5 0 ≡ compaction_begun
unfolding begun_page
begun_status N B old = refl

pub begun_bit_6 : (N B old : ℕ) → get_or (begun_page N B old) 5 0 / 64 % 2 ≡ 1
begun_bit_6 N B old = bit_6 compaction_begun (begun_page N B old) (begun_status N B old) refl

-- and the bytes before the owing mark leave the status as it is
pub number_cut : (N B : ℕ) (ver : Version) (n old : ℕ) (u : Page) → Cut B (number_header N B ver n old) (begun_page N B old) u → get_or u 5 0 ≡ compaction_begun
unfolding number_header
number_cut N B ver n old u k = let h = header_page N B ver erase_pending n old in
    spared_cut B 5 (number_header N B ver n old) (begun_page N B old) u
    (spares_append 5 (program_part h 17 4) (program_part h 8 8) (spares_part 5 h 17 4 (inl (omega arith))) (spares_part 5 h 8 8 (inl (omega arith)))) k
    ∙ begun_status N B old
