-- An erase that a recovery counts in the top's header: whatever a cut leaves of that step, only the bits of the tally differ. The state, the slots and the version's number are the same.
use Rattle.std.specs.Prelude.{ℕ, suc, ◌+◌, ◌-◌, ◌*◌, ◌%◌, ◌≤◌, ◌<◌, ◌≡◌, ◌⊎◌, Bool, true, false, cond, List, [], ◌∷◌, ◌++◌, length}
use Rattle.std.proofs.Math.Path.{refl, sym, ap}
use Rattle.std.proofs.Common.{ap₂, ◌∙◌, inr, ⊎_elim, arith, length-append, get_or-append-add}
use Rattle.std.proofs.Math.Logic.{inl}
use Rattle.std.proofs.Math.Bool.{not}
use Rattle.std.proofs.Math.ListN.{get_or, set}
use Rattle.std.proofs.Math.Seq.{set-get_or, set-append_seam}
use Rattle.std.proofs.lemmas.List.{get_or_at}
use Rattle.std.proofs.Math.Dec.{eqb}
use Rattle.model.specs.Chip.{Image, Page, Bytes, pages_of, program, erased, clear, step, run, most_segments, number_limit, image_length, Cut}
use Rattle.model.specs.Header.{number_bytes, inverted, Version, version1, version2, version_number, total_fits, tally_bytes, header_page, header_status, header_number, old_index}
use Rattle.model.specs.Slot.{Slot}
use Rattle.model.specs.State.{Segment, blank, invalid, in_use, segment_of, segments_of, is_in_use, is_invalid, is_owing, number_after, slots_in, version_in, of_version, next_number, used_count, first_number, View, view_of, entries_in, some_in_use, consecutive, none_owing, others_blank, none_wrong_or_torn, blocks_distinct, empty_slots_last, within_capacity, conditions, is_clean}
use Rattle.model.specs.Steps.{on_page, header_at, highest_bit, clear_next, count_erase}
use Rattle.model.specs.Laws.Lists.{all_same}
use Rattle.model.proofs.Laws.Bytes.{chunk_bytes, bytes_behind}
use Rattle.model.proofs.Laws.Bits.{next_cleared, clear_shape, highest_bit_lem}
use Rattle.model.proofs.Laws.Pages.{InPage}
use Rattle.model.proofs.Laws.HeaderPage.{in_use_facts}
use Rattle.model.proofs.Laws.PageCuts.{one_bit_cut}
use Rattle.model.proofs.Laws.Segments.{part_of, part_page, part_size, page_size, page_byte, segment_at, Only, only_refl, only_segments}
use Rattle.model.proofs.Laws.Effects.{InUseParts, in_use_parts, headed, place, header_only, header_run, header_cut}
use Rattle.model.proofs.Laws.Ring.{next_kept, used_kept, numbers_kept, slots_kept}
use Rattle.model.proofs.Laws.View.{one_kept}

-- ---- within the page

unfoldable pub counted : Version → Version
counted version1 = version1
counted (version2 total bits) = version2 total (next_cleared bits)

-- bytes before the bits are not touched
set_behind : (p : List ℕ) (x y : ℕ) (xs : List ℕ) (at : ℕ) → at ≡ length p → set (p ++ (x ∷ xs)) at y ≡ p ++ (y ∷ xs)
set_behind p x y xs at e = rw e (set-append_seam p x xs y)

snoc_append : (p : List ℕ) (x : ℕ) (xs : List ℕ) → (p ++ (x ∷ [])) ++ xs ≡ p ++ (x ∷ xs)
snoc_append [] x xs = refl
snoc_append (y ∷ p) x xs = ap {B = List ℕ} (λ r. y ∷ r) (snoc_append p x xs)

snoc_length : (p : List ℕ) (x : ℕ) → length (p ++ (x ∷ [])) ≡ suc (length p)
snoc_length [] x = refl
snoc_length (y ∷ p) x = ap suc (snoc_length p x)

pub clear_run : (B : ℕ) (bits p : List ℕ) (at : ℕ) → at ≡ length p → run B (clear_next at bits) (p ++ bits) ≡ p ++ next_cleared bits
unfolding clear_next next_cleared run step
clear_run B [] p at e = refl
clear_run B (x ∷ xs) p at e = go (eqb x 0) (clear_run B xs (p ++ (x ∷ [])) (suc at) (omega (arith, snoc_length p x)))
  where
    go : (t : Bool) → run B (clear_next (suc at) xs) ((p ++ (x ∷ [])) ++ xs) ≡ (p ++ (x ∷ [])) ++ next_cleared xs
        → run B (cond t (clear_next (suc at) xs) (program at (x - highest_bit x) ∷ [])) (p ++ (x ∷ xs)) ≡ p ++ cond t (x ∷ next_cleared xs) (clear x (x - highest_bit x) ∷ xs)
    go true later = ap (λ y. run B (clear_next (suc at) xs) y) (sym (snoc_append p x xs)) ∙ (later ∙ snoc_append p x (next_cleared xs))
    go false later = unfold run step in (rw (get_or_at p x xs 0 at (sym e)) (set_behind p x (clear x (x - highest_bit x)) xs at e))

pub clear_cut : (B : ℕ) (bits p : List ℕ) (at : ℕ) (u : List ℕ) → at ≡ length p → Cut B (clear_next at bits) (p ++ bits) u → (rest : List ℕ) × (u ≡ p ++ rest) × (length rest ≡ length bits)
unfolding clear_next
clear_cut B [] p at u e c = ([], c, refl)
clear_cut B (x ∷ xs) p at u e c = go (eqb x 0) (λ k. clear_cut B xs (p ++ (x ∷ [])) (suc at) u (omega (arith, snoc_length p x)) k) c
  where
    go : (t : Bool) → (Cut B (clear_next (suc at) xs) ((p ++ (x ∷ [])) ++ xs) u → (rest : List ℕ) × (u ≡ (p ++ (x ∷ [])) ++ rest) × (length rest ≡ length xs))
        → Cut B (cond t (clear_next (suc at) xs) (program at (x - highest_bit x) ∷ [])) (p ++ (x ∷ xs)) u → (rest : List ℕ) × (u ≡ p ++ rest) × (length rest ≡ suc (length xs))
    go true later k = let r = later (rw (snoc_append p x xs) k) in (x ∷ r.0, r.1 ∙ snoc_append p x r.0, ap suc r.2)
    go false later (inl q) = (x ∷ xs, q, refl)
    go false later (inr (inl (y, b, q))) = (y ∷ xs, q ∙ set_behind p x y xs at e, refl)
    go false later (inr (inr q)) = (clear (get_or (p ++ (x ∷ xs)) at 0) (x - highest_bit x) ∷ xs, q ∙ (unfold step in set_behind p x (clear (get_or (p ++ (x ∷ xs)) at 0) (x - highest_bit x)) xs at e), refl)

-- the steps stay in the page
pub clear_in_page : (bits : List ℕ) (at : ℕ) → at + length bits ≤ 256 → InPage (clear_next at bits)
unfolding clear_next
clear_in_page [] at h = tt
clear_in_page (x ∷ xs) at h = go (eqb x 0) (clear_in_page xs (suc at) (omega arith))
  where
    go : (t : Bool) → InPage (clear_next (suc at) xs) → InPage (cond t (clear_next (suc at) xs) (program at (x - highest_bit x) ∷ []))
    go true later = later
    go false later = (omega arith, tt)

-- the page before its bits
unfoldable before_bits : ℕ → ℕ → ℕ → ℕ → ℕ → ℕ → List ℕ
before_bits N B total st n old = 0x53 ∷ 0x4C ∷ 0x54 ∷ 2 ∷ 0 ∷ st ∷ B ∷ N ∷ (number_bytes n ++ (inverted (number_bytes n) ++ (old ∷ (number_bytes total ++ erased 11))))

page_bits : (N B total : ℕ) (bits : List ℕ) (st n old : ℕ) → header_page N B (version2 total bits) st n old ≡ before_bits N B total st n old ++ bits
unfolding header_page before_bits version_number tally_bytes number_bytes inverted erased
page_bits N B total bits st n old = refl

before_length : (N B total st n old : ℕ) → 32 ≡ length (before_bits N B total st n old)
unfolding before_bits number_bytes inverted erased
before_length N B total st n old = refl

same_total : (total : ℕ) (bits rest : List ℕ) → total_fits (version2 total rest) ≡ total_fits (version2 total bits)
unfolding total_fits
same_total total bits rest = refl

-- ---- in the image

-- a segment with another version
unfoldable pub with_version : Version → Segment → Segment
with_version e blank = blank
with_version e invalid = invalid
with_version e (in_use ver st n ks) = in_use e st n ks

module _ (N B : ℕ) (two : 2 ≤ N) (most : N ≤ most_segments) (most_b : B < 256) (s : Image) (z : length s ≡ image_length N B) (n : ℕ) (below : n < number_limit N) (st : ℕ) (ks : List Slot) where
  abbrev i : ℕ
  i = n % N

  -- what of the header is left, if only bits of the tally differ
  module _ (total : ℕ) (bits : List ℕ) (used : get_or (segments_of N B s) (n % N) blank ≡ in_use (version2 total bits) st n ks) where
    ps : List Page
    ps = part_of N B i s

    parts : InUseParts N B (n % N) (part_of N B (n % N) s) (version2 total bits) st n ks
    parts = in_use_parts N B i (part_of N B i s) (version2 total bits) st n ks (sym (segment_at N B i s (place N B two most most_b s z n below)) ∙ used)

    abbrev old : ℕ
    old = old_index N (n % N) st

    page : get_or (part_of N B (n % N) s) 0 [] ≡ before_bits N B total st n (old_index N (n % N) st) ++ bits
    page =
        let h = get_or (part_of N B i s) 0 [] in
        (in_use_facts N B i h parts.header).page
        ∙ (ap (λ y. header_page N B y (header_status h) (header_number h) (old_index N i (header_status h))) parts.version
        ∙ (ap₂ (λ a b. header_page N B (version2 total bits) a b (old_index N i a)) parts.status parts.number ∙ page_bits N B total bits st n old))

    pub bits_length : length bits ≡ 224
    bits_length =
        let e = ap length page ∙ length-append (before_bits N B total st n old) bits in
        omega (arith, e, page_size N B i 0 s z (place N B two most most_b s z n below) (omega arith), before_length N B total st n old)

    rest_in_use : (u : Image) (rest : List ℕ) → Only N B (n % N) s u → part_of N B (n % N) u ≡ set (part_of N B (n % N) s) 0 (before_bits N B total st n (old_index N (n % N) st) ++ rest)
        → segments_of N B u ≡ set (segments_of N B s) (n % N) (in_use (version2 total rest) st n ks)
    rest_in_use u rest o e =
        let f = in_use_facts N B i (get_or (part_of N B i s) 0 []) parts.header in
        let fits : total_fits (version2 total rest) ≡ true = same_total total bits rest ∙ (rw parts.version at f.fits) in
        only_segments N B i s u o
        ∙ ap (λ (y : Segment). set (segments_of N B s) i y) (ap (λ y. segment_of N B i y) (e ∙ ap (λ (y : Page). set (part_of N B i s) 0 y) (sym (page_bits N B total rest st n old)))
        ∙ (headed N B (version2 total rest) st n (part_of N B i s) most (rw parts.status at f.status) fits below (omega (arith, part_size N B i s (place N B two most most_b s z n below)))
        ∙ ap (λ y. in_use (version2 total rest) st n y) parts.slots))

    counting : InPage (clear_next 32 bits)
    counting = clear_in_page bits 32 (omega (arith, bits_length))

    cut_second : (u : Image) → Cut B (on_page (header_at N B n) (clear_next 32 bits)) s u
        → Only N B (n % N) s u × ((e : Version) × (version_number e ≡ 2) × (segments_of N B u ≡ set (segments_of N B s) (n % N) (in_use e st n ks)))
    cut_second u c =
        let o = header_only N B two most most_b s z n below (clear_next 32 bits) counting u c in
        let r = header_cut N B two most most_b s z n below (clear_next 32 bits) counting u c in
        let k = clear_cut B bits (before_bits N B total st n old) 32 r.0 (before_length N B total st n old) (rw page at r.1) in
        (o, (version2 total k.0, (unfold version_number in refl), rest_in_use u k.0 o (r.2 ∙ ap (λ (y : Page). set (part_of N B i s) 0 y) k.1)))

    page_bytes : Bytes s → Bytes (get_or (part_of N B (n % N) s) 0 [])
    unfolding pages_of
    page_bytes bs = rw (part_page N B (n % N) 0 s (place N B two most most_b s z n below) (omega arith)) (chunk_bytes (N * (B + 1)) 256 _ s bs)

    bit_bytes : Bytes s → Bytes bits
    bit_bytes bs = bytes_behind (before_bits N B total st n old) bits (rw page at (page_bytes bs))

    -- of an image of bytes: the bit is cleared or not
    whole_second : Bytes s → (u : Image) → Cut B (on_page (header_at N B n) (clear_next 32 bits)) s u → (u ≡ s) ⊎ (u ≡ run B (on_page (header_at N B n) (clear_next 32 bits)) s)
    whole_second bs u c = ⊎_elim (λ q. inl (none q c)) (λ q. one q.0 q.1 q.2 q.3 q.4 c) (clear_shape bits 32 (bit_bytes bs))
      where
        none : clear_next 32 bits ≡ [] → Cut B (on_page (header_at N B n) (clear_next 32 bits)) s u → u ≡ s
        none q d = unfold on_page in rw q at d

        one : (j : ℕ) → j < length bits → eqb (get_or bits j 0) 0 ≡ false → get_or bits j 0 < 256 → clear_next 32 bits ≡ program (32 + j) (get_or bits j 0 - highest_bit (get_or bits j 0)) ∷ []
            → Cut B (on_page (header_at N B n) (clear_next 32 bits)) s u → (u ≡ s) ⊎ (u ≡ run B (on_page (header_at N B n) (clear_next 32 bits)) s)
        one j l e y q d = unfold on_page in (rw q (one_bit_cut B (header_at N B n * 256 + (32 + j)) (get_or bits j 0 - highest_bit (get_or bits j 0)) s u (rw byte (highest_bit_lem (get_or bits j 0) y e)) (rw q at d)))
          where
            at_page : header_at N B n ≡ n % N * (B + 1) + 0
            at_page = unfold header_at in (omega arith)

            byte : get_or s (header_at N B n * 256 + (32 + j)) 0 ≡ get_or bits j 0
            byte = ap (λ (p : ℕ). get_or s (p * 256 + (32 + j)) 0) at_page
                ∙ (sym (page_byte N B (n % N) 0 (32 + j) s (place N B two most most_b s z n below) (omega arith) (omega (arith, bits_length)))
                ∙ (ap (λ (p : Page). get_or p (32 + j) 0) page ∙ (ap (λ (a : ℕ). get_or (before_bits N B total st n old ++ bits) (a + j) 0) (before_length N B total st n old) ∙ get_or-append-add (before_bits N B total st n old) bits j 0)))

    run_second : segments_of N B (run B (on_page (header_at N B n) (clear_next 32 bits)) s) ≡ set (segments_of N B s) (n % N) (in_use (version2 total (next_cleared bits)) st n ks)
    run_second =
        let r = header_run N B two most most_b s z n below (clear_next 32 bits) counting in
        rest_in_use (run B (on_page (header_at N B n) (clear_next 32 bits)) s) (next_cleared bits) r.0
        (r.1 ∙ ap (λ (y : Page). set (part_of N B i s) 0 y) (ap (λ (y : Page). run B (clear_next 32 bits) y) page ∙ clear_run B bits (before_bits N B total st n old) 32 (before_length N B total st n old)))

  -- a cut of the step, or no cut, or no step
  pub count_cut : (ver : Version) → get_or (segments_of N B s) (n % N) blank ≡ in_use ver st n ks → (u : Image) → Cut B (on_page (header_at N B n) (count_erase ver)) s u
      → Only N B (n % N) s u × ((e : Version) × (version_number e ≡ version_number ver) × (segments_of N B u ≡ set (segments_of N B s) (n % N) (in_use e st n ks)))
  unfolding count_erase version_number on_page
  count_cut version1 used u c = (
    rw c (only_refl N B i s),
    (version1, refl, ap (λ y. segments_of N B y) c ∙ sym (ap (λ (y : Segment). set (segments_of N B s) i y) (sym used) ∙ set-get_or (segments_of N B s) i blank)),
  )
  count_cut (version2 total bits) used u c = cut_second total bits used u c

  -- of an image of bytes, all of it or nothing
  pub count_whole : (ver : Version) → get_or (segments_of N B s) (n % N) blank ≡ in_use ver st n ks → Bytes s → (u : Image) → Cut B (on_page (header_at N B n) (count_erase ver)) s u
      → (u ≡ s) ⊎ (u ≡ run B (on_page (header_at N B n) (count_erase ver)) s)
  unfolding count_erase on_page
  count_whole version1 used bs u c = inl c
  count_whole (version2 total bits) used bs u c = whole_second total bits used bs u c

  -- and the bytes of the bits
  pub tally_bytes_lem : (total : ℕ) (bits : List ℕ) → get_or (segments_of N B s) (n % N) blank ≡ in_use (version2 total bits) st n ks → Bytes s → Bytes bits
  tally_bytes_lem total bits used bs = bit_bytes total bits used bs

  pub count_run : (ver : Version) → get_or (segments_of N B s) (n % N) blank ≡ in_use ver st n ks
      → segments_of N B (run B (on_page (header_at N B n) (count_erase ver)) s) ≡ set (segments_of N B s) (n % N) (in_use (counted ver) st n ks)
  unfolding count_erase counted on_page run
  count_run version1 used = sym (ap (λ (y : Segment). set (segments_of N B s) i y) (sym used) ∙ set-get_or (segments_of N B s) i blank)
  count_run (version2 total bits) used = run_second total bits used

-- ---- segments alike but for the bits

-- views with the same smallest number and the same slots
abbrev pub SameRows : View → View → Type 0
SameRows v w = (v.first ≡ w.first) × (v.slots ≡ w.slots)

module _ (e : Version) where
  pub with_version_number : (x : Segment) → number_after (with_version e x) ≡ number_after x
  unfolding with_version number_after
  with_version_number blank = refl
  with_version_number invalid = refl
  with_version_number (in_use ver st n ks) = refl

  pub with_version_use : (x : Segment) → is_in_use (with_version e x) ≡ is_in_use x
  unfolding with_version is_in_use
  with_version_use blank = refl
  with_version_use invalid = refl
  with_version_use (in_use ver st n ks) = refl

  pub with_version_owing : (x : Segment) → is_owing (with_version e x) ≡ is_owing x
  unfolding with_version is_owing
  with_version_owing blank = refl
  with_version_owing invalid = refl
  with_version_owing (in_use ver st n ks) = refl

  pub with_version_invalid : (x : Segment) → is_invalid (with_version e x) ≡ is_invalid x
  unfolding with_version is_invalid
  with_version_invalid blank = refl
  with_version_invalid invalid = refl
  with_version_invalid (in_use ver st n ks) = refl

  with_version_slots : (x : Segment) → slots_in (with_version e x) ≡ slots_in x
  unfolding with_version slots_in
  with_version_slots blank = refl
  with_version_slots invalid = refl
  with_version_slots (in_use ver st n ks) = refl

  with_version_of : (x : Segment) → version_number e ≡ version_number (version_in x) → (k : ℕ) → of_version k (with_version e x) ≡ of_version k x
  unfolding with_version of_version version_in
  with_version_of blank q k = refl
  with_version_of invalid q k = refl
  with_version_of (in_use ver st n ks) q k = ap (λ (y : ℕ). eqb y k) q

  module _ (N : ℕ) (l : List Segment) (i : ℕ) (inside : i < length l) where
    abbrev alike : List Segment
    alike = set l i (with_version e (get_or l i blank))

    alike_used : used_count alike ≡ used_count l
    alike_used = used_kept l i (with_version e (get_or l i blank)) inside (with_version_use (get_or l i blank))

    pub alike_next : next_number (set l i (with_version e (get_or l i blank))) ≡ next_number l
    alike_next = next_kept l i (with_version e (get_or l i blank)) (with_version_number (get_or l i blank))

    alike_slots : (view_of N alike).slots ≡ (view_of N l).slots
    unfolding view_of first_number
    alike_slots = rw (alike_used, alike_next) (slots_kept N i (with_version e (get_or l i blank)) l (used_count l) (next_number l - used_count l) (with_version_slots (get_or l i blank)))

    -- the rows are the same, and so is the table
    pub alike_rows : SameRows (view_of N (set l i (with_version e (get_or l i blank)))) (view_of N l)
    unfolding view_of first_number
    alike_rows = (rw (alike_used, alike_next), alike_slots)

    -- and it is clean if it was
    pub alike_clean : (B : ℕ) → version_number e ≡ version_number (version_in (get_or l i blank)) → is_clean N B (set l i (with_version e (get_or l i blank))) ≡ is_clean N B l
    unfolding is_clean conditions some_in_use consecutive first_number none_owing others_blank none_wrong_or_torn blocks_distinct entries_in empty_slots_last within_capacity
    alike_clean B q = let x = get_or l i blank in rw (
      alike_slots,
      alike_used,
      alike_next,
      numbers_kept N i (with_version e x) l (used_count l) (next_number l - used_count l) (with_version_number x),
      one_kept l i (with_version e x) (λ k. with_version_of x q k),
      all_same (λ y. not (is_owing y)) l i (with_version e x) blank (ap not (with_version_owing x)),
      all_same (λ y. not (is_invalid y)) l i (with_version e x) blank (ap not (with_version_invalid x)),
    )
