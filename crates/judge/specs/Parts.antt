-- A segment's pages as one part of the image: its header, its slots, and when it is blank.
use Rattle.std.specs.Prelude.{ℕ, zero, suc, ◌+◌, ◌-◌, ◌*◌, ◌%◌, ◌<◌, ◌≡◌, refl, Bool, true, false, cond, ◌&&◌, List, [], ◌∷◌, ◌++◌, get_or, take, eqb}
use Rattle.std.proofs.Common.{sym, ap₂, ◌∙◌, add-one, mul-le-mul_right, suc-mul, mod-lt, take-add, eqb-true}
use Rattle.std.proofs.Math.Path.{ap}
use Rattle.std.proofs.Math.Bool.{and_assoc}
use native.Mathlib.Omega.{arith}
use Rattle.std.proofs.Math.ListN.{drop}
use Rattle.std.proofs.Math.Seq.{drop-drop}
use Rattle.model.specs.Lists.{all, chunk}
use Rattle.model.specs.Chip.{Image, Page, by_segment, pages_of}
use Rattle.model.specs.Header.{header_version, header_status, header_number, header_in_use, is_blank, all_blank}
use Rattle.model.specs.Slot.{Slot}
use Rattle.model.specs.State.{Segment, blank, invalid, in_use, segment_of, segments_of, number_after, slots_in, slots_from, numbers_from}
use Rattle.model.specs.Laws.Lists.{and_left, and_right}
use Rattle.model.specs.Laws.Chunk.{chunk_part}
use Rattle.model.proofs.Laws.Segments.{part_of, segment_at}
use Rattle.judge.specs.Rows.{slots_at}

-- ---- parts of parts

take_chunk : {A : Type 0} (c d z : ℕ) (s : List A) → take c (chunk (c + d) z s) ≡ chunk c z s
unfolding chunk
take_chunk zero d z s = refl
take_chunk {A} (suc c) d z s = let e : suc c + d ≡ suc (c + d) = omega arith in rw e (ap {B = List (List A)} (λ y. take z s ∷ y) (take_chunk c d z (drop z s)))

drop_chunk : {A : Type 0} (c d z : ℕ) (s : List A) → drop c (chunk (c + d) z s) ≡ chunk d z (drop (c * z) s)
unfolding chunk
drop_chunk zero d z s = let e : 0 + d ≡ d = omega arith in let f : 0 * z ≡ 0 = omega arith in rw (e, f)
drop_chunk (suc c) d z s =
    let e : suc c + d ≡ suc (c + d) = omega arith in
    let f : suc c * z ≡ z + c * z = omega arith in
    rw (e, f) (drop_chunk c d z (drop z s) ∙ ap (chunk d z) (drop-drop (c * z) z s))

pub part_pages : (N B i : ℕ) (s : Image) → i < N → part_of N B i s ≡ chunk (B + 1) 256 (drop (i * (B + 1) * 256) s)
unfolding by_segment pages_of
part_pages N B i s h =
    let m = B + 1 in
    let r = N * m - (i * m + m) in
    let e : N * m ≡ i * m + (m + r) = omega (arith, mul-le-mul_right m h, suc-mul i m) in
    chunk_part m N i (chunk (N * m) 256 s) h
    ∙ (ap (λ (k : ℕ). take m (drop (i * m) (chunk k 256 s))) e
    ∙ (ap (take m) (drop_chunk (i * m) (m + r) 256 s) ∙ take_chunk m r 256 (drop (i * m * 256) s)))

-- ---- blank

blank_append : (x y : List ℕ) → is_blank (x ++ y) ≡ (is_blank x && is_blank y)
unfolding is_blank
blank_append [] y = refl
blank_append (b ∷ x) y = ap (λ t. eqb b 255 && t) (blank_append x y) ∙ sym (and_assoc (eqb b 255) (is_blank x) (is_blank y))

blank_chunk : (c z : ℕ) (s : List ℕ) → all is_blank (chunk c z s) ≡ is_blank (take (c * z) s)
unfolding chunk all
blank_chunk zero z s = let e : 0 * z ≡ 0 = omega arith in rw e (unfold is_blank in refl)
blank_chunk (suc c) z s = let e : suc c * z ≡ z + c * z = omega arith in
    rw (e, take-add z (c * z) s, blank_append (take z s) (take (c * z) (drop z s))) (ap (λ t. is_blank (take z s) && t) (blank_chunk c z (drop z s)))

-- ---- the segment at an index

-- the offset of a segment's header page, and of its first slot
abbrev pub header_offset : ℕ → ℕ → ℕ
header_offset B i = i * (B + 1) * 256

abbrev pub slots_offset : ℕ → ℕ → ℕ
slots_offset B i = (i * (B + 1) + 1) * 256

-- of a header page, the slots and whether all is blank
unfoldable pub segment_seen : ℕ → ℕ → ℕ → Page → Bool → List Slot → Segment
segment_seen N B i h t ks = cond (header_in_use N B i h) (in_use (header_version h) (header_status h) (header_number h) ks) (cond t blank invalid)

pub segment_seen_lem : (N B i : ℕ) (s : Image) → i < N
    → get_or (segments_of N B s) i blank ≡ segment_seen N B i (take 256 (drop (header_offset B i) s)) (is_blank (take ((B + 1) * 256) (drop (header_offset B i) s))) (slots_at s (slots_offset B i) B)
unfolding segment_of segment_seen all_blank slots_at
segment_seen_lem N B i s h =
    let t = drop (i * (B + 1) * 256) s in
    let p : part_of N B i s ≡ chunk (B + 1) 256 t = part_pages N B i s h in
    let q : part_of N B i s ≡ take 256 t ∷ chunk B 256 (drop 256 t) = p ∙ (rw (add-one B) (unfold chunk in refl)) in
    let b : all is_blank (part_of N B i s) ≡ is_blank (take ((B + 1) * 256) t) = ap (all is_blank) p ∙ blank_chunk (B + 1) 256 t in
    let o : i * (B + 1) * 256 + 256 ≡ (i * (B + 1) + 1) * 256 = omega arith in
    let d : drop 256 t ≡ drop ((i * (B + 1) + 1) * 256) s = drop-drop 256 (i * (B + 1) * 256) s ∙ ap (λ (k : ℕ). drop k s) o in
    segment_at N B i s h ∙ (rw (b, q, d))

-- the slots of a segment in use
pub used_slots : (N B i n : ℕ) (s : Image) → i < N → number_after (get_or (segments_of N B s) i blank) ≡ suc n → slots_in (get_or (segments_of N B s) i blank) ≡ slots_at s (slots_offset B i) B
unfolding segment_seen number_after slots_in
used_slots N B i n s h e =
    let q = segment_seen_lem N B i s h in
    ap slots_in q ∙ go (header_in_use N B i hd) (is_blank bs) (sym (ap number_after q) ∙ e)
  where
    hd : Page
    hd = take 256 (drop (header_offset B i) s)

    bs : List ℕ
    bs = take ((B + 1) * 256) (drop (header_offset B i) s)

    go : (a b : Bool) → number_after (cond a (in_use (header_version hd) (header_status hd) (header_number hd) (slots_at s (slots_offset B i) B)) (cond b blank invalid)) ≡ suc n
        → slots_in (cond a (in_use (header_version hd) (header_status hd) (header_number hd) (slots_at s (slots_offset B i) B)) (cond b blank invalid)) ≡ slots_at s (slots_offset B i) B
    go true b q = refl
    go false true q = absurd (omega arith)
    go false false q = absurd (omega arith)

-- ---- the rows of the segments in use, by number from n

unfoldable pub rows_on : Image → ℕ → ℕ → ℕ → ℕ → List (List Slot)
rows_on s N B zero n = []
rows_on s N B (suc u) n = slots_at s (slots_offset B (n % N)) B ∷ rows_on s N B u (suc n)

pub used_rows : (N B : ℕ) (s : Image) → 0 < N → (u n : ℕ) → numbers_from N (segments_of N B s) u n ≡ true → slots_from N (segments_of N B s) u n ≡ rows_on s N B u n
unfolding slots_from rows_on numbers_from
used_rows N B s p zero n h = refl
used_rows N B s p (suc u) n h =
    let l = segments_of N B s in
    let a = eqb-true (number_after (get_or l (n % N) blank)) (suc n) (and_left (eqb (number_after (get_or l (n % N) blank)) (suc n)) (numbers_from N l u (suc n)) h) in
    ap₂ {C = List (List Slot)} (λ x y. x ∷ y) (used_slots N B (n % N) n s (mod-lt n p) a)
    (used_rows N B s p u (suc n) (and_right (eqb (number_after (get_or l (n % N) blank)) (suc n)) (numbers_from N l u (suc n)) h))
