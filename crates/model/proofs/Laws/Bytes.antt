-- Laws of bytes: what clearing leaves; bytes one bit apart; a number in four bytes; equal lists; erased bytes.
use Rattle.std.specs.Prelude.{ℕ, zero, suc, ◌+◌, ◌*◌, ◌/◌, ◌%◌, ◌^◌, min, ◌≤◌, ◌<◌, ◌≡◌, refl, ◌⊎◌, Bool, true, false, cond, ◌&&◌, List, [], ◌∷◌, ◌++◌, length, get_or, take, drop, set, eqb, leb}
use Rattle.std.proofs.Common.{sym, ap, ap₂, ◌∙◌, subst, inl, inr, ⊎_elim, arith, mod-eq_of_lt, eq-eqb, eqb-true}
use Rattle.std.proofs.lemmas.Bool.{false≢true}
use Rattle.std.proofs.Math.Nat.{min-le_right}
use Rattle.std.proofs.Math.Decide.{dec_lt}
use Rattle.std.proofs.lemmas.List.{length-replicate, get_or-replicate, replicate-append-replicate}
use Rattle.std.proofs.lemmas.Nat.{and_comm, and_mask, and_le_l, and_le_r, and_shr}
use Rattle.std.specs.Int.Bits.{and_zero_l, and_step}
use Rattle.model.specs.Lists.{same, chunk}
use Rattle.model.specs.Chip.{Image, Bytes, Step, program, erase, clear, erased, with_segment, segment_bytes, step, run, Between, Raised, Inside, Cut}
use Rattle.model.specs.Header.{number_bytes, inverted, value, is_blank, compaction_begun, erase_pending, compacted}
use Rattle.model.specs.Slot.{write_begun, written}
use Rattle.model.specs.Laws.Lists.{and_left, and_right, and_both}

-- ---- clearing

pub clear_byte : (v : ℕ) → clear 255 v ≡ v % 256
unfolding clear
clear_byte v = and_comm 255 v ∙ and_mask v 8

pub clear_erased : (v : ℕ) → v < 256 → clear 255 v ≡ v
clear_erased v h = clear_byte v ∙ mod-eq_of_lt h

pub clear_le : (a v : ℕ) → clear a v ≤ a
unfolding clear
clear_le a v = and_le_l a v

pub clear_le_value : (a v : ℕ) → clear a v ≤ v
unfolding clear
clear_le_value a v = and_le_r a v

-- the bits of a are bits of b
pub within_le : (a b : ℕ) → clear a b ≡ a → a ≤ b
within_le a b e = omega (arith, clear_le_value a b)

abbrev pub bit : ℕ → ℕ → ℕ
bit x i = x / 2 ^ i % 2

pub clear_bit : (a b i : ℕ) → bit (clear a b) i ≡ min (bit a i) (bit b i)
unfolding clear
clear_bit a b i = rw (and_shr a b i, and_step (a / 2 ^ i) (b / 2 ^ i)) (omega (arith, min-le_right (a / 2 ^ i % 2) (b / 2 ^ i % 2)))

pub within_bit : (a b i : ℕ) → clear a b ≡ a → bit a i ≤ bit b i
within_bit a b i e =
    let h : bit a i ≡ min (bit a i) (bit b i) = ap (λ y. bit y i) (sym e) ∙ clear_bit a b i in
    omega arith

-- bit 6 of a status: set until the segment is in use
pub bit_6_kept : (a x : ℕ) → clear a x ≡ a → a / 64 % 2 ≡ 1 → x / 64 % 2 ≡ 1
bit_6_kept a x e h = let q : a / 64 % 2 ≤ x / 64 % 2 = within_bit a x 6 e in omega arith

pub raised_get : (s t : List ℕ) → Raised s t → (j : ℕ) → clear (get_or s j 0) (get_or t j 0) ≡ get_or s j 0
unfolding clear
raised_get [] t r j = and_zero_l (get_or t j 0)
raised_get (a ∷ s) [] r j = absurd r
raised_get (a ∷ s) (x ∷ t) r zero = r.0.0
raised_get (a ∷ s) (x ∷ t) r (suc j) = raised_get s t r.1 j

-- ---- bytes one bit apart have nothing between them

abbrev pub OneBit : ℕ → ℕ → Type 0
OneBit lo hi = (x : ℕ) → Between lo x hi → (x ≡ lo) ⊎ (x ≡ hi)

-- a test of each of the numbers below n
unfoldable pub all_below : (ℕ → Bool) → ℕ → Bool
all_below f zero = true
all_below f (suc n) = f n && all_below f n

pub below : (f : ℕ → Bool) (n : ℕ) → all_below f n ≡ true → (x : ℕ) → x < n → f x ≡ true
unfolding all_below
below f zero t x h = absurd (omega arith)
below f (suc n) t x h = elim (dec_lt x n) [
  | yes l ↦ below f n (and_right (f n) (all_below f n) t) x l
  | no g ↦ (let e : n ≡ x = omega arith in rw (← e) (and_left (f n) (all_below f n) t))
]

-- the bits of a are bits of b: the lowest one, and the others
within_low : (a b : ℕ) → clear a b ≡ a → a % 2 ≤ b % 2
within_low a b e = let q : a / 1 % 2 ≤ b / 1 % 2 = within_bit a b 0 e in omega arith

within_half : (a b : ℕ) → clear a b ≡ a → clear (a / 2) (b / 2) ≡ a / 2
unfolding clear
within_half a b e = omega (arith, e, and_step a b, min-le_right (a % 2) (b % 2))

-- of the lowest k bits hi has one that lo has not, and above that they are equal
unfoldable pub one_apart : ℕ → ℕ → ℕ → Bool
one_apart zero lo hi = false
one_apart (suc k) lo hi = cond (eqb (lo % 2) (hi % 2)) (one_apart k (lo / 2) (hi / 2)) (eqb (lo / 2) (hi / 2))

pub one_bit : (k lo hi : ℕ) → one_apart k lo hi ≡ true → OneBit lo hi
unfolding one_apart
one_bit zero lo hi h x c = absurd (false≢true h)
one_bit (suc k) lo hi h x (u, v) = go (eqb (lo % 2) (hi % 2)) refl h (λ q. one_bit k (lo / 2) (hi / 2) q (x / 2) (within_half lo x u, within_half x hi v))
  where
    go : (t : Bool) → eqb (lo % 2) (hi % 2) ≡ t → cond t (one_apart k (lo / 2) (hi / 2)) (eqb (lo / 2) (hi / 2)) ≡ true
        → (one_apart k (lo / 2) (hi / 2) ≡ true → (x / 2 ≡ lo / 2) ⊎ (x / 2 ≡ hi / 2)) → (x ≡ lo) ⊎ (x ≡ hi)
    go true e q ih =
        let f = eqb-true (lo % 2) (hi % 2) e in
        ⊎_elim (λ g. inl (omega (arith, f, g, within_low lo x u, within_low x hi v))) (λ g. inr (omega (arith, f, g, within_low lo x u, within_low x hi v))) (ih q)
    go false e q ih =
        let f = eqb-true (lo / 2) (hi / 2) q in
        elim (dec_lt x hi) [
          | yes l ↦ inl (omega (arith, f, l, within_le lo x u, within_low lo x u, within_low x hi v))
          | no g ↦ inr (omega (arith, g, within_le x hi v))
        ]

-- FF to 7F, 7F to 3F: a slot written, a segment opened
pub begun_bit : OneBit write_begun 255
unfolding one_apart
begun_bit = one_bit 8 write_begun 255 refl

pub written_bit : OneBit written write_begun
unfolding one_apart
written_bit = one_bit 8 written write_begun refl

-- 3F to 1F, 7F to 5F: a slot marked
pub live_dead_bit : OneBit 0x1F written
unfolding one_apart
live_dead_bit = one_bit 8 0x1F written refl

pub torn_cut_bit : OneBit 0x5F write_begun
unfolding one_apart
torn_cut_bit = one_bit 8 0x5F write_begun refl

-- FF to DF, DF to 9F, 9F to 8F: a segment tidied
pub compaction_begun_bit : OneBit compaction_begun 255
unfolding one_apart
compaction_begun_bit = one_bit 8 compaction_begun 255 refl

pub erase_pending_bit : OneBit erase_pending compaction_begun
unfolding one_apart
erase_pending_bit = one_bit 8 erase_pending compaction_begun refl

pub compacted_bit : OneBit compacted erase_pending
unfolding one_apart
compacted_bit = one_bit 8 compacted erase_pending refl

-- ---- a number in four bytes

pub number_value : (n : ℕ) → n < 4294967296 → value (number_bytes n) ≡ n
unfolding value number_bytes
number_value n h = omega arith

pub number_length : (n : ℕ) → length (number_bytes n) ≡ 4
unfolding number_bytes
number_length n = refl

pub number_bytes_lem : (n : ℕ) → Bytes (number_bytes n)
unfolding number_bytes
number_bytes_lem n = (omega arith, (omega arith, (omega arith, (omega arith, tt))))

pub inverted_length : (s : List ℕ) → length (inverted s) ≡ length s
unfolding inverted
inverted_length [] = refl
inverted_length (x ∷ s) = ap suc (inverted_length s)

pub inverted_bytes : (s : List ℕ) → Bytes (inverted s)
unfolding inverted
inverted_bytes [] = tt
inverted_bytes (x ∷ s) = (omega arith, inverted_bytes s)

-- ---- lists of bytes

pub bytes_append : (s t : List ℕ) → Bytes s → Bytes t → Bytes (s ++ t)
bytes_append [] t p q = q
bytes_append (x ∷ s) t p q = (p.0, bytes_append s t p.1 q)

pub bytes_behind : (s t : List ℕ) → Bytes (s ++ t) → Bytes t
bytes_behind [] t p = p
bytes_behind (x ∷ s) t p = bytes_behind s t p.1

pub bytes_take : (k : ℕ) (s : List ℕ) → Bytes s → Bytes (take k s)
bytes_take zero s p = tt
bytes_take (suc k) [] p = tt
bytes_take (suc k) (x ∷ s) p = (p.0, bytes_take k s p.1)

pub bytes_drop : (k : ℕ) (s : List ℕ) → Bytes s → Bytes (drop k s)
bytes_drop zero s p = p
bytes_drop (suc k) [] p = tt
bytes_drop (suc k) (x ∷ s) p = bytes_drop k s p.1

pub bytes_get : (s : List ℕ) (i : ℕ) → Bytes s → get_or s i 0 < 256
bytes_get [] i p = omega arith
bytes_get (x ∷ s) zero p = p.0
bytes_get (x ∷ s) (suc i) p = bytes_get s i p.1

pub bytes_known : (s : List ℕ) → ((i : ℕ) → get_or s i 0 < 256) → Bytes s
bytes_known [] h = tt
bytes_known (x ∷ s) h = (h 0, bytes_known s (λ i. h (suc i)))

pub bytes_set : (s : List ℕ) (i x : ℕ) → Bytes s → x < 256 → Bytes (set s i x)
bytes_set [] i x p h = tt
bytes_set (y ∷ s) zero x p h = (h, p.1)
bytes_set (y ∷ s) (suc i) x p h = (p.0, bytes_set s i x p.1 h)

pub same_eq : (a b : List ℕ) → same a b ≡ true → a ≡ b
unfolding same
same_eq [] [] h = refl
same_eq [] (y ∷ b) h = absurd (false≢true h)
same_eq (x ∷ a) [] h = absurd (false≢true h)
same_eq (x ∷ a) (y ∷ b) h = ap₂ {C = List ℕ} (λ p q. p ∷ q) (eqb-true x y (and_left (eqb x y) (same a b) h)) (same_eq a b (and_right (eqb x y) (same a b) h))

pub same_refl : (s : List ℕ) → same s s ≡ true
unfolding same
same_refl [] = refl
same_refl (x ∷ s) = and_both (eqb x x) (same s s) (eq-eqb x x refl) (same_refl s)

-- ---- erased bytes

pub erased_suc : (n : ℕ) → erased (suc n) ≡ 255 ∷ erased n
unfolding erased
erased_suc n = refl

pub erased_length : (n : ℕ) → length (erased n) ≡ n
unfolding erased
erased_length n = length-replicate n 255

pub erased_get : (n i : ℕ) → i < n → get_or (erased n) i 0 ≡ 255
unfolding erased
erased_get n i h = get_or-replicate n i 255 0 h

pub erased_add : (n m : ℕ) → erased n ++ erased m ≡ erased (n + m)
unfolding erased
erased_add n m = replicate-append-replicate n m 255

pub erased_bytes : (n : ℕ) → Bytes (erased n)
unfolding erased
erased_bytes zero = tt
erased_bytes (suc n) = (omega arith, erased_bytes n)

pub erased_blank : (n : ℕ) → is_blank (erased n) ≡ true
unfolding is_blank erased
erased_blank zero = refl
erased_blank (suc n) = erased_blank n

pub blank_erased : (p : List ℕ) → is_blank p ≡ true → p ≡ erased (length p)
unfolding is_blank erased
blank_erased [] h = refl
blank_erased (x ∷ p) h = ap₂ {C = List ℕ} (λ a b. a ∷ b) (eqb-true x 255 (and_left (eqb x 255) (is_blank p) h)) (blank_erased p (and_right (eqb x 255) (is_blank p) h))

-- ---- an image of bytes stays one, through steps and cuts

segment_bytes_lem : (B i : ℕ) (u s : List ℕ) → Bytes u → Bytes s → Bytes (with_segment B i u s)
unfolding with_segment
segment_bytes_lem B i u s p q =
    let a = i * (B + 1) * 256 in
    let b = (i * (B + 1) + (B + 1)) * 256 in
    bytes_append (take a s) (u ++ drop b s) (bytes_take a s q) (bytes_append u (drop b s) p (bytes_drop b s q))

pub step_bytes : (B : ℕ) (x : Step) (s : Image) → Bytes s → Bytes (step B x s)
unfolding step
step_bytes B (program at v) s p = bytes_set s at (clear (get_or s at 0) v) p (omega (arith, clear_le (get_or s at 0) v, bytes_get s at p))
step_bytes B (erase i) s p = go (leb ((i * (B + 1) + (B + 1)) * 256) (length s))
  where
    go : (t : Bool) → Bytes (cond t (with_segment B i (erased ((B + 1) * 256)) s) s)
    go true = segment_bytes_lem B i (erased ((B + 1) * 256)) s (erased_bytes ((B + 1) * 256)) p
    go false = p

pub run_bytes : (B : ℕ) (xs : List Step) (s : Image) → Bytes s → Bytes (run B xs s)
unfolding run
run_bytes B [] s p = p
run_bytes B (x ∷ xs) s p = run_bytes B xs (step B x s) (step_bytes B x s p)

raised_bytes_lem : (s t : List ℕ) → Raised s t → Bytes t
raised_bytes_lem [] t r = rw r tt
raised_bytes_lem (a ∷ s) [] r = absurd r
raised_bytes_lem (a ∷ s) (x ∷ t) r = (omega (arith, within_le x 255 r.0.1), raised_bytes_lem s t r.1)

inside_bytes : (B : ℕ) (x : Step) (s t : Image) → Inside B x s t → Bytes s → Bytes t
inside_bytes B (program at v) s t (x, b, e) p = subst Bytes (sym e) (bytes_set s at x p (omega (arith, within_le x (get_or s at 0) b.1, bytes_get s at p)))
inside_bytes B (erase i) s t (u, r, e) p = subst Bytes (sym e) (segment_bytes_lem B i u s (raised_bytes_lem (segment_bytes B i s) u r) p)

pub cut_bytes : (B : ℕ) (xs : List Step) (s t : Image) → Cut B xs s t → Bytes s → Bytes t
cut_bytes B [] s t e p = subst Bytes (sym e) p
cut_bytes B (x ∷ xs) s t (inl e) p = subst Bytes (sym e) p
cut_bytes B (x ∷ xs) s t (inr (inl i)) p = inside_bytes B x s t i p
cut_bytes B (x ∷ xs) s t (inr (inr c)) p = cut_bytes B xs (step B x s) t c (step_bytes B x s p)

-- and its pages are of bytes
pub chunk_bytes : (c z i : ℕ) (s : List ℕ) → Bytes s → Bytes (get_or (chunk c z s) i [])
unfolding chunk
chunk_bytes zero z i s p = tt
chunk_bytes (suc c) z zero s p = bytes_take z s p
chunk_bytes (suc c) z (suc i) s p = chunk_bytes c z i (drop z s) (bytes_drop z s p)
