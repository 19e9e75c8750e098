-- Laws of steps and cuts: an append, the first k steps, the length of the image.
use Rattle.std.specs.Prelude.{ℕ, zero, suc, ◌+◌, ◌-◌, ◌*◌, ◌≤◌, ◌<◌, ◌≡◌, refl, ◌⊎◌, Bool, true, false, cond, ◌&&◌, List, [], ◌∷◌, ◌++◌, length, get_or, take, leb, eqb}
use Rattle.std.proofs.Common.{ap, ◌∙◌, inl, inr, ⊎_elim, arith, length-set, length-append, length-take, length-drop, leb-true, eqb-true}
use Rattle.std.proofs.lemmas.List.{length-replicate}
use Rattle.model.specs.Chip.{Image, Step, program, erase, clear, erased, with_segment, segment_bytes, step, run, run_first, Raised, Inside, Cut, most_segments, image_length, in_range, right_size}
use Rattle.model.specs.Laws.Lists.{and_left, and_right}

-- ---- lists of steps

pub run_append : (B : ℕ) (xs ys : List Step) (s : Image) → run B (xs ++ ys) s ≡ run B ys (run B xs s)
unfolding run
run_append B [] ys s = refl
run_append B (x ∷ xs) ys s = run_append B xs ys (step B x s)

pub take_append : {A : Type 0} (k : ℕ) (xs ys : List A) → take k (xs ++ ys) ≡ take k xs ++ take (k - length xs) ys
take_append k [] ys = let e : k - 0 ≡ k = omega arith in rw e (nothing k)
  where
    nothing : (n : ℕ) → take n ys ≡ take n [] ++ take n ys
    nothing zero = refl
    nothing (suc n) = refl
take_append zero (x ∷ xs) ys = let e : 0 - suc (length xs) ≡ 0 = omega arith in rw e
take_append {A} (suc k) (x ∷ xs) ys = let e : suc k - suc (length xs) ≡ k - length xs = omega arith in rw e (ap {B = List A} (λ y. x ∷ y) (take_append k xs ys))

-- the first k steps of an append: the first k of the first list, then as many of the second as are left
pub first_append : (B k : ℕ) (xs ys : List Step) (s : Image) → run_first B k (xs ++ ys) s ≡ run_first B (k - length xs) ys (run_first B k xs s)
unfolding run_first
first_append B k xs ys s = rw (take_append k xs ys) (run_append B (take k xs) (take (k - length xs) ys) s)

-- ---- the length is kept

pub raised_length : (s t : List ℕ) → Raised s t → length t ≡ length s
raised_length [] t e = ap length e
raised_length (a ∷ s) [] r = absurd r
raised_length (a ∷ s) (x ∷ t) r = ap suc (raised_length s t r.1)

pub segment_length : (B i : ℕ) (u : List ℕ) (s : Image) → length u ≡ length (segment_bytes B i s) → length (with_segment B i u s) ≡ length s
unfolding with_segment segment_bytes
segment_length B i u s h = simp (length-append, length-take, length-drop) (omega (arith, simp (length-take, length-drop) at h))

pub step_length : (B : ℕ) (x : Step) (s : Image) → length (step B x s) ≡ length s
unfolding step erased segment_bytes
step_length B (program at v) s = length-set s at (clear (get_or s at 0) v)
step_length B (erase i) s = go (leb ((i * (B + 1) + (B + 1)) * 256) (length s)) refl
  where
    go : (t : Bool) → leb ((i * (B + 1) + (B + 1)) * 256) (length s) ≡ t → length (cond t (with_segment B i (erased ((B + 1) * 256)) s) s) ≡ length s
    go true e = let b = leb-true ((i * (B + 1) + (B + 1)) * 256) (length s) e in
        segment_length B i (erased ((B + 1) * 256)) s (simp (length-replicate, length-take, length-drop) (omega arith))
    go false e = refl

pub run_length : (B : ℕ) (xs : List Step) (s : Image) → length (run B xs s) ≡ length s
unfolding run
run_length B [] s = refl
run_length B (x ∷ xs) s = run_length B xs (step B x s) ∙ step_length B x s

pub inside_length : (B : ℕ) (x : Step) (s t : Image) → Inside B x s t → length t ≡ length s
inside_length B (program at v) s t (x, b, e) = ap length e ∙ length-set s at x
inside_length B (erase i) s t (u, r, e) = ap length e ∙ segment_length B i u s (raised_length (segment_bytes B i s) u r)

pub cut_length : (B : ℕ) (xs : List Step) (s t : Image) → Cut B xs s t → length t ≡ length s
cut_length B [] s t e = ap length e
cut_length B (x ∷ xs) s t (inl e) = ap length e
cut_length B (x ∷ xs) s t (inr (inl i)) = inside_length B x s t i
cut_length B (x ∷ xs) s t (inr (inr c)) = cut_length B xs (step B x s) t c ∙ step_length B x s

pub run_size : (N B : ℕ) (xs : List Step) (s : Image) → right_size N B (run B xs s) ≡ right_size N B s
unfolding right_size
run_size N B xs s = rw (run_length B xs s)

pub cut_size : (N B : ℕ) (xs : List Step) (s t : Image) → Cut B xs s t → right_size N B t ≡ right_size N B s
unfolding right_size
cut_size N B xs s t c = rw (cut_length B xs s t c)

-- ---- cuts

-- the first k steps done are a cut
pub prefix_cut : (B k : ℕ) (xs : List Step) (s : Image) → Cut B xs s (run B (take k xs) s)
unfolding run
prefix_cut B zero [] s = refl
prefix_cut B zero (x ∷ xs) s = inl refl
prefix_cut B (suc k) [] s = refl
prefix_cut B (suc k) (x ∷ xs) s = inr (inr (prefix_cut B k xs (step B x s)))

-- and so are all
pub whole_cut : (B : ℕ) (xs : List Step) (s : Image) → Cut B xs s (run B xs s)
unfolding run
whole_cut B [] s = refl
whole_cut B (x ∷ xs) s = inr (inr (whole_cut B xs (step B x s)))

-- a cut of an append falls in the first list, or in the second after the first
pub cut_append : (B : ℕ) (xs ys : List Step) (s t : Image) → Cut B (xs ++ ys) s t → Cut B xs s t ⊎ Cut B ys (run B xs s) t
unfolding run
cut_append B [] ys s t c = inr c
cut_append B (x ∷ xs) ys s t (inl e) = inl (inl e)
cut_append B (x ∷ xs) ys s t (inr (inl i)) = inl (inr (inl i))
cut_append B (x ∷ xs) ys s t (inr (inr c)) = ⊎_elim (λ d. inl (inr (inr d))) (λ d. inr d) (cut_append B xs ys (step B x s) t c)

-- ---- a right size, taken apart

pub record SizeFacts (N B : ℕ) (s : Image) : Type 0 where
  pub two : 2 ≤ N
  pub most : N ≤ most_segments
  pub slots : 2 ≤ B
  pub most_b : B < 256
  pub whole : length s ≡ image_length N B

pub size_facts : (N B : ℕ) (s : Image) → right_size N B s ≡ true → SizeFacts N B s
unfolding right_size in_range
size_facts N B s z =
    let a = and_left (in_range N B) (eqb (length s) (image_length N B)) z in
    let b = and_right (leb 2 N) (leb N most_segments && (leb 2 B && leb B 255)) a in
    let c = and_right (leb N most_segments) (leb 2 B && leb B 255) b in record {
      two = leb-true 2 N (and_left (leb 2 N) (leb N most_segments && (leb 2 B && leb B 255)) a);
      most = leb-true N most_segments (and_left (leb N most_segments) (leb 2 B && leb B 255) b);
      slots = leb-true 2 B (and_left (leb 2 B) (leb B 255) c);
      most_b = omega (arith, leb-true B 255 (and_right (leb 2 B) (leb B 255) c));
      whole = eqb-true (length s) (image_length N B) (and_right (in_range N B) (eqb (length s) (image_length N B)) z);
    }
