-- Pieces of a text in a buffer: one byte more, two pieces in a row; and the digits of a number.
use Prim.Native.Nat.{ℕ, zero, suc, ◌+◌, ◌*◌, ◌/◌, ◌%◌, ◌^◌, ◌<◌, ◌≤◌}
use mathlib.Core.Path.{◌≡◌, refl, sym, ap, ◌∙◌, subst}
use mathlib.Core.Bool.{Bool, true, false, cond}
use mathlib.Core.List.{List, [], ◌∷◌, ◌++◌, append_assoc}
use native.Mathlib.Omega.{arith}
use native.Mathlib.Nat.{mod-eq_of_lt, pow-suc}
use lib.ListN.{length, take, drop, set, get_or, length-append, take-append-drop}
use lib.Seq.{paste-suc, drop-drop, length-take-le, take_at, drop_at, drop-cons}
use lib.Dec.{leb, ltb}
use borrow.Author.Tests.{lt-ltb, le-ltb, le-leb, lt-leb, ltb-true, ltb-false}
use Rattle.text.specs.Decimal.{decimal_of}
use Rattle.model.specs.Answers.{code_of}
use Rattle.text.specs.declared.Printed.{Printed}
use Rattle.text.specs.Buffer.{Print, printed, print_in, short_of, done_of, over, Wrote}

-- ---- pieces

-- nothing written over
pub over_none : (d : List ℕ) (at : ℕ) → over d at [] ≡ d
unfolding over
over_none d at = let e : at + 0 ≡ at = omega arith in rw e (take-append-drop at d)

-- two pieces in a row are one
pub over_over : (d : List ℕ) (at : ℕ) (x y : List ℕ) → at + length x + length y ≤ length d → over (over d at x) (at + length x) y ≡ over d at (x ++ y)
unfolding over
over_over d at x y h =
    let a : length (take at d) ≡ at = length-take-le at d (omega arith) in
    let p : length (take at d ++ x) ≡ at + length x = length-append (take at d) x ∙ ap (λ (k : ℕ). k + length x) a in
    let z = drop (at + length x) d in
    let n : at + length x + length y ≡ at + length (x ++ y) = let q = length-append x y in omega arith in
    let e : take at d ++ (x ++ z) ≡ (take at d ++ x) ++ z = sym (append_assoc (take at d) x z) in
    let t : take (at + length x) (take at d ++ (x ++ z)) ≡ take at d ++ x = ap (take (at + length x)) e ∙ take_at (take at d ++ x) z (at + length x) p in
    let f : drop (at + length x) (take at d ++ (x ++ z)) ≡ z = ap (drop (at + length x)) e ∙ drop_at (take at d ++ x) z (at + length x) p in
    let g : drop (at + length x + length y) (take at d ++ (x ++ z)) ≡ drop (at + length (x ++ y)) d =
    sym (drop-drop (length y) (at + length x) (take at d ++ (x ++ z))) ∙ (ap (drop (length y)) f
    ∙ (drop-drop (length y) (at + length x) d ∙ ap (λ (k : ℕ). drop k d) n)) in
    rw (t, g, append_assoc (take at d) x (y ++ drop (at + length (x ++ y)) d), append_assoc x y (drop (at + length (x ++ y)) d))

infixr 5 ◌then◌
pub ◌then◌ : {x y start mid buffer : List ℕ} {at middle end : ℕ} → Wrote x start at mid middle → Wrote y mid middle buffer end → Wrote (x ++ y) start at buffer end
◌then◌ {x} {y} {start} {mid} {buffer} {at} {middle} {end} a b =
    let n = length-append x y in
    record {
      ends = omega (arith, a.ends, b.ends);
      kept = b.kept ∙ a.kept;
      there = λ h.
          let e = a.ends in let f = b.ends in let k = a.kept in
          let m : mid ≡ over start at x = a.there (omega arith) in
          let q : buffer ≡ over mid middle y = b.there (omega arith) in
          q ∙ (rw (m, e) (over_over start at x y (omega arith)));
    }

pub wrote_none : (start : List ℕ) (at : ℕ) → Wrote [] start at start at
wrote_none start at = record { ends = omega arith; kept = refl; there = λ h. sym (over_none start at) }

-- the same bytes by another name
pub wrote_as : {x start buffer : List ℕ} {at end : ℕ} (y : List ℕ) → x ≡ y → Wrote x start at buffer end → Wrote y start at buffer end
wrote_as {x} {start} {buffer} {at} {end} y e w = subst (λ (z : List ℕ). Wrote z start at buffer end) e w

-- ---- bytes copied, one by one

pub copy_none : (d : List ℕ) (at : ℕ) (s : List ℕ) → d ≡ over d at (take 0 s)
copy_none d at s = sym (over_none d at)

pub copy_more : (d : List ℕ) (at : ℕ) (s : List ℕ) (j : ℕ) → j < length s → at + length s ≤ length d → set (over d at (take j s)) (at + j) (get_or s j 0) ≡ over d at (take (j + 1) s)
unfolding over
copy_more d at s j h k =
    let a : length (take j s) ≡ j = length-take-le j s (omega arith) in
    let b : length (take (suc j) s) ≡ suc j = length-take-le (suc j) s (omega arith) in
    let e : j + 1 ≡ suc j = omega arith in
    let p : take at d ++ take j s ++ drop (at + j) d ≡ take at d ++ (take j s ++ drop (at + j) d) = append_assoc (take at d) (take j s) (drop (at + j) d) in
    let q : take at d ++ take (suc j) s ++ drop (at + suc j) d ≡ take at d ++ (take (suc j) s ++ drop (at + suc j) d) = append_assoc (take at d) (take (suc j) s) (drop (at + suc j) d) in
    rw (e, a, b) (ap (λ (z : List ℕ). set z (at + j) (get_or s j 0)) (sym p) ∙ (paste-suc d at s j 0 (omega arith) h ∙ q))

-- ---- digits

-- the last d digits of a number
abbrev pub last_digits : ℕ → ℕ → List ℕ
last_digits zero n = []
last_digits (suc d) n = last_digits d (n / 10) ++ ((48 + n % 10) ∷ [])

pub last_length : (d n : ℕ) → length (last_digits d n) ≡ d
last_length zero n = refl
last_length (suc d) n = length-append (last_digits d (n / 10)) ((48 + n % 10) ∷ []) ∙ (let e = last_length d (n / 10) in omega arith)

-- the last digit is written, and those before it are left to write
pub digit_more : (t : List ℕ) (at d n : ℕ) → at + suc d ≤ length t → over (set t (at + d) (48 + n % 10)) at (last_digits d (n / 10)) ≡ over t at (last_digits (suc d) n)
unfolding over
digit_more t at d n h =
    let v = 48 + n % 10 in
    let x = last_digits d (n / 10) in
    let l : length x ≡ d = last_length d (n / 10) in
    let m : length (last_digits (suc d) n) ≡ suc d = last_length (suc d) n in
    let a : take at (set t (at + d) v) ≡ take at t = lib.Seq.take-set-le at t (at + d) v (omega arith) in
    let b : drop (at + d) (set t (at + d) v) ≡ v ∷ drop (suc (at + d)) t =
    drop-cons (set t (at + d) v) (at + d) 0 (lib.Seq.lt-length-set t (at + d) v (omega arith))
    ∙ (rw (lib.Seq.get_or-set_same t (at + d) v 0 (omega arith), lib.Seq.drop-set-lt (suc (at + d)) t (at + d) v (omega arith))) in
    let e : at + suc d ≡ suc (at + d) = omega arith in
    rw (l, m, a, b, e) (ap (λ (z : List ℕ). take at t ++ z) (sym (append_assoc x (v ∷ []) (drop (suc (at + d)) t))))

-- the digits of a number are its last ones, as many as there are
pub decimal_digits : (k n : ℕ) → decimal_of k n ≡ last_digits (length (decimal_of k n)) n
unfolding decimal_of
decimal_digits zero n = refl
decimal_digits (suc k) n = go (ltb n 10) refl (decimal_digits k (n / 10))
  where
    go : (t : Bool) → ltb n 10 ≡ t → decimal_of k (n / 10) ≡ last_digits (length (decimal_of k (n / 10))) (n / 10) → cond t ((48 + n) ∷ []) (decimal_of k (n / 10) ++ ((48 + n % 10) ∷ []))
        ≡ last_digits (length (cond t ((48 + n) ∷ []) (decimal_of k (n / 10) ++ ((48 + n % 10) ∷ [])))) n
    go true e ih = let m : n % 10 ≡ n = mod-eq_of_lt (ltb-true n 10 e) in rw m
    go false e ih =
        let d = decimal_of k (n / 10) in
        let l : length (d ++ ((48 + n % 10) ∷ [])) ≡ suc (length d) = length-append d ((48 + n % 10) ∷ []) ∙ omega arith in
        rw l (ap (λ (z : List ℕ). z ++ ((48 + n % 10) ∷ [])) ih)

-- a number above 9 has one digit more than its tenth
pub count_more : (k n : ℕ) → 9 < n → length (decimal_of (suc k) n) ≡ suc (length (decimal_of k (n / 10)))
unfolding decimal_of
count_more k n h = rw (le-ltb n 10 (omega arith)) (length-append (decimal_of k (n / 10)) ((48 + n % 10) ∷ []) ∙ omega arith)

pub count_one_lem : (k n : ℕ) → n ≤ 9 → length (decimal_of k n) ≡ 1
unfolding decimal_of
count_one_lem zero n h = refl
count_one_lem (suc k) n h = rw (lt-ltb n 10 (omega arith))

-- below a power of ten there are few
pub count_few : (j k n : ℕ) → n < 10 ^ suc j → length (decimal_of k n) ≤ suc j
count_few j zero n h = unfold decimal_of in omega arith
count_few zero (suc k) n h = let e = count_one_lem (suc k) n (omega arith) in omega arith
count_few (suc j) (suc k) n h = go (ltb 9 n) refl (count_few j k (n / 10))
  where
    go : (t : Bool) → ltb 9 n ≡ t → (n / 10 < 10 ^ suc j → length (decimal_of k (n / 10)) ≤ suc j) → length (decimal_of (suc k) n) ≤ suc (suc j)
    go true e ih =
        let p : n < 10 ^ suc j * 10 = rw (pow-suc 10 (suc j)) at h in
        let q = count_more k n (ltb-true 9 n e) in
        let r = ih (omega arith) in
        omega arith
    go false e ih = let q = count_one_lem (suc k) n (ltb-false 9 n e) in omega arith

pub count_some : (k n : ℕ) → 1 ≤ length (decimal_of k n)
unfolding decimal_of
count_some zero n = omega arith
count_some (suc k) n = go (ltb n 10)
  where
    go : (t : Bool) → 1 ≤ length (cond t ((48 + n) ∷ []) (decimal_of k (n / 10) ++ ((48 + n % 10) ∷ [])))
    go true = omega arith
    go false = let e = length-append (decimal_of k (n / 10)) ((48 + n % 10) ∷ []) in omega arith

-- ---- printed

pub print_short : (t buffer : List ℕ) (r : Printed) → length buffer < length t → r ≡ short_of → printed r buffer ≡ print_in t buffer
unfolding printed print_in short_of code_of
print_short t buffer r h e = rw (e, lt-leb (length t) (length buffer) h)

pub print_done : (t start buffer : List ℕ) (r : Printed) (end : ℕ) → length t ≤ length start → Wrote t start 0 buffer end → r ≡ done_of end → printed r buffer ≡ print_in t start
unfolding printed print_in done_of code_of over
print_done t start buffer r end h w e =
    let n : end ≡ length t = omega (arith, w.ends) in
    let z : 0 + length t ≡ length t = omega arith in
    let b : buffer ≡ t ++ drop (0 + length t) start = w.there (omega (arith, w.ends)) in
    rw (e, le-leb (length t) (length start) h, b, n, z)

-- what was printed ends within the buffer
pub print_within : (t start buffer : List ℕ) (p : Printed) → printed p buffer ≡ print_in t start → p.length ≤ length buffer
unfolding printed print_in
print_within t start buffer p e = go (leb (length t) (length start)) e
  where
    go : (fits : Bool) → printed p buffer ≡ cond fits (record { code = 0; length = length t; buffer = t ++ drop (length t) start }) (record { code = 14; length = 0; buffer = start }) → p.length ≤ length buffer
    go true f =
        let n : p.length ≡ length t = ap (λ (r : Print). r.length) f in
        let b : buffer ≡ t ++ drop (length t) start = ap (λ (r : Print). r.buffer) f in
        rw b (omega (arith, length-append t (drop (length t) start)))
    go false f = let n : p.length ≡ 0 = ap (λ (r : Print). r.length) f in omega arith
