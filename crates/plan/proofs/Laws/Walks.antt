-- Laws of the walks over slots: what is still to be looked at gives the whole answer.
use Prim.Native.Nat.{ℕ, suc, ◌+◌, ◌-◌, ◌*◌, ◌%◌, ◌≤◌, ◌<◌}
use mathlib.Core.Path.{◌≡◌, sym, ap, ◌∙◌}
use mathlib.Core.Logic.{◌≢◌}
use mathlib.Core.Bool.{Bool, true, false}
use mathlib.Core.List.{List, [], ◌∷◌, flatten}
use native.Mathlib.Nat.{mod-lt, mul-le-mul_right, suc-mul}
use native.Mathlib.Omega.{arith}
use lib.ListN.{length, get_or}
use borrow.Author.Tests.{eq-eqb, ne_eqb}
use Rattle.model.specs.Lists.{all, count}
use Rattle.model.specs.Chip.{Image}
use Rattle.model.specs.Slot.{written}
use Rattle.model.specs.Steps.{slot_at}
use Rattle.model.specs.Laws.Lists.{count_append}
use Rattle.flash.specs.Pages.{Sized}
use Rattle.plan.specs.Statuses.{spaced, slot_status, status_row, status_rows, is_marked, none_marked, first_marked, not_live, FreeFrom}

-- ---- the slots of one segment

pub row_inside : (N B n bytes from : ℕ) → Sized N B bytes → from ≡ slot_at N B n 0 * 256 → from + B * 256 ≤ bytes
unfolding slot_at
row_inside N B n bytes from z e = omega (arith, z.whole, e, mul-le-mul_right (B + 1) (mod-lt n {m = N} z.some), suc-mul (n % N) (B + 1))

-- those from slot j on
abbrev pub left : Image → ℕ → ℕ → ℕ → List ℕ
left s B from j = spaced s 256 (B - j) (from + j * 256)

left_all : (s : Image) (B from : ℕ) → left s B from 0 ≡ spaced s 256 B from
left_all s B from =
    let e : B - 0 ≡ B = omega arith in
    let f : from + 0 * 256 ≡ from = omega arith in
    rw (e, f)

left_next : (s : Image) (B from j : ℕ) → j < B → left s B from j ≡ get_or s (from + j * 256) 0 ∷ left s B from (j + 1)
unfolding spaced
left_next s B from j h =
    let e : B - j ≡ suc (B - (j + 1)) = omega arith in
    let f : from + j * 256 + 256 ≡ from + (j + 1) * 256 = omega arith in
    rw (e, f)

left_end : (s : Image) (B from j : ℕ) → B ≤ j → left s B from j ≡ []
unfolding spaced
left_end s B from j h = let e : B - j ≡ 0 = omega arith in rw e

module _ (s : Image) (B from : ℕ) where
  -- ---- none marked

  pub marked_start : none_marked (left s B from 0) ≡ none_marked (spaced s 256 B from)
  marked_start = ap none_marked (left_all s B from)

  pub marked_next : (j : ℕ) {t : Bool} → j < B → t ≡ is_marked (get_or s (from + j * 256) 0) → t ≡ false → none_marked (left s B from j) ≡ none_marked (left s B from (j + 1))
  unfolding none_marked all
  marked_next j h d e = let f : is_marked (get_or s (from + j * 256) 0) ≡ false = sym d ∙ e in rw (left_next s B from j h, f)

  pub marked_stop : (j : ℕ) {t : Bool} → j < B → t ≡ is_marked (get_or s (from + j * 256) 0) → t ≡ true → none_marked (left s B from j) ≡ false
  unfolding none_marked all
  marked_stop j h d e = let f : is_marked (get_or s (from + j * 256) 0) ≡ true = sym d ∙ e in rw (left_next s B from j h, f)

  pub marked_end : (j : ℕ) → B ≤ j → none_marked (left s B from j) ≡ true
  unfolding none_marked all
  marked_end j h = rw (left_end s B from j h)

  -- ---- those that are not live

  pub not_live_start : count not_live (left s B from 0) ≡ count not_live (spaced s 256 B from)
  not_live_start = ap (count not_live) (left_all s B from)

  pub not_live_more : (j : ℕ) → j < B → get_or s (from + j * 256) 0 ≢ written → count not_live (left s B from j) ≡ suc (count not_live (left s B from (j + 1)))
  unfolding count not_live
  not_live_more j h e = rw (left_next s B from j h, ne_eqb (get_or s (from + j * 256) 0) written e)

  pub not_live_same : (j : ℕ) → j < B → get_or s (from + j * 256) 0 ≡ written → count not_live (left s B from j) ≡ count not_live (left s B from (j + 1))
  unfolding count not_live
  not_live_same j h e = rw (left_next s B from j h, eq-eqb (get_or s (from + j * 256) 0) written e)

  pub not_live_end : (j : ℕ) → B ≤ j → count not_live (left s B from j) ≡ 0
  unfolding count
  not_live_end j h = rw (left_end s B from j h)

-- the row of a number
pub row_read : (N B n from : ℕ) (s : Image) → from ≡ slot_at N B n 0 * 256 → spaced s 256 B from ≡ status_row N B s n
unfolding status_row
row_read N B n from s e = rw e

-- ---- the first that is free

pub status_read : (N B n from j : ℕ) (s : Image) → from ≡ slot_at N B n 0 * 256 → slot_status N B s n j ≡ get_or s (from + j * 256) 0
unfolding slot_status slot_at
status_read N B n from j s e = let f : (n % N * (B + 1) + suc j) * 256 ≡ from + j * 256 = omega (arith, e) in rw f

-- the slots from high on begin with a free one, and those below low end with one that is not
pub record Halving (s : Image) (B from low high : ℕ) : Type 0 where
  pub order : low ≤ high
  pub within : high ≤ B
  pub reads : from + B * 256 ≤ length s
  pub free : high < B → get_or s (from + high * 256) 0 ≡ 255
  pub taken : 0 < low → get_or s (from + (low - 1) * 256) 0 ≢ 255

module _ (s : Image) (B from low high : ℕ) (w : Halving s B from low high) (h : low < high) where
  pub halving_low : (m : ℕ) → low ≤ m → m < high → get_or s (from + m * 256) 0 ≡ 255 → Halving s B from low m
  halving_low m p q e = record { order = p; within = omega (arith, w.within); reads = w.reads; free = λ k. e; taken = w.taken }

  pub halving_high : (m : ℕ) → low ≤ m → m < high → get_or s (from + m * 256) 0 ≢ 255 → Halving s B from (m + 1) high
  halving_high m p q e = let f : m + 1 - 1 ≡ m = omega arith in record { order = omega arith; within = w.within; reads = w.reads; free = w.free; taken = λ k. rw f e }

pub halving_start : (N B n from : ℕ) (s : Image) → Sized N B (length s) → from ≡ slot_at N B n 0 * 256 → Halving s B from 0 B
halving_start N B n from s z e = record {
  order = omega arith;
  within = omega arith;
  reads = row_inside N B n (length s) from z e;
  free = λ k. absurd (omega arith);
  taken = λ k. absurd (omega arith);
}

pub halving_end : (N B n from low high : ℕ) (s : Image) → from ≡ slot_at N B n 0 * 256 → Halving s B from low high → high ≤ low → FreeFrom N B n s low
halving_end N B n from low high s e w h =
    let f : high ≡ low = omega (arith, w.order) in
    record {
      within = omega (arith, w.within);
      free = λ k. status_read N B n from low s e ∙ (rw f at w.free) k;
      taken = λ k. rw (status_read N B n from (low - 1) s e) (w.taken k);
    }

-- ---- the segments with some numbers

module _ (N B : ℕ) (s : Image) (first used : ℕ) where
  -- their rows, from a turn on
  abbrev pub rows_left : ℕ → List (List ℕ)
  rows_left turn = status_rows N B s (used - turn) (first + turn)

  rows_all : rows_left 0 ≡ status_rows N B s used first
  rows_all =
      let e : used - 0 ≡ used = omega arith in
      let f : first + 0 ≡ first = omega arith in
      rw (e, f)

  rows_next : (turn : ℕ) → turn < used → rows_left turn ≡ status_row N B s (first + turn) ∷ rows_left (turn + 1)
  unfolding status_rows
  rows_next turn h =
      let e : used - turn ≡ suc (used - (turn + 1)) = omega arith in
      let f : suc (first + turn) ≡ first + (turn + 1) = omega arith in
      rw (e, f)

  rows_end : (turn : ℕ) → used ≤ turn → rows_left turn ≡ []
  unfolding status_rows
  rows_end turn h = let e : used - turn ≡ 0 = omega arith in rw e

  pub first_start : first_marked (rows_left 0) ≡ first_marked (status_rows N B s used first)
  first_start = ap first_marked rows_all

  pub first_next : (turn : ℕ) {t : Bool} → turn < used → t ≡ none_marked (status_row N B s (first + turn)) → t ≡ true → first_marked (rows_left turn) ≡ suc (first_marked (rows_left (turn + 1)))
  unfolding first_marked
  first_next turn h d e = let f : none_marked (status_row N B s (first + turn)) ≡ true = sym d ∙ e in rw (rows_next turn h, f)

  pub first_stop : (turn : ℕ) {t : Bool} → turn < used → t ≡ none_marked (status_row N B s (first + turn)) → t ≡ false → first_marked (rows_left turn) ≡ 1
  unfolding first_marked
  first_stop turn h d e = let f : none_marked (status_row N B s (first + turn)) ≡ false = sym d ∙ e in rw (rows_next turn h, f)

  pub first_end : (turn : ℕ) → used ≤ turn → first_marked (rows_left turn) ≡ 0
  unfolding first_marked
  first_end turn h = rw (rows_end turn h)

  -- how many slots are not live, from a turn on
  abbrev pub others : ℕ → ℕ
  others turn = count not_live (flatten (rows_left turn))

  abbrev pub total : ℕ
  total = count not_live (flatten (status_rows N B s used first))

  pub others_start : others 0 ≡ total
  others_start = ap (λ (r : List (List ℕ)). count not_live (flatten r)) rows_all

  pub others_next : (turn : ℕ) → turn < used → others turn ≡ count not_live (status_row N B s (first + turn)) + others (turn + 1)
  unfolding flatten
  others_next turn h = rw (rows_next turn h) (count_append not_live (status_row N B s (first + turn)) (flatten (rows_left (turn + 1))))

  pub others_end : (turn : ℕ) → used ≤ turn → others turn ≡ 0
  unfolding flatten count
  others_end turn h = rw (rows_end turn h)
