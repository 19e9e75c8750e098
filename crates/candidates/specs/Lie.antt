-- Every candidate stands in the image; those given are some of them.
use Rattle.std.specs.Prelude.{ℕ, suc, ◌+◌, ◌*◌, ◌%◌, ◌≤◌, ◌<◌, ◌≡◌, Bool, true, false, cond, List, [], ◌∷◌, map, length, get_or, take, drop}
use Rattle.std.proofs.Math.Path.{refl}
use Rattle.std.proofs.Common.{arith, mod-lt}
use Rattle.std.proofs.Math.Nat.{suc-mul, mul-le-mul_right}
use Rattle.model.specs.Chip.{Image, most_segments, most_slots}
use Rattle.model.specs.Slot.{live, slot_of}
use Rattle.model.specs.State.{blank, is_in_use, is_owing, segments_of, next_index, next_number, top_index, next_blanked, used_count, holds}
use Rattle.account_text.specs.Account.{LiveSlot, live_in, live_slots}
use Rattle.index.specs.Tables.{most_pages, page_of}
use Rattle.index.proofs.Sorted.{AllBelow}
use Rattle.index.proofs.Lives.{Each, row_each, live_stands}
use Rattle.index.proofs.Walks.{Held, held_all, held_without, used_most, in_each, in_few}
use Rattle.salvage.specs.Salvage.{regarded, candidates, held_in, given}
use Rattle.candidates.specs.Gathered.{Lies}
use Rattle.candidates.specs.Told.{AllLie}

-- what is looked at are segments of the image
pub held_regarded : (N B : ℕ) (s : Image) → 0 < N → Held N B s (regarded N (segments_of N B s))
unfolding regarded next_blanked next_index
held_regarded N B s p = go (is_owing (get_or (segments_of N B s) (top_index N (segments_of N B s)) blank))
  where
    unused : is_in_use blank ≡ false
    unused = unfold is_in_use in refl

    go : (t : Bool) → Held N B s (cond t (next_blanked N (segments_of N B s)) (segments_of N B s))
    go true = held_without N B s (segments_of N B s) (next_number (segments_of N B s) % N) blank unused (mod-lt (next_number (segments_of N B s)) p) (held_all N B s)
    go false = held_all N B s

-- and there are fewer than block numbers
pub candidates_few : (N B : ℕ) (s : Image) → 0 < N → N ≤ most_segments → B ≤ most_slots → length (candidates N (segments_of N B s)) < most_pages
unfolding candidates live_slots
candidates_few N B s p n b =
    let l = regarded N (segments_of N B s) in
    let h = held_regarded N B s p in
    let u : used_count l * B ≤ N * B = mul-le-mul_right B (omega (arith, used_most l, h.count)) in
    let m : N * B ≤ most_segments * B = mul-le-mul_right B n in
    omega (arith, in_few N B s p (used_count l) l h, u, m)

module _ (N B : ℕ) (s : Image) (p : 0 < N) (whole : N * (B + 1) * 256 ≤ length s) where
  slot_lies : (i : ℕ) → i < N → (j b : ℕ) (c : List ℕ) → 1 ≤ j → j ≤ B → slot_of (take 256 (drop ((i * (B + 1) + j) * 256) s)) ≡ live b c → Lies N B s (record { block = b; contents = c; segment = i; slot = j })
  unfolding page_of
  slot_lies i h j b c l m e = record { stands = live_stands N B i j s b c h l m e; inside = omega (arith, whole, suc-mul i (B + 1), mul-le-mul_right (B + 1) h); page = e }

  all_lie : (r : List LiveSlot) → Each (λ e. Lies N B s e) r → AllLie N B s r
  all_lie [] h = h
  all_lie (e ∷ r) h = (h.0, all_lie r h.1)

  pub candidates_lie : AllLie N B s (candidates N (segments_of N B s))
  unfolding candidates live_slots
  candidates_lie =
      let l = regarded N (segments_of N B s) in
      all_lie (live_in N (used_count l) l) (in_each (λ e. Lies N B s e) N B s p (λ i h. row_each (λ e. Lies N B s e) B i s (slot_lies i h) B 1 (omega arith) (omega arith)) (used_count l) l (held_regarded N B s p))

-- ---- those given are candidates

pub given_below : (N B : ℕ) (s : Image) (r : List LiveSlot) → AllLie N B s r → AllBelow most_pages (given r)
unfolding given
given_below N B s [] a = tt
given_below N B s (e ∷ r) a = go (holds e.block (map held_in r)) (given_below N B s r a.1)
  where
    go : (t : Bool) → AllBelow most_pages (given r) → AllBelow most_pages (cond t (given r) (e ∷ given r))
    go true ih = ih
    go false ih = (a.0.stands.block, ih)

pub given_few : (r : List LiveSlot) → length (given r) ≤ length r
unfolding given
given_few [] = omega arith
given_few (e ∷ r) = go (holds e.block (map held_in r)) (given_few r)
  where
    go : (t : Bool) → length (given r) ≤ length r → length (cond t (given r) (e ∷ given r)) ≤ suc (length r)
    go true ih = omega arith
    go false ih = omega arith
