-- The report on a clean image: every live slot has its line, and each says `same`.
use Rattle.std.specs.Prelude.{ℕ, ◌≡◌, Bool, true, false, cond, ◌||◌, ◌&&◌, not, length, leb, eqb}
use Rattle.std.proofs.Math.Path.{refl, ap}
use Rattle.std.proofs.Common.{sym, ◌∙◌, true≢false}
use Rattle.std.proofs.Math.Bool.{or-true, and-eq-true_iff}
use mathlib.Core.List.{List, [], ◌∷◌, ◌++◌, flat_map, map}
use borrow.Author.Tests.{eqb-false, ne_eqb, not-true}
use Rattle.model.specs.Lists.{same, all}
use Rattle.model.specs.Chip.{Image, right_size}
use Rattle.model.specs.State.{Segment, segments_of, holds, distinct, blocks_distinct, is_clean, clean, state}
use Rattle.model.specs.Laws.Lists.{and_left, and_right, and_both}
use Rattle.model.proofs.Laws.Bytes.{same_refl}
use Rattle.model.proofs.Laws.Chip.{size_facts}
use Rattle.model.proofs.Laws.Segments.{segments_length}
use Rattle.model.proofs.Laws.Clean.{clean_slots, state_clean}
use Rattle.crash.proofs.Requests.{shown_clean}
use Rattle.text.specs.Text.{text}
use Rattle.account_text.specs.Account.{LiveSlot, live_slots, insert, by_block, block_text}
use Rattle.salvage.specs.Salvage.{candidates, held_in, agreed, given_line, salvage_on, salvage_text}
use Rattle.salvage.proofs.Given.{given_all_lem}
use Rattle.salvage.proofs.Ring.{clean_lives}
use Rattle.salvaged.specs.Law.{same_line, CleanTable}
use Rattle.salvaged.proofs.Shown.{clean_regarded, clean_fine, salvaged_table}

-- ---- each number once: none disagrees

abbrev fits : LiveSlot → LiveSlot → Bool
fits x e = not (eqb x.block e.block) || same x.contents e.contents

either : (u w : Bool) → u || w ≡ false → (u ≡ false) × (w ≡ false)
either true w h = absurd (true≢false h)
either false w h = (refl, h)

-- an entry of another number than all of these
module _ (e : LiveSlot) where
  fits_before : (r : List LiveSlot) → holds e.block (map held_in r) ≡ false → all (λ x. fits x e) r ≡ true
  unfolding all holds held_in
  fits_before [] h = refl
  fits_before (x ∷ r) h =
      let p = either (eqb e.block x.block) (holds e.block (map held_in r)) h in
      rw (ne_eqb x.block e.block (λ q. eqb-false e.block x.block p.0 (sym q))) (fits_before r p.1)

  fits_behind : (r : List LiveSlot) → holds e.block (map held_in r) ≡ false → all (λ x. fits e x) r ≡ true
  unfolding all holds held_in
  fits_behind [] h = refl
  fits_behind (x ∷ r) h = let p = either (eqb e.block x.block) (holds e.block (map held_in r)) h in rw p.0 (fits_behind r p.1)

  fits_itself : fits e e ≡ true
  fits_itself = rw (same_refl e.contents) (or-true (not (eqb e.block e.block)))

all_both : (f g : LiveSlot → Bool) (r : List LiveSlot) → all f r ≡ true → all g r ≡ true → all (λ x. f x && g x) r ≡ true
unfolding all
all_both f g [] p q = refl
all_both f g (x ∷ r) p q =
    and_both (f x && g x) (all (λ y. f y && g y) r) (and_both (f x) (g x) (and_left (f x) (all f r) p) (and_left (g x) (all g r) q)) (all_both f g r (and_right (f x) (all f r) p) (and_right (g x) (all g r) q))

all_agreed : (r : List LiveSlot) → distinct (map held_in r) ≡ true → all (agreed r) r ≡ true
unfolding agreed all distinct held_in
all_agreed [] d = refl
all_agreed (e ∷ r) d =
    let p = (and-eq-true_iff (not (holds e.block (map held_in r))) (distinct (map held_in r))).0 d in
    let free = not-true (holds e.block (map held_in r)) p.0 in
    and_both (fits e e && all (λ x. fits x e) r) (all (λ y. fits e y && all (λ x. fits x y) r) r)
    (and_both (fits e e) (all (λ x. fits x e) r) (fits_itself e) (fits_before e r free)) (all_both (λ y. fits e y) (λ y. all (λ x. fits x y) r) r (fits_behind e r free) (all_agreed r p.1))

-- ---- and so of the sorted ones

all_inserted : (f : LiveSlot → Bool) (e : LiveSlot) (r : List LiveSlot) → f e ≡ true → all f r ≡ true → all f (insert e r) ≡ true
unfolding insert all
all_inserted f e [] h k = rw h
all_inserted f e (x ∷ r) h k = go (leb e.block x.block) (all_inserted f e r h (and_right (f x) (all f r) k))
  where
    go : (u : Bool) → all f (insert e r) ≡ true → all f (cond u (e ∷ x ∷ r) (x ∷ insert e r)) ≡ true
    go true ih = and_both (f e) (f x && all f r) h k
    go false ih = and_both (f x) (all f (insert e r)) (and_left (f x) (all f r) k) ih

all_sorted : (f : LiveSlot → Bool) (r : List LiveSlot) → all f r ≡ true → all f (by_block r) ≡ true
unfolding by_block all
all_sorted f [] h = refl
all_sorted f (e ∷ r) h = all_inserted f e (by_block r) (and_left (f e) (all f r) h) (all_sorted f r (and_right (f e) (all f r) h))

same_line_lem : (r : List LiveSlot) (e : LiveSlot) → agreed r e ≡ true → given_line r e ≡ same_line e
unfolding given_line same_line
same_line_lem r e h = ap (λ (u : Bool). block_text e.block (length e.contents) e.segment e.slot ++ cond u (text " same\n") (text " differs\n")) h

same_lines : (r q : List LiveSlot) → all (agreed r) q ≡ true → flat_map (given_line r) q ≡ flat_map same_line q
unfolding all flat_map
same_lines r [] h = refl
same_lines r (e ∷ q) h = rw (same_line_lem r e (and_left (agreed r e) (all (agreed r) q) h), same_lines r q (and_right (agreed r e) (all (agreed r) q) h))

report_same : (r : List LiveSlot) → distinct (map held_in r) ≡ true → salvage_on r ≡ text "salvage promises nothing\n" ++ flat_map same_line (by_block r)
unfolding salvage_on
report_same r d = rw (given_all_lem r d) (ap (λ (y : List ℕ). text "salvage promises nothing\n" ++ y) (same_lines r (by_block r) (all_sorted (agreed r) r (all_agreed r d))))

module _ (N B : ℕ) (s : Image) (z : right_size N B s ≡ true) (c : state N B s ≡ clean) where
  fine : is_clean N B (segments_of N B s) ≡ true
  unfolding state
  fine = state_clean N B (segments_of N B s) c

  once : distinct (map held_in (live_slots N (segments_of N B s))) ≡ true
  unfolding blocks_distinct
  once = let l = segments_of N B s in ap distinct (clean_lives N B l (segments_length N B s) fine) ∙ (clean_slots N B l fine).once

  clean_report : salvage_text N B s ≡ text "salvage promises nothing\n" ++ flat_map same_line (by_block (live_slots N (segments_of N B s)))
  unfolding salvage_text candidates
  clean_report = let l = segments_of N B s in
      ap (λ (y : List Segment). salvage_on (live_slots N y)) (clean_regarded N B l (segments_length N B s) (size_facts N B s z).two fine) ∙ report_same (live_slots N l) once

pub clean_table : CleanTable
clean_table = λ N B s z c. (salvaged_table N B s z (clean_fine (state N B s) c) ∙ shown_clean N B s c, clean_report N B s z c)
