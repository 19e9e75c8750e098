-- What binds every mounted call: a call that nothing of it refuses, and what callers know of the answers.
use Prim.Native.Nat.{ℕ, ◌≤◌, ◌<◌}
use mathlib.Core.Path.{◌≡◌, refl, sym, ap, ◌∙◌}
use mathlib.Core.Bool.{Bool, true, false, not}
use mathlib.Core.List.{[], ◌∷◌}
use lib.ListN.{length, get_or}
use lib.Dec.{ltb, eqb}
use native.Mathlib.Omega.{arith}
use borrow.Author.Tests.{ltb-true, ltb-false, eqb-true}
use Rattle.model.specs.Chip.{Image, most_slots, right_size}
use Rattle.model.proofs.Laws.Chip.{size_facts}
use Rattle.model.specs.Laws.Lists.{and_left, and_right}
use Rattle.model.specs.Slot.{number_ok}
use Rattle.model.specs.Answers.{code_of, ◌when◌, first_of}
use Rattle.model.specs.declared.Answer.TheVariants.{Done, Size, Number, Length, Damaged, Unfinished, Absent, Full, Worn, Cut, ShortTable, FormerVersion, Foreign, Shares, ShortBuffer}
use Rattle.model.specs.declared.Answer.{Answer}
use Rattle.put.proofs.Laws.Writing.{Refusing, refusing_not}
use Rattle.model.specs.Mounted.{Places, least_places, mounted_refusals, mounted_refusal}

-- one that none of them refuses
pub record Passed (N B : ℕ) (s : Image) (t : Places) (b : ℕ) (taken : Bool) : Type 0 where
  pub size : right_size N B s ≡ true
  pub long : least_places ≤ length t
  pub number : number_ok b ≡ true
  pub right : taken ≡ true
  pub usable : get_or t 0 0 ≡ 1

pub passed : (N B : ℕ) (s : Image) (t : Places) (b : ℕ) (taken : Bool) → mounted_refusal N B s t b taken ≡ 0 → Passed N B s t b taken
unfolding mounted_refusal mounted_refusals first_of
passed N B s t b taken h = go (right_size N B s) (ltb (length t) least_places) (number_ok b) taken (eqb (get_or t 0 0) 1) refl refl refl refl refl h
  where
    go : (v w x y u : Bool) → right_size N B s ≡ v → ltb (length t) least_places ≡ w → number_ok b ≡ x → taken ≡ y → eqb (get_or t 0 0) 1 ≡ u
        → first_of ((1 when not v) ∷ (10 when w) ∷ (2 when not x) ∷ (3 when not y) ∷ (5 when not u) ∷ []) ≡ 0 → Passed N B s t b taken
    go false w x y u a c d e f m = absurd (omega arith)
    go true true x y u a c d e f m = absurd (omega arith)
    go true false false y u a c d e f m = absurd (omega arith)
    go true false true false u a c d e f m = absurd (omega arith)
    go true false true true false a c d e f m = absurd (omega arith)
    go true false true true true a c d e f m = record { size = a; long = ltb-false (length t) least_places c; number = d; right = e; usable = eqb-true (get_or t 0 0) 1 f }

-- no refusal that binds is 9
pub bound_not_cut : (N B : ℕ) (s : Image) (t : Places) (b : ℕ) (taken : Bool) → mounted_refusal N B s t b taken ≡ 9 → ⊥
unfolding mounted_refusal mounted_refusals first_of
bound_not_cut N B s t b taken h = go (right_size N B s) (ltb (length t) least_places) (number_ok b) taken (eqb (get_or t 0 0) 1) h
  where
    go : (v w x y u : Bool) → first_of ((1 when not v) ∷ (10 when w) ∷ (2 when not x) ∷ (3 when not y) ∷ (5 when not u) ∷ []) ≡ 9 → ⊥
    go false w x y u m = omega arith
    go true true x y u m = omega arith
    go true false false y u m = omega arith
    go true false true false u m = omega arith
    go true false true true false m = omega arith
    go true false true true true m = omega arith

pub none_refuses : (N B : ℕ) (s : Image) (t : Places) (b : ℕ) (taken : Bool) (a : Answer) → code_of a ≡ mounted_refusal N B s t b taken → a ≡ Done → mounted_refusal N B s t b taken ≡ 0
unfolding code_of
none_refuses N B s t b taken a e d = sym e ∙ ap code_of d

-- what a look-up asks for
pub slots_few : (N B : ℕ) (s : Image) (t : Places) (b : ℕ) (taken : Bool) → mounted_refusal N B s t b taken ≡ 0 → (B ≤ most_slots) × (least_places ≤ length t)
slots_few N B s t b taken h = let p = passed N B s t b taken h in (omega (arith, (size_facts N B s p.size).most_b), p.long)

pub number_range : (b : ℕ) → number_ok b ≡ true → (0 < b) × (b < least_places)
unfolding number_ok
number_range b h = (ltb-true 0 b (and_left (ltb 0 b) (ltb b 65535) h), omega (arith, ltb-true b 65535 (and_right (ltb 0 b) (ltb b 65535) h)))

-- an answer other than 0 has another number
pub refusing_code : (a : Answer) → Refusing a → code_of a ≡ 0 → ⊥
unfolding code_of
refusing_code Done h e = refusing_not h
refusing_code Size h e = omega arith
refusing_code Number h e = omega arith
refusing_code Length h e = omega arith
refusing_code Damaged h e = omega arith
refusing_code Unfinished h e = omega arith
refusing_code Absent h e = omega arith
refusing_code Full h e = omega arith
refusing_code Worn h e = omega arith
refusing_code Cut h e = omega arith
refusing_code ShortTable h e = omega arith
refusing_code FormerVersion h e = omega arith
refusing_code Foreign h e = omega arith
refusing_code Shares h e = omega arith
refusing_code ShortBuffer h e = omega arith
