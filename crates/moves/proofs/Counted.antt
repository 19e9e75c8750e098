-- How many steps the list of a fresh image has.
use Rattle.std.specs.Prelude.{ℕ, suc, ◌+◌, ◌-◌, ◌*◌, ◌/◌, ◌≤◌, ◌<◌, ◌≡◌, refl, Bool, true, false, cond, List, [], ◌∷◌, ◌++◌, length, leb, ltb}
use Rattle.std.proofs.Common.{◌∙◌, arith, length-append, ltb-true, ltb-false}
use Rattle.std.proofs.Math.Nat.{div-eq_of_lt, add-div_right}
use Rattle.model.specs.Chip.{Step}
use Rattle.model.specs.Header.{new_version}
use Rattle.model.specs.Slot.{most_contents, Entry}
use Rattle.model.specs.Steps.{on_page, slot_at, write_slot, open_segment, erase_first, format_steps}
use Rattle.model.specs.Table.{Table}
use Rattle.model.proofs.Laws.CopyOut.{Valids}
use Rattle.bridge.specs.Lengths.{page_length, write_length, open_length, erase_length}
use Rattle.moves.specs.Moves.{insert, by_number}
use Rattle.moves.specs.Placed.{placed}

-- those that write the slots
unfoldable pub slot_steps : Table → ℕ
slot_steps [] = 0
slot_steps (e ∷ t) = 5 + length e.contents + slot_steps t

-- a segment is opened whenever B slots are full and an entry is left
pub placed_length : (N B n j : ℕ) (t : Table) → 0 < B → j ≤ B → length (placed N B n j t) ≡ 21 * ((j + length t - 1) / B) + slot_steps t
unfolding placed slot_steps
placed_length N B n j [] p h = let z : (j + 0 - 1) / B ≡ 0 = div-eq_of_lt (omega arith) in omega arith
placed_length N B n j (e ∷ t) p h = go (ltb j B) refl (λ m k q. placed_length N B m k t p q)
  where
    at : ℕ → ℕ → List Step
    at m k = on_page (slot_at N B m k) (write_slot e.block e.contents)

    one : (m k : ℕ) → length (at m k) ≡ 5 + length e.contents
    one m k = page_length (slot_at N B m k) (write_slot e.block e.contents) ∙ write_length e.block e.contents

    opening : List Step
    opening = open_segment N B (new_version 0) (suc n)

    go : (u : Bool) → ltb j B ≡ u → ((m k : ℕ) → k ≤ B → length (placed N B m k t) ≡ 21 * ((k + length t - 1) / B) + slot_steps t)
        → length (cond u (at n j ++ placed N B n (suc j) t) (opening ++ (at (suc n) 0 ++ placed N B (suc n) 1 t))) ≡ 21 * ((j + suc (length t) - 1) / B) + (5 + length e.contents + slot_steps t)
    go true u ih =
        let q = ltb-true j B u in
        let same : suc j + length t - 1 ≡ j + suc (length t) - 1 = omega arith in
        omega (arith, length-append (at n j) (placed N B n (suc j) t), one n j, rw same at (ih n (suc j) q))
    go false u ih =
        let q = ltb-false j B u in
        let rest : 1 + length t - 1 ≡ length t = omega arith in
        let all : j + suc (length t) - 1 ≡ length t + B = omega arith in
        let d : (j + suc (length t) - 1) / B ≡ length t / B + 1 = rw all (add-div_right (length t) p) in
        omega (arith, length-append opening (at (suc n) 0 ++ placed N B (suc n) 1 t), length-append (at (suc n) 0) (placed N B (suc n) 1 t), open_length N B 0 (suc n), one (suc n) 0, rw rest at (ih (suc n) 1 p), d)

pub format_length : (N B : ℕ) → length (format_steps N B) ≡ N + 21
unfolding format_steps
format_length N B = omega (arith, length-append (erase_first N) (open_segment N B (new_version 0) 0), erase_length N, open_length N B 0 0)

insert_steps : (e : Entry) (t : Table) → slot_steps (insert e t) ≡ 5 + length e.contents + slot_steps t
unfolding insert slot_steps
insert_steps e [] = refl
insert_steps e (x ∷ t) = go (leb e.block x.block) (insert_steps e t)
  where
    go : (u : Bool) → slot_steps (insert e t) ≡ 5 + length e.contents + slot_steps t
        → slot_steps (cond u (e ∷ x ∷ t) (x ∷ insert e t)) ≡ 5 + length e.contents + (5 + length x.contents + slot_steps t)
    go true h = refl
    go false h = omega arith

pub sorted_steps : (t : Table) → slot_steps (by_number t) ≡ slot_steps t
unfolding by_number slot_steps
sorted_steps [] = refl
sorted_steps (e ∷ t) = omega (arith, insert_steps e (by_number t), sorted_steps t)

-- 248 bytes of contents at most
pub slots_few : (t : Table) → Valids t → slot_steps t ≤ 253 * length t
unfolding slot_steps most_contents
slots_few [] v = omega arith
slots_few (e ∷ t) v = omega (arith, v.0.short, slots_few t v.1)
