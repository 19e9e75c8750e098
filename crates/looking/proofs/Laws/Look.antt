-- The ways out of the search for a block.
use Prim.Native.Nat.{ℕ, ◌+◌, ◌≤◌}
use mathlib.Core.Path.{◌≡◌, refl, sym, subst}
use mathlib.Core.Bool.{true, false}
use native.Mathlib.Omega.{arith}
use lib.ListN.{length}
use Rattle.model.specs.Chip.{Image, right_size}
use Rattle.model.specs.Slot.{number_ok}
use Rattle.model.specs.State.{entries_in, holds, clean, state, view}
use Rattle.model.specs.Answers.{code_of, read}
use Rattle.model.specs.declared.Answer.{Answer}
use Rattle.model.specs.declared.Answer.TheVariants.{Size, Number, Absent}
use Rattle.std.specs.Prelude.{Option, None, Some, Result, ok_or}
use Rattle.std.specs.declared.option.Option.{Option}
use Rattle.find.specs.declared.FoundSlot.{FoundSlot}
use Rattle.find.specs.Search.{rows_at, found_in}
use Rattle.find.proofs.Callers.{Inside, found_inside, FoundAt, found_at, found_nothing}
use Rattle.room.specs.declared.Plan.{Plan}
use Rattle.room.specs.Room.{Planned}
use Rattle.looking.specs.Look.{There, Kept, Looks}
use Rattle.bridge.specs.Refusals.{answer_in, unclean_code, wrong_size_code, read_number, read_unclean, read_absent, read_found}
use Rattle.room.proofs.Laws.{plan_held, plan_sized}

module _ (N B : ℕ) (s : Image) (p : Plan) (k : Planned N B p s) where
  module _ (b : ℕ) (r : Option FoundSlot) (e : r ≡ found_in N B p.first.0 (rows_at N B s p.used p.first.0) b) where
    pub plan_found : (x : FoundSlot) → r ≡ Some x → FoundAt N B b (view N B s) x.place x.length
    plan_found x w = found_at N B b s (view N B s) (plan_held N B p s k) k.first k.used e x w

    pub plan_inside : (x : FoundSlot) → r ≡ Some x → (x.place.0 + 256 ≤ length s) × (x.length ≤ 248)
    plan_inside x w =
        let z = plan_sized N B p s k in
        let i = subst (Inside N B) w (found_inside N B b s z.some p.used p.first.0 e) in
        (omega (arith, i.0, z.whole), i.1)

    pub plan_none : r ≡ None → holds b (entries_in (view N B s)) ≡ false
    plan_none m = found_nothing N B b s (view N B s) (plan_held N B p s k) k.first k.used e m

    module _ (n : number_ok b ≡ true) where
      pub look_there : (x : FoundSlot) → r ≡ Some x → There N B s b x.place.0 x.length
      look_there x w = let f = plan_found x w in let i = plan_inside x w in
          record { code = read_found N B s k.size b n k.state f.held; place = f.place; count = f.long; inside = i.0; short = i.1 }

      pub look_absent : r ≡ None → Kept N B s b Absent
      unfolding code_of
      look_absent m = record { code = read_absent N B s k.size b n k.state (plan_none m); some = refl }

      pub look_found : {o : Result FoundSlot Answer} → o ≡ ok_or r Absent → Looks N B s b o
      look_found q = subst (Looks N B s b) (sym q) (go r refl)
        where
          go : (x : Option FoundSlot) → r ≡ x → Looks N B s b (ok_or x Absent)
          go (Some x) w = look_there x w
          go None w = look_absent w

module _ (N B : ℕ) (s : Image) (b : ℕ) where
  pub look_size : right_size N B s ≡ false → Kept N B s b Size
  unfolding code_of
  look_size e = record { code = wrong_size_code N B s (read b) e; some = refl }

  module _ (z : right_size N B s ≡ true) where
    pub look_number : number_ok b ≡ false → Kept N B s b Number
    unfolding code_of
    look_number e = record { code = read_number N B s z b e; some = refl }

    pub look_unclean : number_ok b ≡ true → (a : Answer) → (state N B s ≡ clean → ⊥) → a ≡ answer_in (state N B s) → Kept N B s b a
    look_unclean n a h e = rw e (record { code = read_unclean N B s z b n h; some = unclean_code (state N B s) h })
