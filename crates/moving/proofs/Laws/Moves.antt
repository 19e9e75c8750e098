-- The outcome of a move, from what its parts did.
use Prim.Native.Nat.{ℕ, ◌≤◌, ◌<◌}
use mathlib.Core.Path.{◌≡◌, refl, sym, ap, ◌∙◌}
use mathlib.Core.Bool.{true, false, cond, ◌&&◌}
use mathlib.Core.List.{[], ◌∷◌, ◌++◌}
use lib.ListN.{length}
use lib.Dec.{ltb, eqb}
use borrow.Author.Tests.{lt-ltb, le-ltb}
use Rattle.model.specs.Chip.{Image, Bytes, right_size}
use Rattle.model.specs.State.{capacity, clean, state, view}
use Rattle.model.specs.Steps.{format_steps}
use Rattle.model.specs.Table.{table_of}
use Rattle.model.specs.Answers.{code_of, ◌when◌, first_of, is_damaged, is_unfinished, performed, worked}
use Rattle.model.specs.Mounted.{Places, least_places, filled_places}
use Rattle.model.specs.declared.Answer.{Answer}
use Rattle.model.specs.declared.Answer.TheVariants.{Size, Full}
use Rattle.model.specs.declared.Performed.{Performed}
use Rattle.bridge.specs.Refusals.{answer_in, unclean, unclean_code}
use Rattle.request.specs.Request.{Refused}
use Rattle.request.proofs.Answered.{refused_worked}
use Rattle.moves.specs.Moves.{by_number, fresh_work, move_refusals, move_work, move_outcome}
use Rattle.moves.specs.Placed.{placed}
use Rattle.moves.proofs.Fresh.{fresh_list}
use Rattle.moves.proofs.Facts.{Movable, movable_fits}
use Rattle.fresh.specs.Fresh.{listed}
use Rattle.moving.proofs.Laws.Listed.{listed_table}

module _ (N B : ℕ) (s : Image) (M D : ℕ) (t : Image) (budget : ℕ) where
  abbrev refusal : ℕ
  refusal = first_of (move_refusals N B s M D t)

  -- ---- refused

  refused_move : (a : Answer) {p : Performed} → refusal ≡ code_of a → eqb (code_of a) 0 ≡ false → Refused a p → performed p t ≡ move_outcome N B s M D t budget
  unfolding move_outcome move_work fresh_work
  refused_move a {p} e n r = rw (e, n) (refused_worked D t budget a p r)

  -- whichever image it is
  wrong_size : {p : Performed} → right_size N B s && right_size M D t ≡ false → Refused Size p → performed p t ≡ move_outcome N B s M D t budget
  unfolding move_refusals first_of code_of
  wrong_size z r = refused_move Size (rw z) refl r

  pub wrong_source : {p : Performed} → right_size N B s ≡ false → Refused Size p → performed p t ≡ move_outcome N B s M D t budget
  wrong_source z r = wrong_size (rw z) r

  pub wrong_target : {p : Performed} → right_size N B s ≡ true → right_size M D t ≡ false → Refused Size p → performed p t ≡ move_outcome N B s M D t budget
  wrong_target z y r = wrong_size (rw (z, y)) r

  module _ (z : right_size N B s ≡ true) (y : right_size M D t ≡ true) where
    unclean_row : (state N B s ≡ clean → ⊥) → refusal ≡ code_of (answer_in (state N B s))
    unfolding move_refusals first_of
    unclean_row u = rw (z, y) (unclean (state N B s) u ((7 when ltb (capacity M D) (length (table_of N B s))) ∷ []))

    pub not_clean : (a : Answer) {p : Performed} → (state N B s ≡ clean → ⊥) → a ≡ answer_in (state N B s) → Refused a p → performed p t ≡ move_outcome N B s M D t budget
    not_clean a u e r = refused_move a (unclean_row u ∙ ap code_of (sym e)) (rw e (unclean_code (state N B s) u)) r

    -- clean, what is left to ask is whether the blocks fit
    clean_row : state N B s ≡ clean → refusal ≡ cond (ltb (capacity M D) (length (table_of N B s))) 7 0
    unfolding move_refusals first_of is_damaged is_unfinished
    clean_row c = rw (z, y, c)

    pub too_many : {p : Performed} → state N B s ≡ clean → capacity M D < length (table_of N B s) → Refused Full p → performed p t ≡ move_outcome N B s M D t budget
    unfolding code_of
    too_many c h r = refused_move Full (clean_row c ∙ rw (lt-ltb (capacity M D) (length (table_of N B s)) h)) refl r

  -- ---- performed

  -- x is the table that was filled
  pub carried_move : (m : Movable N B s M D t) → Bytes s → (w x : Places) → least_places ≤ length w → x ≡ filled_places N B (view N B s) w → (p : Performed) (u : Image)
      → performed p u ≡ worked D (record { code = 0; steps = format_steps M D ++ placed M D 0 0 (listed s x 1 65535) }) t budget
      → performed p u ≡ move_outcome N B s M D t budget
  unfolding move_outcome move_work fresh_work
  carried_move m b w x l made p u e =
      let f = movable_fits N B s M D t b m in
      let none : refusal ≡ 0 = clean_row m.source m.target m.fine ∙ rw (le-ltb (capacity M D) (length (table_of N B s)) m.few) in
      let list : listed s x 1 65535 ≡ by_number (table_of N B s) = ap (λ (y : Places). listed s y 1 65535) made ∙ listed_table N B s m.source m.fine w l b in
      rw (none, fresh_list M D (by_number (table_of N B s)) t m.target f, ← list) e
