-- The code of each request's refusal, from the tests that lead to it; and the answer by the state of an image.
use Rattle.std.specs.Prelude.{ℕ, suc, ◌≡◌, Bool, true, false, List, [], ◌∷◌, length, eqb}
use Rattle.std.proofs.Math.Path.{refl}
use Rattle.std.proofs.Math.Bool.{not}
use Rattle.std.proofs.Common.{true≢false, arith}
use Rattle.model.specs.Chip.{Image, right_size}
use Rattle.model.specs.Header.{is_former}
use Rattle.model.specs.Slot.{number_ok}
use Rattle.model.specs.State.{segments_of, view_of, view, entries_in, holds, Exception, State, clean, unfinished, damaged, state}
use Rattle.model.specs.Steps.{is_worn}
use Rattle.model.specs.Answers.{code_of, Refusal, ◌when◌, Request, format, put, delete, read, read_or, recover, first_of, is_damaged, is_unfinished, length_ok, is_full, absent_refusals, refusals}
use Rattle.model.specs.declared.Answer.{Answer}
use Rattle.model.specs.declared.Answer.TheVariants.{Done, Damaged, Unfinished}
use Rattle.bridge.specs.Accepted.{refusal}

-- the answer of a request that wants a clean image
unfoldable pub answer_in : State → Answer
answer_in clean = Done
answer_in (unfinished x) = Unfinished
answer_in damaged = Damaged

-- it is no 0 where the image is not clean
pub unclean_code : (x : State) → (x ≡ clean → ⊥) → eqb (code_of (answer_in x)) 0 ≡ false
unfolding code_of answer_in
unclean_code clean h = absurd (h refl)
unclean_code (unfinished x) h = refl
unclean_code damaged h = refl

-- no row applies: neither the first nor one of the rest
pub none_applies : (n : ℕ) (t : Bool) (r : List Refusal) → first_of ((suc n when t) ∷ r) ≡ 0 → (t ≡ false) × (first_of r ≡ 0)
unfolding first_of
none_applies n true r e = absurd (omega arith)
none_applies n false r e = (refl, e)

-- an image that is refused by neither 4 nor 5 is clean
pub neither : (x : State) → is_damaged x ≡ false → is_unfinished x ≡ false → x ≡ clean
unfolding is_damaged is_unfinished
neither clean a b = refl
neither (unfinished x) a b = absurd (true≢false b)
neither damaged a b = absurd (true≢false a)

-- the rows for the state of the image
pub unclean : (x : State) → (x ≡ clean → ⊥) → (r : List Refusal) → first_of ((4 when is_damaged x) ∷ (5 when is_unfinished x) ∷ r) ≡ code_of (answer_in x)
unfolding first_of is_damaged is_unfinished code_of answer_in
unclean clean h r = absurd (h refl)
unclean (unfinished x) h r = refl
unclean damaged h r = refl

module _ (N B : ℕ) (s : Image) where
  -- a wrong size comes first
  pub wrong_size_code : (q : Request) → right_size N B s ≡ false → refusal N B s q ≡ 1
  unfolding refusals absent_refusals first_of
  wrong_size_code format e = rw e
  wrong_size_code (put b c) e = rw e
  wrong_size_code (delete b) e = rw e
  wrong_size_code (read b) e = rw e
  wrong_size_code (read_or b f) e = rw e
  wrong_size_code recover e = rw e

  -- the rows of a delete are those of a read
  pub delete_code : (b : ℕ) → refusal N B s (delete b) ≡ refusal N B s (read b)
  unfolding refusals
  delete_code b = refl

  module _ (z : right_size N B s ≡ true) where
    pub format_code : refusal N B s format ≡ 0
    unfolding refusals first_of
    format_code = rw z

    -- ---- recover

    pub recover_damaged : state N B s ≡ damaged → refusal N B s recover ≡ 4
    unfolding refusals first_of state is_damaged
    recover_damaged e = rw (z, e)

    pub recover_clean : state N B s ≡ clean → refusal N B s recover ≡ 0
    unfolding refusals first_of state is_damaged
    recover_clean e = rw (z, e)

    pub recover_unfinished : (x : Exception) → state N B s ≡ unfinished x → refusal N B s recover ≡ 0
    unfolding refusals first_of state is_damaged
    recover_unfinished x e = rw (z, e)

    -- ---- a read, or a delete

    module _ (b : ℕ) where
      pub read_number : number_ok b ≡ false → refusal N B s (read b) ≡ 2
      unfolding refusals absent_refusals first_of
      read_number e = rw (z, e)

      module _ (n : number_ok b ≡ true) where
        pub read_unclean : (state N B s ≡ clean → ⊥) → refusal N B s (read b) ≡ code_of (answer_in (state N B s))
        unfolding refusals absent_refusals first_of state
        read_unclean h = rw (z, n) (unclean (state N B s) h ((6 when not (holds b (entries_in (view_of N (segments_of N B s))))) ∷ []))

        pub read_absent : state N B s ≡ clean → holds b (entries_in (view N B s)) ≡ false → refusal N B s (read b) ≡ 6
        unfolding refusals absent_refusals first_of state view is_damaged is_unfinished
        read_absent e h = rw (z, n, e, h)

        pub read_found : state N B s ≡ clean → holds b (entries_in (view N B s)) ≡ true → refusal N B s (read b) ≡ 0
        unfolding refusals absent_refusals first_of state view is_damaged is_unfinished
        read_found e h = rw (z, n, e, h)

    -- ---- put

    module _ (b : ℕ) (c : List ℕ) where
      pub put_number : number_ok b ≡ false → refusal N B s (put b c) ≡ 2
      unfolding refusals first_of
      put_number e = rw (z, e)

      module _ (n : number_ok b ≡ true) where
        pub put_length : length_ok (length c) ≡ false → refusal N B s (put b c) ≡ 3
        unfolding refusals first_of
        put_length h = rw (z, n, h)

        module _ (h : length_ok (length c) ≡ true) where
          pub put_unclean : (state N B s ≡ clean → ⊥) → refusal N B s (put b c) ≡ code_of (answer_in (state N B s))
          unfolding refusals first_of state
          put_unclean u = rw (z, n, h) (unclean (state N B s) u ((11 when is_former (view_of N (segments_of N B s)).version) ∷ (7 when is_full N B b (view_of N (segments_of N B s))) ∷ (8 when is_worn N (view_of N (segments_of N B s))) ∷ []))

          pub put_former : state N B s ≡ clean → is_former (view N B s).version ≡ true → refusal N B s (put b c) ≡ 11
          unfolding refusals first_of state view is_damaged is_unfinished
          put_former e o = rw (z, n, h, e, o)

          module _ (o : is_former (view N B s).version ≡ false) where
            pub put_full : state N B s ≡ clean → is_full N B b (view N B s) ≡ true → refusal N B s (put b c) ≡ 7
            unfolding refusals first_of state view is_damaged is_unfinished
            put_full e f = rw (z, n, h, e, o, f)

            pub put_worn : state N B s ≡ clean → is_full N B b (view N B s) ≡ false → is_worn N (view N B s) ≡ true → refusal N B s (put b c) ≡ 8
            unfolding refusals first_of state view is_damaged is_unfinished
            put_worn e f w = rw (z, n, h, e, o, f, w)

            pub put_accepted : state N B s ≡ clean → is_full N B b (view N B s) ≡ false → is_worn N (view N B s) ≡ false → refusal N B s (put b c) ≡ 0
            unfolding refusals first_of state view is_damaged is_unfinished
            put_accepted e f w = rw (z, n, h, e, o, f, w)
