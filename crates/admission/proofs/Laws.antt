-- The ways out of an admission, and what a put is answered at a used quota.
use Prim.Native.Nat.{ℕ}
use mathlib.Core.Path.{◌≡◌, refl, sym, ◌∙◌}
use mathlib.Core.Bool.{Bool, true, false, ◌&&◌, not}
use mathlib.Core.List.{List}
use Rattle.model.specs.Chip.{Image, right_size}
use Rattle.model.specs.Slot.{number_ok}
use Rattle.model.specs.State.{capacity}
use Rattle.model.specs.Answers.{code_of, first_of}
use Rattle.model.specs.declared.Answer.TheVariants.{Size, Number, Foreign, Shares}
use Rattle.shares.specs.Shares.{shares_of, shares_within, shares_ok, share_of, owns}
use Rattle.shares.specs.Layer.{bounds}
use Rattle.share_list.specs.Places.{share_in}
use Rattle.share_list.specs.declared.Part.{Part}
use Rattle.share_list.proofs.Laws.{within_capacity_lem}
use Rattle.admission.specs.Admission.{Allowed, Kept}

module _ (N B : ℕ) (ns : List ℕ) (s : Image) (a b : ℕ) where
  pub size_refused : right_size N B s ≡ false → Kept N B ns s a b Size
  unfolding bounds first_of code_of
  size_refused z = record { code = rw z; some = refl }

  module _ (z : right_size N B s ≡ true) (most : ℕ) (m : most ≡ capacity N B) where
    shares_tested : {t : Bool} → shares_within most ns ≡ t → shares_ok N B ns ≡ t
    shares_tested e = sym (within_capacity_lem N B ns) ∙ (rw m at e)

    pub shares_refused : shares_within most ns ≡ false → Kept N B ns s a b Shares
    unfolding bounds first_of code_of
    shares_refused e = let k = shares_tested e in record { code = rw (z, k); some = refl }

    module _ (e : shares_within most ns ≡ true) where
      pub number_refused : number_ok b ≡ false → Kept N B ns s a b Number
      unfolding bounds first_of code_of
      number_refused n = let k = shares_tested e in record { code = rw (z, k, n); some = refl }

      module _ (n : number_ok b ≡ true) where
        pub foreign_refused : owns (shares_of ns) a b ≡ false → Kept N B ns s a b Foreign
        unfolding bounds first_of code_of
        foreign_refused o = let k = shares_tested e in record { code = rw (z, k, n, o); some = refl }

        pub allowed : owns (shares_of ns) a b ≡ true → (p : Part) → share_in p ≡ share_of (shares_of ns) a → Allowed N B ns s a b p
        unfolding bounds first_of
        allowed o p h = let k = shares_tested e in record { code = rw (z, k, n, o); share = h }

-- ---- a put at a used quota

module _ (held used : Bool) where
  pub held_passes : held ≡ true → false ≡ (not held && used)
  held_passes e = rw e

  pub new_counts : held ≡ false → used ≡ (not held && used)
  new_counts e = rw e
