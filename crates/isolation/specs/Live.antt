-- Laws of the count of live blocks in a range of numbers: by what a table shows in the range, with a block taken out, with a block stored.
use Prim.Native.Nat.{ℕ, suc, ◌+◌, ◌≤◌}
use Rattle.std.specs.Prelude.{◌≡◌, ◌≢◌, Bool, cond, ◌&&◌, not, leb}
use Rattle.std.proofs.Math.Path.{refl, sym}
use Rattle.std.proofs.Common.{ap, ◌∙◌, arith}
use Rattle.std.proofs.Math.Bool.{true, false, true≢false, and-eq-true_iff}
use mathlib.Core.List.{List, [], ◌∷◌}
use Rattle.std.proofs.Math.Decide.{ℕ_discrete}
use Rattle.std.proofs.Math.Dec.{eqb}
use borrow.Author.Tests.{eqb-true, eq-eqb, ne_eqb, not-true}
use Rattle.model.specs.Lists.{count}
use Rattle.model.specs.Slot.{Entry}
use Rattle.model.specs.State.{holds, distinct, copies}
use Rattle.model.specs.Table.{Table, lookup, without, store, live_between}
use Rattle.model.proofs.Laws.Tables.{copies_cons, copies_none, distinct_copies, held_copies, lookup_absent, absent_free, found_held, lookup_without_same, lookup_without_other, distinct_without}

module _ (first last : ℕ) where
  -- a number of the range
  abbrev pub in_range : ℕ → Bool
  in_range b = leb first b && leb b last

  -- two tables show the same in the range
  abbrev pub SameIn : Table → Table → Type 0
  SameIn t u = (b : ℕ) → in_range b ≡ true → lookup b t ≡ lookup b u

  pub live_none : live_between first last [] ≡ 0
  unfolding live_between count
  live_none = refl

  pub live_cons : (e : Entry) (t : Table) → live_between first last (e ∷ t) ≡ cond (in_range e.block) (suc (live_between first last t)) (live_between first last t)
  unfolding live_between count
  live_cons e t = refl

  live_more : (x : Bool) (e : Entry) (t : Table) → in_range e.block ≡ x → live_between first last (e ∷ t) ≡ cond x (suc (live_between first last t)) (live_between first last t)
  live_more x e t h = live_cons e t ∙ rw h

  -- ---- a block taken out

  -- one of the range: as many fewer as it has entries
  live_split : (b : ℕ) (t : Table) → in_range b ≡ true → live_between first last t ≡ copies b t + live_between first last (without b t)
  unfolding without
  live_split b [] h = omega (arith, live_none, copies_none b)
  live_split b (e ∷ t) h = go (eqb b e.block) refl (in_range e.block) refl (live_split b t h)
    where
      go : (x : Bool) → eqb b e.block ≡ x → (y : Bool) → in_range e.block ≡ y → live_between first last t ≡ copies b t + live_between first last (without b t)
          → live_between first last (e ∷ t) ≡ copies b (e ∷ t) + live_between first last (cond x (without b t) (e ∷ without b t))
      go true q true i ih = rw (live_more true e t i, copies_cons b e t, q) (omega (arith, ih))
      go true q false i ih = absurd (true≢false (sym h ∙ (ap (λ (y : ℕ). in_range y) (eqb-true b e.block q) ∙ i)))
      go false q true i ih = rw (live_more true e t i, live_more true e (without b t) i, copies_cons b e t, q) (omega (arith, ih))
      go false q false i ih = rw (live_more false e t i, live_more false e (without b t) i, copies_cons b e t, q) ih

  -- one outside it: as many
  pub live_outside : (b : ℕ) (t : Table) → in_range b ≡ false → live_between first last (without b t) ≡ live_between first last t
  unfolding without
  live_outside b [] h = refl
  live_outside b (e ∷ t) h = go (eqb b e.block) refl (live_outside b t h)
    where
      go : (x : Bool) → eqb b e.block ≡ x → live_between first last (without b t) ≡ live_between first last t → live_between first last (cond x (without b t) (e ∷ without b t)) ≡ live_between first last (e ∷ t)
      go true q ih = ih ∙ sym (live_more false e t (ap (λ (y : ℕ). in_range y) (sym (eqb-true b e.block q)) ∙ h))
      go false q ih = live_cons e (without b t) ∙ (rw ih (sym (live_cons e t)))

  pub live_held : (b : ℕ) (t : Table) → distinct t ≡ true → in_range b ≡ true → holds b t ≡ true → live_between first last t ≡ suc (live_between first last (without b t))
  live_held b t d i h = omega (arith, live_split b t i, distinct_copies t d b, held_copies b t h)

  pub live_without : (b : ℕ) (t : Table) → live_between first last (without b t) ≤ live_between first last t
  live_without b t = go (in_range b) refl
    where
      go : (x : Bool) → in_range b ≡ x → live_between first last (without b t) ≤ live_between first last t
      go true i = omega (arith, live_split b t i)
      go false i = omega (arith, live_outside b t i)

  -- ---- a block stored

  pub live_rewritten : (b : ℕ) (c : List ℕ) (t : Table) → distinct t ≡ true → holds b t ≡ true → live_between first last (store b c t) ≤ live_between first last t
  unfolding store
  live_rewritten b c t d h = go (in_range b) refl
    where
      go : (x : Bool) → in_range b ≡ x → live_between first last (record { block = b; contents = c } ∷ without b t) ≤ live_between first last t
      go true i = omega (arith, live_more true (record { block = b; contents = c }) (without b t) i, live_held b t d i h)
      go false i = omega (arith, live_more false (record { block = b; contents = c }) (without b t) i, live_outside b t i)

  pub live_added : (b : ℕ) (c : List ℕ) (t : Table) → live_between first last (store b c t) ≤ suc (live_between first last t)
  unfolding store
  live_added b c t = go (in_range b) refl
    where
      go : (x : Bool) → in_range b ≡ x → live_between first last (record { block = b; contents = c } ∷ without b t) ≤ suc (live_between first last t)
      go true i = omega (arith, live_more true (record { block = b; contents = c }) (without b t) i, live_without b t)
      go false i = omega (arith, live_more false (record { block = b; contents = c }) (without b t) i, live_without b t)

  pub live_elsewhere : (b : ℕ) (c : List ℕ) (t : Table) → in_range b ≡ false → live_between first last (store b c t) ≡ live_between first last t
  unfolding store
  live_elsewhere b c t i = live_more false (record { block = b; contents = c }) (without b t) i ∙ live_outside b t i

  -- ---- tables that show the same in the range

  -- nothing shown, none live
  live_empty : (u : Table) → SameIn [] u → live_between first last u ≡ 0
  unfolding lookup holds
  live_empty [] g = live_none
  live_empty (e ∷ u) g = go (in_range e.block) refl (λ h. live_empty u h)
    where
      go : (x : Bool) → in_range e.block ≡ x → (SameIn [] u → live_between first last u ≡ 0) → live_between first last (e ∷ u) ≡ 0
      go true i ih = absurd (let k : eqb e.block e.block ≡ true = eq-eqb e.block e.block refl in true≢false (rw k at (absent_free e.block (e ∷ u) (sym (g e.block i)))))
      go false i ih = live_more false e u i
          ∙ ih (λ b h. g b h ∙ (let k : eqb b e.block ≡ false = ne_eqb b e.block (λ q. true≢false (sym h ∙ (ap (λ (y : ℕ). in_range y) q ∙ i))) in rw k))

  pub live_same : (t u : Table) → distinct t ≡ true → distinct u ≡ true → SameIn t u → live_between first last t ≡ live_between first last u
  unfolding distinct lookup
  live_same [] u p q g = live_none ∙ sym (live_empty u g)
  live_same (e ∷ t) u p q g = go (in_range e.block) refl (λ v k h. live_same t v tail.1 k h)
    where
      tail : (not (holds e.block t) ≡ true) × (distinct t ≡ true)
      tail = (and-eq-true_iff (not (holds e.block t)) (distinct t)).0 p

      here : in_range e.block ≡ true → holds e.block u ≡ true
      here i = found_held e.block u e.contents (sym (g e.block i) ∙ rw (eq-eqb e.block e.block refl))

      -- another block of the range is found behind the first entry
      behind : (b : ℕ) → in_range b ≡ true → b ≢ e.block → lookup b t ≡ lookup b u
      behind b h n = let k : eqb b e.block ≡ false = ne_eqb b e.block n in rw k at (g b h)

      rest : SameIn t (without e.block u)
      rest b h = elim (ℕ_discrete b e.block) [
        | yes i ↦ rw (i, lookup_without_same e.block u) (lookup_absent e.block t (not-true (holds e.block t) tail.0))
        | no n ↦ behind b h n ∙ sym (lookup_without_other b e.block u n)
      ]

      go : (x : Bool) → in_range e.block ≡ x → ((v : Table) → distinct v ≡ true → SameIn t v → live_between first last t ≡ live_between first last v) → live_between first last (e ∷ t) ≡ live_between first last u
      go true i ih = live_more true e t i ∙ (ap suc (ih (without e.block u) (distinct_without e.block u q) rest) ∙ sym (live_held e.block u q i (here i)))
      go false i ih = live_more false e t i ∙ ih u q (λ b h. behind b h (λ z. true≢false (sym h ∙ (ap (λ (y : ℕ). in_range y) z ∙ i))))
