-- A put by the count of its tenant's blocks: the store's answer is handed on, or the quota is used and the store is asked with no step to take.
use Prim.Native.Nat.{ℕ, ◌≤◌, ◌<◌}
use mathlib.Core.Path.{◌≡◌, refl, sym, ap, ap₂, ◌∙◌}
use mathlib.Core.Logic.{◌⊎◌, inl, inr, ⊎_elim}
use mathlib.Core.Bool.{Bool, true, false, cond, ◌&&◌, not, true≢false}
use mathlib.Core.List.{List, []}
use native.Mathlib.Omega.{arith}
use lib.ListN.{length}
use lib.Dec.{leb, eqb}
use borrow.Author.Tests.{eqb-true}
use Rattle.model.specs.Chip.{Image, run, largest_image, right_size}
use Rattle.model.specs.Slot.{number_ok}
use Rattle.model.specs.State.{State, clean, unfinished, damaged, holds, state}
use Rattle.model.specs.Table.{table_of}
use Rattle.model.specs.Answers.{code_of, put, first_of, is_damaged, is_unfinished, length_ok, work_of, performed, Outcome, outcome_of, CountOutcome, counted, count_refusals, count_outcome}
use Rattle.model.specs.declared.Answer.{Answer}
use Rattle.model.specs.declared.Performed.{Performed}
use Rattle.model.specs.declared.Counted.{Counted}
use Rattle.bridge.specs.Accepted.{code_of_lem, refused_none}
use Rattle.bridge.specs.Refusals.{answer_in, put_length, put_unclean}
use Rattle.bridge.specs.Allowance.{ends_or_stops}
use Rattle.shares.specs.Layer.{puts, store_request, before_full, quota_used, rows, contents_asked, Shared, wrote}
use Rattle.share_list.specs.Places.{share_in}
use Rattle.share_list.specs.declared.Part.{Part}
use Rattle.sharing.specs.Within.{code_within, outcome_within}
use Rattle.sharing.proofs.Laws.Written.{passed_on}

-- ---- answers that come before 7

-- none of them is 0
early_some : (k : ℕ) → before_full k ≡ true → eqb k 0 ≡ false
unfolding before_full
early_some k h = go (eqb k 0) refl
  where
    go : (t : Bool) → eqb k 0 ≡ t → t ≡ false
    go true e = let z = eqb-true k 0 e in absurd (true≢false (sym h ∙ rw z))
    go false e = refl

-- 4 and 5 are among them
unclean_early : (x : State) → (x ≡ clean → ⊥) → before_full (code_of (answer_in x)) ≡ true
unfolding answer_in code_of before_full
unclean_early clean h = absurd (h refl)
unclean_early (unfinished x) h = refl
unclean_early damaged h = refl

clean_or_not : (x : State) → (x ≡ clean) ⊎ (x ≡ clean → ⊥)
clean_or_not clean = inl refl
clean_or_not (unfinished x) = inr (λ e. let o : ◌≡◌ {A = ℕ} 0 1 = cc in omega arith)
clean_or_not damaged = inr (λ e. let o : ◌≡◌ {A = ℕ} 0 1 = cc in omega arith)

module _ (N B : ℕ) (s : Image) (b : ℕ) (c : List ℕ) where
  abbrev k : ℕ
  k = (work_of N B s (put b c)).code

  -- with no step to take, the store says the same of what comes before 7
  early_kept : cond (before_full (outcome_of N B s 0 (put b c)).code) (outcome_of N B s 0 (put b c)).code 7 ≡ cond (before_full k) k 7
  early_kept = ⊎_elim (λ e. ap (λ (j : ℕ). cond (before_full j) j 7) e.code) (λ e. rw e.code (stopped (eqb k 0) refl e.short)) (ends_or_stops N B s 0 (put b c))
    where
      stopped : (t : Bool) → eqb k 0 ≡ t → 0 < length (work_of N B s (put b c)).steps → cond (before_full 9) 9 7 ≡ cond (before_full k) k 7
      stopped true e h = rw (eqb-true k 0 e) (unfold before_full in refl)
      stopped false e h = let n = ap length (refused_none N B s (put b c) e) in absurd (omega arith)

  -- ---- what was counted

  module _ (z : right_size N B s ≡ true) (n : number_ok b ≡ true) where
    late_clean : before_full k ≡ false → state N B s ≡ clean
    late_clean h = ⊎_elim (λ e. e) (λ u. absurd (true≢false (sym (early u (length_ok (length c)) refl) ∙ h))) (clean_or_not (state N B s))
      where
        early : (state N B s ≡ clean → ⊥) → (t : Bool) → length_ok (length c) ≡ t → before_full k ≡ true
        early u true l = ap before_full (code_of_lem N B s (put b c) ∙ put_unclean N B s z b c n l u) ∙ unclean_early (state N B s) u
        early u false l = ap before_full (code_of_lem N B s (put b c) ∙ put_length N B s z b c n l) ∙ (unfold before_full in refl)

    module _ (p : Part) (q : Counted) (e : counted q ≡ count_outcome N B s p.first.0 p.last.0 b) where
      abbrev used : Bool
      used = not q.stored && leb p.quota q.blocks

      -- where it decides, the image is clean, and the count that of its table
      used_told : before_full k ≡ false → (not (holds b (table_of N B s)) && quota_used (share_in p) (table_of N B s)) ≡ used
      unfolding counted count_outcome count_refusals first_of is_damaged is_unfinished quota_used share_in
      used_told h =
          let y = late_clean h in
          let f = rw (z, y) at e in
          ap₂ (λ (held : Bool) (live : ℕ). not held && leb p.quota live) (sym (ap (λ (o : CountOutcome). o.stored) f)) (sym (ap (λ (o : CountOutcome). o.blocks) f))

      by_quota : (t : Bool) → used ≡ t → code_within N B (share_in p) s (puts b c) ≡ cond (before_full k) k (cond t 7 k)
      unfolding code_within rows first_of store_request
      by_quota t u = go (before_full k) refl
        where
          go : (y : Bool) → before_full k ≡ y → cond y k (cond (not (holds b (table_of N B s)) && quota_used (share_in p) (table_of N B s)) 7 k) ≡ cond y k (cond t 7 k)
          go true h = refl
          go false h = ap (λ (v : Bool). cond v 7 k) (used_told h ∙ u)

      -- ---- the two ways out

      module _ (w : Performed) (image : Image) where
        pub stored : used ≡ false → (budget : ℕ) → largest_image ≤ budget → performed w image ≡ outcome_of N B s budget (put b c) → wrote w.answer image ≡ outcome_within N B (share_in p) s (puts b c)
        unfolding store_request contents_asked
        stored u budget m o = passed_on N B s (share_in p) (puts b c) (by_quota false u ∙ either (before_full k)) refl budget w image m o
          where
            either : (y : Bool) → cond y k k ≡ k
            either true = refl
            either false = refl

        pub not_stored : used ≡ true → performed w image ≡ outcome_of N B s 0 (put b c) → (r : Answer) → code_of r ≡ cond (before_full (code_of w.answer)) (code_of w.answer) 7
            → wrote r image ≡ outcome_within N B (share_in p) s (puts b c)
        unfolding wrote performed outcome_of outcome_within run store_request contents_asked
        not_stored u o r g =
            let i : image ≡ s = ap (λ (y : Outcome). y.image) o in
            let d : code_of r ≡ cond (before_full k) k 7 = g ∙ (ap (λ (y : Outcome). cond (before_full y.code) y.code 7) o ∙ early_kept) in
            let l = by_quota true u in
            rw (i, d, l) (go (before_full k) refl)
          where
            go : (y : Bool) → before_full k ≡ y
                → ◌≡◌ {A = Shared} (record { code = cond y k 7; given = []; image = s }) (record { code = cond y k 7; given = cond (eqb (cond y k 7) 0) [] []; image = run B (cond (eqb (cond y k 7) 0) (work_of N B s (put b c)).steps []) s })
            go true h = rw (early_some k h)
            go false h = refl
