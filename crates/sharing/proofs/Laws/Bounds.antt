-- A request that what binds all refuses, and one that it does not.
use Prim.Native.Nat.{ℕ}
use mathlib.Core.Path.{◌≡◌, ◌∙◌}
use mathlib.Core.List.{List, []}
use Rattle.model.specs.Chip.{Image, run}
use Rattle.model.specs.Answers.{code_of}
use Rattle.model.specs.declared.Answer.{Answer}
use Rattle.shares.specs.Layer.{Asked, block_asked, share_code, share_work, share_outcome}
use Rattle.share_list.specs.Places.{share_in}
use Rattle.share_list.specs.declared.Part.{Part}
use Rattle.admission.specs.Admission.{Allowed, Kept}
use Rattle.isolation.specs.Codes.{share_code_lem}
use Rattle.sharing.specs.Within.{code_within, outcome_within}

module _ (N B : ℕ) (ns : List ℕ) (s : Image) (a : ℕ) (r : Asked) where
  -- the store is not asked
  pub refused_outcome : (x : Answer) → Kept N B ns s a (block_asked r) x → share_outcome N B ns s a r ≡ record { code = code_of x; given = []; image = s }
  unfolding share_outcome share_work run
  refused_outcome x k =
      let e = k.code in
      let n = k.some in
      let c : share_code N B ns s a r ≡ code_of x = share_code_lem N B ns s a r ∙ rw (e, n) in
      rw (c, n)

  -- its own rows decide
  pub allowed_outcome : (p : Part) → Allowed N B ns s a (block_asked r) p → share_outcome N B ns s a r ≡ outcome_within N B (share_in p) s r
  unfolding share_outcome share_work outcome_within
  allowed_outcome p k =
      let e = k.code in
      let x = k.share in
      let c : share_code N B ns s a r ≡ code_within N B (share_in p) s r = share_code_lem N B ns s a r ∙ (unfold code_within in rw (e, x)) in
      rw c
