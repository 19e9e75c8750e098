-- `listing::list`: tables that hold none yet list what is put into them. Assumes nothing.
use Prim.Native.Nat.{ℕ}
use mathlib.Core.Path.{sym, ap, ◌∙◌, subst}
use mathlib.Core.List.{List}
use lib.ListN.{length, length-replicate}
use Rattle.scan.proofs.Laws.Surveys.{right_size_lem}
use Rattle.index.specs.declared.Tables.{Tables}
use Rattle.index.specs.Tables.{Indexed}
use Rattle.index.proofs.Chains.{Whole, Bare, zeros_bare}
use Rattle.index.proofs.Walks.{indexed}
use Rattle.listing.proofs.list.Goals as goal

pub list_segments-requires : goal.list_segments-requires
list_segments-requires c = ((right_size_lem _ _ _ c.requires.0).0, c.see-table.ensures)

pub returns : goal.returns
returns c =
    let a = c.args in
    let z = (right_size_lem _ _ _ c.requires.0).0 in
    let t = a.tables.now in
    let w : Whole t = (ap length c.requires.2 ∙ length-replicate {A = ℕ} 65536 0, ap length c.requires.3 ∙ length-replicate {A = ℕ} 65536 0, ap length c.requires.4 ∙ length-replicate {A = ℕ} 65536 0) in
    let b : Bare t = λ k. ap (λ (l : List ℕ). lib.ListN.get_or l k 0) c.requires.2 ∙ zeros_bare 65536 t.nexts t.lengths k in
    (c.list_segments.ensures.0, subst (λ (u : Tables). Indexed a.geometry.segments a.geometry.slots a.image.now u) (sym c.list_segments.ensures.1) (indexed a.geometry.segments a.geometry.slots a.image.now z.some z.segments z.slots t w b))
