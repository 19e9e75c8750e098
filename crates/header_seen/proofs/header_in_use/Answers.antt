-- `header_seen::header_in_use` is the test of the definition. Assumes nothing.
use mathlib.Core.Path.{sym, ◌∙◌}
use mathlib.Core.Bool.{true, false}
use native.Mathlib.Omega.{arith}
use native.Mathlib.Nat.{mod-lt}
use Rattle.header_seen.proofs.Laws.{unused_status, unused_number, unused_index, used_page}
use Rattle.header_seen.proofs.header_in_use.Goals as goal

pub returns-then-not-status_in_use : goal.returns-then-not-status_in_use
returns-then-not-status_in_use c = sym (unused_status _ _ _ _ (sym c.status_in_use.ensures ∙ c.if-not-status_in_use.true))

pub returns-then-n-geometry : goal.returns-then-n-geometry
returns-then-n-geometry c = sym (unused_number _ _ _ _ _ c.header_number-number.ensures (omega (arith, c.if-n-geometry.true)))

pub returns-then-n-geometry-2 : goal.returns-then-n-geometry-2
returns-then-n-geometry-2 c = sym (unused_index _ _ _ _ _ c.header_number-number.ensures c.if-n-geometry-2.true)

pub old_index-requires : goal.old_index-requires
old_index-requires c =
    let a = c.args in
    (omega (arith, mod-lt c.header_number-number.result.0 {m = a.geometry.segments} (omega arith)), omega arith)

-- what is taken stands before what is not: an edit is refused for that
pub returns : goal.returns
returns c =
    let used = sym c.status_in_use.ensures ∙ c.if-not-status_in_use.false in
    c.tally_fits.ensures
    ∙ sym (used_page _ _ _ _ _ _ _ _ true (λ i. omega (arith, c.type_inv.page i)) used c.header_number-number.ensures (omega arith) c.if-n-geometry-2.false c.is_former.ensures
    c.old_index.ensures c.header_fields-fitting.ensures c.requires.0 (sym c.if-not-same_bytes.false ∙ c.same_bytes.ensures))

pub returns-then-not-same_bytes : goal.returns-then-not-same_bytes
returns-then-not-same_bytes c =
    let used = sym c.status_in_use.ensures ∙ c.if-not-status_in_use.false in
    sym (used_page _ _ _ _ _ _ _ _ false (λ i. omega (arith, c.type_inv.page i)) used c.header_number-number.ensures (omega arith) c.if-n-geometry-2.false c.is_former.ensures
    c.old_index.ensures c.header_fields-fitting.ensures c.requires.0 (sym c.if-not-same_bytes.true ∙ c.same_bytes.ensures))
