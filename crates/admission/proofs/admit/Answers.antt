-- `admission::admit` refuses in the order of the definition, or gives the tenant's share. Assumes nothing.
use mathlib.Core.Path.{sym, ◌∙◌}
use native.Mathlib.Omega.{arith}
use Rattle.model.proofs.Laws.Chip.{size_facts}
use Rattle.request.proofs.Laws.{wrong_size, right_size_lem}
use Rattle.share_list.proofs.Laws.{within_ranges, owner_tenant}
use Rattle.admission.proofs.Laws.{size_refused, shares_refused, number_refused, foreign_refused, allowed}
use Rattle.admission.proofs.admit.Goals as goal

pub share_of-requires : goal.share_of-requires
share_of-requires c =
    let a = c.args in (
      within_ranges _ a.shares.now (sym c.shares_ok.ensures ∙ c.if-not-shares_ok.false),
      owner_tenant a.shares.now a.tenant a.block.0 (sym c.owns.ensures ∙ c.if-not-owns.false),
    )

pub returns-then-not-right_size : goal.returns-then-not-right_size
returns-then-not-right_size c =
    let a = c.args in
    size_refused a.segments a.slots a.shares.now a.image.now a.tenant a.block.0 (wrong_size a.segments a.slots a.image.now _ c.right_size.ensures c.if-not-right_size.true)

pub capacity-requires : goal.capacity-requires
capacity-requires c =
    let a = c.args in
    let z = size_facts a.segments a.slots a.image.now (right_size_lem a.segments a.slots a.image.now _ c.right_size.ensures c.if-not-right_size.false) in
    (z.two, z.most, z.slots, omega (arith, z.most_b))

pub returns-then-not-shares_ok : goal.returns-then-not-shares_ok
returns-then-not-shares_ok c =
    let a = c.args in
    let z = right_size_lem a.segments a.slots a.image.now _ c.right_size.ensures c.if-not-right_size.false in
    shares_refused a.segments a.slots a.shares.now a.image.now a.tenant a.block.0 z _ c.capacity.ensures.0 (sym c.shares_ok.ensures ∙ c.if-not-shares_ok.true)

pub returns-then-not-number_ok : goal.returns-then-not-number_ok
returns-then-not-number_ok c =
    let a = c.args in
    let z = right_size_lem a.segments a.slots a.image.now _ c.right_size.ensures c.if-not-right_size.false in
    let o = sym c.shares_ok.ensures ∙ c.if-not-shares_ok.false in
    number_refused a.segments a.slots a.shares.now a.image.now a.tenant a.block.0 z _ c.capacity.ensures.0 o (sym c.number_ok.ensures ∙ c.if-not-number_ok.true)

pub returns-then-not-owns : goal.returns-then-not-owns
returns-then-not-owns c =
    let a = c.args in
    let z = right_size_lem a.segments a.slots a.image.now _ c.right_size.ensures c.if-not-right_size.false in
    let o = sym c.shares_ok.ensures ∙ c.if-not-shares_ok.false in
    let n = sym c.number_ok.ensures ∙ c.if-not-number_ok.false in
    foreign_refused a.segments a.slots a.shares.now a.image.now a.tenant a.block.0 z _ c.capacity.ensures.0 o n (sym c.owns.ensures ∙ c.if-not-owns.true)

pub returns : goal.returns
returns c =
    let a = c.args in
    let z = right_size_lem a.segments a.slots a.image.now _ c.right_size.ensures c.if-not-right_size.false in
    let o = sym c.shares_ok.ensures ∙ c.if-not-shares_ok.false in
    let n = sym c.number_ok.ensures ∙ c.if-not-number_ok.false in
    let own = sym c.owns.ensures ∙ c.if-not-owns.false in
    allowed a.segments a.slots a.shares.now a.image.now a.tenant a.block.0 z _ c.capacity.ensures.0 o n own _ c.share_of.ensures
