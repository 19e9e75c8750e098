-- `store::format` is the request of the definition. Assumes nothing.
use native.Mathlib.Omega.{arith}
use Rattle.model.specs.Answers.{format}
use Rattle.flash.proofs.Pages.{sized}
use Rattle.request.proofs.Laws.{wrong_size, right_size_lem}
use Rattle.flash.proofs.Laws.{ran_length, ran_left}
use Rattle.store.proofs.Laws.Requests.{size_refused, format_done}
use Rattle.store.proofs.format.Goals as goal

pub returns-then-not-right_size : goal.returns-then-not-right_size
returns-then-not-right_size c =
    let a = c.args in
    size_refused a.segments a.slots a.image.now a.budget format (wrong_size a.segments a.slots a.image.now _ c.right_size.ensures c.if-not-right_size.true) c.refused.ensures

pub erase_all-erased-requires : goal.erase_all-erased-requires
erase_all-erased-requires c =
    let a = c.args in
    sized a.segments a.slots a.image.now (right_size_lem a.segments a.slots a.image.now _ c.right_size.ensures c.if-not-right_size.false)

pub open_header-left-requires : goal.open_header-left-requires
open_header-left-requires c =
    let a = c.args in
    let z = sized a.segments a.slots a.image.now (right_size_lem a.segments a.slots a.image.now _ c.right_size.ensures c.if-not-right_size.false) in
    rw (ran_length c.erase_all-erased.ensures) z

pub finished-requires : goal.finished-requires
finished-requires c = omega (arith, ran_left c.erase_all-erased.ensures, ran_left (c.open_header-left.ensures c.args.slots))

pub returns : goal.returns
returns c =
    let a = c.args in
    format_done a.segments a.slots a.image.now a.budget (right_size_lem a.segments a.slots a.image.now _ c.right_size.ensures c.if-not-right_size.false)
    c.erase_all-erased.ensures c.open_header-left.ensures c.finished.ensures
