-- `accounts::account`: what is put together twice is the text. Assumes nothing.
use Prim.Native.Nat.{ℕ}
use mathlib.Core.Path.{refl, ap, ◌∙◌}
use mathlib.Core.List.{List}
use native.Mathlib.Omega.{arith}
use Rattle.scan.proofs.Laws.Surveys.{right_size_lem}
use Rattle.text.specs.Buffer.{print_in, short_of, done_of}
use Rattle.text.proofs.Laws.{print_short, print_done, wrote_as}
use Rattle.printing.proofs.Laws.{right}
use Rattle.accounts.proofs.Laws.{wrong_account, right_account}
use Rattle.accounts.proofs.account.Goals as goal

pub returns-then-not-right_size : goal.returns-then-not-right_size
returns-then-not-right_size c =
    let a = c.args in
    let v = c.wrong_size.ensures in
    (v.0 ∙ ap (λ (t : List ℕ). print_in t a.text.now) (wrong_account a.segments a.slots a.image.now c.right_size.result c.right_size.ensures c.if-not-right_size.true), omega (arith, v.1))

pub survey-survey-requires : goal.survey-survey-requires
survey-survey-requires c = right c.args.segments c.args.slots c.args.image.now c.right_size.result c.right_size.ensures c.if-not-right_size.false

pub foretell-prognosis-requires : goal.foretell-prognosis-requires
foretell-prognosis-requires c = (right c.args.segments c.args.slots c.args.image.now c.right_size.result c.right_size.ensures c.if-not-right_size.false, c.survey-survey.ensures)

pub list-table-requires : goal.list-table-requires
list-table-requires c = (right c.args.segments c.args.slots c.args.image.now c.right_size.result c.right_size.ensures c.if-not-right_size.false, c.survey-survey.ensures, refl, refl, refl)

pub compose-length-requires : goal.compose-length-requires
compose-length-requires c = ((right_size_lem _ _ _ (right c.args.segments c.args.slots c.args.image.now c.right_size.result c.right_size.ensures c.if-not-right_size.false)).0, c.list-table.ensures.0, c.list-table.ensures.1, c.foretell-prognosis.ensures.0)

pub returns-then-length-text : goal.returns-then-length-text
unfolding short_of
returns-then-length-text c =
    let a = c.args in
    let e = right_account a.segments a.slots a.image.now (right c.args.segments c.args.slots c.args.image.now c.right_size.result c.right_size.ensures c.if-not-right_size.false) in
    let w = wrote_as _ e c.compose-length.ensures.0 in
    (print_short _ _ _ (omega (arith, w.ends, c.if-length-text.true)) c.short.ensures, rw c.short.ensures (omega arith))

pub compose-requires : goal.compose-requires
compose-requires c = ((right_size_lem _ _ _ (right c.args.segments c.args.slots c.args.image.now c.right_size.result c.right_size.ensures c.if-not-right_size.false)).0, c.list-table.ensures.0, c.list-table.ensures.1, c.foretell-prognosis.ensures.0)

pub returns : goal.returns
unfolding done_of
returns c =
    let a = c.args in
    let e = right_account a.segments a.slots a.image.now (right c.args.segments c.args.slots c.args.image.now c.right_size.result c.right_size.ensures c.if-not-right_size.false) in
    let w = wrote_as _ e c.compose-length.ensures.0 in
    let v = wrote_as _ e c.compose.ensures.0 in
    (print_done _ _ _ _ _ (omega (arith, w.ends, c.if-length-text.false)) v c.done.ensures, rw c.done.ensures (omega (arith, c.compose.ensures.1)))
