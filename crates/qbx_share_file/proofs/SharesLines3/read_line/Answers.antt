-- `qbx_share_file::read_line`: a word and not four, each a number. Assumes nothing.
use mathlib.Core.List.{[]}
use Prim.Native.Nat.{ℕ, ◌≤◌}
use mathlib.Core.Path.{◌≡◌, refl, sym, ap, ◌∙◌}
use native.Mathlib.Omega.{arith}
use lib.ListN.{length, get_or}
use Rattle.std.proofs.Common.{rules}
use Rattle.std.specs.Prelude.{Some, None, Err}
use Rattle.qbx_numbers.specs.Number.{number32_of}
use Rattle.qbx_share_file.specs.AnyFile.{LineSaid, odd}
use Rattle.qbx_share_file.specs.ShareFile.{words_of, share_of, share_line}
use Rattle.qbx_share_file.proofs.Laws.Words.{blank_line, long_line, three_words}
use Rattle.qbx_share_file.proofs.SharesLines3.read_line.Goals as goal

pub returns-then-is_empty : goal.returns-then-is_empty
unfolding share_line
returns-then-is_empty c = blank_line _ (grind (arith, c.word.ensures, c.is_empty.ensures, c.if-is_empty.true))

-- behind what three words say, so that an edit is refused for that
pub returns-then-not-is_empty : goal.returns-then-not-is_empty
unfolding share_line
returns-then-not-is_empty c = long_line _ (grind (arith, c.word-2.ensures, c.is_empty-2.ensures, c.if-not-is_empty.true))

pub returns-in_err-first : goal.returns-in_err-first
unfolding share_of share_line
returns-in_err-first c =
    let l = c.args.line.now in
    let some : length (get_or (words_of l) 0 []) ≡ 0 → ⊥ = grind (arith, c.word.ensures, c.is_empty.ensures, c.if-is_empty.false) in
    let few : length (get_or (words_of l) 3 []) ≤ 0 = grind (arith, c.word-2.ensures, c.is_empty-2.ensures, c.if-not-is_empty.false) in
    let none : c.number32.result ≡ None = search rules in
    let e : ◌≡◌ {A = LineSaid ℕ} c.from_residual.result (Err odd) = search rules in
    e ∙ three_words l None _ _ some few (ap number32_of (sym c.word-3.ensures) ∙ sym c.number32.ensures ∙ none) refl refl

pub returns-in_err-last : goal.returns-in_err-last
unfolding share_of share_line
returns-in_err-last c =
    let l = c.args.line.now in
    let some : length (get_or (words_of l) 0 []) ≡ 0 → ⊥ = grind (arith, c.word.ensures, c.is_empty.ensures, c.if-is_empty.false) in
    let few : length (get_or (words_of l) 3 []) ≤ 0 = grind (arith, c.word-2.ensures, c.is_empty-2.ensures, c.if-not-is_empty.false) in
    let first : c.number32.result ≡ Some c.in_ok-first.first = search rules in
    let none : c.number32-2.result ≡ None = search rules in
    let e : ◌≡◌ {A = LineSaid ℕ} c.from_residual-in_err-last.result (Err odd) = search rules in
    e ∙ three_words l _ None _ some few (ap number32_of (sym c.word-3.ensures) ∙ sym c.number32.ensures ∙ first) (ap number32_of (sym c.word-4.ensures) ∙ sym c.number32-2.ensures ∙ none) refl

pub returns-in_err-quota : goal.returns-in_err-quota
unfolding share_of share_line
returns-in_err-quota c =
    let l = c.args.line.now in
    let some : length (get_or (words_of l) 0 []) ≡ 0 → ⊥ = grind (arith, c.word.ensures, c.is_empty.ensures, c.if-is_empty.false) in
    let few : length (get_or (words_of l) 3 []) ≤ 0 = grind (arith, c.word-2.ensures, c.is_empty-2.ensures, c.if-not-is_empty.false) in
    let first : c.number32.result ≡ Some c.in_ok-first.first = search rules in
    let last : c.number32-2.result ≡ Some c.in_ok-last.last = search rules in
    let none : c.number32-3.result ≡ None = search rules in
    let e : ◌≡◌ {A = LineSaid ℕ} c.from_residual-in_err-quota.result (Err odd) = search rules in
    e ∙ three_words l _ _ None some few (ap number32_of (sym c.word-3.ensures) ∙ sym c.number32.ensures ∙ first) (ap number32_of (sym c.word-4.ensures) ∙ sym c.number32-2.ensures ∙ last) (ap number32_of (sym c.word-5.ensures) ∙ sym c.number32-3.ensures ∙ none)

pub returns : goal.returns
unfolding share_of share_line
returns c =
    let l = c.args.line.now in
    let some : length (get_or (words_of l) 0 []) ≡ 0 → ⊥ = grind (arith, c.word.ensures, c.is_empty.ensures, c.if-is_empty.false) in
    let few : length (get_or (words_of l) 3 []) ≤ 0 = grind (arith, c.word-2.ensures, c.is_empty-2.ensures, c.if-not-is_empty.false) in
    let first : c.number32.result ≡ Some c.in_ok-first.first = search rules in
    let last : c.number32-2.result ≡ Some c.in_ok-last.last = search rules in
    let quota : c.number32-3.result ≡ Some c.in_ok-quota.quota = search rules in
    three_words l _ _ _ some few (ap number32_of (sym c.word-3.ensures) ∙ sym c.number32.ensures ∙ first) (ap number32_of (sym c.word-4.ensures) ∙ sym c.number32-2.ensures ∙ last) (ap number32_of (sym c.word-5.ensures) ∙ sym c.number32-3.ensures ∙ quota)
