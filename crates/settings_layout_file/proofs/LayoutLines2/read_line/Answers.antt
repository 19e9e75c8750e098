-- `settings_layout_file::read_line`: a word and not three, each a number. Assumes nothing.
use mathlib.Core.List.{[]}
use Prim.Native.Nat.{ℕ, ◌≤◌}
use mathlib.Core.Path.{◌≡◌, refl, sym, ap, ◌∙◌}
use native.Mathlib.Omega.{arith}
use lib.ListN.{length, get_or}
use Rattle.std.proofs.Common.{rules}
use Rattle.std.specs.Prelude.{Some, None, Err}
use Rattle.qbx_share_file.specs.AnyFile.{LineSaid, odd}
use Rattle.qbx_share_file.specs.ShareFile.{words_of}
use Rattle.settings_numbers.specs.Byte.{byte_of}
use Rattle.settings_layout_file.specs.LayoutFile.{pair_of, layout_line}
use Rattle.settings_layout_file.proofs.Laws.{blank_line, long_line, two_words}
use Rattle.settings_layout_file.proofs.LayoutLines2.read_line.Goals as goal

pub returns-then-is_empty : goal.returns-then-is_empty
unfolding layout_line
returns-then-is_empty c = blank_line _ (grind (arith, c.word.ensures, c.is_empty.ensures, c.if-is_empty.true))

-- behind what two words say, so that an edit is refused for that
pub returns-then-not-is_empty : goal.returns-then-not-is_empty
unfolding layout_line
returns-then-not-is_empty c = long_line _ (grind (arith, c.word-2.ensures, c.is_empty-2.ensures, c.if-not-is_empty.true))

pub returns-in_err-identifier : goal.returns-in_err-identifier
unfolding pair_of layout_line
returns-in_err-identifier c =
    let l = c.args.line.now in
    let some : length (get_or (words_of l) 0 []) ≡ 0 → ⊥ = grind (arith, c.word.ensures, c.is_empty.ensures, c.if-is_empty.false) in
    let few : length (get_or (words_of l) 2 []) ≤ 0 = grind (arith, c.word-2.ensures, c.is_empty-2.ensures, c.if-not-is_empty.false) in
    let none : c.byte.result ≡ None = search rules in
    let e : ◌≡◌ {A = LineSaid ℕ} c.from_residual.result (Err odd) = search rules in
    e ∙ two_words l None _ some few (ap byte_of (sym c.word-3.ensures) ∙ sym c.byte.ensures ∙ none) refl

pub returns-in_err-length : goal.returns-in_err-length
unfolding pair_of layout_line
returns-in_err-length c =
    let l = c.args.line.now in
    let some : length (get_or (words_of l) 0 []) ≡ 0 → ⊥ = grind (arith, c.word.ensures, c.is_empty.ensures, c.if-is_empty.false) in
    let few : length (get_or (words_of l) 2 []) ≤ 0 = grind (arith, c.word-2.ensures, c.is_empty-2.ensures, c.if-not-is_empty.false) in
    let identifier : c.byte.result ≡ Some c.in_ok-identifier.identifier = search rules in
    let none : c.byte-2.result ≡ None = search rules in
    let e : ◌≡◌ {A = LineSaid ℕ} c.from_residual-in_err-length.result (Err odd) = search rules in
    e ∙ two_words l _ None some few (ap byte_of (sym c.word-3.ensures) ∙ sym c.byte.ensures ∙ identifier) (ap byte_of (sym c.word-4.ensures) ∙ sym c.byte-2.ensures ∙ none)

pub returns : goal.returns
unfolding pair_of layout_line
returns c =
    let l = c.args.line.now in
    let some : length (get_or (words_of l) 0 []) ≡ 0 → ⊥ = grind (arith, c.word.ensures, c.is_empty.ensures, c.if-is_empty.false) in
    let few : length (get_or (words_of l) 2 []) ≤ 0 = grind (arith, c.word-2.ensures, c.is_empty-2.ensures, c.if-not-is_empty.false) in
    let identifier : c.byte.result ≡ Some c.in_ok-identifier.identifier = search rules in
    let size : c.byte-2.result ≡ Some c.in_ok-length.length = search rules in
    two_words l _ _ some few (ap byte_of (sym c.word-3.ensures) ∙ sym c.byte.ensures ∙ identifier) (ap byte_of (sym c.word-4.ensures) ∙ sym c.byte-2.ensures ∙ size)
