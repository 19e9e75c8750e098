-- `blank::leading_four` counts the groups of four before the first that differs. Assumes nothing.
use mathlib.Core.Path.{refl, sym, ◌∙◌}
use native.Mathlib.Omega.{arith}
use Rattle.blank.proofs.Blank.{no_part, part_turn, part_differs, parts_whole}
use Rattle.blank.proofs.leading_four.Goals as goal

pub returns-then-not-group_blank : goal.returns-then-not-group_blank
returns-then-not-group_blank c =
    let s = c.args.four.now in
    part_differs 8 s 0 (no_part 8 s) 4 (omega arith) (sym c.group_blank.ensures ∙ c.if-not-group_blank.true)

pub returns-then-not-group_blank-2 : goal.returns-then-not-group_blank-2
returns-then-not-group_blank-2 c =
    let s = c.args.four.now in
    let b₁ = part_turn 8 s 0 (no_part 8 s) (sym c.group_blank.ensures ∙ c.if-not-group_blank.false) in
    part_differs 8 s 1 b₁ 4 (omega arith) (sym c.group_blank-2.ensures ∙ c.if-not-group_blank-2.true)

pub returns-then-not-group_blank-3 : goal.returns-then-not-group_blank-3
returns-then-not-group_blank-3 c =
    let s = c.args.four.now in
    let b₁ = part_turn 8 s 0 (no_part 8 s) (sym c.group_blank.ensures ∙ c.if-not-group_blank.false) in
    let b₂ = part_turn 8 s 1 b₁ (sym c.group_blank-2.ensures ∙ c.if-not-group_blank-2.false) in
    part_differs 8 s 2 b₂ 4 (omega arith) (sym c.group_blank-3.ensures ∙ c.if-not-group_blank-3.true)

pub returns-then-not-group_blank-4 : goal.returns-then-not-group_blank-4
returns-then-not-group_blank-4 c =
    let s = c.args.four.now in
    let b₁ = part_turn 8 s 0 (no_part 8 s) (sym c.group_blank.ensures ∙ c.if-not-group_blank.false) in
    let b₂ = part_turn 8 s 1 b₁ (sym c.group_blank-2.ensures ∙ c.if-not-group_blank-2.false) in
    let b₃ = part_turn 8 s 2 b₂ (sym c.group_blank-3.ensures ∙ c.if-not-group_blank-3.false) in
    part_differs 8 s 3 b₃ 4 (omega arith) (sym c.group_blank-4.ensures ∙ c.if-not-group_blank-4.true)

pub returns : goal.returns
returns c =
    let s = c.args.four.now in
    let b₁ = part_turn 8 s 0 (no_part 8 s) (sym c.group_blank.ensures ∙ c.if-not-group_blank.false) in
    let b₂ = part_turn 8 s 1 b₁ (sym c.group_blank-2.ensures ∙ c.if-not-group_blank-2.false) in
    let b₃ = part_turn 8 s 2 b₂ (sym c.group_blank-3.ensures ∙ c.if-not-group_blank-3.false) in
    let b₄ = part_turn 8 s 3 b₃ (sym c.group_blank-4.ensures ∙ c.if-not-group_blank-4.false) in
    parts_whole 8 s 4 b₄ 4 refl
