-- `share_list::shares_ok` is the test of the definition, one part after the other. Assumes nothing.
use mathlib.Core.Path.{sym, ◌∙◌}
use native.Mathlib.Omega.{arith}
use Rattle.shares.specs.Shares.{shares_of, quota_sum}
use Rattle.share_list.proofs.Laws.{goes_on, stops, within_odd, within_many, within_few, sum_tested}
use Rattle.share_list.proofs.shares_ok.Goals as goal

pub returns-then-shares-ne0 : goal.returns-then-shares-ne0
returns-then-shares-ne0 c = within_odd _ _ c.if-shares-ne0.true

pub returns-then-shares-gt-MOST_NUMBERS : goal.returns-then-shares-gt-MOST_NUMBERS
returns-then-shares-gt-MOST_NUMBERS c = within_many _ _ (omega (arith, c.if-shares-ne0.false)) (omega (arith, c.if-shares-gt-MOST_NUMBERS.true))

pub returns-then-not-ranges_ok : goal.returns-then-not-ranges_ok
returns-then-not-ranges_ok c =
    let a = c.args in
    stops _ _ (within_few a.most a.shares.now (omega (arith, c.if-shares-ne0.false)) (omega (arith, c.if-shares-gt-MOST_NUMBERS.false))) (sym c.ranges_ok.ensures ∙ c.if-not-ranges_ok.true)

pub returns-then-not-all_apart : goal.returns-then-not-all_apart
returns-then-not-all_apart c =
    let a = c.args in
    let few = goes_on _ _ (within_few a.most a.shares.now (omega (arith, c.if-shares-ne0.false)) (omega (arith, c.if-shares-gt-MOST_NUMBERS.false))) (sym c.ranges_ok.ensures ∙ c.if-not-ranges_ok.false) in
    stops _ _ few (sym c.all_apart.ensures ∙ c.if-not-all_apart.true)

pub returns : goal.returns
returns c =
    let a = c.args in
    let few = goes_on _ _ (within_few a.most a.shares.now (omega (arith, c.if-shares-ne0.false)) (omega (arith, c.if-shares-gt-MOST_NUMBERS.false))) (sym c.ranges_ok.ensures ∙ c.if-not-ranges_ok.false) in
    sum_tested _ (quota_sum (shares_of a.shares.now)) a.most (omega (arith, c.quota_sum.ensures)) (goes_on _ _ few (sym c.all_apart.ensures ∙ c.if-not-all_apart.false))
