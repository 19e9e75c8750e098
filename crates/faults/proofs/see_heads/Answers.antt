-- `faults::see_heads`. Assumes nothing.
use Rattle.model.specs.State.{segments_of}
use Rattle.faults.proofs.Laws.Heads.{heads_told_lem, first_small}
use Rattle.faults.proofs.see_heads.Goals as goal

pub numbers_follow-follow-requires : goal.numbers_follow-follow-requires
numbers_follow-follow-requires c = let t = c.test_heads-tests in (c.requires, first_small t.result _ c.saturating_sub-first.ensures t.ensures.2, t.ensures.1)

pub head_place-place-requires : goal.head_place-place-requires
head_place-place-requires c = c.requires.some

pub returns : goal.returns
returns c =
    let a = c.args in
    let t = c.test_heads-tests in
    let f = c.saturating_sub-first in (
      heads_told_lem a.segments (segments_of a.segments a.slots a.image.now) t.result t.ensures.0 f.result _ _ f.ensures c.numbers_follow-follow.ensures c.head_place-place.ensures,
      first_small t.result _ f.ensures t.ensures.2,
      t.ensures.1,
    )
