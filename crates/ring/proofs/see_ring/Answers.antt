-- `ring::see_ring` shows a ring in bounds, and that of the view on a clean image. Assumes nothing.
use mathlib.Core.Path.{refl}
use Rattle.ring.proofs.Laws.Ring.{top_within, ring_short, ring_all, ring_limit, ring_index, ring_few, ring_seen}
use Rattle.ring.proofs.see_ring.Goals as goal

pub returns-then-geometry-lt2 : goal.returns-then-geometry-lt2
returns-then-geometry-lt2 c = ring_short _ _ _ c.if-geometry-lt2.true

pub count_used-used-requires : goal.count_used-used-requires
count_used-used-requires c = (c.requires, top_within _ _ _ _ c.find_top-top.ensures)

pub returns-then-used-geometry : goal.returns-then-used-geometry
returns-then-used-geometry c = ring_all _ _ _ _ _ _ c.find_top-top.ensures c.count_used-used.ensures refl c.if-used-geometry.true

pub number_at-n-requires : goal.number_at-n-requires
number_at-n-requires c =
    (c.requires, top_within _ _ _ _ c.find_top-top.ensures)

pub returns-then-n-geometry : goal.returns-then-n-geometry
returns-then-n-geometry c =
    ring_limit _ _ _ _ _ _ c.find_top-top.ensures c.count_used-used.ensures c.number_at-n.ensures.0 c.if-n-geometry.true

pub returns-then-n-geometry-2 : goal.returns-then-n-geometry-2
returns-then-n-geometry-2 c =
    ring_index _ _ _ _ _ _ c.find_top-top.ensures c.count_used-used.ensures c.number_at-n.ensures.0 c.if-n-geometry-2.true

pub returns-then-n-used : goal.returns-then-n-used
returns-then-n-used c =
    ring_few _ _ _ _ _ _ c.find_top-top.ensures c.count_used-used.ensures c.number_at-n.ensures.0 c.if-n-used.true

pub returns : goal.returns
returns c =
    ring_seen
    _
    _
    _
    _
    _
    _
    c.find_top-top.ensures
    c.count_used-used.ensures
    c.number_at-n.ensures.0
    c.if-geometry-lt2.false
    c.if-used-geometry.false
    c.if-n-geometry.false
    c.if-n-used.false
