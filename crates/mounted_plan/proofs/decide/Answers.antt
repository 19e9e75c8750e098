-- `mounted_plan::decide` decides a put as the definitions do on a clean image, and within bounds on any. Assumes nothing.
use native.Mathlib.Omega.{arith}
use Rattle.model.proofs.Laws.Chip.{size_facts}
use Rattle.flash.proofs.Pages.{sized}
use Rattle.mounted_plan.proofs.Laws.Decided.{ringed, number_fits, plan_fits, decided_damaged, decided_former, decided_full, decided_there, decided_header}
use Rattle.mounted_plan.proofs.decide.Goals as goal

pub see_ring-ring-requires : goal.see_ring-ring-requires
see_ring-ring-requires c = sized c.args.geometry.segments c.args.geometry.slots c.args.image.now c.requires

pub is_former_in-requires : goal.is_former_in-requires
is_former_in-requires c =
    sized c.args.geometry.segments c.args.geometry.slots c.args.image.now c.requires

pub first_free-slot-requires : goal.first_free-slot-requires
first_free-slot-requires c =
    sized c.args.geometry.segments c.args.geometry.slots c.args.image.now c.requires

pub returns-in_default : goal.returns-in_default
returns-in_default c =
    let a = c.args in
    decided_damaged a.geometry.segments a.geometry.slots a.image.now c.requires _ c.see_ring-ring.ensures a.absent c.in_default.is

pub top_number-top-requires : goal.top_number-top-requires
top_number-top-requires c =
    let a = c.args in
    let k = ringed a.geometry.segments a.geometry.slots a.image.now c.requires _ c.see_ring-ring.ensures _ c.in-Some.is in
    (k.some, omega (arith, k.spare, (size_facts a.geometry.segments a.geometry.slots a.image.now c.requires).most), omega (arith, number_fits a.geometry.segments a.geometry.slots a.image.now c.requires _ _ k))

pub returns-then-is_former_in : goal.returns-then-is_former_in
returns-then-is_former_in c =
    let a = c.args in
    let k = ringed a.geometry.segments a.geometry.slots a.image.now c.requires _ c.see_ring-ring.ensures _ c.in-Some.is in
    decided_former a.geometry.segments a.geometry.slots a.image.now c.requires _ _ k _ c.top_number-top.ensures a.absent _ c.is_former_in.ensures c.if-is_former_in.true

pub is_full-requires : goal.is_full-requires
is_full-requires c =
    let a = c.args in
    let k = ringed a.geometry.segments a.geometry.slots a.image.now c.requires _ c.see_ring-ring.ensures _ c.in-Some.is in
    (plan_fits a.geometry.segments a.geometry.slots a.image.now c.requires _ _ k _, c.first_free-slot.ensures.within)

pub returns-then-is_full : goal.returns-then-is_full
returns-then-is_full c =
    let a = c.args in
    let k = ringed a.geometry.segments a.geometry.slots a.image.now c.requires _ c.see_ring-ring.ensures _ c.in-Some.is in
    decided_full a.geometry.segments a.geometry.slots a.image.now c.requires _ _ k _ c.top_number-top.ensures _ c.first_free-slot.ensures _ c.is_former_in.ensures c.if-is_former_in.false
    a.absent _ c.is_full.ensures c.if-is_full.true

pub returns-then-slot-geometry : goal.returns-then-slot-geometry
returns-then-slot-geometry c =
    let a = c.args in
    let k = ringed a.geometry.segments a.geometry.slots a.image.now c.requires _ c.see_ring-ring.ensures _ c.in-Some.is in
    decided_there a.geometry.segments a.geometry.slots a.image.now c.requires _ _ k _ c.top_number-top.ensures _ c.first_free-slot.ensures _ c.is_former_in.ensures c.if-is_former_in.false
    a.absent _ c.is_full.ensures c.if-is_full.false c.if-slot-geometry.true

pub decide_header-requires : goal.decide_header-requires
decide_header-requires c =
    let a = c.args in
    let k = ringed a.geometry.segments a.geometry.slots a.image.now c.requires _ c.see_ring-ring.ensures _ c.in-Some.is in
    (c.requires, plan_fits a.geometry.segments a.geometry.slots a.image.now c.requires _ _ k _)

pub returns : goal.returns
returns c =
    let a = c.args in
    let k = ringed a.geometry.segments a.geometry.slots a.image.now c.requires _ c.see_ring-ring.ensures _ c.in-Some.is in
    decided_header a.geometry.segments a.geometry.slots a.image.now c.requires _ _ k _ c.top_number-top.ensures _ c.first_free-slot.ensures _ c.is_former_in.ensures c.if-is_former_in.false
    a.absent _ c.is_full.ensures c.if-is_full.false _ c.decide_header.ensures
