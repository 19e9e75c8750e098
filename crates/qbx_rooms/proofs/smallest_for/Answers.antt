-- `qbx_rooms::smallest_for`: the buffers are tried in turn. Assumes nothing.
use mathlib.Core.Path.{◌≡◌}
use mathlib.Core.Bool.{true, false}
use native.Mathlib.Omega.{arith}
use lib.Dec.{leb}
use borrow.Author.Tests.{le-leb, lt-leb}
use Rattle.qbx_rooms.specs.Rooms.{room_of, smallest_for}
use Rattle.qbx_rooms.specs.declared.Buffer.TheVariants.{Small, Middle}
use Rattle.qbx_rooms.proofs.smallest_for.Goals as goal

pub returns-then-size-room_of : goal.returns-then-size-room_of
unfolding smallest_for
returns-then-size-room_of c =
    let e : leb c.args.size (room_of Small) ≡ true = le-leb _ _ (omega (arith, c.room_of.ensures, c.if-size-room_of.true)) in
    rw e

pub returns-then-size-room_of-2 : goal.returns-then-size-room_of-2
unfolding smallest_for
returns-then-size-room_of-2 c =
    let e : leb c.args.size (room_of Small) ≡ false = lt-leb _ _ (omega (arith, c.room_of.ensures, c.if-size-room_of.false)) in
    let f : leb c.args.size (room_of Middle) ≡ true = le-leb _ _ (omega (arith, c.room_of-2.ensures, c.if-size-room_of-2.true)) in
    rw (e, f)

pub returns : goal.returns
unfolding smallest_for
returns c =
    let e : leb c.args.size (room_of Small) ≡ false = lt-leb _ _ (omega (arith, c.room_of.ensures, c.if-size-room_of.false)) in
    let f : leb c.args.size (room_of Middle) ≡ false = lt-leb _ _ (omega (arith, c.room_of-2.ensures, c.if-size-room_of-2.false)) in
    rw (e, f)
