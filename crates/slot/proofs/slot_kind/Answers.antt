-- `slot::slot_kind` is the kind of the definition. Assumes nothing.
use Prim.Native.Nat.{◌+◌, ◌*◌}
use mathlib.Core.Path.{◌≡◌, sym, ◌∙◌}
use native.Mathlib.Omega.{arith}
use lib.ListN.{get_or}
use Rattle.slot.proofs.Laws.Kinds.{kind_live, kind_unfit, kind_torn, kind_dead, kind_cut, kind_blank, kind_other}
use Rattle.slot.proofs.slot_kind.Goals as goal

pub returns-then-slot_fits : goal.returns-then-slot_fits
returns-then-slot_fits c =
    let p = c.args.page.now in
    let l : c.from.result ≡ get_or p 1 0 = omega arith in
    let b : c.from_le_bytes.result ≡ get_or p 2 0 + 256 * get_or p 3 0 = omega (arith, c.from_le_bytes.ensures) in
    sym (kind_live _ _ _ c.if-status-eq-WRITTEN.true (sym c.slot_fits.ensures ∙ c.if-slot_fits.true) l b c.requires)

pub returns-then-status-eq-WRITTEN : goal.returns-then-status-eq-WRITTEN
returns-then-status-eq-WRITTEN c = sym (kind_unfit _ c.if-status-eq-WRITTEN.true (sym c.slot_fits.ensures ∙ c.if-slot_fits.false))

pub returns-then-status-eq-WRITE_BEGUN : goal.returns-then-status-eq-WRITE_BEGUN
returns-then-status-eq-WRITE_BEGUN c = sym (kind_torn _ c.if-status-eq-WRITE_BEGUN.true)

pub returns-then-status-eq-DEAD : goal.returns-then-status-eq-DEAD
returns-then-status-eq-DEAD c = sym (kind_dead _ c.if-status-eq-DEAD.true)

pub returns-then-status-eq-CUT : goal.returns-then-status-eq-CUT
returns-then-status-eq-CUT c = sym (kind_cut _ c.if-status-eq-CUT.true)

pub returns-then-whole : goal.returns-then-whole
returns-then-whole c = sym (kind_blank _ (record { written = c.if-status-eq-WRITTEN.false; begun = c.if-status-eq-WRITE_BEGUN.false; dead = c.if-status-eq-DEAD.false; cut = c.if-status-eq-CUT.false }) (sym c.blank_test-whole.ensures.0 ∙ c.if-whole.true))

pub returns-else-whole : goal.returns-else-whole
returns-else-whole c = sym (kind_other _ (record { written = c.if-status-eq-WRITTEN.false; begun = c.if-status-eq-WRITE_BEGUN.false; dead = c.if-status-eq-DEAD.false; cut = c.if-status-eq-CUT.false }) (sym c.blank_test-whole.ensures.0 ∙ c.if-whole.false))
