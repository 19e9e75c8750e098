use Rattle.std.proofs.Common.{sym, arith}
use Rattle.qbx_files.proofs.Laws.{beside_none, beside_made}
use Rattle.qbx_files.proofs.beside.Goals as goal

pub returns-then-name-path-clause-name_after : goal.returns-then-name-path-clause-name_after
returns-then-name-path-clause-name_after c = sym (beside_none _ _ (omega arith))

pub returns-then-name-n-lt4-clause-name_after : goal.returns-then-name-n-lt4-clause-name_after
returns-then-name-n-lt4-clause-name_after c = sym (beside_none _ _ (omega arith))

pub returns-clause-name_after : goal.returns-clause-name_after
returns-clause-name_after c =
    beside_made c.args.path.now c.args.name.now c.copy_from_slice.new.self c.copy_from_slice-2.new.self _ _ (omega arith) c.copy_from_slice.ensures.after c.copy_from_slice-2.ensures.after
