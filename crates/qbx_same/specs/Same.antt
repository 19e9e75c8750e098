-- When a target can be written without a change to the source.
use Rattle.std.specs.Prelude.{Bool, cond, ◌&&◌, eqb}
use Rattle.qbx_same.specs.declared.Identity.{Identity}
use Rattle.qbx_same.specs.declared.Found.{Found}
use Rattle.qbx_same.specs.declared.Found.TheVariants.{File, Nothing, Untold}
use Rattle.qbx_same.specs.declared.Clash.{Clash}
use Rattle.qbx_same.specs.declared.Clash.TheVariants.{Apart, IsSource, SourceBeside, InTheWay, NoTarget, NoBeside}

-- one file: on one device under one number
unfoldable pub is_same : Identity → Identity → Bool
is_same a b = eqb a.device b.device && eqb a.number b.number

-- a plain file, by POSIX's number for its kind
unfoldable pub is_plain : Identity → Bool
is_plain a = eqb a.kind 32768

-- the source, and what the name beside the target's leads to
unfoldable pub beside_clash : Identity → Found → Clash
beside_clash s Nothing = Apart
beside_clash s Untold = NoBeside
beside_clash s (File f) = cond (is_same s f) SourceBeside (cond (is_plain f) Apart InTheWay)

-- and what the target's own name leads to; otherwise it is what is told of the name beside it
unfoldable pub target_clash : Identity → Found → Clash → Clash
target_clash s Nothing c = c
target_clash s Untold c = NoTarget
target_clash s (File f) c = cond (is_same s f) IsSource c

unfoldable pub clash_of : Identity → Found → Found → Clash
clash_of s target beside = target_clash s target (beside_clash s beside)
