-- Where a target is written, neither its name nor the one beside it leads to the source.
use Rattle.std.specs.Prelude.{ℕ, ◌≡◌, refl, Bool, true, false, cond}
use Rattle.std.proofs.Common.{arith}
use Rattle.qbx_same.specs.Same.{is_same, is_plain, beside_clash, target_clash, clash_of}
use Rattle.qbx_same.specs.declared.Identity.{Identity}
use Rattle.qbx_same.specs.declared.Found.{Found}
use Rattle.qbx_same.specs.declared.Found.TheVariants.{File, Nothing, Untold}
use Rattle.qbx_same.specs.declared.Clash.{Clash}
use Rattle.qbx_same.specs.declared.Clash.TheVariants.{Apart, IsSource, SourceBeside, InTheWay, NoTarget}

no_source : IsSource ≡ Apart → ⊥
no_source e = let y : ◌≡◌ {A = ℕ} 0 1 = cc in omega arith

no_beside : SourceBeside ≡ Apart → ⊥
no_beside e = let y : ◌≡◌ {A = ℕ} 0 1 = cc in omega arith

no_target : NoTarget ≡ Apart → ⊥
no_target e = let y : ◌≡◌ {A = ℕ} 0 1 = cc in omega arith

-- what comes of a test that must not be true
other : (t : Bool) (c d : Clash) → (c ≡ Apart → ⊥) → cond t c d ≡ Apart → (t ≡ false) × (d ≡ Apart)
other true c d n e = absurd (n e)
other false c d n e = (refl, e)

pub apart_target : (s f : Identity) (beside : Found) → clash_of s (File f) beside ≡ Apart → is_same s f ≡ false
unfolding clash_of target_clash
apart_target s f beside e = (other (is_same s f) IsSource (beside_clash s beside) no_source e).0

passes : (s : Identity) (target : Found) (c : Clash) → target_clash s target c ≡ Apart → c ≡ Apart
unfolding target_clash
passes s Nothing c e = e
passes s Untold c e = absurd (no_target e)
passes s (File f) c e = (other (is_same s f) IsSource c no_source e).1

pub apart_beside : (s f : Identity) (target : Found) → clash_of s target (File f) ≡ Apart → is_same s f ≡ false
unfolding clash_of beside_clash
apart_beside s f target e = (other (is_same s f) SourceBeside (cond (is_plain f) Apart InTheWay) no_beside (passes s target _ e)).0
