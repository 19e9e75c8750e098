-- What comes back from the layer, as the command has it.
use Prim.Native.Nat.{ℕ}
use mathlib.Core.Path.{◌≡◌, refl, sym, ap, ◌∙◌}
use mathlib.Core.Bool.{Bool, true, false, cond}
use mathlib.Core.List.{List, []}
use lib.Dec.{eqb}
use lib.ListN.{length}
use Rattle.model.specs.Chip.{Image, Step, run}
use Rattle.model.specs.declared.Answer.{Answer}
use Rattle.crash.proofs.Requests.{read_idle}
use Rattle.text.specs.Buffer.{Print, printed}
use Rattle.text.specs.declared.Printed.{Printed}
use Rattle.shares.specs.Layer.{Shared, reads, store_request, share_code, share_work, share_outcome, wrote, gave_in}
use Rattle.qbx_share_request.specs.ShareRequest.{Carried, carried}

-- an answer beside which no contents are given
pub written : (a : Answer) (s : Image) (lent : List ℕ) (o : Shared) → wrote a s ≡ o → carried (record { answer = a; length = 0 }) lent s ≡ record { print = gave_in o lent; image = o.image }
unfolding carried printed wrote gave_in
written a s lent o e = ap {A = Shared} {B = Carried} (λ x. record { print = gave_in x lent; image = x.image }) e

no_steps : (t : Bool) → ◌≡◌ {A = List Step} (cond t [] []) []
no_steps true = refl
no_steps false = refl

-- a read leaves the image as it is
kept : (N B : ℕ) (ns : List ℕ) (s : Image) (a b : ℕ) (lent : List ℕ) → (share_outcome N B ns s a (reads b (length lent))).image ≡ s
unfolding share_outcome share_work store_request run
kept N B ns s a b lent = rw (read_idle N B s b, no_steps (eqb (share_code N B ns s a (reads b (length lent))) 0))

pub read : (N B : ℕ) (ns : List ℕ) (s : Image) (a b : ℕ) (lent buffer : List ℕ) (r : Printed) → printed r buffer ≡ gave_in (share_outcome N B ns s a (reads b (length lent))) lent
    → carried r buffer s ≡ record { print = gave_in (share_outcome N B ns s a (reads b (length lent))) lent; image = (share_outcome N B ns s a (reads b (length lent))).image }
unfolding carried
read N B ns s a b lent buffer r e =
    let o = share_outcome N B ns s a (reads b (length lent)) in
    ap {A = Print} {B = Carried} (λ p. record { print = p; image = s }) e ∙ ap {A = Image} {B = Carried} (λ i. record { print = gave_in o lent; image = i }) (sym (kept N B ns s a b lent))
