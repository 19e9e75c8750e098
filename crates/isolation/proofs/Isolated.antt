-- Isolation over whole runs: an induction over the requests of one run, and inside it one over those of the other.
use Rattle.std.specs.Prelude.{ℕ, suc, ◌≡◌, refl, ◌≢◌, Bool, true, false, length, eqb}
use Rattle.std.proofs.Common.{sym, ap₂, ◌∙◌, subst, arith}
use Rattle.std.proofs.Math.Path.{ap}
use Rattle.std.proofs.Math.Bool.{cond}
use mathlib.Core.List.{List, [], ◌∷◌}
use Rattle.std.proofs.Math.Decide.{ℕ_discrete}
use borrow.Author.Tests.{eq-eqb, ne_eqb}
use Rattle.model.specs.Chip.{Image}
use Rattle.model.specs.Histories.{Reply}
use Rattle.shares.specs.Layer.{Asked}
use Rattle.isolation.specs.Law.{Call, reply_to, ProperAsked, Told, told, before_worn, NoneWorn, requests_of, replies_to, AllProper, SameAsFar}
use Rattle.isolation.proofs.Runs.{after, code_to, call, Alike, alike_sym, other_turn, own_turn}

module _ (N B : ℕ) (ns : List ℕ) (a : ℕ) where
  -- what the tenant hears of a run before anybody is told 8
  abbrev pub heard : Image → List Call → List Reply
  heard s xs = replies_to a (before_worn (told N B ns s xs))

  -- ---- one request more

  module _ (s : Image) (x : Call) (xs : List Call) where
    heard_worn : code_to N B ns s x ≡ 8 → heard s (x ∷ xs) ≡ []
    unfolding told before_worn replies_to
    heard_worn e = rw (eq-eqb (code_to N B ns s x) 8 e)

    heard_own : code_to N B ns s x ≢ 8 → x.tenant ≡ a → heard s (x ∷ xs) ≡ reply_to N B ns s x ∷ heard (after N B ns s x) xs
    unfolding told before_worn replies_to
    heard_own n e = rw (ne_eqb (code_to N B ns s x) 8 n, eq-eqb a x.tenant (sym e))

    heard_other : code_to N B ns s x ≢ 8 → x.tenant ≢ a → heard s (x ∷ xs) ≡ heard (after N B ns s x) xs
    unfolding told before_worn replies_to
    heard_other n o = rw (ne_eqb (code_to N B ns s x) 8 n, ne_eqb a x.tenant (λ e. o (sym e)))

  module _ (x : Call) (xs : List Call) where
    asked_own : x.tenant ≡ a → requests_of a (x ∷ xs) ≡ x.asked ∷ requests_of a xs
    unfolding requests_of
    asked_own e = ap (λ (t : Bool). cond t (x.asked ∷ requests_of a xs) (requests_of a xs)) (eq-eqb a x.tenant (sym e))

    asked_other : x.tenant ≢ a → requests_of a (x ∷ xs) ≡ requests_of a xs
    unfolding requests_of
    asked_other o = ap (λ (t : Bool). cond t (x.asked ∷ requests_of a xs) (requests_of a xs)) (ne_eqb a x.tenant (λ e. o (sym e)))

  as_call : (x : Call) (q : Asked) → x.tenant ≡ a → x.asked ≡ q → x ≡ call a q
  as_call x q e i = ap₂ call e i

  -- ---- the other run, up to the tenant's next request

  -- what is known of the rest of the first run, from an image that it reached
  abbrev Rest : Image → List Call → Type 0
  Rest s xs = (ys : List Call) (r : Image) → Alike N B ns a s r → AllProper ys → requests_of a xs ≡ requests_of a ys → SameAsFar (heard s xs) (heard r ys)

  -- the tenant's next request in the other run is the same one
  meet : (s r : Image) (q : Asked) (xs ys : List Call) (y : Call) → ProperAsked q → AllProper ys → Alike N B ns a s r → Rest (after N B ns s (call a q)) xs → code_to N B ns s (call a q) ≢ 8
      → y.tenant ≡ a → y.asked ≡ q → code_to N B ns r y ≢ 8 → requests_of a xs ≡ requests_of a ys
      → SameAsFar (reply_to N B ns s (call a q) ∷ heard (after N B ns s (call a q)) xs) (heard r (y ∷ ys))
  meet s r q xs ys y p ps k rest n e i m h =
      let same : y ≡ call a q = as_call y q e i in
      let d = own_turn N B ns a s r q p k n (λ z. m (ap (λ (v : Call). code_to N B ns r v) same ∙ z)) in
      subst (λ (l : List Reply). SameAsFar (reply_to N B ns s (call a q) ∷ heard (after N B ns s (call a q)) xs) l) (sym (heard_own r y ys m e))
      (subst (λ (v : Call). SameAsFar (reply_to N B ns s (call a q) ∷ heard (after N B ns s (call a q)) xs) (reply_to N B ns r v ∷ heard (after N B ns r v) ys)) (sym same) (d.0, rest ys (after N B ns r (call a q)) d.1 ps h))

  same_head : (q j : Asked) (p l : List Asked) → q ∷ p ≡ j ∷ l → (j ≡ q) × (p ≡ l)
  same_head q j p l h = (cc, cc)

  second : (ys : List Call) (s r : Image) (q : Asked) (xs : List Call) → ProperAsked q → AllProper ys → Alike N B ns a s r → Rest (after N B ns s (call a q)) xs → code_to N B ns s (call a q) ≢ 8
      → q ∷ requests_of a xs ≡ requests_of a ys → SameAsFar (reply_to N B ns s (call a q) ∷ heard (after N B ns s (call a q)) xs) (heard r ys)
  unfolding told before_worn replies_to
  second [] s r q xs p ps k rest n h = tt
  second (y ∷ ys) s r q xs p ps k rest n h = elim (ℕ_discrete (code_to N B ns r y) 8) [
    | yes w ↦ rw (heard_worn r y ys w) tt
    | no m ↦ elim (ℕ_discrete y.tenant a) [
      | yes e ↦ let i = same_head q y.asked (requests_of a xs) (requests_of a ys) (h ∙ asked_own y ys e) in meet s r q xs ys y p ps.1 k rest n e i.0 m i.1
      | no o ↦ rw (heard_other r y ys m o) (second ys s (after N B ns r y) q xs p ps.1 (alike_sym N B ns a (after N B ns r y) s (other_turn N B ns a r s y ps.0 o (alike_sym N B ns a s r k))) rest n (h ∙ asked_other y ys o))
    ]
  ]

  -- the tenant's request in the first run
  first : (s r : Image) (x : Call) (xs ys : List Call) → ProperAsked x.asked → AllProper ys → Alike N B ns a s r → Rest (after N B ns s x) xs → code_to N B ns s x ≢ 8 → x.tenant ≡ a
      → requests_of a (x ∷ xs) ≡ requests_of a ys → SameAsFar (reply_to N B ns s x ∷ heard (after N B ns s x) xs) (heard r ys)
  first s r x xs ys p qs k rest n e h =
      let same : x ≡ call a x.asked = as_call x x.asked e refl in
      subst (λ (v : Call). SameAsFar (reply_to N B ns s v ∷ heard (after N B ns s v) xs) (heard r ys)) (sym same)
      (second ys s r x.asked xs p qs k (subst (λ (v : Call). Rest (after N B ns s v) xs) same rest) (subst (λ (v : Call). code_to N B ns s v ≢ 8) same n) (sym (asked_own x xs e) ∙ h))

  -- ---- both runs

  pub isolated : (xs : List Call) (s : Image) → AllProper xs → Rest s xs
  unfolding told before_worn replies_to
  isolated [] s ps ys r k qs h = tt
  isolated (x ∷ xs) s ps ys r k qs h = elim (ℕ_discrete (code_to N B ns s x) 8) [
    | yes w ↦ rw (heard_worn s x xs w) tt
    | no n ↦ elim (ℕ_discrete x.tenant a) [
      | yes e ↦ rw (heard_own s x xs n e) (first s r x xs ys ps.0 qs k (λ zs i. isolated xs (after N B ns s x) ps.1 zs i) n e h)
      | no o ↦ rw (heard_other s x xs n o) (isolated xs (after N B ns s x) ps.1 ys r (other_turn N B ns a s r x ps.0 o k) qs (sym (asked_other x xs o) ∙ h))
    ]
  ]

-- ---- runs in which nobody is told 8

-- nothing is cut off
pub none_worn : (l : List Told) → NoneWorn l → before_worn l ≡ l
unfolding before_worn
none_worn [] h = refl
none_worn (y ∷ l) h = rw (ne_eqb y.reply.code 8 h.0) (ap {B = List Told} (λ z. y ∷ z) (none_worn l h.1))

-- a reply to each request
pub all_told : (N B : ℕ) (ns : List ℕ) (a : ℕ) (xs : List Call) (s : Image) → length (replies_to a (told N B ns s xs)) ≡ length (requests_of a xs)
unfolding told replies_to requests_of
all_told N B ns a [] s = refl
all_told N B ns a (x ∷ xs) s = go (eqb a x.tenant) (all_told N B ns a xs (after N B ns s x))
  where
    go : (t : Bool) → length (replies_to a (told N B ns (after N B ns s x) xs)) ≡ length (requests_of a xs)
        → length (cond t (reply_to N B ns s x ∷ replies_to a (told N B ns (after N B ns s x) xs)) (replies_to a (told N B ns (after N B ns s x) xs))) ≡ length (cond t (x.asked ∷ requests_of a xs) (requests_of a xs))
    go true ih = ap suc ih
    go false ih = ih

-- the same as far as both go, and both as long
pub same_all : (p q : List Reply) → SameAsFar p q → length p ≡ length q → p ≡ q
same_all [] [] h e = refl
same_all [] (y ∷ q) h e = absurd (omega (arith, e))
same_all (x ∷ p) [] h e = absurd (omega (arith, e))
same_all (x ∷ p) (y ∷ q) h e = ap₂ {C = List Reply} (λ z l. z ∷ l) h.0 (same_all p q h.1 (omega (arith, e)))
