-- Laws of a put on a clean image: it is refused, or accepted, as the answer says.
use Prim.Native.Nat.{ℕ}
use mathlib.Core.Path.{◌≡◌, refl, sym, ap, ◌∙◌, subst}
use mathlib.Core.Bool.{Bool, true, false, cond}
use mathlib.Core.List.{List}
use native.Mathlib.Omega.{arith}
use lib.Dec.{eqb}
use lib.ListN.{length}
use borrow.Author.Tests.{lt-ltb, leb-false}
use Rattle.model.specs.Chip.{Image}
use Rattle.model.specs.Header.{is_former}
use Rattle.model.specs.State.{entries_in, view}
use Rattle.model.specs.Steps.{is_worn}
use Rattle.model.specs.Answers.{code_of, put, is_full}
use Rattle.model.specs.declared.Answer.{Answer}
use Rattle.model.specs.declared.Answer.TheVariants.{Done, Full, Worn, FormerVersion}
use Rattle.bridge.specs.Accepted.{refusal}
use Rattle.std.specs.Prelude.{Option}
use Rattle.std.specs.declared.option.Option.{Option}
use Rattle.find.specs.declared.FoundSlot.{FoundSlot}
use Rattle.tally.specs.declared.Tally.{Tally}
use Rattle.tally.specs.Seen.{tally_seen}
use Rattle.room.specs.declared.Plan.{Plan}
use Rattle.room.specs.Room.{Planned}
use Rattle.put_answers.specs.Answering.{worn_by, full_by, answer_for, found_before}
use Rattle.put_answers.proofs.Laws.{former_same, worn_same, full_found, full_before_lem}
use Rattle.put.specs.Writing.{Puttable, Accepted}
use Rattle.bridge.specs.Refusals.{put_former, put_full, put_worn}

-- ---- the answer, from a plan, the count of live slots and a search

-- an answer other than 0
abbrev pub Refusing : Answer → Type 0
Refusing a = a ≡ Done → ⊥

pub refusing_not : Refusing Done → ⊥
refusing_not h = h refl

module _ (N B : ℕ) (p : Plan) (live b : ℕ) (c : List ℕ) (s : Image) (u : Puttable N B p b c s) (t : Tally) (seen : t ≡ tally_seen (view N B s).version) where
  abbrev k : Planned N B p s
  k = u.plan

  -- version 1
  pub former_refuses : t.former ≡ true → (refusal N B s (put b c) ≡ code_of FormerVersion) × (eqb (code_of FormerVersion) 0 ≡ false)
  unfolding code_of
  former_refuses o = (put_former N B s k.size b c u.number u.taken k.state (sym (former_same N B p s k t seen) ∙ o), refl)

  module _ (l : live ≡ length (entries_in (view N B s))) (o : t.former ≡ false) (f : Option FoundSlot) (e : f ≡ found_before N B p live s b) where
    second : is_former (view N B s).version ≡ false
    second = sym (former_same N B p s k t seen) ∙ o

    full_same : full_by N B live f ≡ is_full N B b (view N B s)
    full_same = ap (full_by N B live) e ∙ (full_before_lem N B p s k live b ∙ full_found N B p s k live b l _ refl)

    fresh_same : worn_by N B p t ≡ is_worn N (view N B s)
    fresh_same = worn_same N B p s k t (λ h. seen)

    -- a refusal
    pub answer_refuses : (a : Answer) → a ≡ answer_for N B p live t f → Refusing a → (refusal N B s (put b c) ≡ code_of a) × (eqb (code_of a) 0 ≡ false)
    unfolding answer_for code_of
    answer_refuses a w m = go (full_by N B live f) (worn_by N B p t) refl refl a w m
      where
        go : (x y : Bool) → full_by N B live f ≡ x → worn_by N B p t ≡ y → (a : Answer) → a ≡ cond x Full (cond y Worn Done) → Refusing a → (refusal N B s (put b c) ≡ code_of a) × (eqb (code_of a) 0 ≡ false)
        go true y q r a w m = rw w (put_full N B s k.size b c u.number u.taken second k.state (sym full_same ∙ q), refl)
        go false true q r a w m = rw w (put_worn N B s k.size b c u.number u.taken second k.state (sym full_same ∙ q) (sym fresh_same ∙ r), refl)
        go false false q r a w m = absurd (refusing_not (subst Refusing w m))

    -- no refusal
    pub answer_accepts : (a : Answer) → a ≡ answer_for N B p live t f → a ≡ Done → Accepted N B p t.count f b c s
    unfolding answer_for found_before tally_seen
    answer_accepts a w m = go (full_by N B live f) (worn_by N B p t) refl refl (sym m ∙ w)
      where
        go : (x y : Bool) → full_by N B live f ≡ x → worn_by N B p t ≡ y → Done ≡ cond x Full (cond y Worn Done) → Accepted N B p t.count f b c s
        go true y q r w = absurd (let z : ◌≡◌ {A = ℕ} 0 1 = cc in omega arith)
        go false true q r w = absurd (let z : ◌≡◌ {A = ℕ} 0 1 = cc in omega arith)
        go false false q r w = record {
          put = u;
          second = second;
          found = λ h. rw (lt-ltb p.slot B (leb-false B p.slot h)) at e;
          space = sym full_same ∙ q;
          fresh = sym fresh_same ∙ r;
          tally = λ h. ap (λ (y : Tally). y.count) seen;
        }
