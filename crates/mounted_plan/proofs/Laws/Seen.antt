-- What each part of a decision sees of any image, as the definitions say it.
use Prim.Native.Nat.{ℕ, ◌+◌, ◌-◌, ◌*◌, ◌≤◌, ◌<◌}
use mathlib.Core.Path.{◌≡◌, refl, sym, ap, ap₂, ◌∙◌}
use mathlib.Core.Bool.{Bool, true, false, cond, not}
use mathlib.Core.List.{flatten}
use native.Mathlib.Omega.{arith}
use lib.ListN.{length, take, drop}
use lib.Dec.{ltb, leb}
use borrow.Author.Tests.{lt-ltb, le-ltb, le-leb, lt-leb, not-true, not-false}
use Rattle.model.specs.Lists.{count}
use Rattle.model.specs.Chip.{Image}
use Rattle.model.specs.Header.{is_former, header_version}
use Rattle.model.specs.Steps.{header_at}
use Rattle.model.specs.declared.Answer.TheVariants.{Worn}
use Rattle.tally.specs.declared.Tally.{Tally}
use Rattle.tally.specs.Seen.{header_in, tally_seen}
use Rattle.plan.specs.Statuses.{status_rows, first_marked, not_live}
use Rattle.plan.proofs.Callers.{compactions_within}
use Rattle.room.specs.declared.Plan.{Plan}
use Rattle.room.specs.Room.{Plannable}
use Rattle.put_answers.specs.Answering.{worn_by}
use Rattle.std.specs.Prelude.{Ok, Err}
use Rattle.mounted_plan.specs.Decided.{full_seen, plan_seen, top_tally, header_decision}

-- ---- the version in a header page that was lent

pub former_in_lem : (N B n at : ℕ) (s : Image) (t : Bool) → at ≡ header_at N B n * 256 → t ≡ is_former (header_version (take (at + 256 - at) (drop at s))) → t ≡ is_former (header_version (header_in N B n s))
unfolding header_in
former_in_lem N B n at s t e q = let k : at + 256 - at ≡ 256 = omega arith in rw (k, e) at q

-- ---- full

module _ (N B : ℕ) (absent : Bool) (p : Plan) (s : Image) where
  pub full_stored : not absent ≡ true → false ≡ full_seen N B absent p s
  unfolding full_seen
  full_stored h = rw (not-true absent h)

  module _ (a : not absent ≡ false) where
    pub full_few : p.used + 1 < N → false ≡ full_seen N B absent p s
    unfolding full_seen
    full_few h = rw (not-false absent a, lt-leb N (p.used + 1) h)

    pub full_two : N ≤ p.used + 1 → p.slot + 1 < B → false ≡ full_seen N B absent p s
    unfolding full_seen
    full_two u h = rw (not-false absent a, le-leb N (p.used + 1) u, lt-leb B (p.slot + 1) h)

    pub full_walked : (t : Bool) → N ≤ p.used + 1 → B ≤ p.slot + 1 → t ≡ leb (count not_live (flatten (status_rows N B s p.used p.first.0))) 1 → t ≡ full_seen N B absent p s
    unfolding full_seen
    full_walked t u h e = rw (not-false absent a, le-leb N (p.used + 1) u, le-leb B (p.slot + 1) h) e

-- ---- a plan with its compactions

module _ (N B : ℕ) (p : Plan) (s : Image) where
  pub plan_few : p.used + 1 < N → p ≡ plan_seen N B p s
  unfolding plan_seen
  plan_few h = rw (lt-ltb (p.used + 1) N h)

  pub plan_counted : (k : ℕ) → N ≤ p.used + 1 → k ≡ first_marked (status_rows N B s p.used p.first.0)
      → ◌≡◌ {A = Plan} (record { first = p.first; used = p.used; slot = p.slot; compactions = k }) (plan_seen N B p s)
  unfolding plan_seen
  plan_counted k h e = rw (le-ltb (p.used + 1) N h, e)

  -- it can be worked by as well
  pub seen_fits : Plannable N B p (length s) → Plannable N B (plan_seen N B p s) (length s)
  unfolding plan_seen
  seen_fits w = go (ltb (p.used + 1) N)
    where
      go : (t : Bool) → Plannable N B (cond t p (record { first = p.first; used = p.used; slot = p.slot; compactions = first_marked (status_rows N B s p.used p.first.0) })) (length s)
      go true = w
      go false = record { sized = w.sized; some = w.some; spare = w.spare; number = w.number; few = (compactions_within N B s p.used p.first.0 refl).0 }

-- ---- a new header

module _ (N B : ℕ) (p : Plan) (s : Image) (q : Plan) (t : Tally) (n : ℕ) (w : Bool) (a : q ≡ plan_seen N B p s) (e : n ≡ p.first.0 + p.used - 1) (b : t ≡ tally_seen (header_version (header_in N B n s))) (d : w ≡ worn_by N B q t) where
  tally_seen_lem : t ≡ top_tally N B p s
  unfolding top_tally
  tally_seen_lem = rw e at b

  worn_seen : worn_by N B (plan_seen N B p s) (top_tally N B p s) ≡ w
  worn_seen = ap₂ (worn_by N B) (sym a) (sym tally_seen_lem) ∙ sym d

  pub header_worn : w ≡ true → Err Worn ≡ header_decision N B p s
  unfolding header_decision
  header_worn h = let g = worn_seen ∙ h in rw g

  pub header_fresh : w ≡ false → Ok (record { plan = q; total = t.count }) ≡ header_decision N B p s
  unfolding header_decision
  header_fresh h = let g = worn_seen ∙ h in rw g (ap₂ (λ (x : Plan) (y : ℕ). Ok (record { plan = x; total = y })) a (ap (λ (y : Tally). y.count) tally_seen_lem))
