-- A put decided before its first step: what is seen of any image, and what the decision says of a clean one.
use Rattle.std.specs.Prelude.{ℕ, ◌+◌, ◌-◌, ◌≤◌, ◌≡◌, Bool, true, false, cond, ◌&&◌, not, length, ltb, leb, eqb, Result, Ok, Err}
use mathlib.Core.List.{List, [], ◌∷◌, flatten}
use Rattle.model.specs.Lists.{count}
use Rattle.model.specs.Chip.{Image}
use Rattle.model.specs.Header.{is_former, tally_of, header_version}
use Rattle.model.specs.Slot.{number_ok}
use Rattle.model.specs.State.{view, entries_in, holds, clean, state}
use Rattle.model.specs.Steps.{is_worn}
use Rattle.model.specs.Answers.{code_of, put, length_ok, is_full}
use Rattle.model.specs.Sequences.{among}
use Rattle.model.specs.declared.Answer.{Answer}
use Rattle.model.specs.declared.Answer.TheVariants.{Worn}
use Rattle.bridge.specs.Accepted.{refusal}
use Rattle.tally.specs.declared.Tally.{Tally}
use Rattle.tally.specs.Seen.{header_in, tally_seen}
use Rattle.plan.specs.Statuses.{status_rows, first_marked, not_live}
use Rattle.room.specs.declared.Plan.{Plan}
use Rattle.room.specs.Room.{Plannable, Planned}
use Rattle.put_answers.specs.Answering.{worn_by}
use Rattle.mounted_plan.specs.declared.PutPlan.{PutPlan}

-- ---- what is seen of any image, by the numbers of a plan

-- a put of a block without a slot is refused as full: no more segments may be in use, the top has fewer than two empty slots, and at most one slot is not live
unfoldable pub full_seen : ℕ → ℕ → Bool → Plan → Image → Bool
full_seen N B absent p s = absent && (leb N (p.used + 1) && (leb B (p.slot + 1) && leb (count not_live (flatten (status_rows N B s p.used p.first.0))) 1))

-- the plan, with its compactions where no more segments may be in use
unfoldable pub plan_seen : ℕ → ℕ → Plan → Image → Plan
plan_seen N B p s = cond (ltb (p.used + 1) N) p (record { first = p.first; used = p.used; slot = p.slot; compactions = first_marked (status_rows N B s p.used p.first.0) })

-- what the top's header tells of recoveries' erases
unfoldable pub top_tally : ℕ → ℕ → Plan → Image → Tally
top_tally N B p s = tally_seen (header_version (header_in N B (p.first.0 + p.used - 1) s))

-- the decision where the top has no empty slot
unfoldable pub header_decision : ℕ → ℕ → Plan → Image → Result PutPlan Answer
header_decision N B p s = let q = plan_seen N B p s in let t = top_tally N B p s in cond (worn_by N B q t) (Err Worn) (Ok (record { plan = q; total = t.count }))

-- ---- the decision

-- whatever the image is: one of four refusals, or a plan by which it can be written
abbrev pub Any : ℕ → ℕ → ℕ → Result PutPlan Answer → Type 0
Any N B bytes (Err a) = among (code_of a) (4 ∷ 7 ∷ 8 ∷ 11 ∷ []) ≡ true
Any N B bytes (Ok x) = Plannable N B x.plan bytes

-- a clean image's plan by which block b can be put
pub record Agreed (N B b : ℕ) (p : Plan) (total : ℕ) (s : Image) : Type 0 where
  pub plan : Planned N B p s
  pub second : is_former (view N B s).version ≡ false
  pub space : is_full N B b (view N B s) ≡ false
  pub fresh : is_worn N (view N B s) ≡ false
  pub tally : B ≤ p.slot → total ≡ tally_of (view N B s).version

-- of a clean image: the refusal of the put is this one, or there is none
abbrev pub Exact : ℕ → ℕ → Image → ℕ → Result PutPlan Answer → Type 0
Exact N B s b (Err a) = (c : List ℕ) → number_ok b ≡ true → length_ok (length c) ≡ true → (refusal N B s (put b c) ≡ code_of a) × (eqb (code_of a) 0 ≡ false)
Exact N B s b (Ok x) = Agreed N B b x.plan x.total s

pub record Decides (N B : ℕ) (absent : Bool) (s : Image) (d : Result PutPlan Answer) : Type 0 where
  pub any : Any N B (length s) d
  -- in step: absent says whether block b is stored
  pub exact : state N B s ≡ clean → (b : ℕ) → absent ≡ not (holds b (entries_in (view N B s))) → Exact N B s b d
