-- What a put is answered on a clean image, from the numbers of a plan, the top's tally, the count of live slots and a search.
use Rattle.std.specs.Prelude.{ℕ, ◌+◌, ◌-◌, ◌/◌, ◌≤◌, Bool, false, cond, ◌||◌, ◌&&◌, not, ltb, leb, Option, None, Some}
use Rattle.model.specs.Chip.{Image, most_segments, erase_limit}
use Rattle.model.specs.State.{capacity}
use Rattle.model.specs.declared.Answer.{Answer}
use Rattle.model.specs.declared.Answer.TheVariants.{Done, Full, Worn}
use Rattle.find.specs.declared.FoundSlot.{FoundSlot}
use Rattle.find.specs.Search.{rows_at, found_in}
use Rattle.tally.specs.declared.Tally.{Tally}
use Rattle.room.specs.declared.Plan.{Plan}

pub record Ranged (N B : ℕ) (p : Plan) : Type 0 where
  pub least : 2 ≤ N
  pub most : N ≤ most_segments
  pub slots : 2 ≤ B
  pub few : B ≤ 255
  pub some : 1 ≤ p.used
  pub spare : p.used ≤ most_segments
  pub compactions : p.compactions ≤ most_segments

-- how many new numbers a put without room gives
unfoldable pub new_numbers_by : ℕ → Plan → ℕ
new_numbers_by N p = cond (ltb p.used (N - 1)) 1 p.compactions

-- a put of it is refused as worn
unfoldable pub worn_by : ℕ → ℕ → Plan → Tally → Bool
worn_by N B p t = not (ltb p.slot B) && (t.no_bit_left || leb erase_limit ((p.first.0 + p.used - 1 + new_numbers_by N p) / N + t.count))

-- a put of a block that was found or not is refused as full, with so many slots live
unfoldable pub full_by : ℕ → ℕ → ℕ → Option FoundSlot → Bool
full_by N B live (Some x) = false
full_by N B live None = leb (capacity N B) live

-- the answer but for a cut, on an image of version 2
unfoldable pub answer_for : ℕ → ℕ → Plan → ℕ → Tally → Option FoundSlot → Answer
answer_for N B p live t f = cond (full_by N B live f) Full (cond (worn_by N B p t) Worn Done)

-- where a block's slot is, if that is asked before room is made
unfoldable pub found_before : ℕ → ℕ → Plan → ℕ → Image → ℕ → Option FoundSlot
found_before N B p live s b = cond (ltb p.slot B || leb (capacity N B) live) (found_in N B p.first.0 (rows_at N B s p.used p.first.0) b) None
