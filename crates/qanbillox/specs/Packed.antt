-- What the exports give: an answer packed into one number.
use Rattle.std.specs.Prelude.{ℕ, ◌+◌, ◌*◌, ◌%◌, ◌≡◌, cond, List}
use Rattle.model.specs.Chip.{Image}
use Rattle.model.specs.Header.{is_blank}
use Rattle.model.specs.Blank.{blank_groups}
use Rattle.model.specs.Answers.{Outcome, ReadOutcome}
use Rattle.model.specs.Mounted.{Places, MountOutcome}
use Rattle.text.specs.Buffer.{Print}
use Rattle.shares.specs.Layer.{Shared}
use Rattle.packing.specs.Counts.{counts}
use Rattle.partition_packing.specs.Offsets.{offsets}

-- the answer + 256 × the steps done
unfoldable pub packed : Outcome → ℕ
packed o = o.code + 256 * o.count

-- that number, and the image afterwards
pub record Gives (o : Outcome) (r : ℕ) (s : Image) : Type 0 where
  pub number : r ≡ packed o
  pub image : s ≡ o.image

-- the answer + 256 × the length + 65,536 × the offset
unfoldable pub packed_read : ReadOutcome → ℕ
packed_read o = o.code + 256 * o.length + 65536 * o.offset

-- the same of the older partition format, whose image may have any number of bytes
unfoldable pub packed_spot : ReadOutcome → ℕ
packed_spot o = o.code + 256 * o.length + 65536 * (o.offset % offsets)

-- the answer + 256 × the steps done of a mounted call, and the image afterwards
pub record Packs (o : Outcome) (r : ℕ) (s : Image) : Type 0 where
  pub number : r ≡ o.code + 256 * (o.count % counts)
  pub image : s ≡ o.image

-- an outcome that a mounted call's contract allows, so packed
abbrev pub Allows : (Outcome → Type 0) → ℕ → Image → Type 0
Allows P r s = (o : Outcome) × (P o × Packs o r s)

abbrev pub AllowsRead : (ReadOutcome → Type 0) → ℕ → Type 0
AllowsRead P r = (o : ReadOutcome) × (P o × (r ≡ packed_read o))

-- a mount's answer, and the table afterwards
pub record Mounts (o : MountOutcome) (r : ℕ) (t : Places) : Type 0 where
  pub number : r ≡ o.code
  pub table : t ≡ o.places

-- 1 if all are 255, otherwise 0, + 256 × the groups looked at
unfoldable pub packed_blank : List ℕ → ℕ
packed_blank s = cond (is_blank s) 1 0 + 256 * (blank_groups s % counts)

-- the answer + 256 × the text's length
unfoldable pub packed_print : Print → ℕ
packed_print o = o.code + 256 * o.length

-- that number, and the buffer afterwards
pub record Prints (o : Print) (r : ℕ) (s : List ℕ) : Type 0 where
  pub number : r ≡ packed_print o
  pub buffer : s ≡ o.buffer

-- the answer to a tenant's put or delete, and the image afterwards
pub record Serves (o : Shared) (r : ℕ) (s : Image) : Type 0 where
  pub number : r ≡ o.code
  pub image : s ≡ o.image
