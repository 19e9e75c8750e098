-- What the exports pack is small, and is what the definitions give.
use Prim.Native.Nat.{ℕ, ◌+◌, ◌*◌, ◌%◌, ◌≤◌, ◌<◌}
use mathlib.Core.Path.{◌≡◌, refl, sym, ap, ◌∙◌}
use mathlib.Core.Bool.{true, cond}
use mathlib.Core.List.{List}
use native.Mathlib.Nat.{mod-eq_of_lt}
use native.Mathlib.Decide.{ℕ_discrete}
use native.Mathlib.Omega.{arith}
use lib.ListN.{length, get_or}
use Rattle.model.specs.Chip.{Image, image_length, largest_image, right_size}
use Rattle.model.proofs.Laws.Chip.{size_facts}
use Rattle.model.proofs.Laws.Bytes.{bytes_known}
use Rattle.model.specs.Slot.{most_contents}
use Rattle.model.specs.Header.{is_blank}
use Rattle.model.specs.Blank.{blank_groups}
use Rattle.model.specs.Answers.{Request, code_of, performed, Outcome, outcome_of, located, ReadOutcome, read_outcome}
use Rattle.model.specs.declared.Answer.{Answer}
use Rattle.model.specs.Mounted.{Places, MountOutcome, mounted_as, mounted_refusal, MountedRead}
use Rattle.request.proofs.Laws.{most_pages_lem}
use Rattle.mounted_read.proofs.Laws.Refusals.{passed}
use Rattle.model.specs.declared.Performed.{Performed}
use Rattle.model.specs.declared.Located.{Located}
use Rattle.bridge.specs.Lengths.{few_done, read_small}
use Rattle.blank.proofs.Blank.{groups_most}
use Rattle.text.specs.declared.Printed.{Printed}
use Rattle.text.specs.Buffer.{Print, printed}
use Rattle.packing.specs.Counts.{counts}
use Rattle.shares.specs.Layer.{Shared, wrote}
use Rattle.partitions.specs.declared.Written.{Written}
use Rattle.partitions.specs.declared.Spot.{Spot}
use Rattle.partitions.specs.Answers as settings
use Rattle.partitions.proofs.Few.{few_done as settings_done}
use Rattle.partition_packing.specs.Offsets.{offsets}
use Rattle.qanbillox.specs.Packed.{packed, Gives, packed_read, packed_spot, Packs, Mounts, packed_blank, packed_print, Prints, Serves}

pub few : (N B : ℕ) (t : Image) (budget : ℕ) (q : Request) (p : Performed) (s : Image) → performed p s ≡ outcome_of N B t budget q → p.steps ≤ largest_image
unfolding performed
few N B t budget q p s e = omega (arith, few_done N B t budget q, ap (λ (o : Outcome). o.count) e)

pub gives : (o : Outcome) (p : Performed) (s : Image) (r : ℕ) → performed p s ≡ o → r ≡ code_of p.answer + 256 * p.steps → Gives o r s
unfolding performed packed
gives o p s r e h = record { number = h ∙ ap (λ (x : Outcome). x.code + 256 * x.count) e; image = ap (λ (x : Outcome). x.image) e }

-- it is not more in what another definition gives
pub few_given : (o : Outcome) (p : Performed) (u : Image) → o.count ≤ largest_image → performed p u ≡ o → p.steps ≤ largest_image
unfolding performed
few_given o p u h e = omega (arith, h, ap (λ (x : Outcome). x.count) e)

pub small : (N B : ℕ) (t : Image) (b : ℕ) (p : Located) → located p ≡ read_outcome N B t b → (p.offset ≤ largest_image) × (p.length ≤ 248)
unfolding located
small N B t b p e = let s = read_small N B t b in
    (omega (arith, s.0, ap (λ (o : ReadOutcome). o.offset) e), omega (arith, s.1, ap (λ (o : ReadOutcome). o.length) e))

pub tells : (N B : ℕ) (t : Image) (b : ℕ) (p : Located) (r : ℕ) → located p ≡ read_outcome N B t b → r ≡ code_of p.answer + 256 * p.length + 65536 * p.offset → r ≡ packed_read (read_outcome N B t b)
unfolding located packed_read
tells N B t b p r e h = h ∙ ap (λ (o : ReadOutcome). o.code + 256 * o.length + 65536 * o.offset) e

-- of fewer bytes than 2 to the 59th, less seven, the blank test's count is told whole
pub blank_whole : (s : List ℕ) → length s + 7 < 8 * counts → packed_blank s ≡ cond (is_blank s) 1 0 + 256 * blank_groups s
unfolding packed_blank counts
blank_whole s h = ap (λ (n : ℕ). cond (is_blank s) 1 0 + 256 * n) (mod-eq_of_lt {n = blank_groups s} {m = counts} (omega (arith, groups_most s)))

pub prints : (o : Print) (p : Printed) (s : List ℕ) (r : ℕ) → printed p s ≡ o → r ≡ code_of p.answer + 256 * p.length → Prints o r s
unfolding printed packed_print
prints o p s r e h = record { number = h ∙ ap (λ (x : Print). x.code + 256 * x.length) e; buffer = ap (λ (x : Print). x.buffer) e }

-- ---- mounted calls

pub packs : (p : Performed) (s : Image) (r : ℕ) → r ≡ code_of p.answer + 256 * (p.steps % counts) → Packs (performed p s) r s
unfolding performed
packs p s r h = record { number = h; image = refl }

-- in step the steps are told whole: what comes back is what the unmounted export gives
pub gives_in_step : (N B : ℕ) (t : Image) (budget : ℕ) (q : Request) (o : Outcome) (r : ℕ) (s : Image) → o ≡ outcome_of N B t budget q → Packs o r s → Gives (outcome_of N B t budget q) r s
unfolding packed counts
gives_in_step N B t budget q o r s e p = record {
  number = p.number ∙ (ap (λ (x : Outcome). x.code + 256 * (x.count % counts)) e ∙ ap (λ (n : ℕ). (outcome_of N B t budget q).code + 256 * n) (mod-eq_of_lt {n = (outcome_of N B t budget q).count} {m = counts} (omega (arith, few_done N B t budget q))));
  image = p.image ∙ ap (λ (x : Outcome). x.image) e;
}

pub mounts : (a : Answer) (t : Places) (r : ℕ) (o : MountOutcome) → mounted_as a t ≡ o → r ≡ code_of a → Mounts o r t
unfolding mounted_as
mounts a t r o e h = record { number = h ∙ ap (λ (x : MountOutcome). x.code) e; table = ap (λ (x : MountOutcome). x.places) e }

right_largest : (N B : ℕ) (s : Image) → right_size N B s ≡ true → length s ≤ largest_image
unfolding image_length
right_largest N B s z =
    let f = size_facts N B s z in
    let m = most_pages_lem N B f.most (omega (arith, f.most_b)) in
    omega (arith, f.whole)

-- a mounted read's place fits, whatever the table was
pub mounted_small : (N B b : ℕ) (s : Image) (t : Places) (p : Located) → MountedRead N B b (located p) s t → (p.offset ≤ largest_image) × (p.length ≤ 248)
unfolding located most_contents
mounted_small N B b s t p m = elim (ℕ_discrete (code_of p.answer) 0) [
  | no h ↦ let z = m.refused h in (omega (arith, z.0), omega (arith, z.1))
  | yes h ↦ elim (ℕ_discrete (mounted_refusal N B s t b true) 0) [
    | yes k ↦ (omega (arith, m.inside.0, right_largest N B s (passed N B s t b true k).size), m.inside.1)
    | no k ↦ absurd (k (sym (m.bound k) ∙ h))
  ]
]

pub mounted_tells : (p : Located) (r : ℕ) → r ≡ code_of p.answer + 256 * p.length + 65536 * p.offset → r ≡ packed_read (located p)
unfolding located packed_read
mounted_tells p r h = h

-- ---- tenants

pub serves : (o : Shared) (a : Answer) (s : Image) (r : ℕ) → wrote a s ≡ o → r ≡ code_of a → Serves o r s
unfolding wrote
serves o a s r e h = record { number = h ∙ ap (λ (x : Shared). x.code) e; image = ap (λ (x : Shared). x.image) e }

-- ---- the older partition format

pub settings_few : (P : ℕ) (ns : List ℕ) (t : Image) (i : ℕ) (d : List ℕ) (budget : ℕ) (w : Written) (s : Image) → ((k : ℕ) → get_or ns k 0 < 256) → settings.wrote w s ≡ settings.write_outcome P ns t i d budget → w.steps ≤ 65538
unfolding settings.wrote
settings_few P ns t i d budget w s b e = omega (arith, ap (λ (o : Outcome). o.count) e, settings_done P ns t i d budget (bytes_known ns b))

pub settings_gives : (o : Outcome) (w : Written) (s : Image) (r : ℕ) → settings.wrote w s ≡ o → r ≡ settings.number_of w.answer + 256 * w.steps → Gives o r s
unfolding settings.wrote packed
settings_gives o w s r e h = record { number = h ∙ ap (λ (x : Outcome). x.code + 256 * x.count) e; image = ap (λ (x : Outcome). x.image) e }

pub settings_tells : (o : ReadOutcome) (p : Spot) (r : ℕ) → settings.told p ≡ o → r ≡ settings.number_of p.answer + 256 * p.length + 65536 * (p.offset % offsets) → r ≡ packed_spot o
unfolding settings.told packed_spot
settings_tells o p r e h = h ∙ ap (λ (x : ReadOutcome). x.code + 256 * x.length + 65536 * (x.offset % offsets)) e

-- in an image of at most 256 TiB the offset is told whole
pub spot_whole : (o : ReadOutcome) → o.offset < offsets → packed_spot o ≡ packed_read o
unfolding packed_spot packed_read
spot_whole o h = ap (λ (n : ℕ). o.code + 256 * o.length + 65536 * n) (mod-eq_of_lt {n = o.offset} {m = offsets} h)
