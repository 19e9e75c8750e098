-- Laws of headers that are made up and then programmed, where they belong in the image.
use Prim.Native.Nat.{ℕ, ◌+◌, ◌-◌, ◌*◌, ◌/◌, ◌%◌, ◌≤◌}
use mathlib.Core.Path.{◌≡◌}
use mathlib.Core.Bool.{false}
use mathlib.Core.List.{[], ◌∷◌, ◌++◌, append_assoc}
use native.Mathlib.Omega.{arith}
use lib.ListN.{length, take, drop}
use Rattle.model.specs.Chip.{Image, Page, program, erased}
use Rattle.model.specs.Header.{number_bytes, inverted, opening_begun, opened, compaction_begun, erase_pending, compacted, no_old_segment, Version, new_version, version_number, tally_bytes, header_page}
use Rattle.model.specs.Steps.{program_part, on_page, header_at, open_segment, settle}
use Rattle.flash.specs.Ran.{Programmed, Within}
use Rattle.flash.specs.Pages.{Sized}
use Rattle.flash.proofs.Laws.{◌then◌, within_append}
use Rattle.flash.proofs.Pages.{within_part, on_page_lem, in_page, header_inside}
use Rattle.header.specs.Parts.{header_fields}
use Rattle.header_steps.specs.Parts.{header_begun, header_finished, begin_compaction, finish_copy}

pub page_made : (N B t st n old a b c d : ℕ) (p : Page) → p ≡ header_fields N B false st n old → a ≡ t % 256 → b ≡ t / 256 % 256 → c ≡ t / 256 / 256 % 256 → d ≡ t / 256 / 256 / 256 % 256
    → take 17 p ++ (a ∷ b ∷ c ∷ d ∷ drop 4 (drop 17 p)) ≡ header_page N B (new_version t) st n old
unfolding header_fields header_page number_bytes inverted erased new_version version_number tally_bytes
page_made N B t st n old a b c d p e ea eb ec ed = rw (e, ea, eb, ec, ed)

pub header_begun_lem : (p : Page) (st : ℕ) {n n₁ n₂ n₃ : ℕ} {s s₁ s₂ s₃ : Image} → Programmed (program 5 st ∷ []) n n₁ s s₁ → Programmed (program_part p 0 5) n₁ n₂ s₁ s₂
    → Programmed (program_part p 6 2) n₂ n₃ s₂ s₃ → Programmed (header_begun p st) n n₃ s s₃
unfolding header_begun
header_begun_lem p st d₁ d₂ d₃ B = ◌then◌ (d₁ B) (◌then◌ (d₂ B) (d₃ B))

pub header_finished_lem : (p : Page) (st : ℕ) {n n₁ n₂ n₃ : ℕ} {s s₁ s₂ s₃ : Image} → Programmed (program_part p 17 4) n n₁ s s₁ → Programmed (program_part p 8 8) n₁ n₂ s₁ s₂
    → Programmed (program 5 st ∷ []) n₂ n₃ s₂ s₃ → Programmed (header_finished p st) n n₃ s s₃
unfolding header_finished
header_finished_lem p st d₁ d₂ d₃ B = ◌then◌ (d₁ B) (◌then◌ (d₂ B) (d₃ B))

begun_within : (p : Page) (st : ℕ) → Within 256 (header_begun p st)
unfolding header_begun
begun_within p st = (omega arith, within_append 256 (program_part p 0 5) (program_part p 6 2) (within_part p 0 5 (omega arith)) (within_part p 6 2 (omega arith)))

finished_within : (p : Page) (st : ℕ) → Within 256 (header_finished p st)
unfolding header_finished
finished_within p st =
    within_append 256 (program_part p 17 4) (program_part p 8 8 ++ (program 5 st ∷ [])) (within_part p 17 4 (omega arith))
    (within_append 256 (program_part p 8 8) (program 5 st ∷ []) (within_part p 8 8 (omega arith)) (omega arith, tt))

-- what is left of the image when a page lent from it comes back
abbrev Back : ℕ → Image → Page → Image
Back at s q = take at s ++ (q ++ drop (at + 256 - at) (drop at s))

module _ (N B at : ℕ) (s : Image) (made : Page) (sized : Sized N B (length s)) (e : Version) where
  pub header_opened : (n : ℕ) {b b₁ r : ℕ} {q₁ q : Page} → at ≡ header_at N B n * 256 → made ≡ header_page N B e opened n no_old_segment
      → Programmed (header_begun made opening_begun) b b₁ (take (at + 256 - at) (drop at s)) q₁ → Programmed (header_finished made opened) b₁ r q₁ q
      → Programmed (open_segment N B e n) b r s (Back at s q)
  unfolding open_segment header_begun header_finished
  header_opened n p m d f =
      let i : at + 256 ≤ length s = omega (arith, header_inside N B n (length s) sized) in
      let w = within_append 256 (header_begun made opening_begun) (header_finished made opened) (begun_within made opening_begun) (finished_within made opened) in
      rw (← m, ← (append_assoc (program_part made 0 5) (program_part made 6 2) (header_finished made opened)))
      (in_page at (header_at N B n) (header_begun made opening_begun ++ header_finished made opened) p (on_page_lem at s (header_begun made opening_begun ++ header_finished made opened) i w (λ C. ◌then◌ (d C) (f C))))

  pub compaction_begun_lem : (o n : ℕ) {b b₁ r : ℕ} {q₁ q : Page} → at ≡ header_at N B n * 256 → made ≡ header_page N B e erase_pending n (o % N)
      → Programmed (header_begun made compaction_begun) b b₁ (take (at + 256 - at) (drop at s)) q₁ → Programmed (program_part made 16 1) b₁ r q₁ q
      → Programmed (begin_compaction N B e o n) b r s (Back at s q)
  unfolding begin_compaction header_begun
  compaction_begun_lem o n p m d f =
      let i : at + 256 ≤ length s = omega (arith, header_inside N B n (length s) sized) in
      let w = within_append 256 (header_begun made compaction_begun) (program_part made 16 1) (begun_within made compaction_begun) (within_part made 16 1 (omega arith)) in
      rw (← m, ← (append_assoc (program_part made 0 5) (program_part made 6 2) (program_part made 16 1)))
      (in_page at (header_at N B n) (header_begun made compaction_begun ++ program_part made 16 1) p (on_page_lem at s (header_begun made compaction_begun ++ program_part made 16 1) i w (λ C. ◌then◌ (d C) (f C))))

  pub copy_finished : (o n : ℕ) {b r : ℕ} {q : Page} → at ≡ header_at N B n * 256 → made ≡ header_page N B e erase_pending n (o % N)
      → Programmed (header_finished made erase_pending) b r (take (at + 256 - at) (drop at s)) q
      → Programmed (finish_copy N B e o n) b r s (Back at s q)
  unfolding finish_copy header_finished
  copy_finished o n p m d =
      let i : at + 256 ≤ length s = omega (arith, header_inside N B n (length s) sized) in
      rw (← m) (in_page at (header_at N B n) (header_finished made erase_pending) p (on_page_lem at s (header_finished made erase_pending) i (finished_within made erase_pending) d))

pub settled : (N B n at : ℕ) {b r : ℕ} {s t : Image} → at ≡ header_at N B n * 256 → Programmed (program (at + 5) compacted ∷ []) b r s t → Programmed (settle N B n) b r s t
unfolding settle on_page
settled N B n at e d C = rw (← e) (d C)
