-- Laws of compaction: the whole, from its parts.
use Prim.Native.Nat.{ℕ, ◌+◌, ◌*◌, ◌%◌, ◌<◌}
use mathlib.Core.Path.{◌≡◌, ap}
use mathlib.Core.List.{List, [], ◌∷◌, map}
use native.Mathlib.Nat.{mod-lt}
use native.Mathlib.Omega.{arith}
use lib.ListN.{length, drop}
use Rattle.model.specs.Chip.{Image, Page, erase}
use Rattle.model.specs.Header.{Version, new_version}
use Rattle.model.specs.Slot.{slot_of}
use Rattle.model.specs.State.{entries}
use Rattle.model.specs.Steps.{header_at, settle}
use Rattle.model.proofs.Laws.Segments.{InSegment, page_in_segment}
use Rattle.model.proofs.Laws.HeaderPage.{compaction_header, compaction_in_page}
use Rattle.flash.specs.Ran.{Ran, Programmed}
use Rattle.flash.proofs.Laws.{◌then◌}
use Rattle.flash.specs.Pages.{Sized}
use Rattle.header_steps.specs.Parts.{begin_compaction, finish_copy}
use Rattle.live_slots.specs.Live.{live_entries, Apart, Copied}
use Rattle.live_slots.proofs.Laws.{pages_kept}
use Rattle.compact.specs.Compaction.{Compaction, compact_parts}

begin_in_target : (N B : ℕ) (e : Version) (o n : ℕ) → InSegment B (n % N) (begin_compaction N B e o n)
unfolding begin_compaction compaction_header header_at
begin_in_target N B e o n =
    let z : n % N * (B + 1) + 0 ≡ n % N * (B + 1) = omega arith in
    rw z at (page_in_segment B (n % N) 0 (compaction_header N B e n (o % N)) (omega arith) (compaction_in_page N B e n (o % N)))

-- the old segment holds after the first steps what it held before
same_entries : (N B : ℕ) (e : Version) (o n : ℕ) {b r : ℕ} {s u : Image} → 0 < N → Apart N o n → Programmed (begin_compaction N B e o n) b r s u → live_entries N B o u ≡ live_entries N B o s
unfolding live_entries
same_entries N B e o n p a d =
    ap (λ (ps : List Page). entries (map slot_of (drop 1 ps))) (pages_kept N B (o % N) (n % N) (mod-lt n {m = N} p) a (begin_in_target N B e o n) (d B))

pub compaction_done : (N B total o n i budget : ℕ) {b₁ b₂ b₃ b₄ left count : ℕ} {s s₁ s₂ s₃ s₄ u : Image} → Sized N B (length s) → Apart N o n → i ≡ o % N
    → Programmed (begin_compaction N B (new_version total) o n) budget b₁ s s₁ → Copied N B o n b₁ b₂ count s₁ s₂ → Programmed (finish_copy N B (new_version total) o n) b₂ b₃ s₂ s₃
    → Ran (erase i ∷ []) B b₃ b₄ s₃ s₄ → Programmed (settle N B n) b₄ left s₄ u → Compaction N B total o n budget left count s u
compaction_done N B total o n i budget {s = s} {s₁ = s₁} z a h begun copy pending clears settled =
    let es = live_entries N B o s in
    let ver = new_version total in
    let e : live_entries N B o s₁ ≡ es = same_entries N B ver o n z.some a begun in
    record {
      ran = rw (compact_parts N B ver o n es) (◌then◌ (begun B) (◌then◌ (rw e at (copy.ran B)) (◌then◌ (pending B) (◌then◌ (rw h at clears) (settled B)))));
      counted = rw e at copy.counted;
    }
