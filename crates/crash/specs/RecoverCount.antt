-- An erase counted in the top's header before it is made: whatever a cut leaves of that, only the top's tally differs.
use Rattle.std.specs.Prelude.{ℕ, ◌+◌, ◌-◌, ◌*◌, ◌%◌, ◌<◌, ◌≡◌, ◌≢◌, true, List, [], get_or}
use Rattle.std.proofs.Math.Path.{sym}
use Rattle.std.proofs.Common.{ap, ◌∙◌, arith, get_or-set_other}
use Rattle.std.proofs.Math.ListN.{set}
use Rattle.model.specs.Chip.{Image, Page, Step, number_limit, right_size, Cut}
use Rattle.model.specs.State.{Segment, blank, in_use, segments_of, slots_in, next_number, top_index, top_version}
use Rattle.model.specs.Steps.{on_page, header_at, count_erase}
use Rattle.model.proofs.Laws.Chip.{size_facts}
use Rattle.model.proofs.Laws.Segments.{parts, part_of, page_byte, Only}
use Rattle.model.proofs.Laws.Effects.{index, numbered_at, top_at}
use Rattle.model.proofs.Laws.Clean.{in_use_numbered}
use Rattle.model.proofs.Laws.Counted.{with_version, count_cut}
use Rattle.crash.specs.Alike.{Like}

-- ---- headers

-- byte k of the header page of segment i
pub header_byte_lem : (N B i k : ℕ) (s : Image) → i < N → k < 256 → get_or (get_or (part_of N B i s) 0 []) k 0 ≡ get_or s (i * (B + 1) * 256 + k) 0
header_byte_lem N B i k s h l = let e : i * (B + 1) + 0 ≡ i * (B + 1) = omega arith in rw e at (page_byte N B i 0 k s h (omega arith) l)

-- a segment that only another differs from
pub other_part : (N B i k : ℕ) (s u : Image) → Only N B i s u → k ≢ i → part_of N B k u ≡ part_of N B k s
other_part N B i k s u o n = ap (λ (y : List (List Page)). get_or y k []) o ∙ get_or-set_other (parts N B s) i k (part_of N B i u) [] n

-- byte k of the header of a segment that only another differs from
pub other_byte : (N B i j k : ℕ) (s u : Image) → Only N B i s u → j ≢ i → j < N → k < 256 → get_or u (j * (B + 1) * 256 + k) 0 ≡ get_or s (j * (B + 1) * 256 + k) 0
other_byte N B i j k s u o n h l = sym (header_byte_lem N B j k u h l) ∙ (ap (λ (y : List Page). get_or (get_or y 0 []) k 0) (other_part N B i j s u o n) ∙ header_byte_lem N B j k s h l)

-- ---- an erase counted in the top

-- the steps that count
abbrev pub counts : ℕ → ℕ → List Segment → List Step
counts N B l = on_page (header_at N B (next_number l - 1)) (count_erase (top_version N l))

module _ (N B : ℕ) (s : Image) (z : right_size N B s ≡ true) (some : 0 < next_number (segments_of N B s)) where
  abbrev l : List Segment
  l = segments_of N B s

  abbrev n : ℕ
  n = next_number l - 1

  pub top : (st : ℕ) × (get_or (segments_of N B s) ((next_number (segments_of N B s) - 1) % N) blank
      ≡ in_use (top_version N (segments_of N B s)) st (next_number (segments_of N B s) - 1) (slots_in (get_or (segments_of N B s) ((next_number (segments_of N B s) - 1) % N) blank)))
  unfolding top_version top_index
  top = in_use_numbered (get_or l (n % N) blank) n (top_at N B s some ∙ omega (arith, some))

  pub top_below : next_number (segments_of N B s) - 1 < number_limit N
  top_below = let size = size_facts N B s z in (numbered_at N B s (n % N) n (index N B size.two s size.whole n) (top_at N B s some ∙ omega (arith, some))).1

  -- whatever a cut leaves of them, only the top's tally differs
  pub counted_like : (u : Image) → Cut B (counts N B (segments_of N B s)) s u → Only N B ((next_number (segments_of N B s) - 1) % N) s u × Like N (segments_of N B s) (segments_of N B u)
  unfolding top_index with_version
  counted_like u c =
      let size = size_facts N B s z in
      let r = count_cut N B size.two size.most size.most_b s size.whole n top_below top.0 (slots_in (get_or l (n % N) blank)) (top_version N l) top.1 u c in (
        r.0,
        record { version = r.1.0; number = r.1.1; segments = r.1.2 ∙ sym (ap (λ (y : Segment). set l (n % N) (with_version r.1.0 y)) top.1) },
      )
