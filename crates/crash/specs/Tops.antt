-- Two images with the same top: the number after it, and its version, with the tally.
use Rattle.std.specs.Prelude.{ℕ, ◌/◌, ◌%◌, ◌≡◌, Bool, true, cond, [], get_or, set}
use Rattle.std.proofs.Math.Path.{refl, ap}
use Rattle.std.proofs.Common.{sym, ◌∙◌}
use Rattle.std.proofs.Math.Bool.{false}
use Rattle.model.specs.Chip.{Image}
use Rattle.model.specs.Header.{all_blank}
use Rattle.model.specs.Slot.{Slot}
use Rattle.model.specs.State.{Segment, blank, invalid, segment_of, segments_of, number_after, version_in, next_number, top_version, with_slot}
use Rattle.model.proofs.Laws.HeaderPage.{bit_6_unused}
use Rattle.model.proofs.Laws.Segments.{part_of, Only, only_segments}
use Rattle.model.proofs.Laws.Ring.{next_kept}
use Rattle.model.proofs.Laws.View.{with_slot_number, with_slot_version, version_kept}

pub record SameTop (N B : ℕ) (s u : Image) : Type 0 where
  pub next : next_number (segments_of N B u) ≡ next_number (segments_of N B s)
  pub version : top_version N (segments_of N B u) ≡ top_version N (segments_of N B s)

pub same_segments : (N B : ℕ) (s u : Image) → segments_of N B u ≡ segments_of N B s → SameTop N B s u
same_segments N B s u e = record { next = ap next_number e; version = ap (λ y. top_version N y) e }

pub same_image : (N B : ℕ) (s u : Image) → u ≡ s → SameTop N B s u
same_image N B s u e = same_segments N B s u (ap (λ y. segments_of N B y) e)

pub same_trans : (N B : ℕ) (s t u : Image) → SameTop N B s t → SameTop N B t u → SameTop N B s u
same_trans N B s t u a b = record { next = b.next ∙ a.next; version = b.version ∙ a.version }

-- a segment replaced by one with its number and version
pub same_set : (N B : ℕ) (s u : Image) (i : ℕ) (y : Segment) → segments_of N B u ≡ set (segments_of N B s) i y → number_after y ≡ number_after (get_or (segments_of N B s) i blank)
    → version_in y ≡ version_in (get_or (segments_of N B s) i blank) → SameTop N B s u
same_set N B s u i y e n v = record {
  next = ap next_number e ∙ next_kept (segments_of N B s) i y n;
  version = ap (λ x. top_version N x) e ∙ version_kept N (segments_of N B s) i y n v;
}

-- a slot changed
pub same_slot : (N B : ℕ) (s u : Image) (i j : ℕ) (k : Slot) → segments_of N B u ≡ set (segments_of N B s) i (with_slot j k (get_or (segments_of N B s) i blank)) → SameTop N B s u
same_slot N B s u i j k e = let x = get_or (segments_of N B s) i blank in same_set N B s u i (with_slot j k x) e (with_slot_number j k x) (with_slot_version j k x)

-- a blank segment touched, with bit 6 of its status still set
pub same_torn : (N B : ℕ) (s u : Image) (i : ℕ) → get_or (segments_of N B s) i blank ≡ blank → Only N B i s u → get_or (get_or (part_of N B i u) 0 []) 5 0 / 64 % 2 ≡ 1 → SameTop N B s u
same_torn N B s u i free o six = go (all_blank (part_of N B i u)) refl
  where
    kind : segment_of N B i (part_of N B i u) ≡ cond (all_blank (part_of N B i u)) blank invalid
    kind = unfold segment_of in (rw (bit_6_unused N B i (get_or (part_of N B i u) 0 []) six))

    like : (y : Segment) → segment_of N B i (part_of N B i u) ≡ y → number_after y ≡ 0 → version_in y ≡ version_in blank → SameTop N B s u
    like y e n v = same_set N B s u i y (only_segments N B i s u o ∙ ap (λ (x : Segment). set (segments_of N B s) i x) e)
        (n ∙ (unfold number_after in ap number_after (sym free))) (v ∙ ap version_in (sym free))

    go : (t : Bool) → all_blank (part_of N B i u) ≡ t → SameTop N B s u
    go true e = like blank (kind ∙ rw e) (unfold number_after in refl) refl
    go false e = like invalid (kind ∙ rw e) (unfold number_after in refl) (unfold version_in in refl)
