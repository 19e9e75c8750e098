-- Steps that touch only the segment after the top and leave bit 6 of its status set: the image is clean still, or in state (a), with the old table.
use Rattle.std.specs.Prelude.{ℕ, suc, ◌/◌, ◌%◌, ◌<◌, ◌≡◌, refl, Bool, true, false, cond, List, [], length, get_or, set}
use Rattle.std.proofs.Math.Path.{sym}
use Rattle.std.proofs.Common.{ap, ◌∙◌, arith, set-set, get_or-set_same}
use Rattle.std.proofs.lemmas.List.{set-get_or}
use Rattle.model.specs.Chip.{Image, right_size}
use Rattle.model.specs.Header.{all_blank}
use Rattle.model.specs.State.{Segment, blank, invalid, segment_of, segments_of, is_invalid, number_after, next_number, next_index, View, view_of, view, is_clean, next_blanked, is_a, case_a, clean, unfinished}
use Rattle.model.specs.Steps.{header_at, top_number}
use Rattle.model.specs.Laws.Lists.{and_both}
use Rattle.model.proofs.Laws.HeaderPage.{bit_6_unused}
use Rattle.model.proofs.Laws.Segments.{part_of, Only, only_segments}
use Rattle.model.proofs.Laws.Ring.{next_kept}
use Rattle.model.proofs.Laws.Clean.{index_inside}
use Rattle.bridge.specs.Predicted.{CleanView}
use Rattle.bridge.specs.Held.{Held, held_top, held_clean, clean_of_held}
use Rattle.bridge.specs.Done.{next_free}
use Rattle.crash.specs.Sound.{SoundAs}
use Rattle.crash.proofs.States.{is_case, mended, SoundWith, segments_state, clean_with}
use Rattle.crash.specs.RecoverCount.{header_byte_lem}
use Rattle.crash.proofs.Recover.{case_shows}

-- an image with the segments of a clean one that is held shows its view
pub held_shows : (N B : ℕ) (s : Image) (v : View) (u : Image) → Held N B s v → CleanView N B v → segments_of N B u ≡ segments_of N B s → SoundWith N B u v
unfolding view
held_shows N B s v u h c e = clean_with N B u v (segments_state N B s u clean e (clean_of_held N B s v h c)) (ap (λ y. view_of N y) e ∙ h.view)

-- bit 6 of a status byte
abbrev pub BitSix : ℕ → Type 0
BitSix x = x / 64 % 2 ≡ 1

module _ (N B : ℕ) (s : Image) (v : View) (h : Held N B s v) (c : CleanView N B v) where
  abbrev segments : List Segment
  segments = segments_of N B s

  -- the index after the top's
  abbrev i : ℕ
  i = suc (top_number v) % N

  inside : i < length segments
  inside = index_inside N segments h.ring (suc (top_number v))

  blanked : set segments i blank ≡ segments
  blanked = ap (λ (y : Segment). set segments i y) (sym (next_free N B s v h)) ∙ set-get_or segments i blank

  abbrev spoilt : List Segment
  spoilt = set segments i invalid

  spoilt_next : next_number spoilt ≡ suc (top_number v)
  spoilt_next = next_kept segments i invalid (unfold number_after in (ap number_after (sym (next_free N B s v h)))) ∙ sym (held_top N B s v h)

  spoilt_mended : mended N spoilt case_a ≡ segments
  unfolding mended next_blanked next_index
  spoilt_mended = rw spoilt_next (set-set segments i invalid blank ∙ blanked)

  spoilt_case : is_case N B spoilt case_a ≡ true
  unfolding is_case is_a next_index is_invalid mended
  spoilt_case = and_both (is_invalid (get_or spoilt (next_number spoilt % N) blank)) (is_clean N B (next_blanked N spoilt))
      (rw spoilt_next (ap is_invalid (get_or-set_same segments i invalid blank inside))) (ap (λ y. is_clean N B y) spoilt_mended ∙ held_clean N B s v h c)

  spoilt_left : (u : Image) → right_size N B u ≡ true → segments_of N B u ≡ spoilt → BitSix (get_or (get_or (part_of N B i u) 0 []) 5 0) → SoundWith N B u v
  unfolding view header_at
  spoilt_left u z e six =
      let low : i < N = omega (arith, inside, h.ring.size) in
      let bit : SoundAs N B u (segments_of N B u) (unfinished case_a) = rw (e, spoilt_next, ← (header_byte_lem N B i 5 u low (omega arith))) six in
      rw h.view at (case_shows N B u case_a z (rw e spoilt_case) segments (rw e spoilt_mended) bit)

  pub next_torn : (u : Image) → right_size N B u ≡ true → Only N B i s u → BitSix (get_or (get_or (part_of N B i u) 0 []) 5 0) → SoundWith N B u v
  next_torn u z o six = go (all_blank (part_of N B i u)) refl
    where
      kind : segment_of N B i (part_of N B i u) ≡ cond (all_blank (part_of N B i u)) blank invalid
      kind = unfold segment_of in (rw (bit_6_unused N B i (get_or (part_of N B i u) 0 []) six))

      go : (t : Bool) → all_blank (part_of N B i u) ≡ t → SoundWith N B u v
      go true e = held_shows N B s v u h c (only_segments N B i s u o ∙ (ap (λ (y : Segment). set segments i y) (kind ∙ rw e) ∙ blanked))
      go false e = spoilt_left u z (only_segments N B i s u o ∙ ap (λ (y : Segment). set segments i y) (kind ∙ rw e)) six
