-- Where a slot in use may be torn: in (c), and there the last of the top alone. With it, which cases have a top that owes.
use Rattle.std.specs.Prelude.{ℕ, ◌%◌, ◌≡◌, ◌≢◌, true, false, List, length, get_or, set}
use Rattle.std.proofs.Math.Path.{refl, sym}
use Rattle.std.proofs.Common.{ap, ◌∙◌, subst, inr, ⊎_elim, length-set}
use Rattle.std.proofs.Math.Bool.{true≢false}
use Rattle.model.specs.Chip.{Image, right_size}
use Rattle.model.specs.Slot.{Slot, empty, torn, dead, is_cut}
use Rattle.model.specs.State.{Segment, blank, invalid, in_use, is_owing, segments_of, number_after, slots_in, next_number, top_index, next_index, is_clean, next_blanked, settled, top_settled, with_slot, older, older_marked, Place, Exception, case_a, case_b, case_c, case_d, State, clean, unfinished, damaged, state}
use Rattle.model.specs.Histories.{recovered}
use Rattle.model.proofs.Laws.Segments.{segments_length}
use Rattle.model.proofs.Laws.Ring.{get_kept}
use Rattle.model.proofs.Laws.Clean.{state_clean}
use Rattle.model.proofs.Laws.View.{with_slot_owing}
use Rattle.crash.specs.Sound.{SoundAs, Sound}
use Rattle.crash.proofs.States.{mended, mended_clean, case_of}
use Rattle.crash.proofs.RecoverMarks.{Marks, older_marks}
use Rattle.crash.proofs.RecoverErase.{torn_segment}
use Rattle.crash.proofs.RecoverOwing.{owing}
use Rattle.crash.proofs.Recover.{recover_done}
use Rattle.origins.specs.Law.{read_at, in_force, slot_on, last_place}
use Rattle.origins.proofs.Readings.{slot_reads, Telling, not_telling, reads_same, blank_reads, read_taken, slot_elsewhere}
use Rattle.origins.proofs.Fewer.{Fewer, fewer_same, fewer_set, fewer_back, paid_force, owing_force, clean_paid, unused_reads}
use Rattle.origins.proofs.Untorn.{clean_untorn}
use Rattle.origins.proofs.Last.{others_stay}

-- a settled segment reads as it did
pub settled_reads : (x : Segment) (p : Place) → read_at (settled x) p ≡ read_at x p
settled_reads x p = reads_same x (settled x) p (number x) (slots x)
  where
    number : (y : Segment) → number_after (settled y) ≡ number_after y
    number blank = unfold settled in refl
    number invalid = unfold settled in refl
    number (in_use ver st n ks) = unfold settled number_after in refl

    slots : (y : Segment) → slots_in (settled y) ≡ slots_in y
    slots blank = unfold settled in refl
    slots invalid = unfold settled in refl
    slots (in_use ver st n ks) = unfold settled slots_in in refl

-- ---- a clean image

module _ (N B : ℕ) (s : Image) where
  abbrev l : List Segment
  l = segments_of N B s

  size : length l ≡ N
  size = segments_length N B s

  -- segments that are clean, and read torn wherever those in use do
  untorn_by : (m : List Segment) → length m ≡ N → is_clean N B m ≡ true → Fewer torn m (in_force N (segments_of N B s)) → (p : Place) → slot_on N B s p ≢ torn
  unfolding slot_on
  untorn_by m e c f p h = clean_untorn N B m e c p (f (p.number % N) p (sym (slot_reads N l p) ∙ h))

  pub clean_top : state N B s ≡ clean → is_owing (get_or (segments_of N B s) (top_index N (segments_of N B s)) blank) ≡ false
  unfolding state
  clean_top e = clean_paid N B l (top_index N l) size (state_clean N B l e)

  pub untorn_clean : state N B s ≡ clean → (p : Place) → slot_on N B s p ≢ torn
  unfolding state
  untorn_clean e = untorn_by l size (state_clean N B l e) (fewer_same torn l (in_force N l) (paid_force N l (clean_top e)))

-- ---- the cases

module _ (N B : ℕ) (s : Image) (z : right_size N B s ≡ true) where
  abbrev list : List Segment
  list = segments_of N B s

  count : length (segments_of N B s) ≡ N
  count = segments_length N B s

  -- ---- (a)

  module _ (e : state N B s ≡ unfinished case_a) where
    abbrev k : ℕ
    k = next_number (segments_of N B s) % N

    clean_a : is_clean N B (set list k blank) ≡ true
    unfolding state mended next_blanked next_index
    clean_a = mended_clean N B list case_a (case_of N B list case_a e)

    pub paid_a : is_owing (get_or (segments_of N B s) (top_index N (segments_of N B s)) blank) ≡ false
    unfolding is_owing
    paid_a = sym (get_kept is_owing list k blank (ap is_owing (sym (torn_segment N B s z e))) (top_index N list)) ∙ clean_paid N B (set list k blank) (top_index N list) (length-set list k blank ∙ count) clean_a

    untorn_a : (p : Place) → slot_on N B s p ≢ torn
    untorn_a = untorn_by N B s (set list k blank) (length-set list k blank ∙ count) clean_a
        (rw (paid_force N list paid_a) (fewer_back torn list k blank (λ p h. blank_reads p ∙ (sym (unused_reads (get_or list k blank) (inr (torn_segment N B s z e)) p) ∙ h))))

  -- ---- (b)

  module _ (e : state N B s ≡ unfinished case_b) where
    pub owing_b : is_owing (get_or (segments_of N B s) (top_index N (segments_of N B s)) blank) ≡ true
    unfolding top_index
    owing_b = owing N B s z e

    abbrev old : List Segment
    old = next_blanked N (segments_of N B s)

    -- the top with the segment after it left aside reads as the top does
    top_reads : (k : Slot) → Telling k → (p : Place) → read_at (get_or old (top_index N list) blank) p ≡ k → read_at (get_or list (top_index N list) blank) p ≡ k
    unfolding next_blanked
    top_reads k t p h = fewer_set k list (next_index N list) blank (λ p q. absurd (not_telling empty k t (λ x. x) (sym (blank_reads p) ∙ q))) (top_index N list) p h

    untorn_b : (p : Place) → slot_on N B s p ≢ torn
    unfolding state mended top_settled next_blanked
    untorn_b = untorn_by N B s (top_settled N list) (length-set old (top_index N list) (settled (get_or list (top_index N list) blank)) ∙ (length-set list (next_index N list) blank ∙ count)) (mended_clean N B list case_b (case_of N B list case_b e))
        (rw (owing_force N list owing_b) (fewer_back torn old (top_index N list) (settled (get_or list (top_index N list) blank)) (λ p h. settled_reads (get_or list (top_index N list) blank) p ∙ top_reads torn tt p h)))

  -- ---- (d)

  module _ (e : state N B s ≡ unfinished case_d) where
    abbrev i : ℕ
    i = (older N (segments_of N B s)).number % N

    abbrev j : ℕ
    j = (older N (segments_of N B s)).slot

    abbrev x : Segment
    x = get_or (segments_of N B s) ((older N (segments_of N B s)).number % N) blank

    abbrev marked : List Segment
    marked = set (segments_of N B s) i (with_slot j dead x)

    pub marks_d : Marks (get_or (slots_in (get_or (segments_of N B s) ((older N (segments_of N B s)).number % N) blank)) (older N (segments_of N B s)).slot empty) dead
    unfolding state
    marks_d = older_marks N B list (case_of N B list case_d e)

    clean_d : is_clean N B marked ≡ true
    unfolding state mended older_marked
    clean_d = mended_clean N B list case_d (case_of N B list case_d e)

    pub paid_d : is_owing (get_or (segments_of N B s) (top_index N (segments_of N B s)) blank) ≡ false
    paid_d = sym (get_kept is_owing list i (with_slot j dead x) (with_slot_owing j dead x) (top_index N list)) ∙ clean_paid N B marked (top_index N list) (length-set list i (with_slot j dead x) ∙ count) clean_d

    -- the slot that is marked is live
    live_there : get_or (slots_in x) j empty ≢ torn
    unfolding is_cut
    live_there h = true≢false (sym (ap is_cut (subst (λ y. Marks y dead) h marks_d)))

    untorn_d : (p : Place) → slot_on N B s p ≢ torn
    untorn_d = untorn_by N B s marked (length-set list i (with_slot j dead x) ∙ count) clean_d (rw (paid_force N list paid_d) (fewer_back torn list i (with_slot j dead x) stays))
      where
        stays : (p : Place) → read_at x p ≡ torn → read_at (with_slot j dead x) p ≡ torn
        stays p h = ⊎_elim (λ a. absurd (live_there (ap (λ (y : ℕ). get_or (slots_in x) y empty) (sym a.0.1) ∙ (read_taken x p torn tt h).1))) (λ a. a ∙ h) (slot_elsewhere j dead x p)

  -- ---- all cases

  pub torn_last_lem : Sound N B s → (p : Place) → slot_on N B s p ≡ torn → (state N B s ≡ unfinished case_c) × (p ≡ last_place N B s)
  torn_last_lem h p t = go (state N B s) refl h
    where
      case : (y : Exception) → state N B s ≡ unfinished y → (state N B s ≡ unfinished case_c) × (p ≡ last_place N B s)
      case case_a e = absurd (untorn_a e p t)
      case case_b e = absurd (untorn_b e p t)
      case case_c e = (e, ⊎_elim (λ q. q) (λ q. absurd (marked_untorn (q ∙ t))) (others_stay N B s z e p))
        where
          marked_untorn : slot_on N B (recovered N B s) p ≢ torn
          marked_untorn = untorn_clean N B (recovered N B s) (recover_done N B s z h) p
      case case_d e = absurd (untorn_d e p t)

      go : (y : State) → state N B s ≡ y → SoundAs N B s (segments_of N B s) y → (state N B s ≡ unfinished case_c) × (p ≡ last_place N B s)
      go clean e k = absurd (untorn_clean N B s e p t)
      go (unfinished y) e k = case y e
      go damaged e k = absurd k
