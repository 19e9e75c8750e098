-- A recovery, whole or cut: of (a) and of (b) it makes no slot read any kind newly; of (c) only cut, and of (d) only dead.
use Rattle.std.specs.Prelude.{ℕ, ◌-◌, ◌%◌, ◌≡◌, ◌≢◌, true, false, List, [], ◌∷◌, ◌++◌, get_or, set}
use Rattle.std.proofs.Math.Path.{refl}
use Rattle.std.proofs.Common.{sym, ap, ◌∙◌, inr, ⊎_elim}
use Rattle.std.proofs.lemmas.List.{set-get_or}
use Rattle.model.specs.Chip.{Image, Step, erase, right_size, run, Cut}
use Rattle.model.specs.Header.{Version}
use Rattle.model.specs.Slot.{Slot, dead, cut}
use Rattle.model.specs.State.{Segment, blank, invalid, in_use, is_owing, segments_of, slots_in, next_number, top_index, next_blanked, last_slot, older, Place, case_a, case_b, case_c, case_d, unfinished, state}
use Rattle.model.specs.Steps.{settle, mend_steps}
use Rattle.model.specs.Answers.{recover}
use Rattle.model.proofs.Laws.Chip.{size_facts, run_size, cut_append, cut_size, whole_cut}
use Rattle.model.proofs.Laws.Segments.{segments_length}
use Rattle.model.proofs.Laws.Counted.{with_version, with_version_number, with_version_owing}
use Rattle.crash.specs.Sound.{Sound, CutOf}
use Rattle.crash.specs.Alike.{Like, like_blanked}
use Rattle.crash.proofs.States.{recover_steps_lem}
use Rattle.crash.specs.RecoverCount.{counts, counted_like}
use Rattle.crash.proofs.RecoverMarks.{mark_segments, mark_whole}
use Rattle.crash.proofs.RecoverErase
use Rattle.crash.proofs.RecoverOwing
use Rattle.crash.proofs.OwingCuts
use Rattle.origins.specs.Law.{read_at}
use Rattle.origins.proofs.Readings.{Telling, reads_same}
use Rattle.origins.proofs.Fewer.{Fewer, fewer_set, owing_force, replaced_force, NoNew, no_new_image, no_new_trans, no_new_replaced, no_new_slot, no_new_unused}
use Rattle.origins.proofs.Last.{last_paid, recovered_segments, recovery_left}
use Rattle.origins.proofs.Torn.{paid_a, owing_b, marks_d, paid_d}
use Rattle.origins.proofs.Owing.{settling, ending}

-- ---- the count in the top

version_reads : (e : Version) (x : Segment) (p : Place) → read_at (with_version e x) p ≡ read_at x p
version_reads e x p = reads_same x (with_version e x) p (with_version_number e x) (slots x)
  where
    slots : (y : Segment) → slots_in (with_version e y) ≡ slots_in y
    slots blank = unfold with_version in refl
    slots invalid = unfold with_version in refl
    slots (in_use ver st n ks) = unfold with_version slots_in in refl

fewer_like : (k : Slot) (N : ℕ) (a b : List Segment) → Like N a b → Fewer k a b
fewer_like k N a b h = let x = get_or a (top_index N a) blank in
    rw h.segments (fewer_set k a (top_index N a) (with_version h.version x) (λ p q. sym (version_reads h.version x p) ∙ q))

counted_paid : (k : Slot) (N B : ℕ) (s u : Image) → is_owing (get_or (segments_of N B s) (top_index N (segments_of N B s)) blank) ≡ false → Like N (segments_of N B s) (segments_of N B u) → NoNew k N B s u
counted_paid k N B s u paid h =
    let l = segments_of N B s in
    let x = get_or l (top_index N l) blank in
    let y = with_version h.version x in
    no_new_replaced k N B s u (top_index N l) y h.segments paid (replaced_force N l (top_index N l) y paid (with_version_number h.version x) (with_version_owing h.version x))
    (λ p q. sym (version_reads h.version x p) ∙ q)

module _ (k : Slot) (told : Telling k) (N B : ℕ) (s : Image) (z : right_size N B s ≡ true) (sound : Sound N B s) where
  abbrev l : List Segment
  l = segments_of N B s

  -- ---- (a)

  pub recovers_a : state N B s ≡ unfinished case_a → (u : Image) → CutOf N B s recover u → NoNew k N B s u
  recovers_a e u c = ⊎_elim (λ d. counted u d)
      (λ d. let (y, q, new) = RecoverErase.erase_left N B t u zt st (RecoverErase.counted_kept N B s t z e sound whole).0 (rw (RecoverErase.counted_next N B s z e t whole) d) in
      no_new_trans k N B s t u (counted t whole) (no_new_unused k told N B t u (next_number (segments_of N B t) % N) y q (inr (RecoverErase.torn_segment N B t zt st)) new (paid_a N B t zt st)))
      (cut_append B (counts N B l) (erase (next_number l % N) ∷ []) s u (rw (recover_steps_lem N B s case_a z e ∙ RecoverErase.steps_a N B s z e) at c))
    where
      t : Image
      t = run B (counts N B (segments_of N B s)) s

      whole : Cut B (counts N B (segments_of N B s)) s t
      whole = whole_cut B (counts N B (segments_of N B s)) s

      zt : right_size N B t ≡ true
      zt = run_size N B (counts N B (segments_of N B s)) s ∙ z

      st : state N B t ≡ unfinished case_a
      st = RecoverErase.counted_state N B s z e t whole

      counted : (w : Image) → Cut B (counts N B (segments_of N B s)) s w → NoNew k N B s w
      counted w d = counted_paid k N B s w (paid_a N B s z e) (counted_like N B s z (RecoverErase.some N B s z e) w d).1

  -- ---- (b)

  pub recovers_b : state N B s ≡ unfinished case_b → (u : Image) → CutOf N B s recover u → NoNew k N B s u
  recovers_b e u c = RecoverOwing.by_old N B s z e (NoNew k N B s u) (λ q d. settled_alone q (rw (recover_steps_lem N B s case_b z e ∙ d) at c)) (λ q d. counted_first (rw (recover_steps_lem N B s case_b z e ∙ d) at c))
    where
      mark : List Step
      mark = settle N B (next_number (segments_of N B s) - 1)

      -- where the old segment is blank already
      settled_alone : get_or (segments_of N B s) (next_number (segments_of N B s) % N) blank ≡ blank → Cut B mark s u → NoNew k N B s u
      settled_alone q d =
          let n = next_number (segments_of N B s) % N in
          let same : segments_of N B s ≡ set (segments_of N B s) n blank = sym (ap (λ (y : Segment). set (segments_of N B s) n y) (sym q) ∙ set-get_or (segments_of N B s) n blank) in
          let whole = (size_facts N B s z).whole in
          ⊎_elim (λ w. no_new_image k N B s u w)
          (λ w. settling k N B s z e u (ap (λ y. segments_of N B y) w ∙ RecoverOwing.settled_there N B s z e s whole same))
          (RecoverOwing.settle_whole N B s z e s whole same u d)

      t : Image
      t = run B (counts N B (segments_of N B s)) s

      first : Cut B (counts N B (segments_of N B s)) s t
      first = whole_cut B (counts N B (segments_of N B s)) s

      zt : right_size N B t ≡ true
      zt = run_size N B (counts N B (segments_of N B s)) s ∙ z

      st : state N B t ≡ unfinished case_b
      st = RecoverOwing.counted_state N B s z e t first

      -- the top owes before and after the count
      counted : (w : Image) → Cut B (counts N B (segments_of N B s)) s w → NoNew k N B s w
      counted w d =
          let zw = cut_size N B (counts N B (segments_of N B s)) s w d ∙ z in
          rw (owing_force N (segments_of N B s) (owing_b N B s z e), owing_force N (segments_of N B w) (owing_b N B w zw (RecoverOwing.counted_state N B s z e w d)))
          (fewer_like k N (next_blanked N (segments_of N B s)) (next_blanked N (segments_of N B w))
          (like_blanked N (segments_of N B s) (segments_of N B w) (RecoverOwing.left N B s z e w d).1 (RecoverOwing.in_list N B s z e w d) (segments_length N B s) (RecoverOwing.two N B s z e) (RecoverOwing.some N B s z e) (RecoverOwing.blanked_same N B s z e)))

      counted_first : Cut B (counts N B (segments_of N B s) ++ (erase (next_number (segments_of N B s) % N) ∷ mark)) s u → NoNew k N B s u
      counted_first d = ⊎_elim (λ a. counted u a)
          (λ a. no_new_trans k N B s t u (counted t first) (ending k N B t zt st (OwingCuts.counted_kept N B s z e sound t first).0 u (rw (RecoverOwing.counted_next N B s z e t first) a)))
          (cut_append B (counts N B (segments_of N B s)) (erase (next_number (segments_of N B s) % N) ∷ mark) s u d)

-- ---- (c) and (d)

pub recovers_c : (k : Slot) → cut ≢ k → (N B : ℕ) (s : Image) → right_size N B s ≡ true → state N B s ≡ unfinished case_c → (u : Image) → CutOf N B s recover u → NoNew k N B s u
recovers_c k n N B s z e u c = ⊎_elim (λ q. no_new_image k N B s u q)
    (λ q. no_new_slot k N B s u ((next_number (segments_of N B s) - 1) % N) (last_slot N (segments_of N B s)) cut n (ap (λ y. segments_of N B y) q ∙ recovered_segments N B s z e) (last_paid N B s z e))
    (recovery_left N B s z e u c)

pub recovers_d : (k : Slot) → dead ≢ k → (N B : ℕ) (s : Image) → right_size N B s ≡ true → state N B s ≡ unfinished case_d → (u : Image) → CutOf N B s recover u → NoNew k N B s u
unfolding mend_steps
recovers_d k n N B s z e u c =
    let p = older N (segments_of N B s) in
    ⊎_elim (λ q. no_new_image k N B s u q)
    (λ q. no_new_slot k N B s u (p.number % N) p.slot dead n (ap (λ y. segments_of N B y) q ∙ mark_segments N B s z p.number p.slot dead (marks_d N B s z e)) (paid_d N B s z e))
    (mark_whole N B s z p.number p.slot dead (marks_d N B s z e) u (rw (recover_steps_lem N B s case_d z e) at c))
