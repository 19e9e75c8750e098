-- An owing top, as a compaction and a cut recovery leave it. The segment after it is left aside, so that a cut erase of it makes nothing; and settling the top keeps what it reads.
use Rattle.std.specs.Prelude.{ℕ, ◌-◌, ◌%◌, ◌≤◌, ◌≡◌, true, List, [], ◌∷◌}
use Rattle.std.proofs.Math.Path.{sym, ap}
use Rattle.std.proofs.Common.{◌∙◌, length-set, set-set}
use Rattle.std.proofs.Math.Logic.{⊎_elim}
use Rattle.std.proofs.Math.ListN.{get_or, set}
use Rattle.std.proofs.Math.Seq.{get_or-set_other}
use Rattle.model.specs.Chip.{Image, erase, right_size, step, run, Cut}
use Rattle.model.specs.Slot.{Slot}
use Rattle.model.specs.State.{Segment, blank, is_owing, segments_of, number_after, next_number, top_index, next_index, next_blanked, settled, top_settled, case_b, unfinished, state}
use Rattle.model.specs.Steps.{settle}
use Rattle.model.proofs.Laws.Chip.{cut_append, whole_cut}
use Rattle.model.proofs.Laws.Segments.{segments_length}
use Rattle.crash.specs.Sound.{Sound}
use Rattle.crash.proofs.States.{mended, mended_clean, case_of}
use Rattle.crash.proofs.RecoverOwing.{apart, replaced_next, replaced_top, settle_whole, settled_there, wiped_segments, wiped_size}
use Rattle.crash.proofs.OwingCuts.{erasing_left}
use Rattle.origins.specs.Law.{read_at, in_force}
use Rattle.origins.proofs.Fewer.{fewer_same, fewer_set, owing_force, clean_force, NoNew, no_new_image, no_new_trans}
use Rattle.origins.proofs.Torn.{settled_reads, owing_b}

module _ (k : Slot) (N B : ℕ) (s : Image) (z : right_size N B s ≡ true) (e : state N B s ≡ unfinished case_b) where
  abbrev l : List Segment
  l = segments_of N B s

  abbrev i : ℕ
  i = next_number (segments_of N B s) % N

  -- another segment after the top: the same segments are in use
  replaced_aside : (u : Image) (y : Segment) → segments_of N B u ≡ set (segments_of N B s) (next_number (segments_of N B s) % N) y → number_after y ≤ next_number (segments_of N B s) → NoNew k N B s u
  unfolding next_blanked next_index
  replaced_aside u y q small = fewer_same k (in_force N l) (in_force N (segments_of N B u)) (ap (λ x. in_force N x) q
      ∙ (owing_force N (set l i y) (ap is_owing (replaced_top N B s z e y small) ∙ owing_b N B s z e)
      ∙ (ap (λ (x : ℕ). set (set l i y) (x % N) blank) (replaced_next N B s z e y small) ∙ (set-set l i y blank ∙ sym (owing_force N l (owing_b N B s z e))))))

  -- the top settled, with that segment blank
  pub settling : (u : Image) → segments_of N B u ≡ mended N (segments_of N B s) case_b → NoNew k N B s u
  unfolding state mended top_settled next_blanked next_index top_index
  settling u q =
      let old = set l i blank in
      let t = (next_number l - 1) % N in
      let x = get_or l t blank in
      let here : get_or old t blank ≡ x = get_or-set_other l i t blank blank (apart N B s z e) in
      let force : in_force N (segments_of N B u) ≡ set old t (settled x) =
      ap (λ y. in_force N y) q ∙ clean_force N B (set old t (settled x)) (length-set old t (settled x) ∙ (length-set l i blank ∙ segments_length N B s)) (mended_clean N B l case_b (case_of N B l case_b e)) in
      rw (owing_force N l (owing_b N B s z e), force) (fewer_set k old t (settled x) (λ p h. ap (λ y. read_at y p) here ∙ (sym (settled_reads x p) ∙ h)))

  -- the erase and the status, cut anywhere
  module _ (sound : Sound N B s) where
    erasing : (u : Image) → Cut B (erase (next_number (segments_of N B s) % N) ∷ []) s u → NoNew k N B s u
    erasing u c = ⊎_elim (λ q. no_new_image k N B s u q) (λ q. replaced_aside u q.0 q.1 q.2) (erasing_left N B s z e sound u c)

    pub ending : (u : Image) → Cut B (erase (next_number (segments_of N B s) % N) ∷ settle N B (next_number (segments_of N B s) - 1)) s u → NoNew k N B s u
    unfolding run
    ending u c =
        let t = step B (erase i) s in
        ⊎_elim (λ d. erasing u d)
        (λ d. ⊎_elim (λ q. no_new_trans k N B s t u (erasing t (whole_cut B (erase i ∷ []) s)) (no_new_image k N B t u q))
        (λ q. settling u (ap (λ y. segments_of N B y) q ∙ settled_there N B s z e t (wiped_size N B s z e) (wiped_segments N B s z e)))
        (settle_whole N B s z e t (wiped_size N B s z e) (wiped_segments N B s z e) u d))
        (cut_append B (erase i ∷ []) (settle N B (next_number l - 1)) s u c)
