-- A delete finished, and cut: it has done nothing, or all, since it is one step with no inside.
use Rattle.std.specs.Prelude.{ℕ, ◌%◌, ◌≡◌, ◌⊎◌, true, List, get_or, set}
use Rattle.std.proofs.Math.Path.{refl, ap}
use Rattle.std.proofs.Common.{sym, ◌∙◌, subst, inl, inr, ⊎_elim}
use Rattle.model.specs.Chip.{Image, Step, right_size, run}
use Rattle.model.specs.Header.{is_former}
use Rattle.model.specs.Slot.{empty, dead}
use Rattle.model.specs.State.{blank, segments_of, slots_in, View, with_slot, place_of, view}
use Rattle.model.specs.Steps.{mark_place, delete_steps}
use Rattle.model.specs.Table.{without, table_of}
use Rattle.model.specs.Answers.{delete, steps_for, work_of}
use Rattle.model.proofs.Laws.Tables.{agree_of}
use Rattle.bridge.specs.Views.Requests.{delete_removes}
use Rattle.bridge.specs.Predicted.{slot_changed, marked, after_delete}
use Rattle.bridge.specs.Held.{clean_view}
use Rattle.bridge.specs.Accepted.{accepted, delete_passed}
use Rattle.bridge.specs.Requests.{delete_done}
use Rattle.crash.specs.Sound.{Clean, finished, Accepted, CutOf, former_in, DoneWith, LeftWith}
use Rattle.crash.specs.Tops.{SameTop, same_image, same_slot}
use Rattle.crash.proofs.States.{clean_shows}
use Rattle.crash.proofs.RecoverMarks.{Marks, live_place, live_marks, mark_segments, mark_whole}

module _ (N B : ℕ) (s : Image) (b : ℕ) (z : right_size N B s ≡ true) (h : Clean N B s) (a : Accepted N B s (delete b)) where
  pub finished_delete : DoneWith N B (finished N B s (delete b)) (without b (table_of N B s)) (former_in N B s)
  unfolding table_of
  finished_delete =
      let d = delete_done N B s z h b a in
      (d.0, rw d.1 (delete_removes N B (view N B s) b (clean_view N B s z h) (delete_passed N B s b (accepted N B s (delete b) a).1)), ap (λ (y : View). is_former y.version) d.1 ∙ version)
    where
      version : is_former (after_delete b (view N B s)).version ≡ is_former (view N B s).version
      version = unfold after_delete marked slot_changed in refl

  steps : (work_of N B s (delete b)).steps ≡ mark_place N B (place_of b (view N B s))
  unfolding steps_for delete_steps view
  steps = (accepted N B s (delete b) a).0

  marks : Marks (get_or (slots_in (get_or (segments_of N B s) ((place_of b (view N B s)).number % N) blank)) (place_of b (view N B s)).slot empty) dead
  unfolding view
  marks = live_marks (live_place N (segments_of N B s) b (delete_passed N B s b (accepted N B s (delete b) a).1))

  -- one step without an inside
  pub delete_whole : (u : Image) → CutOf N B s (delete b) u → (u ≡ s) ⊎ (u ≡ finished N B s (delete b))
  delete_whole u c = ⊎_elim (λ q. inl q) (λ q. inr (q ∙ ap (λ (y : List Step). run B y s) (sym steps)))
      (mark_whole N B s z (place_of b (view N B s)).number (place_of b (view N B s)).slot dead marks u (rw steps at c))

  pub delete_cut : (u : Image) → CutOf N B s (delete b) u → LeftWith N B u (table_of N B s) (without b (table_of N B s)) (former_in N B s)
  delete_cut u c = ⊎_elim
      (λ q. subst Left (sym q) (let d = clean_shows N B s (table_of N B s) (former_in N B s) (h, agree_of (table_of N B s) (table_of N B s) refl, refl) in (d.0, inl d.1, d.2)))
      (λ q. subst Left (sym q) (let d = clean_shows N B (finished N B s (delete b)) (without b (table_of N B s)) (former_in N B s) finished_delete in (d.0, inr d.1, d.2)))
      (delete_whole u c)
    where
      Left : Image → Type 0
      Left y = LeftWith N B y (table_of N B s) (without b (table_of N B s)) (former_in N B s)

  -- the slot is marked or not
  pub delete_left : (u : Image) → CutOf N B s (delete b) u → (u ≡ s)
      ⊎ (segments_of N B u ≡ set (segments_of N B s) ((place_of b (view N B s)).number % N) (with_slot (place_of b (view N B s)).slot dead (get_or (segments_of N B s) ((place_of b (view N B s)).number % N) blank)))
  delete_left u c = ⊎_elim (λ q. inl q)
      (λ q. inr (ap (λ y. segments_of N B y) (q ∙ ap (λ (y : List Step). run B y s) steps) ∙ mark_segments N B s z (place_of b (view N B s)).number (place_of b (view N B s)).slot dead marks))
      (delete_whole u c)

  pub delete_top : (u : Image) → CutOf N B s (delete b) u → SameTop N B s u
  delete_top u c = ⊎_elim (λ q. same_image N B s u q) (λ q. same_slot N B s u ((place_of b (view N B s)).number % N) (place_of b (view N B s)).slot dead q) (delete_left u c)
