-- One event, on an image as demand 2 knows it: which slots read cut after it, which torn, and which dead, that did not before.
use Rattle.std.specs.Prelude.{ℕ, ◌≡◌, refl, ◌⊎◌, ◌≢◌, Bool, true, false}
use Rattle.std.proofs.Common.{sym, ap, ◌∙◌, subst, inl, inr, ⊎_elim, true≢false}
use Rattle.model.specs.Chip.{Image, Bytes, right_size}
use Rattle.model.specs.Slot.{torn, dead, cut, is_torn, is_cut}
use Rattle.model.specs.State.{holds, Place, case_a, case_b, case_c, case_d, unfinished, state}
use Rattle.model.specs.Table.{table_of}
use Rattle.model.specs.Answers.{Request, put, recover, work_of}
use Rattle.model.specs.Histories.{Seen, answered, lost, Does}
use Rattle.model.proofs.Laws.Chip.{whole_cut}
use Rattle.crash.specs.Machine.{IsCut}
use Rattle.crash.specs.Sound.{Sound, Clean, finished, CutOf}
use Rattle.crash.proofs.Requests.{idle_cut, ended_or_stopped}
use Rattle.crash.proofs.Works.{Works, idle, puts, deletes, recovers}
use Rattle.crash.proofs.Theorem.{request_laws}
use Rattle.origins.specs.Law.{slot_on, last_place, IsPut, IsRewrite, IsDelete}
use Rattle.origins.proofs.Fewer.{old_slot, no_new_image}
use Rattle.origins.proofs.Last.{others_stay, recovery_left}
use Rattle.origins.proofs.Torn.{untorn_clean}
use Rattle.origins.proofs.Recovers.{recovers_a, recovers_b, recovers_c, recovers_d}
use Rattle.origins.proofs.Puts.{dead_not, put_uncut, put_undead, delete_no_new}

-- ---- what an event has done

-- whether it was answered or lost, it left a cut of its steps
pub cut_of : (N B : ℕ) (r : Request) (o : Seen) (s m : Image) → Does N B r o s m → CutOf N B s r m
cut_of N B r lost s m c = c
cut_of N B r (answered y) s m (allowance, reply, image) = subst (λ (w : Image). CutOf N B s r w) (sym image)
    (⊎_elim (λ e. subst (λ (w : Image). CutOf N B s r w) (sym e.image) (whole_cut B (work_of N B s r).steps s)) (λ e. e.image) (ended_or_stopped N B s allowance r))

-- ---- kinds that differ

cut_torn : cut ≢ torn
unfolding is_cut
cut_torn e = true≢false (ap is_cut e)

dead_torn : dead ≢ torn
unfolding is_torn
dead_torn e = true≢false (sym (ap is_torn e))

-- ---- the slots

module _ (N B : ℕ) (s m : Image) (z : right_size N B s ≡ true) (sound : Sound N B s) (bytes : Bytes s) (p : Place) where
  -- a slot that reads cut did before, or a recovery of (c) has marked it
  pub new_cut : (r : Request) → Works N B s r → CutOf N B s r m → slot_on N B m p ≡ cut → (slot_on N B s p ≡ cut) ⊎ ((r ≡ recover) × (state N B s ≡ unfinished case_c) × (p ≡ last_place N B s))
  new_cut r (idle e) d h = inl (old_slot cut N B s m (no_new_image cut N B s m (idle_cut N B s m r e d)) p h)
  new_cut r (puts b c k v a) d h = inl (old_slot cut N B s m (put_uncut N B s z k b c bytes v a m d) p h)
  new_cut r (deletes b k a) d h = inl (old_slot cut N B s m (delete_no_new cut dead_not N B s z k b a m d) p h)
  new_cut r (recovers case_a e) d h = inl (old_slot cut N B s m (recovers_a cut tt N B s z sound e m d) p h)
  new_cut r (recovers case_b e) d h = inl (old_slot cut N B s m (recovers_b cut tt N B s z sound e m d) p h)
  new_cut r (recovers case_c e) d h = ⊎_elim (λ q. inl (old_slot cut N B s m (no_new_image cut N B s m q) p h))
      (λ q. ⊎_elim (λ a. inr (refl, e, a)) (λ a. inl (sym a ∙ (ap (λ y. slot_on N B y p) (sym q) ∙ h))) (others_stay N B s z e p)) (recovery_left N B s z e m d)
  new_cut r (recovers case_d e) d h = inl (old_slot cut N B s m (recovers_d cut dead_not N B s z e m d) p h)

  -- a slot that reads torn did before, or a put on a clean image that was cut has left it
  pub new_torn : (r : Request) (o : Seen) → Does N B r o s m → Works N B s r → CutOf N B s r m → slot_on N B m p ≡ torn → (slot_on N B s p ≡ torn) ⊎ (IsPut r × IsCut o × Clean N B s)
  new_torn r o w (idle e) d h = inl (old_slot torn N B s m (no_new_image torn N B s m (idle_cut N B s m r e d)) p h)
  new_torn r o w (puts b c k v a) d h = inr ((b, c, refl), cut_put_lem o w, k)
    where
      -- a whole put leaves a clean image
      whole : m ≡ finished N B s (put b c) → ⊥
      whole q = untorn_clean N B (finished N B s (put b c)) ((request_laws N B).put_done s b c z bytes k v a).0 p (ap (λ y. slot_on N B y p) (sym q) ∙ h)

      cut_put_lem : (x : Seen) → Does N B (put b c) x s m → IsCut x
      cut_put_lem lost y = inl refl
      cut_put_lem (answered y) (allowance, reply, image) = ⊎_elim (λ e. absurd (whole (image ∙ e.image))) (λ e. inr (ap answered (reply ∙ e.reply))) (ended_or_stopped N B s allowance (put b c))
  new_torn r o w (deletes b k a) d h = inl (old_slot torn N B s m (delete_no_new torn dead_torn N B s z k b a m d) p h)
  new_torn r o w (recovers case_a e) d h = inl (old_slot torn N B s m (recovers_a torn tt N B s z sound e m d) p h)
  new_torn r o w (recovers case_b e) d h = inl (old_slot torn N B s m (recovers_b torn tt N B s z sound e m d) p h)
  new_torn r o w (recovers case_c e) d h = inl (old_slot torn N B s m (recovers_c torn cut_torn N B s z e m d) p h)
  new_torn r o w (recovers case_d e) d h = inl (old_slot torn N B s m (recovers_d torn dead_torn N B s z e m d) p h)

  -- a slot that reads dead did before, or this is a rewrite, a delete, or a recovery of (d)
  pub new_dead : (r : Request) → Works N B s r → CutOf N B s r m → slot_on N B m p ≡ dead → (slot_on N B s p ≡ dead) ⊎ (IsRewrite N B s r ⊎ (IsDelete r ⊎ ((r ≡ recover) × (state N B s ≡ unfinished case_d))))
  new_dead r (idle e) d h = inl (old_slot dead N B s m (no_new_image dead N B s m (idle_cut N B s m r e d)) p h)
  new_dead r (puts b c k v a) d h = go (holds b (table_of N B s)) refl
    where
      go : (t : Bool) → holds b (table_of N B s) ≡ t → (slot_on N B s p ≡ dead) ⊎ (IsRewrite N B s (put b c) ⊎ (IsDelete (put b c) ⊎ ((put b c ≡ recover) × (state N B s ≡ unfinished case_d))))
      go true q = inr (inl (b, c, refl, q))
      go false q = inl (old_slot dead N B s m (put_undead N B s z k b c bytes v a m d q) p h)
  new_dead r (deletes b k a) d h = inr (inr (inl (b, refl)))
  new_dead r (recovers case_a e) d h = inl (old_slot dead N B s m (recovers_a dead tt N B s z sound e m d) p h)
  new_dead r (recovers case_b e) d h = inl (old_slot dead N B s m (recovers_b dead tt N B s z sound e m d) p h)
  new_dead r (recovers case_c e) d h = inl (old_slot dead N B s m (recovers_c dead (λ q. dead_not (sym q)) N B s z e m d) p h)
  new_dead r (recovers case_d e) d h = inr (inr (inr (refl, e)))
