-- The induction over histories, from the end to the start: what reads cut at the end was cut at the start, or torn there and marked later, or both happened in between.
use Rattle.std.specs.Prelude.{ℕ, ◌≡◌, refl, ◌⊎◌, ◌≢◌, true, false, List, [], ◌∷◌}
use Rattle.std.proofs.Common.{sym, ap, ◌∙◌, subst, inl, inr, ⊎_elim, true≢false}
use Rattle.model.specs.Chip.{Image, Bytes, right_size, run}
use Rattle.model.specs.Slot.{Slot, empty, torn, dead, cut, wrong, live, is_dead, is_cut, is_replaced}
use Rattle.model.specs.State.{Place, case_c, unfinished, state}
use Rattle.model.specs.Steps.{format_steps}
use Rattle.model.specs.Answers.{Request, recover}
use Rattle.model.specs.Histories.{Seen, Proper, Does, Event, History, wears}
use Rattle.model.proofs.Laws.Chip.{run_size}
use Rattle.crash.specs.Machine.{Promise, settled, interrupted, unknown, IsCut, OnTable}
use Rattle.crash.specs.Sound.{Sound, Clean, CutOf}
use Rattle.crash.proofs.Requests.{sound_clean}
use Rattle.crash.proofs.ReadingRuns.{Known, move_known}
use Rattle.crash.specs.Invariant.{Invariant}
use Rattle.crash.proofs.Skeleton.{one_event}
use Rattle.crash.proofs.Works.{Works, works, may}
use Rattle.crash.proofs.Starts.{formatted_stores}
use Rattle.crash.proofs.Theorem.{request_laws}
use Rattle.origins.specs.Law.{slot_on, last_place, Unformatted, IsPut, Tore, Marked, MarkedIn, CutIn, ReplacedIn, CutTells, NothingElse, DeadTells}
use Rattle.origins.proofs.Last.{last_before}
use Rattle.origins.proofs.Torn.{untorn_clean, torn_last_lem}
use Rattle.origins.proofs.Events.{cut_of, new_cut, new_torn, new_dead}
use Rattle.origins.proofs.Fresh.{formatted_plain}

-- ---- what demand 2 knows of an image

record Fit (N B : ℕ) (s : Image) : Type 0 where
  size : right_size N B s ≡ true
  sound : Sound N B s
  bytes : Bytes s

fit_of : (N B : ℕ) (s : Image) (x : Promise) → Invariant N B false s x → Known x → Fit N B s
fit_of N B s (settled t) (z, k) h = record { size = z; sound = sound_clean N B s k.clean; bytes = k.bytes }
fit_of N B s (interrupted t) (z, k) h = record { size = z; sound = k.sound; bytes = k.bytes }
fit_of N B s unknown (z, k) h = absurd h

-- where a slot that reads cut at the end of a history comes from, seen from its start
data Came (N B : ℕ) (s : Image) (es : List Event) (u : Image) (h : History N B s es u) (p : Place) : Type 0 where
  was_cut : slot_on N B s p ≡ cut → Came N B s es u h p
  was_torn : slot_on N B s p ≡ torn → MarkedIn N B s es u h p → Came N B s es u h p
  in_between : CutIn N B s es u h p → Came N B s es u h p

other : (k : Slot) → is_replaced k ≡ false → k ≢ dead
unfolding is_replaced is_dead is_cut
other k f e = true≢false (sym (ap is_replaced e) ∙ f)

or_dead : (k : Slot) → (k ≡ dead) ⊎ (k ≢ dead)
unfolding is_replaced is_dead is_cut
or_dead empty = inr (other empty refl)
or_dead torn = inr (other torn refl)
or_dead dead = inl refl
or_dead cut = inr (other cut refl)
or_dead wrong = inr (other wrong refl)
or_dead (live b c) = inr (other (live b c) refl)

module _ (N B : ℕ) where
  -- the machine goes along
  abbrev Stands : Image → Type 0
  Stands s = (x : Promise) × Invariant N B false s x × Known x

  stands_fit : (s : Image) → Stands s → Fit N B s
  stands_fit s h = fit_of N B s h.0 h.1 h.2

  one_stands : (s m : Image) (r : Request) (o : Seen) → OnTable r → Proper r → Stands s → Does N B r o s m → Stands m
  one_stands s m r o on p h d = let a = one_event N B false (request_laws N B) s m h.0 r (may N B (request_laws N B) r on) p h.1 o d in (a.0, a.2, move_known a.1 on h.2)

  stands : (es : List Event) (s u : Image) → Unformatted es → Stands s → History N B s es u → Stands u
  stands [] s u none h e = subst Stands (sym e) h
  stands (v ∷ es) s u none h (p, w, (m, d, rest)) = stands es m u none.1 (one_stands s m v.request v.seen none.0 p h d) rest

  -- ---- one event before the rest

  module _ (v : Event) (es : List Event) (s m u : Image) (p : Place) (fit : Fit N B s) (fit_after : Fit N B m)
      (on : OnTable v.request) (proper : Proper v.request) (worn : v.worn ≡ wears N B s) (does : Does N B v.request v.seen s m) (rest : History N B m es u) where
    work : Works N B s v.request
    work = works N B s fit.size v.request on proper fit.sound

    left : CutOf N B s v.request m
    left = cut_of N B v.request v.seen s m does

    -- the event that marked it
    marked_here : slot_on N B m p ≡ cut → (v.request ≡ recover) × (state N B s ≡ unfinished case_c) × (p ≡ last_place N B s) → Marked N B s m v p
    marked_here h (r, c, l) = record { recovers = r; case = c; found = ap (λ y. slot_on N B s y) l ∙ last_before N B s fit.size c; marks = h }

    -- or tore it: two torn slots are the same one, the last of the top
    tore_here : slot_on N B m p ≡ torn → IsPut v.request × IsCut v.seen × Clean N B s → Tore N B s m v p
    tore_here h q = let last = torn_last_lem N B m fit_after.size fit_after.sound in
        record { puts = q.0; cuts = q.1; untorn = untorn_clean N B s q.2; left = h; only = λ x t. (last x t).1 ∙ sym (last p h).1 }

    came_before : Came N B m es u rest p → Came N B s (v ∷ es) u (proper, worn, (m, does, rest)) p
    came_before (was_cut h) = ⊎_elim (λ q. was_cut q) (λ q. let k = marked_here h q in was_torn k.found (inl k)) (new_cut N B s m fit.size fit.sound fit.bytes p v.request work left h)
    came_before (was_torn h k) = ⊎_elim (λ q. was_torn q (inr k)) (λ q. in_between (inl (tore_here h q, k))) (new_torn N B s m fit.size fit.sound fit.bytes p v.request v.seen does work left h)
    came_before (in_between k) = in_between (inr k)

    -- the same of dead slots, which were so or were made so here
    dead_before : (slot_on N B m p ≡ dead) ⊎ ReplacedIn N B m es u rest p → (slot_on N B s p ≡ dead) ⊎ ReplacedIn N B s (v ∷ es) u (proper, worn, (m, does, rest)) p
    dead_before (inr k) = inr (inr k)
    dead_before (inl h) = ⊎_elim (λ q. inl q) (λ n. ⊎_elim (λ q. inl q) (λ q. inr (inl (record { replaces = q; undead = n; marks = h }))) (new_dead N B s m fit.size fit.sound fit.bytes p v.request work left h)) (or_dead (slot_on N B s p))

  came : (es : List Event) (s u : Image) → Unformatted es → Stands s → (h : History N B s es u) → (p : Place) → slot_on N B u p ≡ cut → Came N B s es u h p
  came [] s u none h e p k = was_cut (ap (λ y. slot_on N B y p) (sym e) ∙ k)
  came (v ∷ es) s u none h (q, w, (m, d, rest)) p k =
      let next = one_stands s m v.request v.seen none.0 q h d in
      came_before v es s m u p (stands_fit s h) (stands_fit m next) none.0 q w d rest (came es m u none.1 next rest p k)

  came_dead : (es : List Event) (s u : Image) → Unformatted es → Stands s → (h : History N B s es u) → (p : Place) → slot_on N B u p ≡ dead → (slot_on N B s p ≡ dead) ⊎ ReplacedIn N B s es u h p
  came_dead [] s u none h e p k = inl (ap (λ y. slot_on N B y p) (sym e) ∙ k)
  came_dead (v ∷ es) s u none h (q, w, (m, d, rest)) p k =
      let next = one_stands s m v.request v.seen none.0 q h d in
      dead_before v es s m u p (stands_fit s h) (stands_fit m next) none.0 q w d rest (came_dead es m u none.1 next rest p k)

-- ---- from a finished format

begins : (N B : ℕ) (s : Image) → right_size N B s ≡ true → Stands N B (run B (format_steps N B) s)
begins N B s z = (settled [], (run_size N B (format_steps N B) s ∙ z, formatted_stores N B (request_laws N B) s z), tt)

pub cut_tells : CutTells
cut_tells N B s u es z runs none p k = go (came N B es f u none (begins N B s z) runs p k)
  where
    f : Image
    f = run B (format_steps N B) s

    go : Came N B (run B (format_steps N B) s) es u runs p → CutIn N B (run B (format_steps N B) s) es u runs p
    go (was_cut h) = absurd (formatted_plain cut tt N B s z p h)
    go (was_torn h k) = absurd (formatted_plain torn tt N B s z p h)
    go (in_between k) = k

pub dead_tells : DeadTells
dead_tells N B s u es z runs none p k = ⊎_elim (λ h. absurd (formatted_plain dead tt N B s z p h)) (λ h. h) (came_dead N B es (run B (format_steps N B) s) u none (begins N B s z) runs p k)

-- whatever is asked next
pub nothing_else : NothingElse
nothing_else N B s u m es r o z runs none on proper does p k =
    let fit = stands_fit N B u (stands N B es (run B (format_steps N B) s) u none (begins N B s z) runs) in
    new_cut N B u m fit.size fit.sound fit.bytes p r (works N B u fit.size r on proper fit.sound) (cut_of N B r o u m does) k
