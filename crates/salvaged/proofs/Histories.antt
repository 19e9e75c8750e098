-- Whatever is promised of an image, what is salvaged from it keeps that; so after every history, and after a cut anywhere.
use Rattle.std.specs.Prelude.{ℕ, ◌≡◌, refl, true, false, List, [], ◌∷◌, ◌++◌, take}
use Rattle.std.proofs.Common.{sym, ap, ◌∙◌, subst, inl, inr, ⊎_elim}
use Rattle.model.specs.Chip.{Image, right_size}
use Rattle.model.specs.State.{state}
use Rattle.model.specs.Table.{Table, table_of}
use Rattle.model.specs.Answers.{Request, work_of, outcome_of}
use Rattle.model.specs.Histories.{Seen, answered, lost, Does, Event, History, shown}
use Rattle.model.proofs.Laws.Chip.{run_size, cut_size}
use Rattle.model.proofs.Laws.Tables.{agree_of, agree_trans}
use Rattle.crash.specs.Machine.{Promise, settled, interrupted, unknown, OnTable, Holds, PlainRuns, NoFormat}
use Rattle.crash.specs.Demand2.{Keeps, board}
use Rattle.crash.proofs.Requests.{shown_clean}
use Rattle.crash.proofs.Reading.{cut_code, format_starts, cut_old_or_new}
use Rattle.crash.proofs.ReadingRuns.{Known, runs_known, runs_append, none_front}
use Rattle.crash.proofs.Theorem.{demand2, from_clean, from_former, from_former_left}
use Rattle.sessions.specs.Law.{events_in}
use Rattle.sessions.proofs.Theorem.{unmounted_history}
use Rattle.salvage.specs.Salvage.{salvaged}
use Rattle.salvaged.specs.Law.{Salvages, SalvagedHistories, SalvagedFromClean, SalvagedFromFormer, SalvagedFromFormerLeft, SalvagedSessions, CutAnywhere}
use Rattle.salvaged.proofs.Shown.{clean_fine, salvaged_table}

pub keeps_salvages : (N B : ℕ) (u : Image) (x : Promise) → right_size N B u ≡ true → Keeps N B u x → Salvages N B u x
keeps_salvages N B u (settled t) z k =
    agree_trans (salvaged N B u) (table_of N B u) t (agree_of (salvaged N B u) (table_of N B u) (salvaged_table N B u z (clean_fine (state N B u) k.0) ∙ shown_clean N B u k.0)) k.1
keeps_salvages N B u (interrupted t) z k = agree_trans (salvaged N B u) (shown N B u) t (agree_of (salvaged N B u) (shown N B u) (salvaged_table N B u z k.0)) k.2
keeps_salvages N B u unknown z k = tt

-- ---- histories keep the size

does_size : (N B : ℕ) (r : Request) (o : Seen) (s u : Image) → Does N B r o s u → right_size N B u ≡ right_size N B s
does_size N B r (answered a) s u d = ap (right_size N B) d.2 ∙ (unfold outcome_of in (run_size N B (take d.0 (work_of N B s r).steps) s))
does_size N B r lost s u d = cut_size N B (work_of N B s r).steps s u d

history_size : (N B : ℕ) (s : Image) (es : List Event) (u : Image) → History N B s es u → right_size N B u ≡ right_size N B s
history_size N B s [] u h = ap (right_size N B) h
history_size N B s (e ∷ es) u h = history_size N B h.2.0 es u h.2.2 ∙ does_size N B e.request e.seen s h.2.0 h.2.1

-- ---- the theorems

pub salvaged_histories : SalvagedHistories
salvaged_histories = λ N B s u es z h. let r = demand2 N B s u es z h in (r.0, r.1, r.2, keeps_salvages N B u r.0 (history_size N B s es u h ∙ z) r.2)

pub salvaged_from_clean : SalvagedFromClean
salvaged_from_clean = λ N B s u es z b c v h. let r = from_clean N B s u es z b c v h in (r.0, r.1, r.2, keeps_salvages N B u r.0 (history_size N B s es u h ∙ z) r.2)

pub salvaged_from_former : SalvagedFromFormer
salvaged_from_former = λ N B s u es z b c v h f. let r = from_former N B s u es z b c v h f in (r.0, r.1, r.2, keeps_salvages N B u r.0 (history_size N B s es u h ∙ z) r.2)

pub salvaged_from_former_left : SalvagedFromFormerLeft
salvaged_from_former_left = λ N B s u es z b k v h f. let r = from_former_left N B s u es z b k v h f in (r.0, r.1, r.2, keeps_salvages N B u r.0 (history_size N B s es u h ∙ z) r.2)

pub salvaged_sessions : SalvagedSessions
salvaged_sessions = λ N B s u p es z h. salvaged_histories N B s u (events_in es) z (unmounted_history N B s p es u h)

-- ---- a cut anywhere

last_on_table : (es : List Event) (e : Event) → NoFormat (es ++ (e ∷ [])) → OnTable e.request
last_on_table [] e h = h.0
last_on_table (d ∷ es) e h = last_on_table es e h.1

known_table : (x : Promise) → Known x → (t : Table) × Holds x t
known_table (settled t) k = (t, refl)
known_table (interrupted t) k = (t, refl)
known_table unknown k = absurd k

pub cut_anywhere : CutAnywhere
cut_anywhere = λ N B s u past es f e z h done none cut.
    let C = board N B false in
    let all = past ++ (f ∷ (es ++ (e ∷ []))) in
    let (y, runs, keeps) = demand2 N B s u all z h in
    let (start, formatted, (fresh, formatting, rest)) = runs_append C past (f ∷ (es ++ (e ∷ []))) unknown y runs in
    let begun : fresh ≡ settled [] = format_starts formatting done.request done.seen in
    let (x, since, (end, moving, nothing)) = runs_append C es (e ∷ []) fresh y rest in
    let known : Known x = runs_known C es fresh x since (none_front es (e ∷ []) none) (subst Known (sym begun) tt) in
    let (t, holding) = known_table x known in
    let kept : Salvages N B u y = keeps_salvages N B u y (history_size N B s all u h ∙ z) keeps in (
      x,
      t,
      subst (λ (p : Promise). PlainRuns C p es x) begun since,
      holding,
      ⊎_elim (λ q. inl (subst (λ (p : Promise). Salvages N B u p) (nothing ∙ q) kept)) (λ q. inr (subst (λ (p : Promise). Salvages N B u p) (nothing ∙ q) kept))
          (cut_old_or_new moving t holding (last_on_table es e none) (cut_code e.seen cut)),
    )
