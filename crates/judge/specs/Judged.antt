-- What an ending says of the slots: all plain; or plain up to a slot that stops them, and empty ones after it.
use Rattle.std.specs.Prelude.{◌≡◌, ◌⊎◌, Bool, true, cond, ◌||◌, not}
use Rattle.std.proofs.Math.Path.{refl}
use Rattle.std.proofs.Common.{sym, ap, ◌∙◌, inl, inr, true≢false, arith}
use Rattle.std.proofs.Math.Bool.{false, and-eq-true_iff}
use Rattle.std.proofs.lemmas.Bool.{false≢true}
use mathlib.Core.List.{List, [], ◌∷◌, ◌++◌, flat_map, flatten, append_assoc, append-nil}
use Rattle.model.specs.Lists.{all}
use Rattle.model.specs.Slot.{Slot, empty, torn, dead, cut, wrong, live, is_empty, is_torn, is_wrong, Entry, entry_of}
use Rattle.model.specs.State.{entries, holds, distinct, copies}
use Rattle.model.specs.Table.{Table}
use Rattle.bridge.specs.Views.Slots.{full, sound, entries_append, entries_cons}
use Rattle.judge.specs.declared.Ending.{Ending}
use Rattle.judge.specs.declared.Ending.TheVariants.{Full, Room, TornLast, TwinLast, Bad}
use Rattle.judge.specs.Endings.{behind, leave_room, turn, judge, ring, is_full, is_bad}
use Rattle.model.specs.Laws.Lists.{all_join, all_parts}
use Rattle.model.proofs.Laws.Tables.{copies_append, copies_cons_same, copies_cons_other, copies_none, absent_copies, copies_absent, distinct_copies, copies_distinct}

-- ---- tables of distinct blocks

pub distinct_front : (x y : Table) → distinct (x ++ y) ≡ true → distinct x ≡ true
distinct_front x y h = copies_distinct x (λ b. omega (arith, copies_append b x y, distinct_copies (x ++ y) h b))

fresh_before : (x : Table) (e : Entry) (y : Table) → distinct (x ++ (e ∷ y)) ≡ true → holds e.block x ≡ false
fresh_before x e y h = copies_absent e.block x (omega (arith, copies_append e.block x (e ∷ y), copies_cons_same e.block e y refl, distinct_copies (x ++ (e ∷ y)) h e.block))

distinct_more : (x : Table) (e : Entry) → distinct x ≡ true → holds e.block x ≡ false → distinct (x ++ (e ∷ [])) ≡ true
distinct_more x e d h = copies_distinct (x ++ (e ∷ [])) (λ b.
    let s = copies_append b x (e ∷ []) in
    let z = copies_none b in
    let k = distinct_copies x d b in
    elim (native.Mathlib.Decide.ℕ_discrete b e.block) [
      | yes q ↦ let a : copies b x ≡ 0 = rw q (absent_copies e.block x h) in omega (arith, copies_cons_same b e [] q)
      | no q ↦ omega (arith, copies_cons_other b e [] q)
    ])

-- ---- plain slots: written, neither torn nor wrong, each block once, behind these entries

pub record Plain (p : List Entry) (s : List Slot) : Type 0 where
  pub sound : sound s ≡ true
  pub full : full s ≡ true
  pub once : distinct (p ++ entries s) ≡ true

pub plain_none : (p : List Entry) → distinct p ≡ true → Plain p []
unfolding all entries flat_map
plain_none p d = record { sound = refl; full = refl; once = ap distinct (append-nil p) ∙ d }

grouped : (p : List Entry) (k : Slot) (s : List Slot) → p ++ entries (k ∷ s) ≡ p ++ entry_of k ++ entries s
grouped p k s = ap (λ (y : List Entry). p ++ y) (entries_cons k s) ∙ sym (append_assoc p (entry_of k) (entries s))

plain_cons : (p : List Entry) (k : Slot) (s : List Slot) → not (is_wrong k || is_torn k) ≡ true → is_empty k ≡ false → Plain (p ++ entry_of k) s → Plain p (k ∷ s)
unfolding all
plain_cons p k s a b h = record { sound = rw (a, h.sound); full = rw (b, h.full); once = rw (grouped p k s) h.once }

plain_tail : (p : List Entry) (k : Slot) (s : List Slot) → Plain p (k ∷ s) → Plain (p ++ entry_of k) s
unfolding all
plain_tail p k s h = record {
  sound = ((and-eq-true_iff (not (is_wrong k || is_torn k)) (sound s)).0 h.sound).1;
  full = ((and-eq-true_iff (not (is_empty k)) (full s)).0 h.full).1;
  once = rw (← (grouped p k s)) h.once;
}

pub plain_parts : (p : List Entry) (x y : List Slot) → Plain p (x ++ y) → Plain p x × Plain (p ++ entries x) y
plain_parts p x y h =
    let a = all_parts (λ k. not (is_wrong k || is_torn k)) x y h.sound in
    let b = all_parts (λ k. not (is_empty k)) x y h.full in
    let e : p ++ entries (x ++ y) ≡ p ++ entries x ++ entries y = ap (λ (z : List Entry). p ++ z) (entries_append x y) ∙ sym (append_assoc p (entries x) (entries y)) in
    let d : distinct (p ++ entries x ++ entries y) ≡ true = rw (← e) h.once in (
      record { sound = a.0; full = b.0; once = distinct_front (p ++ entries x) (entries y) d },
      record { sound = a.1; full = b.1; once = d },
    )

pub plain_join : (p : List Entry) (x y : List Slot) → Plain p x → Plain (p ++ entries x) y → Plain p (x ++ y)
plain_join p x y g h =
    let e : p ++ entries (x ++ y) ≡ p ++ entries x ++ entries y = ap (λ (z : List Entry). p ++ z) (entries_append x y) ∙ sym (append_assoc p (entries x) (entries y)) in
    record { sound = all_join (λ k. not (is_wrong k || is_torn k)) x y g.sound h.sound; full = all_join (λ k. not (is_empty k)) x y g.full h.full; once = rw e h.once }

-- ---- a row judged in two parts

pub judge_append : (e : Ending) (p : List Entry) (x y : List Slot) → judge e p (x ++ y) ≡ judge (judge e p x) (p ++ entries x) y
unfolding judge entries flat_map
judge_append e p [] y = ap (λ (q : List Entry). judge e q y) (sym (append-nil p))
judge_append e p (k ∷ x) y = judge_append (turn e p k) (p ++ entry_of k) x y ∙ ap (λ (q : List Entry). judge (judge (turn e p k) (p ++ entry_of k) x) q y) (sym (grouped p k x))

judge_bad : (p : List Entry) (s : List Slot) → judge Bad p s ≡ Bad
unfolding judge turn behind leave_room
judge_bad p [] = refl
judge_bad p (empty ∷ s) = judge_bad (p ++ entry_of empty) s
judge_bad p (torn ∷ s) = judge_bad (p ++ entry_of torn) s
judge_bad p (dead ∷ s) = judge_bad (p ++ entry_of dead) s
judge_bad p (cut ∷ s) = judge_bad (p ++ entry_of cut) s
judge_bad p (wrong ∷ s) = judge_bad (p ++ entry_of wrong) s
judge_bad p (live b c ∷ s) = judge_bad (p ++ entry_of (live b c)) s

pub not_full : (e : Ending) → is_full e ≡ false → (f : Ending) → behind e f ≡ Bad
unfolding behind is_full
not_full Full h f = absurd (true≢false h)
not_full Room h f = refl
not_full TornLast h f = refl
not_full TwinLast h f = refl
not_full Bad h f = refl

room_kept : (e : Ending) → is_full e ≡ false → leave_room e ≡ e
unfolding leave_room is_full
room_kept Full h = absurd (true≢false h)
room_kept Room h = refl
room_kept TornLast h = refl
room_kept TwinLast h = refl
room_kept Bad h = refl

-- once stopped, only empty slots may follow
pub judge_empty : (e : Ending) → is_full e ≡ false → (p : List Entry) (s : List Slot) → all is_empty s ≡ true → judge e p s ≡ e
unfolding judge turn all is_empty
judge_empty e h p [] q = refl
judge_empty e h p (empty ∷ s) q = rw (room_kept e h) (judge_empty e h (p ++ entry_of empty) s q)
judge_empty e h p (torn ∷ s) q = absurd (false≢true q)
judge_empty e h p (dead ∷ s) q = absurd (false≢true q)
judge_empty e h p (cut ∷ s) q = absurd (false≢true q)
judge_empty e h p (wrong ∷ s) q = absurd (false≢true q)
judge_empty e h p (live b c ∷ s) q = absurd (false≢true q)

-- a written slot then is against the rules
broken : (e f : Ending) → is_full e ≡ false → is_bad f ≡ false → (g : Ending) (p : List Entry) (s : List Slot) → judge (behind e g) p s ≡ f → ⊥
unfolding is_bad
broken e f h k g p s q = let z : f ≡ Bad = sym q ∙ (ap (λ (x : Ending). judge x p s) (not_full e h g) ∙ judge_bad p s) in false≢true (sym k ∙ ap is_bad z)

stopped : (e f : Ending) → is_full e ≡ false → is_bad f ≡ false → (p : List Entry) (s : List Slot) → judge e p s ≡ f → (f ≡ e) × (all is_empty s ≡ true)
unfolding judge turn all is_empty
stopped e f h k p [] q = (sym q, refl)
stopped e f h k p (empty ∷ s) q = stopped e f h k (p ++ entry_of empty) s (rw (room_kept e h) at q)
stopped e f h k p (torn ∷ s) q = absurd (broken e f h k TornLast (p ++ entry_of torn) s q)
stopped e f h k p (dead ∷ s) q = absurd (broken e f h k Full (p ++ entry_of dead) s q)
stopped e f h k p (cut ∷ s) q = absurd (broken e f h k Full (p ++ entry_of cut) s q)
stopped e f h k p (wrong ∷ s) q = absurd (broken Bad f (unfold is_full in refl) k Full (p ++ entry_of wrong) s (unfold behind in q))
stopped e f h k p (live b c ∷ s) q = absurd (broken e f h k (cond (holds b p) TwinLast Full) (p ++ entry_of (live b c)) s q)

-- ---- plain slots are all written, and only they

pub plain_full : (p : List Entry) (s : List Slot) → Plain p s → judge Full p s ≡ Full
unfolding judge turn behind all is_empty is_wrong is_torn
plain_full p [] h = refl
plain_full p (empty ∷ s) h = absurd (false≢true h.full)
plain_full p (torn ∷ s) h = absurd (false≢true h.sound)
plain_full p (dead ∷ s) h = plain_full (p ++ entry_of dead) s (plain_tail p dead s h)
plain_full p (cut ∷ s) h = plain_full (p ++ entry_of cut) s (plain_tail p cut s h)
plain_full p (wrong ∷ s) h = absurd (false≢true h.sound)
plain_full p (live b c ∷ s) h =
    let e : Entry = record { block = b; contents = c } in
    let d : distinct (p ++ (e ∷ entries s)) ≡ true = (unfold entry_of in (ap (λ (y : List Entry). distinct (p ++ y)) (sym (entries_cons (live b c) s)) ∙ h.once)) in
    rw (fresh_before p e (entries s) d) (plain_full (p ++ entry_of (live b c)) s (plain_tail p (live b c) s h))

-- plain up to a slot that stops them
pub record Stop (f : Ending) (p : List Entry) (s : List Slot) : Type 0 where
  pub left : List Slot
  pub slot : Slot
  pub right : List Slot
  pub split : s ≡ left ++ (slot ∷ right)
  pub plain : Plain p left
  pub rest : all is_empty right ≡ true
  pub ending : turn Full (p ++ entries left) slot ≡ f
  pub stops : is_full f ≡ false

pub stop_judge : (f : Ending) (p : List Entry) (s : List Slot) → Stop f p s → judge Full p s ≡ f
unfolding judge
stop_judge f p s h =
    ap (judge Full p) h.split ∙ (judge_append Full p h.left (h.slot ∷ h.right)
    ∙ (ap (λ (e : Ending). judge e (p ++ entries h.left) (h.slot ∷ h.right)) (plain_full p h.left h.plain)
    ∙ (ap (λ (e : Ending). judge e (p ++ entries h.left ++ entry_of h.slot) h.right) h.ending
    ∙ judge_empty f h.stops (p ++ entries h.left ++ entry_of h.slot) h.right h.rest)))

abbrev pub Judged : Ending → List Entry → List Slot → Type 0
Judged f p s = ((f ≡ Full) × Plain p s) ⊎ Stop f p s

-- the first slot stops them
stop_here : (f e : Ending) (p : List Entry) (k : Slot) (s : List Slot) → distinct p ≡ true → is_bad f ≡ false → turn Full p k ≡ e → is_full e ≡ false
    → judge e (p ++ entry_of k) s ≡ f → Judged f p (k ∷ s)
unfolding entries flat_map
stop_here f e p k s d n t h q =
    let r = stopped e f h n (p ++ entry_of k) s q in
    inr (record {
      left = [];
      slot = k;
      right = s;
      split = refl;
      plain = plain_none p d;
      rest = r.1;
      ending = ap (λ (y : List Entry). turn Full y k) (append-nil p) ∙ (t ∙ sym r.0);
      stops = ap is_full r.0 ∙ h;
    })

-- the first slot is plain
judged_cons : (f : Ending) (p : List Entry) (k : Slot) (s : List Slot) → not (is_wrong k || is_torn k) ≡ true → is_empty k ≡ false → Judged f (p ++ entry_of k) s → Judged f p (k ∷ s)
judged_cons f p k s a b (inl (e, h)) = inl (e, plain_cons p k s a b h)
judged_cons f p k s a b (inr h) = inr (record {
  left = k ∷ h.left;
  slot = h.slot;
  right = h.right;
  split = ap {B = List Slot} (λ y. k ∷ y) h.split;
  plain = plain_cons p k h.left a b h.plain;
  rest = h.rest;
  ending = ap (λ (y : List Entry). turn Full y h.slot) (grouped p k h.left) ∙ h.ending;
  stops = h.stops;
})

pub judged : (f : Ending) → is_bad f ≡ false → (p : List Entry) → distinct p ≡ true → (s : List Slot) → judge Full p s ≡ f → Judged f p s
unfolding judge turn behind leave_room is_wrong is_torn is_empty
judged f n p d [] q = inl (sym q, plain_none p d)
judged f n p d (empty ∷ s) q = stop_here f Room p empty s d n refl (unfold is_full in refl) q
judged f n p d (torn ∷ s) q = stop_here f TornLast p torn s d n refl (unfold is_full in refl) q
judged f n p d (wrong ∷ s) q = absurd (broken Bad f (unfold is_full in refl) n Full (p ++ entry_of wrong) s q)
judged f n p d (dead ∷ s) q = judged_cons f p dead s refl refl (judged f n (p ++ entry_of dead) (unfold entry_of in (ap distinct (append-nil p) ∙ d)) s q)
judged f n p d (cut ∷ s) q = judged_cons f p cut s refl refl (judged f n (p ++ entry_of cut) (unfold entry_of in (ap distinct (append-nil p) ∙ d)) s q)
judged f n p d (live b c ∷ s) q = go (holds b p) refl q (λ k r. judged f n (p ++ entry_of (live b c)) k s r)
  where
    go : (t : Bool) → holds b p ≡ t → judge (cond t TwinLast Full) (p ++ entry_of (live b c)) s ≡ f
        → (distinct (p ++ entry_of (live b c)) ≡ true → judge Full (p ++ entry_of (live b c)) s ≡ f → Judged f (p ++ entry_of (live b c)) s) → Judged f p (live b c ∷ s)
    go true e r ih = stop_here f TwinLast p (live b c) s d n (rw e) (unfold is_full in refl) r
    go false e r ih = judged_cons f p (live b c) s refl refl (ih (unfold entry_of in distinct_more p (record { block = b; contents = c }) d e) r)

-- ---- rows

pub ring_snoc : (e : Ending) (p : List Entry) (l : List (List Slot)) (t : List Slot) → ring e p (l ++ (t ∷ [])) ≡ behind (ring e p l) (judge Full (p ++ entries (flatten l)) t)
unfolding ring flatten entries flat_map
ring_snoc e p [] t = ap (λ (q : List Entry). behind e (judge Full q t)) (sym (append-nil p))
ring_snoc e p (r ∷ l) t = ring_snoc (behind e (judge Full p r)) (p ++ entries r) l t
    ∙ ap (λ (q : List Entry). behind (ring (behind e (judge Full p r)) (p ++ entries r) l) (judge Full q t)) (append_assoc p (entries r) (entries (flatten l)) ∙ ap (λ (y : List Entry). p ++ y) (sym (entries_append r (flatten l))))

pub rows_full : (p : List Entry) (l : List (List Slot)) → Plain p (flatten l) → ring Full p l ≡ Full
unfolding ring flatten behind
rows_full p [] h = refl
rows_full p (r ∷ l) h = let q = plain_parts p r (flatten l) h in
    ap (λ (e : Ending). ring e (p ++ entries r) l) (plain_full p r q.0) ∙ rows_full (p ++ entries r) l q.1

ring_full : (e : Ending) (p : List Entry) (l : List (List Slot)) → ring e p l ≡ Full → e ≡ Full
unfolding ring behind
ring_full e p [] h = h
ring_full e p (r ∷ l) h = go e (ring_full (behind e (judge Full p r)) (p ++ entries r) l h)
  where
    no : Bad ≡ Full → ⊥
    no q = false≢true (unfold is_full in (ap is_full q))

    go : (x : Ending) → behind x (judge Full p r) ≡ Full → x ≡ Full
    go Full q = refl
    go Room q = absurd (no q)
    go TornLast q = absurd (no q)
    go TwinLast q = absurd (no q)
    go Bad q = absurd (no q)

pub full_rows_lem : (p : List Entry) → distinct p ≡ true → (l : List (List Slot)) → ring Full p l ≡ Full → Plain p (flatten l)
unfolding ring flatten behind
full_rows_lem p d [] h = plain_none p d
full_rows_lem p d (r ∷ l) h =
    let e = ring_full (judge Full p r) (p ++ entries r) l h in
    let g = here (judged Full (unfold is_bad in refl) p d r e) in
    plain_join p r (flatten l) g (full_rows_lem (p ++ entries r) g.once l (ap (λ (x : Ending). ring x (p ++ entries r) l) (sym e) ∙ h))
  where
    here : Judged Full p r → Plain p r
    here (inl (e, g)) = g
    here (inr g) = absurd (true≢false (unfold is_full in g.stops))
