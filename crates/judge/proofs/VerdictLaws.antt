-- The sums of the rows decide the state of the slots, and tell where the top ends.
use Rattle.std.specs.Prelude.{ℕ, suc, ◌≤◌, ◌<◌, ◌≡◌, Bool, true, false, ◌||◌, ◌&&◌, length, leb, eqb}
use Rattle.std.proofs.Math.Path.{refl, ap}
use Rattle.std.proofs.Common.{sym, ◌∙◌, subst, inl, inr, true≢false, eqb-true, eq-eqb}
use Rattle.std.proofs.lemmas.Bool.{false≢true}
use Rattle.std.proofs.Math.Bool.{or-true}
use mathlib.Core.List.{List, [], ◌∷◌, ◌++◌, flat_map, flatten}
use native.Mathlib.Omega.{arith}
use Rattle.model.specs.Lists.{all, count}
use Rattle.model.specs.Header.{Version}
use Rattle.model.specs.Slot.{Slot, empty, torn, dead, cut, wrong, live, is_empty, Entry, entry_of}
use Rattle.model.specs.State.{View, entries, entries_in, holds, empty_last, capacity, filled}
use Rattle.model.specs.Steps.{top_row, first_empty, compactions}
use Rattle.bridge.specs.Views.Slots.{full, entries_append, filled_at, find_top, top_row_lem}
use Rattle.judge.specs.declared.Ending.{Ending}
use Rattle.judge.specs.declared.Ending.TheVariants.{Full, Room, TornLast, TwinLast, Bad}
use Rattle.judge.specs.declared.Sum.{Sum}
use Rattle.judge.specs.Endings.{is_full, is_bad, in_order, ends_torn, ends_twin}
use Rattle.judge.specs.Cases.{fine, twin_block, slot_state}
use Rattle.judge.specs.Judged.{Stop, Judged}
use Rattle.judge.specs.Ordered.{rows_with, before_top, last_block_lem}
use Rattle.judge.specs.Ends.{ending, fine_ending, torn_ending, ending_ordered, rows_plain, stop_torn, stop_twin}
use Rattle.judge.specs.Twins.{twin_ending}
use Rattle.judge.specs.Tally.{none_met, tallies, add_rows, no_sum}
use Rattle.judge.proofs.TallyLaws.{Narrow, NarrowRows, agree_none, last_live, is_written, sum_live, sum_ending, sum_compactions, sum_written, sum_block}
use Rattle.model.specs.Laws.Lists.{flatten_last, count_append}
use Rattle.model.proofs.Laws.Tables.{holds_append}
use Rattle.judge.specs.Verdict.{orderly, torn_within, twin_within, verdict}

-- ---- block numbers

proper : (b : ℕ) (s : List Slot) → Narrow s → holds b (entries s) ≡ true → 0 < b
unfolding holds entries flat_map entry_of
proper b [] n h = absurd (false≢true h)
proper b (empty ∷ s) n h = proper b s n h
proper b (torn ∷ s) n h = proper b s n h
proper b (dead ∷ s) n h = proper b s n h
proper b (cut ∷ s) n h = proper b s n h
proper b (wrong ∷ s) n h = proper b s n h
proper b (live a c ∷ s) n h = go (eqb b a) refl h (λ q. proper b s n.1 q)
  where
    go : (t : Bool) → eqb b a ≡ t → (t || holds b (entries s)) ≡ true → (holds b (entries s) ≡ true → 0 < b) → 0 < b
    go true e q ih = let z = eqb-true b a e in let p = n.0.0 in omega arith
    go false e q ih = ih q

proper_rows : (b : ℕ) (rows : List (List Slot)) → NarrowRows rows → holds b (entries (flatten rows)) ≡ true → 0 < b
unfolding flatten
proper_rows b [] n h = absurd (false≢true (unfold holds entries flat_map in h))
proper_rows b (s ∷ rows) n h = go (holds b (entries s)) refl (sym (ap (holds b) (entries_append s (flatten rows)) ∙ holds_append b (entries s) (entries (flatten rows))) ∙ h) (λ q. proper_rows b rows n.1 q)
  where
    go : (t : Bool) → holds b (entries s) ≡ t → (holds b (entries s) || holds b (entries (flatten rows))) ≡ true → (holds b (entries (flatten rows)) ≡ true → 0 < b) → 0 < b
    go true e q ih = proper b s n.0 e
    go false e q ih = ih (rw e at q)

-- ---- the top's written slots

none_written : (s : List Slot) → all is_empty s ≡ true → count is_written s ≡ 0
unfolding all count is_written is_empty
none_written [] h = refl
none_written (empty ∷ s) h = none_written s h
none_written (torn ∷ s) h = absurd (false≢true h)
none_written (dead ∷ s) h = absurd (false≢true h)
none_written (cut ∷ s) h = absurd (false≢true h)
none_written (wrong ∷ s) h = absurd (false≢true h)
none_written (live b c ∷ s) h = absurd (false≢true h)

all_written : (s : List Slot) → full s ≡ true → count is_written s ≡ length s
unfolding all count is_written is_empty
all_written [] h = refl
all_written (empty ∷ s) h = absurd (false≢true h)
all_written (torn ∷ s) h = ap suc (all_written s h)
all_written (dead ∷ s) h = ap suc (all_written s h)
all_written (cut ∷ s) h = ap suc (all_written s h)
all_written (wrong ∷ s) h = ap suc (all_written s h)
all_written (live b c ∷ s) h = ap suc (all_written s h)

first_free : (s : List Slot) → empty_last s ≡ true → count is_written s ≡ first_empty s
unfolding empty_last count is_written is_empty first_empty
first_free [] h = refl
first_free (empty ∷ s) h = none_written s h
first_free (torn ∷ s) h = ap suc (first_free s h)
first_free (dead ∷ s) h = ap suc (first_free s h)
first_free (cut ∷ s) h = ap suc (first_free s h)
first_free (wrong ∷ s) h = ap suc (first_free s h)
first_free (live b c ∷ s) h = ap suc (first_free s h)

ending_written : (x : List Slot) (k : Slot) (y : List Slot) → full x ≡ true → is_empty k ≡ false → all is_empty y ≡ true → count is_written (x ++ (k ∷ y)) ≡ filled (x ++ (k ∷ y))
ending_written x k y f n e = count_append is_written x (k ∷ y) ∙ (rw (filled_at x k y n e) (omega (arith, all_written x f, one k n, none_written y e)))
  where
    one : (k : Slot) → is_empty k ≡ false → count is_written (k ∷ y) ≡ suc (count is_written y)
    one k q = unfold count is_written in rw q

last_live_lem : (d : ℕ) (x : List Slot) (b : ℕ) (c : List ℕ) (y : List Slot) → all is_empty y ≡ true → last_live d (x ++ (live b c ∷ y)) ≡ b
unfolding last_live
last_live_lem d [] b c y e = none b y e
  where
    none : (a : ℕ) (s : List Slot) → all is_empty s ≡ true → last_live a s ≡ a
    none a [] q = refl
    none a (empty ∷ s) q = none a s (unfold all is_empty in q)
    none a (torn ∷ s) q = absurd (false≢true (unfold all is_empty in q))
    none a (dead ∷ s) q = absurd (false≢true (unfold all is_empty in q))
    none a (cut ∷ s) q = absurd (false≢true (unfold all is_empty in q))
    none a (wrong ∷ s) q = absurd (false≢true (unfold all is_empty in q))
    none a (live g h ∷ s) q = absurd (false≢true (unfold all is_empty in q))
last_live_lem d (empty ∷ x) b c y e = last_live_lem d x b c y e
last_live_lem d (torn ∷ x) b c y e = last_live_lem d x b c y e
last_live_lem d (dead ∷ x) b c y e = last_live_lem d x b c y e
last_live_lem d (cut ∷ x) b c y e = last_live_lem d x b c y e
last_live_lem d (wrong ∷ x) b c y e = last_live_lem d x b c y e
last_live_lem d (live g h ∷ x) b c y e = last_live_lem g x b c y e

-- a live slot of the top holds its block
holds_right : (b : ℕ) (x y : List Entry) → holds b y ≡ true → holds b (x ++ y) ≡ true
holds_right b x y h = holds_append b x y ∙ rw h (or-true (holds b x))

held_last : (l : List (List Slot)) (x : List Slot) (e : Entry) (y : List Slot) → holds e.block (entries (flatten (l ++ ((x ++ (live e.block e.contents ∷ y)) ∷ [])))) ≡ true
held_last l x e y =
    let b = e.block in
    let k = live e.block e.contents in
    rw (flatten_last l (x ++ (k ∷ y)), entries_append (flatten l) (x ++ (k ∷ y)), entries_append x (k ∷ y))
    (holds_right b (entries (flatten l)) (entries x ++ entries (k ∷ y)) (holds_right b (entries x) (entries (k ∷ y)) (here e y)))
  where
    here : (e : Entry) (y : List Slot) → holds e.block (entries (live e.block e.contents ∷ y)) ≡ true
    here e y = unfold holds entries flat_map entry_of in rw (eq-eqb e.block e.block refl)

-- an ending that passes a test which the one against the rules fails
good : (t : Ending → Bool) → t Bad ≡ false → (e : Ending) → t e ≡ true → is_bad e ≡ false
unfolding is_bad
good t n Full h = refl
good t n Room h = refl
good t n TornLast h = refl
good t n TwinLast h = refl
good t n Bad h = absurd (false≢true (sym n ∙ h))

-- ---- what the sums of rows say of the view

pub record Told (N B : ℕ) (v : View) (f : Sum) : Type 0 where
  pub live : f.live ≡ length (entries (flatten v.slots))
  pub compactions : f.compactions ≡ compactions v.slots
  pub fine : fine N B v ≡ orderly (capacity N B) f
  pub state : slot_state N B v ≡ verdict (capacity N B) f
  pub free : in_order f.ending ≡ true → f.written ≡ first_empty (top_row v.slots)
  pub last : (ends_torn f.ending || ends_twin f.ending) ≡ true → f.written ≡ filled (top_row v.slots)
  pub block : ends_twin f.ending ≡ true → f.block.0 ≡ twin_block v
  pub held : ends_twin f.ending ≡ true → holds f.block.0 (entries (flatten v.slots)) ≡ true

module _ (N B n : ℕ) (ver : Version) (l : List (List Slot)) (t : List Slot) (narrow : NarrowRows (l ++ (t ∷ []))) where
  abbrev f : Sum
  f = add_rows (tallies (l ++ (t ∷ [])) none_met) no_sum

  f_live : f.live ≡ length (entries (flatten (l ++ (t ∷ []))))
  unfolding no_sum
  f_live = sum_live (l ++ (t ∷ [])) none_met no_sum ∙ omega arith

  f_ending : f.ending ≡ ending n ver l t
  unfolding no_sum
  f_ending = sum_ending (l ++ (t ∷ [])) none_met [] no_sum narrow agree_none

  f_compactions : f.compactions ≡ compactions (l ++ (t ∷ []))
  unfolding no_sum
  f_compactions = sum_compactions (l ++ (t ∷ [])) none_met no_sum refl ∙ omega arith

  f_written : is_bad f.ending ≡ false → f.written ≡ count is_written t
  f_written = sum_written l t none_met no_sum

  f_state : slot_state N B (rows_with n ver l t) ≡ verdict (capacity N B) f
  unfolding slot_state verdict orderly torn_within twin_within entries_in
  f_state = rw (fine_ending n ver l t N B, torn_ending N B n ver l t, twin_ending N B n ver l t (λ b h. proper_rows b (l ++ (t ∷ [])) narrow (unfold entries_in in h)), f_ending, f_live)

  f_orderly : (in_order (ending n ver l t) && leb (length (entries_in (rows_with n ver l t))) (capacity N B)) ≡ orderly (capacity N B) f
  unfolding orderly entries_in
  f_orderly = rw (f_ending, f_live)

  -- the stop of a torn or twin ending
  stop_at : (e : Ending) → is_bad e ≡ false → is_full e ≡ false → ending n ver l t ≡ e → Stop e (before_top l) t
  stop_at e b k h = go (rows_plain n ver l t e b h).1
    where
      go : Judged e (before_top l) t → Stop e (before_top l) t
      go (inl (q, p)) = absurd (true≢false (unfold is_full in (sym (ap is_full q) ∙ k)))
      go (inr s) = s

  stop_filled : (e : Ending) (s : Stop e (before_top l) t) → is_empty s.slot ≡ false → count is_written t ≡ filled t
  stop_filled e s k = rw s.split (ending_written s.left s.slot s.right s.plain.full k s.rest)

  f_last : (ends_torn f.ending || ends_twin f.ending) ≡ true → count is_written t ≡ filled t
  f_last h = go f.ending (sym f_ending) h
    where
      go : (e : Ending) → ending n ver l t ≡ e → (ends_torn e || ends_twin e) ≡ true → count is_written t ≡ filled t
      go Full q k = absurd (false≢true (unfold ends_torn ends_twin in k))
      go Room q k = absurd (false≢true (unfold ends_torn ends_twin in k))
      go TornLast q k = let s = stop_at TornLast (unfold is_bad in refl) (unfold is_full in refl) q in
          stop_filled TornLast s (ap is_empty (stop_torn (before_top l ++ entries s.left) s.slot s.ending) ∙ (unfold is_empty in refl))
      go TwinLast q k = let s = stop_at TwinLast (unfold is_bad in refl) (unfold is_full in refl) q in
          stop_filled TwinLast s (ap is_empty (stop_twin (before_top l ++ entries s.left) s.slot s.ending).1 ∙ (unfold is_empty in refl))
      go Bad q k = absurd (false≢true (unfold ends_torn ends_twin in k))

  f_block : ends_twin f.ending ≡ true → last_live 0 t ≡ twin_block (rows_with n ver l t)
  f_block h = go f.ending (sym f_ending) h
    where
      at : (s : Stop TwinLast (before_top l) t) → last_live 0 t ≡ twin_block (rows_with n ver l t)
      at s =
          let k = stop_twin (before_top l ++ entries s.left) s.slot s.ending in
          let e = k.0 in
          let q : t ≡ s.left ++ (live e.block e.contents ∷ s.right) = s.split ∙ ap (λ (z : Slot). s.left ++ (z ∷ s.right)) k.1 in
          ap (last_live 0) q ∙ (last_live_lem 0 s.left e.block e.contents s.right s.rest
          ∙ sym (ap (λ (z : List Slot). twin_block (rows_with n ver l z)) q ∙ last_block_lem n ver l s.left e.block e.contents s.right s.rest))

      go : (e : Ending) → ending n ver l t ≡ e → ends_twin e ≡ true → last_live 0 t ≡ twin_block (rows_with n ver l t)
      go Full q k = absurd (false≢true (unfold ends_twin in k))
      go Room q k = absurd (false≢true (unfold ends_twin in k))
      go TornLast q k = absurd (false≢true (unfold ends_twin in k))
      go TwinLast q k = at (stop_at TwinLast (unfold is_bad in refl) (unfold is_full in refl) q)
      go Bad q k = absurd (false≢true (unfold ends_twin in k))

  f_held : ends_twin f.ending ≡ true → holds (last_live 0 t) (entries (flatten (l ++ (t ∷ [])))) ≡ true
  f_held h = go f.ending (sym f_ending) h
    where
      at : (s : Stop TwinLast (before_top l) t) → holds (last_live 0 t) (entries (flatten (l ++ (t ∷ [])))) ≡ true
      at s =
          let k = stop_twin (before_top l ++ entries s.left) s.slot s.ending in
          let e = k.0 in
          let q : t ≡ s.left ++ (live e.block e.contents ∷ s.right) = s.split ∙ ap (λ (z : Slot). s.left ++ (z ∷ s.right)) k.1 in
          rw (q, last_live_lem 0 s.left e.block e.contents s.right s.rest) (held_last l s.left e s.right)

      go : (e : Ending) → ending n ver l t ≡ e → ends_twin e ≡ true → holds (last_live 0 t) (entries (flatten (l ++ (t ∷ [])))) ≡ true
      go Full q k = absurd (false≢true (unfold ends_twin in k))
      go Room q k = absurd (false≢true (unfold ends_twin in k))
      go TornLast q k = absurd (false≢true (unfold ends_twin in k))
      go TwinLast q k = at (stop_at TwinLast (unfold is_bad in refl) (unfold is_full in refl) q)
      go Bad q k = absurd (false≢true (unfold ends_twin in k))

  told_top : Told N B (rows_with n ver l t) f
  told_top = let b = sum_block l t none_met no_sum in record {
    live = f_live;
    compactions = f_compactions;
    fine = fine_ending n ver l t N B ∙ f_orderly;
    state = f_state;
    free = λ h. f_written (good in_order (unfold in_order in refl) f.ending h) ∙ (first_free t (ending_ordered n ver l t (ap in_order (sym f_ending) ∙ h)).last ∙ ap first_empty (sym (top_row_lem l t)));
    last = λ h. f_written (good (λ e. ends_torn e || ends_twin e) (unfold ends_torn ends_twin in refl) f.ending h) ∙ (f_last h ∙ ap filled (sym (top_row_lem l t)));
    block = λ h. b ∙ f_block h;
    held = λ h. ap (λ (b : ℕ). holds b (entries (flatten (l ++ (t ∷ []))))) b ∙ f_held h;
  }

pub told : (N B n : ℕ) (ver : Version) (rows : List (List Slot)) → 1 ≤ length rows → NarrowRows rows → Told N B (record { first = n; slots = rows; version = ver }) (add_rows (tallies rows none_met) no_sum)
told N B n ver rows h k =
    let r = find_top rows h in
    subst (λ (y : List (List Slot)). Told N B (record { first = n; slots = y; version = ver }) (add_rows (tallies y none_met) no_sum)) (sym r.split) (told_top N B n ver r.others r.top (subst NarrowRows r.split k))
