-- (d) by the ending: the last written slot is live and its block was met once before.
use Rattle.std.specs.Prelude.{ℕ, suc, ◌+◌, ◌<◌, ◌≡◌, ◌≢◌, Bool, cond, ◌||◌, ◌&&◌, length, ltb}
use Rattle.std.proofs.Math.Path.{refl, sym, ap}
use Rattle.std.proofs.Common.{◌∙◌, inl, inr}
use Rattle.std.proofs.Math.Bool.{true, false, and-eq-true_iff}
use Rattle.std.proofs.lemmas.Bool.{false≢true}
use mathlib.Core.List.{List, [], ◌∷◌, ◌++◌, flatten, append-nil}
use native.Mathlib.Omega.{arith}
use Rattle.std.proofs.Math.Decide.{ℕ_discrete}
use Rattle.std.proofs.Math.Dec.{leb, eqb}
use borrow.Author.Tests.{ltb-true, leb-true, eqb-true, lt-ltb, le-leb, eq-eqb, eqb-false}
use Rattle.model.specs.Lists.{all}
use Rattle.model.specs.Header.{Version}
use Rattle.model.specs.Slot.{Slot, empty, torn, dead, cut, wrong, live, is_empty, is_torn, is_wrong, Entry, entry_of}
use Rattle.model.specs.State.{View, entries, entries_in, holds, distinct, none_wrong_or_torn, blocks_distinct, empty_slots_last, capacity, place_of, block_in, copies}
use Rattle.model.specs.Table.{Table}
use Rattle.model.proofs.Laws.View.{slot_changed}
use Rattle.bridge.specs.Predicted.{marked}
use Rattle.bridge.specs.Views.Places.{fill, marked_at, marked_entries}
use Rattle.bridge.specs.Views.Shape.{first_live_in}
use Rattle.judge.specs.declared.Ending.{Ending}
use Rattle.judge.specs.declared.Ending.TheVariants.{Full, Room, TornLast, TwinLast, Bad}
use Rattle.judge.specs.Endings.{behind, turn, is_full, is_bad, ends_twin}
use Rattle.judge.specs.Cases.{fine, last_written, twin_block, twin_marked, twin_last}
use Rattle.judge.specs.Judged.{Plain, Judged, stop_judge}
use Rattle.judge.specs.Ordered.{ordered, rows_with, before_top, Ordered, ordered_facts, facts_ordered, ordered_rows, top_entries, ordered_ending, ending_plain, find_last, last_written_lem, last_block_lem, none_written}
use Rattle.judge.specs.Ends.{both_ways, fine_ordered, stop_twin, ending, rows_then, rows_plain, entries_of, swap_sound, swap_last}
use Rattle.model.proofs.Laws.Tables.{copies_append, copies_cons_same, copies_cons_other, copies_none, copies_cons, holds_copies, held_copies, distinct_copies, copies_distinct, without_first}

-- ---- the first entry of a block taken out

without_first_other : (a b : ℕ) (t : Table) → a ≢ b → copies a (without_first b t) ≡ copies a t
unfolding without_first
without_first_other a b [] n = refl
without_first_other a b (e ∷ t) n = go (eqb b e.block) refl (without_first_other a b t n)
  where
    go : (x : Bool) → eqb b e.block ≡ x → copies a (without_first b t) ≡ copies a t → copies a (cond x t (e ∷ without_first b t)) ≡ copies a (e ∷ t)
    go true h ih = sym (copies_cons_other a e t (λ z. n (z ∙ sym (eqb-true b e.block h))))
    go false h ih = copies_cons a e (without_first b t) ∙ (rw ih (sym (copies_cons a e t)))

without_first_same : (b : ℕ) (t : Table) → holds b t ≡ true → (suc (copies b (without_first b t)) ≡ copies b t) × (suc (length (without_first b t)) ≡ length t)
unfolding without_first holds
without_first_same b [] h = absurd (false≢true h)
without_first_same b (e ∷ t) h = go (eqb b e.block) refl h (λ q. without_first_same b t q)
  where
    go : (x : Bool) → eqb b e.block ≡ x → (x || holds b t) ≡ true → (holds b t ≡ true → (suc (copies b (without_first b t)) ≡ copies b t) × (suc (length (without_first b t)) ≡ length t))
        → (suc (copies b (cond x t (e ∷ without_first b t))) ≡ copies b (e ∷ t)) × (suc (length (cond x t (e ∷ without_first b t))) ≡ suc (length t))
    go true q h ih = (sym (copies_cons_same b e t (eqb-true b e.block q)), refl)
    go false q h ih =
        let n = eqb-false b e.block q in
        let i = ih h in
        let c = copies_cons_other b e t n in
        let d = copies_cons_other b e (without_first b t) n in
        (omega (arith, i.0), ap suc i.1)

-- a block that was there once, and once more behind: without its first entry each is there once, and the other way round
module _ (b : ℕ) (x : Table) (e : Entry) (same : b ≡ e.block) where
  behind_copies : copies b (x ++ (e ∷ [])) ≡ suc (copies b x)
  behind_copies = omega (arith, copies_append b x (e ∷ []), copies_cons_same b e [] same, copies_none b)

  behind_holds : holds b (x ++ (e ∷ [])) ≡ true
  behind_holds = holds_copies b (x ++ (e ∷ [])) ∙ lt-ltb 0 (copies b (x ++ (e ∷ []))) (omega (arith, behind_copies))

  twin_distinct : distinct x ≡ true → copies b x ≡ 1 → distinct (without_first b (x ++ (e ∷ []))) ≡ true
  twin_distinct d c = copies_distinct (without_first b (x ++ (e ∷ []))) (λ a. elim (ℕ_discrete a b) [
    | yes q ↦ rw q (omega (arith, (without_first_same b (x ++ (e ∷ [])) behind_holds).0, behind_copies))
    | no q ↦ omega (arith, without_first_other a b (x ++ (e ∷ [])) q, copies_append a x (e ∷ []), copies_cons_other a e [] (λ z. q (z ∙ sym same)), copies_none a, distinct_copies x d a)
  ])

  distinct_twin : distinct (without_first b (x ++ (e ∷ []))) ≡ true → copies b x ≡ 1 → distinct x ≡ true
  distinct_twin d c = copies_distinct x (λ a. elim (ℕ_discrete a b) [
    | yes q ↦ rw q (omega arith)
    | no q ↦ omega (arith, without_first_other a b (x ++ (e ∷ [])) q, copies_append a x (e ∷ []), copies_cons_other a e [] (λ z. q (z ∙ sym same)), copies_none a, distinct_copies (without_first b (x ++ (e ∷ []))) d a)
  ])

-- ---- the older slot marked

module _ (b : ℕ) (v : View) (h : holds b (entries_in v) ≡ true) where
  abbrev twinless : View
  twinless = slot_changed (place_of b v).number (place_of b v).slot dead v

  is_marked_lem : twinless ≡ marked (place_of b v) v
  unfolding slot_changed marked
  is_marked_lem = refl

  pub twinless_entries : entries_in twinless ≡ without_first b (entries_in v)
  twinless_entries = ap entries_in is_marked_lem ∙ marked_entries b v (first_live_in b v h)

  twinless_ordered : ordered twinless ≡ (none_wrong_or_torn v && (distinct (without_first b (entries_in v)) && empty_slots_last v))
  unfolding ordered blocks_distinct is_wrong is_torn is_empty
  twinless_ordered =
      let g = first_live_in b v h in
      let k = live b g.contents in
      let at : twinless ≡ record { first = v.first; slots = fill g.gap dead; version = v.version } = is_marked_lem ∙ marked_at b v g in
      let same_sound : none_wrong_or_torn twinless ≡ none_wrong_or_torn v =
      ap none_wrong_or_torn at ∙ (swap_sound v.first v.version g.gap dead k refl refl ∙ ap (λ (z : List (List Slot)). none_wrong_or_torn (record { first = v.first; slots = z; version = v.version })) (sym g.split)) in
      let same_last : empty_slots_last twinless ≡ empty_slots_last v =
      ap empty_slots_last at ∙ (swap_last v.first v.version g.gap dead k refl ∙ ap (λ (z : List (List Slot)). empty_slots_last (record { first = v.first; slots = z; version = v.version })) (sym g.split)) in
      rw (twinless_entries, same_sound, same_last)

-- ---- the last written slot is live

twin_turn : (p : List Entry) (e : Entry) → holds e.block p ≡ true → turn Full p (live e.block e.contents) ≡ TwinLast
unfolding turn behind
twin_turn p e h = rw h

module _ (N B n : ℕ) (ver : Version) (l : List (List Slot)) (t : List Slot) (proper : (b : ℕ) → holds b (entries_in (rows_with n ver l t)) ≡ true → 0 < b) where
  abbrev w : View
  w = rows_with n ver l t

  module _ (x : List Slot) (e : Entry) (y : List Slot) (split : t ≡ x ++ (live e.block e.contents ∷ y)) (rest : all is_empty y ≡ true) where
    twin_is : twin_block w ≡ e.block
    twin_is = ap (λ (z : List Slot). twin_block (rows_with n ver l z)) split ∙ last_block_lem n ver l x e.block e.contents y rest

    live_entries_lem : entries_in w ≡ before_top l ++ entries x ++ (e ∷ [])
    unfolding entry_of
    live_entries_lem = entries_of n ver l t ∙ (ap (λ (z : List Slot). before_top l ++ entries z) split ∙ top_entries l x (live e.block e.contents) y rest)

    -- the last slot dead instead
    dead_entries : entries_in (rows_with n ver l (x ++ (dead ∷ y))) ≡ before_top l ++ entries x
    unfolding entry_of
    dead_entries = entries_of n ver l (x ++ (dead ∷ y)) ∙ (top_entries l x dead y rest ∙ append-nil (before_top l ++ entries x))

    dead_sound : none_wrong_or_torn w ≡ none_wrong_or_torn (rows_with n ver l (x ++ (dead ∷ y)))
    unfolding is_wrong is_torn
    dead_sound = ap (λ (z : List Slot). none_wrong_or_torn (rows_with n ver l z)) split
        ∙ swap_sound n ver (record { rows_before = l; before = x; after = y; rows_after = [] }) (live e.block e.contents) dead refl refl

    dead_last : empty_slots_last w ≡ empty_slots_last (rows_with n ver l (x ++ (dead ∷ y)))
    unfolding is_empty
    dead_last = ap (λ (z : List Slot). empty_slots_last (rows_with n ver l z)) split
        ∙ swap_last n ver (record { rows_before = l; before = x; after = y; rows_after = [] }) (live e.block e.contents) dead refl

    live_holds : holds e.block (entries_in w) ≡ true
    live_holds = ap (holds e.block) live_entries_lem ∙ behind_holds e.block (before_top l ++ entries x) e refl

    live_copies : copies e.block (entries_in w) ≡ suc (copies e.block (before_top l ++ entries x))
    live_copies = ap (copies e.block) live_entries_lem ∙ behind_copies e.block (before_top l ++ entries x) e refl

    -- the test of (d), in terms of that block
    abbrev test : Bool
    test = ltb 0 e.block && (eqb (copies e.block (entries_in w)) 2 && ((none_wrong_or_torn w && (distinct (without_first e.block (entries_in w)) && empty_slots_last w)) && leb (length (without_first e.block (entries_in w))) (capacity N B)))

    twin_test : twin_last N B w ≡ test
    unfolding twin_last twin_marked
    twin_test = rw (twin_is, fine_ordered N B (twinless e.block w live_holds), twinless_ordered e.block w live_holds, twinless_entries e.block w live_holds)

    within_more : leb (length (without_first e.block (entries_in w))) (capacity N B) ≡ leb (length (entries_in w)) (capacity N B + 1)
    within_more = let s = (without_first_same e.block (entries_in w) live_holds).1 in
        both_ways (leb (length (without_first e.block (entries_in w))) (capacity N B)) (leb (length (entries_in w)) (capacity N B + 1))
        (λ h. le-leb (length (entries_in w)) (capacity N B + 1) (omega (arith, leb-true (length (without_first e.block (entries_in w))) (capacity N B) h)))
        (λ h. le-leb (length (without_first e.block (entries_in w))) (capacity N B) (omega (arith, leb-true (length (entries_in w)) (capacity N B + 1) h)))

    -- the rows are plain before it, and its block is there once
    met_once : test ≡ true → Ordered l (x ++ (dead ∷ y)) × (copies e.block (before_top l ++ entries x) ≡ 1)
    unfolding ordered blocks_distinct
    met_once h =
        let a = ((and-eq-true_iff (ltb 0 e.block) (eqb (copies e.block (entries_in w)) 2 && ((none_wrong_or_torn w && (distinct (without_first e.block (entries_in w)) && empty_slots_last w)) && leb (length (without_first e.block (entries_in w))) (capacity N B)))).0 h).1 in
        let b = (and-eq-true_iff (eqb (copies e.block (entries_in w)) 2) ((none_wrong_or_torn w && (distinct (without_first e.block (entries_in w)) && empty_slots_last w)) && leb (length (without_first e.block (entries_in w))) (capacity N B))).0 a in
        let c = ((and-eq-true_iff (none_wrong_or_torn w && (distinct (without_first e.block (entries_in w)) && empty_slots_last w)) (leb (length (without_first e.block (entries_in w))) (capacity N B))).0 b.1).0 in
        let d = (and-eq-true_iff (none_wrong_or_torn w) (distinct (without_first e.block (entries_in w)) && empty_slots_last w)).0 c in
        let f = (and-eq-true_iff (distinct (without_first e.block (entries_in w))) (empty_slots_last w)).0 d.1 in
        let one : copies e.block (before_top l ++ entries x) ≡ 1 = omega (arith, live_copies, eqb-true (copies e.block (entries_in w)) 2 b.0) in
        let g : distinct (before_top l ++ entries x) ≡ true = distinct_twin e.block (before_top l ++ entries x) e refl (ap (λ (z : Table). distinct (without_first e.block z)) (sym live_entries_lem) ∙ f.0) one in
        let o : ordered (rows_with n ver l (x ++ (dead ∷ y))) ≡ true = rw (sym dead_sound ∙ d.0, dead_entries, g, sym dead_last ∙ f.1) in
        (ordered_facts n ver l (x ++ (dead ∷ y)) o, one)

    met_test : Ordered l (x ++ (dead ∷ y)) → holds e.block (before_top l ++ entries x) ≡ true → test ≡ leb (length (entries_in w)) (capacity N B + 1)
    unfolding ordered blocks_distinct
    met_test o h =
        let q = facts_ordered n ver l (x ++ (dead ∷ y)) o in
        let d = (and-eq-true_iff (none_wrong_or_torn (rows_with n ver l (x ++ (dead ∷ y)))) (distinct (entries_in (rows_with n ver l (x ++ (dead ∷ y)))) && empty_slots_last (rows_with n ver l (x ++ (dead ∷ y))))).0 q in
        let f = (and-eq-true_iff (distinct (entries_in (rows_with n ver l (x ++ (dead ∷ y))))) (empty_slots_last (rows_with n ver l (x ++ (dead ∷ y))))).0 d.1 in
        let g : distinct (before_top l ++ entries x) ≡ true = ap distinct (sym dead_entries) ∙ f.0 in
        let one : copies e.block (before_top l ++ entries x) ≡ 1 = omega (arith, held_copies e.block (before_top l ++ entries x) h, distinct_copies (before_top l ++ entries x) g e.block) in
        let k : distinct (without_first e.block (entries_in w)) ≡ true = ap (λ (z : Table). distinct (without_first e.block z)) live_entries_lem ∙ twin_distinct e.block (before_top l ++ entries x) e refl g one in
        let two : eqb (copies e.block (entries_in w)) 2 ≡ true = eq-eqb (copies e.block (entries_in w)) 2 (omega (arith, live_copies)) in
        rw (lt-ltb 0 e.block (proper e.block live_holds), two, dead_sound ∙ d.0, k, dead_last ∙ f.1) within_more

  -- ---- (d)

  twin_to : twin_last N B w ≡ true → (ends_twin (ending n ver l t) && leb (length (entries_in w)) (capacity N B + 1)) ≡ true
  unfolding ends_twin
  twin_to h = go (all is_empty t) refl
    where
      positive : 0 < twin_block w
      positive = ltb-true 0 (twin_block w) ((and-eq-true_iff (ltb 0 (twin_block w)) (eqb (copies (twin_block w) (entries_in w)) 2 && fine N B (twin_marked w))).0 (unfold twin_last in h)).0

      is_live : (k : Slot) → 0 < block_in (entry_of k) → (e : Entry) × (k ≡ live e.block e.contents)
      is_live empty q = absurd (unfold entry_of block_in in omega arith)
      is_live torn q = absurd (unfold entry_of block_in in omega arith)
      is_live dead q = absurd (unfold entry_of block_in in omega arith)
      is_live cut q = absurd (unfold entry_of block_in in omega arith)
      is_live wrong q = absurd (unfold entry_of block_in in omega arith)
      is_live (live b c) q = (record { block = b; contents = c }, refl)

      at_last : (x : List Slot) (e : Entry) (y : List Slot) → t ≡ x ++ (live e.block e.contents ∷ y) → all is_empty y ≡ true → (ends_twin (ending n ver l t) && leb (length (entries_in w)) (capacity N B + 1)) ≡ true
      at_last x e y s r =
          let m = met_once x e y s r (sym (twin_test x e y s r) ∙ h) in
          let g : holds e.block (before_top l ++ entries x) ≡ true = holds_copies e.block (before_top l ++ entries x) ∙ lt-ltb 0 (copies e.block (before_top l ++ entries x)) (omega (arith, m.1)) in
          let z : ending n ver l t ≡ TwinLast = rows_then n ver l t (ordered_rows m.0) ∙ stop_judge TwinLast (before_top l) t (record {
            left = x;
            slot = live e.block e.contents;
            right = y;
            split = s;
            plain = ending_plain l x dead y (unfold is_empty in refl) r m.0;
            rest = r;
            ending = twin_turn (before_top l ++ entries x) e g;
            stops = (unfold is_full in refl);
          }) in
          rw z (sym (met_test x e y s r m.0 g) ∙ (sym (twin_test x e y s r) ∙ h))

      go : (b : Bool) → all is_empty t ≡ b → (ends_twin (ending n ver l t) && leb (length (entries_in w)) (capacity N B + 1)) ≡ true
      go true e = absurd (none (ap (λ (k : Slot). block_in (entry_of k)) (none_written n ver l t e)))
        where
          none : block_in (entry_of (last_written w)) ≡ block_in (entry_of empty) → ⊥
          none q = let p : 0 < block_in (entry_of (last_written w)) = (unfold twin_block in positive) in let z : block_in (entry_of empty) ≡ 0 = (unfold entry_of block_in in refl) in omega arith
      go false e =
          let r = find_last t e in
          let p : 0 < block_in (entry_of (last_written w)) = (unfold twin_block in positive) in
          let q : last_written w ≡ r.slot = ap (λ (z : List Slot). last_written (rows_with n ver l z)) r.split ∙ last_written_lem n ver l r.left r.slot r.right r.written r.rest in
          let k = is_live r.slot (rw q at p) in
          at_last r.left k.0 r.right (r.split ∙ ap (λ (z : Slot). r.left ++ (z ∷ r.right)) k.1) r.rest

  twin_from : (ends_twin (ending n ver l t) && leb (length (entries_in w)) (capacity N B + 1)) ≡ true → twin_last N B w ≡ true
  twin_from h = let r = rows_plain n ver l t TwinLast (unfold is_bad in refl) (is_twin (ending n ver l t) g.0) in go r.0 r.1
    where
      g : (ends_twin (ending n ver l t) ≡ true) × (leb (length (entries_in w)) (capacity N B + 1) ≡ true)
      g = (and-eq-true_iff (ends_twin (ending n ver l t)) (leb (length (entries_in w)) (capacity N B + 1))).0 h

      is_twin : (e : Ending) → ends_twin e ≡ true → e ≡ TwinLast
      is_twin Full q = absurd (false≢true (unfold ends_twin in q))
      is_twin Room q = absurd (false≢true (unfold ends_twin in q))
      is_twin TornLast q = absurd (false≢true (unfold ends_twin in q))
      is_twin TwinLast q = refl
      is_twin Bad q = absurd (false≢true (unfold ends_twin in q))

      go : Plain [] (flatten l) → Judged TwinLast (before_top l) t → twin_last N B w ≡ true
      go r (inl (e, q)) = absurd (false≢true (unfold is_full in (ap is_full e)))
      go r (inr s) =
          let k = stop_twin (before_top l ++ entries s.left) s.slot s.ending in
          let e : t ≡ s.left ++ (live k.0.block k.0.contents ∷ s.right) = s.split ∙ ap (λ (z : Slot). s.left ++ (z ∷ s.right)) k.1 in
          let d : distinct (before_top l ++ entries s.left ++ entry_of dead) ≡ true = (unfold entry_of in (ap distinct (append-nil (before_top l ++ entries s.left)) ∙ s.plain.once)) in
          let o : Ordered l (s.left ++ (dead ∷ s.right)) = ordered_ending l s.left dead s.right r s.plain s.rest (unfold is_wrong is_torn in refl) d in
          twin_test s.left k.0 s.right e s.rest ∙ (met_test s.left k.0 s.right e s.rest o k.2 ∙ g.1)

  pub twin_ending : twin_last N B w ≡ (ends_twin (ending n ver l t) && leb (length (entries_in w)) (capacity N B + 1))
  twin_ending = both_ways (twin_last N B w) (ends_twin (ending n ver l t) && leb (length (entries_in w)) (capacity N B + 1)) twin_to twin_from
