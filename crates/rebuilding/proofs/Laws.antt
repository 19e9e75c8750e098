-- Tables that tell the candidates given list them by rising number; and the outcome of a rebuild from what its parts did.
use Prim.Native.Nat.{ℕ, zero, suc, ◌+◌, ◌*◌, ◌≤◌, ◌<◌}
use mathlib.Core.Path.{◌≡◌, refl, sym, ap, ◌∙◌}
use mathlib.Core.Logic.{◌≢◌, ⊎_elim}
use mathlib.Core.Bool.{Bool, true, false, cond, ◌&&◌}
use mathlib.Core.List.{List, [], ◌∷◌, ◌++◌, map}
use native.Mathlib.Numerals.{add-one}
use native.Mathlib.Omega.{arith}
use lib.ListN.{length, get_or, take, length-append}
use lib.Seq.{take-suc, take_all}
use lib.Dec.{ltb, eqb}
use borrow.Author.Tests.{ne_eqb, lt-ltb, le-ltb}
use Rattle.model.specs.Lists.{count}
use Rattle.model.specs.Chip.{Image, Bytes, right_size}
use Rattle.model.specs.Slot.{live, slot_of, entry_of}
use Rattle.model.specs.State.{segments_of, capacity}
use Rattle.model.specs.Steps.{format_steps}
use Rattle.model.specs.Table.{absent, present, lookup}
use Rattle.model.specs.Answers.{code_of, first_of, performed, worked}
use Rattle.model.specs.Mounted.{least_places}
use Rattle.model.specs.declared.Answer.{Answer}
use Rattle.model.specs.declared.Answer.TheVariants.{Size, Full}
use Rattle.model.specs.declared.Performed.{Performed}
use Rattle.model.specs.Laws.Lists.{map_length, count_append}
use Rattle.request.specs.Request.{Refused}
use Rattle.request.proofs.Answered.{refused_worked}
use Rattle.account_text.specs.Account.{LiveSlot, by_block}
use Rattle.index.specs.Tables.{most_pages, page_of, of_block, blocks_below, Stands}
use Rattle.index.proofs.Sorted.{sorted, sorted_length}
use Rattle.moves.specs.Moves.{by_number, fresh_work}
use Rattle.moves.specs.Placed.{placed}
use Rattle.moves.proofs.Sorted.{found_at, rising, sorted_rising}
use Rattle.moves.proofs.Fresh.{fresh_list}
use Rattle.flash.proofs.Pages.{sized}
use Rattle.adding.specs.Adding.{LivePage}
use Rattle.fresh.specs.Fresh.{page_at, listed, Pointing}
use Rattle.salvage.specs.Salvage.{held_in, candidates, given, salvaged, rebuild_refusals, rebuild_work, rebuild_outcome}
use Rattle.salvage.proofs.Facts.{salvaged_distinct, salvaged_valid, rebuild_fits}
use Rattle.meeting.specs.declared.Sheet.{Sheet}
use Rattle.candidates.specs.Gathered.{NoneOf, OneOf, Tells, Gathered}
use Rattle.candidates.specs.Lie.{candidates_lie, given_below}

-- ---- a block looked up

module _ (b : ℕ) where
  lookup_none : (r : List LiveSlot) → of_block b r ≡ [] → lookup b (map held_in r) ≡ absent
  unfolding of_block lookup held_in
  lookup_none [] h = refl
  lookup_none (e ∷ r) h = go (eqb b e.block) h (lookup_none r)
    where
      go : (u : Bool) → cond u (e ∷ of_block b r) (of_block b r) ≡ [] → (of_block b r ≡ [] → lookup b (map held_in r) ≡ absent) → cond u (present e.contents) (lookup b (map held_in r)) ≡ absent
      go true q ih = absurd (let y : ◌≡◌ {A = ℕ} 0 1 = cc in omega arith)
      go false q ih = ih q

  lookup_one : (r : List LiveSlot) (x : LiveSlot) (y : List LiveSlot) → of_block b r ≡ x ∷ y → lookup b (map held_in r) ≡ present x.contents
  unfolding of_block lookup held_in
  lookup_one [] x y h = absurd (let z : ◌≡◌ {A = ℕ} 0 1 = cc in omega arith)
  lookup_one (e ∷ r) x y h = go (eqb b e.block) h (lookup_one r x y)
    where
      go : (u : Bool) → cond u (e ∷ of_block b r) (of_block b r) ≡ x ∷ y → (of_block b r ≡ x ∷ y → lookup b (map held_in r) ≡ present x.contents) → cond u (present e.contents) (lookup b (map held_in r)) ≡ present x.contents
      go true q ih = let w : e ≡ x = cc in ap (λ (k : LiveSlot). present k.contents) w
      go false q ih = ih q

-- ---- the tables of an image's candidates

module _ (N B : ℕ) (s : Image) (z : right_size N B s ≡ true) (t : Sheet) (g : Gathered N B s t) where
  abbrev found : List LiveSlot
  found = candidates N (segments_of N B s)

  some_page : (e : LiveSlot) → Stands N B e → 0 < page_of B e
  some_page e h = unfold page_of in (omega (arith, h.first))

  -- ---- counted

  one_block : (k : ℕ) → Tells N B s t found k → count (λ p. ltb 0 p) (get_or t.places k 0 ∷ []) ≡ length (of_block k (given found))
  unfolding count
  one_block k h = ⊎_elim
      (λ n. rw (n.place, n.none))
      (λ o. rw (o.one, lt-ltb 0 (get_or t.places k 0) (omega (arith, o.place, some_page o.slot o.lies.stands))))
      h

  count_below : (k : ℕ) → k ≤ most_pages → count (λ p. ltb 0 p) (take k t.places) ≡ length (blocks_below k (given found))
  unfolding blocks_below
  count_below zero h = unfold count in refl
  count_below (suc k) h =
      let l : k < length t.places = omega (arith, g.long) in
      rw (take-suc t.places k 0 l, count_append (λ p. ltb 0 p) (take k t.places) (get_or t.places k 0 ∷ []), length-append (blocks_below k (given found)) (of_block k (given found)), count_below k (omega arith), one_block k (g.tells k (omega arith)))

  below_all : blocks_below most_pages (given found) ≡ by_block (given found)
  below_all = let f = sized N B s z in sym (sorted most_pages (given found) (given_below N B s found (candidates_lie N B s f.some (omega (arith, f.whole)))))

  -- as many places as block numbers are given
  pub counted : count (λ p. ltb 0 p) t.places ≡ length (salvaged N B s)
  unfolding salvaged
  counted =
      ap (count (λ p. ltb 0 p)) (sym (take_all most_pages t.places (omega (arith, g.long))))
      ∙ (count_below most_pages (omega arith) ∙ (ap length below_all ∙ (sorted_length (given found) ∙ sym (map_length held_in (given found)))))

  -- ---- listed

  -- what an entry tells is what the table of those given has
  entry_tells : (k : ℕ) → k < least_places → cond (eqb (get_or t.places k 0) 0) [] (entry_of (slot_of (page_at s (get_or t.places k 0)))) ≡ found_at k (lookup k (salvaged N B s))
  unfolding salvaged found_at
  entry_tells k h = ⊎_elim none one (g.tells k h)
    where
      none : NoneOf t found k → cond (eqb (get_or t.places k 0) 0) [] (entry_of (slot_of (page_at s (get_or t.places k 0)))) ≡ found_at k (lookup k (map held_in (given found)))
      none n = rw (n.place, lookup_none k (given found) n.none)

      one : OneOf N B s t found k → cond (eqb (get_or t.places k 0) 0) [] (entry_of (slot_of (page_at s (get_or t.places k 0)))) ≡ found_at k (lookup k (map held_in (given found)))
      one o =
          let x = o.slot in
          let q : eqb (page_of B x * 256) 0 ≡ false = ne_eqb (page_of B x * 256) 0 (λ w. omega (arith, w, some_page x o.lies.stands)) in
          let p : slot_of (page_at s (page_of B x * 256)) ≡ live k x.contents = o.lies.page ∙ ap (λ (b : ℕ). live b x.contents) o.block in
          rw (o.place, q, p, lookup_one k (given found) x [] o.one) (unfold entry_of in refl)

  pub points : Pointing s t.places
  points = record { long = omega (arith, g.long); points = λ k a b n. go k n (g.tells k b) }
    where
      go : (k : ℕ) → get_or t.places k 0 ≢ 0 → Tells N B s t found k → (get_or t.places k 0 + 256 ≤ length s) × LivePage (page_at s (get_or t.places k 0))
      go k n h = ⊎_elim (λ m. absurd (n m.place)) (λ o. rw o.place (o.lies.inside, (o.slot.block, o.slot.contents, o.lies.page))) h

  listed_rising : (k n : ℕ) → k + n ≤ least_places → listed s t.places k n ≡ rising k n (salvaged N B s)
  unfolding listed rising
  listed_rising k zero h = refl
  listed_rising k (suc n) h = rw (entry_tells k (omega arith), listed_rising (suc k) n (omega arith))

  listed_given : Bytes s → listed s t.places 1 65535 ≡ by_number (salvaged N B s)
  listed_given b = listed_rising 1 65535 (omega arith) ∙ sym (sorted_rising (salvaged N B s) (salvaged_valid N B s b) (salvaged_distinct N B s))

  -- ---- performed

  pub rebuilt : (M D : ℕ) (u : Image) (budget : ℕ) → Bytes s → right_size M D u ≡ true → length (salvaged N B s) ≤ capacity M D → (p : Performed) (v : Image)
      → performed p v ≡ worked D (record { code = 0; steps = format_steps M D ++ placed M D 0 0 (listed s t.places 1 65535) }) u budget
      → performed p v ≡ rebuild_outcome N B s M D u budget
  unfolding rebuild_outcome rebuild_work fresh_work
  rebuilt M D u budget b y few p v e =
      let f = rebuild_fits N B s M D u b (record { source = z; target = y; few = few }) in
      let none : first_of (rebuild_refusals N B s M D u) ≡ 0 = (unfold rebuild_refusals first_of in (rw (z, y, le-ltb (capacity M D) (length (salvaged N B s)) few))) in
      rw (none, fresh_list M D (by_number (salvaged N B s)) u y f, ← (listed_given b)) e

-- ---- refused

module _ (N B : ℕ) (s : Image) (M D : ℕ) (t : Image) (budget : ℕ) where
  refused_rebuild : (a : Answer) {p : Performed} → first_of (rebuild_refusals N B s M D t) ≡ code_of a → eqb (code_of a) 0 ≡ false → Refused a p → performed p t ≡ rebuild_outcome N B s M D t budget
  unfolding rebuild_outcome rebuild_work fresh_work
  refused_rebuild a {p} e n r = rw (e, n) (refused_worked D t budget a p r)

  -- whichever image it is
  wrong_size : {p : Performed} → right_size N B s && right_size M D t ≡ false → Refused Size p → performed p t ≡ rebuild_outcome N B s M D t budget
  unfolding rebuild_refusals first_of code_of
  wrong_size z r = refused_rebuild Size (rw z) refl r

  pub wrong_source : {p : Performed} → right_size N B s ≡ false → Refused Size p → performed p t ≡ rebuild_outcome N B s M D t budget
  wrong_source z r = wrong_size (rw z) r

  pub wrong_target : {p : Performed} → right_size N B s ≡ true → right_size M D t ≡ false → Refused Size p → performed p t ≡ rebuild_outcome N B s M D t budget
  wrong_target z y r = wrong_size (rw (z, y)) r

  pub too_many : {p : Performed} → right_size N B s ≡ true → right_size M D t ≡ true → capacity M D < length (salvaged N B s) → Refused Full p → performed p t ≡ rebuild_outcome N B s M D t budget
  unfolding rebuild_refusals first_of code_of
  too_many z y h r = refused_rebuild Full (rw (z, y, lt-ltb (capacity M D) (length (salvaged N B s)) h)) refl r

-- ---- the loop that counts

pub count_none : (places : List ℕ) → count (λ p. ltb 0 p) (take 0 places) ≡ 0
unfolding count
count_none places = refl

pub count_more : (places : List ℕ) (k n : ℕ) → k < length places → n ≡ count (λ p. ltb 0 p) (take k places) → (get_or places k 0 ≢ 0 → n + 1 ≡ count (λ p. ltb 0 p) (take (k + 1) places)) × (get_or places k 0 ≡ 0 → n ≡ count (λ p. ltb 0 p) (take (k + 1) places))
unfolding count
count_more places k n h e =
    let next : count (λ p. ltb 0 p) (take (k + 1) places) ≡ count (λ p. ltb 0 p) (take k places) + cond (ltb 0 (get_or places k 0)) 1 0 = rw (add-one k, take-suc places k 0 h) (count_append (λ p. ltb 0 p) (take k places) (get_or places k 0 ∷ [])) in
    (λ some. let q : ltb 0 (get_or places k 0) ≡ true = lt-ltb 0 (get_or places k 0) (omega (arith, some)) in sym (next ∙ rw (q, e)), λ none. let q : ltb 0 (get_or places k 0) ≡ false = rw none in e ∙ sym (next ∙ rw q (omega arith)))

pub count_few : (places : List ℕ) (k : ℕ) → count (λ p. ltb 0 p) (take k places) ≤ k
unfolding count
count_few [] zero = omega arith
count_few [] (suc k) = omega arith
count_few (x ∷ places) zero = omega arith
count_few (x ∷ places) (suc k) = go (ltb 0 x) (count_few places k)
  where
    go : (u : Bool) → count (λ p. ltb 0 p) (take k places) ≤ k → cond u (suc (count (λ p. ltb 0 p) (take k places))) (count (λ p. ltb 0 p) (take k places)) ≤ suc k
    go true ih = omega arith
    go false ih = omega arith
