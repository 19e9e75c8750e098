-- Laws of a fresh image: the page of a live slot lent, the image formatted, and the loop over block numbers.
use Prim.Native.Nat.{ℕ, zero, suc, ◌+◌, ◌-◌, ◌*◌, ◌≤◌, ◌<◌}
use mathlib.Core.Path.{◌≡◌, refl, sym, ap, ◌∙◌}
use mathlib.Core.Logic.{◌≢◌}
use mathlib.Core.Bool.{true, cond}
use mathlib.Core.List.{List, [], ◌++◌, append-nil, append_assoc}
use native.Mathlib.Nat.{sub-zero}
use native.Mathlib.Numerals.{add-one}
use native.Mathlib.Omega.{arith}
use lib.ListN.{length, get_or, take, drop, length-append, length-take}
use lib.Dec.{eqb}
use borrow.Author.Tests.{eq-eqb, ne_eqb}
use Rattle.model.specs.Chip.{Image, Page, Step, right_size}
use Rattle.model.specs.Slot.{slot_of, entry_of}
use Rattle.model.specs.Steps.{format_steps}
use Rattle.model.specs.Table.{Table}
use Rattle.model.specs.Answers.{Work, format, steps_for, work_on, work_of, performed, Outcome, worked, outcome_of}
use Rattle.model.specs.Mounted.{Places}
use Rattle.model.proofs.Laws.Chip.{size_facts}
use Rattle.model.specs.declared.Performed.{Performed}
use Rattle.bridge.specs.Refusals.{format_code}
use Rattle.moves.specs.Placed.{placed}
use Rattle.moves.proofs.Counted.{format_length}
use Rattle.flash.specs.Ran.{Ran}
use Rattle.flash.specs.Pages.{Sized}
use Rattle.flash.proofs.Laws.{◌then◌, ran_none, ran_length}
use Rattle.flash.proofs.Pages.{sized}
use Rattle.request.specs.Request.{Finished}
use Rattle.request.proofs.Answered.{carried, carried_worked}
use Rattle.adding.specs.declared.Progress.{Progress}
use Rattle.adding.specs.Adding.{LivePage, onward, Going, Added}
use Rattle.skipping.specs.Passed.{Passed}
use Rattle.fresh.specs.Fresh.{page_at, listed}

-- ---- the page that is lent of an image

abbrev lent : Image → ℕ → Page
lent s at = take (at + 256 - at) (drop at s)

lent_page : (s : Image) (at : ℕ) → lent s at ≡ page_at s at
lent_page s at = let e : at + 256 - at ≡ 256 = omega arith in rw e

pub page_lives : (s : Image) (at : ℕ) → LivePage (page_at s at) → LivePage (take (at + 256 - at) (drop at s))
page_lives s at h = rw (lent_page s at) h

pub page_adds : (N B : ℕ) (s : Image) (at : ℕ) (p q : Progress) (u v : Image) → Added N B (entry_of (slot_of (take (at + 256 - at) (drop at s)))) p q u v → Added N B (entry_of (slot_of (page_at s at))) p q u v
page_adds N B s at p q u v d = rw (lent_page s at) at d

-- ---- formatted

format_work : (N B : ℕ) (s : Image) → right_size N B s ≡ true → work_of N B s format ≡ record { code = 0; steps = format_steps N B }
unfolding work_of work_on steps_for
format_work N B s z = rw (format_code N B s z)

module _ (N B : ℕ) (s t : Image) (budget : ℕ) (p : Performed) (z : right_size N B s ≡ true) (d : performed p t ≡ outcome_of N B s budget format) where
  format_count : p.steps ≡ length (take budget (format_steps N B))
  unfolding performed outcome_of
  format_count = ap (λ (o : Outcome). o.count) d ∙ ap (λ (w : Work). length (take budget w.steps)) (format_work N B s z)

  format_image : t ≡ (worked B (record { code = 0; steps = format_steps N B }) s budget).image
  unfolding performed outcome_of
  format_image = ap (λ (o : Outcome). o.image) d ∙ ap (λ (w : Work). (worked B w s budget).image) (format_work N B s z)

  pub format_paid : p.steps ≤ budget
  format_paid = omega (arith, format_count, length-take budget (format_steps N B))

  formatted : Ran (format_steps N B) B budget (budget - p.steps) s t
  formatted = record { image = format_image; rest = omega (arith, format_count, length-take budget (format_steps N B)) }

  pub format_sized : Sized N B (length t) × (0 < B)
  format_sized = (rw (ran_length formatted) (sized N B s z), omega (arith, (size_facts N B s z).slots))

-- ---- the entries of a table, one after the other

-- what the entry of one block number tells
abbrev tells : Image → Places → ℕ → Table
tells s t k = cond (eqb (get_or t k 0) 0) [] (entry_of (slot_of (page_at s (get_or t k 0))))

-- those from a number on. The count of all numbers is a variable in the laws: nothing computes so long a list
abbrev table_from : ℕ → Image → Places → ℕ → Table
table_from all s t k = listed s t k (all - k)

listed_next : (all : ℕ) (s : Image) (t : Places) (k : ℕ) → k < all → table_from all s t k ≡ tells s t k ++ table_from all s t (k + 1)
unfolding listed
listed_next all s t k h = let e : all - k ≡ suc (all - suc k) = omega arith in rw (e, add-one)

listed_end : (all : ℕ) (s : Image) (t : Places) (k : ℕ) → all ≤ k → table_from all s t k ≡ []
unfolding listed
listed_end all s t k h = let e : all - k ≡ 0 = omega arith in rw e

-- ---- the loop

placed_none : (N B n j : ℕ) → placed N B n j [] ≡ []
unfolding placed
placed_none N B n j = refl

-- the loop's invariant: the steps since it began, and then what the numbers from `block` on tell, are what it has to do
pub record Building (all N B : ℕ) (s : Image) (t : Places) (begun : Progress) (from : Image) (block : ℕ) (p : Progress) (u : Image) : Type 0 where
  pub done : List Step
  pub ran : Ran done B begun.left p.left from u
  pub counted : p.steps ≡ begun.steps + length done
  pub whole : done ++ onward N B p (table_from all s t block) ≡ onward N B begun (table_from all s t 1)
  pub few : p.steps ≤ begun.steps + 274 * block
  pub number : p.top.0 < block
  pub free : p.free ≤ B
  pub low : 0 < block

module _ (all N B : ℕ) (s : Image) (t : Places) (begun : Progress) (from : Image) where
  pub building_start : begun.top.0 ≡ 0 → begun.free ≤ B → Building all N B s t begun from 1 begun from
  building_start n f = record {
    done = [];
    ran = ran_none B begun.left from;
    counted = omega arith;
    whole = refl;
    few = omega arith;
    number = omega arith;
    free = f;
    low = omega arith;
  }

  module _ (block : ℕ) (p : Progress) (u : Image) (c : Building all N B s t begun from block p u) where
    building_length : length u ≡ length from
    building_length = ran_length c.ran

    pub building_going : Sized N B (length from) → 0 < B → begun.steps ≤ 276 → block < 65536 → Going N B p (length u)
    building_going z o l h = record {
      sized = rw building_length z;
      some = o;
      free = c.free;
      number = omega (arith, c.number);
      few = omega (arith, c.few);
    }

    module _ (more : block < all) where
      -- an entry of 0
      pub building_none : get_or t block 0 ≡ 0 → Building all N B s t begun from (block + 1) p u
      building_none e =
          let a : table_from all s t block ≡ table_from all s t (block + 1) = listed_next all s t block more ∙ rw (eq-eqb (get_or t block 0) 0 e) refl in
          record {
            done = c.done;
            ran = c.ran;
            counted = c.counted;
            whole = ap (λ (l : Table). c.done ++ onward N B p l) (sym a) ∙ c.whole;
            few = omega (arith, c.few);
            number = omega (arith, c.number);
            free = c.free;
            low = omega arith;
          }

      -- a place
      pub building_turn : (q : Progress) (v : Image) → get_or t block 0 ≢ 0 → Added N B (entry_of (slot_of (page_at s (get_or t block 0)))) p q u v → Building all N B s t begun from (block + 1) q v
      building_turn q v n d =
          let a : table_from all s t block ≡ entry_of (slot_of (page_at s (get_or t block 0))) ++ table_from all s t (block + 1) = listed_next all s t block more ∙ rw (ne_eqb (get_or t block 0) 0 n) refl in
          let l : length (c.done ++ d.steps) ≡ length c.done + length d.steps = length-append c.done d.steps in
          record {
            done = c.done ++ d.steps;
            ran = ◌then◌ c.ran d.came.ran;
            counted = omega (arith, c.counted, d.came.counted);
            whole = append_assoc c.done d.steps (onward N B q (table_from all s t (block + 1)))
                ∙ ap (λ (y : List Step). c.done ++ y) (sym (ap (onward N B p) a ∙ d.next (table_from all s t (block + 1))))
                ∙ c.whole;
            few = omega (arith, c.few, d.came.counted, d.few);
            number = omega (arith, c.number, d.came.number);
            free = d.came.free;
            low = omega arith;
          }

    building_whole : all ≤ block → c.done ≡ onward N B begun (table_from all s t 1)
    building_whole h =
        let end : onward N B p (table_from all s t block) ≡ [] = ap (onward N B p) (listed_end all s t block h) ∙ placed_none N B p.top.0 (B - p.free) in
        sym (append-nil c.done) ∙ ap (λ (y : List Step). c.done ++ y) (sym end) ∙ c.whole

-- where the loop begins: the first segment is open
abbrev pub Begun : ℕ → ℕ → ℕ → Performed → Progress
Begun N B budget f = record { top = record { 0 = 0 }; free = B; left = budget - f.steps; steps = N + 21 }

module _ (N B : ℕ) (first from : Image) (budget : ℕ) (f : Performed) (z : right_size N B first ≡ true) (d : performed f from ≡ outcome_of N B first budget format) where
  pub building_end : (all : ℕ) (s : Image) (t : Places) (block : ℕ) (p : Progress) (u : Image) {r : Performed} → Building all N B s t (Begun N B budget f) from block p u → all ≤ block → Finished budget p.left budget p.steps r
      → performed r u ≡ worked B (record { code = 0; steps = format_steps N B ++ placed N B 0 0 (listed s t 1 (all - 1)) }) first budget
  building_end all s t block p u c h e =
      let xs = format_steps N B ++ c.done in
      let l : length xs ≡ p.steps = length-append (format_steps N B) c.done ∙ omega (arith, format_length N B, c.counted) in
      let a : B - B ≡ 0 = omega arith in
      let whole : c.done ≡ placed N B 0 0 (table_from all s t 1) = building_whole all N B s t (Begun N B budget f) from block p u c h ∙ rw a refl in
      rw (← whole)
      (carried_worked B first budget [] xs (omega (arith, l, c.counted)) (carried [] xs (◌then◌ (formatted N B first from budget f z d) c.ran) (sym (sub-zero budget)) (sym l) e))

-- ---- entries passed over

module _ (all N B : ℕ) (s : Image) (t : Places) (begun : Progress) (from : Image) (p : Progress) (u : Image) where
  building_many : (g block : ℕ) → Building all N B s t begun from block p u → block + g ≤ all → ((k : ℕ) → block ≤ k → k < block + g → get_or t k 0 ≡ 0) → Building all N B s t begun from (block + g) p u
  building_many zero block c h n = let e : block + 0 ≡ block = omega arith in rw e c
  building_many (suc g) block c h n =
      let e : block + suc g ≡ block + 1 + g = omega arith in
      rw e (building_many g (block + 1) (building_none all N B s t begun from block p u c (omega arith) (n block (omega arith) (omega arith))) (omega arith) (λ k a b. n k (omega arith) (omega arith)))

  -- from one entry to another, none of which tells a place
  pub building_passed : (block to : ℕ) → Building all N B s t begun from block p u → Passed t block to → to ≤ all → Building all N B s t begun from to p u
  building_passed block to c h m =
      let e : block + (to - block) ≡ to = omega (arith, h.up) in
      rw e at (building_many (to - block) block c (omega (arith, h.up)) (λ k a b. h.none k a (omega (arith, h.up))))
