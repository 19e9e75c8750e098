-- What a list comes to: refused, or by its newest partition; and what a right board knows.
use Prim.Native.Nat.{ℕ, ◌*◌, ◌/◌, ◌%◌, ◌≤◌, ◌<◌}
use mathlib.Core.Path.{◌≡◌, refl, ap}
use mathlib.Core.Bool.{true, false}
use mathlib.Core.List.{List, [], ◌++◌}
use native.Mathlib.Omega.{arith}
use lib.ListN.{length}
use borrow.Author.Tests.{eqb-true, eq-eqb, ne_eqb}
use Rattle.std.specs.Prelude.{Result, Ok, Err}
use Rattle.model.specs.Laws.Lists.{and_left, and_right}
use Rattle.model.specs.Chip.{Image}
use Rattle.model.specs.Answers.{first_of}
use Rattle.text.specs.Text.{text}
use Rattle.text.specs.Buffer.{Wrote}
use Rattle.text.proofs.Laws.{◌then◌, wrote_none}
use Rattle.partitions.specs.declared.Reply.{Reply}
use Rattle.partitions.specs.declared.Reply.TheVariants.{Partitions, Layout, Statuses}
use Rattle.partitions.specs.Layout.{layout_ok, items_of}
use Rattle.partitions.specs.Partitions.{partitions_ok, image_ok, partition_size, status_of, Newest, nothing, newest, no_run, newest_in, newest_of}
use Rattle.partitions.specs.Answers.{number_of, is_no_run, refusals, read_outcome}
use Rattle.partitions.proofs.Laws.{right_layout, used_some}
use Rattle.partition_store.proofs.Asking.{partitions_some, board_whole, unit_inside, newest_below}
use Rattle.settings_item_lines.specs.ItemLines.{item_lines, most_layout}
use Rattle.settings_list.specs.BoardList.{partition_line, newest_line, ListOutcome, list_text, list_outcome, list_on}
use Rattle.settings_list.specs.Listing.{most_list, Right, code_in, length_in, Lists}

-- ---- what a right board knows

module _ (P : ℕ) (layout : List ℕ) (s : Image) (r : Right P layout s) where
  some : 2 ≤ P
  unfolding image_ok
  some = partitions_some P (and_left (partitions_ok P) _ r.image)

  pub not_none : 1 ≤ P
  not_none = omega (arith, some)

  whole : P * (length s / P) ≡ length s
  unfolding image_ok
  whole = board_whole P (length s) (eqb-true (length s % P) 0 (and_right (partitions_ok P) _ r.image))

  pub may_find : (0 < length s / P) × (P * (length s / P) ≤ length s)
  may_find = (omega (arith, (right_layout (length s / P) layout r.table).fit, used_some (items_of layout)), omega (arith, whole))

  pub may_look : (p : ℕ) → newest_in P (length s / P) s ≡ newest p → p * (length s / P) < length s
  may_look p e = omega (arith, may_find.0, unit_inside P (length s / P) p (length s) (newest_below P (length s / P) p s e) may_find.1)

-- ---- what comes back

pub refused_lists : (a : Reply) (r : Result ℕ Reply) (start : List ℕ) {o : ListOutcome} → r ≡ Err a → o ≡ record { code = number_of a; text = [] } → Lists o r start start
unfolding code_in length_in
refused_lists a r start e f = rw (e, f) (record { answers = refl; prints = wrote_none start 0; within = omega arith })

-- one that is not refused is no longer than every list
pub listed_within : (n : ℕ) {o : ListOutcome} {r : Result ℕ Reply} {start buffer : List ℕ} → Lists o r start buffer → r ≡ Ok n → n ≤ most_list
unfolding length_in
listed_within n l e = let k = l.within in rw e at k

module _ (P : ℕ) (layout : List ℕ) (s : Image) where
  refused_as : (a : Reply) → (number_of a ≡ 0 → ⊥) → first_of (refusals P layout s true) ≡ number_of a → list_outcome P layout s ≡ record { code = number_of a; text = [] }
  unfolding list_outcome
  refused_as a z e = rw (e, ne_eqb (number_of a) 0 z)

  wrong_image : image_ok P s ≡ false → list_outcome P layout s ≡ record { code = number_of Partitions; text = [] }
  unfolding first_of refusals number_of
  wrong_image e = refused_as Partitions (λ z. omega arith) (rw e)

  pub wrong_partitions : partitions_ok P ≡ false → list_outcome P layout s ≡ record { code = number_of Partitions; text = [] }
  unfolding image_ok
  wrong_partitions e = wrong_image (rw e)

  pub wrong_length : partitions_ok P ≡ true → (length s % P ≡ 0 → ⊥) → list_outcome P layout s ≡ record { code = number_of Partitions; text = [] }
  unfolding image_ok
  wrong_length e n = wrong_image (rw (e, ne_eqb (length s % P) 0 n))

  module _ (parts : partitions_ok P ≡ true) (even : length s % P ≡ 0) where
    right_image : image_ok P s ≡ true
    unfolding image_ok
    right_image = rw (parts, eq-eqb (length s % P) 0 even)

    pub wrong_table : layout_ok (length s / P) layout ≡ false → list_outcome P layout s ≡ record { code = number_of Layout; text = [] }
    unfolding first_of refusals number_of partition_size
    wrong_table e = refused_as Layout (λ z. omega arith) (rw (right_image, e))

    module _ (table : layout_ok (length s / P) layout ≡ true) where
      pub right : length layout ≤ most_layout → Right P layout s
      right h = record { image = right_image; table = table; few = h }

      on : (n : Newest) → n ≡ newest_of P s → list_outcome P layout s ≡ list_on P layout s n
      unfolding list_outcome list_on first_of refusals is_no_run partition_size
      on nothing e = rw (right_image, table, ← e)
      on (newest p) e = rw (right_image, table, ← e)
      on no_run e = rw (right_image, table, ← e)

      pub right_lists : {r : Result ℕ Reply} {start buffer : List ℕ} → Lists (list_on P layout s (newest_in P (length s / P) s)) r start buffer → Lists (list_outcome P layout s) r start buffer
      unfolding newest_of partition_size
      right_lists x = rw (on (newest_in P (length s / P) s) refl) x

  -- by the newest partition, behind its line
  pub lists_none : (a : Result ℕ Reply) (start : List ℕ) (n : Newest) → n ≡ no_run → a ≡ Err Statuses → Lists (list_on P layout s n) a start start
  unfolding list_on number_of
  lists_none a start n e f = refused_lists Statuses a start f (rw e)

  done_lists : (r : ℕ) (start buffer line : List ℕ) (n : Newest) → list_on P layout s n ≡ record { code = 0; text = line ++ item_lines (read_outcome P layout s) s layout }
      → Wrote (line ++ item_lines (read_outcome P layout s) s layout) start 0 buffer r → r ≤ most_list → Lists (list_on P layout s n) (Ok r) start buffer
  unfolding code_in length_in
  done_lists r start buffer line n e w h = rw e (record { answers = refl; prints = w; within = h })

  module _ (r : ℕ) {start mid buffer : List ℕ} {at : ℕ} (n : Newest) (items : Wrote (item_lines (read_outcome P layout s) s layout) mid at buffer r) (short : r ≤ most_list) where
    pub lists_nothing : n ≡ nothing → Wrote (text "nothing written\n") start 0 mid at → Lists (list_on P layout s n) (Ok r) start buffer
    unfolding list_on list_text newest_line
    lists_nothing e w = done_lists r start buffer (text "nothing written\n") n (rw e) (◌then◌ w items) short

    pub lists_newest : (p status : ℕ) → n ≡ newest p → status ≡ status_of (length s / P) s p → Wrote (partition_line p status) start 0 mid at → Lists (list_on P layout s n) (Ok r) start buffer
    unfolding list_on list_text newest_line partition_size
    lists_newest p status e f w = done_lists r start buffer (partition_line p status) n (rw (e, f)) (◌then◌ w items) short
