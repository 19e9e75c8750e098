-- Histories of writes: the status set last is the newest partition's, at every point of the cycle, and the run stays single.
use Rattle.std.specs.Prelude.{ℕ, zero, suc, ◌+◌, ◌-◌, ◌*◌, ◌%◌, ◌<◌, ◌≡◌, refl, ◌≢◌, true, List, [], ◌∷◌, ◌++◌, length, take}
use Rattle.std.proofs.Common.{sym, ap, ◌∙◌, subst, arith, mod-lt, add-zero}
use Rattle.std.proofs.Math.Seq.{take-nil}
use Rattle.model.specs.Chip.{Image, Step, Bytes}
use Rattle.model.specs.Answers.{Work}
use Rattle.flash.specs.Units.{run_in}
use Rattle.partitions.specs.Layout.{Item, items_of, layout_ok}
use Rattle.partitions.specs.Partitions.{image_ok, partition_size, status_of, Newest, nothing, newest, no_run, newest_in, newest_of}
use Rattle.partitions.specs.Writes.{Entry, entry_for, write_item, write_items, fill, write_steps}
use Rattle.partitions.specs.Answers.{write_work, worked_in, write_outcome}
use Rattle.partitions.proofs.Laws.{right_layout, used_some, item_lies}
use Rattle.partition_runs.specs.Law.{Call, outcome_of, play, steps_done, statuses_set, last_of, SetLast, AtPoint, Cycle, SingleRun, StaysSingle}
use Rattle.partition_runs.proofs.Runs.{nothing_newest, newest_none, run_newest}
use Rattle.partition_runs.proofs.Backwards.{newest_run}
use Rattle.partition_runs.specs.Effects.{run_length, left_alone, run_bytes}
use Rattle.partition_runs.proofs.Inside.{Within, within_append, within_take, within_status, within_sets, sets_append, item_within}
use Rattle.partition_runs.proofs.Reach.{Reaches, pointed, reach_newest, reach_status, reach_same, reach_none, reach_run}
use Rattle.partition_runs.proofs.Carry.{carried_within, table_suits}
use Rattle.partition_runs.proofs.Filling.{Sized, sized, partition_inside, Filled, cut, filled, fills}
use Rattle.partition_runs.proofs.Calls.{Taken, list_of, Verdict, taken, refused, verdict, entries_for, Plan, filling, placing, plan}

-- ---- one write

-- a right table leaves room for a status
pub some_room : (S : ℕ) (layout : List ℕ) → layout_ok S layout ≡ true → 0 < S
some_room S layout e = omega (arith, (right_layout S layout e).fit, used_some (items_of layout))

-- the steps of its items are within the partition that is filled
pub entries_within : (P : ℕ) (layout : List ℕ) (s : Image) (i : ℕ) (d : List ℕ) → Taken P layout s i d → (A : ℕ)
    → Within (partition_size P s) (A % P) (write_items (partition_size P s) (A % P) (entries_for P (partition_size P s) (items_of layout) s A (entry_for layout i d)))
unfolding entries_for write_items items_of
entries_within P layout s i d t zero =
    let S = partition_size P s in
    let x = item_lies S i layout (right_layout S layout t.table).fit t.known in
    within_append S (0 % P) (write_item S (0 % P) (entry_for layout i d)) [] (item_within S (0 % P) (entry_for layout i d) t.whole x.behind x.inside) tt
entries_within P layout s i d t (suc k) =
    let S = partition_size P s in
    let z = sized P s t.right in
    let p = partition_inside P S (length s) (k % P) z (mod-lt k {m = P} (omega (arith, z.two))) in
    carried_within S s (k % P) (suc k % P) (entry_for layout i d) t.whole p 1 layout (table_suits S s (k % P) (suc k % P) layout i d t.whole p (right_layout S layout t.table) t.known)

-- the steps done, and the image that they leave
abbrev done : ℕ → Image → Call → List Step
done P s x = take x.allowance (write_work P x.layout s x.item x.contents).steps

status_left : (S p q : ℕ) (xs : List Step) (s : Image) → Within S q xs → status_of S (run_in S xs s) p ≡ status_of S s p
unfolding status_of
status_left S p q xs s w = left_alone S (p * S) xs s (within_status S q p xs w)

pub plan_at : (P : ℕ) (s : Image) (xs : List Item) (e : Entry) (z : Sized P (partition_size P s) (length s)) (A W : ℕ) → Reaches P (partition_size P s) s A W
    → Plan P (partition_size P s) z.two z.most s xs e A W (write_steps P (partition_size P s) xs s (newest_of P s) e)
unfolding newest_of
plan_at P s xs e z A W r = plan P (partition_size P s) z.two z.most s xs e A W r

-- an item written in place, or some of it: no status is set, and the run is the same
module _ (P : ℕ) (layout : List ℕ) (s : Image) (i : ℕ) (d : List ℕ) (t : Taken P layout s i d) where
  abbrev size : ℕ
  size = partition_size P s

  placed_within : (p n : ℕ) → Within size p (take n (write_item size p (entry_for layout i d)))
  placed_within p n = let y = item_lies size i layout (right_layout size layout t.table).fit t.known in
      within_take size p n (write_item size p (entry_for layout i d)) (item_within size p (entry_for layout i d) t.whole y.behind y.inside)

  placed_sets : (p n : ℕ) → statuses_set size (take n (write_item size p (entry_for layout i d))) ≡ []
  placed_sets p n = within_sets size p (take n (write_item size p (entry_for layout i d))) (placed_within p n)

  pub placed_reach : (A W : ℕ) → Reaches P size s A W → (p n : ℕ) → Reaches P size (run_in size (take n (write_item size p (entry_for layout i d))) s) A W
  placed_reach A W r p n =
      let z = sized P s t.right in
      let xs = take n (write_item size p (entry_for layout i d)) in
      reach_same P size z.two z.most s (run_in size xs s) A W r (λ q. status_left size q p xs s (placed_within p n))

-- no status was set, and the run is the same; or the next one was
pub data Went (P : ℕ) (s : Image) (A W : ℕ) (xs : List Step) : Type 0 where
  stayed : statuses_set (partition_size P s) xs ≡ [] → Reaches P (partition_size P s) (run_in (partition_size P s) xs s) A W → Went P s A W xs
  moved : statuses_set (partition_size P s) xs ≡ (A % P) ∷ [] → Reaches P (partition_size P s) (run_in (partition_size P s) xs s) (suc A) (suc W) → Went P s A W xs

pub goes : (P : ℕ) (s : Image) (x : Call) (A W : ℕ) → image_ok P s ≡ true → Reaches P (partition_size P s) s A W → Went P s A W (done P s x)
unfolding run_in statuses_set
goes P s x A W ok r = go (write_work P x.layout s x.item x.contents) (verdict P x.layout s x.item x.contents)
  where
    S : ℕ
    S = partition_size P s

    n : ℕ
    n = x.allowance

    z : Sized P S (length s)
    z = sized P s ok

    e : Entry
    e = entry_for x.layout x.item x.contents

    nothing_done : (xs : List Step) → xs ≡ [] → Went P s A W xs
    nothing_done xs h = rw h (stayed refl r)

    planned : Taken P x.layout s x.item x.contents → (xs : List Step) → Plan P S z.two z.most s (items_of x.layout) e A W xs → Went P s A W (take n xs)
    planned t xs filling = ended (fills P S s z (some_room S x.layout t.table) A W r (entries_for P S (items_of x.layout) s A e) (entries_within P x.layout s x.item x.contents t A) n)
      where
        ended : Filled P S s z (some_room S x.layout t.table) A W r (entries_for P S (items_of x.layout) s A e) (entries_within P x.layout s x.item x.contents t A) n
            (take n (fill S (A % P) (entries_for P S (items_of x.layout) s A e) (W % 255)))
            → Went P s A W (take n (fill S (A % P) (entries_for P S (items_of x.layout) s A e) (W % 255)))
        ended (cut a b c l) = stayed a b
        ended (filled a b c l) = moved a b
    planned t xs (placing k h b) = stayed (placed_sets P x.layout s x.item x.contents t (k % P) n) (placed_reach P x.layout s x.item x.contents t A W r (k % P) n)

    go : (w : Work) → Verdict P x.layout s x.item x.contents w → Went P s A W (take n w.steps)
    go w (taken t) = planned t (list_of P x.layout s x.item x.contents) (plan_at P s (items_of x.layout) e z A W r)
    go w (refused k a b e) = nothing_done (take n []) (take-nil n)

-- ---- the image afterwards

pub after : (P : ℕ) (s : Image) (x : Call) → (outcome_of P s x).image ≡ run_in (partition_size P s) (done P s x) s
unfolding outcome_of write_outcome worked_in
after P s x = refl

length_after : (P : ℕ) (s : Image) (x : Call) → length (outcome_of P s x).image ≡ length s
length_after P s x = ap length (after P s x) ∙ run_length (partition_size P s) (done P s x) s

pub size_after : (P : ℕ) (s : Image) (x : Call) → partition_size P (outcome_of P s x).image ≡ partition_size P s
unfolding partition_size
size_after P s x = rw (length_after P s x)

pub right_after : (P : ℕ) (s : Image) (x : Call) → image_ok P (outcome_of P s x).image ≡ image_ok P s
unfolding image_ok
right_after P s x = rw (length_after P s x)

pub bytes_after : (P : ℕ) (s : Image) (x : Call) → Bytes s → Bytes (outcome_of P s x).image
bytes_after P s x b = rw (after P s x) (run_bytes (partition_size P s) (done P s x) s b)

play_bytes : (P : ℕ) (s : Image) (xs : List Call) → Bytes s → Bytes (play P s xs)
unfolding play
play_bytes P s [] b = b
play_bytes P s (x ∷ xs) b = play_bytes P (outcome_of P s x).image xs (bytes_after P s x b)

-- ---- histories

last_from : Newest → List ℕ → Newest
last_from n [] = n
last_from n (p ∷ ps) = last_from (newest p) ps

last_from_lem : (ps : List ℕ) → last_of ps ≡ last_from nothing ps
unfolding last_of last_from
last_from_lem [] = refl
last_from_lem (p ∷ []) = refl
last_from_lem (p ∷ q ∷ r) = last_from_lem (q ∷ r)

-- after a history that set these statuses: they are those of the partitions from the reach on, and the run reaches as far
record Went_on (P S : ℕ) (s : Image) (xs : List Call) (A W : ℕ) : Type 0 where
  reach : Reaches P S (play P s xs) (A + length (statuses_set S (steps_done P s xs))) (W + length (statuses_set S (steps_done P s xs)))
  last : last_from (pointed P A) (statuses_set S (steps_done P s xs)) ≡ pointed P (A + length (statuses_set S (steps_done P s xs)))
  right : image_ok P (play P s xs) ≡ true
  size : partition_size P (play P s xs) ≡ S

goes_on : (P S : ℕ) (s : Image) (xs : List Call) (A W : ℕ) → image_ok P s ≡ true → partition_size P s ≡ S → Reaches P S s A W → Went_on P S s xs A W
unfolding play steps_done statuses_set last_from pointed
goes_on P S s [] A W ok e r = record { reach = rw (add-zero A, add-zero W) r; last = rw (add-zero A); right = ok; size = e }
goes_on P S s (x ∷ xs) A W ok e r = go (goes P s x A W ok (subst (λ (y : ℕ). Reaches P y s A W) (sym e) r)) (λ B U w. goes_on P S next xs B U (right_after P s x ∙ ok) (size_after P s x ∙ e) w)
  where
    next : Image
    next = (outcome_of P s x).image

    rest : List ℕ
    rest = statuses_set S (steps_done P next xs)

    sets : (ys : List ℕ) → statuses_set (partition_size P s) (done P s x) ≡ ys → statuses_set S (done P s x ++ steps_done P next xs) ≡ ys ++ rest
    sets ys h = sets_append S (done P s x) (steps_done P next xs) ∙ ap (λ (l : List ℕ). l ++ rest) (ap (λ (y : ℕ). statuses_set y (done P s x)) (sym e) ∙ h)

    reached : (B U : ℕ) → Reaches P (partition_size P s) (run_in (partition_size P s) (done P s x) s) B U → Reaches P S next B U
    reached B U w = rw (after P s x, ← e) w

    go : Went P s A W (done P s x) → ((B U : ℕ) → Reaches P S next B U → Went_on P S next xs B U) → Went_on P S s (x ∷ xs) A W
    go (stayed a b) ih = let w = ih A W (reached A W b) in
        record { reach = rw (sets [] a) w.reach; last = rw (sets [] a) w.last; right = w.right; size = w.size }
    go (moved a b) ih =
        let w = ih (suc A) (suc W) (reached (suc A) (suc W) b) in
        let l = sets (A % P ∷ []) a in
        let f : A + suc (length rest) ≡ suc A + length rest = omega arith in
        let g : W + suc (length rest) ≡ suc W + length rest = omega arith in
        record { reach = rw (l, f, g) w.reach; last = rw (l, f) w.last; right = w.right; size = w.size }

-- ---- the theorems

-- the newest after a history
newest_after : (P : ℕ) (s : Image) (xs : List Call) (A W : ℕ) → image_ok P s ≡ true → Reaches P (partition_size P s) s A W
    → newest_of P (play P s xs) ≡ pointed P (A + length (statuses_set (partition_size P s) (steps_done P s xs)))
unfolding newest_of
newest_after P s xs A W ok r =
    let w = goes_on P (partition_size P s) s xs A W ok refl r in
    let z = sized P s ok in
    let k = length (statuses_set (partition_size P s) (steps_done P s xs)) in
    rw w.size (reach_newest P (partition_size P s) z.two z.most (play P s xs) (A + k) (W + k) w.reach)

pub set_last : SetLast
unfolding pointed
set_last P s xs u =
    let z = sized P s u.right in
    let r = reach_none P (partition_size P s) z.two z.most s u.none in
    newest_after P s xs 0 0 u.right r
    ∙ sym (last_from_lem (statuses_set (partition_size P s) (steps_done P s xs)) ∙ (goes_on P (partition_size P s) s xs 0 0 u.right refl r).last)

pub cycle : Cycle
unfolding pointed
cycle P s xs u = go (length (statuses_set (partition_size P s) (steps_done P s xs))) refl
  where
    S : ℕ
    S = partition_size P s

    z : Sized P S (length s)
    z = sized P s u.right

    r : Reaches P S s 0 0
    r = reach_none P S z.two z.most s u.none

    w : Went_on P S s xs 0 0
    w = goes_on P S s xs 0 0 u.right refl r

    go : (k : ℕ) → length (statuses_set S (steps_done P s xs)) ≡ k → 0 < k → AtPoint P (play P s xs) k
    go zero e h = absurd (omega arith)
    go (suc k) e h =
        let i : 0 + length (statuses_set S (steps_done P s xs)) ≡ suc k = omega arith in
        let j : suc k - 1 ≡ k = omega arith in
        record {
          at = subst (λ (y : ℕ). newest_of P (play P s xs) ≡ newest (y % P)) (sym j) (rw i at (newest_after P s xs 0 0 u.right r));
          status = rw (j, w.size) (reach_status P S z.two z.most (play P s xs) k k (rw i at w.reach));
        }

-- an image that is not refused with 4 has a reach
pub record Reached (P : ℕ) (s : Image) : Type 0 where
  pub A : ℕ
  pub W : ℕ
  pub reach : Reaches P (partition_size P s) s A W

pub reached : (P : ℕ) (s : Image) → image_ok P s ≡ true → Bytes s → newest_of P s ≢ no_run → Reached P s
unfolding newest_of
reached P s ok bytes single = go (newest_in P S s) refl
  where
    S : ℕ
    S = partition_size P s

    z : Sized P S (length s)
    z = sized P s ok

    go : (n : Newest) → newest_in P S s ≡ n → Reached P s
    go nothing e = record { A = 0; W = 0; reach = reach_none P S z.two z.most s (newest_none P S s e) }
    go (newest p) e =
        let w = newest_run P S s bytes z.most p e in
        record { A = suc (w.start + w.before); W = suc (w.status + w.before); reach = reach_run P S z.two z.most s p w }
    go no_run e = absurd (single e)

pub single_run : SingleRun
unfolding newest_of
single_run P s ok bytes =
    let S = partition_size P s in
    let z = sized P s ok in
    record {
      ends = λ p e. newest_run P S s bytes z.most p e;
      found = λ p w. run_newest P S s w.start w.status w.before (omega (arith, z.two)) (omega (arith, z.most)) w.single ∙ ap newest w.last;
      none = λ e. record { right = ok; none = newest_none P S s e };
      blank = λ u. nothing_newest P S s u.none;
    }

pointed_runs : (P k : ℕ) → pointed P k ≢ no_run
unfolding pointed
pointed_runs P zero e = let z : ◌≡◌ {A = ℕ} 0 1 = cc in omega arith
pointed_runs P (suc k) e = let z : ◌≡◌ {A = ℕ} 0 1 = cc in omega arith

pub stays_single : StaysSingle
stays_single P layout s xs a =
    let r = reached P s a.right a.image a.single in
    let w = goes_on P (partition_size P s) s xs r.A r.W a.right refl r.reach in
    record {
      right = w.right;
      layout_right = rw w.size a.layout_right;
      single = λ e. pointed_runs P (r.A + length (statuses_set (partition_size P s) (steps_done P s xs))) (sym (newest_after P s xs r.A r.W a.right r.reach) ∙ e);
      bytes = a.bytes;
      image = play_bytes P s xs a.image;
    }
