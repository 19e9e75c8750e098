-- Histories of writes as a plain map from item to data, through every cut.
use Prim.Native.Nat.{ℕ, zero, suc, ◌+◌, ◌*◌, ◌%◌, ◌≤◌, ◌<◌}
use Rattle.std.specs.Prelude.{◌≡◌, ◌≢◌, true, false, ◌&&◌, not, get_or, take, drop, leb, eqb}
use Rattle.std.proofs.Math.Path.{refl, ap}
use Rattle.std.proofs.Common.{sym, ◌∙◌, subst, true≢false, arith, mod-lt, take_all, le-leb, eq-eqb, ne_eqb}
use Rattle.std.proofs.Math.Bool.{Bool, cond}
use mathlib.Core.List.{List, [], ◌∷◌}
use Rattle.std.proofs.Math.Decide.{dec_le}
use Rattle.std.proofs.Math.ListN.{length}
use Rattle.std.proofs.Math.Seq.{take-nil}
use Rattle.std.proofs.lemmas.Bool.{lt-leb}
use Rattle.model.specs.Chip.{Image, Step, Bytes}
use Rattle.model.specs.Table.{Found, absent, present}
use Rattle.model.specs.Answers.{Work, first_of, code_under, ReadOutcome}
use Rattle.model.specs.Histories.{Reply}
use Rattle.flash.specs.Units.{run_in}
use Rattle.partitions.specs.Layout.{Item, items_of, has_item, item_of}
use Rattle.partitions.specs.Partitions.{partition_size, Newest, nothing, newest, no_run, newest_of}
use Rattle.partitions.specs.Items.{data_at, data_in, is_written, is_erased}
use Rattle.partitions.specs.Writes.{Entry, entry_for, write_item, fill}
use Rattle.partitions.specs.Answers.{is_no_run, refusals, write_work, worked_in, write_outcome, is_stored, offset_of, read_outcome, piece_read}
use Rattle.partition_runs.specs.Law.{Call, outcome_of, play, answers, reply_to, Accepted, Map, map_of, found, reply_of, stored, stored_all, ByTable, PlainMap, CutChangesNothing, FinishedIsNew, NeverNoRun}
use Rattle.partition_runs.specs.Effects.{run_length}
use Rattle.partition_runs.specs.Values.{value_at}
use Rattle.partition_runs.proofs.Reach.{Reaches, pointed, reach_newest}
use Rattle.partition_runs.proofs.Filling.{Sized, sized, Filled, cut, filled, fills}
use Rattle.partition_runs.proofs.Calls.{Taken, list_of, Verdict, taken, refused, verdict, entries_for, Plan, filling, placing}
use Rattle.partition_runs.proofs.Statuses.{some_room, entries_within, plan_at, placed_reach, stays_single, Reached, reached}
use Rattle.partition_runs.proofs.Maps.{next_other, held_by, kept_value, filled_value, placed_value, unplaced_value}

-- ---- what reads find

-- what the newest partition holds of an item
unfoldable pub held : ℕ → Image → Newest → Item → Found
held S s nothing y = absent
held S s (newest p) y = value_at S s p y
held S s no_run y = absent

read_by : (h st : Bool) (o n : ℕ) → ◌≡◌ {A = ReadOutcome}
    (cond (eqb (cond (not h) 3 (cond (not st) 5 0)) 0) (record { code = 0; offset = o; length = n }) (record { code = cond (not h) 3 (cond (not st) 5 0); offset = 0; length = 0 }))
    (cond h (cond st (record { code = 0; offset = o; length = n }) (record { code = 5; offset = 0; length = 0 })) (record { code = 3; offset = 0; length = 0 }))
read_by true true o n = refl
read_by true false o n = refl
read_by false st o n = refl

is_run : (n : Newest) → n ≢ no_run → is_no_run n ≡ false
unfolding is_no_run
is_run nothing h = refl
is_run (newest p) h = refl
is_run no_run h = absurd (h refl)

as_found : (v : Found) → cond (eqb (found v).code 0) (present (found v).bytes) absent ≡ v
unfolding found
as_found absent = refl
as_found (present d) = refl

module _ (P : ℕ) (layout : List ℕ) (s : Image) (a : Accepted P layout s) (j : ℕ) where
  abbrev S : ℕ
  S = partition_size P s

  abbrev x : Item
  x = item_of j (items_of layout)

  reads_as : read_outcome P layout s j ≡ cond (has_item j (items_of layout))
      (cond (is_stored S s (newest_of P s) x) (record { code = 0; offset = offset_of S (newest_of P s) x; length = x.size }) (record { code = 5; offset = 0; length = 0 }))
      (record { code = 3; offset = 0; length = 0 })
  unfolding read_outcome refusals first_of
  reads_as = rw (a.right, a.layout_right, is_run (newest_of P s) a.single) (read_by (has_item j (items_of layout)) (is_stored S s (newest_of P s) x) (offset_of S (newest_of P s) x) x.size)

  pub reply_held : reply_to P layout s j ≡ cond (has_item j (items_of layout)) (found (held S s (newest_of P s) x)) (record { code = 3; bytes = [] })
  unfolding reply_to piece_read found held is_stored offset_of value_at data_in
  reply_held = rw reads_as (go (has_item j (items_of layout)) (newest_of P s))
    where
      piece : Newest → Bool → ReadOutcome
      piece n h = cond h (cond (is_stored S s n x) (record { code = 0; offset = offset_of S n x; length = x.size }) (record { code = 5; offset = 0; length = 0 })) (record { code = 3; offset = 0; length = 0 })

      written : (p : ℕ) (t : Bool) → ◌≡◌ {A = Reply}
          (let o = cond {A = ReadOutcome} t (record { code = 0; offset = data_at S p x; length = x.size }) (record { code = 5; offset = 0; length = 0 }) in record { code = o.code; bytes = take o.length (drop o.offset s) })
          (found (cond t (present (take x.size (drop (data_at S p x) s))) absent))
      written p true = refl
      written p false = refl

      go : (h : Bool) (n : Newest) → ◌≡◌ {A = Reply} (record { code = (piece n h).code; bytes = take (piece n h).length (drop (piece n h).offset s) }) (cond h (found (held S s n x)) (record { code = 3; bytes = [] }))
      go true nothing = refl
      go true (newest p) = written p (is_written S s p x)
      go true no_run = refl
      go false n = refl

  pub map_held : has_item j (items_of layout) ≡ true → map_of P layout s j ≡ held S s (newest_of P s) x
  unfolding map_of reply_to
  map_held h =
      let e : reply_to P layout s j ≡ found (held S s (newest_of P s) x) = reply_held ∙ rw h in
      ap (λ (r : Reply). cond (eqb r.code 0) (present r.bytes) absent) e ∙ as_found (held S s (newest_of P s) x)

-- ---- one write

-- the answer of a list under an allowance: 9 stores nothing, and 0 the new data
module _ (i : ℕ) (d : List ℕ) (m : Map) (j n : ℕ) (xs : List Step) where
  stored_cut : n < length xs → stored i d (code_under n (record { code = 0; steps = xs })) m j ≡ m j
  unfolding stored code_under
  stored_cut h = rw (lt-leb (length xs) n h)

  stored_done : length xs ≤ n → stored i d (code_under n (record { code = 0; steps = xs })) m j ≡ cond (eqb j i) (present d) (m j)
  unfolding stored code_under
  stored_done h = rw (le-leb (length xs) n h)

stored_refused : (i : ℕ) (d : List ℕ) (m : Map) (j n k : ℕ) → k ≢ 0 → stored i d (code_under n (record { code = k; steps = [] })) m j ≡ m j
unfolding stored code_under
stored_refused i d m j n k h = rw (le-leb 0 n (omega arith), ne_eqb k 0 h)

-- what the newest holds, by the reach
held_by_lem : (P S : ℕ) (u : Image) (A W : ℕ) (two : 2 ≤ P) (most : P ≤ 128) → partition_size P u ≡ S → Reaches P S u A W → (y : Item) → held (partition_size P u) u (newest_of P u) y ≡ held_by P S u A y
unfolding newest_of held held_by pointed
held_by_lem P S u A W two most e r y = rw (e, reach_newest P S two most u A W r) (go A)
  where
    go : (k : ℕ) → held S u (pointed P k) y ≡ held_by P S u k y
    go zero = refl
    go (suc k) = refl

same_size : (P : ℕ) (xs : List Step) (s : Image) → partition_size P (run_in (partition_size P s) xs s) ≡ partition_size P s
unfolding partition_size
same_size P xs s = rw (run_length (partition_size P s) xs s)

module _ (P : ℕ) (s : Image) (x : Call) (a : Accepted P x.layout s) (new : Bytes x.contents) (j : ℕ) (h : has_item j (items_of x.layout) ≡ true) where
  abbrev layout : List ℕ
  layout = x.layout

  abbrev size : ℕ
  size = partition_size P s

  abbrev n : ℕ
  n = x.allowance

  abbrev y : Item
  y = item_of j (items_of layout)

  abbrev e : Entry
  e = entry_for layout x.item x.contents

  z : Sized P size (length s)
  z = sized P s a.right

  r : Reached P s
  r = reached P s a.right a.image a.single

  abbrev before : Map
  before = λ k. held size s (newest_of P s) (item_of k (items_of layout))

  was : before j ≡ held_by P size s r.A y
  was = held_by_lem P size s r.A r.W z.two z.most refl r.reach y

  -- what is held after some steps that leave a reach
  now_held : (xs : List Step) (A W : ℕ) → Reaches P size (run_in size xs s) A W → held (partition_size P (run_in size xs s)) (run_in size xs s) (newest_of P (run_in size xs s)) y ≡ held_by P size (run_in size xs s) A y
  now_held xs A W w = held_by_lem P size (run_in size xs s) A W z.two z.most (same_size P xs s) w y

  abbrev Held : List Step → Work → Type 0
  Held xs w = held (partition_size P (run_in size xs s)) (run_in size xs s) (newest_of P (run_in size xs s)) y ≡ stored x.item x.contents (code_under n w) before j

  module _ (t : Taken P layout s x.item x.contents) where
    turn : (k : ℕ) → k % P < P
    turn k = mod-lt k {m = P} (omega (arith, z.two))

    -- the newest is another partition than the one that was being filled
    kept : (xs : List Step) (A : ℕ) → ((p k : ℕ) → p ≢ A % P → k < size → get_or (run_in size xs s) (p * size + k) 0 ≡ get_or s (p * size + k) 0) → held_by P size (run_in size xs s) A y ≡ held_by P size s A y
    unfolding held_by
    kept xs zero w = refl
    kept xs (suc k) w = kept_value P layout s x.item x.contents t a.image a.bytes new (k % P) (run_in size xs s) (turn k) (run_length size xs s) (λ m l. w (k % P) m (next_other P k z.two) l) j h

    abbrev es : List Entry
    es = entries_for P size (items_of layout) s r.A e

    abbrev fits : 0 < size
    fits = some_room size layout t.table

    -- filled, or cut before its status
    by_filling : Held (take n (fill size (r.A % P) es (r.W % 255))) (record { code = 0; steps = fill size (r.A % P) es (r.W % 255) })
    unfolding held_by
    by_filling = go (fills P size s z fits r.A r.W r.reach es (entries_within P layout s x.item x.contents t r.A) n)
      where
        list : List Step
        list = fill size (r.A % P) es (r.W % 255)

        go : Filled P size s z fits r.A r.W r.reach es (entries_within P layout s x.item x.contents t r.A) n (take n list) → Held (take n list) (record { code = 0; steps = list })
        go (cut b c w l) =
            now_held (take n list) r.A r.W c ∙ kept (take n list) r.A w ∙ sym was ∙ sym (stored_cut x.item x.contents before j n list l)
        go (filled b c w l) =
            now_held (take n list) (suc r.A) (suc r.W) c
            ∙ rw w (filled_value P layout s x.item x.contents t a.image a.bytes new r.A (r.W % 255) j h)
            ∙ ap (λ (v : Found). cond (eqb j x.item) (present x.contents) v) (sym was)
            ∙ sym (stored_done x.item x.contents before j n list l)

    -- in place, or cut before its identifier
    by_placing : (k : ℕ) → r.A ≡ suc k → is_erased size s (k % P) e.item ≡ true → Held (take n (write_item size (k % P) e)) (record { code = 0; steps = write_item size (k % P) e })
    unfolding held_by
    by_placing k c blank = elim (dec_le (length list) n) [ yes l ↦ whole l | no l ↦ part (omega arith) ]
      where
        list : List Step
        list = write_item size (k % P) e

        held_here : (u : Image) → held_by P size u r.A y ≡ value_at size u (k % P) y
        held_here u = rw c

        reach_after : Reaches P size (run_in size (take n list) s) r.A r.W
        reach_after = placed_reach P layout s x.item x.contents t r.A r.W r.reach (k % P) n

        part : n < length list → Held (take n list) (record { code = 0; steps = list })
        part l = now_held (take n list) r.A r.W reach_after ∙ held_here (run_in size (take n list) s)
            ∙ unplaced_value P layout s x.item x.contents t a.image a.bytes new (k % P) (turn k) blank n l j h
            ∙ sym (held_here s) ∙ sym was ∙ sym (stored_cut x.item x.contents before j n list l)

        whole : length list ≤ n → Held (take n list) (record { code = 0; steps = list })
        whole l = now_held (take n list) r.A r.W reach_after ∙ held_here (run_in size (take n list) s)
            ∙ rw (take_all n list l) (placed_value P layout s x.item x.contents t a.image a.bytes new (k % P) (turn k) blank j h)
            ∙ ap (λ (v : Found). cond (eqb j x.item) (present x.contents) v) (sym (held_here s) ∙ sym was)
            ∙ sym (stored_done x.item x.contents before j n list l)

    by_plan : (xs : List Step) → Plan P size z.two z.most s (items_of layout) e r.A r.W xs → Held (take n xs) (record { code = 0; steps = xs })
    by_plan xs filling = by_filling
    by_plan xs (placing k c blank) = by_placing k c blank

  verdict_held : (w : Work) → Verdict P layout s x.item x.contents w → Held (take n w.steps) w
  unfolding run_in
  verdict_held w (taken t) = by_plan t (list_of P layout s x.item x.contents) (plan_at P s (items_of layout) e z r.A r.W r.reach)
  verdict_held w (refused k p q e) = rw (take-nil {A = Step} n) (sym (stored_refused x.item x.contents before j n k p))

  -- after one write
  pub write_held : held (partition_size P (outcome_of P s x).image) (outcome_of P s x).image (newest_of P (outcome_of P s x).image) y ≡ stored x.item x.contents (outcome_of P s x).code before j
  unfolding outcome_of write_outcome worked_in
  write_held = verdict_held (write_work P layout s x.item x.contents) (verdict P layout s x.item x.contents)

-- ---- the theorems

-- reads that find what a map says
abbrev Finds : ℕ → List ℕ → Image → Map → Type 0
Finds P layout s m = (j : ℕ) → has_item j (items_of layout) ≡ true → held (partition_size P s) s (newest_of P s) (item_of j (items_of layout)) ≡ m j

-- one write
one_write : (P : ℕ) (s : Image) (x : Call) (m : Map) → Accepted P x.layout s → Bytes x.contents → Finds P x.layout s m → Finds P x.layout (outcome_of P s x).image (stored x.item x.contents (outcome_of P s x).code m)
unfolding stored
one_write P s x m a new f j h =
    write_held P s x a new j h ∙ ap (λ (v : Found). cond (eqb (outcome_of P s x).code 0 && eqb j x.item) (present x.contents) v) (f j h)

accepted_after : (P : ℕ) (layout : List ℕ) (s : Image) (x : Call) → Accepted P layout s → Accepted P layout (outcome_of P s x).image
unfolding play
accepted_after P layout s x a = stays_single P layout s (x ∷ []) a

-- any number of them
writes : (P : ℕ) (layout : List ℕ) (s : Image) (xs : List Call) (m : Map) → Accepted P layout s → ByTable layout xs → Finds P layout s m → Finds P layout (play P s xs) (stored_all xs (answers P s xs) m)
unfolding play answers stored_all
writes P layout s [] m a b f = f
writes P layout s (x ∷ xs) m a (e, new, rest) f =
    let next = subst (λ (l : List ℕ). Accepted P l s → Finds P l s m → Finds P l (outcome_of P s x).image (stored x.item x.contents (outcome_of P s x).code m)) e (λ b g. one_write P s x m b new g) a f in
    writes P layout (outcome_of P s x).image xs (stored x.item x.contents (outcome_of P s x).code m) (accepted_after P layout s x a) rest next

-- what reads find is what they are told
replies : (P : ℕ) (layout : List ℕ) (s : Image) (m : Map) → Accepted P layout s → Finds P layout s m → (i : ℕ) → reply_to P layout s i ≡ reply_of layout m i
unfolding reply_of
replies P layout s m a f i = reply_held P layout s a i ∙ go (has_item i (items_of layout)) refl
  where
    go : (t : Bool) → has_item i (items_of layout) ≡ t
        → cond t (found (held (partition_size P s) s (newest_of P s) (item_of i (items_of layout)))) (record { code = 3; bytes = [] }) ≡ cond t (found (m i)) (record { code = 3; bytes = [] })
    go true h = ap found (f i h)
    go false h = refl

-- the map that an image holds
its_map : (P : ℕ) (layout : List ℕ) (s : Image) → Accepted P layout s → Finds P layout s (map_of P layout s)
its_map P layout s a j h = sym (map_held P layout s a j h)

pub plain_map : PlainMap
plain_map P layout s xs a b =
    replies P layout (play P s xs) (stored_all xs (answers P s xs) (map_of P layout s)) (stays_single P layout s xs a) (writes P layout s xs (map_of P layout s) a b (its_map P layout s a))

-- one write, by what it answered
told_after : (P : ℕ) (s : Image) (x : Call) → Accepted P x.layout s → Bytes x.contents → (i : ℕ)
    → reply_to P x.layout (outcome_of P s x).image i ≡ reply_of x.layout (stored x.item x.contents (outcome_of P s x).code (map_of P x.layout s)) i
told_after P s x a new =
    replies P x.layout (outcome_of P s x).image (stored x.item x.contents (outcome_of P s x).code (map_of P x.layout s)) (accepted_after P x.layout s x a)
    (one_write P s x (map_of P x.layout s) a new (its_map P x.layout s a))

told_before : (P : ℕ) (layout : List ℕ) (s : Image) → Accepted P layout s → (i : ℕ) → reply_of layout (map_of P layout s) i ≡ reply_to P layout s i
told_before P layout s a i = sym (replies P layout s (map_of P layout s) a (its_map P layout s a) i)

pub cut_changes_nothing : CutChangesNothing
unfolding reply_of stored
cut_changes_nothing P s x a new c i = told_after P s x a new i ∙ rw c (told_before P x.layout s a i)

-- what answered 0 was taken
done_known : (P : ℕ) (s : Image) (x : Call) → (outcome_of P s x).code ≡ 0 → has_item x.item (items_of x.layout) ≡ true
unfolding outcome_of write_outcome worked_in code_under
done_known P s x = go (write_work P x.layout s x.item x.contents) (verdict P x.layout s x.item x.contents)
  where
    go : (w : Work) → Verdict P x.layout s x.item x.contents w → cond (leb (length w.steps) x.allowance) w.code 9 ≡ 0 → has_item x.item (items_of x.layout) ≡ true
    go w (taken t) e = t.known
    go w (refused k p q f) e = absurd (p (rw (le-leb 0 x.allowance (omega arith)) at e))

pub finished_is_new : FinishedIsNew
unfolding reply_of stored found
finished_is_new P s x a new c = (
  told_after P s x a new x.item ∙ rw (c, done_known P s x c, eq-eqb x.item x.item refl),
  λ i n. told_after P s x a new i ∙ rw (c, ne_eqb i x.item n) (told_before P x.layout s a i),
)

-- 4 is answered where the statuses are no run
pub never_no_run : NeverNoRun
unfolding outcome_of write_outcome worked_in code_under
never_no_run P layout s xs a x = go (write_work P x.layout u x.item x.contents) (verdict P x.layout u x.item x.contents)
  where
    u : Image
    u = play P s xs

    under : (t : Bool) (k : ℕ) → k ≢ 4 → cond t k 9 ≢ 4
    under true k n e = n e
    under false k n e = omega arith

    go : (w : Work) → Verdict P x.layout u x.item x.contents w → cond (leb (length w.steps) x.allowance) w.code 9 ≢ 4
    go w (taken t) = under (leb (length (list_of P x.layout u x.item x.contents)) x.allowance) 0 (λ e. omega arith)
    go w (refused k p q f) = under (leb 0 x.allowance) k (λ e. true≢false (sym (f e) ∙ is_run (newest_of P u) (stays_single P layout s xs a).single))
