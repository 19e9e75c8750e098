-- A partition filled or an item written in place, as far as an allowance goes: the reach of the run of statuses, the statuses set, and the bytes of other partitions.
use Rattle.std.specs.Prelude.{ℕ, suc, ◌+◌, ◌*◌, ◌/◌, ◌%◌, ◌≤◌, ◌<◌, ◌≡◌, ◌≢◌, true, take, eqb}
use Rattle.std.proofs.Math.Path.{refl, sym, ap}
use Rattle.std.proofs.Common.{◌∙◌, ⊎_elim, arith, mod-lt, mul_comm, suc-mul, mul-le-mul_right, div-add-mod', eqb-true}
use mathlib.Core.List.{List, [], ◌∷◌, ◌++◌}
use Rattle.std.proofs.Math.Nat.{mul-mod_left, mul-div_cancel}
use Rattle.std.proofs.Math.ListN.{length, get_or}
use Rattle.std.proofs.Math.Seq.{take-length}
use Rattle.model.specs.Chip.{Image, Step, program, erase}
use Rattle.model.specs.Laws.Lists.{and_left, and_right}
use Rattle.flash.specs.Units.{step_in, run_in}
use Rattle.partitions.specs.Partitions.{partitions_ok, image_ok, partition_size, status_of}
use Rattle.partitions.specs.Writes.{Entry, write_items, fill}
use Rattle.partition_runs.specs.Law.{statuses_set}
use Rattle.partition_runs.specs.Rotation.{status_small}
use Rattle.partition_runs.proofs.Runs.{power_within}
use Rattle.partition_runs.specs.Effects.{run_append, run_length, Leaves, left_alone, erase_inside, program_erased}
use Rattle.partition_runs.proofs.Inside.{apart, Within, within_take, within_leaves, within_status, within_sets, sets_append, Part, none, some, whole, part_of}
use Rattle.partition_runs.proofs.Reach.{Reaches, Free, reach_erased, reach_set}

-- ---- an image of P partitions of S bytes

pub record Sized (P S bytes : ℕ) : Type 0 where
  pub two : 2 ≤ P
  pub most : P ≤ 128
  pub total : bytes ≡ P * S

pub sized : (P : ℕ) (s : Image) → image_ok P s ≡ true → Sized P (partition_size P s) (length s)
unfolding image_ok partition_size
sized P s e =
    let w = power_within P (and_left (partitions_ok P) (eqb (length s % P) 0) e) in
    let z = eqb-true (length s % P) 0 (and_right (partitions_ok P) (eqb (length s % P) 0) e) in
    record { two = w.0; most = w.1; total = omega (arith, div-add-mod' (length s) P, mul_comm (length s / P) P) }

pub partition_inside : (P S bytes p : ℕ) → Sized P S bytes → p < P → p * S + S ≤ bytes
partition_inside P S bytes p z h = omega (arith, z.total, suc-mul p S, mul-le-mul_right S h)

-- ---- filled

module _ (P S : ℕ) (s : Image) (z : Sized P S (length s)) (some_bytes : 0 < S) (A W : ℕ) (r : Reaches P S s A W) (es : List Entry) (w : Within S (A % P) (write_items S (A % P) es)) where
  abbrev next : ℕ
  next = A % P

  abbrev list : List Step
  list = fill S next es (W % 255)

  -- what is left of an image: the reach and the statuses are as they were, and so is every other partition; or all was done
  pub data Filled (n : ℕ) (xs : List Step) : Type 0 where
    cut : statuses_set S xs ≡ [] → Reaches P S (run_in S xs s) A W → ((p k : ℕ) → p ≢ next → k < S → get_or (run_in S xs s) (p * S + k) 0 ≡ get_or s (p * S + k) 0) → n < length list → Filled n xs
    filled : statuses_set S xs ≡ next ∷ [] → Reaches P S (run_in S xs s) (suc A) (suc W) → xs ≡ list → length list ≤ n → Filled n xs

  inside : next * S + S ≤ length s
  inside = partition_inside P S (length s) next z (mod-lt A {m = P} (omega (arith, z.two)))

  -- erased, and some of the items' steps
  abbrev erasing : ℕ → List Step
  erasing k = erase next ∷ take k (write_items S next es)

  elsewhere : (k p i : ℕ) → p ≢ next → i < S → Leaves S (p * S + i) (erasing k)
  elsewhere k p i n h = (apart S p next i n h, within_leaves S next (p * S + i) (take k (write_items S next es)) (within_take S next k (write_items S next es) w) (apart S p next i n h))

  status_of_lem : (t : Image) (p : ℕ) → status_of S t p ≡ get_or t (p * S + 0) 0
  unfolding status_of
  status_of_lem t p = ap (λ (y : ℕ). get_or t y 0) (omega arith)

  status_erased : (k : ℕ) → get_or (run_in S (erasing k) s) (next * S) 0 ≡ 255
  unfolding run_in
  status_erased k =
      left_alone S (next * S) (take k (write_items S next es)) (step_in S (erase next) s) (within_status S next next (take k (write_items S next es)) (within_take S next k (write_items S next es) w))
      ∙ ap (λ (y : ℕ). get_or (step_in S (erase next) s) y 0) (omega arith)
      ∙ erase_inside S next 0 s inside some_bytes

  erased : (k : ℕ) → Free P S (run_in S (erasing k) s) A W
  erased k = reach_erased P S z.two z.most s (run_in S (erasing k) s) A W r
      (λ p l n. status_of_lem (run_in S (erasing k) s) p ∙ left_alone S (p * S + 0) (erasing k) s (elsewhere k p 0 n some_bytes) ∙ sym (status_of_lem s p))
      (status_of_lem (run_in S (erasing k) s) next ∙ ap (λ (y : ℕ). get_or (run_in S (erasing k) s) y 0) (omega arith) ∙ status_erased k)

  erasing_sets : (k : ℕ) → statuses_set S (erasing k) ≡ []
  unfolding statuses_set
  erasing_sets k = within_sets S next (take k (write_items S next es)) (within_take S next k (write_items S next es) w)

  -- all but the status, and the status
  abbrev all_items : List Step
  all_items = erasing (length (write_items S next es))

  abbrev last : List Step
  last = program (next * S) (W % 255) ∷ []

  pub list_is : list ≡ all_items ++ last
  unfolding fill
  list_is = rw (take-length (write_items S next es))

  last_leaves : (p i : ℕ) → p ≢ next → i < S → Leaves S (p * S + i) last
  last_leaves p i n h = ((λ e. ⊎_elim (λ l. omega (arith, l, e)) (λ l. omega (arith, l, e)) (apart S p next i n h)), tt)

  all_filled : Reaches P S (run_in S list s) (suc A) (suc W)
  unfolding run_in
  all_filled =
      let t = run_in S all_items s in
      let free = erased (length (write_items S next es)) in
      let small : next * S < length t = omega (arith, run_length S all_items s, inside) in
      rw (list_is, run_append S all_items last s)
      (reach_set P S z.two z.most t (run_in S last t) A W free
      (λ p l n. status_of_lem (run_in S last t) p ∙ left_alone S (p * S + 0) last t (last_leaves p 0 n some_bytes) ∙ sym (status_of_lem t p))
      (status_of_lem (run_in S last t) next ∙ ap (λ (y : ℕ). get_or (run_in S last t) y 0) (omega arith)
      ∙ program_erased S (next * S) (W % 255) t small (omega (arith, status_small W)) (status_erased (length (write_items S next es)))))

  list_sets : statuses_set S list ≡ next ∷ []
  unfolding statuses_set
  list_sets =
      rw (list_is, sets_append S all_items last, erasing_sets (length (write_items S next es)), mul-mod_left next S, mul-div_cancel next some_bytes)

  -- an allowance's worth of it
  pub fills : (n : ℕ) → Filled n (take n list)
  unfolding fill run_in statuses_set
  fills n = go (take n list) (part_of S next (W % 255) es n)
    where
      go : (xs : List Step) → Part S next (W % 255) es n xs → Filled n xs
      go xs (none m) = cut refl r (λ p i d h. refl) m
      go xs (some k l m) = cut (erasing_sets k) (erased k).reach (λ p i d h. left_alone S (p * S + i) (erasing k) s (elsewhere k p i d h)) m
      go xs (whole m) = filled list_sets all_filled refl m
