-- A fresh image built from a table: its list as it is written, and what it leaves, whatever the chip held before.
use Rattle.std.specs.Prelude.{ℕ, ◌+◌, ◌-◌, ◌*◌, ◌/◌, ◌≤◌, ◌<◌, ◌≡◌, true, false, length}
use Rattle.std.proofs.Math.Path.{refl, ap, subst}
use Rattle.std.proofs.Common.{◌∙◌, arith, mul-le-mul_right, div-lt_iff_lt-mul, length-append}
use mathlib.Core.List.{List, [], ◌∷◌, ◌++◌, flatten}
use Rattle.model.specs.Lists.{all}
use Rattle.model.specs.Chip.{Image, Bytes, largest_image, right_size, run}
use Rattle.model.specs.Header.{new_version, is_former}
use Rattle.model.specs.Slot.{Slot}
use Rattle.model.specs.State.{View, view, entries, distinct, capacity, state, clean}
use Rattle.model.specs.Steps.{format_steps}
use Rattle.model.specs.Table.{Table, table_of}
use Rattle.model.proofs.Laws.Chip.{run_append, size_facts}
use Rattle.model.proofs.Laws.Bytes.{run_bytes}
use Rattle.model.proofs.Laws.CopyOut.{Valids}
use Rattle.bridge.specs.Predicted.{fresh, CleanView}
use Rattle.bridge.specs.Views.Slots.{copied_none}
use Rattle.bridge.specs.Views.Shape.{row_added, added_entries}
use Rattle.bridge.specs.Held.{Held, held_table, clean_of_held}
use Rattle.bridge.specs.Format.{format_held, format_same, format_bytes}
use Rattle.moves.specs.Moves.{put_each, fresh_steps}
use Rattle.moves.specs.Placed.{placed}
use Rattle.moves.proofs.Counted.{slot_steps, placed_length, format_length, slots_few}
use Rattle.moves.proofs.Filling.{filling, Filled, filled_clean, Built, builds}

-- a table that can be written to an image of N segments with B slots
pub record Fits (N B : ℕ) (t : Table) : Type 0 where
  pub once : distinct t ≡ true
  pub few : length t ≤ capacity N B
  pub valid : Valids t

none_filled : (N B : ℕ) → 2 ≤ N → Filled N B [] []
unfolding flatten entries all mathlib.Core.List.flat_map
none_filled N B h = record { sizes = tt; sound = refl; full = refl; live = omega arith; short = omega arith; spare = omega arith }

module _ (N B : ℕ) (t : Table) (s : Image) (z : right_size N B s ≡ true) (f : Fits N B t) where
  begins : Held N B (run B (format_steps N B) s) (filling B [] [])
  unfolding fresh row_added
  begins = subst (λ (y : View). Held N B (run B (format_steps N B) s) y) (ap (λ (y : List Slot). record { first = 0; slots = y ∷ []; version = new_version 0 }) (copied_none B)) (format_held N B s z)

  -- each put after the format, and what they leave
  filled_up : (put_each N B t (run B (format_steps N B) s) ≡ placed N B 0 0 t) × Built N B (run B (put_each N B t (run B (format_steps N B) s)) (run B (format_steps N B) s)) t
  unfolding flatten entries mathlib.Core.List.flat_map
  filled_up = let size = size_facts N B s z in
      builds N B (omega (arith, size.slots)) t f.once f.few t [] [] (run B (format_steps N B) s) (none_filled N B size.two) begins refl f.valid

  pub fresh_list : fresh_steps N B t s ≡ format_steps N B ++ placed N B 0 0 t
  unfolding fresh_steps
  fresh_list = rw filled_up.0

  pub fresh_built : Built N B (run B (fresh_steps N B t s) s) t
  unfolding fresh_steps
  fresh_built = rw (run_append B (format_steps N B) (put_each N B t (run B (format_steps N B) s)) s) filled_up.1

  pub fresh_bytes : Bytes (run B (fresh_steps N B t s) s)
  unfolding fresh_steps
  fresh_bytes = rw (run_append B (format_steps N B) (put_each N B t (run B (format_steps N B) s)) s) (run_bytes B _ (run B (format_steps N B) s) (format_bytes N B s z))

-- ---- what is built

module _ (N B : ℕ) (s : Image) (t : Table) (f : Fits N B t) (b : Built N B s t) where
  built_view : CleanView N B (filling B b.rows b.top)
  built_view = filled_clean N B b.rows b.top b.filled (rw b.entries f.once) (rw b.entries f.few)

  pub built_clean : state N B s ≡ clean
  built_clean = clean_of_held N B s (filling B b.rows b.top) b.held built_view

  pub built_table : table_of N B s ≡ t
  built_table = held_table N B s (filling B b.rows b.top) b.held ∙ (added_entries (new_version 0) B 0 b.rows b.top ∙ b.entries)

  pub built_second : is_former (view N B s).version ≡ false
  unfolding row_added new_version is_former
  built_second = ap (λ (y : View). is_former y.version) b.held.view

-- whatever there was before
pub fresh_same : (N B : ℕ) (t : Table) (s u : Image) → right_size N B s ≡ true → right_size N B u ≡ true → Fits N B t → run B (fresh_steps N B t s) s ≡ run B (fresh_steps N B t u) u
fresh_same N B t s u y z f =
    rw (fresh_list N B t s y f, fresh_list N B t u z f, run_append B (format_steps N B) (placed N B 0 0 t) s, run_append B (format_steps N B) (placed N B 0 0 t) u, format_same N B s u y z)

pub fresh_length : (N B : ℕ) (t : Table) (s : Image) → right_size N B s ≡ true → Fits N B t → length (fresh_steps N B t s) ≡ N + 21 * (1 + (length t - 1) / B) + slot_steps t
fresh_length N B t s z f =
    let z0 : 0 + length t - 1 ≡ length t - 1 = omega arith in
    rw (fresh_list N B t s z f)
    (omega (arith, length-append (format_steps N B) (placed N B 0 0 t), format_length N B, rw z0 at (placed_length N B 0 0 t (omega (arith, (size_facts N B s z).slots)) (omega arith))))

-- it fits the number that an export gives back
pub fresh_few : (N B : ℕ) (t : Table) (s : Image) → right_size N B s ≡ true → Fits N B t → length (fresh_steps N B t s) ≤ largest_image
unfolding capacity
fresh_few N B t s z f =
    let size = size_facts N B s z in
    let some : 0 < B = omega (arith, size.slots) in
    let most : (N - 1) * B ≤ 254 * B = mul-le-mul_right B (omega (arith, size.most)) in
    let least : 1 * B ≤ (N - 1) * B = mul-le-mul_right B (omega (arith, size.two)) in
    let opened : (length t - 1) / B < N - 1 = (div-lt_iff_lt-mul some).1 (omega (arith, f.few)) in
    omega (arith, fresh_length N B t s z f, slots_few t f.valid, f.few, size.most, size.most_b)
