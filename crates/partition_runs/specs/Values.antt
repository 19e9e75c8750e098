-- What an item of a partition holds, from its bytes; and an item that is written where all its bytes are 255.
use Prim.Native.Nat.{ℕ, suc, ◌+◌, ◌*◌, ◌≤◌, ◌<◌}
use Rattle.std.specs.Prelude.{◌≡◌, ◌≢◌, cond, List, [], ◌∷◌, length, drop}
use Rattle.std.proofs.Common.{sym, ◌∙◌, ⊎_elim, arith, length-drop, ext_get_or, get_or-take, get_or-drop, length-take-le, eq-eqb, ne_eqb}
use Rattle.std.proofs.Math.Path.{ap}
use Rattle.std.proofs.Math.Logic.{inl, inr}
use Rattle.std.proofs.Math.ListN.{get_or, take}
use Rattle.model.specs.Chip.{Image, Step, program, Bytes}
use Rattle.model.specs.Table.{Found, absent, present}
use Rattle.model.specs.Steps.{programs}
use Rattle.model.proofs.Laws.Programs.{Outside}
use Rattle.flash.specs.Units.{step_in, run_in}
use Rattle.partitions.specs.Layout.{Item}
use Rattle.partitions.specs.Items.{identifier_at, data_at, data_in, is_written}
use Rattle.partitions.specs.Writes.{Entry, write_item}
use Rattle.partition_runs.specs.Effects.{run_append, run_length, Leaves, left_alone, leaves_append, leaves_programs, program_erased, programs_erased}

-- the data of an item of partition p, if it is written there
unfoldable pub value_at : ℕ → Image → ℕ → Item → Found
value_at S s p x = cond (is_written S s p x) (present (data_in S s p x)) absent

-- ---- by its bytes

part_is : (at : ℕ) (d t : List ℕ) → at + length d ≤ length t → ((k : ℕ) → k < length d → get_or t (at + k) 0 ≡ get_or d k 0) → take (length d) (drop at t) ≡ d
part_is at d t h e =
    let l : length (take (length d) (drop at t)) ≡ length d = length-take-le (length d) (drop at t) (omega (arith, length-drop at t)) in
    ext_get_or 0 (take (length d) (drop at t)) d l (λ k w. get_or-take (length d) (drop at t) k 0 (omega arith) ∙ get_or-drop at t k 0 ∙ e k (omega arith))

part_same : (at n : ℕ) (s t : List ℕ) → at + n ≤ length s → length t ≡ length s → ((k : ℕ) → k < n → get_or t (at + k) 0 ≡ get_or s (at + k) 0) → take n (drop at t) ≡ take n (drop at s)
part_same at n s t h l e =
    let a : length (take n (drop at s)) ≡ n = length-take-le n (drop at s) (omega (arith, length-drop at s)) in
    let b : length (take n (drop at t)) ≡ n = length-take-le n (drop at t) (omega (arith, length-drop at t)) in
    ext_get_or 0 (take n (drop at t)) (take n (drop at s)) (b ∙ sym a) (λ k w.
    get_or-take n (drop at t) k 0 (omega arith) ∙ get_or-drop at t k 0 ∙ e k (omega arith) ∙ sym (get_or-take n (drop at s) k 0 (omega arith) ∙ get_or-drop at s k 0))

module _ (S p : ℕ) (x : Item) where
  pub same_value : (s t : Image) → p * S + x.at + 1 + x.size ≤ length s → length t ≡ length s
      → ((k : ℕ) → k ≤ x.size → get_or t (p * S + (x.at + k)) 0 ≡ get_or s (p * S + (x.at + k)) 0) → value_at S t p x ≡ value_at S s p x
  unfolding value_at is_written data_in data_at identifier_at
  same_value s t h l e =
      let i : get_or t (p * S + x.at) 0 ≡ get_or s (p * S + x.at) 0 = ap (λ (y : ℕ). get_or t y 0) (omega arith) ∙ e 0 (omega arith) ∙ ap (λ (y : ℕ). get_or s y 0) (omega arith) in
      let d : take x.size (drop (p * S + x.at + 1) t) ≡ take x.size (drop (p * S + x.at + 1) s) =
      part_same (p * S + x.at + 1) x.size s t h l (λ k w. ap (λ (y : ℕ). get_or t y 0) (omega arith) ∙ e (suc k) (omega arith) ∙ ap (λ (y : ℕ). get_or s y 0) (omega arith)) in
      rw (i, d)

  pub written_value : (t : Image) (d : List ℕ) → length d ≡ x.size → p * S + x.at + 1 + x.size ≤ length t → get_or t (p * S + x.at) 0 ≡ x.identifier
      → ((k : ℕ) → k < length d → get_or t (p * S + x.at + 1 + k) 0 ≡ get_or d k 0) → value_at S t p x ≡ present d
  unfolding value_at is_written data_in data_at identifier_at
  written_value t d l h i e = rw (eq-eqb (get_or t (p * S + x.at) 0) x.identifier i, ← l) (ap present (part_is (p * S + x.at + 1) d t (omega arith) e))

  pub absent_value : (t : Image) → get_or t (p * S + x.at) 0 ≢ x.identifier → value_at S t p x ≡ absent
  unfolding value_at is_written identifier_at
  absent_value t n = rw (ne_eqb (get_or t (p * S + x.at) 0) x.identifier n)

-- ---- an item written

module _ (S q : ℕ) (x : Item) (d : List ℕ) where
  abbrev pub entry : Entry
  entry = record { item = x; contents = d }

  -- its steps leave all bytes but its own
  pub item_leaves : (i : ℕ) → length d ≡ x.size → Outside i (q * S + x.at) (1 + x.size) → Leaves S i (write_item S q entry)
  unfolding write_item identifier_at
  item_leaves i l o = leaves_append S i (programs (q * S + x.at + 1) d) (program (q * S + x.at) x.identifier ∷ [])
      (leaves_programs S i (q * S + x.at + 1) d (⊎_elim (λ h. inl (omega arith)) (λ h. inr (omega arith)) o))
      ((⊎_elim (λ h e. omega (arith, h, e)) (λ h e. omega (arith, h, e)) o), tt)

  -- and over 255 they write it
  pub item_written : (s : Image) → length d ≡ x.size → Bytes d → x.identifier < 256 → q * S + x.at + 1 + x.size ≤ length s
      → ((k : ℕ) → k ≤ x.size → get_or s (q * S + (x.at + k)) 0 ≡ 255) → value_at S (run_in S (write_item S q entry) s) q x ≡ present d
  unfolding write_item identifier_at run_in
  item_written s l b i h e = rw (run_append S body last s) (written_value S q x (step_in S (program at x.identifier) t) d l (omega (arith, length_u)) identifier contents)
    where
      at : ℕ
      at = q * S + x.at

      body : List Step
      body = programs (at + 1) d

      last : List Step
      last = program at x.identifier ∷ []

      t : Image
      t = run_in S body s

      length_t : length t ≡ length s
      length_t = run_length S body s

      length_u : length (step_in S (program at x.identifier) t) ≡ length s
      length_u = run_length S last t ∙ length_t

      blank : get_or t at 0 ≡ 255
      blank = left_alone S at body s (leaves_programs S at (at + 1) d (inl (omega arith))) ∙ ap (λ (y : ℕ). get_or s y 0) (omega arith) ∙ e 0 (omega arith)

      identifier : get_or (step_in S (program at x.identifier) t) at 0 ≡ x.identifier
      identifier = program_erased S at x.identifier t (omega (arith, length_t)) i blank

      contents : (k : ℕ) → k < length d → get_or (step_in S (program at x.identifier) t) (at + 1 + k) 0 ≡ get_or d k 0
      contents k w = left_alone S (at + 1 + k) last t ((λ z. omega arith), tt)
          ∙ programs_erased S (at + 1) k d s b (omega arith) (λ j v. ap (λ (y : ℕ). get_or s y 0) (omega arith) ∙ e (suc j) (omega arith)) w
