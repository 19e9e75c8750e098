-- How often each index comes up among the numbers that compactions have given, and what a request that is no recovery may do to the top.
use Prim.Native.Nat.{ℕ, zero, suc, ◌+◌, ◌-◌, ◌*◌, ◌/◌, ◌%◌, ◌≤◌, ◌<◌}
use Rattle.std.specs.Prelude.{◌≡◌, refl, Bool, true, false, cond, List, [], ◌∷◌, ◌++◌, eqb}
use Rattle.std.proofs.Common.{sym, ap, ◌∙◌, arith, mod-eq_of_lt, le-div_iff_mul-le, eq-eqb, ne_eqb}
use Rattle.std.proofs.Math.Nat.{mod_self, mul-add-mod_self_right}
use Rattle.std.proofs.Math.Decide.{dec_lt}
use Rattle.model.specs.Lists.{count}
use Rattle.model.specs.Chip.{Image}
use Rattle.model.specs.Header.{is_former, tally_of, no_bit_left}
use Rattle.model.specs.State.{segments_of, next_number, top_version}
use Rattle.model.specs.Laws.Lists.{count_append, mod_inj}
use Rattle.crash.specs.Tops.{SameTop}
use Rattle.tallied.specs.Law.{tally_in}

-- how many of the numbers 1 to m have index i
unfoldable pub turns_to : ℕ → ℕ → ℕ → ℕ
turns_to N i zero = 0
turns_to N i (suc m) = cond (eqb i (suc m % N)) (suc (turns_to N i m)) (turns_to N i m)

pub turns_more : (N i m : ℕ) → turns_to N i m ≤ turns_to N i (suc m)
unfolding turns_to
turns_more N i m = go (eqb i (suc m % N))
  where
    go : (t : Bool) → turns_to N i m ≤ cond t (suc (turns_to N i m)) (turns_to N i m)
    go true = omega arith
    go false = omega arith

-- one erase, of the index of the next number
pub turns_one : (N i m : ℕ) → count (λ x. eqb i x) (suc m % N ∷ []) + turns_to N i m ≤ turns_to N i (suc m)
unfolding turns_to count
turns_one N i m = go (eqb i (suc m % N))
  where
    go : (t : Bool) → cond t 1 0 + turns_to N i m ≤ cond t (suc (turns_to N i m)) (turns_to N i m)
    go true = omega arith
    go false = omega arith

-- an index comes up once in N numbers
module _ (N i : ℕ) (positive : 0 < N) (inside : i < N) where
  -- the first number from 1 on that has it
  first : (k : ℕ) × (1 ≤ k) × (k ≤ N) × (k % N ≡ i)
  first = go i refl
    where
      go : (a : ℕ) → i ≡ a → (k : ℕ) × (1 ≤ k) × (k ≤ N) × (k % N ≡ i)
      go zero e = (N, omega arith, omega arith, mod_self N ∙ sym e)
      go (suc a) e = (i, omega arith, omega arith, mod-eq_of_lt inside)

  -- after m numbers it has come up so often, and comes up next at times N + first
  record Turned (m : ℕ) : Type 0 where
    times : ℕ
    counted : turns_to N i m ≡ times
    before : m < times * N + first.0
    after : times * N + first.0 ≤ m + N

  turned : (m : ℕ) → Turned m
  unfolding turns_to
  turned zero = record { times = 0; counted = refl; before = omega (arith, first.1); after = omega (arith, first.2) }
  turned (suc m) = go (turned m)
    where
      here : (c : ℕ) → (c * N + first.0) % N ≡ i
      here c = mul-add-mod_self_right c N first.0 ∙ first.3

      hit : (t : Turned m) → suc m ≡ t.times * N + first.0 → Turned (suc m)
      hit t e =
          let q : i ≡ suc m % N = sym (here t.times) ∙ ap (λ (y : ℕ). y % N) (sym e) in
          record { times = suc t.times; counted = unfold turns_to in (rw (eq-eqb i (suc m % N) q) (ap suc t.counted)); before = omega (arith, e, positive); after = omega (arith, e) }

      pass : (t : Turned m) → suc m < t.times * N + first.0 → Turned (suc m)
      pass t l =
          let n : i ≡ suc m % N → ⊥ = λ q. (let e : suc m ≡ t.times * N + first.0 = mod_inj N (suc m) (t.times * N + first.0) (omega arith) (omega (arith, t.after)) (sym q ∙ sym (here t.times)) in omega (arith, e, l)) in
          record { times = t.times; counted = unfold turns_to in (rw (ne_eqb i (suc m % N) n) t.counted); before = l; after = omega (arith, t.after) }

      go : Turned m → Turned (suc m)
      go t = elim (dec_lt (suc m) (t.times * N + first.0)) [ yes l ↦ pass t l | no g ↦ hit t (omega (arith, t.before)) ]

  pub turns_bound : (m : ℕ) → turns_to N i m ≤ (m - 1) / N + 1
  turns_bound m = go (turned m).times refl
    where
      t : Turned m
      t = turned m

      go : (c : ℕ) → (turned m).times ≡ c → turns_to N i m ≤ (m - 1) / N + 1
      go zero e = omega (arith, (turned m).counted, e)
      go (suc c) e =
          let a : suc c * N + first.0 ≤ m + N = rw e at (turned m).after in
          let b : c ≤ (m - 1) / N = (le-div_iff_mul-le positive).1 (omega (arith, a, first.1)) in
          omega (arith, (turned m).counted, e, b)

-- ---- a request that is no recovery

pub record Advances (N B : ℕ) (s u : Image) (es : List ℕ) : Type 0 where
  -- the tally is carried on
  pub tally : tally_in N B u ≡ tally_in N B s
  -- where no bit is left there is no new header
  pub used : no_bit_left (top_version N (segments_of N B s)) ≡ true → no_bit_left (top_version N (segments_of N B u)) ≡ true
  -- version 2 stays
  pub second : is_former (top_version N (segments_of N B s)) ≡ false → is_former (top_version N (segments_of N B u)) ≡ false
  -- each erase begun is of the index of a new number
  pub erases : (i : ℕ) → count (λ x. eqb i x) es + turns_to N i (next_number (segments_of N B s)) ≤ turns_to N i (next_number (segments_of N B u))

pub advances_same : (N B : ℕ) (s u : Image) (es : List ℕ) → es ≡ [] → SameTop N B s u → Advances N B s u es
unfolding count
advances_same N B s u es e t = record {
  tally = ap tally_of t.version;
  used = λ q. ap no_bit_left t.version ∙ q;
  second = λ q. ap is_former t.version ∙ q;
  erases = λ i. rw (e, t.next) (omega arith);
}

pub advances_trans : (N B : ℕ) (s t u : Image) (es ds fs : List ℕ) → fs ≡ es ++ ds → Advances N B s t es → Advances N B t u ds → Advances N B s u fs
advances_trans N B s t u es ds fs e a b = record {
  tally = b.tally ∙ a.tally;
  used = λ q. b.used (a.used q);
  second = λ q. b.second (a.second q);
  erases = λ i. rw e (omega (arith, count_append (λ x. eqb i x) es ds, a.erases i, b.erases i));
}
