-- One turn of a walk from the top down, and its end.
use Prim.Native.Nat.{ℕ, zero, suc, ◌+◌, ◌-◌, ◌*◌, ◌%◌, ◌≤◌, ◌<◌}
use Rattle.std.specs.Prelude.{◌≡◌, Bool, true, false, cond, get_or, take, set, ltb}
use Rattle.std.proofs.Math.Path.{refl, ap}
use Rattle.std.proofs.Common.{sym, ap₂, ◌∙◌, subst, arith, suc-mul, mul-le-mul_right, length-set, get_or-set_same, lt-ltb}
use Rattle.std.proofs.lemmas.Bool.{false≢true}
use mathlib.Core.List.{List, [], ◌∷◌, ◌++◌, map}
use Rattle.std.proofs.Math.Decide.{dec_lt}
use Rattle.std.proofs.Math.ListN.{length}
use Rattle.std.proofs.Math.Seq.{take-set-lt}
use Rattle.model.specs.Lists.{count}
use Rattle.model.specs.Chip.{Image, most_segments, most_slots}
use Rattle.model.specs.Slot.{Slot}
use Rattle.model.specs.State.{Segment, blank, invalid, in_use, is_in_use, number_after, slots_in, top_index, top_slots, next_number, used_count}
use Rattle.model.specs.Laws.Lists.{map_set, count_none}
use Rattle.model.proofs.Laws.Ring.{next_at, next_ge}
use Rattle.judge.specs.Rows.{slots_at}
use Rattle.judge.specs.Parts.{slots_offset}
use Rattle.account_text.specs.Account.{live_from, live_in}
use Rattle.index.specs.Tables.{most_pages}
use Rattle.index.proofs.Walks.{Held, some_next, held_less, top_below, top_used, used_fewer, number_use}
use Rattle.descent.specs.Descent.{largest, largest_next, Descent}

-- how many are left, by their numbers
left_count : (m : List Segment) → count (λ n. ltb 0 n) (map number_after m) ≡ used_count m
unfolding used_count count map
left_count [] = refl
left_count (x ∷ m) = ap₂ (λ (a : Bool) (b : ℕ). cond a (suc b) b) (one x) (left_count m)
  where
    one : (x : Segment) → ltb 0 (number_after x) ≡ is_in_use x
    one blank = unfold number_after is_in_use in refl
    one invalid = unfold number_after is_in_use in refl
    one (in_use ver st n ks) = unfold number_after is_in_use in (lt-ltb 0 (suc n) (omega arith))

module _ (N B : ℕ) (s : Image) (some : 0 < N) where
  pub descent_start : (m : List Segment) (left : List ℕ) (next : ℕ) → Held N B s m → length left ≡ most_segments → take N left ≡ map number_after m → next ≡ largest (take N left) → Descent N B s m left next
  descent_start m left next h l n e = record { held = h; numbers = n; top = e ∙ (ap largest n ∙ largest_next m); places = l }

  -- ---- a turn: the top is walked over

  module _ (m : List Segment) (left : List ℕ) (next : ℕ) (w : Descent N B s m left next) (more : 0 < next) where
    abbrev rest : List Segment
    rest = set m (top_index N m) blank

    number : next_number m ≡ suc (next_number m - 1)
    number = let e = w.top in omega arith

    used : 0 < used_count m
    used = elim (dec_lt 0 (used_count m)) [ yes h ↦ h | no h ↦ absurd (false≢true (sym (count_none is_in_use m place.0 blank (unfold used_count in (omega (arith, h))) place.1) ∙ number_use (get_or m place.0 blank) (next_number m - 1) (place.2 ∙ number))) ]
      where
        place : (j : ℕ) × (j < length m) × (number_after (get_or m j blank) ≡ next_number m)
        place = next_at m (let e = w.top in omega arith)

    pub turn_below : top_index N m < N
    turn_below = top_below N m some

    pub turn_index : (next - 1) % N ≡ top_index N m
    turn_index = unfold top_index in (ap (λ (k : ℕ). (k - 1) % N) w.top)

    -- it is in use, and its slots are those of the image
    pub turn_used : is_in_use (get_or m (top_index N m) blank) ≡ true
    turn_used = top_used N B s m some w.held used

    pub turn_row : slots_in (get_or m (top_index N m) blank) ≡ slots_at s (slots_offset B (top_index N m)) B
    turn_row = w.held.slots (top_index N m) turn_below turn_used

    pub turn_gone : is_in_use (get_or (set m (top_index N m) blank) (top_index N m) blank) ≡ false
    turn_gone = ap is_in_use (get_or-set_same m (top_index N m) blank blank (rw w.held.count turn_below)) ∙ (unfold is_in_use in refl)

    fewer : used_count m ≡ suc (used_count rest)
    fewer = sym (used_fewer N B s m some w.held used)

    -- its live slots come behind those of the rest
    pub turn_live : live_in N (used_count m) m ≡ live_in N (used_count (set m (top_index N m) blank)) (set m (top_index N m) blank) ++ live_from (top_index N m) 1 (slots_at s (slots_offset B (top_index N m)) B)
    turn_live =
        let tops : top_slots N m ≡ slots_at s (slots_offset B (top_index N m)) B = (unfold top_slots in turn_row) in
        ap (λ (k : ℕ). live_in N k m) fewer ∙ (in_more (used_count rest) ∙ ap (λ (ks : List Slot). live_in N (used_count rest) rest ++ live_from (top_index N m) 1 ks) tops)
      where
        in_more : (k : ℕ) → live_in N (suc k) m ≡ live_in N k (set m (top_index N m) blank) ++ live_from (top_index N m) 1 (top_slots N m)
        in_more k = unfold live_in in refl

    numbers_turn : take N (set left (top_index N m) 0) ≡ map number_after rest
    numbers_turn = take-set-lt N left (top_index N m) 0 turn_below ∙ (ap (λ (z : List ℕ). set z (top_index N m) 0) w.numbers ∙ (sym (map_set number_after m (top_index N m) blank ∙ ap (set (map number_after m) (top_index N m)) (unfold number_after in refl))))

    -- i is its index
    pub turn : (i later : ℕ) → i ≡ top_index N m → later ≡ largest (take N (set left i 0)) → Descent N B s (set m (top_index N m) blank) (set left i 0) later
    turn i later e =
        subst (λ (k : ℕ). later ≡ largest (take N (set left k 0)) → Descent N B s (set m (top_index N m) blank) (set left k 0) later) (sym e) (λ q. record {
          held = held_less N B s m some w.held;
          numbers = numbers_turn;
          top = q ∙ (ap largest numbers_turn ∙ largest_next rest);
          places = length-set left (top_index N m) 0 ∙ w.places;
        })

    -- one fewer is left
    pub turn_less : count (λ n. ltb 0 n) (take N (set left ((next - 1) % N) 0)) < count (λ n. ltb 0 n) (take N left)
    turn_less =
        let q : count (λ n. ltb 0 n) (take N left) ≡ used_count m = ap (count (λ n. ltb 0 n)) w.numbers ∙ left_count m in
        let z : count (λ n. ltb 0 n) (take N (set left ((next - 1) % N) 0)) ≡ used_count rest = ap (λ (k : ℕ). count (λ n. ltb 0 n) (take N (set left k 0))) turn_index ∙ (ap (count (λ n. ltb 0 n)) numbers_turn ∙ left_count rest) in
        let d = fewer in
        omega arith

  -- ---- the end

  module _ (m : List Segment) (left : List ℕ) (next : ℕ) (w : Descent N B s m left next) (z : next ≡ 0) where
    pub end_unused : (j : ℕ) → is_in_use (get_or m j blank) ≡ false
    end_unused j = go (get_or m j blank) (next_ge m j)
      where
        go : (x : Segment) → number_after x ≤ next_number m → is_in_use x ≡ false
        go blank h = unfold is_in_use in refl
        go invalid h = unfold is_in_use in refl
        go (in_use ver st n ks) h = let q : suc n ≤ next_number m = (unfold number_after in h) in let e = w.top in absurd (omega arith)

    pub end_live : live_in N (used_count m) m ≡ []
    end_live = ap (λ (k : ℕ). live_in N k m) (unused (used_count m) refl) ∙ (unfold live_in in refl)
      where
        unused : (k : ℕ) → used_count m ≡ k → used_count m ≡ 0
        unused zero e = e
        unused (suc k) e = let q = some_next m (omega arith) in let r = w.top in absurd (omega arith)

-- a segment's pages are in the image
pub page_inside : (N B i : ℕ) → i < N → N ≤ most_segments → B ≤ most_slots → (i * (B + 1) < 18446744073709551616) × (i * (B + 1) + B < most_pages) × (i * (B + 1) + B + 1 ≤ N * (B + 1))
page_inside N B i h n b =
    let p = mul-le-mul_right (B + 1) h in
    let q = suc-mul i (B + 1) in
    let m = mul-le-mul_right (B + 1) n in
    (omega arith, omega arith, omega arith)
