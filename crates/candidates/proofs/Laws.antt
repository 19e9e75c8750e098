-- The walk from the highest number down: what is left, met by the tables, gives the whole.
use Prim.Native.Nat.{ℕ, zero, suc, ◌+◌, ◌*◌, ◌≤◌, ◌<◌}
use mathlib.Core.Path.{◌≡◌, refl, sym, ap, ◌∙◌, subst}
use mathlib.Core.Logic.{inl}
use mathlib.Core.Bool.{true, false}
use mathlib.Core.List.{List, [], ◌∷◌, ◌++◌, map}
use native.Mathlib.Omega.{arith}
use lib.ListN.{length, get_or, take, drop, set, replicate, length-replicate}
use Rattle.model.specs.Lists.{chunk}
use Rattle.model.specs.Chip.{Image, most_segments, right_size}
use Rattle.model.specs.Slot.{Slot, empty, torn, dead, cut, wrong, live, slot_of, kind_of, entry_of}
use Rattle.model.specs.State.{Segment, blank, number_after, segments_of, top_index, used_count}
use Rattle.model.specs.declared.SlotKind.{SlotKind}
use Rattle.model.specs.Laws.Lists.{map_length}
use Rattle.model.specs.Laws.Chunk.{chunk_length}
use Rattle.flash.proofs.Pages.{sized}
use Rattle.judge.specs.Rows.{kinds_at, slots_at}
use Rattle.judge.specs.Parts.{slots_offset}
use Rattle.account_text.specs.Account.{LiveSlot, live_at, live_from, live_in, live_slots}
use Rattle.index.specs.Tables.{most_pages, page_of, of_block}
use Rattle.descent.specs.Descent.{largest, Descent}
use Rattle.descent.specs.Turns.{descent_start, turn_live, turn, end_live}
use Rattle.salvage.specs.Salvage.{regarded, candidates, given}
use Rattle.meeting.specs.declared.Sheet.{Sheet}
use Rattle.meeting.specs.Sheet.{met, met_row, met_kind, Within, row_within}
use Rattle.candidates.specs.Gathered.{met_all, Tells, Gathered}
use Rattle.candidates.specs.Told.{AllLie, all_whole, all_tell}
use Rattle.candidates.specs.Lie.{held_regarded, candidates_lie}

-- ---- a row of slots

row_met : (s : Image) (B i j : ℕ) (ks : List Slot) (t : Sheet) → met_row s (i * (B + 1) + j) (map kind_of ks) t ≡ met_all s B (live_from i j ks) t
unfolding met_row met_kind met_all live_from live_at entry_of kind_of map page_of
row_met s B i j [] t = refl
row_met s B i j (empty ∷ ks) t = let e : suc (i * (B + 1) + j) ≡ i * (B + 1) + suc j = omega arith in rw e (row_met s B i (suc j) ks t)
row_met s B i j (torn ∷ ks) t = let e : suc (i * (B + 1) + j) ≡ i * (B + 1) + suc j = omega arith in rw e (row_met s B i (suc j) ks t)
row_met s B i j (dead ∷ ks) t = let e : suc (i * (B + 1) + j) ≡ i * (B + 1) + suc j = omega arith in rw e (row_met s B i (suc j) ks t)
row_met s B i j (cut ∷ ks) t = let e : suc (i * (B + 1) + j) ≡ i * (B + 1) + suc j = omega arith in rw e (row_met s B i (suc j) ks t)
row_met s B i j (wrong ∷ ks) t = let e : suc (i * (B + 1) + j) ≡ i * (B + 1) + suc j = omega arith in rw e (row_met s B i (suc j) ks t)
row_met s B i j (live b c ∷ ks) t = let e : suc (i * (B + 1) + j) ≡ i * (B + 1) + suc j = omega arith in rw e (ap (met s ((i * (B + 1) + j) * 256) b (length c)) (row_met s B i (suc j) ks t))

met_append : (s : Image) (B : ℕ) (x y : List LiveSlot) (t : Sheet) → met_all s B (x ++ y) t ≡ met_all s B x (met_all s B y t)
unfolding met_all
met_append s B [] y t = refl
met_append s B (e ∷ x) y t = ap (met s (page_of B e * 256) e.block (length e.contents)) (met_append s B x y t)

kinds_of : (s : Image) (o c : ℕ) → kinds_at s o c ≡ map kind_of (slots_at s o c)
unfolding kinds_at
kinds_of s o c = refl

kinds_length : (s : Image) (o c : ℕ) → length (kinds_at s o c) ≡ c
kinds_length s o c = ap length (kinds_of s o c) ∙ (map_length kind_of (slots_at s o c) ∙ (unfold slots_at in (map_length slot_of (chunk c 256 (drop o s)) ∙ chunk_length c 256 (drop o s))))

-- ---- the walk

-- m is left to walk over
pub record Walking (N B : ℕ) (s : Image) (start : Sheet) (m : List Segment) (left : List ℕ) (next : ℕ) (t : Sheet) : Type 0 where
  pub descent : Descent N B s m left next
  pub tables : met_all s B (live_in N (used_count m) m) t ≡ met_all s B (candidates N (segments_of N B s)) start
  pub within : Within t.places (length s)

module _ (N B : ℕ) (s : Image) (some : 0 < N) (start : Sheet) where
  pub walk_start : (left : List ℕ) (next : ℕ) → length left ≡ most_segments → take N left ≡ map number_after (regarded N (segments_of N B s)) → next ≡ largest (take N left) → Within start.places (length s)
      → Walking N B s start (regarded N (segments_of N B s)) left next start
  walk_start left next l e n w =
      record { descent = descent_start N B s some (regarded N (segments_of N B s)) left next (held_regarded N B s some) l e n; tables = unfold candidates live_slots in refl; within = w }

  module _ (m : List Segment) (left : List ℕ) (next : ℕ) (t : Sheet) (w : Walking N B s start m left next t) where
    -- the top is at index i
    pub walk_turn : 0 < next → (i : ℕ) → i ≡ top_index N m → i * (B + 1) * 256 + (B + 1) * 256 ≤ length s → (u : Sheet) (later : ℕ) → u ≡ met_row s (i * (B + 1) + 1) (kinds_at s ((i * (B + 1) + 1) * 256) B) t
        → later ≡ largest (take N (set left i 0)) → Walking N B s start (set m (top_index N m) blank) (set left i 0) later u
    walk_turn more i e inside u later q n = record {
      descent = turn N B s some m left next w.descent more i later e n;
      tables =
          let v = set m (top_index N m) blank in
          let x = live_in N (used_count v) v in
          let y = live_from (top_index N m) 1 (slots_at s (slots_offset B (top_index N m)) B) in
          let k : u ≡ met_all s B y t = q ∙ (ap (λ (z : List SlotKind). met_row s (i * (B + 1) + 1) z t) (kinds_of s (slots_offset B i) B) ∙ (row_met s B i 1 (slots_at s (slots_offset B i) B) t ∙ ap (λ (z : ℕ). met_all s B (live_from z 1 (slots_at s (slots_offset B z) B)) t) e)) in
          ap (met_all s B x) k ∙ (sym (met_append s B x y t) ∙ (ap (λ (r : List LiveSlot). met_all s B r t) (sym (turn_live N B s some m left next w.descent more)) ∙ w.tables));
      within = subst (λ (x : Sheet). Within x.places (length s)) (sym q) (row_within s (i * (B + 1) + 1) (kinds_at s ((i * (B + 1) + 1) * 256) B) t (length s) (omega (arith, inside, kinds_length s ((i * (B + 1) + 1) * 256) B)) w.within);
    }

    pub walk_end : next ≡ 0 → t ≡ met_all s B (candidates N (segments_of N B s)) start
    walk_end z = sym nothing ∙ (ap (λ (r : List LiveSlot). met_all s B r t) (sym (end_live N B s some m left next w.descent z)) ∙ w.tables)
      where
        nothing : met_all s B [] t ≡ t
        nothing = unfold met_all in refl

-- ---- tables that hold none

replicated : {A : Type 0} (n : ℕ) (v : A) (b : ℕ) → get_or (replicate n v) b v ≡ v
replicated zero v b = refl
replicated (suc n) v zero = refl
replicated (suc n) v (suc b) = replicated n v b

pub none_within : (places : List ℕ) (n bytes : ℕ) → places ≡ replicate n 0 → 256 ≤ bytes → Within places bytes
none_within places n bytes e h = record { page = λ b. let q : get_or places b 0 ≡ 0 = ap (λ (z : List ℕ). get_or z b 0) e ∙ replicated n 0 b in omega (arith, q, h) }

module _ (N B : ℕ) (s : Image) (z : right_size N B s ≡ true) (n : ℕ) (t u : Sheet) (whole : n ≡ most_pages) where
  pub gathered : t.places ≡ replicate n 0 → t.lengths ≡ replicate n 0 → t.differs ≡ replicate n false → u ≡ met_all s B (candidates N (segments_of N B s)) t → Gathered N B s u
  gathered a b c e = subst (λ (x : Sheet). Gathered N B s x) (sym e) (record {
    tells = λ k h. all_tell N B s (candidates N (segments_of N B s)) t lies long none k;
    long = (all_whole s B (candidates N (segments_of N B s)) t long).0;
  })
    where
      lies : AllLie N B s (candidates N (segments_of N B s))
      lies = let f = sized N B s z in candidates_lie N B s f.some (omega (arith, f.whole))

      long : (length t.places ≡ most_pages) × (length t.lengths ≡ most_pages) × (length t.differs ≡ most_pages)
      long = (ap length a ∙ (length-replicate n 0 ∙ whole), ap length b ∙ (length-replicate n 0 ∙ whole), ap length c ∙ (length-replicate n false ∙ whole))

      none : (k : ℕ) → Tells N B s t [] k
      none k = inl (record { none = unfold of_block given in refl; place = ap (λ (x : List ℕ). get_or x k 0) a ∙ replicated n 0 k; differs = ap (λ x. get_or x k false) c ∙ replicated n false k })
