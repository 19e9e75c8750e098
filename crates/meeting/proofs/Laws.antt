-- Two pages compared byte by byte, and a row of slots from its end.
use Prim.Native.Nat.{ℕ, zero, suc, ◌+◌, ◌-◌, ◌*◌, ◌≤◌, ◌<◌}
use mathlib.Core.Path.{◌≡◌, refl, sym, ap, ◌∙◌, subst}
use mathlib.Core.Logic.{◌≢◌}
use mathlib.Core.Bool.{Bool, true, false, ◌&&◌, not}
use mathlib.Core.List.{List, [], ◌∷◌}
use native.Mathlib.Numerals.{add-one}
use native.Mathlib.Omega.{arith}
use lib.ListN.{length, get_or, take, drop, set}
use lib.Seq.{get_or-take, get_or-drop}
use lib.Dec.{eqb}
use borrow.Author.Tests.{eq-eqb, ne_eqb, not-true, not-false}
use Rattle.model.specs.Lists.{same, chunk}
use Rattle.model.specs.Chip.{Image, Page}
use Rattle.model.specs.Slot.{Slot, empty, torn, dead, cut, wrong, live, slot_of, kind_of, entry_of, written}
use Rattle.model.specs.declared.SlotKind.{SlotKind}
use Rattle.model.specs.declared.SlotKind.TheVariants.{Live}
use Rattle.model.proofs.Laws.SlotPage.{live_status}
use Rattle.model.specs.declared.BlockNumber.{BlockNumber}
use Rattle.slot.proofs.Laws.Kinds.{Other, other_holds}
use Rattle.index.specs.Tables.{Brief}
use Rattle.index.proofs.Lives.{brief}
use Rattle.judge.specs.Rows.{kinds_at, slots_at}
use Rattle.rows.proofs.Laws.Rows.{kinds_next, page_part}
use Rattle.meeting.specs.declared.Sheet.{Sheet}
use Rattle.meeting.specs.Sheet.{sheet, page_at, met, met_kind, met_row}

-- ---- pages

same_next : (a b : List ℕ) (i : ℕ) → i < length a → i < length b → same (take (suc i) a) (take (suc i) b) ≡ same (take i a) (take i b) && eqb (get_or a i 0) (get_or b i 0)
unfolding same
same_next [] b i h k = absurd (omega arith)
same_next (x ∷ a) [] i h k = absurd (omega arith)
same_next (x ∷ a) (y ∷ b) zero h k = last (eqb x y)
  where
    last : (t : Bool) → t && true ≡ t
    last true = refl
    last false = refl
same_next (x ∷ a) (y ∷ b) (suc i) h k = tail (eqb x y) (same (take (suc i) a) (take (suc i) b)) (same (take i a) (take i b)) (eqb (get_or a i 0) (get_or b i 0)) (same_next a b i (omega arith) (omega arith))
  where
    tail : (t u w z : Bool) → u ≡ w && z → t && u ≡ (t && w) && z
    tail true u w z e = e
    tail false u w z e = refl

-- one byte more
pub same_more : (a b : List ℕ) (i : ℕ) → i < length a → i < length b → same (take (i + 1) a) (take (i + 1) b) ≡ same (take i a) (take i b) && eqb (get_or a i 0) (get_or b i 0)
same_more a b i h k = rw (add-one i) (same_next a b i h k)

-- they differ if they did before, or in this byte
pub differ_here : (a b : List ℕ) (i : ℕ) → i < length a → i < length b → get_or a i 0 ≢ get_or b i 0 → true ≡ not (same (take (i + 1) a) (take (i + 1) b))
differ_here a b i h k n = rw (same_more a b i h k, ne_eqb (get_or a i 0) (get_or b i 0) n) (go (same (take i a) (take i b)))
  where
    go : (t : Bool) → true ≡ not (t && false)
    go true = refl
    go false = refl

pub differ_before : (a b : List ℕ) (i : ℕ) → i < length a → i < length b → get_or a i 0 ≡ get_or b i 0 → not (same (take i a) (take i b)) ≡ not (same (take (i + 1) a) (take (i + 1) b))
differ_before a b i h k e = rw (same_more a b i h k, eq-eqb (get_or a i 0) (get_or b i 0) e) (go (same (take i a) (take i b)))
  where
    go : (t : Bool) → not t ≡ not (t && true)
    go true = refl
    go false = refl

pub same_none : (a b : List ℕ) → same (take 0 a) (take 0 b) ≡ true
unfolding same
same_none a b = refl

-- ---- a candidate met; w is its block

module _ (s : Image) (at b n w : ℕ) (t : Sheet) (e : w ≡ b) where
  pub met_first : get_or t.places w 0 ≡ 0 → sheet (set t.places w at) (set t.lengths w n) t.differs ≡ met s at b n t
  unfolding met
  met_first h = rw (← e, eq-eqb (get_or t.places w 0) 0 h)

  -- another is given, and r tells whether the two pages differ
  module _ (h : get_or t.places w 0 ≢ 0) (r : Bool) (q : r ≡ not (same (take (get_or t.places w 0 + 256 - get_or t.places w 0) (drop (get_or t.places w 0) s)) (take (at + 256 - at) (drop at s)))) where
    pages : r ≡ not (same (page_at s (get_or t.places w 0)) (page_at s at))
    pages = q ∙ rw (page_part s (get_or t.places w 0), page_part s at)

    pub met_other : r ≡ true → sheet t.places t.lengths (set t.differs w true) ≡ met s at b n t
    unfolding met
    met_other d = rw (← e, ne_eqb (get_or t.places w 0) 0 h, not-true (same (page_at s (get_or t.places w 0)) (page_at s at)) (sym pages ∙ d))

    pub met_same : r ≡ false → t ≡ met s at b n t
    unfolding met
    met_same d = rw (← e, ne_eqb (get_or t.places w 0) 0 h, not-false (same (page_at s (get_or t.places w 0)) (page_at s at)) (sym pages ∙ d))

-- ---- a slot by its status and kind

module _ (s : Image) (p : ℕ) (t : Sheet) where
  abbrev page : Page
  page = take 256 (drop (p * 256) s)

  -- without the status of a live slot it is none
  pub not_written : get_or s (p * 256) 0 ≢ written → t ≡ met_kind s p (kind_of (slot_of (take 256 (drop (p * 256) s)))) t
  unfolding met_kind kind_of
  not_written h = go (slot_of page) refl
    where
      first : get_or page 0 0 ≡ get_or s (p * 256) 0
      first = let z : p * 256 + 0 ≡ p * 256 = omega arith in get_or-take 256 (drop (p * 256) s) 0 0 (omega arith) ∙ rw z at (get_or-drop (p * 256) s 0 0)

      go : (k : Slot) → slot_of page ≡ k → t ≡ met_kind s p (kind_of k) t
      go empty e = refl
      go torn e = refl
      go dead e = refl
      go cut e = refl
      go wrong e = refl
      go (live b c) e = absurd (h (sym first ∙ live_status page b c e))

  module _ (k : SlotKind) (e : k ≡ kind_of (slot_of (take (p * 256 + 256 - p * 256) (drop (p * 256) s)))) where
    pub is_kind : k ≡ kind_of (slot_of (take 256 (drop (p * 256) s)))
    is_kind = e ∙ ap (λ (x : Page). kind_of (slot_of x)) (page_part s (p * 256))

    -- of another kind than live it is none
    pub not_live : Other k → t ≡ met_kind s p (kind_of (slot_of (take 256 (drop (p * 256) s)))) t
    unfolding met_kind kind_of entry_of
    not_live o = go (slot_of page) (other_holds (slot_of page) (subst Other is_kind o))
      where
        go : (x : Slot) → entry_of x ≡ [] → t ≡ met_kind s p (kind_of x) t
        go empty q = refl
        go torn q = refl
        go dead q = refl
        go cut q = refl
        go wrong q = refl
        go (live b c) q = absurd (let z : ◌≡◌ {A = ℕ} 0 1 = cc in omega arith)

    module _ (n : ℕ) (b : BlockNumber) (f : k ≡ Live n b) where
      pub is_short : n < 256
      is_short = subst Brief (sym is_kind ∙ f) (brief page)

      pub is_live : met s (p * 256) b.0 n t ≡ met_kind s p (kind_of (slot_of (take 256 (drop (p * 256) s)))) t
      is_live = let q : met s (p * 256) b.0 n t ≡ met_kind s p (Live n b) t = (unfold met_kind in refl) in q ∙ ap (λ (x : SlotKind). met_kind s p x t) (sym f ∙ is_kind)

-- ---- the slots from a place on

pub row_none : (m : Image) (o : ℕ) (t : Sheet) (p : ℕ) → met_row m p (kinds_at m o 0) t ≡ t
unfolding kinds_at slots_at chunk met_row
row_none m o t p = refl

-- with one slot more before them: left of the slots are to come
pub row_more : (m : Image) (h left slots page : ℕ) (t u : Sheet) → page ≡ h + left → 0 < left → left ≤ slots → t ≡ met_row m (h + left + 1) (kinds_at m ((h + left + 1) * 256) (slots - left)) u
    → met_kind m page (kind_of (slot_of (take 256 (drop (page * 256) m)))) t ≡ met_row m (h + (left - 1) + 1) (kinds_at m ((h + (left - 1) + 1) * 256) (slots - (left - 1))) u
row_more m h left slots page t u e p l f =
    let a : h + (left - 1) + 1 ≡ h + left = omega arith in
    let b : slots - (left - 1) ≡ suc (slots - left) = omega arith in
    let d : (h + left) * 256 + 256 ≡ (h + left + 1) * 256 = omega arith in
    let s : suc (h + left) ≡ h + left + 1 = omega arith in
    rw (e, a, b, kinds_next m ((h + left) * 256) (slots - left), d, f) (next (kind_of (slot_of (take 256 (drop ((h + left) * 256) m)))) (kinds_at m ((h + left + 1) * 256) (slots - left)) s)
  where
    next : (k : SlotKind) (ks : List SlotKind) → suc (h + left) ≡ h + left + 1 → met_kind m (h + left) k (met_row m (h + left + 1) ks u) ≡ met_row m (h + left) (k ∷ ks) u
    next k ks s = unfold met_row in (ap (λ (z : ℕ). met_kind m (h + left) k (met_row m z ks u)) (sym s))
