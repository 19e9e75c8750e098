-- Tables that live slots were put into list them, block by block.
use Rattle.std.specs.Prelude.{ℕ, ◌+◌, ◌≤◌, ◌<◌, ◌≡◌, ◌≢◌, Bool, true, false, cond, List, [], ◌∷◌, length, get_or, set, replicate, eqb}
use Rattle.std.proofs.Math.Path.{refl}
use Rattle.std.proofs.Common.{sym, ap, ◌∙◌, subst, arith, suc-mul, mul-le-mul_right, length-set, get_or-set_same, get_or-set_other, eqb-true}
use Rattle.std.proofs.Math.Decide.{dec_lt}
use Rattle.std.proofs.lemmas.List.{length-replicate, get_or-replicate}
use Rattle.std.proofs.Math.ListN.{get_or-eq_default}
use Rattle.std.proofs.lemmas.Bool.{eqb-false}
use Rattle.model.specs.Chip.{most_segments, most_slots}
use Rattle.account_text.specs.Account.{LiveSlot}
use Rattle.index.specs.declared.Tables.{Tables}
use Rattle.index.specs.Tables.{tables, most_pages, link, linked, page_of, of_block, Chain, Listed, Stands, AllStand}

-- ---- pages that differ

-- no slot of a list is on this page
abbrev pub Free : ℕ → ℕ → List LiveSlot → Type 0
Free B q [] = Unit {0}
Free B q (e ∷ r) = (page_of B e ≢ q) × Free B q r

abbrev pub AllApart : ℕ → List LiveSlot → Type 0
AllApart B [] = Unit {0}
AllApart B (e ∷ r) = Free B (page_of B e) r × AllApart B r

free_block : (B q b : ℕ) (r : List LiveSlot) → Free B q r → Free B q (of_block b r)
unfolding of_block
free_block B q b [] h = h
free_block B q b (e ∷ r) h = go (eqb b e.block) (free_block B q b r h.1)
  where
    go : (t : Bool) → Free B q (of_block b r) → Free B q (cond t (e ∷ of_block b r) (of_block b r))
    go true k = (h.0, k)
    go false k = k

-- ---- one page more

chain_set : (B : ℕ) (nexts lengths : List ℕ) (q v n p : ℕ) (r : List LiveSlot) → Free B q r → Chain B nexts lengths p r → Chain B (set nexts q v) (set lengths q n) p r
chain_set B nexts lengths q v n p [] f h = h
chain_set B nexts lengths q v n p (e ∷ r) f h =
    let d : p ≢ q = λ z. f.0 (sym h.0 ∙ z) in (
      h.0,
      h.1,
      subst (λ (k : ℕ). Chain B (set nexts q v) (set lengths q n) k r) (sym (get_or-set_other nexts q p v 0 d)) (chain_set B nexts lengths q v n (get_or nexts p 0) r f.1 h.2),
      get_or-set_other lengths q p n 0 d ∙ h.3,
    )

module _ (B : ℕ) (t : Tables) (e : LiveSlot) (r : List LiveSlot) where
  -- the tables with e before the others of its block
  abbrev nexts : List ℕ
  nexts = set t.nexts (page_of B e) (get_or t.firsts e.block 0)

  abbrev lengths : List ℕ
  lengths = set t.lengths (page_of B e) (length e.contents)

  abbrev firsts : List ℕ
  firsts = set t.firsts e.block (page_of B e)

  listed_more : e.block < length t.firsts → page_of B e < length t.nexts → page_of B e < length t.lengths → 0 < page_of B e → Free B (page_of B e) r → Listed B t r
      → Listed B (link (page_of B e) e.block (length e.contents) t) (e ∷ r)
  unfolding link of_block
  listed_more hb hp hl h0 f l b = go (eqb b e.block) refl
    where
      kept : Chain B nexts lengths (get_or t.firsts b 0) (of_block b r)
      kept = chain_set B t.nexts t.lengths (page_of B e) (get_or t.firsts e.block 0) (length e.contents) (get_or t.firsts b 0) (of_block b r) (free_block B (page_of B e) b r f) (l b)

      go : (z : Bool) → eqb b e.block ≡ z → Chain B nexts lengths (get_or firsts b 0) (cond z (e ∷ of_block b r) (of_block b r))
      go true q =
          let w : b ≡ e.block = eqb-true b e.block q in
          let x : get_or firsts b 0 ≡ page_of B e = ap (λ (k : ℕ). get_or firsts k 0) w ∙ get_or-set_same t.firsts e.block (page_of B e) 0 hb in
          let y : get_or nexts (get_or firsts b 0) 0 ≡ get_or t.firsts b 0 =
          ap (λ (k : ℕ). get_or nexts k 0) x ∙ (get_or-set_same t.nexts (page_of B e) (get_or t.firsts e.block 0) 0 hp ∙ ap (λ (k : ℕ). get_or t.firsts k 0) (sym w)) in (
            x,
            subst (λ (k : ℕ). 0 < k) (sym x) h0,
            subst (λ (k : ℕ). Chain B nexts lengths k (of_block b r)) (sym y) kept,
            ap (λ (k : ℕ). get_or lengths k 0) x ∙ get_or-set_same t.lengths (page_of B e) (length e.contents) 0 hl,
          )
      go false q =
          let w : b ≢ e.block = eqb-false b e.block q in
          subst (λ (k : ℕ). Chain B nexts lengths k (of_block b r)) (sym (get_or-set_other t.firsts e.block b (page_of B e) 0 w)) kept

-- ---- all of them

-- a page of an image
pub page_few : (N B : ℕ) (e : LiveSlot) → N ≤ most_segments → B ≤ most_slots → Stands N B e → (0 < page_of B e) × (page_of B e < most_pages)
unfolding page_of
page_few N B e n b h =
    let p = mul-le-mul_right (B + 1) h.segment in
    let q = suc-mul e.segment (B + 1) in
    let m = mul-le-mul_right (B + 1) n in
    let i = h.first in let j = h.slot in
    (omega arith, omega arith)

-- the tables' lengths
abbrev pub Whole : Tables → Type 0
Whole t = (length t.firsts ≡ most_pages) × (length t.nexts ≡ most_pages) × (length t.lengths ≡ most_pages)

pub linked_whole : (B : ℕ) (r : List LiveSlot) (t : Tables) → Whole t → Whole (linked B r t)
unfolding linked link
linked_whole B [] t h = h
linked_whole B (e ∷ r) t h = let w = linked_whole B r t h in let u = linked B r t in (
  length-set u.firsts e.block (page_of B e) ∙ w.0,
  length-set u.nexts (page_of B e) (get_or u.firsts e.block 0) ∙ w.1,
  length-set u.lengths (page_of B e) (length e.contents) ∙ w.2,
)

-- tables whose firsts are none
abbrev pub Bare : Tables → Type 0
Bare t = (b : ℕ) → get_or t.firsts b 0 ≡ 0

pub zeros_bare : (n : ℕ) (nexts lengths : List ℕ) → Bare (tables (replicate n 0) nexts lengths)
zeros_bare n nexts lengths b = elim (dec_lt b n) [ yes h ↦ get_or-replicate n b 0 0 h | no h ↦ get_or-eq_default (replicate n 0) 0 (subst (λ (k : ℕ). k ≤ b) (sym (length-replicate n 0)) (omega arith)) ]

pub linked_listed : (N B : ℕ) → N ≤ most_segments → B ≤ most_slots → (r : List LiveSlot) (t : Tables) → AllStand N B r → AllApart B r → Whole t → Bare t → Listed B (linked B r t) r
unfolding linked
linked_listed N B n k [] t a p w z = λ b. none b
  where
    none : (b : ℕ) → Chain B t.nexts t.lengths (get_or t.firsts b 0) (of_block b [])
    none b = unfold of_block in z b
linked_listed N B n k (e ∷ r) t a p w z =
    let y = page_few N B e n k a.0 in
    let v = linked_whole B r t w in
    let q = a.0.block in
    let ih : Listed B (linked B r t) r = linked_listed N B n k r t a.1 p.1 w z in
    let m : Listed B (link (page_of B e) e.block (length e.contents) (linked B r t)) (e ∷ r) = listed_more B (linked B r t) e r (rw v.0 q) (rw v.1 y.1) (rw v.2 y.1) y.0 p.0 ih in
    m
