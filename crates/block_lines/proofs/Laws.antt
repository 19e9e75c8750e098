-- Lines written one after the other: of a chain of pages, and of all blocks in turn.
use Prim.Native.Nat.{ℕ, zero, suc, ◌+◌, ◌*◌, ◌/◌, ◌%◌, ◌≤◌, ◌<◌}
use mathlib.Core.Path.{◌≡◌, refl, sym, ap, ◌∙◌, subst}
use mathlib.Core.Bool.{false, cond}
use mathlib.Core.List.{List, [], ◌∷◌, ◌++◌, flat_map, append-nil, append_assoc}
use native.Mathlib.Omega.{arith}
use native.Mathlib.Nat.{suc-mul, div-eq_of_lt-le, div-add-mod'}
use native.Mathlib.Numerals.{add-one}
use lib.ListN.{length, get_or, length-append}
use lib.Dec.{eqb}
use borrow.Author.Tests.{eq-eqb, ne_eqb}
use Rattle.flash.specs.Pages.{Sized}
use Rattle.text.specs.Text.{text as ascii}
use Rattle.text.specs.Buffer.{Wrote}
use Rattle.text.proofs.Laws.{◌then◌, wrote_none, wrote_as}
use Rattle.account_text.specs.Account.{LiveSlot, block_text, block_line, block_lines, by_block}
use Rattle.index.proofs.Chains.{page_few}
use Rattle.index.specs.Tables.{most_pages, page_of, of_block, Chain, Stands, AllStand, blocks_below}
use Rattle.index.proofs.Sorted.{AllBelow, AllOf, below_few, sorted}

-- ---- a chain of pages

-- how many pages there are from a page on, by the next of each; there are at most k
unfoldable pub chain_length : ℕ → List ℕ → ℕ → ℕ
chain_length zero nexts p = 0
chain_length (suc k) nexts p = cond (eqb p 0) 0 (suc (chain_length k nexts (get_or nexts p 0)))

pub chain_length_lem : (k B : ℕ) (nexts lengths : List ℕ) (p : ℕ) (r : List LiveSlot) → Chain B nexts lengths p r → length r ≤ k → chain_length k nexts p ≡ length r
unfolding chain_length
chain_length_lem zero B nexts lengths p [] c h = refl
chain_length_lem zero B nexts lengths p (e ∷ r) c h = absurd (omega arith)
chain_length_lem (suc k) B nexts lengths p [] c h = rw (eq-eqb p 0 c)
chain_length_lem (suc k) B nexts lengths p (e ∷ r) c h =
    let n : eqb p 0 ≡ false = ne_eqb p 0 (λ q. let z = c.1 in omega arith) in
    rw n (ap suc (chain_length_lem k B nexts lengths (get_or nexts p 0) r c.2 (omega arith)))

-- the page of a live slot tells its segment and its place
pub page_segment : (N B : ℕ) (e : LiveSlot) → Stands N B e → (page_of B e / (B + 1) ≡ e.segment) × (page_of B e % (B + 1) ≡ e.slot)
unfolding page_of
page_segment N B e t =
    let p = e.segment * (B + 1) + e.slot in
    let q = t.slot in
    let m = suc-mul e.segment (B + 1) in
    let o = add-one e.segment in
    let d : p / (B + 1) ≡ e.segment = div-eq_of_lt-le (B + 1) (omega arith) (rw o (omega arith)) in
    let a : p / (B + 1) * (B + 1) + p % (B + 1) ≡ p = div-add-mod' p (B + 1) in
    let b : e.segment * (B + 1) + p % (B + 1) ≡ p = rw d at a in
    (d, omega arith)

-- a chain from page 0 has no live slot
pub chain_none : (B : ℕ) (nexts lengths : List ℕ) (p : ℕ) (r : List LiveSlot) → Chain B nexts lengths p r → p ≡ 0 → r ≡ []
chain_none B nexts lengths p [] c h = refl
chain_none B nexts lengths p (e ∷ r) c h = absurd (let z = c.1 in omega arith)

chain_low : (N B : ℕ) (s nexts lengths : List ℕ) (p : ℕ) (r : List LiveSlot) → Sized N B (length s) → Chain B nexts lengths p r → AllStand N B r → p < most_pages
chain_low N B s nexts lengths p [] z c t = omega arith
chain_low N B s nexts lengths p (e ∷ r) z c t = let q = page_few N B e z.segments z.slots t.0 in let f = c.0 in omega arith

line_same : (e : LiveSlot) (b n i j : ℕ) → b ≡ e.block → n ≡ length e.contents → i ≡ e.segment → j ≡ e.slot → block_text b n i j ++ ascii "\n" ≡ block_line e
unfolding block_line
line_same e b n i j p q r t = rw (p, q, r, t)

lines_cons : (e : LiveSlot) (r : List LiveSlot) → block_lines (e ∷ r) ≡ block_line e ++ block_lines r
unfolding block_lines flat_map
lines_cons e r = refl

-- how far the lines of a block's chain are written: those of the pages from here on are left
pub record Walk (N B : ℕ) (s nexts lengths : List ℕ) (block : ℕ) (whole : List LiveSlot) (start : List ℕ) (at : ℕ) (text : List ℕ) (page end : ℕ) : Type 0 where
  pub rest : List LiveSlot
  pub lines : List ℕ
  pub chain : Chain B nexts lengths page rest
  pub stands : AllStand N B rest
  pub same : AllOf block rest
  pub few : length rest ≤ most_pages
  pub wrote : Wrote lines start at text end
  pub joined : lines ++ block_lines rest ≡ block_lines whole
  pub near : end + 80 * length rest ≤ at + 80 * length whole

-- where a live slot is left, the next one is on the page
pub record Next (N B : ℕ) (s nexts lengths : List ℕ) (block : ℕ) (rest : List LiveSlot) (page : ℕ) : Type 0 where
  pub slot : LiveSlot
  pub others : List LiveSlot
  pub split : rest ≡ slot ∷ others
  pub here : page ≡ page_of B slot
  pub chain : Chain B nexts lengths (get_or nexts page 0) others
  pub length_is : get_or lengths page 0 ≡ length slot.contents
  pub stand : Stands N B slot
  pub stands : AllStand N B others
  pub block_is : slot.block ≡ block
  pub same : AllOf block others

some_next : (N B : ℕ) (s nexts lengths : List ℕ) (block : ℕ) (rest : List LiveSlot) (page : ℕ) → Chain B nexts lengths page rest → AllStand N B rest → AllOf block rest → (page ≡ 0 → ⊥) → Next N B s nexts lengths block rest page
some_next N B s nexts lengths block [] page c t o h = absurd (h c)
some_next N B s nexts lengths block (e ∷ r) page c t o h =
    record { slot = e; others = r; split = refl; here = c.0; chain = c.2; length_is = c.3; stand = t.0; stands = t.1; block_is = o.0; same = o.1 }

module _ {N B : ℕ} {s nexts lengths : List ℕ} {block : ℕ} {whole : List LiveSlot} {start : List ℕ} {at : ℕ} where
  pub walk_start : {page : ℕ} → Chain B nexts lengths page whole → AllStand N B whole → AllOf block whole → length whole ≤ most_pages → Walk N B s nexts lengths block whole start at start page at
  walk_start c t o h =
      record { rest = whole; lines = []; chain = c; stands = t; same = o; few = h; wrote = wrote_none start at; joined = refl; near = omega arith }

  pub walk_next : {text : List ℕ} {page end : ℕ} (w : Walk N B s nexts lengths block whole start at text page end) → (page ≡ 0 → ⊥) → Next N B s nexts lengths block w.rest page
  walk_next {text} {page} {end} w h = some_next N B s nexts lengths block w.rest page w.chain w.stands w.same h

  -- its page lies in the image, and there is room for its line
  pub walk_inside : {text : List ℕ} {page end : ℕ} → Sized N B (length s) → Walk N B s nexts lengths block whole start at text page end → (page ≡ 0 → ⊥)
      → (page < most_pages) × (end + 80 ≤ at + 80 * length whole)
  walk_inside {text} {page} {end} z w h =
      let n = walk_next w h in
      let p = page_few N B n.slot z.segments z.slots n.stand in
      let l : length w.rest ≡ suc (length n.others) = ap length n.split in
      (rw n.here p.1, let q = w.near in omega arith)

  pub walk_low : {text : List ℕ} {page end : ℕ} → Sized N B (length s) → Walk N B s nexts lengths block whole start at text page end → (page ≡ 0 → ⊥) → get_or nexts page 0 < most_pages
  walk_low {text} {page} {end} z w h = let n = walk_next w h in chain_low N B s nexts lengths (get_or nexts page 0) n.others z n.chain n.stands

  pub walk_short : {text : List ℕ} {page end : ℕ} → Walk N B s nexts lengths block whole start at text page end → (page ≡ 0 → ⊥) → get_or lengths page 0 < 256
  walk_short {text} {page} {end} w h = let n = walk_next w h in let k = n.stand.length in let e = n.length_is in omega arith

  pub walk_less : {text : List ℕ} {page end : ℕ} → Walk N B s nexts lengths block whole start at text page end → (page ≡ 0 → ⊥) → chain_length most_pages nexts (get_or nexts page 0) < chain_length most_pages nexts page
  walk_less {text} {page} {end} w h =
      let n = walk_next w h in
      let f = w.few in
      let l : length w.rest ≡ suc (length n.others) = ap length n.split in
      let a = chain_length_lem most_pages B nexts lengths page w.rest w.chain f in
      let b = chain_length_lem most_pages B nexts lengths (get_or nexts page 0) n.others n.chain (omega arith) in
      omega arith

  -- its line written
  pub walk_step : {text after : List ℕ} {page end then_end : ℕ} → Walk N B s nexts lengths block whole start at text page end → (page ≡ 0 → ⊥)
      → Wrote (block_text block (get_or lengths page 0) (page / (B + 1)) (page % (B + 1)) ++ ascii "\n") text end after then_end → then_end ≤ end + 80
      → Walk N B s nexts lengths block whole start at after (get_or nexts page 0) then_end
  walk_step {text} {after} {page} {end} {then_end} w h wrote near =
      let n = walk_next w h in
      let e = n.slot in
      let f = w.few in
      let l : length w.rest ≡ suc (length n.others) = ap length n.split in
      let place = page_segment N B e n.stand in
      let is : block_text block (get_or lengths page 0) (page / (B + 1)) (page % (B + 1)) ++ ascii "\n" ≡ block_line e =
      line_same e block (get_or lengths page 0) (page / (B + 1)) (page % (B + 1)) (sym n.block_is)
      n.length_is (ap (λ (p : ℕ). p / (B + 1)) n.here ∙ place.0) (ap (λ (p : ℕ). p % (B + 1)) n.here ∙ place.1) in
      record {
        rest = n.others;
        lines = w.lines ++ block_line e;
        chain = n.chain;
        stands = n.stands;
        same = n.same;
        few = omega arith;
        wrote = w.wrote then wrote_as (block_line e) is wrote;
        joined = append_assoc w.lines (block_line e) (block_lines n.others)
            ∙ (ap (λ (z : List ℕ). w.lines ++ z) (sym (lines_cons e n.others) ∙ ap block_lines (sym n.split)) ∙ w.joined);
        near = let q = w.near in omega arith;
      }

  pub walk_end : {text : List ℕ} {page end : ℕ} → Walk N B s nexts lengths block whole start at text page end → page ≡ 0 → Wrote (block_lines whole) start at text end × (end ≤ at + 80 * length whole)
  unfolding block_lines flat_map
  walk_end {text} {page} {end} w h =
      let none : w.rest ≡ [] = chain_none B nexts lengths page w.rest w.chain h in
      let all : w.lines ++ block_lines [] ≡ block_lines whole = ap (λ (z : List LiveSlot). w.lines ++ block_lines z) (sym none) ∙ w.joined in
      let q = w.near in
      (wrote_as (block_lines whole) (sym (append-nil w.lines) ∙ all) w.wrote, omega arith)

-- ---- all blocks in turn, each of their live slots with a line

flat_append : (f : LiveSlot → List ℕ) (a b : List LiveSlot) → flat_map f (a ++ b) ≡ flat_map f a ++ flat_map f b
unfolding flat_map
flat_append f [] b = refl
flat_append f (e ∷ a) b = ap (λ (z : List ℕ). f e ++ z) (flat_append f a b) ∙ sym (append_assoc (f e) (flat_map f a) (flat_map f b))

-- how far they are written: those of the block numbers below one
pub record Blocks (f : LiveSlot → List ℕ) (r : List LiveSlot) (start : List ℕ) (at : ℕ) (text : List ℕ) (block end : ℕ) : Type 0 where
  pub wrote : Wrote (flat_map f (blocks_below block r)) start at text end
  pub near : end ≤ at + 80 * length (blocks_below block r)
  pub upto : block ≤ most_pages

pub blocks_start : (f : LiveSlot → List ℕ) (r : List LiveSlot) (start : List ℕ) (at : ℕ) → Blocks f r start at start 0 at
unfolding blocks_below flat_map
blocks_start f r start at = record { wrote = wrote_none start at; near = omega arith; upto = omega arith }

module _ {f : LiveSlot → List ℕ} {r : List LiveSlot} {start : List ℕ} {at : ℕ} where
  pub blocks_more : {text after : List ℕ} {block end then_end : ℕ} → Blocks f r start at text block end → block < most_pages
      → Wrote (flat_map f (of_block block r)) text end after then_end → then_end ≤ end + 80 * length (of_block block r) → Blocks f r start at after (block + 1) then_end
  unfolding blocks_below
  blocks_more {text} {after} {block} {end} {then_end} b h w n =
      let l = length-append (blocks_below block r) (of_block block r) in
      let q = b.near in
      rw (add-one block) record {
        wrote = wrote_as (flat_map f (blocks_below block r ++ of_block block r)) (sym (flat_append f (blocks_below block r) (of_block block r))) (b.wrote then w);
        near = omega arith;
        upto = omega arith;
      }

  -- a block without a live slot has no line
  pub blocks_none : {text : List ℕ} {block end : ℕ} → of_block block r ≡ [] → Blocks f r start at text block end → block < most_pages → Blocks f r start at text (block + 1) end
  unfolding flat_map
  blocks_none {text} {block} {end} none b h = blocks_more b h (wrote_as (flat_map f (of_block block r)) (ap (flat_map f) (sym none)) (wrote_none text end)) (omega arith)

  -- the same text and offset by other names
  pub blocks_as : {text other : List ℕ} {block end behind : ℕ} → text ≡ other → end ≡ behind → Blocks f r start at other block behind → Blocks f r start at text block end
  blocks_as {text} {other} {block} {end} {behind} e g b =
      subst (λ (k : ℕ). Blocks f r start at text block k) (sym g) (subst (λ (z : List ℕ). Blocks f r start at z block behind) (sym e) b)

  -- and there is room for the next
  pub blocks_room : {text : List ℕ} {block end : ℕ} → Blocks f r start at text block end → end ≤ at + 80 * length r
  blocks_room {text} {block} {end} b = let q = b.near in let g = below_few block r in omega arith

  pub blocks_end : {text : List ℕ} {block end : ℕ} → AllBelow most_pages r → length r < most_pages → Blocks f r start at text block end → most_pages ≤ block
      → Wrote (flat_map f (by_block r)) start at text end × (end ≤ at + 80 * 65536)
  blocks_end {text} {block} {end} t g b h =
      let u = b.upto in
      let e : block ≡ most_pages = omega arith in
      let q = blocks_room b in
      let k : blocks_below block r ≡ by_block r = ap (λ (z : ℕ). blocks_below z r) e ∙ sym (sorted most_pages r t) in
      (wrote_as (flat_map f (by_block r)) (ap (flat_map f) k) b.wrote, omega arith)
