-- The lines of the candidates given, by rising number.
use Prim.Native.Nat.{ℕ, zero, suc, ◌+◌, ◌-◌, ◌*◌, ◌/◌, ◌%◌, ◌≤◌, ◌<◌}
use mathlib.Core.Path.{◌≡◌, refl, sym, ap, ◌∙◌, subst}
use mathlib.Core.Logic.{◌≢◌, ⊎_elim}
use mathlib.Core.Bool.{Bool, true, false, cond, not}
use mathlib.Core.List.{List, [], ◌∷◌, ◌++◌, flat_map, append-nil}
use native.Mathlib.Omega.{arith}
use lib.ListN.{length, get_or}
use Rattle.model.specs.Chip.{Image, right_size}
use Rattle.model.specs.State.{segments_of}
use Rattle.text.specs.Text.{text, text as ascii}
use Rattle.text.specs.Buffer.{Wrote}
use Rattle.text.proofs.Laws.{wrote_as}
use Rattle.flash.proofs.Pages.{sized}
use Rattle.account_text.specs.Account.{LiveSlot, block_text, by_block}
use Rattle.index.specs.Tables.{most_pages, page_of, of_block, Stands}
use Rattle.block_lines.proofs.Laws.{page_segment, Blocks, blocks_more, blocks_none, blocks_room, blocks_end}
use Rattle.skipping.specs.Passed.{Passed}
use Rattle.salvage.specs.Salvage.{candidates, given, agreed, given_line}
use Rattle.meeting.specs.declared.Sheet.{Sheet}
use Rattle.candidates.specs.Gathered.{OneOf, Tells, Gathered}
use Rattle.candidates.specs.Lie.{candidates_few, candidates_lie, given_below, given_few}

-- ---- a line

-- of what the tables tell of block b
line_told : (N B : ℕ) (s : Image) (t : Sheet) (r : List LiveSlot) (b : ℕ) (o : OneOf N B s t r b) (n i j : ℕ) (d : Bool) → n ≡ get_or t.lengths b 0 → i ≡ get_or t.places b 0 / 256 / (B + 1) → j ≡ get_or t.places b 0 / 256 % (B + 1) → d ≡ get_or t.differs b false
    → block_text b n i j ++ cond d (text " differs\n") (text " same\n") ≡ given_line r o.slot
unfolding given_line
line_told N B s t r b o n i j d en ei ej ed =
    let x = o.slot in
    let p = page_segment N B x o.lies.stands in
    let q : get_or t.places b 0 / 256 ≡ page_of B x = omega (arith, o.place) in
    let fi : i ≡ x.segment = ei ∙ (ap (λ (k : ℕ). k / (B + 1)) q ∙ p.0) in
    let fj : j ≡ x.slot = ej ∙ (ap (λ (k : ℕ). k % (B + 1)) q ∙ p.1) in
    rw (fi, fj, en ∙ o.length, ed ∙ o.differs, ← o.block) (ap (λ (y : List ℕ). block_text x.block (length x.contents) x.segment x.slot ++ y) (turned (agreed r x)))
  where
    turned : (a : Bool) → cond (not a) (text " differs\n") (text " same\n") ≡ cond a (text " same\n") (text " differs\n")
    turned true = refl
    turned false = refl

-- ---- all of them

module _ (N B : ℕ) (s : Image) (z : right_size N B s ≡ true) (t : Sheet) (g : Gathered N B s t) (start : List ℕ) (at : ℕ) where
  abbrev pub found : List LiveSlot
  found = candidates N (segments_of N B s)

  abbrev pub Lines : List ℕ → ℕ → ℕ → Type 0
  Lines text block end = Blocks (given_line found) (given found) start at text block end

  -- a block with a place has a line
  pub lines_one : {text after : List ℕ} {block end then_end n i j : ℕ} {d : Bool} → Lines text block end → block < most_pages → get_or t.places block 0 ≢ 0
      → n ≡ get_or t.lengths block 0 → i ≡ get_or t.places block 0 / 256 / (B + 1) → j ≡ get_or t.places block 0 / 256 % (B + 1) → d ≡ get_or t.differs block false
      → Wrote (block_text block n i j ++ cond d (ascii " differs\n") (ascii " same\n")) text end after then_end → then_end ≤ end + 80 → Lines after (block + 1) then_end
  lines_one {text} {after} {block} {end} {then_end} {n} {i} {j} {d} b h some en ei ej ed w near =
      ⊎_elim (λ k. absurd (some k.place)) (λ o.
      let one : flat_map (given_line found) (of_block block (given found)) ≡ block_text block n i j ++ cond d (ascii " differs\n") (ascii " same\n") =
      ap (flat_map (given_line found)) o.one ∙ (single o.slot ∙ sym (line_told N B s t found block o n i j d en ei ej ed)) in
      let few : length (of_block block (given found)) ≡ 1 = ap length o.one in
      blocks_more b h (wrote_as (flat_map (given_line found) (of_block block (given found))) (sym one) w) (omega (arith, few, near))) (g.tells block h)
    where
      single : (e : LiveSlot) → flat_map (given_line found) (e ∷ []) ≡ given_line found e
      single e = unfold flat_map in (append-nil (given_line found e))

  -- those without one have none
  lines_none : {text : List ℕ} {block end : ℕ} → Lines text block end → block < most_pages → get_or t.places block 0 ≡ 0 → Lines text (block + 1) end
  lines_none {text} {block} {end} b h none = blocks_none (nothing (g.tells block h)) b h
    where
      nothing : Tells N B s t found block → of_block block (given found) ≡ []
      nothing k = ⊎_elim (λ n. n.none) (λ o. absurd (omega (arith, none, o.place, some o.slot o.lies.stands))) k
        where
          some : (e : LiveSlot) → Stands N B e → 0 < page_of B e
          some e h = unfold page_of in (omega (arith, h.first))

  lines_many : (c : ℕ) {text : List ℕ} {block end : ℕ} → Lines text block end → block + c ≤ most_pages → ((k : ℕ) → block ≤ k → k < block + c → get_or t.places k 0 ≡ 0) → Lines text (block + c) end
  lines_many zero {text} {block} {end} b h f = let e : block + 0 ≡ block = omega arith in subst (λ (k : ℕ). Lines text k end) (sym e) b
  lines_many (suc c) {text} {block} {end} b h f =
      let e : block + 1 + c ≡ block + suc c = omega arith in
      subst (λ (k : ℕ). Lines text k end) e (lines_many c (lines_none b (omega arith) (f block (omega arith) (omega arith))) (omega arith) (λ k p q. f k (omega arith) (omega arith)))

  -- one without a place, and those that were passed over behind it
  pub lines_passed : {text : List ℕ} {block end to : ℕ} → Lines text block end → block < most_pages → get_or t.places block 0 ≡ 0 → Passed t.places (block + 1) to → Lines text to end
  lines_passed {text} {block} {end} {to} b h none p =
      let e : block + 1 + (to - (block + 1)) ≡ to = omega (arith, p.up) in
      subst (λ (k : ℕ). Lines text k end) e (lines_many (to - (block + 1)) (lines_none b h none) (omega (arith, p.up, p.most)) (λ k a c. p.none k a (omega (arith, p.up))))

  few : length (given found) < most_pages
  few = let f = sized N B s z in omega (arith, given_few found, candidates_few N B s f.some f.segments f.slots)

  pub lines_room : {text : List ℕ} {block end : ℕ} → Lines text block end → end ≤ at + 80 * 65536
  lines_room b = omega (arith, blocks_room b, few)

  pub lines_end : {text : List ℕ} {block end : ℕ} → Lines text block end → most_pages ≤ block
      → Wrote (flat_map (given_line (candidates N (segments_of N B s))) (by_block (given (candidates N (segments_of N B s))))) start at text end × (end ≤ at + 80 * 65536)
  lines_end b h = let f = sized N B s z in blocks_end (given_below N B s found (candidates_lie N B s f.some (omega (arith, f.whole)))) few b h
