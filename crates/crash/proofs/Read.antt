-- A read of a stored block on a clean image hands back its contents: they stand in the page of its live slot.
use Rattle.std.specs.Prelude.{ℕ, zero, suc, ◌+◌, ◌-◌, ◌*◌, ◌%◌, ◌≤◌, ◌<◌, ◌≡◌, refl, true, List, [], ◌∷◌, length, get_or, drop}
use Rattle.std.proofs.Common.{sym, ap, ◌∙◌, arith, take_at, take-take, drop-drop}
use Rattle.std.proofs.Math.ListN.{take}
use Rattle.model.specs.Chip.{Image, erased, pages_of, right_size}
use Rattle.model.specs.Slot.{most_contents, slot_page, dead}
use Rattle.model.specs.State.{segments_of, view_of, entries_in, place_of, view}
use Rattle.model.specs.Steps.{slot_at}
use Rattle.model.specs.Table.{lookup, present, contents_found, table_of}
use Rattle.model.specs.Answers.{read, contents_at, read_outcome, piece_read}
use Rattle.model.specs.Laws.Chunk.{chunk_part}
use Rattle.model.proofs.Laws.Chip.{size_facts}
use Rattle.model.proofs.Laws.SlotPage.{LiveFacts, live_facts}
use Rattle.model.proofs.Laws.Segments.{part_of, part_page, page_in}
use Rattle.model.proofs.Laws.Effects.{index}
use Rattle.bridge.specs.Accepted.{accepted, read_passed}
use Rattle.crash.specs.Sound.{Clean, Accepted}
use Rattle.crash.proofs.RecoverMarks.{LivePlace, live_place, live_marks, slot_inside, page_kind}

-- ---- the contents in a page, and in the image

page_contents_lem : (b : ℕ) (c : List ℕ) → take (length c) (drop 8 (slot_page b c)) ≡ c
unfolding slot_page
page_contents_lem b c = take_at c (erased (most_contents - length c)) (length c) refl

-- a part of a part
take_inside : (n a m : ℕ) (y : List ℕ) → a + n ≤ m → take n (drop a (take m y)) ≡ take n (drop a y)
take_inside n zero m y h = take-take n m y (omega arith)
take_inside n (suc a) zero y h = absurd (omega arith)
take_inside n (suc a) (suc m) [] h = refl
take_inside n (suc a) (suc m) (x ∷ y) h = take_inside n a m y (omega arith)

pub read_done : (N B : ℕ) (s : Image) (b : ℕ) → right_size N B s ≡ true → Clean N B s → Accepted N B s (read b) → piece_read N B s b ≡ contents_found (lookup b (table_of N B s))
unfolding piece_read read_outcome contents_at table_of view contents_found slot_at
read_done N B s b z h a = rw (a, found) bytes
  where
    l : LivePlace N (segments_of N B s) b
    l = live_place N (segments_of N B s) b (unfold view in read_passed N B s b (accepted N B s (read b) a).1)

    c : List ℕ
    c = l.contents

    n : ℕ
    n = (place_of b (view_of N (segments_of N B s))).number

    j : ℕ
    j = (place_of b (view_of N (segments_of N B s))).slot

    p : ℕ
    p = n % N * (B + 1) + suc j

    here : n % N < N
    here = index N B (size_facts N B s z).two s (size_facts N B s z).whole n

    inside : j < B
    inside = slot_inside N B s z n j dead (live_marks l)

    facts : LiveFacts (get_or (part_of N B (n % N) s) (suc j) []) b c
    facts = live_facts (get_or (part_of N B (n % N) s) (suc j) []) b c (page_kind N B s z n j dead (live_marks l) ∙ l.slot)

    page : slot_page b c ≡ take 256 (drop (p * 256) s)
    page = sym facts.page ∙ (part_page N B (n % N) (suc j) s here (omega (arith, inside)) ∙ (unfold pages_of in chunk_part 256 (N * (B + 1)) p s (page_in N B (n % N) (suc j) here (omega (arith, inside)))))

    found : lookup b (entries_in (view_of N (segments_of N B s))) ≡ present c
    found = l.found

    bytes : take (length c) (drop (p * 256 + 8) s) ≡ c
    bytes = ap (λ y. take (length c) y) (sym (drop-drop 8 (p * 256) s))
        ∙ (sym (take_inside (length c) 8 256 (drop (p * 256) s) (unfold most_contents in omega (arith, facts.short)))
        ∙ (ap (λ y. take (length c) (drop 8 y)) (sym page) ∙ page_contents_lem b c))
