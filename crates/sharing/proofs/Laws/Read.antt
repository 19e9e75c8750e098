-- A read that the store is asked for: refused, or the contents found in the image.
use Prim.Native.Nat.{ℕ, suc, ◌+◌, ◌-◌, ◌%◌, ◌≤◌, ◌<◌}
use mathlib.Core.Path.{◌≡◌, refl, ap, ◌∙◌}
use mathlib.Core.Bool.{Bool, true, false, cond}
use mathlib.Core.List.{List, []}
use native.Mathlib.Omega.{arith}
use native.Mathlib.Nat.{mod-lt}
use lib.ListN.{length, take, drop}
use lib.Dec.{ltb, eqb}
use borrow.Author.Tests.{ltb-true, ltb-false, le-leb, lt-leb, ne_eqb}
use Rattle.model.specs.Chip.{Image, image_length, right_size}
use Rattle.model.specs.State.{segments_of, used_count, first_number, view_of, entries_in, place_of, view}
use Rattle.model.specs.Steps.{slot_at}
use Rattle.model.specs.Table.{lookup, contents_found, table_of}
use Rattle.model.specs.Answers.{code_of, read, first_of, work_of, ReadOutcome, located, contents_at, read_outcome, piece_read}
use Rattle.model.specs.declared.Located.{Located}
use Rattle.model.proofs.Laws.Chip.{size_facts}
use Rattle.model.proofs.Laws.Segments.{page_in}
use Rattle.bridge.specs.Accepted.{accepted, read_passed, size_passed}
use Rattle.bridge.specs.Lengths.{image_rows, slot_short, read_small}
use Rattle.crash.specs.Sound.{Clean}
use Rattle.crash.proofs.Requests.{read_code}
use Rattle.crash.proofs.Read.{read_done}
use Rattle.text.specs.Buffer.{printed, print_in}
use Rattle.text.specs.declared.Printed.{Printed}
use Rattle.shares.specs.Shares.{Share}
use Rattle.shares.specs.Layer.{reads, store_request, rows, contents_asked, gave_in}
use Rattle.isolation.proofs.Meeting.{accepted_clean}
use Rattle.sharing.specs.Within.{code_within, outcome_within}

-- contents in a lent buffer, by its length
copied : (s : Image) (c lent : List ℕ) (t : Bool) → ltb (length lent) (length c) ≡ t → print_in c lent ≡ gave_in (record { code = cond t 14 0; given = cond (eqb (cond t 14 0) 0) c []; image = s }) lent
unfolding gave_in print_in
copied s c lent true e = rw (lt-leb (length c) (length lent) (ltb-true (length lent) (length c) e))
copied s c lent false e = rw (le-leb (length c) (length lent) (ltb-false (length lent) (length c) e))

module _ (N B : ℕ) (s : Image) (b : ℕ) where
  -- ---- where the contents of a block that is found lie

  module _ (h : (work_of N B s (read b)).code ≡ 0) where
    found_size : right_size N B s ≡ true
    found_size = size_passed N B s (read b) (accepted N B s (read b) h).1

    -- only a clean image is read
    found_clean : Clean N B s
    unfolding store_request
    found_clean = accepted_clean N B s (reads b 0) h

    -- in a page of the image, behind eight bytes
    found_inside : contents_at N B (place_of b (view N B s)) + 248 ≤ length s
    unfolding contents_at slot_at image_length view view_of entries_in place_of
    found_inside =
        let z = size_facts N B s found_size in
        let l = segments_of N B s in
        let p = place_of b (view_of N l) in
        let two = z.two in
        let some : 0 < N = omega arith in
        let j = slot_short B b (first_number l) _ (image_rows N B s (used_count l) (first_number l)) (read_passed N B s b (accepted N B s (read b) h).1) in
        let page = page_in N B (p.number % N) (suc p.slot) (mod-lt p.number some) (omega arith) in
        omega (arith, z.whole)

  -- ---- what the store tells

  module _ (p : Located) (e : located p ≡ read_outcome N B s b) where
    told_code : code_of p.answer ≡ (work_of N B s (read b)).code
    unfolding located
    told_code = ap (λ (o : ReadOutcome). o.code) e ∙ read_code N B s b

    told_offset : p.offset ≡ (read_outcome N B s b).offset
    unfolding located
    told_offset = ap (λ (o : ReadOutcome). o.offset) e

    told_length : p.length ≡ (read_outcome N B s b).length
    unfolding located
    told_length = ap (λ (o : ReadOutcome). o.length) e

    pub told_small : p.length ≤ 248
    told_small = omega (arith, told_length, (read_small N B s b).1)

    pub not_read : (x : Share) (lent : List ℕ) → 0 < code_of p.answer → printed (record { answer = p.answer; length = 0 }) lent ≡ gave_in (outcome_within N B x s (reads b (length lent))) lent
    unfolding printed gave_in outcome_within code_within rows first_of store_request
    not_read x lent h =
        let k = told_code in
        let n : eqb (work_of N B s (read b)).code 0 ≡ false = ne_eqb (work_of N B s (read b)).code 0 (λ z. omega arith) in
        rw (k, n, n)

    module _ (h : code_of p.answer ≤ 0) where
      done : (work_of N B s (read b)).code ≡ 0
      done = omega (arith, told_code)

      pub told_inside : p.offset + p.length ≤ length s
      unfolding read_outcome
      told_inside =
          let d = done in
          let at : p.offset ≡ contents_at N B (place_of b (view N B s)) = told_offset ∙ rw d in
          omega (arith, told_small, found_inside d)

      -- the piece of the image that it tells of
      abbrev piece : List ℕ
      piece = take (p.offset + p.length - p.offset) (drop p.offset s)

      told_piece : piece ≡ contents_found (lookup b (table_of N B s))
      unfolding piece_read
      told_piece =
          let n : p.offset + p.length - p.offset ≡ p.length = omega arith in
          let o = told_offset in
          let l = told_length in
          rw (n, o, l) (read_done N B s b (found_size done) (found_clean done) done)

      pub was_read : (x : Share) (lent : List ℕ) (r : Printed) (buffer : List ℕ) → printed r buffer ≡ print_in piece lent → printed r buffer ≡ gave_in (outcome_within N B x s (reads b (length lent))) lent
      unfolding outcome_within code_within rows first_of store_request contents_asked
      was_read x lent r buffer w =
          let d = done in
          let c = contents_found (lookup b (table_of N B s)) in
          (rw told_piece at w) ∙ rw d (copied _ c lent (ltb (length lent) (length c)) refl)
