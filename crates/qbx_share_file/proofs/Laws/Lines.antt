-- Lines of a file, one after the other: what is left to be read, behind what is listed.
use Prim.Native.Nat.{ℕ, suc, ◌+◌, ◌-◌, ◌≤◌, ◌<◌, min}
use mathlib.Core.Path.{◌≡◌, refl, sym, ap, ◌∙◌}
use mathlib.Core.Bool.{Bool, true, false}
use mathlib.Core.List.{List, [], ◌∷◌, ◌++◌}
use native.Mathlib.Numerals.{add-one}
use native.Mathlib.Omega.{arith}
use lib.ListN.{length, take, drop, length-append, drop_of_length-le}
use lib.Seq.{take-length, drop-drop}
use lib.Dec.{eqb}
use borrow.Author.Tests.{ne_eqb}
use Rattle.byte_search.specs.Bytes.{index_of, slice}
use Rattle.std.specs.Prelude.{Some, None, Result, Ok, Err}
use Rattle.qbx_share_file.specs.declared.lines.WrongLine.{WrongLine}
use Rattle.qbx_share_file.specs.AnyFile.{parts, is_line_end, LineSaid, odd, Said, on_any, any_from, file_says, listing, over}
use Rattle.qbx_share_file.specs.Steps.{reach, behind, Kept}
use Rattle.qbx_share_file.proofs.Laws.Parts.{others, parts_first}
use Rattle.qbx_share_file.proofs.Laws.Kept.{behind_none}

-- ---- the next line

index_by : (b : ℕ) (s : List ℕ) (t : Bool) → eqb b 10 ≡ t → index_of 10 s ≡ reach is_line_end s → index_of 10 (b ∷ s) ≡ reach is_line_end (b ∷ s)
unfolding index_of reach is_line_end
index_by b s true e h = rw e
index_by b s false e h = rw (e, h)

-- the library's search goes as far
index_reach : (s : List ℕ) → index_of 10 s ≡ reach is_line_end s
unfolding index_of reach
index_reach [] = refl
index_reach (b ∷ s) = index_by b s (eqb b 10) refl (index_reach s)

module _ {T : Type 0} (f : List ℕ → LineSaid T) (quiet : f [] ≡ Ok None) where
  -- behind the last line nothing is said, so it may or may not have an end
  others_say : (k : ℕ) (s : List ℕ) → any_from f k (others is_line_end s) ≡ any_from f k (parts is_line_end (drop 1 s))
  unfolding any_from on_any parts others
  others_say k [] = rw quiet
  others_say k (b ∷ s) = refl

  next_line : (k : ℕ) (s : List ℕ) → any_from f k (parts is_line_end s) ≡ on_any k (f (take (reach is_line_end s) s)) (any_from f (k + 1) (parts is_line_end (drop (reach is_line_end s + 1) s)))
  unfolding any_from
  next_line k s = rw (add-one k, parts_first is_line_end s, others_say (suc k) (drop (reach is_line_end s) s), drop-drop 1 (reach is_line_end s) s)

-- ---- what is left to be read

-- what the lines from `at` on say, of which the first is number `k`
unfoldable pub said_from : {T : Type 0} → (List ℕ → LineSaid T) → List ℕ → ℕ → ℕ → Said T
said_from f text at k = any_from f k (parts is_line_end (drop at text))

-- `count` numbers are listed, and what is left to be read gives what the whole text does
pub record Left {T : Type 0} (f : List ℕ → LineSaid T) (text : List ℕ) (lent : List T) (at k count : ℕ) (list : List T) : Type 0 where
  pub counted : k ≤ at + 1
  pub begun : 0 < k
  pub within : count ≤ length list
  pub long : length list ≡ length lent
  pub lists : behind count (said_from f text at k).numbers list ≡ over (file_says f text).numbers lent
  pub counts : min (count + length (said_from f text at k).numbers) (length lent) ≡ min (length (file_says f text).numbers) (length lent)
  pub wrong : (said_from f text at k).wrong ≡ (file_says f text).wrong

pub left_all : {T : Type 0} (f : List ℕ → LineSaid T) (text : List ℕ) (lent : List T) → Left f text lent 0 1 0 lent
unfolding said_from file_says behind
left_all f text lent = record { counted = omega arith; begun = omega arith; within = omega arith; long = refl; lists = refl; counts = omega arith; wrong = refl }

module _ {T : Type 0} (f : List ℕ → LineSaid T) (quiet : f [] ≡ Ok None) (text : List ℕ) (lent : List T) (at k count : ℕ) (list : List T) (x : Left f text lent at k count list) where
  -- nothing is left
  pub left_none : length text ≤ at → (Ok count ≡ listing (length lent) (file_says f text)) × (list ≡ over (file_says f text).numbers lent)
  unfolding said_from any_from on_any parts listing
  left_none h =
      let e = drop_of_length-le text h in
      let l : behind count [] list ≡ over (file_says f text).numbers lent = rw (e, quiet) at x.lists in
      let n : min (count + 0) (length lent) ≡ min (length (file_says f text).numbers) (length lent) = rw (e, quiet) at x.counts in
      let w : 0 ≡ (file_says f text).wrong = rw (e, quiet) at x.wrong in
      let m : min (length (file_says f text).numbers) (length lent) ≡ count = omega (arith, x.within, x.long) in
      (rw (sym w, m), sym (behind_none count list) ∙ l)

  module _ (end : ℕ) (line : LineSaid T)
      (found : end ≡ at + index_of 10 (slice at (length text) text))
      (read : line ≡ f (take (end - at) (drop at text))) where
    -- what the lines behind the next say
    rest : Said T
    rest = said_from f text (end + 1) (k + 1)

    -- the next line, and the rest
    split : said_from f text at k ≡ on_any k line rest
    unfolding said_from slice rest
    split =
        let g : end ≡ at + reach is_line_end (drop at text) = found ∙ ap (λ (l : List ℕ). at + index_of 10 (drop at l)) (take-length text) ∙ ap (λ (n : ℕ). at + n) (index_reach (drop at text)) in
        let r : reach is_line_end (drop at text) ≡ end - at = omega arith in
        let d : at + (end - at + 1) ≡ end + 1 = omega arith in
        rw (next_line f quiet k (drop at text), r, drop-drop (end - at + 1) at text, d) (ap (λ (v : LineSaid T). on_any k v rest) (sym read))

    pub left_wrong : line ≡ Err odd → (Err (record { 0 = k }) ≡ listing (length lent) (file_says f text)) × (list ≡ over (file_says f text).numbers lent)
    unfolding listing on_any
    left_wrong e =
        let o : said_from f text at k ≡ record { numbers = []; wrong = k } = split ∙ ap (λ (v : LineSaid T). on_any k v rest) e in
        let w : (file_says f text).wrong ≡ k = sym x.wrong ∙ ap (λ (s : Said T). s.wrong) o in
        let z : eqb k 0 ≡ false = ne_eqb k 0 (λ z. omega (arith, x.begun)) in
        (rw (w, z), sym (behind_none count list) ∙ ap (λ (s : Said T). behind count s.numbers list) (sym o) ∙ x.lists)

    pub left_blank : line ≡ Ok None → Left f text lent (end + 1) (k + 1) count list
    unfolding on_any said_from rest
    left_blank e =
        let o : said_from f text at k ≡ rest = split ∙ ap (λ (v : LineSaid T). on_any k v rest) e in
        record {
          counted = omega (arith, x.counted, found);
          begun = omega arith;
          within = x.within;
          long = x.long;
          lists = ap (λ (s : Said T). behind count s.numbers list) (sym o) ∙ x.lists;
          counts = ap (λ (s : Said T). min (count + length s.numbers) (length lent)) (sym o) ∙ x.counts;
          wrong = ap (λ (s : Said T). s.wrong) (sym o) ∙ x.wrong;
        }

    pub left_next : (ns : List T) (next : ℕ) (after : List T) → line ≡ Ok (Some ns) → Kept ns count list next after → Left f text lent (end + 1) (k + 1) next after
    unfolding on_any said_from rest
    left_next ns next after e y =
        let o : said_from f text at k ≡ record { numbers = ns ++ rest.numbers; wrong = rest.wrong } = split ∙ ap (λ (v : LineSaid T). on_any k v rest) e in
        let n : (said_from f text at k).numbers ≡ ns ++ rest.numbers = ap (λ (s : Said T). s.numbers) o in
        let l : length (said_from f text at k).numbers ≡ length ns + length rest.numbers = ap length n ∙ length-append ns rest.numbers in
        record {
          counted = omega (arith, x.counted, found);
          begun = omega arith;
          within = omega (arith, y.within, y.long);
          long = y.long ∙ x.long;
          lists = sym (y.puts rest.numbers) ∙ ap (λ (ms : List T). behind count ms list) (sym n) ∙ x.lists;
          counts = omega (arith, y.counts (length rest.numbers), x.counts, x.long, l);
          wrong = ap (λ (s : Said T). s.wrong) (sym o) ∙ x.wrong;
        }

-- ---- for who reads a file

within_by : {T : Type 0} (room n : ℕ) (y : Said T) (t : Bool) → eqb y.wrong 0 ≡ t → Ok n ≡ listing room y → n ≤ room
unfolding listing
within_by room n y true h e =
    let f : ◌≡◌ {A = Result ℕ WrongLine} (Ok n) (Ok (min (length y.numbers) room)) = rw h at e in
    let g : n ≡ min (length y.numbers) room = cc in
    omega arith
within_by room n y false h e =
    let f : ◌≡◌ {A = Result ℕ WrongLine} (Ok n) (Err (record { 0 = y.wrong })) = rw h at e in
    absurd cc

-- what is listed is within the list
pub listed_within : {T : Type 0} (room n : ℕ) (y : Said T) → Ok n ≡ listing room y → n ≤ room
listed_within room n y e = within_by room n y (eqb y.wrong 0) refl e
