-- Laws of a header page: its fields are what it encodes, and the other way round; what keeps it from being in use; what its steps leave of an erased page.
use Rattle.std.specs.Prelude.{ℕ, suc, ◌+◌, ◌-◌, ◌/◌, ◌%◌, ◌≤◌, ◌<◌, ◌≡◌, refl, Bool, true, false, cond, ◌&&◌, List, [], ◌∷◌, ◌++◌, get_or, ltb, eqb}
use Rattle.std.proofs.Common.{sym, ◌∙◌, append_assoc, arith, mod-lt, eq-eqb, ne_eqb, eqb-true, lt-ltb, ltb-true}
use Rattle.std.proofs.Math.Path.{ap}
use Rattle.std.proofs.Math.Nat.{mod-eq_of_lt, mod-add-mod, add-mod_right}
use Rattle.model.specs.Lists.{same}
use Rattle.model.specs.Chip.{Page, Step, program, erased, clear, step, run, most_segments, erase_limit, number_limit}
use Rattle.model.specs.Header.{number_bytes, inverted, value, opening_begun, opened, compaction_begun, erase_pending, compacted, Version, version1, version2, new_version, version_number, total_fits, tally_bytes, no_old_segment, status_in_use, header_page, header_status, header_number, header_version, old_index, header_in_use}
use Rattle.model.specs.Slot.{Entry}
use Rattle.model.specs.Steps.{programs, program_part, on_page, header_at, open_segment, copy_entries, copy_out, settle}
use Rattle.model.specs.Laws.Lists.{and_left, and_right}
use Rattle.model.proofs.Laws.Bytes.{clear_byte, number_value, same_eq, same_refl, erased_get}
use Rattle.model.proofs.Laws.Pages.{InPage, in_append, in_part}

-- ---- the fields of an encoded page

pub header_status_lem : (N B : ℕ) (ver : Version) (st n old : ℕ) → header_status (header_page N B ver st n old) ≡ st
unfolding header_status header_page
header_status_lem N B ver st n old = refl

pub header_number_lem : (N B : ℕ) (ver : Version) (st n old : ℕ) → n < 4294967296 → header_number (header_page N B ver st n old) ≡ n
unfolding header_number header_page number_bytes
header_number_lem N B ver st n old h = number_value n h

pub header_version_lem : (N B : ℕ) (ver : Version) (st n old : ℕ) → total_fits ver ≡ true → header_version (header_page N B ver st n old) ≡ ver
unfolding header_version header_page number_bytes inverted version_number tally_bytes total_fits erased
header_version_lem N B version1 st n old h = refl
header_version_lem N B (version2 total bits) st n old h = ap (λ (y : ℕ). version2 y bits) (number_value total (let b = ltb-true total erase_limit h in omega arith))

-- a new header's total
pub new_fits : (t : ℕ) → t < erase_limit → total_fits (new_version t) ≡ true
unfolding total_fits new_version
new_fits t h = lt-ltb t erase_limit h

-- numbers below the limit fit in four bytes
pub number_fits : (N n : ℕ) → N ≤ most_segments → n < number_limit N → n < 4294967296
unfolding number_limit
number_fits N n h k = omega arith

-- ---- in use

pub header_in_use_lem : (N B : ℕ) (ver : Version) (st n : ℕ) → N ≤ most_segments → status_in_use st ≡ true → total_fits ver ≡ true → n < number_limit N
    → header_in_use N B (n % N) (header_page N B ver st n (old_index N (n % N) st)) ≡ true
unfolding header_in_use
header_in_use_lem N B ver st n h_n hs ht hn =
    let old = old_index N (n % N) st in
    let h = header_page N B ver st n old in
    rw (header_version_lem N B ver st n old ht, header_status_lem N B ver st n old, header_number_lem N B ver st n old (number_fits N n h_n hn), hs, ht, lt-ltb n (number_limit N) hn, eq-eqb (n % N) (n % N) refl)
    (same_refl h)

-- the old segment of number o, when all but one are in use: its index comes after the target's
pub old_index_lem : (N o n : ℕ) → suc n ≡ o + N → (n % N + 1) % N ≡ o % N
old_index_lem N o n e = let q : n + 1 ≡ o + N = omega arith in mod-add-mod n N 1 ∙ (ap (λ (y : ℕ). y % N) q ∙ add-mod_right o N)

-- byte 16 stays free to mean none: it is 255 in an opened segment only, whatever the index
pub none_opened : (N i st : ℕ) → 0 < N → N ≤ most_segments → eqb (old_index N i st) no_old_segment ≡ eqb st opened
unfolding old_index
none_opened N i st p h = go (eqb st opened)
  where
    go : (t : Bool) → eqb (cond t no_old_segment ((i + 1) % N)) no_old_segment ≡ t
    go true = refl
    go false = ne_eqb ((i + 1) % N) no_old_segment (λ e. omega (arith, mod-lt (i + 1) p))

pub record InUseFacts (N B i : ℕ) (h : Page) : Type 0 where
  pub status : status_in_use (header_status h) ≡ true
  pub fits : total_fits (header_version h) ≡ true
  pub below : header_number h < number_limit N
  pub place : header_number h % N ≡ i
  pub page : h ≡ header_page N B (header_version h) (header_status h) (header_number h) (old_index N i (header_status h))

pub in_use_facts : (N B i : ℕ) (h : Page) → header_in_use N B i h ≡ true → InUseFacts N B i h
unfolding header_in_use
in_use_facts N B i h e =
    let a = status_in_use (header_status h) in
    let t = total_fits (header_version h) in
    let b = ltb (header_number h) (number_limit N) in
    let c = eqb (header_number h % N) i in
    let p = header_page N B (header_version h) (header_status h) (header_number h) (old_index N i (header_status h)) in
    let e0 = and_right a (t && (b && (c && same h p))) e in
    let e1 = and_right t (b && (c && same h p)) e0 in
    let e2 = and_right b (c && same h p) e1 in
    record {
      status = and_left a (t && (b && (c && same h p))) e;
      fits = and_left t (b && (c && same h p)) e0;
      below = ltb-true (header_number h) (number_limit N) (and_left b (c && same h p) e1);
      place = eqb-true (header_number h % N) i (and_left c (same h p) e2);
      page = same_eq h p (and_right c (same h p) e2);
    }

-- ---- not in use

bit_6_status : (st : ℕ) → st / 64 % 2 ≡ 1 → status_in_use st ≡ false
unfolding status_in_use
bit_6_status st e = rw (ne_eqb st opened (λ q. omega arith), ne_eqb st erase_pending (λ q. omega arith), ne_eqb st compacted (λ q. omega arith))

-- bit 6 of the status is set until the header is finished
pub bit_6_unused : (N B i : ℕ) (h : Page) → get_or h 5 0 / 64 % 2 ≡ 1 → header_in_use N B i h ≡ false
unfolding header_in_use header_status
bit_6_unused N B i h e = rw (bit_6_status (get_or h 5 0) e)

pub erased_bit_6 : get_or (erased 256) 5 0 / 64 % 2 ≡ 1
erased_bit_6 = rw (erased_get 256 5 (omega arith))

pub erased_unused : (N B i : ℕ) → header_in_use N B i (erased 256) ≡ false
erased_unused N B i = bit_6_unused N B i (erased 256) erased_bit_6

-- ---- the inverted copy

digit : (x y p q : ℕ) → x < 256 → y < 256 → p ≡ x → q ≡ 255 - x → y ≤ p → 255 - y ≤ q → x ≡ y
digit x y p q hx hy c d a b = omega arith

same_number : (x y : ℕ) → x < 4294967296 → y < 4294967296 → x % 256 ≡ y % 256 → x / 256 % 256 ≡ y / 256 % 256 → x / 256 / 256 % 256 ≡ y / 256 / 256 % 256
    → x / 256 / 256 / 256 % 256 ≡ y / 256 / 256 / 256 % 256 → x ≡ y
unfolding number_bytes
same_number x y hx hy p q r t =
    let e : number_bytes x ≡ number_bytes y = rw (p, q, r, t) in
    sym (number_value x hx) ∙ (ap value e ∙ number_value y hy)

-- if no bit of a number and its inverted copy was cleared, and the header is in use, it has that number
pub number_raised : (N B i : ℕ) (h : Page) (n : ℕ) → N ≤ most_segments → n < 4294967296 → header_in_use N B i h ≡ true
    → ((k : ℕ) → k < 8 → get_or (number_bytes n ++ inverted (number_bytes n)) k 0 ≤ get_or h (8 + k) 0) → header_number h ≡ n
unfolding header_page number_bytes inverted
number_raised N B i h n h_n hn u low =
    let f = in_use_facts N B i h u in
    same_number (header_number h) n (number_fits N (header_number h) h_n f.below) hn
    (digit _ (n % 256) (get_or h 8 0) (get_or h 12 0) (omega arith) (omega arith) (get 8) (get 12) (low 0 (omega arith)) (low 4 (omega arith)))
    (digit _ (n / 256 % 256) (get_or h 9 0) (get_or h 13 0) (omega arith) (omega arith) (get 9) (get 13) (low 1 (omega arith)) (low 5 (omega arith)))
    (digit _ (n / 256 / 256 % 256) (get_or h 10 0) (get_or h 14 0) (omega arith) (omega arith) (get 10) (get 14) (low 2 (omega arith)) (low 6 (omega arith)))
    (digit _ (n / 256 / 256 / 256 % 256) (get_or h 11 0) (get_or h 15 0) (omega arith) (omega arith) (get 11) (get 15) (low 3 (omega arith)) (low 7 (omega arith)))
  where
    get : (k : ℕ) → get_or h k 0 ≡ get_or (header_page N B (header_version h) (header_status h) (header_number h) (old_index N i (header_status h))) k 0
    get k = ap (λ y. get_or y k 0) (in_use_facts N B i h u).page

-- ---- the steps within a header page

unfoldable pub opening_header : ℕ → ℕ → Version → ℕ → List Step
opening_header N B ver n = let h = header_page N B ver opened n no_old_segment in
    program 5 opening_begun ∷ (program_part h 0 5 ++ (program_part h 6 2 ++ (program_part h 17 4 ++ (program_part h 8 8 ++ (program 5 opened ∷ [])))))

-- a compaction's header, before the slots are copied and after; old is the index of the old segment
unfoldable pub compaction_header : ℕ → ℕ → Version → ℕ → ℕ → List Step
compaction_header N B ver n old = let h = header_page N B ver erase_pending n old in
    program 5 compaction_begun ∷ (program_part h 0 5 ++ (program_part h 6 2 ++ program_part h 16 1))

unfoldable pub pending_header : ℕ → ℕ → Version → ℕ → ℕ → List Step
pending_header N B ver n old = let h = header_page N B ver erase_pending n old in program_part h 17 4 ++ (program_part h 8 8 ++ (program 5 erase_pending ∷ []))

-- that without the owing mark, which comes last
unfoldable pub number_header : ℕ → ℕ → Version → ℕ → ℕ → List Step
number_header N B ver n old = let h = header_page N B ver erase_pending n old in program_part h 17 4 ++ program_part h 8 8

unfoldable pub settled_header : List Step
settled_header = program 5 compacted ∷ []

pub open_segment_page : (N B : ℕ) (ver : Version) (n : ℕ) → open_segment N B ver n ≡ on_page (header_at N B n) (opening_header N B ver n)
unfolding open_segment opening_header
open_segment_page N B ver n = refl

pub copy_out_pages : (N B : ℕ) (ver : Version) (o n : ℕ) (es : List Entry)
    → copy_out N B ver o n es ≡ on_page (header_at N B n) (compaction_header N B ver n (o % N)) ++ (copy_entries N B n 0 es ++ on_page (header_at N B n) (pending_header N B ver n (o % N)))
unfolding copy_out compaction_header pending_header
copy_out_pages N B ver o n es = refl

pub pending_parts : (N B : ℕ) (ver : Version) (n old : ℕ) → pending_header N B ver n old ≡ number_header N B ver n old ++ (program 5 erase_pending ∷ [])
unfolding pending_header number_header
pending_parts N B ver n old = simp append_assoc

pub settle_page : (N B n : ℕ) → settle N B n ≡ on_page (header_at N B n) settled_header
unfolding settle settled_header
settle_page N B n = refl

pub opening_in_page : (N B : ℕ) (ver : Version) (n : ℕ) → InPage (opening_header N B ver n)
unfolding opening_header
opening_in_page N B ver n = let h = header_page N B ver opened n no_old_segment in (
  omega arith,
  in_append (program_part h 0 5) _ (in_part h 0 5 (omega arith)) (in_append (program_part h 6 2) _ (in_part h 6 2 (omega arith))
      (in_append (program_part h 17 4) _ (in_part h 17 4 (omega arith)) (in_append (program_part h 8 8) _ (in_part h 8 8 (omega arith)) (omega arith, tt)))),
)

pub compaction_in_page : (N B : ℕ) (ver : Version) (n old : ℕ) → InPage (compaction_header N B ver n old)
unfolding compaction_header
compaction_in_page N B ver n old = let h = header_page N B ver erase_pending n old in
    (omega arith, in_append (program_part h 0 5) _ (in_part h 0 5 (omega arith)) (in_append (program_part h 6 2) _ (in_part h 6 2 (omega arith)) (in_part h 16 1 (omega arith))))

pub number_in_page : (N B : ℕ) (ver : Version) (n old : ℕ) → InPage (number_header N B ver n old)
unfolding number_header
number_in_page N B ver n old = let h = header_page N B ver erase_pending n old in in_append (program_part h 17 4) _ (in_part h 17 4 (omega arith)) (in_part h 8 8 (omega arith))

pub pending_in_page : (N B : ℕ) (ver : Version) (n old : ℕ) → InPage (pending_header N B ver n old)
pending_in_page N B ver n old = rw (pending_parts N B ver n old) (in_append (number_header N B ver n old) _ (number_in_page N B ver n old) (omega arith, tt))

pub settled_in_page : InPage settled_header
unfolding settled_header
settled_in_page = (omega arith, tt)

-- ---- what they leave

-- the page of a target while slots are copied
unfoldable pub begun_page : ℕ → ℕ → ℕ → Page
begun_page N B old = 0x53 ∷ 0x4C ∷ 0x54 ∷ 2 ∷ 0 ∷ compaction_begun ∷ B ∷ N ∷ 255 ∷ 255 ∷ 255 ∷ 255 ∷ 255 ∷ 255 ∷ 255 ∷ 255 ∷ old ∷ 255 ∷ 255 ∷ 255 ∷ 255 ∷ (erased 11 ++ erased 224)

front : erased 256
    ≡ 255 ∷ 255 ∷ 255 ∷ 255 ∷ 255 ∷ 255 ∷ 255 ∷ 255 ∷ 255 ∷ 255 ∷ 255 ∷ 255 ∷ 255 ∷ 255 ∷ 255 ∷ 255 ∷ 255 ∷ 255 ∷ 255 ∷ 255 ∷ 255 ∷ (erased 11 ++ erased 224)
unfolding erased
front = refl

pub clear_begun : clear opening_begun opened ≡ opened
unfolding clear
clear_begun = refl

pub clear_compaction : clear compaction_begun erase_pending ≡ erase_pending
unfolding clear
clear_compaction = refl

pub clear_pending : clear erase_pending compacted ≡ compacted
unfolding clear
clear_pending = refl

digit_byte : (x : ℕ) → x % 256 % 256 ≡ x % 256
digit_byte x = omega arith

inverted_byte : (x : ℕ) → (255 - x) % 256 ≡ 255 - x
inverted_byte x = omega arith

-- of a new header, with any total

pub pending_run : (N B t n old : ℕ) → run B (pending_header N B (new_version t) n old) (begun_page N B old) ≡ header_page N B (new_version t) erase_pending n old
unfolding pending_header begun_page run step program_part programs header_page number_bytes inverted new_version version_number tally_bytes
pending_run N B t n old = simp (clear_byte, digit_byte, inverted_byte, clear_compaction)

module _ (N B t n : ℕ) (h_n : N < 256) (h_b : B < 256) where
  pub opening_run : run B (opening_header N B (new_version t) n) (erased 256) ≡ header_page N B (new_version t) opened n no_old_segment
  unfolding opening_header run step program_part programs header_page number_bytes inverted new_version version_number tally_bytes
  opening_run =
      let e_n : N % 256 ≡ N = mod-eq_of_lt h_n in
      let e_b : B % 256 ≡ B = mod-eq_of_lt h_b in
      ap (λ y. run B (opening_header N B (new_version t) n) y) front ∙ simp (clear_byte, digit_byte, inverted_byte, e_n, e_b, clear_begun)

  module _ (old : ℕ) (ho : old < 256) where
    pub compaction_run : run B (compaction_header N B (new_version t) n old) (erased 256) ≡ begun_page N B old
    unfolding compaction_header begun_page run step program_part programs header_page number_bytes inverted new_version version_number tally_bytes
    compaction_run =
        let e_n : N % 256 ≡ N = mod-eq_of_lt h_n in
        let e_b : B % 256 ≡ B = mod-eq_of_lt h_b in
        let eo : old % 256 ≡ old = mod-eq_of_lt ho in
        ap (λ y. run B (compaction_header N B (new_version t) n old) y) front ∙ simp (clear_byte, e_n, e_b, eo)

pub settled_run : (N B : ℕ) (ver : Version) (n old : ℕ) → run B settled_header (header_page N B ver erase_pending n old) ≡ header_page N B ver compacted n old
unfolding settled_header run step header_page
settled_run N B ver n old = rw clear_pending
