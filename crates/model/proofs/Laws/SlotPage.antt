-- Laws of a slot page: its kind, what each kind says of the page, what writing a slot and marking it leave.
use Rattle.std.specs.Prelude.{ℕ, ◌+◌, ◌-◌, ◌/◌, ◌%◌, ◌≤◌, ◌<◌, ◌≡◌, ◌⊎◌, Bool, true, false, cond, ◌&&◌, List, [], ◌∷◌, ◌++◌, get_or, take, drop, leb, ltb, eqb}
use Rattle.std.proofs.Math.Path.{refl, ap, ap₂}
use Rattle.std.proofs.Common.{sym, ◌∙◌, inl, inr, append_assoc, arith, length-take, eqb-true, le-leb, leb-true, ltb-true}
use Rattle.std.proofs.Math.ListN.{length}
use Rattle.std.proofs.Math.Seq.{take-append_seam}
use Rattle.model.specs.Lists.{same}
use Rattle.model.specs.Chip.{Page, Bytes, Step, program, clear, erased, step, run}
use Rattle.model.specs.Header.{is_blank}
use Rattle.model.specs.Slot.{most_contents, number_ok, write_begun, written, slot_page, page_block, page_contents, slot_fits, Slot, empty, torn, dead, cut, wrong, live, slot_of}
use Rattle.model.specs.Steps.{programs, program_part, write_slot, mark_dead}
use Rattle.model.specs.Laws.Lists.{and_left, and_right}
use Rattle.model.proofs.Laws.Chip.{run_append}
use Rattle.model.proofs.Laws.Bytes.{clear_erased, bytes_take, bytes_drop, same_eq, same_refl, erased_suc, erased_add, blank_erased}
use Rattle.model.proofs.Laws.Pages.{InPage, in_append, in_part}
use Rattle.model.proofs.Laws.Programs.{programs_between}

-- a block number and contents that a slot can hold
pub record Valid (b : ℕ) (c : List ℕ) : Type 0 where
  pub number : number_ok b ≡ true
  pub short : length c ≤ most_contents
  pub bytes : Bytes c

pub number_below : (b : ℕ) → number_ok b ≡ true → b < 65535
unfolding number_ok
number_below b h = ltb-true b 65535 (and_right (ltb 0 b) (ltb b 65535) h)

-- ---- an encoded page

slot_block : (b : ℕ) (c : List ℕ) → page_block (slot_page b c) ≡ b
unfolding page_block slot_page
slot_block b c = omega arith

slot_contents : (b : ℕ) (c : List ℕ) → page_contents (slot_page b c) ≡ c
unfolding page_contents slot_page
slot_contents b c = take-append_seam c (erased (most_contents - length c))

slot_size : (b : ℕ) (c : List ℕ) → get_or (slot_page b c) 1 0 ≡ length c
unfolding slot_page
slot_size b c = refl

pub slot_status_lem : (b : ℕ) (c : List ℕ) → get_or (slot_page b c) 0 0 ≡ written
unfolding slot_page
slot_status_lem b c = refl

slot_fits_lem : (b : ℕ) (c : List ℕ) → number_ok b ≡ true → length c ≤ most_contents → slot_fits (slot_page b c) ≡ true
unfolding slot_fits
slot_fits_lem b c h k = rw (slot_block b c, slot_contents b c, slot_size b c, h, le-leb (length c) most_contents k) (same_refl (slot_page b c))

pub slot_live : (b : ℕ) (c : List ℕ) → number_ok b ≡ true → length c ≤ most_contents → slot_of (slot_page b c) ≡ live b c
unfolding slot_of
slot_live b c h k = rw (slot_status_lem b c, slot_fits_lem b c h k, slot_block b c, slot_contents b c)

pub erased_empty : slot_of (erased 256) ≡ empty
unfolding slot_of is_blank erased
erased_empty = refl

pub begun_torn : (p : Page) → get_or p 0 0 ≡ write_begun → slot_of p ≡ torn
unfolding slot_of
begun_torn p e = rw e

-- ---- what a kind says of the page

pub record LiveFacts (p : Page) (b : ℕ) (c : List ℕ) : Type 0 where
  pub number : number_ok b ≡ true
  pub short : length c ≤ most_contents
  pub page : p ≡ slot_page b c

abbrev pub KindFacts : Page → Slot → Type 0
KindFacts p empty = p ≡ erased (length p)
KindFacts p torn = get_or p 0 0 ≡ write_begun
KindFacts p dead = get_or p 0 0 ≡ 0x1F
KindFacts p cut = get_or p 0 0 ≡ 0x5F
KindFacts p wrong = Unit {0}
KindFacts p (live b c) = LiveFacts p b c

fits_facts : (p : Page) → slot_fits p ≡ true → LiveFacts p (page_block p) (page_contents p)
unfolding slot_fits page_contents
fits_facts p e =
    let a = leb (get_or p 1 0) most_contents in
    let b = number_ok (page_block p) in
    let q = slot_page (page_block p) (page_contents p) in
    let e1 = and_right a (b && same p q) e in
    record {
      number = and_left b (same p q) e1;
      short = omega (arith, length-take (get_or p 1 0) (drop 8 p), leb-true (get_or p 1 0) most_contents (and_left a (b && same p q) e));
      page = same_eq p q (and_right b (same p q) e1);
    }

module _ (p : Page) where
  abbrev st : ℕ
  st = get_or p 0 0

  if_blank : (t : Bool) → is_blank p ≡ t → KindFacts p (cond t empty wrong)
  if_blank true e = blank_erased p e
  if_blank false e = tt

  if_marked : (t u : Bool) → eqb st 0x1F ≡ t → eqb st 0x5F ≡ u → KindFacts p (cond t dead (cond u cut (cond (is_blank p) empty wrong)))
  if_marked true u e f = eqb-true st 0x1F e
  if_marked false true e f = eqb-true st 0x5F f
  if_marked false false e f = if_blank (is_blank p) refl

  if_begun : (t : Bool) → eqb st write_begun ≡ t → KindFacts p (cond t torn (cond (eqb st 0x1F) dead (cond (eqb st 0x5F) cut (cond (is_blank p) empty wrong))))
  if_begun true e = eqb-true st write_begun e
  if_begun false e = if_marked (eqb st 0x1F) (eqb st 0x5F) refl refl

  if_fits : (t : Bool) → slot_fits p ≡ t → KindFacts p (cond t (live (page_block p) (page_contents p)) wrong)
  if_fits true e = fits_facts p e
  if_fits false e = tt

  if_written : (t : Bool) → eqb st written ≡ t
      → KindFacts p (cond t (cond (slot_fits p) (live (page_block p) (page_contents p)) wrong) (cond (eqb st write_begun) torn (cond (eqb st 0x1F) dead (cond (eqb st 0x5F) cut (cond (is_blank p) empty wrong)))))
  if_written true e = if_fits (slot_fits p) refl
  if_written false e = if_begun (eqb st write_begun) refl

  pub kind_facts : KindFacts p (slot_of p)
  unfolding slot_of
  kind_facts = if_written (eqb st written) refl

pub live_facts : (p : Page) (b : ℕ) (c : List ℕ) → slot_of p ≡ live b c → LiveFacts p b c
live_facts p b c e = rw e at (kind_facts p)

pub torn_status : (p : Page) → slot_of p ≡ torn → get_or p 0 0 ≡ write_begun
torn_status p e = rw e at (kind_facts p)

pub empty_erased : (p : Page) → slot_of p ≡ empty → p ≡ erased (length p)
empty_erased p e = rw e at (kind_facts p)

pub live_status : (p : Page) (b : ℕ) (c : List ℕ) → slot_of p ≡ live b c → get_or p 0 0 ≡ written
live_status p b c e = ap (λ y. get_or y 0 0) (live_facts p b c e).page ∙ slot_status_lem b c

-- what a page of bytes holds can be copied
pub live_valid : (p : Page) (b : ℕ) (c : List ℕ) → slot_of p ≡ live b c → Bytes p → Valid b c
unfolding slot_page
live_valid p b c e v = let f = live_facts p b c e in
    record { number = f.number; short = f.short; bytes = rw (contents f.page) (bytes_take (length c) (drop 8 p) (bytes_drop 8 p v)) }
  where
    contents : p ≡ slot_page b c → c ≡ take (length c) (drop 8 p)
    contents g = sym (ap (λ y. take (length c) (drop 8 y)) g ∙ take-append_seam c (erased (most_contents - length c)))

-- ---- a slot marked

-- the status of a live or torn slot, and what the slot becomes
abbrev pub Markable : ℕ → Slot → Type 0
Markable st k = ((st ≡ written) × (k ≡ dead)) ⊎ ((st ≡ write_begun) × (k ≡ cut))

pub live_markable : (p : Page) (b : ℕ) (c : List ℕ) → slot_of p ≡ live b c → Markable (get_or p 0 0) dead
live_markable p b c e = inl (live_status p b c e, refl)

pub torn_markable : (p : Page) → slot_of p ≡ torn → Markable (get_or p 0 0) cut
torn_markable p e = inr (torn_status p e, refl)

pub clear_live : clear written 0xDF ≡ 0x1F
unfolding clear
clear_live = refl

pub clear_torn : clear write_begun 0xDF ≡ 0x5F
unfolding clear
clear_torn = refl

pub marked_kind : (B : ℕ) (p : Page) (k : Slot) → Markable (get_or p 0 0) k → slot_of (run B mark_dead p) ≡ k
unfolding slot_of mark_dead run step
marked_kind B [] k (inl (e, q)) = absurd (omega (arith, e))
marked_kind B [] k (inr (e, q)) = absurd (omega (arith, e))
marked_kind B (x ∷ p) k (inl (e, q)) = rw (e, clear_live, q)
marked_kind B (x ∷ p) k (inr (e, q)) = rw (e, clear_torn, q)

pub mark_in_page : InPage mark_dead
unfolding mark_dead
mark_in_page = (omega arith, tt)

-- ---- a slot written

pub write_in_page : (b : ℕ) (c : List ℕ) → length c ≤ most_contents → InPage (write_slot b c)
unfolding write_slot most_contents
write_in_page b c h = let p = slot_page b c in
    (omega arith, in_append (program_part p 1 3) _ (in_part p 1 3 (omega arith)) (in_append (program_part p 8 (length c)) _ (in_part p 8 (length c) (omega arith)) (omega arith, tt)))

-- the steps between the two of the status, and the page that they leave: finished but for its status
unfoldable pub write_middle : ℕ → List ℕ → List Step
write_middle b c = program_part (slot_page b c) 1 3 ++ program_part (slot_page b c) 8 (length c)

unfoldable pub begun_slot : ℕ → List ℕ → Page
begun_slot b c = write_begun ∷ length c ∷ b % 256 ∷ b / 256 ∷ 255 ∷ 255 ∷ 255 ∷ 255 ∷ (c ++ erased (most_contents - length c))

pub write_parts : (b : ℕ) (c : List ℕ) → write_slot b c ≡ program 0 write_begun ∷ (write_middle b c ++ (program 0 written ∷ []))
unfolding write_slot write_middle
write_parts b c = rw append_assoc

pub clear_written : clear write_begun written ≡ written
unfolding clear
clear_written = refl

first_step : (B : ℕ) → step B (program 0 write_begun) (erased 256) ≡ write_begun ∷ erased 255
unfolding step
first_step B = ap (λ y. step B (program 0 write_begun) y) (erased_suc 255) ∙ rw (clear_erased write_begun (omega arith))

front : (n : ℕ) → n ≤ most_contents → erased 255 ≡ 255 ∷ 255 ∷ 255 ∷ 255 ∷ 255 ∷ 255 ∷ 255 ∷ (erased n ++ erased (most_contents - n))
unfolding most_contents
front n h = let e : n + (248 - n) ≡ 248 = omega arith in rw (erased_add n (248 - n), e) (unfold erased in refl)

module _ (B b : ℕ) (c : List ℕ) (v : Valid b c) where
  fields_run : run B (program_part (slot_page b c) 1 3) (write_begun ∷ erased 255)
      ≡ write_begun ∷ length c ∷ b % 256 ∷ b / 256 ∷ 255 ∷ 255 ∷ 255 ∷ 255 ∷ (erased (length c) ++ erased (most_contents - length c))
  unfolding run step program_part programs slot_page
  fields_run =
      let l : length c ≤ 248 = unfold most_contents in v.short in
      ap (λ y. run B (program_part (slot_page b c) 1 3) (write_begun ∷ y)) (front (length c) v.short)
      ∙ rw (clear_erased (length c) (omega arith), clear_erased (b % 256) (omega arith), clear_erased (b / 256) (omega (arith, number_below b v.number)))

  contents_steps : program_part (slot_page b c) 8 (length c) ≡ programs 8 c
  unfolding program_part slot_page
  contents_steps = ap (λ y. programs 8 y) (take-append_seam c (erased (most_contents - length c)))

  middle_run : run B (write_middle b c) (write_begun ∷ erased 255) ≡ begun_slot b c
  unfolding write_middle begun_slot
  middle_run =
      run_append B (program_part (slot_page b c) 1 3) (program_part (slot_page b c) 8 (length c)) (write_begun ∷ erased 255)
      ∙ ap₂ (λ xs y. run B xs y) contents_steps fields_run
      ∙ programs_between B 8 (write_begun ∷ length c ∷ b % 256 ∷ b / 256 ∷ 255 ∷ 255 ∷ 255 ∷ 255 ∷ []) c (erased (most_contents - length c)) refl v.bytes

  last_step : step B (program 0 written) (begun_slot b c) ≡ slot_page b c
  unfolding step begun_slot slot_page
  last_step = rw clear_written

  pub write_run : run B (write_slot b c) (erased 256) ≡ slot_page b c
  unfolding run
  write_run =
      ap (λ y. run B y (erased 256)) (write_parts b c)
      ∙ ap (λ y. run B (write_middle b c ++ (program 0 written ∷ [])) y) (first_step B)
      ∙ run_append B (write_middle b c) (program 0 written ∷ []) (write_begun ∷ erased 255)
      ∙ ap (λ y. step B (program 0 written) y) middle_run
      ∙ last_step
