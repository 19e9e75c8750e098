-- What copying entries to a blank segment makes of it: in use and owing, with those entries in its first slots.
use Prim.Native.Nat.{ℕ, zero, suc, ◌+◌, ◌-◌, ◌*◌, ◌%◌, ◌≤◌, ◌<◌}
use Rattle.std.specs.Prelude.{◌≡◌, length, drop, replicate}
use Rattle.std.proofs.Math.Path.{refl, ap}
use Rattle.std.proofs.Common.{sym, ap₂, ◌∙◌, arith, mod-lt, length-set, get_or-set_same, get_or-set_other}
use mathlib.Core.List.{List, [], ◌∷◌, ◌++◌, map}
use Rattle.std.proofs.Math.ListN.{get_or, set}
use Rattle.std.proofs.Math.Seq.{sets, length-sets}
use Rattle.model.specs.Chip.{Image, Page, Step, erased, run, most_segments, erase_limit, number_limit, image_length}
use Rattle.model.specs.Header.{erase_pending, Version, new_version, header_page, old_index}
use Rattle.model.specs.Slot.{Slot, empty, slot_page, slot_of, Entry, holding}
use Rattle.model.specs.State.{Segment, blank, in_use, segment_of, segments_of}
use Rattle.model.specs.Steps.{on_page, header_at, slot_at, write_slot, copy_entries, copy_out, copied}
use Rattle.model.proofs.Laws.Chip.{run_append, run_length}
use Rattle.model.proofs.Laws.HeaderPage.{new_fits, compaction_header, pending_header, copy_out_pages, compaction_in_page, pending_in_page, begun_page, compaction_run, pending_run}
use Rattle.model.proofs.Laws.SlotPage.{Valid, slot_live, write_in_page, write_run}
use Rattle.model.proofs.Laws.Segments.{part_of, part_size, Only, only_trans, only_segments, only_run, page_in_segment, InSegment, in_segment_append, part_run}
use Rattle.model.proofs.Laws.Effects.{blank_page, blank_slots, headed, header_run, pending_status, pending_old, few}

abbrev pub Valids : List Entry → Type 0
Valids [] = Unit {0}
Valids (e ∷ es) = Valid e.block e.contents × Valids es

unfoldable pub entry_pages : List Entry → List Page
entry_pages [] = []
entry_pages (e ∷ es) = slot_page e.block e.contents ∷ entry_pages es

-- ---- lists with several places set

sets_cons : {A : Type 0} (x : A) (l : List A) (i : ℕ) (vs : List A) → sets (x ∷ l) (suc i) vs ≡ x ∷ sets l i vs
sets_cons x l i [] = refl
sets_cons x l i (v ∷ vs) = sets_cons x (set l i v) (suc i) vs

sets_first : {A : Type 0} (l : List A) (i : ℕ) (vs : List A) (d : A) → get_or (sets l (suc i) vs) 0 d ≡ get_or l 0 d
sets_first [] i vs d = nothing vs i
  where
    nothing : (ws : List _) (k : ℕ) → get_or (sets [] (suc k) ws) 0 d ≡ d
    nothing [] k = refl
    nothing (w ∷ ws) k = nothing ws (suc k)
sets_first (x ∷ l) i vs d = ap (λ y. get_or y 0 d) (sets_cons x l i vs)

entry_slots : (es : List Entry) (qs : List Page) (c : ℕ) → Valids es → map slot_of qs ≡ replicate c empty → length es ≤ c → map slot_of (sets qs 0 (entry_pages es)) ≡ copied c es
unfolding entry_pages copied holding
entry_slots [] qs c v e h = let z : c - 0 ≡ c = omega arith in rw z e
entry_slots (x ∷ es) [] zero v e h = absurd (omega arith)
entry_slots (x ∷ es) [] (suc c) v e h = cc
entry_slots (x ∷ es) (q ∷ qs) zero v e h = absurd (omega arith)
entry_slots (x ∷ es) (q ∷ qs) (suc c) v e h =
    let d : suc c - suc (length es) ≡ c - length es = omega arith in
    let r : map slot_of qs ≡ replicate c empty = ap (λ (y : List Slot). drop 1 y) e in
    rw d (ap (λ y. map slot_of y) (sets_cons (slot_page x.block x.contents) qs 0 (entry_pages es))
    ∙ ap₂ {C = List Slot} (λ a b. a ∷ b) (slot_live x.block x.contents v.0.number v.0.short) (entry_slots es qs c v.1 r (omega arith)))

-- ---- the copying

module _ (N B : ℕ) (two : 2 ≤ N) (n : ℕ) where
  target : n % N < N
  target = let p : 0 < N = omega arith in mod-lt n p

  pub copy_in_segment : (es : List Entry) (j : ℕ) → Valids es → j + length es ≤ B → InSegment B (n % N) (copy_entries N B n j es)
  unfolding copy_entries slot_at
  copy_in_segment [] j v h = tt
  copy_in_segment (e ∷ es) j v h = in_segment_append B (n % N) (on_page (n % N * (B + 1) + suc j) (write_slot e.block e.contents)) (copy_entries N B n (suc j) es)
      (page_in_segment B (n % N) (suc j) (write_slot e.block e.contents) (omega arith) (write_in_page e.block e.contents v.0.short))
      (copy_in_segment es (suc j) v.1 (omega arith))

  pub copy_run : (es : List Entry) (j : ℕ) (s : Image) → length s ≡ image_length N B → Valids es → j + length es ≤ B
      → ((q : ℕ) → j < q → q < suc (j + length es) → get_or (part_of N B (n % N) s) q [] ≡ erased 256)
      → part_of N B (n % N) (run B (copy_entries N B n j es) s) ≡ sets (part_of N B (n % N) s) (suc j) (entry_pages es)
  unfolding copy_entries entry_pages run slot_at
  copy_run [] j s z v h e = refl
  copy_run (x ∷ es) j s z v h e =
      let i = n % N in
      let xs = on_page (i * (B + 1) + suc j) (write_slot x.block x.contents) in
      let t = run B xs s in
      let page = slot_page x.block x.contents in
      let here : part_of N B i t ≡ set (part_of N B i s) (suc j) page =
      part_run N B i (suc j) target (omega arith) (write_slot x.block x.contents) (write_in_page x.block x.contents v.0.short) s z
      ∙ ap (λ (y : Page). set (part_of N B i s) (suc j) y)
      (ap (λ (y : Page). run B (write_slot x.block x.contents) y) (e (suc j) (omega arith) (omega arith)) ∙ write_run B x.block x.contents v.0) in
      ap (λ y. part_of N B i y) (run_append B xs (copy_entries N B n (suc j) es) s)
      ∙ (copy_run es (suc j) t (run_length B xs s ∙ z) v.1 (omega arith)
      (λ q lo hi. ap (λ (y : List Page). get_or y q []) here ∙ (get_or-set_other (part_of N B i s) (suc j) q page [] (λ w. omega arith) ∙ e q (omega arith) (omega arith)))
      ∙ ap (λ (y : List Page). sets y (suc (suc j)) (entry_pages es)) here)

module _ (N B : ℕ) (two : 2 ≤ N) (most : N ≤ most_segments) (most_b : B < 256) (s : Image) (z : length s ≡ image_length N B) (t o n : ℕ) (total : t < erase_limit) (below : n < number_limit N)
    (ring : o % N ≡ (n % N + 1) % N) (es : List Entry) (valid : Valids es) (fit : length es ≤ B) (free : get_or (segments_of N B s) (n % N) blank ≡ blank) where
  abbrev i : ℕ
  i = n % N

  abbrev ver : Version
  ver = new_version t

  abbrev ps : List Page
  ps = part_of N B i s

  old_byte : o % N < 256
  old_byte = let p : 0 < N = omega arith in let q = mod-lt o p in omega (arith, few N B two most most_b s z n below)

  abbrev begin : List Step
  begin = on_page (header_at N B n) (compaction_header N B ver n (o % N))

  abbrev s1 : Image
  s1 = run B begin s

  z1 : length s1 ≡ image_length N B
  z1 = run_length B begin s ∙ z

  -- the header begun
  pub begun : (Only N B i s s1) × (part_of N B i s1 ≡ set ps 0 (begun_page N B (o % N)))
  begun =
      let r = header_run N B two most most_b s z n below (compaction_header N B ver n (o % N)) (compaction_in_page N B ver n (o % N)) in (
        r.0,
        r.1 ∙ ap (λ (y : Page). set ps 0 y) (ap (λ (y : Page). run B (compaction_header N B ver n (o % N)) y) (blank_page N B two s z i 0 (target N B two n) (omega arith) free)
            ∙ compaction_run N B t n (few N B two most most_b s z n below) most_b (o % N) old_byte),
      )

  abbrev copying : List Step
  copying = copy_entries N B n 0 es

  abbrev s2 : Image
  s2 = run B copying s1

  z2 : length s2 ≡ image_length N B
  z2 = run_length B copying s1 ∙ z1

  copied_pages : (Only N B i s1 s2) × (part_of N B i s2 ≡ sets (set ps 0 (begun_page N B (o % N))) 1 (entry_pages es))
  copied_pages = (
    only_run N B i copying s1 (target N B two n) (copy_in_segment N B two n es 0 valid (omega arith)),
    copy_run N B two n es 0 s1 z1 valid (omega arith) (λ q lo hi. ap (λ (y : List Page). get_or y q []) begun.1
        ∙ (get_or-set_other ps 0 q (begun_page N B (o % N)) [] (λ w. omega arith) ∙ blank_page N B two s z i q (target N B two n) (omega arith) free))
        ∙ ap (λ (y : List Page). sets y 1 (entry_pages es)) begun.1,
  )

  abbrev pages2 : List Page
  pages2 = sets (set ps 0 (begun_page N B (o % N))) 1 (entry_pages es)

  head2 : get_or pages2 0 [] ≡ begun_page N B (o % N)
  head2 = sets_first (set ps 0 (begun_page N B (o % N))) 0 (entry_pages es) [] ∙ get_or-set_same ps 0 (begun_page N B (o % N)) [] (omega (arith, part_size N B i s (target N B two n)))

  slots2 : map slot_of (drop 1 pages2) ≡ copied B es
  slots2 = go ps (blank_slots N B two s z i (target N B two n) free) (omega (arith, part_size N B i s (target N B two n)))
    where
      go : (qs : List Page) → map slot_of (drop 1 qs) ≡ replicate B empty → 0 < length qs → map slot_of (drop 1 (sets (set qs 0 (begun_page N B (o % N))) 1 (entry_pages es))) ≡ copied B es
      go [] e l = absurd (omega arith)
      go (q ∷ qs) e l = ap (λ (y : List Page). map slot_of (drop 1 y)) (sets_cons (begun_page N B (o % N)) qs 0 (entry_pages es)) ∙ entry_slots es qs B valid e fit

  abbrev finish : List Step
  finish = on_page (header_at N B n) (pending_header N B ver n (o % N))

  abbrev s3 : Image
  s3 = run B finish s2

  finished : (Only N B i s2 s3) × (part_of N B i s3 ≡ set pages2 0 (header_page N B ver erase_pending n (old_index N i erase_pending)))
  finished =
      let r = header_run N B two most most_b s2 z2 n below (pending_header N B ver n (o % N)) (pending_in_page N B ver n (o % N)) in (
        r.0,
        r.1 ∙ ap (λ (y : List Page). set y 0 (run B (pending_header N B ver n (o % N)) (get_or y 0 []))) copied_pages.1
            ∙ ap (λ (y : Page). set pages2 0 y) (ap (λ (y : Page). run B (pending_header N B ver n (o % N)) y) head2 ∙ (pending_run N B t n (o % N)
            ∙ ap (λ (y : ℕ). header_page N B ver erase_pending n y) (ring ∙ sym (pending_old N i)))),
      )

  the_run : run B (copy_out N B (new_version t) o n es) s ≡ s3
  the_run = ap (λ (y : List Step). run B y s) (copy_out_pages N B ver o n es) ∙ (run_append B begin (copying ++ finish) s ∙ run_append B copying finish s1)

  pub copy_out_effect : segments_of N B (run B (copy_out N B (new_version t) o n es) s) ≡ set (segments_of N B s) (n % N) (in_use (new_version t) erase_pending n (copied B es))
  copy_out_effect =
      ap (λ y. segments_of N B y) the_run
      ∙ (only_segments N B i s s3 (only_trans N B i s s2 s3 (only_trans N B i s s1 s2 begun.0 copied_pages.0) finished.0)
      ∙ ap (λ (y : Segment). set (segments_of N B s) i y) (ap (λ y. segment_of N B i y) finished.1
      ∙ (headed N B ver erase_pending n pages2 most pending_status (new_fits t total) below
      (omega (arith, length-sets (set ps 0 (begun_page N B (o % N))) 1 (entry_pages es), length-set ps 0 (begun_page N B (o % N)), part_size N B i s (target N B two n)))
      ∙ ap (λ y. in_use ver erase_pending n y) slots2)))
