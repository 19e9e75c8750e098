-- Cuts of an opening, and of a compaction up to the owing mark and beyond: the image is sound, with the old table.
use Prim.Native.Nat.{ℕ, suc, ◌+◌, ◌-◌, ◌*◌, ◌%◌, ◌≤◌, ◌<◌}
use Rattle.std.specs.Prelude.{◌≡◌, refl, ◌⊎◌, true, false, List, [], ◌∷◌, ◌++◌, length, set}
use Rattle.std.proofs.Math.Path.{sym, ap}
use Rattle.std.proofs.Common.{◌∙◌, get_or-set_same, get_or-set_other}
use Rattle.std.proofs.Math.Logic.{inl, inr, ⊎_elim}
use native.Mathlib.Omega.{arith}
use Rattle.std.proofs.Math.Nat.{add-mod_right}
use Rattle.std.proofs.Math.ListN.{get_or}
use Rattle.model.specs.Chip.{Image, Page, Step, program, erase, right_size, run, number_limit, image_length, erased, Cut}
use Rattle.model.specs.Header.{compaction_begun, erase_pending, new_version, is_former, tally_of}
use Rattle.model.specs.Slot.{Entry}
use Rattle.model.specs.State.{segment_of, segments_of, View, entries}
use Rattle.model.specs.Steps.{top_number, has_room, on_page, header_at, slot_at, write_slot, copy_entries, copy_out, compact, settle, next_version, open_next, compact_oldest}
use Rattle.model.proofs.Laws.Chip.{run_append, run_length, run_size, cut_append, cut_size, whole_cut, SizeFacts, size_facts}
use Rattle.model.proofs.Laws.Pages.{InPage}
use Rattle.model.proofs.Laws.HeaderPage.{opening_header, compaction_header, number_header, open_segment_page, opening_in_page, compaction_in_page, number_in_page, begun_page, opening_run}
use Rattle.model.proofs.Laws.SlotPage.{write_in_page}
use Rattle.model.proofs.Laws.PageCuts.{opening_cut, compaction_cut, begun_bit_6, number_cut}
use Rattle.model.proofs.Laws.Segments.{part_of, part_size, Only, only_segments, only_trans, only_cut, part_run, part_cut}
use Rattle.model.proofs.Laws.Effects.{index, blank_page, header_only, header_run, few}
use Rattle.model.proofs.Laws.CopyOut.{Valids, copy_in_segment, begun}
use Rattle.model.specs.Begun.{marks_in, CutBegun}
use Rattle.model.proofs.Laws.Begun.{cut_begun, begun_cut, Behind, begun_append, begun_unmarked}
use Rattle.model.proofs.Laws.Marks.{numbered, owing_mark, copy_out_marks, numbered_unmarked, mark_begun}
use Rattle.bridge.specs.Predicted.{CleanView, Carries}
use Rattle.bridge.specs.Views.Shape.{opened_entries}
use Rattle.bridge.specs.Views.Room.{opened_clean}
use Rattle.bridge.specs.Held.{Held}
use Rattle.bridge.specs.Done.{next_free, open_held, ring_closed, old_after, copied_segments}
use Rattle.crash.proofs.States.{ShowsOf, with_shows, kept_with}
use Rattle.crash.specs.RecoverCount.{header_byte_lem}
use Rattle.crash.proofs.OwingCuts.{rest_cut}
use Rattle.crash.proofs.RoomTorn.{BitSix, held_shows, next_torn}
use Rattle.crash.proofs.RoomOwing.{Full, old_valid, old_fits, compacted_shows, Owing, owing_left}

-- ---- steps in a header page

same_part : (N B i : ℕ) (s u w : Image) → Only N B i s u → Only N B i s w → part_of N B i u ≡ part_of N B i w → segments_of N B u ≡ segments_of N B w
same_part N B i s u w o p e = only_segments N B i s u o ∙ (ap (λ y. set (segments_of N B s) i (segment_of N B i y)) e ∙ sym (only_segments N B i s w p))

module _ (N B : ℕ) (s : Image) (d : SizeFacts N B s) (n : ℕ) (below : n < number_limit N) (xs : List Step) (p : InPage xs) (u : Image) (c : Cut B (on_page (header_at N B n) xs) s u) where
  pub header_touched : Only N B (n % N) s u
  header_touched = header_only N B d.two d.most d.most_b s d.whole n below xs p u c

  header_part : (x : Page) × Cut B xs (get_or (part_of N B (n % N) s) 0 []) x × (part_of N B (n % N) u ≡ set (part_of N B (n % N) s) 0 x)
  header_part =
      let e : header_at N B n ≡ n % N * (B + 1) + 0 = (unfold header_at in (omega arith)) in
      part_cut N B (n % N) 0 (index N B d.two s d.whole n) (omega arith) xs p s d.whole u (rw e at c)

  header_page_lem : get_or (part_of N B (n % N) u) 0 [] ≡ header_part.0
  header_page_lem = ap (λ (y : List Page). get_or y 0 []) header_part.2
      ∙ get_or-set_same (part_of N B (n % N) s) 0 header_part.0 [] (omega (arith, part_size N B (n % N) s (index N B d.two s d.whole n)))

  -- the page that the cut leaves
  pub header_cut : (page : Page) → get_or (part_of N B (n % N) s) 0 [] ≡ page → Cut B xs page (get_or (part_of N B (n % N) u) 0 [])
  header_cut page e = rw (header_page_lem, ← e) header_part.1

  -- the whole page written: the segments are those of the whole list
  pub header_whole : get_or (part_of N B (n % N) u) 0 [] ≡ run B xs (get_or (part_of N B (n % N) s) 0 []) → segments_of N B u ≡ segments_of N B (run B (on_page (header_at N B n) xs) s)
  header_whole e =
      let r = header_run N B d.two d.most d.most_b s d.whole n below xs p in
      same_part N B (n % N) s u (run B (on_page (header_at N B n) xs) s) header_touched r.0 (header_part.2 ∙ (ap (λ (y : Page). set (part_of N B (n % N) s) 0 y) (sym header_page_lem ∙ e) ∙ sym r.1))

-- the segment after the top touched, with bit 6 of its status still set
abbrev pub TornNext : ℕ → ℕ → Image → View → Image → Type 0
TornNext N B s v u = Only N B (suc (top_number v) % N) s u × BitSix (get_or (get_or (part_of N B (suc (top_number v) % N) u) 0 []) 5 0)

-- ---- copied slots leave the header

copy_header : (N B : ℕ) → 2 ≤ N → (n : ℕ) (es : List Entry) (j : ℕ) (s u : Image) → length s ≡ image_length N B → Valids es → j + length es ≤ B
    → Cut B (copy_entries N B n j es) s u → get_or (part_of N B (n % N) u) 0 [] ≡ get_or (part_of N B (n % N) s) 0 []
unfolding copy_entries slot_at
copy_header N B two n [] j s u z v h c = ap (λ y. get_or (part_of N B (n % N) y) 0 []) c
copy_header N B two n (e ∷ es) j s u z v h c =
    ⊎_elim
    (λ d. let x = part_cut N B i (suc j) (index N B two s z n) (omega arith) ws p s z u d in
    ap (λ (y : List Page). get_or y 0 []) x.2 ∙ get_or-set_other (part_of N B i s) (suc j) 0 x.0 [] (λ q. omega arith))
    (λ d. copy_header N B two n es (suc j) t u (run_length B xs s ∙ z) v.1 (omega arith) d
    ∙ (ap (λ (y : List Page). get_or y 0 []) (part_run N B i (suc j) (index N B two s z n) (omega arith) ws p s z)
    ∙ get_or-set_other (part_of N B i s) (suc j) 0 (run B ws (get_or (part_of N B i s) (suc j) [])) [] (λ q. omega arith)))
    (cut_append B xs (copy_entries N B n (suc j) es) s u c)
  where
    i : ℕ
    i = n % N

    ws : List Step
    ws = write_slot e.block e.contents

    xs : List Step
    xs = on_page (n % N * (B + 1) + suc j) (write_slot e.block e.contents)

    t : Image
    t = run B xs s

    p : InPage (write_slot e.block e.contents)
    p = write_in_page e.block e.contents v.0.short

-- ---- opening

module _ (N B : ℕ) (s : Image) (v : View) (h : Held N B s v) where
  size : SizeFacts N B s
  size = size_facts N B s h.size

  pub free_page : get_or (part_of N B (suc (top_number v) % N) s) 0 [] ≡ erased 256
  free_page = blank_page N B size.two s size.whole (suc (top_number v) % N) 0 (index N B size.two s size.whole (suc (top_number v))) (omega arith) (next_free N B s v h)

  open_steps : (open_next N B v).steps ≡ on_page (header_at N B (suc (top_number v))) (opening_header N B (next_version v) (suc (top_number v)))
  unfolding open_next
  open_steps = open_segment_page N B (next_version v) (suc (top_number v))

  -- the next segment is still torn, or it is open
  pub open_left : Carries v → suc (top_number v) < number_limit N → (u : Image) → Cut B (open_next N B v).steps s u
      → TornNext N B s v u ⊎ (segments_of N B u ≡ segments_of N B (run B (open_next N B v).steps s))
  unfolding next_version
  open_left carries below u cut =
      let n = suc (top_number v) in
      let total = tally_of v.version in
      let xs = opening_header N B (new_version total) n in
      let p = opening_in_page N B (new_version total) n in
      let k = rw open_steps at cut in
      let small : N < 256 = few N B size.two size.most size.most_b s size.whole n below in
      ⊎_elim
      (λ six. inl (header_touched N B s size n below xs p u k, six))
      (λ e. inr (header_whole N B s size n below xs p u k (e ∙ sym (ap (λ (y : Page). run B xs y) free_page ∙ opening_run N B total n small size.most_b)) ∙ ap (λ y. segments_of N B (run B y s)) (sym open_steps)))
      (opening_cut N B total n (get_or (part_of N B (n % N) u) 0 []) small size.most_b (header_cut N B s size n below xs p u k (erased 256) free_page))

  new_former : Carries v → is_former (open_next N B v).result.version ≡ is_former v.version
  unfolding open_next next_version new_version is_former
  new_former carries = sym carries.second

  pub open_cut : CleanView N B v → Carries v → has_room v ≡ false → length v.slots < N - 1 → suc (top_number v) < number_limit N → (u : Image) → Cut B (open_next N B v).steps s u → ShowsOf N B u v
  open_cut c carries full few_used below u cut = ⊎_elim
      (λ t. with_shows N B u v (next_torn N B s v h c u (cut_size N B (open_next N B v).steps s u cut ∙ h.size) t.0 t.1))
      (λ e. let r = with_shows N B u (open_next N B v).result (held_shows N B (run B (open_next N B v).steps s) (open_next N B v).result u (open_held N B s v h carries below few_used) (opened_clean c full few_used) e) in
      (r.0, rw (opened_entries N B v) at r.1, r.2 ∙ new_former carries))
      (open_left carries below u cut)

-- ---- compaction

module _ (N B : ℕ) (s : Image) (v : View) (f : Full N B s v) where
  h : Held N B s v
  h = f.held

  d : SizeFacts N B s
  d = size_facts N B s h.size

  abbrev n : ℕ
  n = suc (top_number v)

  abbrev i : ℕ
  i = suc (top_number v) % N

  abbrev o : ℕ
  o = v.first

  abbrev es : List Entry
  es = entries (get_or v.slots 0 [])

  -- the header begun
  abbrev begin : List Step
  begin = on_page (header_at N B n) (compaction_header N B (next_version v) n (o % N))

  abbrev s1 : Image
  s1 = run B begin s

  size1 : SizeFacts N B s1
  size1 = size_facts N B s1 (run_size N B begin s ∙ h.size)

  begun_header : Only N B i s s1 × (part_of N B i s1 ≡ set (part_of N B i s) 0 (begun_page N B (o % N)))
  unfolding next_version
  begun_header = begun N B d.two d.most d.most_b s d.whole (tally_of v.version) o n f.carries.fits f.below (old_after N B s v h f.carries f.below f.all es (old_valid N B s v f) (old_fits N B s v f))
      es (old_valid N B s v f) (old_fits N B s v f) (next_free N B s v h)

  page1 : get_or (part_of N B i s1) 0 [] ≡ begun_page N B (o % N)
  page1 = ap (λ (x : List Page). get_or x 0 []) begun_header.1
      ∙ get_or-set_same (part_of N B i s) 0 (begun_page N B (o % N)) [] (omega (arith, part_size N B i s (index N B d.two s d.whole n)))

  begin_torn : (u : Image) → Cut B begin s u → TornNext N B s v u
  begin_torn u c = let xs = compaction_header N B (next_version v) n (o % N) in let p = compaction_in_page N B (next_version v) n (o % N) in (
    header_touched N B s d n f.below xs p u c,
    compaction_cut N B (next_version v) n (o % N) (get_or (part_of N B i u) 0 []) (header_cut N B s d n f.below xs p u c (erased 256) (free_page N B s v h)),
  )

  -- the slots copied
  abbrev copying : List Step
  copying = copy_entries N B n 0 es

  copied_fit : 0 + length es ≤ B
  copied_fit = omega (arith, old_fits N B s v f)

  copy_page : (u : Image) → Cut B copying s1 u → get_or (part_of N B i u) 0 [] ≡ begun_page N B (o % N)
  copy_page u c = copy_header N B d.two n es 0 s1 u size1.whole (old_valid N B s v f) copied_fit c ∙ page1

  copy_touched : (u : Image) → Cut B copying s1 u → Only N B i s u
  copy_touched u c = only_trans N B i s s1 u begun_header.0
      (only_cut N B i copying s1 u (index N B d.two s d.whole n) (copy_in_segment N B d.two n es 0 (old_valid N B s v f) copied_fit) c)

  copy_torn : (u : Image) → Cut B copying s1 u → TornNext N B s v u
  copy_torn u c = (copy_touched u c, rw (copy_page u c) (begun_bit_6 N B (o % N)))

  -- the number, up to the owing mark
  abbrev s2 : Image
  s2 = run B copying s1

  size2 : SizeFacts N B s2
  size2 = size_facts N B s2 (run_size N B copying s1 ∙ (run_size N B begin s ∙ h.size))

  abbrev number : List Step
  number = on_page (header_at N B n) (number_header N B (next_version v) n (o % N))

  number_page : InPage (number_header N B (next_version v) n (o % N))
  number_page = number_in_page N B (next_version v) n (o % N)

  number_status : (u : Image) → Cut B number s2 u → get_or (get_or (part_of N B i u) 0 []) 5 0 ≡ compaction_begun
  number_status u c = number_cut N B (next_version v) n (o % N) (get_or (part_of N B i u) 0 [])
      (header_cut N B s2 size2 n f.below (number_header N B (next_version v) n (o % N)) number_page u c (begun_page N B (o % N)) (copy_page s2 (whole_cut B copying s1)))

  number_torn : (u : Image) → Cut B number s2 u → TornNext N B s v u
  number_torn u c = (
    only_trans N B i s s2 u (copy_touched s2 (whole_cut B copying s1)) (header_touched N B s2 size2 n f.below (number_header N B (next_version v) n (o % N)) number_page u c),
    rw (number_status u c) refl,
  )

  -- all three
  numbered_torn : (u : Image) → Cut B (numbered N B (next_version v) o n es) s u → TornNext N B s v u
  unfolding numbered
  numbered_torn u c =
      ⊎_elim (λ k. begin_torn u k) (λ k. ⊎_elim (λ r. copy_torn u r) (λ r. number_torn u r) (cut_append B copying number s1 u k)) (cut_append B begin (copying ++ number) s u c)

  -- the owing mark
  abbrev s3 : Image
  s3 = run B (numbered N B (next_version v) o n es) s

  status3 : get_or s3 (header_at N B n * 256 + 5) 0 ≡ compaction_begun
  unfolding numbered header_at
  status3 =
      sym (header_byte_lem N B i 5 s3 (index N B d.two s d.whole n) (omega arith))
      ∙ (ap (λ (x : Image). get_or (get_or (part_of N B i x) 0 []) 5 0) (run_append B begin (copying ++ number) s ∙ run_append B copying number s1) ∙ number_status (run B number s2) (whole_cut B number s2))

  the_run : run B (copy_out N B (next_version v) o n es) s ≡ run B (owing_mark N B n ∷ []) s3
  the_run = ap (λ (x : List Step). run B x s) (copy_out_marks N B (next_version v) o n es) ∙ run_append B (numbered N B (next_version v) o n es) (owing_mark N B n ∷ []) s

  whole_touched : Only N B i s (run B (copy_out N B (next_version v) o n es) s)
  unfolding on_page
  whole_touched =
      let size3 = size_facts N B s3 (run_size N B (numbered N B (next_version v) o n es) s ∙ h.size) in
      rw the_run (only_trans N B i s s3 (run B (owing_mark N B n ∷ []) s3) (numbered_torn s3 (whole_cut B (numbered N B (next_version v) o n es) s)).0
      (header_touched N B s3 size3 n f.below (program 5 erase_pending ∷ []) (omega arith, tt) (run B (owing_mark N B n ∷ []) s3) (whole_cut B (owing_mark N B n ∷ []) s3)))

  -- with the segments of the whole of it, the image owes the erase
  pub owes : (u : Image) → right_size N B u ≡ true → Only N B i s u → segments_of N B u ≡ segments_of N B (run B (copy_out N B (next_version v) o n es) s) → Owing N B s v f u
  owes u z touched e = owing_left N B s v f u z touched (e ∙ copied_segments N B s v h f.carries f.below f.all es (old_valid N B s v f) (old_fits N B s v f))

  -- the mark is not reached and the target torn, or it is and the target owes the erase
  pub copy_out_marked : (u : Image) (ds : List ℕ) (m : ℕ) → CutBegun B (copy_out N B (next_version v) v.first (suc (top_number v)) (entries (get_or v.slots 0 []))) s u ds m
      → ((m ≡ 0) × TornNext N B s v u)
      ⊎ ((m ≡ 1) × Only N B (suc (top_number v) % N) s u
      × (segments_of N B u ≡ segments_of N B (run B (copy_out N B (next_version v) v.first (suc (top_number v)) (entries (get_or v.slots 0 []))) s)))
  copy_out_marked u ds m c = go (begun_append B before (owing_mark N B n ∷ []) s u ds m (rw (copy_out_marks N B (next_version v) o n es) at c))
    where
      before : List Step
      before = numbered N B (next_version v) o n es

      none : marks_in B before ≡ 0
      none = numbered_unmarked N B (next_version v) o n es (old_valid N B s v f) (old_fits N B s v f)

      go : CutBegun B before s u ds m ⊎ Behind B before (owing_mark N B n ∷ []) s u ds m
          → ((m ≡ 0) × TornNext N B s v u) ⊎ ((m ≡ 1) × Only N B i s u × (segments_of N B u ≡ segments_of N B (run B (copy_out N B (next_version v) o n es) s)))
      go (inl k) = inl (begun_unmarked B before s u ds m none k, numbered_torn u (begun_cut B before s u ds m k))
      go (inr (rest, more, e, g, k)) =
          ⊎_elim
          (λ r. inl (omega (arith, none, g, r.1), rw r.0 (numbered_torn s3 (whole_cut B before s))))
          (λ r. inr (omega (arith, none, g, r.1), rw (r.0, ← the_run) whole_touched, ap (λ x. segments_of N B x) (r.0 ∙ sym the_run)))
          (mark_begun N B n s3 u rest more status3 k)

  -- the target is still torn, or it owes the erase
  pub copy_out_left : (u : Image) → Cut B (copy_out N B (next_version v) v.first (suc (top_number v)) (entries (get_or v.slots 0 []))) s u
      → TornNext N B s v u
      ⊎ (Only N B (suc (top_number v) % N) s u
      × (segments_of N B u ≡ segments_of N B (run B (copy_out N B (next_version v) v.first (suc (top_number v)) (entries (get_or v.slots 0 []))) s)))
  copy_out_left u c = let (ds, m, k) = cut_begun B (copy_out N B (next_version v) o n es) s u c in ⊎_elim (λ t. inl t.1) (λ t. inr (t.1, t.2)) (copy_out_marked u ds m k)

  -- whole, it owes it
  pub owed : Owing N B s v f (run B (copy_out N B (next_version v) v.first (suc (top_number v)) (entries (get_or v.slots 0 []))) s)
  owed = owes (run B (copy_out N B (next_version v) o n es) s) (run_size N B (copy_out N B (next_version v) o n es) s ∙ h.size) whole_touched refl

  copy_out_cut : (u : Image) → Cut B (copy_out N B (next_version v) o n es) s u → ShowsOf N B u v
  copy_out_cut u c =
      let z = cut_size N B (copy_out N B (next_version v) o n es) s u c ∙ h.size in
      ⊎_elim (λ t. with_shows N B u v (next_torn N B s v h f.clean u z t.0 t.1)) (λ t. compacted_shows N B s v f u (with_shows N B u (compact_oldest N B v).result (owes u z t.0 t.1).shows)) (copy_out_left u c)

  -- the rest's old segment and number, by the number after the top's
  pub rest_after : (v.first + N) % N ≡ v.first % N
  rest_after = add-mod_right o N

  pub rest_last : v.first + N - 1 ≡ suc (top_number v)
  rest_last = omega (arith, ring_closed N B s v h f.carries f.below f.all es (old_valid N B s v f) (old_fits N B s v f))

  -- the rest, the old segment erased and the status after it, is how the recovery of state (b) ends
  pub compact_cut : (u : Image) → Cut B (compact_oldest N B v).steps s u → ShowsOf N B u v
  unfolding compact_oldest compact
  compact_cut u c =
      let t = run B (copy_out N B (next_version v) o n es) s in
      let z = run_size N B (copy_out N B (next_version v) o n es) s ∙ h.size in
      let w = owed in
      ⊎_elim
      (λ k. copy_out_cut u k)
      (λ k. let r = (compact_oldest N B v).result in
      compacted_shows N B s v f u (with_shows N B u r (kept_with N B t u r w.shows (rest_cut N B t z w.pending w.shows.0 u (rw (w.next, rest_after, rest_last) k)))))
      (cut_append B (copy_out N B (next_version v) o n es) (erase (o % N) ∷ settle N B n) s u c)
