-- A recovery, finished or cut: it gives no number, and while a bit is left it counts each erase that it has begun, and at most one.
use Rattle.std.specs.Prelude.{ℕ, suc, ◌+◌, ◌-◌, ◌%◌, ◌≤◌, ◌<◌, ◌≡◌, ◌⊎◌, Bool, true, false, cond, set, eqb}
use Rattle.std.proofs.Math.Path.{refl, ap}
use Rattle.std.proofs.Common.{sym, ◌∙◌, inl, inr, ⊎_elim, true≢false, arith}
use mathlib.Core.List.{List, [], ◌∷◌, ◌++◌}
use Rattle.std.proofs.Math.ListN.{length, get_or}
use Rattle.std.proofs.Math.Seq.{get_or-set_same}
use Rattle.model.specs.Chip.{Image, Bytes, Step, program, erase, right_size, step, run, Cut}
use Rattle.model.specs.Header.{Version, version1, version2, is_former, tally_of, no_bit_left}
use Rattle.model.specs.Slot.{Slot}
use Rattle.model.specs.State.{Segment, blank, in_use, segments_of, slots_in, version_in, number_after, next_number, top_index, top_version, case_a, case_b, case_c, case_d, Exception, State, clean, unfinished, damaged, state}
use Rattle.model.specs.Steps.{header_at, settle, highest_bit, clear_next, count_erase, mend_steps}
use Rattle.model.specs.Answers.{recover, work_of}
use Rattle.model.specs.Sequences.{erases_in}
use Rattle.model.specs.Begun.{CutBegun}
use Rattle.model.proofs.Laws.Chip.{size_facts}
use Rattle.model.proofs.Laws.Begun.{begun_cut, begun_append, begun_none}
use Rattle.model.proofs.Laws.Segments.{segments_length}
use Rattle.model.proofs.Laws.Effects.{index}
use Rattle.model.proofs.Laws.Ring.{next_kept}
use Rattle.model.proofs.Laws.Bits.{cleared_more, none_left}
use Rattle.model.proofs.Laws.Counted.{counted, tally_bytes_lem, count_whole, count_run}
use Rattle.bridge.specs.Accepted.{recover_none}
use Rattle.crash.specs.Sound.{SoundAs, Sound, CutOf}
use Rattle.crash.specs.Tops.{SameTop, same_image}
use Rattle.crash.proofs.States.{recover_steps_lem}
use Rattle.crash.specs.RecoverCount.{top, top_below, counts}
use Rattle.crash.proofs.RecoverMarks.{top_c, top_d}
use Rattle.crash.proofs.RecoverErase.{some, steps_a, erased_top}
use Rattle.crash.proofs.RecoverOwing.{by_old}
use Rattle.crash.proofs.OwingCuts.{ended_top, settled_top}
use Rattle.crash.proofs.RecoverOwing
use Rattle.wear.specs.Erases.{on_page_lem, mark_none, settle_none}
use Rattle.tallied.specs.Law.{tally_in, BitLeft}

pub record Recovers (N B : ℕ) (s u : Image) (es : List ℕ) : Type 0 where
  pub next : next_number (segments_of N B u) ≡ next_number (segments_of N B s)
  pub used : no_bit_left (top_version N (segments_of N B s)) ≡ true → no_bit_left (top_version N (segments_of N B u)) ≡ true
  pub second : is_former (top_version N (segments_of N B s)) ≡ false → is_former (top_version N (segments_of N B u)) ≡ false
  pub counts : BitLeft N B u → (tally_in N B s + length es ≤ tally_in N B u) × (tally_in N B u ≤ suc (tally_in N B s))

recovers_same : (N B : ℕ) (s u : Image) (es : List ℕ) → es ≡ [] → SameTop N B s u → Recovers N B s u es
recovers_same N B s u es e t =
    let q : tally_in N B u ≡ tally_in N B s = ap tally_of t.version in
    record { next = t.next; used = λ n. ap no_bit_left t.version ∙ n; second = λ n. ap is_former t.version ∙ n; counts = λ b. rw e (omega (arith, q), omega (arith, q)) }

-- ---- the count

tally_more : (e : Version) → is_former e ≡ false → no_bit_left e ≡ false → ((total : ℕ) (bits : List ℕ) → e ≡ version2 total bits → Bytes bits) → tally_of (counted e) ≡ suc (tally_of e)
unfolding tally_of counted no_bit_left is_former
tally_more version1 f h b = absurd (true≢false f)
tally_more (version2 total bits) f h b = omega (arith, cleared_more bits (b total bits refl) h)

tally_none : (e : Version) → no_bit_left e ≡ true → counted e ≡ e
unfolding counted no_bit_left
tally_none version1 h = refl
tally_none (version2 total bits) h = ap (λ y. version2 total y) (none_left bits h)

counted_former : (e : Version) → is_former (counted e) ≡ is_former e
unfolding counted is_former
counted_former version1 = refl
counted_former (version2 total bits) = refl

clear_none : (at : ℕ) (xs : List ℕ) → erases_in (clear_next at xs) ≡ []
unfolding clear_next erases_in
clear_none at [] = refl
clear_none at (x ∷ xs) = go (eqb x 0) (clear_none (suc at) xs)
  where
    go : (t : Bool) → erases_in (clear_next (suc at) xs) ≡ [] → erases_in (cond t (clear_next (suc at) xs) (program at (x - highest_bit x) ∷ [])) ≡ []
    go true h = h
    go false h = unfold erases_in in refl

count_none : (e : Version) → erases_in (count_erase e) ≡ []
unfolding count_erase erases_in
count_none version1 = refl
count_none (version2 total bits) = clear_none 32 bits

pub counts_none : (N B : ℕ) (l : List Segment) → erases_in (counts N B l) ≡ []
counts_none N B l = on_page_lem (header_at N B (next_number l - 1)) (count_erase (top_version N l)) ∙ count_none (top_version N l)

module _ (N B : ℕ) (s : Image) (z : right_size N B s ≡ true) (some : 0 < next_number (segments_of N B s)) (new : is_former (top_version N (segments_of N B s)) ≡ false) (bytes : Bytes s) where
  abbrev l : List Segment
  l = segments_of N B s

  abbrev n : ℕ
  n = next_number l - 1

  abbrev slots : List Slot
  slots = slots_in (get_or l (n % N) blank)

  abbrev s1 : Image
  s1 = run B (counts N B l) s

  st : ℕ
  st = (top N B s z some).0

  -- the count is done or not
  whole : (u : Image) → Cut B (counts N B (segments_of N B s)) s u → (u ≡ s) ⊎ (u ≡ run B (counts N B (segments_of N B s)) s)
  whole u c = let size = size_facts N B s z in
      count_whole N B size.two size.most size.most_b s size.whole n (top_below N B s z some) (top N B s z some).0 slots (top_version N l) (top N B s z some).1 bytes u c

  one_counted : segments_of N B s1 ≡ set l (n % N) (in_use (counted (top_version N l)) (top N B s z some).0 n slots)
  one_counted = let size = size_facts N B s z in
      count_run N B size.two size.most size.most_b s size.whole n (top_below N B s z some) (top N B s z some).0 slots (top_version N l) (top N B s z some).1

  counted_next : next_number (segments_of N B s1) ≡ next_number l
  unfolding number_after
  counted_next = ap next_number one_counted ∙ next_kept l (n % N) (in_use (counted (top_version N l)) (top N B s z some).0 n slots) (ap number_after (sym (top N B s z some).1))

  counted_version : top_version N (segments_of N B s1) ≡ counted (top_version N l)
  unfolding top_version top_index version_in
  counted_version =
      let size = size_facts N B s z in
      let i : n % N < length l = omega (arith, index N B size.two s size.whole n, segments_length N B s) in
      ap (λ (y : ℕ). version_in (get_or (segments_of N B s1) ((y - 1) % N) blank)) counted_next
      ∙ ap version_in (ap (λ (y : List Segment). get_or y (n % N) blank) one_counted ∙ get_or-set_same l (n % N) (in_use (counted (top_version N l)) (top N B s z some).0 n slots) blank i)

  bit_bytes : (total : ℕ) (bits : List ℕ) → top_version N l ≡ version2 total bits → Bytes bits
  bit_bytes total bits e = let size = size_facts N B s z in
      tally_bytes_lem N B size.two size.most size.most_b s size.whole n (top_below N B s z some) (top N B s z some).0 slots total bits
      ((top N B s z some).1 ∙ ap (λ y. in_use y (top N B s z some).0 n slots) e) bytes

  -- counted, and then the top stays
  pub recovers_counted : (u : Image) (es : List ℕ) → length es ≤ 1 → SameTop N B (run B (counts N B (segments_of N B s)) s) u → Recovers N B s u es
  recovers_counted u es few same =
      let version : top_version N (segments_of N B u) ≡ counted (top_version N l) = same.version ∙ counted_version in
      record {
        next = same.next ∙ counted_next;
        used = λ q. ap no_bit_left version ∙ (ap no_bit_left (tally_none (top_version N l) q) ∙ q);
        second = λ q. ap is_former version ∙ (counted_former (top_version N l) ∙ q);
        counts = λ b. go version b (no_bit_left (top_version N l)) refl;
      }
    where
      go : top_version N (segments_of N B u) ≡ counted (top_version N l) → BitLeft N B u → (t : Bool) → no_bit_left (top_version N l) ≡ t
          → (tally_in N B s + length es ≤ tally_in N B u) × (tally_in N B u ≤ suc (tally_in N B s))
      go e b true q = absurd (true≢false (sym q ∙ (ap no_bit_left (sym (e ∙ tally_none (top_version N l) q)) ∙ b)))
      go e b false q = let more : tally_in N B u ≡ suc (tally_in N B s) = ap tally_of e ∙ tally_more (top_version N l) new q bit_bytes in (omega arith, omega arith)

  -- the count, and then these steps, which begin one erase at most and leave the top
  pub counted_then : (xs : List Step) → ((w : Image) (cs : List ℕ) (f : ℕ) → CutBegun B xs (run B (counts N B (segments_of N B s)) s) w cs f → (length cs ≤ 1) × SameTop N B (run B (counts N B (segments_of N B s)) s) w)
      → (u : Image) (es : List ℕ) (f : ℕ) → CutBegun B (counts N B (segments_of N B s) ++ xs) s u es f → Recovers N B s u es
  counted_then xs then u es f c = ⊎_elim
      (λ d. let none : es ≡ [] = begun_none B (counts N B l) s u es f (counts_none N B l) d in
      ⊎_elim (λ q. recovers_same N B s u es none (same_image N B s u q)) (λ q. recovers_counted u es (rw none (omega arith)) (same_image N B s1 u q)) (whole u (begun_cut B (counts N B l) s u es f d)))
      (λ d. let e : es ≡ d.0 = d.2 ∙ ap (λ (y : List ℕ). y ++ d.0) (counts_none N B l) in let r = then u d.0 d.1 d.4 in recovers_counted u es (rw e r.0) r.1)
      (begun_append B (counts N B l) xs s u es f c)

-- ---- the cases

-- an erase, and then steps without one
one_erase : (B i : ℕ) (xs : List Step) (s u : Image) (cs : List ℕ) (f : ℕ) → erases_in xs ≡ [] → CutBegun B (erase i ∷ xs) s u cs f → length cs ≤ 1
unfolding erases_in
one_erase B i xs s u cs f n (inl c) = rw c.1 (omega arith)
one_erase B i xs s u cs f n (inr (inl c)) = rw c.1 (omega arith)
one_erase B i xs s u cs f n (inr (inr (r, more, e, g, c))) = let q : r ≡ [] = begun_none B xs (step B (erase i) s) u r more n c in let a : cs ≡ i ∷ [] = e ∙ ap (λ (y : List ℕ). i ∷ y) q in rw a (omega arith)

marks_none : (N B : ℕ) (l : List Segment) → (erases_in (mend_steps N B l case_c) ≡ []) × (erases_in (mend_steps N B l case_d) ≡ [])
unfolding mend_steps
marks_none N B l = (mark_none N B _, mark_none N B _)

module _ (N B : ℕ) (s : Image) (z : right_size N B s ≡ true) (h : Sound N B s) (new : is_former (top_version N (segments_of N B s)) ≡ false) (bytes : Bytes s) where
  abbrev after : Image
  after = run B (counts N B (segments_of N B s)) s

  -- the index after the top's, and the top's status
  abbrev next : ℕ
  next = next_number (segments_of N B s) % N

  abbrev mark : List Step
  mark = settle N B (next_number (segments_of N B s) - 1)

  module _ (u : Image) (es : List ℕ) (f : ℕ) (c : CutBegun B (work_of N B s recover).steps s u es f) where
    in_a : state N B s ≡ unfinished case_a → Recovers N B s u es
    unfolding erases_in
    in_a e = counted_then N B s z (some N B s z e) new bytes (erase next ∷ [])
        (λ w cs m d. (one_erase B next [] after w cs m refl d, erased_top N B s z e h w (begun_cut B (erase next ∷ []) after w cs m d))) u es f (rw (recover_steps_lem N B s case_a z e ∙ steps_a N B s z e) at c)

    in_b : state N B s ≡ unfinished case_b → Recovers N B s u es
    in_b e = by_old N B s z e (Recovers N B s u es)
        (λ q d. let k : CutBegun B mark s u es f = rw (recover_steps_lem N B s case_b z e ∙ d) at c in
        recovers_same N B s u es (begun_none B mark s u es f (settle_none N B (next_number (segments_of N B s) - 1)) k) (settled_top N B s z e h q u (begun_cut B mark s u es f k)))
        (λ q d. counted_then N B s z (RecoverOwing.some N B s z e) new bytes (erase next ∷ mark)
        (λ w cs m k. (one_erase B next mark after w cs m (settle_none N B (next_number (segments_of N B s) - 1)) k, ended_top N B s z e h w (begun_cut B (erase next ∷ mark) after w cs m k))) u es f
        (rw (recover_steps_lem N B s case_b z e ∙ d) at c))

    marked : (x : Exception) → state N B s ≡ unfinished x → erases_in (mend_steps N B (segments_of N B s) x) ≡ [] → SameTop N B s u → Recovers N B s u es
    marked x e n t = recovers_same N B s u es (begun_none B (mend_steps N B (segments_of N B s) x) s u es f n (rw (recover_steps_lem N B s x z e) at c)) t

    cut : CutOf N B s recover u
    cut = begun_cut B (work_of N B s recover).steps s u es f c

    pub recover_counts : Recovers N B s u es
    recover_counts = go (state N B s) refl h
      where
        case : (x : Exception) → state N B s ≡ unfinished x → Recovers N B s u es
        case case_a e = in_a e
        case case_b e = in_b e
        case case_c e = marked case_c e (marks_none N B (segments_of N B s)).0 (top_c N B s z u e cut)
        case case_d e = marked case_d e (marks_none N B (segments_of N B s)).1 (top_d N B s z u e cut)

        go : (x : State) → state N B s ≡ x → SoundAs N B s (segments_of N B s) x → Recovers N B s u es
        go clean e k = let d : CutBegun B [] s u es f = rw (recover_none N B s e) at c in recovers_same N B s u es d.1 (same_image N B s u d.0)
        go (unfinished x) e k = case x e
        go damaged e k = absurd k
