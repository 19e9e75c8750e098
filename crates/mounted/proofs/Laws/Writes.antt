-- A mounted put or delete that is refused, and a delete, by what the table's entry says.
use Prim.Native.Nat.{ℕ, ◌-◌, ◌/◌, ◌<◌}
use mathlib.Core.Path.{◌≡◌, refl, sym, ap, ◌∙◌, subst}
use mathlib.Core.Logic.{◌≢◌, ◌⊎◌, inl, inr, ⊎_elim}
use mathlib.Core.Bool.{Bool, true, false, cond}
use mathlib.Core.List.{List, []}
use native.Mathlib.Nat.{div-add-mod}
use native.Mathlib.Decide.{ℕ_discrete}
use native.Mathlib.Omega.{arith}
use lib.ListN.{length, get_or, drop, set, length-set}
use lib.Seq.{get_or-set_same, get_or-set_other}
use lib.Dec.{ltb, eqb}
use borrow.Author.Tests.{ne_eqb, eq-eqb}
use Rattle.model.specs.Chip.{Image, right_size, run}
use Rattle.model.specs.State.{clean, state, view}
use Rattle.model.specs.Steps.{on_page, mark_dead}
use Rattle.model.specs.Answers.{code_of, Request, delete, performed, Outcome, outcome_of, work_of}
use Rattle.model.specs.Sequences.{among}
use Rattle.model.specs.declared.Answer.{Answer}
use Rattle.model.specs.declared.Answer.TheVariants.{Damaged, Absent as NotStored}
use Rattle.model.specs.declared.Performed.{Performed}
use Rattle.model.specs.Mounted.{Places, least_places, place_entry, mounted_refusal, Writes, MountedDelete}
use Rattle.model.proofs.Laws.Chip.{run_size}
use Rattle.bridge.specs.Accepted.{refusal, read_passed}
use Rattle.bridge.specs.Refusals.{delete_code}
use Rattle.bridge.specs.Allowance.{ends}
use Rattle.bridge.specs.Held.{clean_view}
use Rattle.bridge.specs.Requests.{delete_done as whole_delete}
use Rattle.bridge.specs.Views.EntriesAfter.{delete_entry}
use Rattle.request.specs.Request.{Refused, Carried}
use Rattle.request.proofs.Answered.{refused_outcome}
use Rattle.mend.specs.Marks.{PageAt, MarkedAt}
use Rattle.looking.specs.Look.{There}
use Rattle.store.proofs.Laws.Requests.{delete_done}
use Rattle.std.specs.Prelude.{Option, None, Some, Ok, Err}
use Rattle.find.specs.declared.FoundSlot.{FoundSlot}
use Rattle.places.specs.Places.{Entry, absent, stale, entry_seen, noted}
use Rattle.bridge.specs.Mounting.{Kept, in_step_kept, kept_in_step}
use Rattle.places.proofs.Laws.Seen.{seen_believed}
use Rattle.places.proofs.Laws.Noted.{noted_past, noted_unusable, noted_zero, noted_kept}
use Rattle.mounted.specs.Marks.{EntryInside, MarkedEntry}
use Rattle.mounted_read.proofs.Laws.Refusals.{Passed, passed, bound_not_cut, number_range}
use Rattle.mounted_read.proofs.Laws.Reads.{refuses_absent, seen_there, seen_absent, seen_stale}

module _ (N B : ℕ) (s : Image) (t : Places) (b : ℕ) (taken : Bool) (codes : List ℕ) (r : Request) (allowance : ℕ) where
  -- refused: no step is taken, and neither image nor table is touched
  pub refused_writes : (a : Answer) {p : Performed} → Refused a p → code_of a ≢ 0 → code_of a ≢ 9 → (mounted_refusal N B s t b taken ≢ 0 → code_of a ≡ mounted_refusal N B s t b taken)
      → (mounted_refusal N B s t b taken ≡ 0 → among (code_of a) codes ≡ true) → (Kept N B s t → refusal N B s r ≡ code_of a) → Writes N B b taken codes r allowance (performed p s) s t t
  unfolding performed
  refused_writes a {p} q some whole bound listed same = record {
    bound = λ n. q.code ∙ bound n;
    listed = λ z. rw q.code (listed z);
    refused = λ n m. (q.none, refl, refl);
    cut = λ e. absurd (whole (sym q.code ∙ e));
    past = refl;
    few = omega (arith, q.none);
    same = λ step. refused_outcome N B s allowance r a p (same (in_step_kept N B s t step)) (ne_eqb (code_of a) 0 some) q;
    kept = λ step z. absurd (some (sym q.code ∙ z));
  }

-- ---- a delete that is refused

module _ (N B : ℕ) (s : Image) (t : Places) (b budget : ℕ) where
  pub delete_bound : (a : Answer) {p : Performed} → code_of a ≡ mounted_refusal N B s t b true → mounted_refusal N B s t b true ≢ 0 → Refused a p → MountedDelete N B b budget (performed p s) s t t
  delete_bound a e h q = refused_writes N B s t b true _ (delete b) budget a q (λ z. h (sym e ∙ z)) (λ z. bound_not_cut N B s t b true (sym e ∙ z)) (λ n. e) (λ z. absurd (h z))
      (λ k. delete_code N B s b ∙ (refuses_absent N B s t b k a e h).code)

  module _ (p : mounted_refusal N B s t b true ≡ 0) where
    delete_absent : entry_seen B s (get_or t b 0) ≡ absent → {q : Performed} → Refused NotStored q → MountedDelete N B b budget (performed q s) s t t
    unfolding code_of among
    delete_absent e q = refused_writes N B s t b true _ (delete b) budget NotStored q (λ z. omega arith) (λ z. omega arith) (λ n. absurd (n p)) (λ z. refl)
        (λ k. delete_code N B s b ∙ (seen_absent N B s t b k (passed N B s t b true p).number e).code)

    delete_stale : entry_seen B s (get_or t b 0) ≡ stale → {q : Performed} → Refused Damaged q → MountedDelete N B b budget (performed q s) s t t
    unfolding code_of among
    delete_stale e q = refused_writes N B s t b true _ (delete b) budget Damaged q (λ z. omega arith) (λ z. omega arith) (λ n. absurd (n p)) (λ z. refl)
        (λ k. absurd (seen_stale N B s t b k (passed N B s t b true p).number e))

-- ---- an image and a table after a change of one entry

-- in step with the image that a request left, if the table differs in one entry as the view does
pub kept_after : (N B : ℕ) (s u : Image) (t : Places) (b place : ℕ) → Kept N B s t → right_size N B u ≡ true → state N B u ≡ clean → 0 < b → b < least_places
    → ((k : ℕ) → place_entry N B (view N B u) k ≡ cond (eqb k b) place (place_entry N B (view N B s) k)) → Kept N B u (set t b place)
kept_after N B s u t b place k z c some below e = record {
  size = z;
  fine = c;
  long = omega (arith, length-set t b place, k.long);
  usable = get_or-set_other t b 0 place 0 (λ q. omega arith) ∙ k.usable;
  entry = λ i lo hi. elim (ℕ_discrete i b) [
    | yes q ↦ rw q (get_or-set_same t b place 0 (omega (arith, k.long)) ∙ sym (e b ∙ rw (eq-eqb b b refl)))
    | no q ↦ get_or-set_other t b i place 0 q ∙ (k.entry i lo hi ∙ sym (e i ∙ rw (ne_eqb i b q)))
  ];
}

module _ (N B : ℕ) (s : Image) (t : Places) (b budget : ℕ) (p : mounted_refusal N B s t b true ≡ 0) where
  abbrev a : Passed N B s t b true
  a = passed N B s t b true p

  number_inside : (0 < b) × (b < least_places)
  number_inside = number_range b a.number

  module _ (x : FoundSlot) (e : entry_seen B s (get_or t b 0) ≡ Ok (Some x)) where
    entry_page : PageAt x.place.0 (length s)
    entry_page = let i = seen_believed B s (get_or t b 0) x e in
        record { page = x.place.0 / 256; whole = omega (arith, div-add-mod x.place.0 256, i.place, i.even); inside = omega (arith, i.place, i.inside) }

    module _ {d : Performed} {u : Image} (m : MarkedAt x.place.0 budget d s u) where
      marked : Carried [] (on_page entry_page.page mark_dead) B budget d s u
      marked = m entry_page.page B entry_page.whole

      codes : (code_of d.answer ≡ 0) ⊎ (code_of d.answer ≡ 9)
      codes = go (ltb (budget - 0) (length (on_page entry_page.page mark_dead))) marked.finished.code
        where
          go : (x : Bool) → code_of d.answer ≡ cond x 9 0 → (code_of d.answer ≡ 0) ⊎ (code_of d.answer ≡ 9)
          go true h = inr h
          go false h = inl h

      module _ (k : Kept N B s t) where
        there : There N B s b x.place.0 x.length
        there = seen_there N B s t b k a.number x e

        outcome : performed d u ≡ outcome_of N B s budget (delete b)
        outcome = delete_done N B s budget b there m

        deleted : code_of d.answer ≡ 0 → Kept N B u (set t b 0)
        unfolding performed
        deleted z =
            let code : (outcome_of N B s budget (delete b)).code ≡ 0 = sym (ap (λ (o : Outcome). o.code) outcome) ∙ z in
            let f = ends N B s budget (delete b) (λ n. omega (arith, code)) in
            let image : u ≡ run B (work_of N B s (delete b)).steps s = ap (λ (o : Outcome). o.image) outcome ∙ f.image in
            let c = whole_delete N B s k.size k.fine b (sym f.code ∙ code) in
            let held = read_passed N B s b there.code in
            kept_after N B s u t b 0 k (ap (right_size N B) image ∙ (run_size N B (work_of N B s (delete b)).steps s ∙ k.size)) (ap (state N B) image ∙ c.0) number_inside.0 number_inside.1
            (λ i. ap (λ y. place_entry N B y i) (ap (view N B) image ∙ c.1) ∙ delete_entry N B b (view N B s) (clean_view N B s k.size k.fine) held i)

      delete_writes : {w : Places} → w ≡ noted t b 0 (code_of d.answer) → MountedDelete N B b budget (performed d u) s t w
      unfolding performed among
      delete_writes {w} h = record {
        bound = λ n. absurd (n p);
        listed = λ z. ⊎_elim (λ y. rw y) (λ y. rw y) codes;
        refused = λ n n9. absurd (⊎_elim (λ y. n y) (λ y. n9 y) codes);
        cut = λ y. ap (λ (x : Places). get_or x 0 0) h ∙ noted_unusable t b 0 (code_of d.answer) a.long y;
        past = ap (λ (x : Places). drop least_places x) h ∙ noted_past t b 0 (code_of d.answer) number_inside.1;
        few = omega (arith, marked.finished.count);
        same = λ step. outcome (in_step_kept N B s t step);
        kept = λ step z. kept_in_step N B u w (rw (h ∙ noted_zero t b 0 (code_of d.answer) z) (deleted (in_step_kept N B s t step) z));
      }

-- ---- by the entry

module _ {e : Entry} where
  module _ (budget : ℕ) (d : Performed) (s u : Image) where
    pub marked_at : {f : Option FoundSlot} {x : FoundSlot} → e ≡ Ok f → f ≡ Some x → MarkedAt x.place.0 budget d s u → MarkedEntry e budget d s u
    marked_at {f} {x} o k m = let i : e ≡ Ok (Some x) = rw k at o in subst (λ (y : Entry). MarkedEntry y budget d s u) (sym i) m

    pub marked_absent : {f : Option FoundSlot} → e ≡ Ok f → f ≡ None → Refused NotStored d → u ≡ s → MarkedEntry e budget d s u
    marked_absent {f} o n r k = let i : e ≡ absent = rw n at o in subst (λ (y : Entry). MarkedEntry y budget d s u) (sym i) (r, k)

    pub marked_stale : e ≡ stale → Refused Damaged d → u ≡ s → MarkedEntry e budget d s u
    marked_stale i r k = subst (λ (y : Entry). MarkedEntry y budget d s u) (sym i) (r, k)

module _ (N B : ℕ) (s : Image) (t : Places) (b budget : ℕ) (p : mounted_refusal N B s t b true ≡ 0) where
  pub entry_inside : (e : Entry) → e ≡ entry_seen B s (get_or t b 0) → EntryInside e (length s)
  entry_inside (Ok (Some x)) i = entry_page N B s t b budget p x (sym i)
  entry_inside (Ok None) i = tt
  entry_inside (Err x) i = tt

  -- one that is refused leaves image and table
  stays : (d : Performed) {u : Image} {w : Places} (a : Answer) → code_of d.answer ≡ code_of a → code_of a ≢ 0 → code_of a ≢ 9 → u ≡ s → w ≡ noted t b 0 (code_of d.answer) → MountedDelete N B b budget (performed d s) s t t
      → MountedDelete N B b budget (performed d u) s t w
  stays d {u} {w} a c n m i j h =
      let k : w ≡ t = j ∙ noted_kept t b 0 (code_of d.answer) (λ z. n (sym c ∙ z)) (λ z. m (sym c ∙ z)) in rw (i, k) h

  pub delete_entry_writes : (e : Entry) → e ≡ entry_seen B s (get_or t b 0) → (d : Performed) (u : Image) {w : Places} → MarkedEntry e budget d s u → w ≡ noted t b 0 (code_of d.answer) → MountedDelete N B b budget (performed d u) s t w
  unfolding code_of
  delete_entry_writes (Ok (Some x)) i d u m j = delete_writes N B s t b budget p x (sym i) m j
  delete_entry_writes (Ok None) i d u m j = stays d NotStored m.0.code (λ z. omega arith) (λ z. omega arith) m.1 j (delete_absent N B s t b budget p (sym i) m.0)
  delete_entry_writes (Err x) i d u m j = stays d Damaged m.0.code (λ z. omega arith) (λ z. omega arith) m.1 j (delete_stale N B s t b budget p (sym i) m.0)
