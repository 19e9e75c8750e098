-- Each way a decision goes is right: its plan is in bounds on any image, and on a clean one the put is refused, or planned, as the definitions say.
use Prim.Native.Nat.{ℕ, ◌+◌, ◌-◌, ◌*◌, ◌≤◌, ◌<◌}
use mathlib.Core.Path.{◌≡◌, refl, sym, ap, ap₂, ◌∙◌, subst}
use mathlib.Core.Bool.{Bool, true, false, cond, ◌&&◌, not, true≢false}
use mathlib.Core.List.{flatten}
use native.Mathlib.Omega.{arith}
use lib.ListN.{length}
use lib.Dec.{ltb, leb}
use borrow.Author.Tests.{leb-true, leb-false, ltb-true, lt-leb}
use Rattle.model.specs.Lists.{count}
use Rattle.model.specs.Chip.{Image, most_segments, erase_limit, right_size}
use Rattle.model.specs.Header.{is_former, header_version}
use Rattle.model.specs.State.{View, entries_in, holds, capacity, clean, state, view}
use Rattle.model.specs.Steps.{top_row, top_number, first_empty, compactions, is_worn}
use Rattle.model.specs.Answers.{code_of, is_full}
use Rattle.model.specs.Sequences.{among}
use Rattle.model.proofs.Laws.Chip.{size_facts}
use Rattle.model.specs.declared.SegmentNumber.{SegmentNumber}
use Rattle.model.specs.declared.Answer.{Answer}
use Rattle.model.specs.declared.Answer.TheVariants.{Damaged, Full as FullAnswer, Worn, FormerVersion}
use Rattle.bridge.specs.Predicted.{CleanView}
use Rattle.bridge.specs.Held.{clean_view}
use Rattle.bridge.specs.Refusals.{put_former, put_full, put_worn}
use Rattle.flash.proofs.Pages.{sized}
use Rattle.tally.specs.declared.Tally.{Tally}
use Rattle.tally.specs.Seen.{header_in, tally_seen}
use Rattle.ring.specs.Seen.{Bounded, SeenRing}
use Rattle.ring.specs.declared.Ring.{Ring}
use Rattle.std.specs.Prelude.{Option, None, Some, Result, Ok, Err}
use Rattle.plan.specs.Statuses.{status_rows, first_marked, not_live, FreeFrom}
use Rattle.plan.proofs.Callers.{clean_first_free, clean_compactions, clean_crowded}
use Rattle.room.specs.declared.Plan.{Plan}
use Rattle.room.specs.Room.{Plannable, Full, Planned}
use Rattle.put_answers.specs.Answering.{worn_by}
use Rattle.put_answers.proofs.Laws.{worn_room, worn_same, top_seen, former_same}
use Rattle.mounted_plan.specs.declared.PutPlan.{PutPlan}
use Rattle.mounted_plan.specs.Decided.{full_seen, plan_seen, top_tally, header_decision, Decides}
use Rattle.mounted_plan.proofs.Laws.Space.{few_in_use, two_empty}
use Rattle.mounted_plan.proofs.Laws.Seen.{seen_fits}

-- ---- the segments in use

-- in bounds, and those of a clean image
pub record Ringed (N B : ℕ) (f : SegmentNumber) (u : ℕ) (s : Image) : Type 0 where
  pub some : 1 ≤ u
  pub spare : u + 1 ≤ N
  pub number : f.0 + u ≤ erase_limit * N
  pub first : state N B s ≡ clean → f.0 ≡ (view N B s).first
  pub used : state N B s ≡ clean → u ≡ length (view N B s).slots

first_in : Option Ring → ℕ
first_in (Some x) = x.first.0
first_in None = 0

used_in : Option Ring → ℕ
used_in (Some x) = x.used
used_in None = 0

is_whole : Option Ring → Bool
is_whole (Some x) = true
is_whole None = false

module _ (N B : ℕ) (s : Image) (z : right_size N B s ≡ true) (r : Option Ring) (w : SeenRing N B s r) where
  pub ringed : (x : Ring) → r ≡ Some x → Ringed N B x.first x.used s
  unfolding first_in used_in
  ringed x e =
      let b : Bounded N (Some x) = subst (Bounded N) e w.bounded in record {
        some = b.0;
        spare = b.1;
        number = b.2;
        first = λ c. ap first_in (sym e ∙ w.exact z c);
        used = λ c. ap used_in (sym e ∙ w.exact z c);
      }

  -- no ring: not clean
  pub decided_damaged : (absent : Bool) → r ≡ None → Decides N B absent s (Err Damaged)
  unfolding among code_of is_whole
  decided_damaged absent e = record { any = refl; exact = λ c. absurd (true≢false (ap is_whole (sym (w.exact z c) ∙ e))) }

module _ (N B : ℕ) (s : Image) (z : right_size N B s ≡ true) (f : SegmentNumber) (u : ℕ) (k : Ringed N B f u s) where
  pub number_fits : f.0 + u ≤ erase_limit * most_segments
  number_fits = omega (arith, k.number, (size_facts N B s z).most)

  pub plan_fits : (slot : ℕ) → Plannable N B (record { first = f; used = u; slot = slot; compactions = 0 }) (length s)
  plan_fits slot = record { sized = sized N B s z; some = k.some; spare = k.spare; number = omega (arith, number_fits); few = omega arith }

-- ---- what was seen of a clean image, and the view

module _ (N B : ℕ) (s : Image) (z : right_size N B s ≡ true) (f : SegmentNumber) (u : ℕ) (k : Ringed N B f u s) (n : ℕ) (e : n ≡ f.0 + u - 1) where
  abbrev v : View
  v = view N B s

  abbrev plan_of : ℕ → ℕ → Plan
  plan_of slot times = record { first = f; used = u; slot = slot; compactions = times }

  planned : state N B s ≡ clean → (slot times : ℕ) → slot ≡ first_empty (top_row v.slots) → (Full N B (plan_of slot times) → times ≡ compactions v.slots) → Planned N B (plan_of slot times) s
  planned c slot times a b = record { size = z; state = c; first = k.first c; used = k.used c; slot = a; compactions = b }

  -- the top's version is the image's
  version_same : state N B s ≡ clean → is_former (header_version (header_in N B n s)) ≡ is_former v.version
  unfolding tally_seen
  version_same c =
      let p = plan_of (first_empty (top_row v.slots)) (compactions v.slots) in
      let h : Planned N B p s = planned c (first_empty (top_row v.slots)) (compactions v.slots) refl (λ y. refl) in
      let t = tally_seen (header_version (header_in N B n s)) in
      former_same N B p s h t (top_seen N B p s h n t e refl)

  pub decided_former : (absent t : Bool) → t ≡ is_former (header_version (header_in N B n s)) → t ≡ true → Decides N B absent s (Err FormerVersion)
  unfolding among code_of
  decided_former absent t o h = record { any = refl; exact = λ c b a d m l. (put_former N B s z b d m l c (sym (version_same c) ∙ (sym o ∙ h)), refl) }

  module _ (slot : ℕ) (free : FreeFrom N B n s slot) (t : Bool) (o : t ≡ is_former (header_version (header_in N B n s))) (l : t ≡ false) where
    abbrev p : Plan
    p = plan_of slot 0

    slot_same : state N B s ≡ clean → slot ≡ first_empty (top_row v.slots)
    unfolding top_number
    slot_same c = clean_first_free N B s z c n (omega (arith, e, k.first c, k.used c)) free

    second : state N B s ≡ clean → is_former v.version ≡ false
    second c = sym (version_same c) ∙ (sym o ∙ l)

    -- ---- full

    abbrev crowded : Bool
    crowded = leb (count not_live (flatten (status_rows N B s u f.0))) 1

    live_same : state N B s ≡ clean → (leb N (u + 1) && (leb B (slot + 1) && crowded)) ≡ leb (capacity N B) (length (entries_in v))
    live_same c = go (leb N (u + 1)) (leb B (slot + 1)) refl refl
      where
        fine : CleanView N B v
        fine = clean_view N B s z c

        go : (x y : Bool) → leb N (u + 1) ≡ x → leb B (slot + 1) ≡ y → (x && (y && crowded)) ≡ leb (capacity N B) (length (entries_in v))
        go false y g h = sym (lt-leb (capacity N B) (length (entries_in v)) (few_in_use N B (size_facts N B s z).slots v fine (omega (arith, leb-false N (u + 1) g, k.used c))))
        go true false g h = sym (lt-leb (capacity N B) (length (entries_in v)) (two_empty N B (size_facts N B s z).slots v fine (omega (arith, leb-false B (slot + 1) h, slot_same c))))
        go true true g h = clean_crowded N B s z c f.0 u (k.first c) (k.used c) (omega (arith, leb-true N (u + 1) g, k.used c, k.spare)) refl

    module _ (absent : Bool) (full : Bool) (x : full ≡ full_seen N B absent p s) where
      full_same : state N B s ≡ clean → (b : ℕ) → absent ≡ not (holds b (entries_in v)) → full ≡ is_full N B b v
      unfolding full_seen is_full
      full_same c b a = x ∙ ap₂ ◌&&◌ a (live_same c)

      pub decided_full : full ≡ true → Decides N B absent s (Err FullAnswer)
      unfolding among code_of
      decided_full h = record { any = refl; exact = λ c b a d m g. (put_full N B s z b d m g (second c) c (sym (full_same c b a) ∙ h), refl) }

      module _ (h : full ≡ false) where
        -- ---- an empty slot in the top

        pub decided_there : slot < B → Decides N B absent s (Ok (record { plan = plan_of slot 0; total = 0 }))
        decided_there i = record {
          any = plan_fits N B s z f u k slot;
          exact = λ c b a.
              let y = planned c slot 0 (slot_same c) (λ q. absurd (omega (arith, q.top, i))) in record {
                plan = y;
                second = second c;
                space = sym (full_same c b a) ∙ h;
                fresh = there_fresh c y;
                tally = λ q. absurd (omega (arith, q, i));
              };
        }
          where
            none : Tally
            none = record { former = false; count = 0; no_bit_left = false }

            there_fresh : (c : state N B s ≡ clean) → Planned N B p s → is_worn N v ≡ false
            there_fresh c y = sym (worn_same N B p s y none (λ q. absurd (omega (arith, q, i)))) ∙ sym (worn_room N B p none i)

        -- ---- a new header

        abbrev q : Plan
        q = plan_seen N B p s

        q_planned : state N B s ≡ clean → Planned N B q s
        unfolding plan_seen
        q_planned c = go (ltb (u + 1) N) refl
          where
            go : (t : Bool) → ltb (u + 1) N ≡ t → Planned N B (cond t p (plan_of slot (first_marked (status_rows N B s u f.0)))) s
            go true g = planned c slot 0 (slot_same c) (λ y. absurd (omega (arith, ltb-true (u + 1) N g, y.used)))
            go false g = planned c slot (first_marked (status_rows N B s u f.0)) (slot_same c) (λ y. clean_compactions N B s z c f.0 u (k.first c) (k.used c) refl)

        tally_same : state N B s ≡ clean → top_tally N B p s ≡ tally_seen v.version
        unfolding top_tally
        tally_same c = top_seen N B q s (q_planned c) (f.0 + u - 1) (top_tally N B p s) (top_same c) refl
          where
            top_same : state N B s ≡ clean → f.0 + u - 1 ≡ q.first.0 + q.used - 1
            top_same c = let y = q_planned c in omega (arith, y.first, y.used, k.first c, k.used c)

        worn_seen : state N B s ≡ clean → worn_by N B q (top_tally N B p s) ≡ is_worn N v
        worn_seen c = worn_same N B q s (q_planned c) (top_tally N B p s) (λ y. tally_same c)

        pub decided_header : (d : Result PutPlan Answer) → d ≡ header_decision N B p s → Decides N B absent s d
        unfolding header_decision among code_of tally_seen
        decided_header d g = subst (Decides N B absent s) (sym g) (go (worn_by N B q (top_tally N B p s)) refl)
          where
            go : (t : Bool) → worn_by N B q (top_tally N B p s) ≡ t → Decides N B absent s (cond t (Err Worn) (Ok (record { plan = q; total = (top_tally N B p s).count })))
            go true y = record { any = refl; exact = λ c b a d m i. (put_worn N B s z b d m i (second c) c (sym (full_same c b a) ∙ h) (sym (worn_seen c) ∙ y), refl) }
            go false y = record {
              any = seen_fits N B p s (plan_fits N B s z f u k slot);
              exact = λ c b a. record {
                plan = q_planned c;
                second = second c;
                space = sym (full_same c b a) ∙ h;
                fresh = sym (worn_seen c) ∙ y;
                tally = λ i. ap (λ (x : Tally). x.count) (tally_same c);
              };
            }
