-- What a lookup sees in a table that is in step: the block's live slot and the length of its contents, or that the block is not stored.
use Prim.Native.Nat.{ℕ, suc, ◌+◌, ◌*◌, ◌/◌, ◌%◌, ◌<◌}
use mathlib.Core.Path.{◌≡◌, refl, sym, ap, ◌∙◌, subst}
use mathlib.Core.Bool.{Bool, true, false, cond}
use mathlib.Core.List.{List, [], ◌∷◌, flatten}
use native.Mathlib.Omega.{arith}
use native.Mathlib.Nat.{mod-lt, mod-eq_of_lt, mul-add-mod_self_right, mul-le-mul_right, suc-mul}
use lib.ListN.{length, get_or}
use lib.Dec.{ltb}
use borrow.Author.Tests.{eq-eqb, ltb-true}
use Rattle.model.specs.Chip.{Image, Page, image_length}
use Rattle.model.specs.Slot.{number_ok, most_contents, slot_page, Slot, live, slot_of, entry_of}
use Rattle.model.specs.State.{View, entries, entries_in, holds, Place, place_of, view}
use Rattle.model.specs.Steps.{slot_at}
use Rattle.model.specs.Table.{lookup, contents_found}
use Rattle.model.specs.Mounted.{Places, place_entry}
use Rattle.model.specs.Laws.Lists.{and_left}
use Rattle.model.proofs.Laws.Chip.{size_facts}
use Rattle.model.proofs.Laws.Segments.{part_of, page_byte}
use Rattle.model.proofs.Laws.SlotPage.{live_facts, number_below}
use Rattle.model.proofs.Laws.Tables.{lookup_append}
use Rattle.bridge.specs.Held.{Held, held_lengths, held_of_clean}
use Rattle.bridge.specs.Views.Places.{FirstLive, first_live, earlier, later, fill_entries, InView, in_view}
use Rattle.std.specs.Prelude.{Ok}
use Rattle.find.specs.Search.{slot_found}
use Rattle.places.specs.Places.{Entry, absent, entry_seen}
use Rattle.places.proofs.Laws.Seen.{Believed, seen_absent, believed_seen}
use Rattle.bridge.specs.Mounting.{Kept, live_page}

-- ---- where a stored block's slot lies

module _ (N B b : ℕ) (s : Image) (v : View) (h : Held N B s v) (f : FirstLive b v.first v.slots) where
  -- a place that is believed, with the length of the contents
  abbrev Stored : ℕ → Type 0
  Stored e = Believed B s e (record { place = record { 0 = e }; length = length (contents_found (lookup b (entries_in v))) })

  abbrev c : List ℕ
  c = f.contents

  abbrev n : ℕ
  n = v.first + length f.gap.rows_before

  abbrev j : ℕ
  j = length f.gap.before

  i : InView B v f.gap (live b c)
  i = in_view B v f.gap (live b c) f.split (held_lengths N B s v h)

  contents : contents_found (lookup b (entries_in v)) ≡ c
  unfolding entries_in entry_of lookup contents_found
  contents =
      ap (λ (r : List (List Slot)). contents_found (lookup b (entries (flatten r)))) f.split
      ∙ rw (fill_entries f.gap (live b c), lookup_append b (entries (earlier f.gap)) (record { block = b; contents = c } ∷ entries (later f.gap)), f.first, eq-eqb b b refl)

  here : n % N < N
  here = mod-lt n {m = N} (omega (arith, (size_facts N B s h.size).two))

  page : slot_of (get_or (part_of N B (n % N) s) (suc j) []) ≡ live b c
  page = live_page N B b s v h f

  byte : get_or s ((n % N * (B + 1) + suc j) * 256 + 1) 0 ≡ length c
  byte = sym (page_byte N B (n % N) (suc j) 1 s here (omega (arith, i.short)) (omega arith)) ∙ (ap (λ (p : Page). get_or p 1 0) (live_facts (get_or (part_of N B (n % N) s) (suc j) []) b c page).page ∙ (unfold slot_page in refl))

  -- no header page: the remainder is the slot's page in its segment
  remainder : (n % N * (B + 1) + suc j) * 256 / 256 % (B + 1) ≡ suc j
  remainder =
      let d : (n % N * (B + 1) + suc j) * 256 / 256 ≡ n % N * (B + 1) + suc j = omega arith in
      rw d (mul-add-mod_self_right (n % N) (B + 1) (suc j) ∙ mod-eq_of_lt {n = suc j} {m = B + 1} (omega (arith, i.short)))

  stored : Stored ((n % N * (B + 1) + suc j) * 256)
  unfolding image_length most_contents
  stored = record {
    place = refl;
    some = λ q. omega arith;
    even = omega arith;
    slot = λ q. omega (arith, remainder, q);
    inside = omega (arith, (size_facts N B s h.size).whole, mul-le-mul_right (B + 1) here, suc-mul (n % N) (B + 1), i.short);
    long = ap length contents ∙ sym byte;
    short = omega (arith, ap length contents, (live_facts (get_or (part_of N B (n % N) s) (suc j) []) b c page).short);
  }

  stored_first : Stored (slot_at N B (place_of b v).number (place_of b v).slot * 256)
  unfolding slot_at place_of
  stored_first = subst (λ (p : Place). Stored ((p.number % N * (B + 1) + suc p.slot) * 256)) (sym f.place) stored

pub stored_place : (N B b : ℕ) (s : Image) (v : View) → Held N B s v → holds b (entries_in v) ≡ true
    → let e = slot_at N B (place_of b v).number (place_of b v).slot * 256 in Believed B s e (record { place = record { 0 = e }; length = length (contents_found (lookup b (entries_in v))) })
unfolding entries_in
stored_place N B b s v h e = stored_first N B b s v h (first_live b v.first v.slots e)

-- ---- the lookup

-- what a lookup of block b finds in a view
abbrev pub found_entry : ℕ → ℕ → ℕ → View → Entry
found_entry N B b v = cond (holds b (entries_in v)) (Ok (slot_found (slot_at N B (place_of b v).number (place_of b v).slot * 256) (length (contents_found (lookup b (entries_in v)))))) absent

pub entry_seen_lem : (N B b : ℕ) (s : Image) (v : View) → Held N B s v → entry_seen B s (place_entry N B v b) ≡ found_entry N B b v
unfolding place_entry
entry_seen_lem N B b s v h = go (holds b (entries_in v)) refl
  where
    go : (x : Bool) → holds b (entries_in v) ≡ x → entry_seen B s (place_entry N B v b) ≡ found_entry N B b v
    go true e = rw e (believed_seen B s (slot_at N B (place_of b v).number (place_of b v).slot * 256) _ (stored_place N B b s v h e))
    go false e = rw e (sym (seen_absent B s 0 refl))

pub number_above : (b : ℕ) → number_ok b ≡ true → 0 < b
unfolding number_ok
number_above b h = ltb-true 0 b (and_left (ltb 0 b) (ltb b 65535) h)

-- in a table that is in step
pub kept_seen : (N B b : ℕ) (s : Image) (t : Places) → Kept N B s t → number_ok b ≡ true → entry_seen B s (get_or t b 0) ≡ found_entry N B b (view N B s)
kept_seen N B b s t k o =
    rw (k.entry b (number_above b o) (omega (arith, number_below b o))) (entry_seen_lem N B b s (view N B s) (held_of_clean N B s k.size k.fine))
