-- A mounted read, by what refuses it and by what the table's entry says.
use Prim.Native.Nat.{ℕ, ◌+◌, ◌*◌}
use mathlib.Core.Path.{◌≡◌, refl, sym, ap, ◌∙◌}
use mathlib.Core.Logic.{◌≢◌}
use mathlib.Core.Bool.{Bool, true, false, cond, not}
use mathlib.Core.List.{[], ◌∷◌}
use native.Mathlib.Omega.{arith}
use lib.ListN.{length, get_or}
use borrow.Author.Tests.{le-ltb}
use Rattle.model.specs.Chip.{Image}
use Rattle.model.specs.Slot.{most_contents, number_ok}
use Rattle.model.specs.State.{holds, entries_in, place_of, view}
use Rattle.model.specs.Steps.{slot_at}
use Rattle.model.specs.Table.{lookup, contents_found}
use Rattle.model.specs.Answers.{code_of, ◌when◌, first_of}
use Rattle.model.specs.Sequences.{among}
use Rattle.model.specs.declared.Answer.{Answer}
use Rattle.model.specs.declared.Answer.TheVariants.{Damaged, Absent as NotStored}
use Rattle.model.specs.Mounted.{Places, least_places, mounted_refusals, mounted_refusal, MountedRead}
use Rattle.bridge.specs.Refusals.{read_number, read_absent, read_found}
use Rattle.std.specs.Prelude.{Some, Ok}
use Rattle.find.specs.declared.FoundSlot.{FoundSlot}
use Rattle.find.specs.Search.{slot_found}
use Rattle.places.specs.Places.{absent, stale, entry_seen}
use Rattle.bridge.specs.Mounting.{Kept, in_step_kept}
use Rattle.places.proofs.Laws.Found.{found_entry, kept_seen}
use Rattle.places.proofs.Laws.Seen.{Believed, seen_believed}
use Rattle.looking.specs.Look.{There, Kept as Refuses}
use Rattle.store.proofs.Laws.Requests.{read_refused, read_there}
use Rattle.mounted_read.proofs.Laws.Refusals.{passed}

-- ---- in step

-- only the block's number and the contents' length refuse a call there
pub kept_refusal : (N B : ℕ) (s : Image) (t : Places) (b : ℕ) (taken : Bool) → Kept N B s t → mounted_refusal N B s t b taken ≡ cond (number_ok b) (cond taken 0 3) 2
unfolding mounted_refusal mounted_refusals first_of
kept_refusal N B s t b taken k = rw (k.size, le-ltb (length t) least_places k.long, k.usable) (go (number_ok b) taken)
  where
    go : (n m : Bool) → first_of ((1 when false) ∷ (10 when false) ∷ (2 when not n) ∷ (3 when not m) ∷ (5 when false) ∷ []) ≡ cond n (cond m 0 3) 2
    go true true = refl
    go true false = refl
    go false m = refl

module _ (N B : ℕ) (s : Image) (t : Places) (b : ℕ) (k : Kept N B s t) where
  -- what a read or a delete is refused for before the table is looked at
  pub refuses_absent : (a : Answer) → code_of a ≡ mounted_refusal N B s t b true → mounted_refusal N B s t b true ≢ 0 → Refuses N B s b a
  refuses_absent a e h = go (number_ok b) refl
    where
      r : mounted_refusal N B s t b true ≡ cond (number_ok b) 0 2
      r = kept_refusal N B s t b true k

      go : (n : Bool) → number_ok b ≡ n → Refuses N B s b a
      go true n = absurd (h (r ∙ rw n))
      go false n = let two : code_of a ≡ 2 = e ∙ (r ∙ rw n) in record { code = read_number N B s k.size b n ∙ sym two; some = rw two }

  -- where the block's slot is, and the length of its contents
  abbrev slot : ℕ
  slot = slot_at N B (place_of b (view N B s)).number (place_of b (view N B s)).slot * 256

  abbrev size : ℕ
  size = length (contents_found (lookup b (entries_in (view N B s))))

  module _ (n : number_ok b ≡ true) where
    seen : entry_seen B s (get_or t b 0) ≡ found_entry N B b (view N B s)
    seen = kept_seen N B b s t k n

    pub seen_there : (x : FoundSlot) → entry_seen B s (get_or t b 0) ≡ Ok (Some x) → There N B s b x.place.0 x.length
    seen_there x e = go (holds b (entries_in (view N B s))) refl
      where
        i : Believed B s (get_or t b 0) x
        i = seen_believed B s (get_or t b 0) x e

        go : (y : Bool) → holds b (entries_in (view N B s)) ≡ y → There N B s b x.place.0 x.length
        go true h = let q : Ok (Some x) ≡ Ok (slot_found slot size) = sym e ∙ (seen ∙ rw h) in record {
          code = read_found N B s k.size b n k.fine h;
          place = let z : x ≡ record { place = record { 0 = slot }; length = size } = cc in ap (λ (y : FoundSlot). y.place.0) z;
          count = let z : x ≡ record { place = record { 0 = slot }; length = size } = cc in ap (λ (y : FoundSlot). y.length) z;
          inside = omega (arith, i.place, i.inside);
          short = i.short;
        }
        go false h = let q : Ok (Some x) ≡ absent = sym e ∙ (seen ∙ rw h) in absurd (let z : ◌≡◌ {A = ℕ} 0 1 = cc in omega arith)

    pub seen_none : entry_seen B s (get_or t b 0) ≡ absent → holds b (entries_in (view N B s)) ≡ false
    seen_none e = go (holds b (entries_in (view N B s))) refl
      where
        go : (x : Bool) → holds b (entries_in (view N B s)) ≡ x → x ≡ false
        go false h = refl
        go true h = let q : absent ≡ Ok (slot_found slot size) = sym e ∙ (seen ∙ rw h) in absurd (let z : ◌≡◌ {A = ℕ} 0 1 = cc in omega arith)

    pub seen_absent : entry_seen B s (get_or t b 0) ≡ absent → Refuses N B s b NotStored
    unfolding code_of
    seen_absent e = record { code = read_absent N B s k.size b n k.fine (seen_none e); some = refl }

    pub seen_stale : entry_seen B s (get_or t b 0) ≡ stale → ⊥
    seen_stale e = go (holds b (entries_in (view N B s))) refl
      where
        go : (x : Bool) → holds b (entries_in (view N B s)) ≡ x → ⊥
        go true h = let q : stale ≡ Ok (slot_found slot size) = sym e ∙ (seen ∙ rw h) in let z : ◌≡◌ {A = ℕ} 0 1 = cc in omega arith
        go false h = let q : stale ≡ absent = sym e ∙ (seen ∙ rw h) in let z : ◌≡◌ {A = ℕ} 0 1 = cc in omega arith

-- ---- the contract

module _ (N B : ℕ) (s : Image) (t : Places) (b : ℕ) where
  -- refused before the table is looked at
  pub read_bound : (a : Answer) → code_of a ≡ mounted_refusal N B s t b true → mounted_refusal N B s t b true ≢ 0 → MountedRead N B b (record { code = code_of a; offset = 0; length = 0 }) s t
  read_bound a e h = record {
    bound = λ n. e;
    listed = λ z. absurd (h z);
    refused = λ n. (refl, refl);
    inside = (omega arith, omega arith);
    same = λ step. let k = in_step_kept N B s t step in read_refused N B s b a (refuses_absent N B s t b k a e h);
  }

  module _ (p : mounted_refusal N B s t b true ≡ 0) where
    pub read_absent_entry : entry_seen B s (get_or t b 0) ≡ absent → MountedRead N B b (record { code = code_of NotStored; offset = 0; length = 0 }) s t
    unfolding code_of among
    read_absent_entry e = record {
      bound = λ n. absurd (n p);
      listed = λ z. refl;
      refused = λ n. (refl, refl);
      inside = (omega arith, omega arith);
      same = λ step. read_refused N B s b NotStored (seen_absent N B s t b (in_step_kept N B s t step) (passed N B s t b true p).number e);
    }

    pub read_stale_entry : entry_seen B s (get_or t b 0) ≡ stale → MountedRead N B b (record { code = code_of Damaged; offset = 0; length = 0 }) s t
    unfolding code_of among
    read_stale_entry e = record {
      bound = λ n. absurd (n p);
      listed = λ z. refl;
      refused = λ n. (refl, refl);
      inside = (omega arith, omega arith);
      same = λ step. absurd (seen_stale N B s t b (in_step_kept N B s t step) (passed N B s t b true p).number e);
    }

    pub read_entry : (x : FoundSlot) → entry_seen B s (get_or t b 0) ≡ Ok (Some x) → MountedRead N B b (record { code = 0; offset = x.place.0 + 8; length = x.length }) s t
    unfolding among most_contents
    read_entry x e = let i = seen_believed B s (get_or t b 0) x e in record {
      bound = λ n. absurd (n p);
      listed = λ z. refl;
      refused = λ n. absurd (n refl);
      inside = (omega (arith, i.place, i.inside, i.short), i.short);
      same = λ step. read_there N B s b x.place.0 x.length (seen_there N B s t b (in_step_kept N B s t step) (passed N B s t b true p).number x e);
    }
