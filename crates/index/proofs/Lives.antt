-- The live slots that an account has lines for stand in the image, each on a page of its own.
use Rattle.std.specs.Prelude.{ℕ, zero, suc, ◌+◌, ◌*◌, ◌≤◌, ◌<◌, ◌≡◌, refl, ◌≢◌, length, take, drop}
use Rattle.std.proofs.Common.{sym, ap, subst, arith, drop-drop}
use mathlib.Core.List.{List, [], ◌∷◌, ◌++◌, map}
use Rattle.model.specs.Lists.{chunk}
use Rattle.model.specs.Chip.{Image}
use Rattle.model.specs.Slot.{Slot, empty, torn, dead, cut, wrong, live, most_contents, slot_of, kind_of, entry_of}
use Rattle.model.proofs.Laws.SlotPage.{live_facts, number_below}
use Rattle.judge.specs.Rows.{slots_at}
use Rattle.account_text.specs.Account.{LiveSlot, live_at, live_from}
use Rattle.index.specs.Tables.{page_of, Brief, Stands, AllStand}
use Rattle.index.proofs.Chains.{Free, AllApart}

-- ---- lists of live slots

-- each of them has a property
abbrev pub Each : (LiveSlot → Type 0) → List LiveSlot → Type 0
Each P [] = Unit {0}
Each P (e ∷ r) = P e × Each P r

pub each_join : (P : LiveSlot → Type 0) (x y : List LiveSlot) → Each P x → Each P y → Each P (x ++ y)
each_join P [] y h k = k
each_join P (e ∷ x) y h k = (h.0, each_join P x y h.1 k)

pub each_more : (P Q : LiveSlot → Type 0) → ((e : LiveSlot) → P e → Q e) → (r : List LiveSlot) → Each P r → Each Q r
each_more P Q f [] h = h
each_more P Q f (e ∷ r) h = (f e h.0, each_more P Q f r h.1)

pub all_stand : (N B : ℕ) (r : List LiveSlot) → Each (λ e. Stands N B e) r → AllStand N B r
all_stand N B [] h = h
all_stand N B (e ∷ r) h = (h.0, all_stand N B r h.1)

pub free_each : (B q : ℕ) (r : List LiveSlot) → Each (λ e. page_of B e ≢ q) r → Free B q r
free_each B q [] h = h
free_each B q (e ∷ r) h = (h.0, free_each B q r h.1)

free_join : (B q : ℕ) (x y : List LiveSlot) → Free B q x → Free B q y → Free B q (x ++ y)
free_join B q [] y h k = k
free_join B q (e ∷ x) y h k = (h.0, free_join B q x y h.1 k)

pub apart_join : (B : ℕ) (x y : List LiveSlot) → AllApart B x → AllApart B y → Each (λ e. Free B (page_of B e) y) x → AllApart B (x ++ y)
apart_join B [] y h k c = k
apart_join B (e ∷ x) y h k c = (free_join B (page_of B e) x y h.0 c.0, apart_join B x y h.1 k c.1)

-- ---- the live slots of one segment

-- those of segment i have its index and stand from place j on
abbrev pub From : ℕ → ℕ → LiveSlot → Type 0
From i j e = (e.segment ≡ i) × (j ≤ e.slot)

pub from_all : (i j : ℕ) (ks : List Slot) → Each (λ e. From i j e) (live_from i j ks)
unfolding live_from live_at entry_of map
from_all i j [] = tt
from_all i j (empty ∷ ks) = each_more (λ e. From i (suc j) e) (λ e. From i j e) (λ e h. (h.0, omega (arith, h.1))) (live_from i (suc j) ks) (from_all i (suc j) ks)
from_all i j (torn ∷ ks) = each_more (λ e. From i (suc j) e) (λ e. From i j e) (λ e h. (h.0, omega (arith, h.1))) (live_from i (suc j) ks) (from_all i (suc j) ks)
from_all i j (dead ∷ ks) = each_more (λ e. From i (suc j) e) (λ e. From i j e) (λ e h. (h.0, omega (arith, h.1))) (live_from i (suc j) ks) (from_all i (suc j) ks)
from_all i j (cut ∷ ks) = each_more (λ e. From i (suc j) e) (λ e. From i j e) (λ e h. (h.0, omega (arith, h.1))) (live_from i (suc j) ks) (from_all i (suc j) ks)
from_all i j (wrong ∷ ks) = each_more (λ e. From i (suc j) e) (λ e. From i j e) (λ e h. (h.0, omega (arith, h.1))) (live_from i (suc j) ks) (from_all i (suc j) ks)
from_all i j (live b c ∷ ks) = ((refl, omega arith), each_more (λ e. From i (suc j) e) (λ e. From i j e) (λ e h. (h.0, omega (arith, h.1))) (live_from i (suc j) ks) (from_all i (suc j) ks))

pub apart_from : (B i j : ℕ) (ks : List Slot) → AllApart B (live_from i j ks)
unfolding live_from live_at entry_of map page_of
apart_from B i j [] = tt
apart_from B i j (empty ∷ ks) = apart_from B i (suc j) ks
apart_from B i j (torn ∷ ks) = apart_from B i (suc j) ks
apart_from B i j (dead ∷ ks) = apart_from B i (suc j) ks
apart_from B i j (cut ∷ ks) = apart_from B i (suc j) ks
apart_from B i j (wrong ∷ ks) = apart_from B i (suc j) ks
apart_from B i j (live b c ∷ ks) =
    (free_each B (i * (B + 1) + j) (live_from i (suc j) ks) (each_more (λ e. From i (suc j) e) (λ e. page_of B e ≢ i * (B + 1) + j) (λ e h z. omega (arith, ap (λ (k : ℕ). k * (B + 1)) h.0, h.1, z)) (live_from i (suc j) ks) (from_all i (suc j) ks)), apart_from B i (suc j) ks)

pub from_few : (i j : ℕ) (ks : List Slot) → length (live_from i j ks) ≤ length ks
unfolding live_from live_at entry_of map
from_few i j [] = omega arith
from_few i j (empty ∷ ks) = let h = from_few i (suc j) ks in omega arith
from_few i j (torn ∷ ks) = let h = from_few i (suc j) ks in omega arith
from_few i j (dead ∷ ks) = let h = from_few i (suc j) ks in omega arith
from_few i j (cut ∷ ks) = let h = from_few i (suc j) ks in omega arith
from_few i j (wrong ∷ ks) = let h = from_few i (suc j) ks in omega arith
from_few i j (live b c ∷ ks) = let h = from_few i (suc j) ks in omega arith

pub short_byte : (n : ℕ) → n ≤ most_contents → n < 256
unfolding most_contents
short_byte n h = omega arith

-- a page's slot has contents of at most 248 bytes
pub brief : (p : List ℕ) → Brief (kind_of (slot_of p))
brief p = go (slot_of p) refl
  where
    go : (k : Slot) → slot_of p ≡ k → Brief (kind_of k)
    go empty e = unfold kind_of in tt
    go torn e = unfold kind_of in tt
    go dead e = unfold kind_of in tt
    go cut e = unfold kind_of in tt
    go wrong e = unfold kind_of in tt
    go (live b c) e = unfold kind_of in (short_byte (length c) (live_facts p b c e).short)

-- a live slot of a page of the image
pub live_stands : (N B i j : ℕ) (s : Image) (b : ℕ) (c : List ℕ) → i < N → 1 ≤ j → j ≤ B → slot_of (take 256 (drop ((i * (B + 1) + j) * 256) s)) ≡ live b c
    → Stands N B (record { block = b; contents = c; segment = i; slot = j })
unfolding page_of
live_stands N B i j s b c h l m e =
    let o = (i * (B + 1) + j) * 256 in
    let f = live_facts (take 256 (drop o s)) b c e in
    let n = number_below b f.number in
    let k = short_byte (length c) f.short in
    record { block = omega arith; segment = h; first = l; slot = m; length = k }

pub slots_next : (s : Image) (o c : ℕ) → slots_at s o (suc c) ≡ slot_of (take 256 (drop o s)) ∷ slots_at s (o + 256) c
unfolding slots_at chunk
slots_next s o c = rw (drop-drop 256 o s)

-- what holds of every live slot that a page of segment i is, holds of those of the segment
pub row_each : (P : LiveSlot → Type 0) (B i : ℕ) (s : Image) → ((j b : ℕ) (c : List ℕ) → 1 ≤ j → j ≤ B → slot_of (take 256 (drop ((i * (B + 1) + j) * 256) s)) ≡ live b c → P (record { block = b; contents = c; segment = i; slot = j }))
    → (c j : ℕ) → 1 ≤ j → j + c ≤ B + 1 → Each P (live_from i j (slots_at s ((i * (B + 1) + j) * 256) c))
row_each P B i s f zero j l m = unfold slots_at chunk map live_from in tt
row_each P B i s f (suc c) j l m =
    let o = (i * (B + 1) + j) * 256 in
    let e : o + 256 ≡ (i * (B + 1) + suc j) * 256 = omega arith in
    let ih : Each P (live_from i (suc j) (slots_at s (o + 256) c)) =
    subst (λ (k : ℕ). Each P (live_from i (suc j) (slots_at s k c))) (sym e) (row_each P B i s f c (suc j) (omega arith) (omega arith)) in
    subst (λ (ks : List Slot). Each P (live_from i j ks)) (sym (slots_next s o c)) (go (slot_of (take 256 (drop o s))) refl ih)
  where
    go : (k : Slot) → slot_of (take 256 (drop ((i * (B + 1) + j) * 256) s)) ≡ k → Each P (live_from i (suc j) (slots_at s ((i * (B + 1) + j) * 256 + 256) c))
        → Each P (live_from i j (k ∷ slots_at s ((i * (B + 1) + j) * 256 + 256) c))
    go empty q k = unfold live_from live_at entry_of map in k
    go torn q k = unfold live_from live_at entry_of map in k
    go dead q k = unfold live_from live_at entry_of map in k
    go cut q k = unfold live_from live_at entry_of map in k
    go wrong q k = unfold live_from live_at entry_of map in k
    go (live b d) q k = unfold live_from live_at entry_of map in (f j b d l (omega arith) q, k)

pub row_stands : (N B i : ℕ) (s : Image) → i < N → (c j : ℕ) → 1 ≤ j → j + c ≤ B + 1 → Each (λ e. Stands N B e) (live_from i j (slots_at s ((i * (B + 1) + j) * 256) c))
row_stands N B i s h = row_each (λ e. Stands N B e) B i s (λ j b c l m e. live_stands N B i j s b c h l m e)
