-- What the sums of rows say: the live slots, the compactions, the ending, and of the top its written slots and its last live block.
use Rattle.std.specs.Prelude.{ℕ, suc, ◌+◌, ◌<◌, ◌≡◌, Bool, true, false, cond, ◌||◌, ◌&&◌, not, length, ltb}
use Rattle.std.proofs.Math.Path.{refl}
use Rattle.std.proofs.Common.{sym, ap, ◌∙◌, true≢false, length-set, length-append, eq-eqb, ne_eqb, lt-ltb, le-ltb}
use Rattle.std.proofs.lemmas.Bool.{false≢true}
use mathlib.Core.List.{List, [], ◌∷◌, ◌++◌, map, flat_map, flatten, append-nil, append_assoc}
use native.Mathlib.Omega.{arith}
use Rattle.std.proofs.Math.Decide.{ℕ_discrete}
use Rattle.std.proofs.lemmas.List.{length-replicate}
use Rattle.model.specs.Lists.{count}
use Rattle.model.specs.Slot.{Slot, empty, torn, dead, cut, wrong, live, is_empty, is_dead, is_cut, is_replaced, kind_of, Entry, entry_of}
use Rattle.model.specs.State.{entries, holds}
use Rattle.model.specs.Steps.{compactions}
use Rattle.bridge.specs.Views.Slots.{none_dead, entries_append}
use Rattle.judge.specs.declared.Ending.{Ending}
use Rattle.judge.specs.declared.Ending.TheVariants.{Full, Room, TornLast, TwinLast, Bad}
use Rattle.judge.specs.declared.Row.{Row}
use Rattle.judge.specs.declared.Sum.{Sum}
use Rattle.judge.specs.Bitmap.{in_bits, put_bit}
use Rattle.judge.specs.BitLaws.{in_same, in_other, in_none}
use Rattle.judge.specs.Endings.{behind, leave_room, turn, judge, ring, is_bad, ends_torn}
use Rattle.judge.specs.Rows.{pass, see, see_all, no_row}
use Rattle.judge.specs.Tally.{none_met, tallies, written_in, add_row, add_rows}
use Rattle.model.specs.Laws.Lists.{none_count, some_count}
use Rattle.model.proofs.Laws.Tables.{holds_append}

-- block numbers are not 0 and have 16 bits
abbrev pub Narrow : List Slot → Type 0
Narrow [] = Unit {0}
Narrow (empty ∷ s) = Narrow s
Narrow (torn ∷ s) = Narrow s
Narrow (dead ∷ s) = Narrow s
Narrow (cut ∷ s) = Narrow s
Narrow (wrong ∷ s) = Narrow s
Narrow (live b c ∷ s) = ((0 < b) × (b < 65536)) × Narrow s

abbrev pub NarrowRows : List (List Slot) → Type 0
NarrowRows [] = Unit {0}
NarrowRows (x ∷ r) = Narrow x × NarrowRows r

-- the set of numbers met is that of the entries
pub record Agree (s : List ℕ) (p : List Entry) : Type 0 where
  pub long : length s ≡ 1024
  pub same : (x : ℕ) → x < 65536 → in_bits 64 s x ≡ holds x p

pub agree_none : Agree none_met []
unfolding holds
agree_none = record { long = length-replicate {A = ℕ} 1024 0; same = λ x h. in_none 64 1024 x }

or-false : (t : Bool) → (t || false) ≡ t
or-false true = refl
or-false false = refl

or-true : (t : Bool) → (t || true) ≡ true
or-true true = refl
or-true false = refl

pub agree_put : (s : List ℕ) (p : List Entry) (e : Entry) → e.block < 65536 → Agree s p → Agree (put_bit 64 s e.block) (p ++ (e ∷ []))
unfolding put_bit
agree_put s p e h a = record {
  long = length-set s _ _ ∙ a.long;
  same = λ x k. elim (ℕ_discrete x e.block) [
    | yes q ↦ rw (q, in_same 64 s e.block (omega (arith, a.long)), holds_append e.block p (e ∷ [])) (unfold holds in rw (eq-eqb e.block e.block refl) (sym (or-true (holds e.block p))))
    | no q ↦ rw (in_other 64 s e.block x q, holds_append x p (e ∷ []), a.same x k) (unfold holds in rw (ne_eqb x e.block q) (sym (or-false (holds x p))))
  ];
}

pub agree_same : {s : List ℕ} {p : List Entry} → Agree s p → Agree s (p ++ [])
agree_same {s} {p} a = rw (append-nil p) a

-- ---- endings

-- what ends by the rules: all before is full, and what follows ends so by itself
behind_good : (e d : Ending) → is_bad (behind e d) ≡ false → e ≡ Full
unfolding behind is_bad
behind_good Full d h = refl
behind_good Room d h = absurd (true≢false h)
behind_good TornLast d h = absurd (true≢false h)
behind_good TwinLast d h = absurd (true≢false h)
behind_good Bad d h = absurd (true≢false h)

behind_last : (e d : Ending) → is_bad (behind e d) ≡ false → is_bad d ≡ false
unfolding behind
behind_last e d h = rw (behind_good e d h) at h

room_bad : (e : Ending) → is_bad (leave_room e) ≡ is_bad e
unfolding leave_room is_bad
room_bad Full = refl
room_bad Room = refl
room_bad TornLast = refl
room_bad TwinLast = refl
room_bad Bad = refl

room_torn : (e : Ending) → ends_torn (leave_room e) ≡ ends_torn e
unfolding leave_room ends_torn
room_torn Full = refl
room_torn Room = refl
room_torn TornLast = refl
room_torn TwinLast = refl
room_torn Bad = refl

live_torn : (t : Bool) → ◌≡◌ {A = ℕ} (cond (ends_torn (cond t TwinLast Full)) 1 0) 0
unfolding ends_torn
live_torn true = refl
live_torn false = refl

-- ---- one row

-- the block of the last live slot
unfoldable pub last_live : ℕ → List Slot → ℕ
last_live b [] = b
last_live b (empty ∷ s) = last_live b s
last_live b (torn ∷ s) = last_live b s
last_live b (dead ∷ s) = last_live b s
last_live b (cut ∷ s) = last_live b s
last_live b (wrong ∷ s) = last_live b s
last_live b (live a c ∷ s) = last_live a s

unfoldable pub is_written : Slot → Bool
is_written k = not (is_empty k)

live_after : (x : List Slot) (r : Row) (s : List ℕ) → (see_all (map kind_of x) (pass r s)).row.live ≡ r.live + length (entries x)
unfolding see_all see kind_of entries flat_map entry_of
live_after [] r s = omega arith
live_after (empty ∷ x) r s = live_after x _ s
live_after (torn ∷ x) r s = live_after x _ s
live_after (dead ∷ x) r s = live_after x _ s
live_after (cut ∷ x) r s = live_after x _ s
live_after (wrong ∷ x) r s = live_after x _ s
live_after (live b c ∷ x) r s = live_after x _ (put_bit 64 s b) ∙ omega arith

-- each of the two counts is of its kind
pub kinds_after : (x : List Slot) (r : Row) (s : List ℕ) → let t = (see_all (map kind_of x) (pass r s)).row in (t.dead ≡ r.dead + count is_replaced x) × (t.cut ≡ r.cut + count is_cut x)
unfolding see_all see kind_of count is_replaced is_dead is_cut
kinds_after [] r s = (omega arith, omega arith)
kinds_after (empty ∷ x) r s = kinds_after x _ s
kinds_after (torn ∷ x) r s = kinds_after x _ s
kinds_after (dead ∷ x) r s = let q = kinds_after x _ s in (q.0 ∙ omega arith, q.1)
kinds_after (cut ∷ x) r s = let q = kinds_after x _ s in (q.0, q.1 ∙ omega arith)
kinds_after (wrong ∷ x) r s = kinds_after x _ s
kinds_after (live b c ∷ x) r s = kinds_after x _ (put_bit 64 s b)

-- and a dead slot is of one of the two
dead_either : (x : List Slot) → count is_replaced x + count is_cut x ≡ count is_dead x
unfolding count is_replaced
dead_either [] = refl
dead_either (k ∷ x) = go (is_dead k) (is_cut k) (cut_dead k) (dead_either x)
  where
    cut_dead : (k : Slot) → is_cut k ≡ true → is_dead k ≡ true
    cut_dead empty h = absurd (false≢true (unfold is_cut in h))
    cut_dead torn h = absurd (false≢true (unfold is_cut in h))
    cut_dead dead h = unfold is_dead in refl
    cut_dead cut h = unfold is_dead in refl
    cut_dead wrong h = absurd (false≢true (unfold is_cut in h))
    cut_dead (live b c) h = absurd (false≢true (unfold is_cut in h))

    go : (d t : Bool) → (t ≡ true → d ≡ true) → count is_replaced x + count is_cut x ≡ count is_dead x
        → cond (d && not t) (suc (count is_replaced x)) (count is_replaced x) + cond t (suc (count is_cut x)) (count is_cut x) ≡ cond d (suc (count is_dead x)) (count is_dead x)
    go true true h e = omega arith
    go true false h e = omega arith
    go false true h e = absurd (false≢true (h refl))
    go false false h e = e

-- a row that ends by the rules with one slot more: it did so before, and one more is written, or an empty one follows
written_one : (r q : Row) (d : Ending) → is_bad q.ending ≡ false → q.ending ≡ behind r.ending d
    → q.live + q.dead + q.cut + cond (ends_torn d) 1 0 ≡ r.live + r.dead + r.cut + 1 → (is_bad r.ending ≡ false) × (written_in q ≡ written_in r + 1)
written_one r q d h e n =
    let f = behind_good r.ending d (ap is_bad (sym e) ∙ h) in
    let k : q.ending ≡ d = e ∙ (ap (λ (y : Ending). behind y d) f ∙ (unfold behind in refl)) in
    (ap is_bad f ∙ (unfold is_bad in refl), after k ∙ (n ∙ omega (arith, before f)))
  where
    before : r.ending ≡ Full → written_in r ≡ r.live + r.dead + r.cut + 0
    before f = unfold written_in ends_torn in rw f

    after : q.ending ≡ d → written_in q ≡ q.live + q.dead + q.cut + cond (ends_torn d) 1 0
    after k = unfold written_in in rw k

written_room : (r q : Row) → is_bad q.ending ≡ false → q.ending ≡ leave_room r.ending → q.live + q.dead + q.cut ≡ r.live + r.dead + r.cut
    → (is_bad r.ending ≡ false) × (written_in q ≡ written_in r)
written_room r q h e n = (sym (room_bad r.ending) ∙ (ap is_bad (sym e) ∙ h), unfold written_in in rw (e, room_torn r.ending, n))

-- a row that ends by the rules has so many slots written
written_after : (x : List Slot) (r : Row) (s : List ℕ) → let t = (see_all (map kind_of x) (pass r s)).row in is_bad t.ending ≡ false
    → (is_bad r.ending ≡ false) × (written_in t ≡ written_in r + count is_written x)
unfolding see_all see kind_of count is_written is_empty ends_torn is_bad
written_after [] r s h = (h, omega arith)
written_after (empty ∷ x) r s h =
    let n : Row = (see (kind_of empty) (pass r s)).row in
    let q = written_after x n s h in
    let o = written_room r n q.0 refl refl in
    (o.0, q.1 ∙ omega (arith, o.1))
written_after (torn ∷ x) r s h =
    let n : Row = (see (kind_of torn) (pass r s)).row in
    let q = written_after x n s h in
    let o = written_one r n TornLast q.0 refl refl in
    (o.0, q.1 ∙ omega (arith, o.1))
written_after (dead ∷ x) r s h =
    let n : Row = (see (kind_of dead) (pass r s)).row in
    let q = written_after x n s h in
    let o = written_one r n Full q.0 refl (omega arith) in
    (o.0, q.1 ∙ omega (arith, o.1))
written_after (cut ∷ x) r s h =
    let n : Row = (see (kind_of cut) (pass r s)).row in
    let q = written_after x n s h in
    let o = written_one r n Full q.0 refl (omega arith) in
    (o.0, q.1 ∙ omega (arith, o.1))
written_after (wrong ∷ x) r s h = absurd (true≢false (written_after x (see (kind_of wrong) (pass r s)).row s h).0)
written_after (live b c ∷ x) r s h =
    let n : Row = (see (kind_of (live b c)) (pass r s)).row in
    let q = written_after x n (put_bit 64 s b) h in
    let o = written_one r n (cond (in_bits 64 s b) TwinLast Full) q.0 refl (omega (arith, live_torn (in_bits 64 s b))) in
    (o.0, q.1 ∙ omega (arith, o.1))

block_after : (x : List Slot) (r : Row) (s : List ℕ) → (see_all (map kind_of x) (pass r s)).row.block.0 ≡ last_live r.block.0 x
unfolding see_all see kind_of last_live
block_after [] r s = refl
block_after (empty ∷ x) r s = block_after x _ s
block_after (torn ∷ x) r s = block_after x _ s
block_after (dead ∷ x) r s = block_after x _ s
block_after (cut ∷ x) r s = block_after x _ s
block_after (wrong ∷ x) r s = block_after x _ s
block_after (live b c ∷ x) r s = block_after x _ (put_bit 64 s b)

seen_after : (x : List Slot) (r : Row) (s : List ℕ) (p : List Entry) → Narrow x → Agree s p → Agree (see_all (map kind_of x) (pass r s)).seen (p ++ entries x)
unfolding see_all see kind_of entries flat_map entry_of
seen_after [] r s p n a = agree_same a
seen_after (empty ∷ x) r s p n a = seen_after x _ s p n a
seen_after (torn ∷ x) r s p n a = seen_after x _ s p n a
seen_after (dead ∷ x) r s p n a = seen_after x _ s p n a
seen_after (cut ∷ x) r s p n a = seen_after x _ s p n a
seen_after (wrong ∷ x) r s p n a = seen_after x _ s p n a
seen_after (live b c ∷ x) r s p n a = let e : Entry = record { block = b; contents = c } in
    rw (← (append_assoc p (e ∷ []) (flat_map entry_of x))) (seen_after x _ (put_bit 64 s b) (p ++ (e ∷ [])) n.1 (agree_put s p e n.0.1 a))

ending_after : (x : List Slot) (r : Row) (s : List ℕ) (p : List Entry) → Narrow x → Agree s p → (see_all (map kind_of x) (pass r s)).row.ending ≡ judge r.ending p x
unfolding see_all see kind_of judge turn entry_of
ending_after [] r s p n a = refl
ending_after (empty ∷ x) r s p n a = ending_after x _ s (p ++ []) n (agree_same a)
ending_after (torn ∷ x) r s p n a = ending_after x _ s (p ++ []) n (agree_same a)
ending_after (dead ∷ x) r s p n a = ending_after x _ s (p ++ []) n (agree_same a)
ending_after (cut ∷ x) r s p n a = ending_after x _ s (p ++ []) n (agree_same a)
ending_after (wrong ∷ x) r s p n a = ending_after x _ s (p ++ []) n (agree_same a)
ending_after (live b c ∷ x) r s p n a = let e : Entry = record { block = b; contents = c } in
    ending_after x _ (put_bit 64 s b) (p ++ (e ∷ [])) n.1 (agree_put s p e n.0.1 a)
    ∙ ap (λ (t : Bool). judge (behind r.ending (cond t TwinLast Full)) (p ++ (e ∷ [])) x) (a.same b n.0.1)

-- ---- the rows added up

pub sum_live : (rows : List (List Slot)) (s : List ℕ) (f : Sum) → (add_rows (tallies rows s) f).live ≡ f.live + length (entries (flatten rows))
unfolding add_rows add_row tallies no_row flatten
sum_live [] s f = unfold entries flat_map in omega arith
sum_live (x ∷ rows) s f = sum_live rows (see_all (map kind_of x) (pass no_row s)).seen _
    ∙ omega (arith, live_after x no_row s, length-append (entries x) (entries (flatten rows)), ap length (entries_append x (flatten rows)))

pub sum_ending : (rows : List (List Slot)) (s : List ℕ) (p : List Entry) (f : Sum) → NarrowRows rows → Agree s p → (add_rows (tallies rows s) f).ending ≡ ring f.ending p rows
unfolding add_rows add_row tallies no_row ring
sum_ending [] s p f n a = refl
sum_ending (x ∷ rows) s p f n a = sum_ending rows (see_all (map kind_of x) (pass no_row s)).seen (p ++ entries x) _ n.1 (seen_after x no_row s p n.0 a)
    ∙ ap (λ (e : Ending). ring (behind f.ending e) (p ++ entries x) rows) (ending_after x no_row s p n.0 a)

sum_counted : (rows : List (List Slot)) (s : List ℕ) (f : Sum) → f.dead ≡ true → (add_rows (tallies rows s) f).compactions ≡ f.compactions
unfolding add_rows add_row tallies
sum_counted [] s f h = refl
sum_counted (x ∷ rows) s f h = sum_counted rows (see_all (map kind_of x) (pass no_row s)).seen _ (rw h) ∙ rw h

row_dead : (x : List Slot) (s : List ℕ) → let t = (see_all (map kind_of x) (pass no_row s)).row in t.dead + t.cut ≡ count is_dead x
unfolding no_row
row_dead x s = let q = kinds_after x no_row s in omega (arith, q.0, q.1, dead_either x)

add_marks : (f : Sum) (r : Row) → f.dead ≡ false → (add_row f r).dead ≡ ltb 0 (r.dead + r.cut)
unfolding add_row
add_marks f r h = rw h

add_one_more : (f : Sum) (r : Row) → f.dead ≡ false → (add_row f r).compactions ≡ f.compactions + 1
unfolding add_row
add_one_more f r h = rw h

pub sum_compactions : (rows : List (List Slot)) (s : List ℕ) (f : Sum) → f.dead ≡ false → (add_rows (tallies rows s) f).compactions ≡ f.compactions + compactions rows
unfolding compactions
sum_compactions [] s f h = unfold add_rows tallies in omega arith
sum_compactions (x ∷ rows) s f h = go (none_dead x) refl (λ q. sum_compactions rows (see_all (map kind_of x) (pass no_row s)).seen (add_row f (see_all (map kind_of x) (pass no_row s)).row) q)
  where
    r : Row
    r = (see_all (map kind_of x) (pass no_row s)).row

    first : add_rows (tallies (x ∷ rows) s) f ≡ add_rows (tallies rows (see_all (map kind_of x) (pass no_row s)).seen) (add_row f r)
    first = unfold add_rows tallies in refl

    one : (add_row f r).compactions ≡ f.compactions + 1
    one = add_one_more f r h

    marks : (add_row f r).dead ≡ ltb 0 (count is_dead x)
    marks = add_marks f r h ∙ ap (ltb 0) (row_dead x s)

    go : (t : Bool) → none_dead x ≡ t → ((add_row f r).dead ≡ false → (add_rows (tallies rows (see_all (map kind_of x) (pass no_row s)).seen) (add_row f r)).compactions ≡ (add_row f r).compactions + compactions rows)
        → (add_rows (tallies (x ∷ rows) s) f).compactions ≡ f.compactions + cond t (suc (compactions rows)) 1
    go true e ih = ap (λ (g : Sum). g.compactions) first ∙ (ih (marks ∙ le-ltb 0 (count is_dead x) (omega (arith, none_count is_dead x e))) ∙ omega (arith, one))
    go false e ih = ap (λ (g : Sum). g.compactions) first ∙ (sum_counted rows (see_all (map kind_of x) (pass no_row s)).seen (add_row f r) (marks ∙ lt-ltb 0 (count is_dead x) (some_count is_dead x e)) ∙ one)

nothing_written : written_in no_row ≡ 0
unfolding written_in no_row ends_torn
nothing_written = refl

-- the last row is the top: its written slots are told where the rows end by the rules
pub sum_written : (l : List (List Slot)) (t : List Slot) (s : List ℕ) (f : Sum) → is_bad (add_rows (tallies (l ++ (t ∷ [])) s) f).ending ≡ false
    → (add_rows (tallies (l ++ (t ∷ [])) s) f).written ≡ count is_written t
unfolding add_rows add_row tallies
sum_written [] t s f h = (written_after t no_row s (behind_last f.ending (see_all (map kind_of t) (pass no_row s)).row.ending h)).1 ∙ omega (arith, nothing_written)
sum_written (x ∷ l) t s f h = sum_written l t (see_all (map kind_of x) (pass no_row s)).seen _ h

pub sum_block : (l : List (List Slot)) (t : List Slot) (s : List ℕ) (f : Sum) → (add_rows (tallies (l ++ (t ∷ [])) s) f).block.0 ≡ last_live 0 t
unfolding add_rows add_row tallies
sum_block [] t s f = block_after t no_row s ∙ (unfold no_row in refl)
sum_block (x ∷ l) t s f = sum_block l t (see_all (map kind_of x) (pass no_row s)).seen _
