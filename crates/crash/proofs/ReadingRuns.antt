-- The customer's sentences over whole histories of the plain table: a block never shows contents that were not put under its number since the last format, or that have 0 bytes,
-- and acknowledged contents are read back until the block is written or deleted, through every power cut.
use Rattle.std.specs.Prelude.{ℕ, zero, suc, ◌<◌, ◌≡◌, refl, ◌⊎◌, ◌≢◌, Bool, true, false, cond, List, [], ◌∷◌, ◌++◌, length, eqb}
use Rattle.std.proofs.Common.{sym, ap, ap₂, ◌∙◌, subst, inl, inr, ⊎_elim, arith, eqb-true, ne_eqb}
use Rattle.std.proofs.Math.Decide.{ℕ_discrete}
use Rattle.std.proofs.lemmas.Bool.{eqb-false}
use Rattle.model.specs.Slot.{number_ok}
use Rattle.model.specs.State.{holds}
use Rattle.model.specs.Table.{Table, Found, absent, present, lookup, contents_found}
use Rattle.model.specs.Answers.{Request, format, put, delete, read, read_or, recover, length_ok}
use Rattle.model.specs.Histories.{Reply, Seen, answered, Event}
use Rattle.model.proofs.Laws.Tables.{lookup_held, found_held, absent_free, lookup_without_same, lookup_without_other, lookup_store_same, lookup_store_other}
use Rattle.bridge.specs.Accepted.{taken_some}
use Rattle.crash.specs.Machine.{Board, malformed, code_on_table, plain_code, plain_bytes, plain, made, next, Promise, settled, interrupted, unknown, refused, OnTable, Holds, Moves, answers, answers_again, asks_recovery, refuses_malformed, not_begun, wholly_done, formats, format_cut, no_promise, PlainRuns, NoFormat}
use Rattle.crash.proofs.Reading.{code_seen, cut_code, not_format, format_starts, read_exact, read_or_exact}

-- what is lookup-held of a block, by a promise
abbrev pub Shows : Promise → ℕ → Found → Type 0
Shows (settled t) b z = lookup b t ≡ z
Shows (interrupted t) b z = lookup b t ≡ z
Shows unknown b z = ⊥

-- a put of these contents under this number, refused for neither, acknowledged or cut; and one among some events
abbrev pub Puts : ℕ → List ℕ → Request → Seen → Type 0
Puts b c r o = (r ≡ put b c) × (malformed r ≡ 0) × ((code_seen o ≡ 0) ⊎ (code_seen o ≡ 9))

abbrev pub PutAmong : ℕ → List ℕ → List Event → Type 0
PutAmong b c [] = ⊥
PutAmong b c (e ∷ es) = Puts b c e.request e.seen ⊎ PutAmong b c es

-- ---- where shown contents come from

never : (c : List ℕ) → absent ≡ present c → ⊥
never c e = let y : ◌≡◌ {A = ℕ} 0 1 = cc in omega arith

made_from : (r : Request) (t : Table) (b : ℕ) (c : List ℕ) → lookup b (made t r) ≡ present c → (lookup b t ≡ present c) ⊎ (r ≡ put b c)
unfolding made lookup
made_from format t b c h = absurd (never c h)
made_from (put a d) t b c h =
    elim (ℕ_discrete b a) [
      | yes e ↦ inr (ap₂ put (sym e) (cc (lookup_store_same b d t, h, e)))
      | no n ↦ inl (sym (lookup_store_other b a d t n) ∙ h)
    ]
made_from (delete a) t b c h =
    elim (ℕ_discrete b a) [
      | yes e ↦ absurd (never c (sym (lookup_without_same b t) ∙ rw (← e) at h))
      | no n ↦ inl (sym (lookup_without_other b a t n) ∙ h)
    ]
made_from (read a) t b c h = inl h
made_from (read_or a f) t b c h = inl h
made_from recover t b c h = inl h

-- a request that is done was not malformed
done_proper : (C : Board) (w : Bool) (t : Table) (r : Request) → plain_code C w t r ≡ 0 → malformed r ≡ 0
unfolding plain_code
done_proper C w t r h = go (eqb (malformed r) 0) refl h
  where
    go : (x : Bool) → eqb (malformed r) 0 ≡ x → cond x (code_on_table C w t r) (malformed r) ≡ 0 → malformed r ≡ 0
    go true e k = eqb-true (malformed r) 0 e
    go false e k = k

next_from : (C : Board) (w : Bool) (t : Table) (r : Request) (b : ℕ) (c : List ℕ) → lookup b (next C w t r) ≡ present c → (lookup b t ≡ present c) ⊎ ((r ≡ put b c) × (plain_code C w t r ≡ 0))
unfolding next
next_from C w t r b c h = go (eqb (plain_code C w t r) 0) refl h
  where
    go : (x : Bool) → eqb (plain_code C w t r) 0 ≡ x → lookup b (cond x (made t r) t) ≡ present c → (lookup b t ≡ present c) ⊎ ((r ≡ put b c) × (plain_code C w t r ≡ 0))
    go true e k = ⊎_elim (λ old. inl old) (λ new. inr (new, eqb-true (plain_code C w t r) 0 e)) (made_from r t b c k)
    go false e k = inl k

held_shows : (x : Promise) (t : Table) (b : ℕ) (z : Found) → Holds x t → lookup b t ≡ z → Shows x b z
held_shows (settled u) t b z k h = ap (λ (v : Table). lookup b v) k ∙ h
held_shows (interrupted u) t b z k h = ap (λ (v : Table). lookup b v) k ∙ h
held_shows unknown t b z k h = absurd k

shows_held : (x : Promise) (t : Table) (b : ℕ) (z : Found) → Holds x t → Shows x b z → lookup b t ≡ z
shows_held (settled u) t b z k h = ap (λ (v : Table). lookup b v) (sym k) ∙ h
shows_held (interrupted u) t b z k h = ap (λ (v : Table). lookup b v) (sym k) ∙ h
shows_held unknown t b z k h = absurd k

-- in one event: they were shown before, or this event put them
pub move_from : {C : Board} {w : Bool} {r : Request} {o : Seen} {x y : Promise} → Moves C w r o x y → (b : ℕ) (c : List ℕ) → Shows y b (present c) → Shows x b (present c) ⊎ Puts b c r o
unfolding plain lookup
move_from {C} {w} {r} (answers {t = t} k e) b c h = ⊎_elim (λ old. inl old) (λ new. inr (new.0, done_proper C w t r new.1, inl (ap code_seen e ∙ new.1))) (next_from C w t r b c h)
move_from {C} {w} {r} (answers_again {t = t} k i e) b c h = ⊎_elim (λ old. inl old) (λ new. inr (new.0, done_proper C w t r new.1, inl (ap code_seen e ∙ new.1))) (next_from C w t r b c h)
move_from (asks_recovery k i e) b c h = inl h
move_from (refuses_malformed n i e) b c h = inl h
move_from {x = x} (not_begun t k i e) b c h = inl (held_shows x t b (present c) k h)
move_from {C} {w} {r} {o} {x = x} (wholly_done t k i e) b c h = ⊎_elim (λ old. inl (held_shows x t b (present c) k old)) (λ new. inr (new.0, done_proper C w t r new.1, inr (cut_code o e))) (next_from C w t r b c h)
move_from (formats i e) b c h = absurd (never c h)
move_from (format_cut i e) b c h = absurd h
move_from (no_promise k) b c h = absurd h

-- over a history
pub runs_from : (C : Board) (es : List Event) (x y : Promise) → PlainRuns C x es y → (b : ℕ) (c : List ℕ) → Shows y b (present c) → Shows x b (present c) ⊎ PutAmong b c es
runs_from C [] x y e b c h = inl (subst (λ (v : Promise). Shows v b (present c)) e h)
runs_from C (e ∷ es) x y (z, m, rest) b c h =
    ⊎_elim (λ k. ⊎_elim (λ old. inl old) (λ now. inr (inl now)) (move_from m b c k)) (λ later. inr (inr later)) (runs_from C es z y rest b c h)

-- contents that were put have at least one byte
pub put_some : (b : ℕ) (c : List ℕ) (es : List Event) → PutAmong b c es → 0 < length c
unfolding malformed
put_some b c [] h = absurd h
put_some b c (e ∷ es) (inl now) = taken_some (length c) (taken (number_ok b) (length_ok (length c)) (ap malformed (sym now.0) ∙ now.1))
  where
    taken : (x y : Bool) → ◌≡◌ {A = ℕ} (cond x (cond y 0 3) 2) 0 → y ≡ true
    taken true true h = refl
    taken true false h = absurd (omega (arith, h))
    taken false y h = absurd (omega (arith, h))
put_some b c (e ∷ es) (inr later) = put_some b c es later

-- ---- a promise is known from a finished format on

abbrev pub Known : Promise → Type 0
Known (settled t) = Unit {0}
Known (interrupted t) = Unit {0}
Known unknown = ⊥

pub record FinishedFormat (e : Event) : Type 0 where
  pub request : e.request ≡ format
  pub seen : e.seen ≡ refused 0

pub move_known : {C : Board} {w : Bool} {r : Request} {o : Seen} {x y : Promise} → Moves C w r o x y → OnTable r → Known x → Known y
move_known (answers k e) f h = tt
move_known (answers_again k i e) f h = tt
move_known (asks_recovery k i e) f h = tt
move_known (refuses_malformed n i e) f h = tt
move_known (not_begun t k i e) f h = tt
move_known (wholly_done t k i e) f h = tt
move_known (formats i e) f h = tt
move_known {r = r} (format_cut i e) f h = absurd (not_format r f i)
move_known (no_promise k) f h = h

pub runs_known : (C : Board) (es : List Event) (x y : Promise) → PlainRuns C x es y → NoFormat es → Known x → Known y
runs_known C [] x y e f h = subst Known (sym e) h
runs_known C (e ∷ es) x y (z, m, rest) f h = runs_known C es z y rest f.1 (move_known m f.0 h)

pub runs_append : (C : Board) (es ds : List Event) (x y : Promise) → PlainRuns C x (es ++ ds) y → (z : Promise) × PlainRuns C x es z × PlainRuns C z ds y
runs_append C [] ds x y r = (x, refl, r)
runs_append C (e ∷ es) ds x y (z, m, rest) = let a = runs_append C es ds z y rest in (a.0, (z, m, a.1), a.2)

-- ---- reads

-- a read of this block, in either form
abbrev pub Reads : ℕ → Request → Type 0
Reads b format = ⊥
Reads b (put a c) = ⊥
Reads b (delete a) = ⊥
Reads b (read a) = a ≡ b
Reads b (read_or a f) = a ≡ b
Reads b recover = ⊥

-- the factory record of the second form
abbrev pub factory_of : Request → List ℕ
factory_of format = []
factory_of (put a c) = []
factory_of (delete a) = []
factory_of (read a) = []
factory_of (read_or a f) = f
factory_of recover = []

-- done, with these bytes
abbrev pub gives : List ℕ → Reply
gives c = record { code = 0; bytes = c }

stored_if_done : (m : ℕ) (x : Bool) → cond (eqb m 0) (cond x 0 6) m ≡ 0 → x ≡ true
stored_if_done m x h = go (eqb m 0) refl x h
  where
    go : (u : Bool) → eqb m 0 ≡ u → (v : Bool) → cond u (cond v 0 6) m ≡ 0 → v ≡ true
    go true e true k = refl
    go true e false k = absurd (omega (arith, k))
    go false e v k = absurd (eqb-false m 0 e k)

plain_gives : (C : Board) (w : Bool) (t : Table) (r : Request) (b : ℕ) (c : List ℕ) → Reads b r → plain C w t r ≡ gives c → lookup b t ≡ present c
unfolding plain plain_code code_on_table plain_bytes malformed
plain_gives C w t format b c q h = absurd q
plain_gives C w t (put a d) b c q h = absurd q
plain_gives C w t (delete a) b c q h = absurd q
plain_gives C w t (read a) b c q h =
    let code = ap (λ (v : Reply). v.code) h in
    let bytes = ap (λ (v : Reply). v.bytes) h in
    rw (← q) (lookup_held a t (stored_if_done (cond (number_ok a) 0 2) (holds a t) code) ∙ ap present (rw code at bytes))
plain_gives C w t (read_or a f) b c q h =
    let code = ap (λ (v : Reply). v.code) h in
    let bytes = ap (λ (v : Reply). v.bytes) h in
    rw (← q) (lookup_held a t (stored_if_done (cond (number_ok a) 0 2) (holds a t) code) ∙ ap present (rw code at bytes))
plain_gives C w t recover b c q h = absurd q

-- what a read gives is what the promise shows
pub read_shows : {C : Board} {w : Bool} {r : Request} {o : Seen} {x y : Promise} → Moves C w r o x y → (b : ℕ) (c : List ℕ) → Known x → Reads b r → o ≡ answered (gives c) → Shows x b (present c)
read_shows {C} {w} {r} (answers {t = t} k e) b c h q g = plain_gives C w t r b c q (cc)
read_shows {C} {w} {r} (answers_again {t = t} k i e) b c h q g = plain_gives C w t r b c q (cc)
read_shows (asks_recovery k i e) b c h q g = absurd (let f : 5 ≡ 0 = sym (ap code_seen e) ∙ ap code_seen g in omega arith)
read_shows (refuses_malformed n i e) b c h q g = absurd (let f : suc n ≡ 0 = sym (ap code_seen e) ∙ ap code_seen g in omega arith)
read_shows {o = o} (not_begun t k i e) b c h q g = absurd (let f : 9 ≡ 0 = sym (cut_code o e) ∙ ap code_seen g in omega arith)
read_shows {o = o} (wholly_done t k i e) b c h q g = absurd (let f : 9 ≡ 0 = sym (cut_code o e) ∙ ap code_seen g in omega arith)
read_shows {r = r} (formats i e) b c h q g = absurd (subst (λ (v : Request). Reads b v) i q)
read_shows {r = r} (format_cut i e) b c h q g = absurd (subst (λ (v : Request). Reads b v) i q)
read_shows (no_promise k) b c h q g = absurd h

-- A block never shows contents that were not put under its number since the last format.
pub shows_only_what_was_put : (C : Board) (x y : Promise) (past es : List Event) (f e : Event) (b : ℕ) (c : List ℕ) → PlainRuns C x (past ++ (f ∷ (es ++ (e ∷ [])))) y
    → FinishedFormat f → NoFormat es → Reads b e.request → e.seen ≡ answered (gives c) → PutAmong b c es
unfolding lookup
shows_only_what_was_put C x y past es f e b c runs done none q g =
    let (start, before, (fresh, formatting, rest)) = runs_append C past (f ∷ (es ++ (e ∷ []))) x y runs in
    let (last, since, (end, reading, nothing)) = runs_append C es (e ∷ []) fresh y rest in
    let empty : fresh ≡ settled [] = format_starts formatting done.request done.seen in
    let known : Known last = runs_known C es fresh last since none (subst Known (sym empty) tt) in
    ⊎_elim (λ old. absurd (never c (subst (λ (v : Promise). Shows v b (present c)) empty old))) (λ new. new) (runs_from C es fresh last since b c (read_shows reading b c known q g))

-- ---- acknowledged contents stay

-- a request that leaves this block alone: of another block; or a put that is refused for its number or its length
abbrev pub Spares : ℕ → Request → Type 0
Spares b format = ⊥
Spares b (put a c) = (b ≢ a) ⊎ (malformed (put a c) ≢ 0)
Spares b (delete a) = b ≢ a
Spares b (read a) = Unit {0}
Spares b (read_or a f) = Unit {0}
Spares b recover = Unit {0}

abbrev pub AllSpare : ℕ → List Event → Type 0
AllSpare b [] = Unit {0}
AllSpare b (e ∷ es) = Spares b e.request × AllSpare b es

next_keeps : (C : Board) (w : Bool) (t : Table) (r : Request) (b : ℕ) → Spares b r → lookup b (next C w t r) ≡ lookup b t
unfolding next made
next_keeps C w t r b q = go (eqb (plain_code C w t r) 0) refl
  where
    made_keeps : (a : Request) → Spares b a → plain_code C w t a ≡ 0 → lookup b (made t a) ≡ lookup b t
    made_keeps format h e = absurd h
    made_keeps (put a c) (inl other) e = lookup_store_other b a c t other
    made_keeps (put a c) (inr wrong) e = absurd (wrong (done_proper C w t (put a c) e))
    made_keeps (delete a) h e = lookup_without_other b a t h
    made_keeps (read a) h e = refl
    made_keeps (read_or a f) h e = refl
    made_keeps recover h e = refl

    go : (x : Bool) → eqb (plain_code C w t r) 0 ≡ x → lookup b (cond x (made t r) t) ≡ lookup b t
    go true e = made_keeps r q (eqb-true (plain_code C w t r) 0 e)
    go false e = refl

-- what the table keeps of a block, the promise keeps
move_keeps : {C : Board} {w : Bool} {r : Request} {o : Seen} {x y : Promise} → Moves C w r o x y → OnTable r → (b : ℕ) (z : Found) → ((t : Table) → lookup b (next C w t r) ≡ lookup b t)
    → Shows x b z → Shows y b z
move_keeps (answers {t = t} k e) on b z q h = q t ∙ h
move_keeps (answers_again {t = t} k i e) on b z q h = q t ∙ h
move_keeps (asks_recovery k i e) on b z q h = h
move_keeps (refuses_malformed n i e) on b z q h = h
move_keeps {x = x} (not_begun t k i e) on b z q h = shows_held x t b z k h
move_keeps {x = x} (wholly_done t k i e) on b z q h = q t ∙ shows_held x t b z k h
move_keeps {r = r} (formats i e) on b z q h = absurd (not_format r on i)
move_keeps {r = r} (format_cut i e) on b z q h = absurd (not_format r on i)
move_keeps (no_promise k) on b z q h = absurd h

spares_on : (b : ℕ) (r : Request) → Spares b r → OnTable r
spares_on b format q = absurd q
spares_on b (put a c) q = tt
spares_on b (delete a) q = tt
spares_on b (read a) q = tt
spares_on b (read_or a f) q = tt
spares_on b recover q = tt

pub runs_keep : (C : Board) (es : List Event) (x y : Promise) → PlainRuns C x es y → (b : ℕ) (z : Found) → AllSpare b es → Shows x b z → Shows y b z
runs_keep C [] x y e b z q h = subst (λ (v : Promise). Shows v b z) (sym e) h
runs_keep C (e ∷ es) x y (v, m, rest) b z q h =
    runs_keep C es v y rest b z q.1 (move_keeps m (spares_on b e.request q.0) b z (λ t. next_keeps C e.worn t e.request b q.0) h)

-- on version 1 every put leaves the block alone too: only a delete of it does not, and no format may come
abbrev pub Undeleted : ℕ → Request → Type 0
Undeleted b format = ⊥
Undeleted b (put a c) = Unit {0}
Undeleted b (delete a) = b ≢ a
Undeleted b (read a) = Unit {0}
Undeleted b (read_or a f) = Unit {0}
Undeleted b recover = Unit {0}

abbrev pub AllUndeleted : ℕ → List Event → Type 0
AllUndeleted b [] = Unit {0}
AllUndeleted b (e ∷ es) = Undeleted b e.request × AllUndeleted b es

former_keeps : (C : Board) (w : Bool) (t : Table) (r : Request) (b : ℕ) → C.former ≡ true → Undeleted b r → lookup b (next C w t r) ≡ lookup b t
former_keeps C w t format b f q = absurd q
former_keeps C w t (put a c) b f q = ap (lookup b) refused_so
  where
    code : (m : ℕ) → eqb (cond (eqb m 0) 11 m) 0 ≡ false
    code zero = refl
    code (suc m) = rw (ne_eqb (suc m) 0 (λ e. omega arith)) (ne_eqb (suc m) 0 (λ e. omega arith))

    refused_so : next C w t (put a c) ≡ t
    refused_so = unfold next plain_code code_on_table in (rw (f, code (malformed (put a c))))
former_keeps C w t (delete a) b f q = next_keeps C w t (delete a) b q
former_keeps C w t (read a) b f q = next_keeps C w t (read a) b tt
former_keeps C w t (read_or a g) b f q = next_keeps C w t (read_or a g) b tt
former_keeps C w t recover b f q = next_keeps C w t recover b tt

undeleted_on : (b : ℕ) (r : Request) → Undeleted b r → OnTable r
undeleted_on b format q = absurd q
undeleted_on b (put a c) q = tt
undeleted_on b (delete a) q = tt
undeleted_on b (read a) q = tt
undeleted_on b (read_or a f) q = tt
undeleted_on b recover q = tt

pub undeleted_none : (b : ℕ) (es : List Event) → AllUndeleted b es → NoFormat es
undeleted_none b [] q = tt
undeleted_none b (e ∷ es) q = (undeleted_on b e.request q.0, undeleted_none b es q.1)

pub undeleted_front : (b : ℕ) (es ds : List Event) → AllUndeleted b (es ++ ds) → AllUndeleted b es
undeleted_front b [] ds q = tt
undeleted_front b (e ∷ es) ds q = (q.0, undeleted_front b es ds q.1)

pub none_front : (es ds : List Event) → NoFormat (es ++ ds) → NoFormat es
none_front [] ds q = tt
none_front (e ∷ es) ds q = (q.0, none_front es ds q.1)

pub former_runs_keep : (C : Board) (es : List Event) (x y : Promise) → C.former ≡ true → PlainRuns C x es y → (b : ℕ) (z : Found) → AllUndeleted b es → Shows x b z → Shows y b z
former_runs_keep C [] x y f e b z q h = subst (λ (v : Promise). Shows v b z) (sym e) h
former_runs_keep C (e ∷ es) x y f (v, m, rest) b z q h =
    former_runs_keep C es v y f rest b z q.1 (move_keeps m (undeleted_on b e.request q.0) b z (λ t. former_keeps C e.worn t e.request b f q.0) h)

plain_done : (C : Board) (w : Bool) (t : Table) (r : Request) → plain_code C w t r ≡ 0 → next C w t r ≡ made t r
unfolding next
plain_done C w t r e = rw e

-- an acknowledged request has made its table
move_done : {C : Board} {w : Bool} {r : Request} {o : Seen} {x y : Promise} → Moves C w r o x y → (b : ℕ) (z : Found) → OnTable r → Known x → code_seen o ≡ 0
    → ((t : Table) → lookup b (made t r) ≡ z) → Shows y b z
unfolding plain
move_done {C} {w} {r} (answers {t = t} k e) b z i h n makes = ap (λ (v : Table). lookup b v) (plain_done C w t r (sym (ap code_seen e) ∙ n)) ∙ makes t
move_done {C} {w} {r} (answers_again {t = t} k f e) b z i h n makes = ap (λ (v : Table). lookup b v) (plain_done C w t r (sym (ap code_seen e) ∙ n)) ∙ makes t
move_done (asks_recovery k f e) b z i h n makes = absurd (let g : 5 ≡ 0 = sym (ap code_seen e) ∙ n in omega arith)
move_done (refuses_malformed m f e) b z i h n makes = absurd (let g : suc m ≡ 0 = sym (ap code_seen e) ∙ n in omega arith)
move_done {o = o} (not_begun t k f e) b z i h n makes = absurd (let g : 9 ≡ 0 = sym (cut_code o e) ∙ n in omega arith)
move_done {o = o} (wholly_done t k f e) b z i h n makes = absurd (let g : 9 ≡ 0 = sym (cut_code o e) ∙ n in omega arith)
move_done {r = r} (formats f e) b z i h n makes = absurd (not_format r i f)
move_done {r = r} (format_cut f e) b z i h n makes = absurd (not_format r i f)
move_done (no_promise k) b z i h n makes = absurd h

-- what a read replies when this is lookup-held, with the factory record or none
abbrev pub replied : List ℕ → Found → Reply
replied f absent = record { code = 6; bytes = f }
replied f (present c) = gives c

held_reply : (f : List ℕ) (t : Table) (b : ℕ) (z : Found) → lookup b t ≡ z → cond (holds b t) (gives (contents_found (lookup b t))) (replied f absent) ≡ replied f z
unfolding contents_found
held_reply f t b absent h = rw (absent_free b t h)
held_reply f t b (present c) h = rw (found_held b t c h, h)

plain_read : (C : Board) (w : Bool) (t : Table) (r : Request) (b : ℕ) (z : Found) → Reads b r → number_ok b ≡ true → lookup b t ≡ z → plain C w t r ≡ replied (factory_of r) z
plain_read C w t format b z q n h = absurd q
plain_read C w t (put a d) b z q n h = absurd q
plain_read C w t (delete a) b z q n h = absurd q
plain_read C w t (read a) b z q n h = rw q (read_exact C w t b n ∙ held_reply [] t b z h)
plain_read C w t (read_or a f) b z q n h = rw q (read_or_exact C w t b f n ∙ held_reply f t b z h)
plain_read C w t recover b z q n h = absurd q

reads_proper : (r : Request) (b : ℕ) → Reads b r → number_ok b ≡ true → malformed r ≡ 0
unfolding malformed
reads_proper format b q n = absurd q
reads_proper (put a d) b q n = absurd q
reads_proper (delete a) b q n = absurd q
reads_proper (read a) b q n = rw (q, n)
reads_proper (read_or a f) b q n = rw (q, n)
reads_proper recover b q n = absurd q

-- a read that is neither cut nor asks for a recovery gives what the promise shows
pub read_back : {C : Board} {w : Bool} {r : Request} {o : Seen} {x y : Promise} → Moves C w r o x y → (b : ℕ) (z : Found) → Shows x b z → Reads b r → number_ok b ≡ true
    → code_seen o ≢ 9 → code_seen o ≢ 5 → o ≡ answered (replied (factory_of r) z)
read_back {C} {w} {r} (answers {t = t} k e) b z h q n cut asks = e ∙ ap answered (plain_read C w t r b z q n h)
read_back {C} {w} {r} (answers_again {t = t} k i e) b z h q n cut asks = e ∙ ap answered (plain_read C w t r b z q n h)
read_back (asks_recovery k i e) b z h q n cut asks = absurd (asks (ap code_seen e))
read_back {r = r} (refuses_malformed m i e) b z h q n cut asks = absurd (let g : suc m ≡ 0 = sym i ∙ reads_proper r b q n in omega arith)
read_back {o = o} (not_begun t k i e) b z h q n cut asks = absurd (cut (cut_code o e))
read_back {o = o} (wholly_done t k i e) b z h q n cut asks = absurd (cut (cut_code o e))
read_back (formats i e) b z h q n cut asks = absurd (subst (λ (v : Request). Reads b v) i q)
read_back (format_cut i e) b z h q n cut asks = absurd (subst (λ (v : Request). Reads b v) i q)
read_back (no_promise k) b z h q n cut asks = absurd h

-- what an acknowledged put or delete leaves to be lookup-held
abbrev pub Leaves : ℕ → Found → Request → Type 0
Leaves b absent r = r ≡ delete b
Leaves b (present c) r = r ≡ put b c

leaves_made : (b : ℕ) (z : Found) (r : Request) → Leaves b z r → OnTable r × ((t : Table) → lookup b (made t r) ≡ z)
unfolding made
leaves_made b absent r e = rw e (tt, λ t. lookup_without_same b t)
leaves_made b (present c) r e = rw e (tt, λ t. lookup_store_same b c t)

-- Once acknowledged, a put or a delete is what every read of that block shows until the block is put or deleted again, through every power cut and recovery.
pub acknowledged_stays : (C : Board) (x y : Promise) (es : List Event) (d e : Event) (b : ℕ) (z : Found) → PlainRuns C x (d ∷ (es ++ (e ∷ []))) y → Known x
    → Leaves b z d.request → code_seen d.seen ≡ 0 → AllSpare b es → Reads b e.request → number_ok b ≡ true
    → code_seen e.seen ≢ 9 → code_seen e.seen ≢ 5 → e.seen ≡ answered (replied (factory_of e.request) z)
acknowledged_stays C x y es d e b z (v, doing, rest) known leaves done spare q n cut asks =
    let (made_by, makes) = leaves_made b z d.request leaves in
    let (last, since, (end, reading, nothing)) = runs_append C es (e ∷ []) v y rest in
    read_back reading b z (runs_keep C es v last since b z spare (move_done doing b z made_by known done makes)) q n cut asks
