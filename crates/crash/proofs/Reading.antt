-- The machine read back in the customer's sentences, so that the statement is seen not to be empty.
use Rattle.std.specs.Prelude.{ℕ, suc, ◌≤◌, ◌<◌, ◌≡◌, refl, ◌⊎◌, ◌≢◌, Bool, true, false, cond, ◌||◌, List, [], length, ltb, eqb}
use Rattle.std.proofs.Common.{sym, ap, ◌∙◌, subst, inl, inr, ⊎_elim, arith, lt-ltb, le-ltb}
use Rattle.std.proofs.Math.Bool.{or-true}
use Rattle.model.specs.Slot.{number_ok}
use Rattle.model.specs.State.{holds}
use Rattle.model.specs.Table.{Table, present, lookup, contents_found}
use Rattle.model.specs.Answers.{Request, format, put, delete, read, read_or, recover}
use Rattle.model.specs.Histories.{Reply, Seen, answered, lost}
use Rattle.model.proofs.Laws.Tables.{lookup_store_same}
use Rattle.crash.specs.Machine.{Board, malformed, code_on_table, plain_code, plain_bytes, plain, made, next, Promise, settled, interrupted, unknown, refused, IsCut, OnTable, WantsRecovery, Holds, Moves, answers, answers_again, asks_recovery, refuses_malformed, not_begun, wholly_done, formats, format_cut, no_promise}
use Rattle.crash.proofs.Requests.{malformed_small}

-- ---- what the table answers

-- a stored block can always be rewritten, unless the chip is worn
pub rewrite_always : (C : Board) (worn : Bool) (t : Table) (b : ℕ) (c : List ℕ) → C.former ≡ false → malformed (put b c) ≡ 0 → holds b t ≡ true → plain_code C worn t (put b c) ≡ cond worn 8 0
unfolding plain_code code_on_table
rewrite_always C worn t b c f m h = rw (f, m, h)

-- and so can any block be stored below the capacity
pub room_below_capacity : (C : Board) (worn : Bool) (t : Table) (b : ℕ) (c : List ℕ) → C.former ≡ false → malformed (put b c) ≡ 0 → length t < C.places → plain_code C worn t (put b c) ≡ cond worn 8 0
unfolding plain_code code_on_table
room_below_capacity C worn t b c f m h = rw (f, m, lt-ltb (length t) C.places h, or-true (holds b t))

-- at the capacity a new block is refused as full
pub full_at_capacity : (C : Board) (worn : Bool) (t : Table) (b : ℕ) (c : List ℕ) → C.former ≡ false → malformed (put b c) ≡ 0 → holds b t ≡ false → C.places ≤ length t → plain_code C worn t (put b c) ≡ 7
unfolding plain_code code_on_table
full_at_capacity C worn t b c f m h k = rw (f, m, h, le-ltb (length t) C.places k)

-- request #104: an image of version 1 takes no put, and is refused as it stands
pub former_takes_none : (C : Board) (worn : Bool) (t : Table) (b : ℕ) (c : List ℕ) → C.former ≡ true → malformed (put b c) ≡ 0 → plain_code C worn t (put b c) ≡ 11
unfolding plain_code code_on_table
former_takes_none C worn t b c f m = rw (f, m)

-- a delete is done or finds nothing
pub delete_exact : (C : Board) (worn : Bool) (t : Table) (b : ℕ) → number_ok b ≡ true → plain C worn t (delete b) ≡ record { code = cond (holds b t) 0 6; bytes = [] }
unfolding plain plain_code plain_bytes code_on_table malformed
delete_exact C worn t b m = rw m

-- a read gives the stored contents, or 6
pub read_exact : (C : Board) (worn : Bool) (t : Table) (b : ℕ) → number_ok b ≡ true
    → plain C worn t (read b) ≡ cond (holds b t) (record { code = 0; bytes = contents_found (lookup b t) }) (record { code = 6; bytes = [] })
unfolding plain plain_code plain_bytes code_on_table malformed
read_exact C worn t b m = rw m (go (holds b t))
  where
    go : (x : Bool) → ◌≡◌ {A = Reply} (record { code = cond x 0 6; bytes = cond (eqb (cond x 0 6) 0) (contents_found (lookup b t)) [] })
        (cond x (record { code = 0; bytes = contents_found (lookup b t) }) (record { code = 6; bytes = [] }))
    go true = refl
    go false = refl

-- the second form gives the factory record with the 6
pub read_or_exact : (C : Board) (worn : Bool) (t : Table) (b : ℕ) (f : List ℕ) → number_ok b ≡ true
    → plain C worn t (read_or b f) ≡ cond (holds b t) (record { code = 0; bytes = contents_found (lookup b t) }) (record { code = 6; bytes = f })
unfolding plain plain_code plain_bytes code_on_table malformed
read_or_exact C worn t b f m = rw m (go (holds b t))
  where
    go : (x : Bool) → ◌≡◌ {A = Reply} (record { code = cond x 0 6; bytes = cond (eqb (cond x 0 6) 0) (contents_found (lookup b t)) (cond (eqb (cond x 0 6) 6) f []) })
        (cond x (record { code = 0; bytes = contents_found (lookup b t) }) (record { code = 6; bytes = f }))
    go true = refl
    go false = refl

-- what an accepted put leaves to be read
pub put_read : (b : ℕ) (c : List ℕ) (t : Table) → lookup b (made t (put b c)) ≡ present c
unfolding made
put_read b c t = lookup_store_same b c t

-- ---- one event

-- the code seen; no answer counts as 9
abbrev pub code_seen : Seen → ℕ
code_seen (answered a) = a.code
code_seen lost = 9

pub cut_code : (o : Seen) → IsCut o → code_seen o ≡ 9
cut_code o (inl e) = ap code_seen e
cut_code o (inr e) = ap code_seen e

pub not_format : (r : Request) → OnTable r → r ≡ format → ⊥
not_format r o e = subst OnTable e o

-- no table answers 9
plain_not_nine : (C : Board) (worn : Bool) (t : Table) (r : Request) → ◌≢◌ {A = ℕ} (plain_code C worn t r) 9
unfolding plain_code code_on_table
plain_not_nine C worn t r = go (eqb (malformed r) 0) (malformed_small r) (on_table r)
  where
    put_not : (f x w : Bool) → ◌≢◌ {A = ℕ} (cond f 11 (cond x (cond w 8 0) 7)) 9
    put_not true x w e = omega (arith, e)
    put_not false true true e = omega (arith, e)
    put_not false true false e = omega (arith, e)
    put_not false false w e = omega (arith, e)

    absent_not : (x : Bool) → ◌≢◌ {A = ℕ} (cond x 0 6) 9
    absent_not true e = omega (arith, e)
    absent_not false e = omega (arith, e)

    on_table : (a : Request) → ◌≢◌ {A = ℕ} (code_on_table C worn t a) 9
    on_table format e = omega (arith, e)
    on_table (put b c) e = put_not C.former (holds b t || ltb (length t) C.places) worn e
    on_table (delete b) e = absent_not (holds b t) e
    on_table (read b) e = absent_not (holds b t) e
    on_table (read_or b f) e = absent_not (holds b t) e
    on_table recover e = omega (arith, e)

    go : (x : Bool) → malformed r ≤ 3 → ◌≢◌ {A = ℕ} (code_on_table C worn t r) 9 → ◌≢◌ {A = ℕ} (cond x (code_on_table C worn t r) (malformed r)) 9
    go true p q e = q e
    go false p q e = omega (arith, e)

plain_no_cut : (C : Board) (worn : Bool) (t : Table) (r : Request) (o : Seen) → o ≡ answered (plain C worn t r) → code_seen o ≡ 9 → ⊥
unfolding plain
plain_no_cut C worn t r o e n = plain_not_nine C worn t r (sym (ap code_seen e) ∙ n)

-- a finished format starts anew, from any promise
pub format_starts : {C : Board} {w : Bool} {r : Request} {o : Seen} {x y : Promise} → Moves C w r o x y → r ≡ format → o ≡ refused 0 → y ≡ settled []
format_starts {r = r} (answers k e) f g = absurd (not_format r k f)
format_starts {r = r} (answers_again k i e) f g = absurd (not_format r k f)
format_starts {r = r} (asks_recovery k i e) f g = absurd (subst WantsRecovery f k)
format_starts (refuses_malformed n i e) f g = absurd (let h : suc n ≡ 0 = ap code_seen (sym e ∙ g) in omega arith)
format_starts {r = r} (not_begun t k i e) f g = absurd (not_format r i f)
format_starts {r = r} (wholly_done t k i e) f g = absurd (not_format r i f)
format_starts (formats i e) f g = refl
format_starts {o = o} (format_cut i e) f g = absurd (let h : 9 ≡ 0 = sym (cut_code o e) ∙ ap code_seen g in omega arith)
format_starts {r = r} (no_promise k) f g = absurd (not_format r k f)

abbrev pub IsSettled : Promise → Table → Type 0
IsSettled (settled u) t = u ≡ t
IsSettled (interrupted u) t = ⊥
IsSettled unknown t = ⊥

-- in a settled promise every answer but 9 is the plain table's, and the table after is the acknowledged one
pub settled_exact : {C : Board} {w : Bool} {r : Request} {o : Seen} {x y : Promise} → Moves C w r o x y → (t : Table) → IsSettled x t → OnTable r → code_seen o ≢ 9
    → (o ≡ answered (plain C w t r)) × (y ≡ settled (next C w t r))
settled_exact {C} {w} {r} {o} (answers {t = u} k e) t s i n = subst (λ (v : Table). (o ≡ answered (plain C w v r)) × (settled (next C w u r) ≡ settled (next C w v r))) s (e, refl)
settled_exact (answers_again k i e) t s j n = absurd s
settled_exact (asks_recovery k i e) t s j n = absurd s
settled_exact (refuses_malformed m i e) t s j n = absurd s
settled_exact {o = o} (not_begun u k i e) t s j n = absurd (n (cut_code o e))
settled_exact {o = o} (wholly_done u k i e) t s j n = absurd (n (cut_code o e))
settled_exact {r = r} (formats i e) t s j n = absurd (not_format r j i)
settled_exact {o = o} (format_cut i e) t s j n = absurd (n (cut_code o e))
settled_exact (no_promise k) t s j n = absurd s

-- a cut may leave a request not begun, and may leave it wholly done: the store can promise neither alone
pub cut_may_leave_old : (C : Board) (w : Bool) (t : Table) (r : Request) → OnTable r → Moves C w r lost (settled t) (interrupted t)
cut_may_leave_old C w t r k = not_begun t refl k (inl refl)

pub cut_may_leave_new : (C : Board) (w : Bool) (t : Table) (r : Request) → OnTable r → Moves C w r lost (settled t) (interrupted (next C w t r))
cut_may_leave_new C w t r k = wholly_done t refl k (inl refl)

same_table : (x : Promise) (t u : Table) → Holds x t → Holds x u → t ≡ u
same_table (settled v) t u p q = sym p ∙ q
same_table (interrupted v) t u p q = sym p ∙ q
same_table unknown t u p q = absurd p

-- and it leaves nothing else: the old table or the new one, whole
pub cut_old_or_new : {C : Board} {w : Bool} {r : Request} {o : Seen} {x y : Promise} → Moves C w r o x y → (t : Table) → Holds x t → OnTable r → code_seen o ≡ 9
    → (y ≡ interrupted t) ⊎ (y ≡ interrupted (next C w t r))
cut_old_or_new {C} {w} {r} {o} (answers {t = u} k e) t s i n = absurd (plain_no_cut C w u r o e n)
cut_old_or_new {C} {w} {r} {o} (answers_again {t = u} k i e) t s j n = absurd (plain_no_cut C w u r o e n)
cut_old_or_new (asks_recovery k i e) t s j n = absurd (let h : 5 ≡ 9 = sym (ap code_seen e) ∙ n in omega arith)
cut_old_or_new {r = r} (refuses_malformed m i e) t s j n = absurd (let h : suc m ≡ 9 = sym (ap code_seen e) ∙ n in omega (arith, malformed_small r))
cut_old_or_new {x = x} (not_begun u k i e) t s j n = inl (ap interrupted (same_table x u t k s))
cut_old_or_new {C} {w} {r} {x = x} (wholly_done u k i e) t s j n = inr (ap (λ (v : Table). interrupted (next C w v r)) (same_table x u t k s))
cut_old_or_new {r = r} (formats i e) t s j n = absurd (not_format r j i)
cut_old_or_new {r = r} (format_cut i e) t s j n = absurd (not_format r j i)
cut_old_or_new (no_promise k) t s j n = absurd s

abbrev pub IsInterrupted : Promise → Table → Type 0
IsInterrupted (settled u) t = ⊥
IsInterrupted (interrupted u) t = u ≡ t
IsInterrupted unknown t = ⊥

-- the first recovery that finishes keeps the promised table
pub recovery_keeps : {C : Board} {w : Bool} {r : Request} {o : Seen} {x y : Promise} → Moves C w r o x y → (t : Table) → IsInterrupted x t → r ≡ recover → code_seen o ≢ 9
    → (o ≡ refused 0) × (y ≡ settled t)
unfolding plain plain_code plain_bytes code_on_table malformed next made
recovery_keeps (answers k e) t s f n = absurd s
recovery_keeps {C} {w} (answers_again {t = u} k i e) t s f n =
    (e ∙ ap (λ (v : Request). answered (plain C w u v)) f, ap (λ (v : Request). settled (next C w u v)) f ∙ ap settled s)
recovery_keeps (asks_recovery k i e) t s f n = absurd (subst WantsRecovery f k)
recovery_keeps (refuses_malformed m i e) t s f n = absurd (let h : suc m ≡ 0 = sym i ∙ ap malformed f in omega arith)
recovery_keeps {o = o} (not_begun u k i e) t s f n = absurd (n (cut_code o e))
recovery_keeps {o = o} (wholly_done u k i e) t s f n = absurd (n (cut_code o e))
recovery_keeps {r = r} (formats i e) t s f n = absurd (not_format r (subst OnTable (sym f) tt) i)
recovery_keeps {o = o} (format_cut i e) t s f n = absurd (n (cut_code o e))
recovery_keeps (no_promise k) t s f n = absurd s

-- and one that is cut keeps it too, as often as it may be cut
pub recovery_cut_keeps : {C : Board} {w : Bool} {r : Request} {o : Seen} {x y : Promise} → Moves C w r o x y → (t : Table) → IsInterrupted x t → r ≡ recover → code_seen o ≡ 9
    → y ≡ interrupted t
unfolding plain_code code_on_table malformed next made
recovery_cut_keeps {C} {w} {x = x} m t s f n =
    ⊎_elim (λ old. old) (λ new. new ∙ ap (λ (v : Request). interrupted (next C w t v)) f) (cut_old_or_new m t (held x s) (subst OnTable (sym f) tt) n)
  where
    held : (v : Promise) → IsInterrupted v t → Holds v t
    held (settled u) h = absurd h
    held (interrupted u) h = h
    held unknown h = absurd h

-- until then a request is refused and nothing changes, or it answers as the table that the recovery would have shown
pub interrupted_exact : {C : Board} {w : Bool} {r : Request} {o : Seen} {x y : Promise} → Moves C w r o x y → (t : Table) → IsInterrupted x t → OnTable r → code_seen o ≢ 9
    → ((o ≡ answered (plain C w t r)) × (y ≡ settled (next C w t r))) ⊎ ((y ≡ interrupted t) × ((o ≡ refused 5) ⊎ ((n : ℕ) × (malformed r ≡ suc n) × (o ≡ refused (suc n)))))
interrupted_exact (answers k e) t s i n = absurd s
interrupted_exact {C} {w} {r} {o} (answers_again {t = u} k i e) t s j n =
    inl (subst (λ (v : Table). (o ≡ answered (plain C w v r)) × (settled (next C w u r) ≡ settled (next C w v r))) s (e, refl))
interrupted_exact (asks_recovery k i e) t s j n = inr (ap interrupted s, inl e)
interrupted_exact (refuses_malformed m i e) t s j n = inr (ap interrupted s, inr (m, i, e))
interrupted_exact {o = o} (not_begun u k i e) t s j n = absurd (n (cut_code o e))
interrupted_exact {o = o} (wholly_done u k i e) t s j n = absurd (n (cut_code o e))
interrupted_exact {r = r} (formats i e) t s j n = absurd (not_format r j i)
interrupted_exact {o = o} (format_cut i e) t s j n = absurd (n (cut_code o e))
interrupted_exact (no_promise k) t s j n = absurd s
