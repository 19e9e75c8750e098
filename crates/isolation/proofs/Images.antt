-- Images written only through the layer since a format: what they hold or will show keeps to the shares, and who put it, through every cut and recovery.
use Rattle.std.specs.Prelude.{ℕ, ◌≡◌, refl, ◌⊎◌, Bool, true, false, cond, List, [], ◌∷◌, eqb}
use Rattle.std.proofs.Common.{sym, ap, ◌∙◌, subst, inl, inr, ⊎_elim, arith}
use Rattle.model.specs.Chip.{Image, right_size, run}
use Rattle.model.specs.State.{distinct}
use Rattle.model.specs.Steps.{format_steps}
use Rattle.model.specs.Table.{Table, present, Agree, table_of}
use Rattle.model.specs.Answers.{Request, format, put, delete, read, read_or, recover}
use Rattle.model.specs.Histories.{Seen, wears, shown}
use Rattle.model.proofs.Laws.Chip.{run_size}
use Rattle.model.proofs.Laws.Tables.{agree_of, agree_trans}
use Rattle.bridge.specs.Views.Shape.{clean_distinct}
use Rattle.bridge.specs.Held.{clean_view}
use Rattle.bridge.specs.Accepted.{code_of_lem, format_passed}
use Rattle.bridge.specs.Allowance.{ends}
use Rattle.crash.specs.Machine.{Board, plain_code, made, next, Promise, settled, interrupted, unknown, OnTable, Holds, Moves, answers, answers_again, asks_recovery, refuses_malformed, not_begun, wholly_done, formats, format_cut, no_promise}
use Rattle.crash.specs.Demand2.{board}
use Rattle.crash.specs.Sound.{Clean}
use Rattle.crash.specs.Invariant.{Invariant}
use Rattle.crash.proofs.Requests.{shown_clean, steps_format}
use Rattle.crash.proofs.Skeleton.{one_event}
use Rattle.crash.proofs.Works.{may}
use Rattle.crash.proofs.Reading.{not_format}
use Rattle.crash.proofs.ReadingRuns.{Shows, move_from}
use Rattle.crash.proofs.Starts.{formatted_stores}
use Rattle.crash.proofs.Theorem.{request_laws}
use Rattle.shares.specs.Shares.{shares_of, share_of, owns}
use Rattle.shares.specs.Layer.{Asked, puts, deletes, reads, block_asked, store_request}
use Rattle.isolation.specs.Law.{Call, ProperAsked, Turn, tenant, store, Serves, Unwritten, OnlyLayer, Through, formatted, FinishedFormat, PutBy}
use Rattle.isolation.proofs.Meeting.{Unacknowledged, Asks, meets}
use Rattle.isolation.proofs.Turns.{asked_on, asked_moves}
use Rattle.isolation.specs.Within.{Within, within_empty, within_agree, spare_agree, within_made}

-- ---- what a promise says of its table

abbrev pub Promised : (Table → Type 0) → Promise → Type 0
Promised P (settled t) = P t
Promised P (interrupted t) = P t
Promised P unknown = ⊥

holds_promised : (P : Table → Type 0) (x : Promise) (t : Table) → Holds x t → Promised P x → P t
holds_promised P (settled u) t e h = subst P e h
holds_promised P (interrupted u) t e h = subst P e h
holds_promised P unknown t e h = absurd e

-- a request that keeps a property of the table keeps it of the promise
pub move_promised : (P : Table → Type 0) (C : Board) (w : Bool) (r : Request) (o : Seen) (x y : Promise) → Moves C w r o x y → OnTable r
    → ((t : Table) → Holds x t → P t → P (made t r)) → Promised P x → Promised P y
unfolding next
move_promised P C w r o x y m on keeps h = go x y m keeps h
  where
    after : (t : Table) → P t → P (made t r) → (u : Bool) → P (cond u (made t r) t)
    after t p q true = q
    after t p q false = p

    go : (v z : Promise) → Moves C w r o v z → ((t : Table) → Holds v t → P t → P (made t r)) → Promised P v → Promised P z
    go v z (answers {t = t} i e) k p = after t p (k t refl p) (eqb (plain_code C w t r) 0)
    go v z (answers_again {t = t} i j e) k p = after t p (k t refl p) (eqb (plain_code C w t r) 0)
    go v z (asks_recovery i j e) k p = p
    go v z (refuses_malformed n i e) k p = p
    go v z (not_begun t i j e) k p = holds_promised P v t i p
    go v z (wholly_done t i j e) k p = let q = holds_promised P v t i p in after t q (k t i q) (eqb (plain_code C w t r) 0)
    go v z (formats i e) k p = absurd (not_format r on i)
    go v z (format_cut i e) k p = absurd (not_format r on i)
    go v z (no_promise i) k p = p

-- on a clean image its table is the image's
pub clean_table : (N B : ℕ) (s : Image) (x : Promise) (t : Table) → Clean N B s → Invariant N B false s x → Holds x t → Agree (table_of N B s) t × (distinct t ≡ true)
clean_table N B s (settled u) t h (z, k) e = subst (λ (v : Table). Agree (table_of N B s) v × (distinct v ≡ true)) e (k.table, k.once)
clean_table N B s (interrupted u) t h (z, k) e = subst (λ (v : Table). Agree (table_of N B s) v × (distinct v ≡ true)) e
    (agree_trans (table_of N B s) (shown N B s) u (agree_of (table_of N B s) (shown N B s) (sym (shown_clean N B s h))) k.table, k.once)
clean_table N B s unknown t h k e = absurd e

pub clean_once : (N B : ℕ) (s : Image) → right_size N B s ≡ true → Clean N B s → distinct (table_of N B s) ≡ true
unfolding table_of
clean_once N B s z h = clean_distinct (clean_view N B s z h)

-- and keeps to the shares
pub clean_within : (N B : ℕ) (ns : List ℕ) (s : Image) (x : Promise) → Clean N B s → Invariant N B false s x → Promised (λ t. Within ns t) x → Within ns (table_of N B s)
clean_within N B ns s (settled t) h k w = let c = clean_table N B s (settled t) t h k refl in within_agree ns (table_of N B s) t (clean_once N B s k.0 h) c.1 c.0 w
clean_within N B ns s (interrupted t) h k w = let c = clean_table N B s (interrupted t) t h k refl in within_agree ns (table_of N B s) t (clean_once N B s k.0 h) c.1 c.0 w
clean_within N B ns s unknown h k w = absurd w

-- ---- one turn

-- what is held was held before, or its owner put it in this turn
abbrev pub From : List ℕ → List Turn → Promise → Promise → Type 0
From ns ts x y = (b : ℕ) (c : List ℕ) → Shows y b (present c) → Shows x b (present c) ⊎ ((a : ℕ) × (owns (shares_of ns) a b ≡ true) × PutBy a b c ts)

-- an image that keeps a promise whose table keeps to the shares
abbrev pub Layered : ℕ → ℕ → List ℕ → Image → Promise → Type 0
Layered N B ns s x = Invariant N B false s x × Promised (λ t. Within ns t) x

asked_layered : (N B : ℕ) (ns : List ℕ) (x : Call) (o : Seen) (s m : Image) (v : Promise) → ProperAsked x.asked → Layered N B ns s v → Asks N B ns x o s m
    → (y : Promise) × Moves (board N B false) (wears N B s) (store_request x.asked) o v y × Layered N B ns m y
asked_layered N B ns x o s m v p (k, w) d =
    let f = asked_moves N B false ns x o s m v p k d in
    (f.0, f.1, (f.2, move_promised (λ t. Within ns t) (board N B false) (wears N B s) (store_request x.asked) o v f.0 f.1 (asked_on x.asked) keeps w))
  where
    keeps : (t : Table) → Holds v t → Within ns t → Within ns (made t (store_request x.asked))
    keeps t e q =
        let t_of = clean_table N B s v t d.tidy k e in
        let a = d.taken_so in
        within_made N B ns a.passed.right x.tenant t t_of.1 q x.asked a.passed.own
        (spare_agree (share_of (shares_of ns) x.tenant) (table_of N B s) t (clean_once N B s a.passed.size d.tidy) t_of.1 t_of.0 x.asked a.spare)

-- a tenant's turn, answered or cut
pub turn_layered : (N B : ℕ) (ns : List ℕ) (x : Call) (o : Seen) (s m : Image) (v : Promise) → ProperAsked x.asked → Layered N B ns s v → Serves N B ns x o s m
    → (Unacknowledged o × (m ≡ s) × Layered N B ns m v) ⊎ ((y : Promise) × Moves (board N B false) (wears N B s) (store_request x.asked) o v y × Layered N B ns m y × Asks N B ns x o s m)
turn_layered N B ns x o s m v p k h = ⊎_elim
    (λ i. inl (i.0, i.1, subst (λ (y : Image). Layered N B ns y v) (sym i.1) k))
    (λ d. let a = asked_layered N B ns x o s m v p k d in inr (a.0, a.1, a.2, d))
    (meets N B ns x s o m h)

-- the store itself, read or recovered
unwritten_on : (r : Request) → Unwritten r → OnTable r
unwritten_on format h = absurd h
unwritten_on (put b c) h = tt
unwritten_on (delete b) h = tt
unwritten_on (read b) h = tt
unwritten_on (read_or b f) h = tt
unwritten_on recover h = tt

unwritten_made : (r : Request) → Unwritten r → (t : Table) → made t r ≡ t
unfolding made
unwritten_made format h t = absurd h
unwritten_made (put b c) h t = absurd h
unwritten_made (delete b) h t = absurd h
unwritten_made (read b) h t = refl
unwritten_made (read_or b f) h t = refl
unwritten_made recover h t = refl

-- ---- all turns

puts_asked : (r : Asked) (b : ℕ) (c : List ℕ) → store_request r ≡ put b c → (r ≡ puts b c) × (block_asked r ≡ b)
unfolding store_request block_asked
puts_asked (puts a d) b c e = (cc, cc)
puts_asked (deletes a) b c e = absurd (let y : ◌≡◌ {A = ℕ} 0 1 = cc in omega (arith, y))
puts_asked (reads a size) b c e = absurd (let y : ◌≡◌ {A = ℕ} 0 1 = cc in omega (arith, y))

pub through : (N B : ℕ) (ns : List ℕ) (ts : List Turn) (s u : Image) (v : Promise) → OnlyLayer ts → Layered N B ns s v → Through N B ns s ts u
    → (y : Promise) × Layered N B ns u y × From ns ts v y
through N B ns [] s u v only k h = (v, subst (λ (y : Image). Layered N B ns y v) (sym h) k, λ b c shows. inl shows)
through N B ns (store e ∷ ts) s u v only k (p, w, (m, d, rest)) =
    let r = e.request in
    let f = one_event N B false (request_laws N B) s m v r (may N B (request_laws N B) r (unwritten_on r only.0)) p k.0 e.seen d in
    let q = move_promised (λ t. Within ns t) (board N B false) (wears N B s) r e.seen v f.0 f.1 (unwritten_on r only.0)
    (λ t i z. subst (λ (y : Table). Within ns y) (sym (unwritten_made r only.0 t)) z) k.1 in
    let ih = through N B ns ts m u f.0 only.1 (f.2, q) rest in
    (ih.0, ih.1, λ b c shows. ⊎_elim (λ old. ⊎_elim (λ older. inl older) (λ new. absurd (subst Unwritten new.0 only.0)) (move_from f.1 b c old)) (λ new. inr new) (ih.2 b c shows))
through N B ns (tenant x o ∷ ts) s u v only k (p, (m, h, rest)) = go (turn_layered N B ns x o s m v p k h) (λ y l. through N B ns ts m u y only l rest)
  where
    later : (y z : Promise) → From ns ts y z → ((b : ℕ) (c : List ℕ) → Shows y b (present c) → Shows v b (present c) ⊎ ((a : ℕ) × (owns (shares_of ns) a b ≡ true) × PutBy a b c (tenant x o ∷ ts)))
        → From ns (tenant x o ∷ ts) v z
    later y z f g b c shows = ⊎_elim (λ old. g b c old) (λ new. inr (new.0, new.1, inr new.2)) (f b c shows)

    now : (y : Promise) → Moves (board N B false) (wears N B s) (store_request x.asked) o v y → Asks N B ns x o s m → (b : ℕ) (c : List ℕ) → Shows y b (present c)
        → Shows v b (present c) ⊎ ((a : ℕ) × (owns (shares_of ns) a b ≡ true) × PutBy a b c (tenant x o ∷ ts))
    now y d asks b c shows = ⊎_elim
        (λ old. inl old)
        (λ new. let e = puts_asked x.asked b c new.0 in
        inr (x.tenant, ap (λ (i : ℕ). owns (shares_of ns) x.tenant i) (sym e.1) ∙ asks.taken_so.passed.own, inl (refl, e.0, asks.begun)))
        (move_from d b c shows)

    go : (Unacknowledged o × (m ≡ s) × Layered N B ns m v) ⊎ ((y : Promise) × Moves (board N B false) (wears N B s) (store_request x.asked) o v y × Layered N B ns m y × Asks N B ns x o s m)
        → ((y : Promise) → Layered N B ns m y → (z : Promise) × Layered N B ns u z × From ns ts y z) → (z : Promise) × Layered N B ns u z × From ns (tenant x o ∷ ts) v z
    go (inl i) ih = let a = ih v i.2 in (a.0, a.1, later v a.0 a.2 (λ b c shows. inl shows))
    go (inr (y, d, l, asks)) ih = let a = ih y l in (a.0, a.1, later y a.0 a.2 (now y d asks))

-- ---- the start

pub start : (N B : ℕ) (ns : List ℕ) (s : Image) (k : ℕ) → FinishedFormat N B s k → Layered N B ns (formatted N B s k) (settled [])
start N B ns s k h =
    let e = ends N B s k format (λ n. omega (arith, h, n)) in
    let z = format_passed N B s (sym (code_of_lem N B s format) ∙ (sym e.code ∙ h)) in
    let i : formatted N B s k ≡ run B (format_steps N B) s = e.image ∙ ap (λ y. run B y s) (steps_format N B s z) in
    (rw i (run_size N B (format_steps N B) s ∙ z, formatted_stores N B (request_laws N B) s z), within_empty ns)
