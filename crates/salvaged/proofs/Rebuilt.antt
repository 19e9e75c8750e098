-- The second part: a finished rebuild is a fresh image built from a table that fits.
use Rattle.std.specs.Prelude.{ℕ, suc, ◌≡◌, refl, ◌≢◌, Bool, true, List, [], ◌∷◌, ◌++◌, length, take}
use Rattle.std.proofs.Common.{sym, ◌∙◌, arith, ne_eqb}
use Rattle.std.proofs.Math.Path.{ap}
use Rattle.std.proofs.Math.Bool.{false}
use Rattle.model.specs.Chip.{Image, Bytes, right_size, run}
use Rattle.model.specs.Slot.{number_ok}
use Rattle.model.specs.State.{clean, state}
use Rattle.model.specs.Table.{Table, lookup, table_of}
use Rattle.model.specs.Answers.{Refusal, first_of, is_damaged, is_unfinished, Work, code_under, worked}
use Rattle.model.specs.Histories.{answered, Event, History, shown}
use Rattle.model.proofs.Laws.Tables.{agree_of, agree_trans}
use Rattle.crash.proofs.Reading.{code_seen}
use Rattle.crash.proofs.ReadingRuns.{Reads, factory_of, AllSpare, replied}
use Rattle.moves.specs.Moves.{by_number, fresh_steps, fresh_work, move_refusals, move_work, move_outcome}
use Rattle.moves.proofs.Sorted.{sorted_length, sorted_equal}
use Rattle.moves.proofs.Counted.{sorted_steps}
use Rattle.moves.proofs.Fresh.{Fits, fresh_same, fresh_length}
use Rattle.moves.proofs.Works.{Done, done, undone}
use Rattle.moved.specs.Built.{built_on, is_clean_lem, built_version, same_blocks, built_demand2, built_demand3, built_sessions2, built_sessions3, built_stays}
use Rattle.salvage.specs.Salvage.{salvaged, rebuild_refusals, rebuild_work, rebuild_outcome}
use Rattle.salvage.proofs.Facts.{salvaged_distinct, salvaged_valid, rebuild_asks, rebuild_fits, rebuild_same}
use Rattle.moved.proofs.Theorem.{tried_size}
use Rattle.salvaged.specs.Law.{target_after, Rebuilds, RebuiltTable, RebuiltShown, RebuiltAsMoved, RebuiltRefused, RebuiltEqual, RebuiltSteps, RebuiltAgain, RebuiltDemand2, RebuiltDemand3, RebuiltSessions2, RebuiltSessions3}
use Rattle.salvaged.proofs.Shown.{salvaged_table}
use Rattle.salvaged.proofs.Lines.{clean_table}

pub rebuilt_refused : RebuiltRefused
unfolding rebuild_outcome rebuild_work
rebuilt_refused = λ N B s M D t allowance n m. undone (rebuild_refusals N B s M D t) M D (salvaged N B s) t allowance n m

-- ---- as a move of a clean source

-- the work goes by the row that applies alone
rows_only : (p q : List Refusal) (M D : ℕ) (x : Table) (t : Image) → first_of p ≡ first_of q → fresh_work p M D x t ≡ fresh_work q M D x t
unfolding fresh_work
rows_only p q M D x t e = rw e

-- refused, and then the table is not asked for
refused_only : (p q : List Refusal) (M D n : ℕ) (x y : Table) (t : Image) → first_of p ≡ suc n → first_of q ≡ suc n → fresh_work p M D x t ≡ fresh_work q M D y t
unfolding fresh_work
refused_only p q M D n x y t e f = rw (e, f, ne_eqb (suc n) 0 (λ k. omega arith))

pub rebuilt_as_moved : RebuiltAsMoved
unfolding rebuild_outcome rebuild_work move_outcome move_work
rebuilt_as_moved = λ N B s M D t a c. ap (λ (w : Work). worked D w t a) (go N B s M D t c (right_size N B s) refl)
  where
    go : (N B : ℕ) (s : Image) (M D : ℕ) (t : Image) → state N B s ≡ clean → (u : Bool) → right_size N B s ≡ u
        → fresh_work (rebuild_refusals N B s M D t) M D (salvaged N B s) t ≡ fresh_work (move_refusals N B s M D t) M D (table_of N B s) t
    go N B s M D t c true z =
        let same = (clean_table N B s z c).0 in
        let rows : first_of (rebuild_refusals N B s M D t) ≡ first_of (move_refusals N B s M D t) = (unfold rebuild_refusals move_refusals first_of is_damaged is_unfinished in (rw (c, same))) in
        rows_only (rebuild_refusals N B s M D t) (move_refusals N B s M D t) M D (salvaged N B s) t rows ∙ ap (λ (x : Table). fresh_work (move_refusals N B s M D t) M D x t) same
    go N B s M D t c false z =
        let p : first_of (rebuild_refusals N B s M D t) ≡ 1 = (unfold rebuild_refusals first_of in (rw z)) in
        let q : first_of (move_refusals N B s M D t) ≡ 1 = (unfold move_refusals first_of in (rw z)) in
        refused_only (rebuild_refusals N B s M D t) (move_refusals N B s M D t) M D 0 (salvaged N B s) (table_of N B s) t p q

-- ---- a finished one

module _ (N B : ℕ) (s : Image) (M D : ℕ) (t : Image) (allowance : ℕ) (b : Bytes s) (f : Rebuilds N B s M D t allowance) where
  d : Done (rebuild_refusals N B s M D t) M D (salvaged N B s) t allowance
  unfolding rebuild_outcome rebuild_work
  d = done (rebuild_refusals N B s M D t) M D (salvaged N B s) t allowance f

  target : right_size M D t ≡ true
  target = (rebuild_asks N B s M D t d.free).target

  fits : Fits M D (by_number (salvaged N B s))
  fits = rebuild_fits N B s M D t b (rebuild_asks N B s M D t d.free)

  made : target_after N B s M D t allowance ≡ built_on M D (salvaged N B s) t
  unfolding rebuild_outcome rebuild_work
  made = d.image

pub rebuilt_table : RebuiltTable
rebuilt_table = λ N B s M D t a b f.
    let blocks = salvaged N B s in
    let u = target_after N B s M D t a in
    let z = target N B s M D t a b f in
    let o = salvaged_distinct N B s in
    let g = fits N B s M D t a b f in
    let e = made N B s M D t a b f in
    (is_clean_lem M D blocks t u z o g e, built_version M D blocks t u z o g e, same_blocks M D blocks t u z o g e)

pub rebuilt_shown : RebuiltShown
rebuilt_shown = λ N B s M D t a b f n.
    agree_trans (table_of M D (target_after N B s M D t a)) (salvaged N B s) (shown N B s) (rebuilt_table N B s M D t a b f).2
    (agree_of (salvaged N B s) (shown N B s) (salvaged_table N B s (rebuild_asks N B s M D t (d N B s M D t a b f).free).source n))

pub rebuilt_equal : RebuiltEqual
rebuilt_equal = λ N B s P Q r M D t u a c b y f g h.
    let e : by_number (salvaged N B s) ≡ by_number (salvaged P Q r) =
    sorted_equal (salvaged N B s) (salvaged P Q r) (salvaged_valid N B s b) (salvaged_valid P Q r y) (salvaged_distinct N B s) (salvaged_distinct P Q r) h in
    made N B s M D t a b f ∙ (fresh_same M D (by_number (salvaged N B s)) t u (target N B s M D t a b f) (target P Q r M D u c y g) (fits N B s M D t a b f)
    ∙ (ap (λ (z : Table). run D (fresh_steps M D z u) u) e ∙ sym (made P Q r M D u c y g)))

pub rebuilt_steps : RebuiltSteps
unfolding rebuild_outcome rebuild_work
rebuilt_steps = λ N B s M D t a b f.
    let blocks = salvaged N B s in
    (d N B s M D t a b f).count ∙ (fresh_length M D (by_number blocks) t (target N B s M D t a b f) (fits N B s M D t a b f) ∙ rw (sorted_length blocks, sorted_steps blocks))

-- ---- begun again

pub rebuilt_again : RebuiltAgain
unfolding rebuild_outcome
rebuilt_again = λ N B s M D k t u a b h.
    let w = rebuild_same N B s M D t u b (tried_size (rebuild_work N B s M D) M D k t u h) in
    (ap (code_under a) w, ap (λ (x : Work). length (take a x.steps)) w, λ e. rebuilt_equal N B s N B s M D u t a a b b (ap (code_under a) w ∙ e) e (λ q. refl))

-- ---- demands 2 and 3

pub rebuilt_demand2 : RebuiltDemand2
rebuilt_demand2 = λ N B s M D t u a es b f h.
    built_demand2 M D (salvaged N B s) t (target_after N B s M D t a) (target N B s M D t a b f) (salvaged_distinct N B s) (fits N B s M D t a b f) (made N B s M D t a b f) u es h

pub rebuilt_demand3 : RebuiltDemand3
rebuilt_demand3 = λ N B s M D t a xs b f q.
    built_demand3 M D (salvaged N B s) t (target_after N B s M D t a) (target N B s M D t a b f) (salvaged_distinct N B s) (fits N B s M D t a b f) (made N B s M D t a b f) xs q

pub rebuilt_sessions2 : RebuiltSessions2
rebuilt_sessions2 = λ N B s M D t u a p es b f h.
    built_sessions2 M D (salvaged N B s) t (target_after N B s M D t a) (target N B s M D t a b f) (salvaged_distinct N B s) (fits N B s M D t a b f) (made N B s M D t a b f) u p es h

pub rebuilt_sessions3 : RebuiltSessions3
rebuilt_sessions3 = λ N B s M D t u a p es b f h q.
    built_sessions3 M D (salvaged N B s) t (target_after N B s M D t a) (target N B s M D t a b f) (salvaged_distinct N B s) (fits N B s M D t a b f) (made N B s M D t a b f) u p es h q

-- Read back: what salvage gave of a block is what every read of that block on the rebuilt image shows until the block is put or deleted there, through every put of others, every power cut and recovery.
pub rebuilt_stays : (N B : ℕ) (s : Image) (M D : ℕ) (t u : Image) (allowance : ℕ) (es : List Event) (e : Event) (k : ℕ) → Bytes s → Rebuilds N B s M D t allowance
    → History M D (target_after N B s M D t allowance) (es ++ (e ∷ [])) u → AllSpare k es → Reads k e.request → number_ok k ≡ true
    → code_seen e.seen ≢ 9 → code_seen e.seen ≢ 5 → e.seen ≡ answered (replied (factory_of e.request) (lookup k (salvaged N B s)))
rebuilt_stays N B s M D t u a es e k b f h spare q n cut asks =
    built_stays M D (salvaged N B s) t (target_after N B s M D t a) (target N B s M D t a b f) (salvaged_distinct N B s) (fits N B s M D t a b f) (made N B s M D t a b f) u es e k h spare q n cut asks
