-- The proofs: a finished move is a fresh image built from a table that fits.
use Rattle.std.specs.Prelude.{ℕ, zero, suc, ◌≡◌, refl, ◌≢◌, true, List, [], ◌∷◌, ◌++◌, length, take}
use Rattle.std.proofs.Common.{sym, ap, ◌∙◌, ⊎_elim}
use Rattle.model.specs.Chip.{Image, right_size, run}
use Rattle.model.specs.Slot.{number_ok}
use Rattle.model.specs.State.{distinct}
use Rattle.model.specs.Table.{Table, lookup, table_of}
use Rattle.model.specs.Answers.{Work, code_under}
use Rattle.model.specs.Histories.{answered, Event, History}
use Rattle.model.proofs.Laws.Chip.{run_size, cut_size}
use Rattle.crash.proofs.Reading.{code_seen}
use Rattle.crash.proofs.ReadingRuns.{Reads, factory_of, AllSpare, replied}
use Rattle.moves.specs.Moves.{by_number, fresh_steps, move_refusals, move_work, move_outcome}
use Rattle.moves.proofs.Sorted.{sorted_length, sorted_equal}
use Rattle.moves.proofs.Counted.{sorted_steps}
use Rattle.moves.proofs.Fresh.{Fits, fresh_same, fresh_length}
use Rattle.moves.proofs.Works.{Done, done, undone}
use Rattle.moves.proofs.Facts.{table_distinct, table_valid, Movable, movable_fits, asks, work_same}
use Rattle.moved.specs.Law.{target_after, Finished, RefusedUnchanged, SameTable, EqualTargets, StepCount, Tried, BegunAgain, MovedDemand2, MovedDemand3, MovedSessions2, MovedSessions3}
use Rattle.moved.specs.Built.{built_on, is_clean_lem, built_version, same_blocks, built_demand2, built_demand3, built_sessions2, built_sessions3, built_stays}

pub refused_unchanged : RefusedUnchanged
unfolding move_outcome move_work
refused_unchanged = λ N B s M D t allowance n m. undone (move_refusals N B s M D t) M D (table_of N B s) t allowance n m

-- ---- a finished move

module _ (N B : ℕ) (s : Image) (M D : ℕ) (t : Image) (allowance : ℕ) (f : Finished N B s M D t allowance) where
  abbrev table : Table
  table = table_of N B s

  d : Done (move_refusals N B s M D t) M D table t allowance
  unfolding move_outcome move_work
  d = done (move_refusals N B s M D t) M D table t allowance f.1

  m : Movable N B s M D t
  m = asks N B s M D t d.free

  fits : Fits M D (by_number table)
  fits = movable_fits N B s M D t f.0 m

  once : distinct table ≡ true
  once = table_distinct N B s m.source m.fine

  made : target_after N B s M D t allowance ≡ built_on M D table t
  unfolding move_outcome move_work
  made = d.image

pub same_table : SameTable
same_table = λ N B s M D t a f.
    let blocks = table_of N B s in
    let u = target_after N B s M D t a in
    let z = (m N B s M D t a f).target in
    let o = once N B s M D t a f in
    let g = fits N B s M D t a f in
    let e = made N B s M D t a f in
    (is_clean_lem M D blocks t u z o g e, built_version M D blocks t u z o g e, same_blocks M D blocks t u z o g e)

pub equal_targets : EqualTargets
equal_targets = λ N B s P Q r M D t u a b f g h.
    let x = m N B s M D t a f in
    let y = m P Q r M D u b g in
    let e : by_number (table_of N B s) ≡ by_number (table_of P Q r) =
    sorted_equal (table_of N B s) (table_of P Q r) (table_valid N B s x.source x.fine f.0) (table_valid P Q r y.source y.fine g.0)
    (once N B s M D t a f) (once P Q r M D u b g) h in
    made N B s M D t a f ∙ (fresh_same M D (by_number (table_of N B s)) t u x.target y.target (fits N B s M D t a f)
    ∙ (ap (λ (z : Table). run D (fresh_steps M D z u) u) e ∙ sym (made P Q r M D u b g)))

pub step_count : StepCount
unfolding move_outcome move_work
step_count = λ N B s M D t a f.
    let blocks = table_of N B s in
    (d N B s M D t a f).count ∙ (fresh_length M D (by_number blocks) t (m N B s M D t a f).target (fits N B s M D t a f) ∙ rw (sorted_length blocks, sorted_steps blocks))

-- ---- begun again

pub tried_size : (work : Image → Work) (M D k : ℕ) (t u : Image) → Tried work D k t u → right_size M D u ≡ right_size M D t
tried_size work M D zero t u e = ap (right_size M D) e
tried_size work M D (suc k) t u (m, c, r) =
    tried_size work M D k m u r
    ∙ ⊎_elim (λ x. cut_size M D (work t).steps t m x) (λ x. ap (right_size M D) x.1 ∙ run_size M D (take x.0 (work t).steps) t) c

pub begun_again : BegunAgain
unfolding move_outcome
begun_again = λ N B s M D k t u a b h.
    let z = tried_size (move_work N B s M D) M D k t u h in
    let w = work_same N B s M D t u b z in
    (ap (code_under a) w, ap (λ (x : Work). length (take a x.steps)) w, λ e. equal_targets N B s N B s M D u t a a (b, ap (code_under a) w ∙ e) (b, e) (λ q. refl))

-- ---- demands 2 and 3

pub moved_demand2 : MovedDemand2
moved_demand2 = λ N B s M D t u a es f h.
    built_demand2 M D (table_of N B s) t (target_after N B s M D t a) (m N B s M D t a f).target (once N B s M D t a f) (fits N B s M D t a f) (made N B s M D t a f) u es h

pub moved_demand3 : MovedDemand3
moved_demand3 = λ N B s M D t a xs f q.
    built_demand3 M D (table_of N B s) t (target_after N B s M D t a) (m N B s M D t a f).target (once N B s M D t a f) (fits N B s M D t a f) (made N B s M D t a f) xs q

pub moved_sessions2 : MovedSessions2
moved_sessions2 = λ N B s M D t u a p es f h.
    built_sessions2 M D (table_of N B s) t (target_after N B s M D t a) (m N B s M D t a f).target (once N B s M D t a f) (fits N B s M D t a f) (made N B s M D t a f) u p es h

pub moved_sessions3 : MovedSessions3
moved_sessions3 = λ N B s M D t u a p es f h q.
    built_sessions3 M D (table_of N B s) t (target_after N B s M D t a) (m N B s M D t a f).target (once N B s M D t a f) (fits N B s M D t a f) (made N B s M D t a f) u p es h q

-- Read back: what the source held of a block, contents of 0 bytes too, is what every read of that block on the finished target shows until the block is put or deleted there, through every put of others, every power cut and recovery.
pub carried_stays : (N B : ℕ) (s : Image) (M D : ℕ) (t u : Image) (allowance : ℕ) (es : List Event) (e : Event) (b : ℕ) → Finished N B s M D t allowance
    → History M D (target_after N B s M D t allowance) (es ++ (e ∷ [])) u → AllSpare b es → Reads b e.request → number_ok b ≡ true
    → code_seen e.seen ≢ 9 → code_seen e.seen ≢ 5 → e.seen ≡ answered (replied (factory_of e.request) (lookup b (table_of N B s)))
carried_stays N B s M D t u a es e b f h spare q n cut asks =
    built_stays M D (table_of N B s) t (target_after N B s M D t a) (m N B s M D t a f).target (once N B s M D t a f) (fits N B s M D t a f) (made N B s M D t a f) u es e b h spare q n cut asks
