-- The customer's sentences about every history of the store, from any image of a right size; the last from any clean one.
use Rattle.std.specs.Prelude.{ℕ, ◌<◌, ◌≡◌, refl, ◌≢◌, true, false, List, [], ◌∷◌, ◌++◌, length}
use Rattle.std.proofs.Common.{sym, subst}
use Rattle.model.specs.Chip.{Image, Bytes, right_size}
use Rattle.model.specs.Header.{is_former}
use Rattle.model.specs.Slot.{number_ok}
use Rattle.model.specs.State.{clean, state, view}
use Rattle.model.specs.Table.{Found, absent, lookup, table_of}
use Rattle.model.specs.Answers.{delete}
use Rattle.model.specs.Histories.{answered, Event, History}
use Rattle.crash.specs.Machine.{settled, unknown, NoFormat}
use Rattle.crash.specs.Demand2.{board}
use Rattle.crash.proofs.Reading.{code_seen, format_starts}
use Rattle.crash.proofs.ReadingRuns.{PutAmong, put_some, Known, FinishedFormat, runs_known, runs_append, Reads, factory_of, gives, shows_only_what_was_put, AllSpare, runs_keep, AllUndeleted, undeleted_none, undeleted_front, none_front, former_runs_keep, replied, read_back, Leaves, acknowledged_stays}
use Rattle.crash.proofs.Theorem.{demand2, from_clean, from_former}

-- A block never shows contents that were not put under its number since the last format.
pub store_shows_only_what_was_put : (N B : ℕ) (s u : Image) (past es : List Event) (f e : Event) (b : ℕ) (c : List ℕ) → right_size N B s ≡ true
    → History N B s (past ++ (f ∷ (es ++ (e ∷ [])))) u → FinishedFormat f → NoFormat es → Reads b e.request → e.seen ≡ answered (gives c) → PutAmong b c es
store_shows_only_what_was_put N B s u past es f e b c z h done none q g =
    let (x, runs, keeps) = demand2 N B s u (past ++ (f ∷ (es ++ (e ∷ [])))) z h in
    shows_only_what_was_put (board N B false) unknown x past es f e b c runs done none q g

-- Request #105, "a tenant saw shelves without owners": no read that answers 0 shows contents of 0 bytes, from a finished format on.
pub store_never_shows_empty : (N B : ℕ) (s u : Image) (past es : List Event) (f e : Event) (b : ℕ) (c : List ℕ) → right_size N B s ≡ true
    → History N B s (past ++ (f ∷ (es ++ (e ∷ [])))) u → FinishedFormat f → NoFormat es → Reads b e.request → e.seen ≡ answered (gives c) → 0 < length c
store_never_shows_empty N B s u past es f e b c z h done none q g = put_some b c es (store_shows_only_what_was_put N B s u past es f e b c z h done none q g)

-- Once acknowledged, a put or a delete is what every read of that block shows until the block is put or deleted again, through every power cut and recovery;
-- in a history with a finished format and no other since.
pub store_acknowledged_stays : (N B : ℕ) (s u : Image) (past before es : List Event) (f d e : Event) (b : ℕ) (z : Found) → right_size N B s ≡ true
    → History N B s (past ++ (f ∷ (before ++ (d ∷ (es ++ (e ∷ [])))))) u → FinishedFormat f → NoFormat before
    → Leaves b z d.request → code_seen d.seen ≡ 0 → AllSpare b es → Reads b e.request → number_ok b ≡ true
    → code_seen e.seen ≢ 9 → code_seen e.seen ≢ 5 → e.seen ≡ answered (replied (factory_of e.request) z)
store_acknowledged_stays N B s u past before es f d e b z size h done none leaves acknowledged spare q n cut asks =
    let C = board N B false in
    let (y, runs, keeps) = demand2 N B s u (past ++ (f ∷ (before ++ (d ∷ (es ++ (e ∷ [])))))) size h in
    let (start, formatted, (fresh, formatting, rest)) = runs_append C past (f ∷ (before ++ (d ∷ (es ++ (e ∷ []))))) unknown y runs in
    let (x, since, doing) = runs_append C before (d ∷ (es ++ (e ∷ []))) fresh y rest in
    let known : Known x = runs_known C before fresh x since none (subst Known (sym (format_starts formatting done.request done.seen)) tt) in
    acknowledged_stays C x y es d e b z doing known leaves acknowledged spare q n cut asks

-- Request #105, "stored slots of length 0 stay live, can be read and are copied in tidying": what a clean image holds of a block, contents of 0 bytes too,
-- is what every read of that block shows until the block is put or deleted, through every put of others, every put of its own that is refused for its number
-- or length, every power cut and recovery.
pub store_stored_stays : (N B : ℕ) (s u : Image) (es : List Event) (e : Event) (b : ℕ) (z : Found) → right_size N B s ≡ true → Bytes s → state N B s ≡ clean
    → is_former (view N B s).version ≡ false → lookup b (table_of N B s) ≡ z → History N B s (es ++ (e ∷ [])) u → AllSpare b es → Reads b e.request → number_ok b ≡ true
    → code_seen e.seen ≢ 9 → code_seen e.seen ≢ 5 → e.seen ≡ answered (replied (factory_of e.request) z)
store_stored_stays N B s u es e b z size bytes tidy new stored h spare q n cut asks =
    let C = board N B false in
    let (y, runs, keeps) = from_clean N B s u (es ++ (e ∷ [])) size bytes tidy new h in
    let (last, since, (end, reading, nothing)) = runs_append C es (e ∷ []) (settled (table_of N B s)) y runs in
    read_back reading b z (runs_keep C es (settled (table_of N B s)) last since b z spare stored) q n cut asks

-- Request #104, "version 1 images are still read, deleted from and recovered by their old rules", of boards in the field: what a clean image of version 1 holds of a block
-- is what every read of that block shows until the block is deleted or the image formatted, through every put, which is refused, every delete of others, every power cut and recovery.
pub former_stored_stays : (N B : ℕ) (s u : Image) (es : List Event) (e : Event) (b : ℕ) (z : Found) → right_size N B s ≡ true → Bytes s → state N B s ≡ clean
    → is_former (view N B s).version ≡ true → lookup b (table_of N B s) ≡ z → History N B s (es ++ (e ∷ [])) u → AllUndeleted b (es ++ (e ∷ [])) → Reads b e.request → number_ok b ≡ true
    → code_seen e.seen ≢ 9 → code_seen e.seen ≢ 5 → e.seen ≡ answered (replied (factory_of e.request) z)
former_stored_stays N B s u es e b z size bytes tidy former stored h spare q n cut asks =
    let C = board N B true in
    let (y, runs, keeps) = from_former N B s u (es ++ (e ∷ [])) size bytes tidy former h (undeleted_none b (es ++ (e ∷ [])) spare) in
    let (last, since, (end, reading, nothing)) = runs_append C es (e ∷ []) (settled (table_of N B s)) y runs in
    read_back reading b z (former_runs_keep C es (settled (table_of N B s)) last refl since b z (undeleted_front b es (e ∷ []) spare) stored) q n cut asks

-- and a delete that is acknowledged stays: every later read of that block finds nothing.
pub former_deleted_stays : (N B : ℕ) (s u : Image) (before es : List Event) (d e : Event) (b : ℕ) → right_size N B s ≡ true → Bytes s → state N B s ≡ clean
    → is_former (view N B s).version ≡ true → History N B s (before ++ (d ∷ (es ++ (e ∷ [])))) u → NoFormat (before ++ (d ∷ (es ++ (e ∷ []))))
    → d.request ≡ delete b → code_seen d.seen ≡ 0 → AllSpare b es → Reads b e.request → number_ok b ≡ true
    → code_seen e.seen ≢ 9 → code_seen e.seen ≢ 5 → e.seen ≡ answered (replied (factory_of e.request) absent)
former_deleted_stays N B s u before es d e b size bytes tidy former h none deletes acknowledged spare q n cut asks =
    let C = board N B true in
    let (y, runs, keeps) = from_former N B s u (before ++ (d ∷ (es ++ (e ∷ [])))) size bytes tidy former h none in
    let (x, since, doing) = runs_append C before (d ∷ (es ++ (e ∷ []))) (settled (table_of N B s)) y runs in
    acknowledged_stays C x y es d e b absent doing (runs_known C before (settled (table_of N B s)) x since (none_front before (d ∷ (es ++ (e ∷ []))) none) tt) deletes acknowledged spare q n cut asks
