-- A fresh image built from a table, whatever the chip held before: what it is, and what may follow it. A finished move and a finished rebuild are such.
use Rattle.std.specs.Prelude.{ℕ, ◌≡◌, ◌≢◌, true, false}
use Rattle.std.proofs.Math.Path.{ap}
use Rattle.std.proofs.Common.{◌∙◌, arith}
use mathlib.Core.List.{List, [], ◌∷◌, ◌++◌, flatten}
use Rattle.model.specs.Chip.{Image, Bytes, right_size, run}
use Rattle.model.specs.Header.{new_version, is_former}
use Rattle.model.specs.Slot.{number_ok, is_dead, Slot}
use Rattle.model.specs.State.{View, state, clean, view, distinct}
use Rattle.model.specs.Steps.{copied}
use Rattle.model.specs.Table.{Table, Agree, lookup, table_of}
use Rattle.model.specs.Histories.{answered, Event, History}
use Rattle.model.specs.Sequences.{Call, observed, Uncut}
use Rattle.model.specs.Mounted.{Places}
use Rattle.model.specs.Laws.Lists.{count_append, flatten_last}
use Rattle.model.proofs.Laws.Chip.{run_size, size_facts}
use Rattle.model.proofs.Laws.Tables.{agree_of, agree_trans}
use Rattle.bridge.specs.Views.Slots.{rows_length, slots_counted}
use Rattle.bridge.specs.Views.Shape.{row_added}
use Rattle.crash.specs.Machine.{Promise, settled, PlainRuns}
use Rattle.crash.specs.Demand2.{Keeps, board}
use Rattle.crash.proofs.Reading.{code_seen}
use Rattle.crash.proofs.ReadingRuns.{Reads, factory_of, AllSpare, replied}
use Rattle.crash.proofs.Sentences.{store_stored_stays}
use Rattle.crash.proofs.Theorem.{from_clean}
use Rattle.wear.specs.Demand3.{stocked, Bounded}
use Rattle.wear.specs.Counting.{deads, copied_dead}
use Rattle.wear.proofs.Requests.{tracks_stocked}
use Rattle.wear.proofs.Sequence.{bounded_from}
use Rattle.sessions.specs.Law.{Turn, Session, events_in, Observes, Unbroken}
use Rattle.sessions.proofs.Theorem.{unmounted_history, history_calls}
use Rattle.moves.specs.Moves.{by_number, fresh_steps}
use Rattle.moves.proofs.Sorted.{sorted_agree}
use Rattle.moves.proofs.Filling.{filling, Filled, Built}
use Rattle.moves.proofs.Fresh.{Fits, fresh_built, fresh_bytes, built_clean, built_table, built_second}

-- no slot of a fresh image is dead
none_dead_lem : (M D : ℕ) (rows : List (List Slot)) (top : Table) → Filled M D rows top → deads (filling D rows top).slots ≡ 0
unfolding row_added
none_dead_lem M D rows top f =
    rw (flatten_last rows (copied D top), count_append is_dead (flatten rows) (copied D top))
    (omega (arith, copied_dead D top, slots_counted (flatten rows) f.sound, f.live, rows_length D rows f.sizes))

-- what the list of a fresh image leaves
abbrev pub built_on : ℕ → ℕ → Table → Image → Image
built_on M D table t = run D (fresh_steps M D (by_number table) t) t

-- the table has each block once, and fits a target of a right size
module _ (M D : ℕ) (table : Table) (t u : Image) (z : right_size M D t ≡ true) (once : distinct table ≡ true) (fits : Fits M D (by_number table)) (made : u ≡ built_on M D table t) where
  built : Built M D u (by_number table)
  built = rw made (fresh_built M D (by_number table) t z fits)

  pub built_size : right_size M D u ≡ true
  built_size = rw made (run_size M D (fresh_steps M D (by_number table) t) t ∙ z)

  pub built_bytes : Bytes u
  built_bytes = rw made (fresh_bytes M D (by_number table) t z fits)

  pub is_clean_lem : state M D u ≡ clean
  is_clean_lem = built_clean M D u (by_number table) fits built

  -- in the order of their numbers
  pub in_order : table_of M D u ≡ by_number table
  in_order = built_table M D u (by_number table) fits built

  pub built_version : (view M D u).version ≡ new_version 0
  unfolding row_added
  built_version = ap (λ (y : View). y.version) built.held.view

  first_zero : (view M D u).first ≡ 0
  unfolding row_added
  first_zero = ap (λ (y : View). y.first) built.held.view

  second : is_former (view M D u).version ≡ false
  second = built_second M D u (by_number table) fits built

  pub same_blocks : Agree (table_of M D u) table
  same_blocks = agree_trans (table_of M D u) (by_number table) table (agree_of (table_of M D u) (by_number table) in_order) (sorted_agree table once)

  -- ---- demands 2 and 3 from it, of requests and of sessions

  pub built_demand2 : (w : Image) (es : List Event) → History M D u es w → (x : Promise) × PlainRuns (board M D false) (settled (by_number table)) es x × Keeps M D w x
  built_demand2 w es h = rw in_order at (from_clean M D u w es built_size built_bytes is_clean_lem second h)

  pub built_demand3 : (xs : List Call) → Uncut (observed M D u xs) → Bounded M D (stocked table) (observed M D u xs)
  built_demand3 xs q = bounded_from M D u (stocked table) xs (record {
    size = built_size;
    bytes = built_bytes;
    clean = is_clean_lem;
    tracks = tracks_stocked M D (size_facts M D u built_size).two (view M D u) table first_zero once (unfold table_of in same_blocks) (rw built.held.view (none_dead_lem M D built.rows built.top built.filled));
  }) q

  pub built_sessions2 : (w : Image) (p : Places) (es : List Turn) → Session M D false u p es w → (x : Promise) × PlainRuns (board M D false) (settled (by_number table)) (events_in es) x × Keeps M D w x
  built_sessions2 w p es h = built_demand2 w (events_in es) (unmounted_history M D u p es w h)

  pub built_sessions3 : (w : Image) (p : Places) (es : List Turn) → Session M D false u p es w → Unbroken (events_in es)
      → (xs : List Call) × Observes (events_in es) (observed M D u xs) × Bounded M D (stocked table) (observed M D u xs)
  built_sessions3 w p es h q =
      let c = history_calls M D u (events_in es) w (unmounted_history M D u p es w h) q in
      (c.0, c.1, built_demand3 c.0 c.2)

  -- what the table held of a block is what every read of that block shows until the block is put or deleted
  pub built_stays : (w : Image) (es : List Event) (e : Event) (b : ℕ) → History M D u (es ++ (e ∷ [])) w → AllSpare b es → Reads b e.request → number_ok b ≡ true
      → code_seen e.seen ≢ 9 → code_seen e.seen ≢ 5 → e.seen ≡ answered (replied (factory_of e.request) (lookup b table))
  built_stays w es e b h spare q n cut asks = store_stored_stays M D u w es e b (lookup b table) built_size built_bytes is_clean_lem second (same_blocks b) h spare q n cut asks
