-- A plain table, and all that the customer wants to know of the store: one machine over it.
use Rattle.std.specs.Prelude.{ℕ, suc, ◌≡◌, ◌⊎◌, Bool, cond, ◌||◌, List, [], ◌∷◌, length, ltb, eqb}
use Rattle.model.specs.Slot.{number_ok}
use Rattle.model.specs.State.{holds}
use Rattle.model.specs.Table.{Table, lookup, without, store, contents_found}
use Rattle.model.specs.Answers.{Request, format, put, delete, read, read_or, recover, length_ok}
use Rattle.model.specs.Histories.{Reply, Seen, answered, lost, Event}

-- the most blocks that a table holds; and whether the image has version 1, which takes no put (request #104)
pub record Board : Type 0 where
  pub places : ℕ
  pub former : Bool

-- ---- what the table answers. Of the chip it is told one thing: whether a put would wear it out

-- 2 and 3: refused by the arguments alone
unfoldable pub malformed : Request → ℕ
malformed format = 0
malformed (put b c) = cond (number_ok b) (cond (length_ok (length c)) 0 3) 2
malformed (delete b) = cond (number_ok b) 0 2
malformed (read b) = cond (number_ok b) 0 2
malformed (read_or b f) = cond (number_ok b) 0 2
malformed recover = 0

-- a put on version 1: 11. A put of a block that is not stored while C are: 7. A worn chip: 8. A delete or a read of a block that is not stored: 6
unfoldable pub code_on_table : Board → Bool → Table → Request → ℕ
code_on_table C worn t format = 0
code_on_table C worn t (put b c) = cond C.former 11 (cond (holds b t || ltb (length t) C.places) (cond worn 8 0) 7)
code_on_table C worn t (delete b) = cond (holds b t) 0 6
code_on_table C worn t (read b) = cond (holds b t) 0 6
code_on_table C worn t (read_or b f) = cond (holds b t) 0 6
code_on_table C worn t recover = 0

unfoldable pub plain_code : Board → Bool → Table → Request → ℕ
plain_code C worn t r = cond (eqb (malformed r) 0) (code_on_table C worn t r) (malformed r)

-- a read that answers 0 gives the stored contents, and the second form for answer 6 the factory record
unfoldable pub plain_bytes : Table → ℕ → Request → List ℕ
plain_bytes t code format = []
plain_bytes t code (put b c) = []
plain_bytes t code (delete b) = []
plain_bytes t code (read b) = cond (eqb code 0) (contents_found (lookup b t)) []
plain_bytes t code (read_or b f) = cond (eqb code 0) (contents_found (lookup b t)) (cond (eqb code 6) f [])
plain_bytes t code recover = []

unfoldable pub plain : Board → Bool → Table → Request → Reply
plain C worn t r = record { code = plain_code C worn t r; bytes = plain_bytes t (plain_code C worn t r) r }

-- the table that an acknowledged request, one that answers 0, makes
unfoldable pub made : Table → Request → Table
made t format = []
made t (put b c) = store b c t
made t (delete b) = without b t
made t (read b) = t
made t (read_or b f) = t
made t recover = t

unfoldable pub next : Board → Bool → Table → Request → Table
next C worn t r = cond (eqb (plain_code C worn t r) 0) (made t r) t

-- ---- the machine

pub data Promise : Type 0 where
  -- every request so far was answered, or a recovery has finished since the last cut: this is the table
  settled : Table → Promise
  -- the power was cut, and no recovery has finished since: the first that finishes will show this table
  interrupted : Table → Promise
  -- before the first finished format, and after a cut one
  unknown : Promise

abbrev pub refused : ℕ → Seen
refused n = answered (record { code = n; bytes = [] })

-- a cut: no answer came back, or the answer 9
abbrev pub IsCut : Seen → Type 0
IsCut o = (o ≡ lost) ⊎ (o ≡ refused 9)

-- every request but format
abbrev pub OnTable : Request → Type 0
OnTable format = ⊥
OnTable (put b c) = Unit {0}
OnTable (delete b) = Unit {0}
OnTable (read b) = Unit {0}
OnTable (read_or b f) = Unit {0}
OnTable recover = Unit {0}

-- put, delete and read want a recovery first
abbrev pub WantsRecovery : Request → Type 0
WantsRecovery format = ⊥
WantsRecovery (put b c) = Unit {0}
WantsRecovery (delete b) = Unit {0}
WantsRecovery (read b) = Unit {0}
WantsRecovery (read_or b f) = Unit {0}
WantsRecovery recover = ⊥

-- the table that a promise speaks of
abbrev pub Holds : Promise → Table → Type 0
Holds (settled u) t = u ≡ t
Holds (interrupted u) t = u ≡ t
Holds unknown t = ⊥

-- what may happen: the board, the chip's word on wear, a request and what it showed; the promise before and after
pub data Moves (C : Board) (worn : Bool) (r : Request) (o : Seen) : Promise → Promise → Type 0 where
  -- it answers as the plain table
  answers : {t : Table} → OnTable r → o ≡ answered (plain C worn t r) → Moves C worn r o (settled t) (settled (next C worn t r))
  -- after a cut too, if the cut left nothing to recover, or this is the recovery that finishes
  answers_again : {t : Table} → OnTable r → malformed r ≡ 0 → o ≡ answered (plain C worn t r) → Moves C worn r o (interrupted t) (settled (next C worn t r))
  -- else it asks for a recovery, and nothing changes
  asks_recovery : {t : Table} → WantsRecovery r → malformed r ≡ 0 → o ≡ refused 5 → Moves C worn r o (interrupted t) (interrupted t)
  refuses_malformed : {t : Table} (n : ℕ) → malformed r ≡ suc n → o ≡ refused (suc n) → Moves C worn r o (interrupted t) (interrupted t)
  -- a cut: the request is not begun, or wholly done
  not_begun : {x : Promise} (t : Table) → Holds x t → OnTable r → IsCut o → Moves C worn r o x (interrupted t)
  wholly_done : {x : Promise} (t : Table) → Holds x t → OnTable r → IsCut o → Moves C worn r o x (interrupted (next C worn t r))
  -- a finished format starts anew; a cut one promises nothing, and until one is finished nothing is promised
  formats : {x : Promise} → r ≡ format → o ≡ refused 0 → Moves C worn r o x (settled [])
  format_cut : {x : Promise} → r ≡ format → IsCut o → Moves C worn r o x unknown
  no_promise : OnTable r → Moves C worn r o unknown unknown

-- a history of the machine
abbrev pub PlainRuns : Board → Promise → List Event → Promise → Type 0
PlainRuns C x [] y = y ≡ x
PlainRuns C x (e ∷ es) y = (z : Promise) × Moves C e.worn e.request e.seen x z × PlainRuns C z es y

-- events without a format
abbrev pub NoFormat : List Event → Type 0
NoFormat [] = Unit {0}
NoFormat (e ∷ es) = OnTable e.request × NoFormat es
