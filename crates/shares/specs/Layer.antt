-- Request #110: what comes back from put, delete and read by tenant. It goes by the plain table that the image holds, the list of shares, and the store's answer.
use Rattle.std.specs.Prelude.{ℕ, Bool, true, cond, ◌||◌, ◌&&◌, not, List, [], ◌∷◌, ◌++◌, length, drop, ltb, leb, eqb}
use Rattle.model.specs.declared.Answer.{Answer}
use Rattle.model.specs.Chip.{Image, right_size, run}
use Rattle.model.specs.Slot.{number_ok}
use Rattle.model.specs.State.{holds}
use Rattle.model.specs.Table.{Table, lookup, contents_found, live_between, table_of}
use Rattle.model.specs.Answers.{code_of, Request, put, delete, read, Refusal, ◌when◌, first_of, Work, work_of}
use Rattle.text.specs.Buffer.{Print}
use Rattle.shares.specs.Shares.{Share, shares_of, shares_ok, share_of, owns}

-- what a tenant asks for: a read with the length of the buffer that it lends for the contents
pub data Asked : Type 0 where
  puts : ℕ → List ℕ → Asked
  deletes : ℕ → Asked
  reads : ℕ → ℕ → Asked

unfoldable pub block_asked : Asked → ℕ
block_asked (puts b c) = b
block_asked (deletes b) = b
block_asked (reads b size) = b

-- the store's request
unfoldable pub store_request : Asked → Request
store_request (puts b c) = put b c
store_request (deletes b) = delete b
store_request (reads b size) = read b

-- ---- the answer, in the order 1, 13, 2, 12, 3, 4, 5, 11, 6, 7, 8, 14

-- what binds every request, of tenant a for block b
unfoldable pub bounds : ℕ → ℕ → List ℕ → Image → ℕ → ℕ → List Refusal
bounds N B ns s a b =
    (1 when not (right_size N B s))
    ∷ (13 when not (shares_ok N B ns))
    ∷ (2 when not (number_ok b))
    ∷ (12 when not (owns (shares_of ns) a b))
    ∷ []

-- a store's answer to a put that comes before 7
unfoldable pub before_full : ℕ → Bool
before_full k = eqb k 3 || (eqb k 4 || (eqb k 5 || eqb k 11))

-- at least so many blocks of the range are live
unfoldable pub quota_used : Share → Table → Bool
quota_used x t = leb x.quota (live_between x.first x.last t)

-- "Full (7) answers a put of a block not live exactly when this tenant's own quota is used; all else is as the store answers": k is its answer.
-- A buffer shorter than the contents is 14
unfoldable pub rows : Share → Table → ℕ → Asked → List Refusal
rows x t k (puts b c) = (k when before_full k) ∷ (7 when not (holds b t) && quota_used x t) ∷ (k when true) ∷ []
rows x t k (deletes b) = (k when true) ∷ []
rows x t k (reads b size) = (k when not (eqb k 0)) ∷ (14 when ltb size (length (contents_found (lookup b t)))) ∷ []

unfoldable pub share_code : ℕ → ℕ → List ℕ → Image → ℕ → Asked → ℕ
share_code N B ns s a r =
    first_of (bounds N B ns s a (block_asked r) ++ rows (share_of (shares_of ns) a) (table_of N B s) (work_of N B s (store_request r)).code r)

-- ---- what it does: the store's steps, all of them, or none

unfoldable pub share_work : ℕ → ℕ → List ℕ → Image → ℕ → Asked → Work
share_work N B ns s a r = let code = share_code N B ns s a r in record { code = code; steps = cond (eqb code 0) (work_of N B s (store_request r)).steps [] }

-- the contents that a read asks for
unfoldable pub contents_asked : Table → Asked → List ℕ
contents_asked t (puts b c) = []
contents_asked t (deletes b) = []
contents_asked t (reads b size) = contents_found (lookup b t)

-- what comes back: the answer and the contents given, none if refused; and the image afterwards. No count of steps and no place
pub record Shared : Type 0 where
  pub code : ℕ
  pub given : List ℕ
  pub image : Image

unfoldable pub share_outcome : ℕ → ℕ → List ℕ → Image → ℕ → Asked → Shared
share_outcome N B ns s a r = let w = share_work N B ns s a r in
    record { code = w.code; given = cond (eqb w.code 0) (contents_asked (table_of N B s) r) []; image = run B w.steps s }

-- what the code's answer to a put or delete says, with the image that it left
unfoldable pub wrote : Answer → Image → Shared
wrote a s = record { code = code_of a; given = []; image = s }

-- what a read says, with the buffer that it left: the contents at its front, the rest untouched
unfoldable pub gave_in : Shared → List ℕ → Print
gave_in o lent = record { code = o.code; length = length o.given; buffer = o.given ++ drop (length o.given) lent }
