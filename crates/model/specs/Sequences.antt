-- Document 01, "The sequences of demand 3": what is counted, by the answers and the step lists.
use Rattle.std.specs.Prelude.{ℕ, ◌+◌, max, ◌≢◌, Bool, false, cond, ◌||◌, List, [], ◌∷◌, ◌++◌, length, eqb}
use Rattle.model.specs.Lists.{count}
use Rattle.model.specs.Chip.{Image, Step, program, erase, Bytes}
use Rattle.model.specs.Answers.{Request, format, put, delete, read, read_or, recover, work_of, outcome_of}

-- a request with its allowance of steps
pub record Call : Type 0 where
  pub request : Request
  pub allowance : ℕ

-- the image as the calls leave it, each working on what the one before left
unfoldable pub play : ℕ → ℕ → Image → List Call → Image
play N B s [] = s
play N B s (x ∷ xs) = play N B (outcome_of N B s x.allowance x.request).image xs

-- ---- what is observed of a call: its answer and its erases

-- the erase steps of a list, each with the index of its segment
unfoldable pub erases_in : List Step → List ℕ
erases_in [] = []
erases_in (program at v ∷ xs) = erases_in xs
erases_in (erase i ∷ xs) = i ∷ erases_in xs

pub record Observed : Type 0 where
  pub request : Request
  pub code : ℕ
  pub erases : List ℕ

unfoldable pub observe : ℕ → ℕ → Image → Call → Observed
observe N B s x = record {
  request = x.request;
  code = (outcome_of N B s x.allowance x.request).code;
  erases = erases_in (work_of N B s x.request).steps;
}

unfoldable pub observed : ℕ → ℕ → Image → List Call → List Observed
observed N B s [] = []
observed N B s (x ∷ xs) = observe N B s x ∷ observed N B (outcome_of N B s x.allowance x.request).image xs

-- put, delete, read of either form or recover, with any arguments; contents are bytes
abbrev pub InSequence : Request → Type 0
InSequence format = ⊥
InSequence (put b c) = Bytes c
InSequence (delete b) = Unit {0}
InSequence (read b) = Unit {0}
InSequence (read_or b f) = Unit {0}
InSequence recover = Unit {0}

-- a sequence: no format, and no cut, that is, none answers 9
abbrev pub Uncut : List Observed → Type 0
Uncut [] = Unit {0}
Uncut (o ∷ os) = InSequence o.request × (o.code ≢ 9) × Uncut os

-- ---- L, E and R

-- the block numbers stored: from a put that answers 0 until a delete that answers 0
unfoldable pub among : ℕ → List ℕ → Bool
among b [] = false
among b (x ∷ xs) = eqb b x || among b xs

unfoldable pub removed : ℕ → List ℕ → List ℕ
removed b [] = []
removed b (x ∷ xs) = cond (eqb b x) (removed b xs) (x ∷ removed b xs)

unfoldable pub inserted : ℕ → List ℕ → List ℕ
inserted b xs = b ∷ removed b xs

-- after a request that answered 0
unfoldable pub stored_after : Request → List ℕ → List ℕ
stored_after format xs = []
stored_after (put b c) xs = inserted b xs
stored_after (delete b) xs = removed b xs
stored_after (read b) xs = xs
stored_after (read_or b f) xs = xs
stored_after recover xs = xs

-- 1 for a rewrite, which is a put of a block stored just before, or a delete, if it answered 0
unfoldable pub replaces : Request → List ℕ → ℕ
replaces format xs = 0
replaces (put b c) xs = cond (among b xs) 1 0
replaces (delete b) xs = 1
replaces (read b) xs = 0
replaces (read_or b f) xs = 0
replaces recover xs = 0

pub record Ledger : Type 0 where
  -- the blocks stored now
  pub stored : List ℕ
  -- L, the largest count of stored blocks so far
  pub largest : ℕ
  -- R, the rewrites and deletes that answered 0
  pub replaced : ℕ
  -- every erase so far, by index; E is their number
  pub erased : List ℕ

unfoldable pub start : Ledger
start = record { stored = []; largest = 0; replaced = 0; erased = [] }

unfoldable pub noted : Observed → Ledger → Ledger
noted o t =
    let stored = cond (eqb o.code 0) (stored_after o.request t.stored) t.stored in record {
      stored = stored;
      largest = max t.largest (length stored);
      replaced = t.replaced + cond (eqb o.code 0) (replaces o.request t.stored) 0;
      erased = t.erased ++ o.erases;
    }

unfoldable pub ledger : List Observed → Ledger → Ledger
ledger [] t = t
ledger (o ∷ os) t = ledger os (noted o t)

-- E
unfoldable pub erase_count : Ledger → ℕ
erase_count t = length t.erased

-- the erases of the segment at an index
unfoldable pub erases_of : ℕ → Ledger → ℕ
erases_of i t = count (λ x. eqb i x) t.erased
