-- What a tenant's request comes to once its share is known: nothing that binds every request refuses it.
use Rattle.std.specs.Prelude.{ℕ, cond, [], eqb}
use Rattle.model.specs.Chip.{Image, run}
use Rattle.model.specs.Table.{table_of}
use Rattle.model.specs.Answers.{first_of, work_of}
use Rattle.shares.specs.Shares.{Share}
use Rattle.shares.specs.Layer.{Asked, store_request, rows, contents_asked, Shared}

unfoldable pub code_within : ℕ → ℕ → Share → Image → Asked → ℕ
code_within N B x s r = first_of (rows x (table_of N B s) (work_of N B s (store_request r)).code r)

unfoldable pub outcome_within : ℕ → ℕ → Share → Image → Asked → Shared
outcome_within N B x s r = let code = code_within N B x s r in
    record { code = code; given = cond (eqb code 0) (contents_asked (table_of N B s) r) []; image = run B (cond (eqb code 0) (work_of N B s (store_request r)).steps []) s }
