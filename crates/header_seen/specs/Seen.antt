-- What a header page shows: what follows its fields, and the whole.
use Rattle.std.specs.Prelude.{ℕ, Option, Some, None, Bool, cond, ◌&&◌, take, drop, ltb}
use Rattle.model.specs.Chip.{Page, erase_limit}
use Rattle.model.specs.Header.{is_former, header_status, header_number, header_version, header_in_use, is_blank}
use Rattle.header.specs.Parts.{header_total}
use Rattle.header_seen.specs.declared.HeaderInUse.{HeaderInUse}

-- the version, the status and the number of a segment in use
unfoldable pub header_seen : ℕ → ℕ → ℕ → Page → Option HeaderInUse
header_seen N B i h = cond (header_in_use N B i h) (Some (record { former = is_former (header_version h); status = header_status h; number = record { 0 = header_number h } })) None

-- what a header in use has behind the bytes that both versions have: in version 1 erased bytes, in version 2 a total below the limit, erased bytes, and any bits
unfoldable pub tally_fits : Page → Bool
tally_fits h = cond (is_former (header_version h)) (is_blank (drop 17 h)) (ltb (header_total h) erase_limit && is_blank (take 11 (drop 21 h)))
