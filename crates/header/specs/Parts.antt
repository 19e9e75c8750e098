-- What the contracts of this crate say beside the definitions of the model.
use Rattle.std.specs.Prelude.{ℕ, Bool, cond, ◌++◌, take, drop}
use Rattle.model.specs.Chip.{Page, erased}
use Rattle.model.specs.Header.{value, version1, new_version, header_page}

unfoldable pub header_total : Page → ℕ
header_total h = value (take 4 (drop 17 h))

-- the 17 bytes that both versions have, among erased ones
unfoldable pub header_fields : ℕ → ℕ → Bool → ℕ → ℕ → ℕ → Page
header_fields N B former st n old = take 17 (header_page N B (cond former version1 (new_version 0)) st n old) ++ erased 239
