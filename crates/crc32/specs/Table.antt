-- The shift table, which a caller may lend so that a state is moved by four look-ups.
-- Assumes nothing: these are definitions.
use Rattle.std.specs.Prelude.{ℕ, ◌+◌, ◌*◌, ◌/◌, ◌%◌, ◌<◌, ◌≡◌, List, length, get_or}
use Rattle.crc32_spec.specs.Crc.{bits}

-- entry k: rows of 256, one for each byte; in the first row the byte is moved by one byte, in each other by one more
unfoldable pub moved_byte : ℕ → ℕ
moved_byte k = bits (8 * (k / 256 + 1)) (k % 256)

-- a table of any length, whose entries are right; a table of none is one
pub record ShiftTable (table : List ℕ) : Type 0 where
  pub holds : (k : ℕ) → k < length table → get_or table k 0 ≡ moved_byte k

-- a table that was filled: as long as it was, and every entry right
pub record FilledTable (before after : List ℕ) : Type 0 where
  pub long : length after ≡ length before
  pub right : ShiftTable after
