-- What a table of the code holds: rows of sixteen entries, an entry two states in one number.
-- Assumes nothing.
use Rattle.std.specs.Prelude.{ℕ, ◌+◌, ◌*◌, ◌/◌, ◌%◌, ◌^◌}
use Rattle.std.specs.Int.Bits.{bit_xor}
use Rattle.crc32_spec.specs.Crc.{bits}

-- two states in one number
abbrev pub pair : ℕ → ℕ → ℕ
pair upper lower = bit_xor (upper * 2 ^ 32) lower

-- four bits moved by k bytes from the highest byte of a state: from the byte's upper half, and from its lower
abbrev pub entry : ℕ → ℕ → ℕ
entry k four = pair (bits (8 * k) (four * 2 ^ 28)) (bits (8 * k) (four * 2 ^ 24))

-- a key's lower half are the four bits, and its upper half counts the rows from the table's first
abbrev pub entry_at : ℕ → ℕ → ℕ
entry_at first key = entry (first + key / 16) (key % 16)
