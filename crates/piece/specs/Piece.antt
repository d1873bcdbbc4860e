-- A level's piece of checksum text, as document 01 has it under "Checksum text", and what its sum is. Assumes nothing: these are definitions.
use Rattle.std.specs.Prelude.{ℕ, ◌+◌, ◌*◌, ◌≡◌, List, ◌∷◌, ◌++◌, length}
use Rattle.std.specs.Int.Bits.{bit_xor}
use Rattle.text.specs.Text.{colon}
use Rattle.decimal.specs.Decimal.{Number, text, stripped}
use Rattle.decimal.specs.Tail.{remaining}
use Rattle.decimal.specs.declared.Tail.{Tail}
use Rattle.crc32_spec.specs.Crc.{bits, run}
use Rattle.piece.specs.declared.Piece.{Piece}

-- K: price then size, each with the point removed, then leading zeros.
unfoldable pub k_piece : Number → Number → List ℕ
k_piece price size = stripped price ++ stripped size

-- M: `price:size` as sent, with the colon that joins it to what stands before it.
unfoldable pub m_piece : Number → Number → List ℕ
m_piece price size = colon ∷ (text price ++ (colon ∷ text size))

-- The sum of a text from 0, and its length.
pub record SumsTo (text : List ℕ) (p : Piece) : Type 0 where
  pub sum : p.sum ≡ run 0 text
  pub long : p.length ≡ length text

-- A piece with a text in front of it, and with one byte.
pub record Fed (t : Tail) (p r : Piece) : Type 0 where
  pub sum : r.sum ≡ bit_xor (bits (8 * p.length) (run 0 (remaining t))) p.sum
  pub long : r.length ≡ p.length + length (remaining t)

pub record Fronted (b : ℕ) (p r : Piece) : Type 0 where
  pub sum : r.sum ≡ bit_xor (bits (8 * (p.length + 1)) b) p.sum
  pub long : r.length ≡ p.length + 1
