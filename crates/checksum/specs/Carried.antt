-- A level that carries the sum and the length of its own piece of checksum text. Assumes nothing: these are definitions.
use Rattle.std.specs.Prelude.{ℕ, ◌*◌, ◌≡◌, List, [], ◌∷◌, length}
use Rattle.std.specs.Int.Bits.{bit_xor}
use Rattle.decimal.specs.Decimal.{Number}
use Rattle.crc32_spec.specs.Crc.{bits, run}
use Rattle.settings.specs.declared.SumText.{SumText}
use Rattle.settings.specs.declared.SumText.TheVariants.{Stripped, Interleaved}
use Rattle.level.specs.Words.{level_made, level_price, level_size, level_sum, level_length}
use Rattle.level.specs.declared.Level.{Level}
use Rattle.piece.specs.Piece.{k_piece, m_piece}

-- A level's piece, of the text that a checksum is made of.
abbrev pub piece_of : SumText → Number → Number → List ℕ
piece_of Stripped = k_piece
piece_of Interleaved = m_piece

-- The level of a price and a size, with the sum and the length of its piece.
unfoldable pub level_for : SumText → Number → Number → Level
level_for text price size = level_made price size (run 0 (piece_of text price size)) (length (piece_of text price size))

-- What holds of such a level.
pub record Carries (piece : Number → Number → List ℕ) (level : Level) : Type 0 where
  pub sum : level_sum level ≡ run 0 (piece (level_price level) (level_size level))
  pub long : level_length level ≡ length (piece (level_price level) (level_size level))

-- The state after the pieces of levels, from their sums and lengths.
unfoldable pub summed : ℕ → List Level → ℕ
summed state [] = state
summed state (level ∷ levels) = summed (bit_xor (bits (8 * level_length level) state) (level_sum level)) levels
