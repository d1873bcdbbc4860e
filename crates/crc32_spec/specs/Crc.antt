-- The CRC-32 of IEEE 802.3, bit by bit, lowest bit first. A state is a number below 2 ^ 32, a text a list of bytes.
-- Assumes nothing.
use Rattle.std.specs.Prelude.{List, [], ◌∷◌, ℕ, zero, suc, ◌*◌, ◌/◌, ◌%◌}
use Rattle.std.specs.Int.Bits.{bit_xor}

-- the polynomial without its highest term, the coefficient of x ^ 31 in the lowest bit: 0xEDB88320
abbrev pub polynomial : ℕ
polynomial = 3988292384

-- a state moved by one bit: halved, and where the bit that falls out is set, the polynomial added (modulo 2, by xor)
unfoldable pub bit : ℕ → ℕ
bit s = bit_xor (s / 2) (s % 2 * polynomial)

-- a state moved by n bits
unfoldable pub bits : ℕ → ℕ → ℕ
bits zero s = s
bits (suc n) s = bits n (bit s)

-- the state after one more byte: the byte is added to the lowest bits, and the sum moved by eight
unfoldable pub step : ℕ → ℕ → ℕ
step s b = bits 8 (bit_xor s b)

-- the state after a text
unfoldable pub run : ℕ → List ℕ → ℕ
run s [] = s
run s (b ∷ bs) = run (step s b) bs

-- the state before the first byte, all bits set
abbrev pub start : ℕ
start = 4294967295

-- the checksum is the last state with every bit inverted
abbrev pub finish : ℕ → ℕ
finish s = bit_xor s 4294967295

unfoldable pub crc : List ℕ → ℕ
crc bs = finish (run start bs)
