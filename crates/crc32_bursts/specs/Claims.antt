-- What the CRC-32 catches, as statements; `proofs/Claims` proves each under its own name. Assumes nothing: these are definitions.
use Rattle.std.specs.Prelude.{ℕ, ◌+◌, ◌/◌, ◌^◌, ◌≤◌, ◌<◌, ◌≡◌, ◌≢◌, List, ◌∷◌, ◌++◌, length, get_or}
use Rattle.crc32_spec.specs.Crc.{polynomial, crc}
use Rattle.crc32_spec.specs.Text.{Bytes}

-- Two texts of one length that have the same byte at each place but the n from i on, which are i, i + 1, .., i + n - 1. Past its end a text has 0.
pub record SameOutside (i n : ℕ) (a b : List ℕ) : Type 0 where
  pub lengths : length a ≡ length b
  pub before : (j : ℕ) → j < i → get_or a j 0 ≡ get_or b j 0
  pub after : (j : ℕ) → i + n ≤ j → get_or a j 0 ≡ get_or b j 0

-- Two texts that differ, and only within some n consecutive places, never have one checksum.
abbrev pub Caught : ℕ → Type 0
Caught n = (a b : List ℕ) (i : ℕ) → Bytes a → Bytes b → SameOutside i n a b → a ≢ b → crc a ≢ crc b

-- ---- the claim: within four places, wherever they are and however long the texts

abbrev pub BurstsCaught : Type 0
BurstsCaught = Caught 4

-- Four is the most: `specs/Examples` has two texts that differ within five places and have one checksum.
abbrev pub FiveMissed : Type 0
FiveMissed = Caught 5 → ⊥

-- ---- what follows of a text with something before and something after the place of the change

-- One byte changed.
abbrev pub ChangedCaught : Type 0
ChangedCaught = (before after : List ℕ) (x y : ℕ) → Bytes before → Bytes after → x < 256 → y < 256 → x ≢ y
    → crc (before ++ (x ∷ after)) ≢ crc (before ++ (y ∷ after))

-- Two neighbouring bytes exchanged.
abbrev pub ExchangedCaught : Type 0
ExchangedCaught = (before after : List ℕ) (x y : ℕ) → Bytes before → Bytes after → x < 256 → y < 256 → x ≢ y
    → crc (before ++ (x ∷ y ∷ after)) ≢ crc (before ++ (y ∷ x ∷ after))

-- Up to four neighbouring bytes replaced by any others, as many.
abbrev pub ReplacedCaught : Type 0
ReplacedCaught = (before after v w : List ℕ) → Bytes before → Bytes after → Bytes v → Bytes w → length v ≡ length w → length v ≤ 4 → v ≢ w
    → crc (before ++ (v ++ after)) ≢ crc (before ++ (w ++ after))

-- ---- what is used of the polynomial, beside that it is below 2 ^ 32: it has its last term, the 1, which is the highest bit

abbrev pub LastTerm : Type 0
LastTerm = polynomial / 2 ^ 31 ≡ 1
