-- Bytes as one number, the first the lowest. Assumes nothing: these are definitions.
use Rattle.std.specs.Prelude.{ℕ, ◌+◌, ◌*◌, List, [], ◌∷◌, take, drop}

unfoldable pub word : List ℕ → ℕ
word [] = 0
word (b ∷ bs) = word bs * 256 + b

-- The eight bytes from a position on.
unfoldable pub word_at : List ℕ → ℕ → ℕ
word_at s i = word (take 8 (drop i s))
