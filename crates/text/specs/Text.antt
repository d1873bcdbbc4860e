-- A text is the list of its bytes. Assumes nothing: these are definitions.
use Rattle.std.specs.Prelude.{ℕ, Bool, ◌&&◌, List, [], ◌∷◌, ◌++◌, leb, get_or}
use Prim.Native.Char.{code}
use Prim.Native.String.{String}
use Prim.Native.String as String·

-- The byte at a position, and 0 past the end.
unfoldable pub byte_at : List ℕ → ℕ → ℕ
byte_at s i = get_or s i 0

-- The digits 0 to 9 are the bytes 48 to 57.
unfoldable pub is_digit : ℕ → Bool
is_digit c = leb 48 c && leb c 57

abbrev pub colon : ℕ
colon = 58

-- The bytes of a text that is written out in a definition.
abbrev pub ascii : String → List ℕ
ascii String·.[] = []
ascii (String·.◌∷◌ c s) = code c ∷ ascii s

-- Texts one behind the other.
unfoldable pub joined : List (List ℕ) → List ℕ
joined [] = []
joined (t ∷ ts) = t ++ joined ts
