-- The lines of a text: each ends at byte 10; an unfinished last line counts if it isn't empty. Assumes nothing: these are definitions.
use Rattle.std.specs.Prelude.{ℕ, suc, Bool, cond, List, [], ◌∷◌, ◌++◌, eqb, ltb, length}

-- How many bytes a text has before a byte.
unfoldable pub bytes_before : ℕ → List ℕ → ℕ
bytes_before b [] = 0
bytes_before b (c ∷ s) = cond (eqb c b) 0 (suc (bytes_before b s))

abbrev pub line_end : ℕ
line_end = 10

abbrev pub has_end : List ℕ → Bool
has_end s = ltb (bytes_before line_end s) (length s)

-- A byte in front of the first line.
unfoldable pub in_front : ℕ → List (List ℕ) → List (List ℕ)
in_front c [] = []
in_front c (line ∷ ls) = (c ∷ line) ∷ ls

-- The lines that end.
unfoldable pub complete : List ℕ → List (List ℕ)
complete [] = []
complete (c ∷ s) = cond (eqb c line_end) ([] ∷ complete s) (in_front c (complete s))

-- What stands past the last line end.
unfoldable pub unfinished : List ℕ → List ℕ
unfinished [] = []
unfinished (c ∷ s) = cond (has_end (c ∷ s)) (unfinished s) (c ∷ s)

unfoldable pub last_line : List ℕ → List (List ℕ)
last_line [] = []
last_line (c ∷ s) = (c ∷ s) ∷ []

unfoldable pub lines_of : List ℕ → List (List ℕ)
lines_of s = complete s ++ last_line (unfinished s)
