-- Worked examples of lines. Assumes nothing.
use Rattle.std.specs.Prelude.{ℕ, ◌≡◌, refl, List, [], ◌∷◌}
use Rattle.lines.specs.Lines.{bytes_before, in_front, complete, unfinished, last_line, lines_of}

-- a text and its lines
pub data Case : Type 0 where
  lines : List ℕ → List (List ℕ) → Case

Each : List Case → Type 0
Each [] = Unit
Each ((lines s ls) ∷ cases) = (lines_of s ≡ ls) × Each cases

-- with `a`, 97, and `b`, 98, for other bytes
table : List Case
table =
    lines [] [] ∷
    lines (10 ∷ []) ([] ∷ []) ∷
    lines (97 ∷ 98 ∷ 10 ∷ []) ((97 ∷ 98 ∷ []) ∷ []) ∷
    lines (97 ∷ 98 ∷ []) ((97 ∷ 98 ∷ []) ∷ []) ∷
    lines (97 ∷ 10 ∷ 10 ∷ 98 ∷ 10 ∷ 98 ∷ []) ((97 ∷ []) ∷ [] ∷ (98 ∷ []) ∷ (98 ∷ []) ∷ []) ∷
    []

examples : Each table
unfolding table Each lines_of complete in_front unfinished last_line bytes_before
examples = (refl, (refl, (refl, (refl, (refl, tt)))))
