-- Where a bad text lies, as words. Assumes nothing: these are definitions.
use Rattle.std.specs.Prelude.{ℕ, ◌≡◌, cond, List, [], ◌∷◌, ltb, length}
use Rattle.json_values.specs.Json.{Span}

-- The first position and the position past it, as the first two words of a list that has so many.
unfoldable pub placed : Span → List ℕ → List ℕ
placed a [] = []
placed a (n ∷ []) = n ∷ []
placed a (m ∷ (n ∷ ns)) = a.from ∷ (a.to ∷ ns)

pub record Placed (a : Span) (before after : List ℕ) (words : ℕ) : Type 0 where
  pub out : after ≡ placed a before
  pub count : words ≡ cond (ltb (length before) 2) 0 2
