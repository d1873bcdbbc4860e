-- Which of some names a string means. Assumes nothing: these are definitions.
use Rattle.std.specs.Prelude.{ℕ, suc, Bool, true, ◌&&◌, not, cond, List, [], ◌∷◌}
use Rattle.json_values.specs.Json.{Span}
use Rattle.json_values.specs.Names.{means, same}

-- The number of the first name that it means, if the first of the list has the number k; 0 where it means none of them.
abbrev pub which : List ℕ → Span → ℕ → List (List ℕ) → ℕ
which s a k [] = 0
which s a k (n ∷ ns) = cond (means s a n) k (which s a (suc k) ns)

-- ---- tests that are computed of names that are written out

abbrev pub is_new : List ℕ → List (List ℕ) → Bool
is_new n [] = true
is_new n (m ∷ ns) = not (same n m) && is_new n ns

abbrev pub all_differ : List (List ℕ) → Bool
all_differ [] = true
all_differ (n ∷ ns) = is_new n ns && all_differ ns
