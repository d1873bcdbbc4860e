-- What is made of a list, item by item. Assumes nothing: these are definitions.
use Rattle.std.specs.Prelude.{ℕ, List, [], ◌∷◌}
use Rattle.json_values.specs.Json.{Items, items, no_items}

unfoldable pub fold_from : {S A : Type 0} → (S → A → S) → S → List A → S
fold_from f st [] = st
fold_from f st (a ∷ l) = fold_from f (f st a) l

-- The same of the items of an array or an object, which ends at e; `close` makes the answer, and `bad` is the answer where it is not JSON.
unfoldable pub folded_in : {S A R : Type 0} → (S → A → S) → (ℕ → S → R) → R → S → Items A → R
folded_in f close bad st (items l e) = close e (fold_from f st l)
folded_in f close bad st no_items = bad
