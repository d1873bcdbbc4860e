-- A side of the book, as document 01 has it under "Applying a message" and "The plain book": what stands at each price, entry by entry,
-- then ranked. Lists alone: no array, no search and no place of the code. Assumes nothing: these are definitions.
use Rattle.std.specs.Prelude.{ℕ, Bool, false, ◌||◌, not, cond, List, [], ◌∷◌, ltb, eqb}
use Rattle.decimal.specs.Decimal.{Number, value}
use Rattle.edit.specs.Edit.{Edit, sets, removes}
use Rattle.edit.specs.declared.Side.{Side}
use Rattle.edit.specs.declared.Side.TheVariants.{Bids, Asks}

-- Which of two prices, by value, stands nearer the top (01: "Bids stand high to low, asks low to high").
abbrev pub nearer : Side → ℕ → ℕ → Bool
nearer Bids x y = ltb y x
nearer Asks x y = ltb x y

-- ---- a price named twice (01's refusal 9), by value

unfoldable pub names : ℕ → List Number → Bool
names v [] = false
names v (p ∷ ps) = eqb v (value p) || names v ps

unfoldable pub names_twice : List Number → Bool
names_twice [] = false
names_twice (p ∷ ps) = names (value p) ps || names_twice ps

-- ---- a side: levels of any kind A that have a price

module _ {A : Type 0} (price_of : A → Number) where
  abbrev pub value_at : A → ℕ
  value_at x = value (price_of x)

  -- Does a level stand at this price?
  unfoldable pub standing : ℕ → List A → Bool
  standing v [] = false
  standing v (x ∷ s) = eqb (value_at x) v || standing v s

  -- The levels that are not at this price.
  unfoldable pub without : ℕ → List A → List A
  without v [] = []
  without v (x ∷ s) = cond (eqb (value_at x) v) (without v s) (x ∷ without v s)

  -- An entry on a side in any order. Removing an absent price does nothing.
  unfoldable pub apply : Edit A → List A → List A
  apply (sets x) s = x ∷ without (value_at x) s
  apply (removes p) s = without (value p) s

  -- Entries in their written order.
  unfoldable pub apply_all : List (Edit A) → List A → List A
  apply_all [] s = s
  apply_all (e ∷ es) s = apply_all es (apply e s)

  -- A level put at its place in the order, and a side put in order.
  unfoldable pub place : Side → A → List A → List A
  place side x [] = x ∷ []
  place side x (y ∷ s) = cond (nearer side (value_at y) (value_at x)) (y ∷ place side x s) (x ∷ y ∷ s)

  unfoldable pub ranked : Side → List A → List A
  ranked side [] = []
  ranked side (x ∷ s) = place side x (ranked side s)

  -- Bids and asks, best first, cross where both have levels and the best bid is not below the best ask.
  unfoldable pub crosses : List A → List A → Bool
  crosses [] asks = false
  crosses (bid ∷ bids) [] = false
  crosses (bid ∷ bids) (ask ∷ asks) = not (ltb (value_at bid) (value_at ask))
