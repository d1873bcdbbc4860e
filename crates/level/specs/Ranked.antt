-- What contracts and laws say of sides and of entries. Assumes nothing: these are definitions.
use Rattle.std.specs.Prelude.{ℕ, ◌≡◌, Bool, true, false, ◌||◌, List, [], ◌∷◌, take}
use Rattle.decimal.specs.Decimal.{Number}
use Rattle.edit.specs.Edit.{Edit, sets, removes}
use Rattle.level.specs.Side.{nearer, value_at, standing, apply, apply_all, ranked}
use Rattle.edit.specs.declared.Side.{Side}

-- What holds of each element of a list.
unfoldable pub All : {A : Type 0} → (A → Type 0) → List A → Type 0
All P [] = Unit
All P (x ∷ s) = P x × All P s

-- ---- sides: levels of any kind A that have a price

module _ {A : Type 0} (price_of : A → Number) where
  -- A side after a whole message: its entries applied, then the side ranked, then cut to the best `depth` levels.
  unfoldable pub after_message : Side → ℕ → List (Edit A) → List A → List A
  after_message side depth es s = take depth (ranked price_of side (apply_all price_of es s))

  -- The same with the side ranked after each entry too.
  unfoldable pub ranked_each : Side → List (Edit A) → List A → List A
  ranked_each side [] s = ranked price_of side s
  ranked_each side (e ∷ es) s = ranked_each side es (ranked price_of side (apply price_of e s))

  -- Does some entry set a level at a price where one stands by then?
  unfoldable pub replaces : Edit A → List A → Bool
  replaces (sets x) s = standing price_of (value_at price_of x) s
  replaces (removes p) s = false

  unfoldable pub replaced : List (Edit A) → List A → Bool
  replaced [] s = false
  replaced (e ∷ es) s = replaces e s || replaced es (apply price_of e s)

  -- At most one level a price.
  unfoldable pub Distinct : List A → Type 0
  Distinct [] = Unit
  Distinct (x ∷ s) = All (λ y. value_at price_of y ≡ value_at price_of x → ⊥) s × Distinct s

  -- In order, best first, and at most one level a price.
  unfoldable pub Sorted : Side → List A → Type 0
  Sorted side [] = Unit
  Sorted side (x ∷ s) = All (λ y. nearer side (value_at price_of x) (value_at price_of y) ≡ true) s × Sorted side s

-- ---- entries whose levels are seen in another way

unfoldable pub map_edit : {A B : Type 0} → (A → B) → Edit A → Edit B
map_edit f (sets x) = sets (f x)
map_edit f (removes p) = removes p

-- What holds of each level that entries set, and that each entry sets one.
unfoldable pub IfSet : {A : Type 0} → (A → Type 0) → Edit A → Type 0
IfSet P (sets x) = P x
IfSet P (removes p) = Unit

unfoldable pub IsSet : {A : Type 0} → Edit A → Type 0
IsSet (sets x) = Unit
IsSet (removes p) = ⊥
