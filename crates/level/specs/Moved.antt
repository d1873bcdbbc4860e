-- How many levels the entries of a message move (document 02, request i). Assumes nothing: these are definitions.
use Rattle.std.specs.Prelude.{ℕ, suc, ◌+◌, ◌-◌, ◌*◌, ◌≤◌, cond, List, [], ◌∷◌, length}
use Rattle.decimal.specs.Decimal.{Number, value}
use Rattle.edit.specs.Edit.{Edit, sets, removes}
use Rattle.edit.specs.declared.Side.{Side}
use Rattle.level.specs.Side.{nearer, value_at, standing, apply}

module _ {A : Type 0} (price_of : A → Number) (side : Side) where
  -- The place of a price on a side: how many levels stand nearer the top.
  unfoldable pub place_of : ℕ → List A → ℕ
  place_of v [] = 0
  place_of v (x ∷ s) = cond (nearer side (value_at price_of x) v) (suc (place_of v s)) (place_of v s)

  -- In a side of n levels, inserting at place i moves n - i, removing at place i moves n - 1 - i; replacing, and removing an absent price, move none.
  unfoldable pub moves : Edit A → List A → ℕ
  moves (sets x) s = cond (standing price_of (value_at price_of x) s) 0 (length s - place_of (value_at price_of x) s)
  moves (removes p) s = cond (standing price_of (value p) s) (length s - 1 - place_of (value p) s) 0

  -- Entries in their written order.
  unfoldable pub moved : List (Edit A) → List A → ℕ
  moved [] s = 0
  moved (e ∷ es) s = moves e s + moved es (apply price_of e s)

-- k entries on a side that had n levels move at most k·n + k(k - 1)/2.
abbrev pub MovedBound : Type 1
MovedBound = (A : Type 0) (price_of : A → Number) (side : Side) (es : List (Edit A)) (s : List A) →
    2 * moved price_of side es s ≤ 2 * (length es * length s) + length es * (length es - 1)
