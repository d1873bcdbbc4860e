-- Laws of a level that was made, and of what an entry does: a size of zero removes, in whatever way levels are made. Assumes nothing.
use Prim.Native.Nat.{ℕ, ◌^◌, ◌≤◌, ◌<◌}
use mathlib.Core.Path.{◌≡◌, refl, ap, ap₂, ◌∙◌}
use mathlib.Core.Bool.{Bool, true, false, cond}
use Rattle.decimal.specs.Decimal.{Number, number_of, is_zero}
use Rattle.decimal.specs.Limits.{Within}
use Rattle.decimal.specs.Words.{digits_near, code_of}
use Rattle.decimal.proofs.Words.{words-number, code-low}
use Rattle.edit.specs.Edit.{Edit, sets, removes, Numbers, edit_of}
use Rattle.level.specs.declared.Level.{Level}
use Rattle.level.specs.Ranked.{map_edit, IfSet}
use Rattle.edit.specs.Edit.{named}
use Rattle.level.specs.Words.{max_length, level_made, level_price, level_size, level_sum, level_length, shown, change_of}
use Rattle.level.proofs.Packing.{sum-out, length-out, price-out, size-out}

-- ---- a level that was made

module _ (price size : Number) (sum length : ℕ) (p : Within price) (s : Within size) (few : sum < 2 ^ 32) (short : length ≤ max_length) where
  pub made-price : level_price (level_made price size sum length) ≡ price
  unfolding level_price level_made
  made-price =
      ap (number_of (digits_near price)) (price-out sum length (code_of price) (code_of size) few short (code-low price p.few)) ∙ words-number price p.few

  pub made-size : level_size (level_made price size sum length) ≡ size
  unfolding level_size level_made
  made-size =
      ap (number_of (digits_near size)) (size-out sum length (code_of price) (code_of size) few short (code-low price p.few)) ∙ words-number size s.few

  pub made-sum : level_sum (level_made price size sum length) ≡ sum
  unfolding level_sum level_made
  made-sum = sum-out sum length (code_of price) (code_of size) few

  pub made-length : level_length (level_made price size sum length) ≡ length
  unfolding level_length level_made
  made-length = length-out sum length (code_of price) (code_of size) few short

  pub made-shown : shown (level_made price size sum length) ≡ record { price = price; size = size }
  unfolding shown
  made-shown = ap₂ (λ (x y : Number). record { price = x; size = y }) made-price made-size

-- ---- what an entry does

module _ {A : Type 0} (level : Number → Number → A) (e : Numbers) where
  pub change-removal : is_zero e.size ≡ true → change_of level e ≡ removes e.price
  unfolding change_of
  change-removal z = rw z

  pub change-set : is_zero e.size ≡ false → change_of level e ≡ sets (level e.price e.size)
  unfolding change_of
  change-set z = rw z

  -- what holds of the removal and of the level holds of the change
  pub change-each : (P : Edit A → Type 0) → P (removes e.price) → P (sets (level e.price e.size)) → P (change_of level e)
  unfolding change_of
  change-each P a b = at (is_zero e.size)
    where
      at : (z : Bool) → P (cond z (removes e.price) (sets (level e.price e.size)))
      at true = a
      at false = b

  pub change-named : (price_of : A → Number) → price_of (level e.price e.size) ≡ e.price → named price_of (change_of level e) ≡ e.price
  unfolding named
  change-named price_of h = change-each (λ x. named price_of x ≡ e.price) refl h

  pub change-holds : (P : A → Type 0) → P (level e.price e.size) → IfSet P (change_of level e)
  unfolding IfSet
  change-holds P h = change-each (IfSet P) tt h

-- levels seen in another way
pub change-map : {A B : Type 0} (level : Number → Number → A) (f : A → B) (other : Number → Number → B) (e : Numbers)
    → f (level e.price e.size) ≡ other e.price e.size → map_edit f (change_of level e) ≡ change_of other e
unfolding change_of map_edit
change-map {A} {B} level f other e h = at (is_zero e.size)
  where
    at : (z : Bool) → map_edit f (cond z (removes e.price) (sets (level e.price e.size))) ≡ cond z (removes e.price) (sets (other e.price e.size))
    at true = refl
    at false = ap sets h

-- as it is shown, an entry does what the definition says
pub change-shown : (level : Number → Number → Level) (e : Numbers) → shown (level e.price e.size) ≡ record { price = e.price; size = e.size }
    → map_edit shown (change_of level e) ≡ edit_of e
unfolding edit_of change_of
change-shown level e h = change-map level shown (λ (price size : Number). record { price = price; size = size }) e h
