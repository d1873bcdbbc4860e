-- An entry that was packed comes back out of its three words. Assumes nothing.
use Prim.Native.Nat.{ℕ, ◌+◌, ◌*◌, ◌/◌, ◌%◌, ◌^◌, ◌≤◌, ◌<◌}
use mathlib.Core.Path.{◌≡◌, refl, ap, ◌∙◌}
use native.Mathlib.Nat.{zero-add, mod-eq_of_lt, div-eq_of_lt, add-mul-mod_self_left, add-mul-div_left}
use native.Mathlib.Omega.{arith}
use lib.Dec.{lit<}
use Rattle.decimal.specs.Limits.{Within}
use Rattle.decimal.specs.Words.{digits_near, code_of}
use Rattle.decimal.proofs.Words.{words-number, code-low}
use Rattle.edit.specs.declared.Side.{Side}
use Rattle.edit.specs.declared.Side.TheVariants.{Bids, Asks}
use Rattle.edit.specs.Edit.{Numbers}
use Rattle.edit.specs.Buffer.{side_number, side_in, entry_of}

-- the low part of a number, and what is above it
pub low : (m : ℕ) (x y : ℕ) → x < m → (x + m * y) % m ≡ x
low m x y h = add-mul-mod_self_left x m y ∙ mod-eq_of_lt h

pub high : (m : ℕ) (x y : ℕ) → 0 < m → x < m → (x + m * y) / m ≡ y
high m x y p h = add-mul-div_left x y p ∙ ap (λ (n : ℕ). n + y) (div-eq_of_lt h) ∙ zero-add y

pub side-out : (side : Side) → side_in (side_number side) ≡ side
unfolding side_in side_number
side-out Bids = refl
side-out Asks = refl

pub side-few : (side : Side) → side_number side ≤ 1
unfolding side_number
side-few Bids = omega arith
side-few Asks = omega arith

module _ (e : Numbers) (price : Within e.price) (size : Within e.size) where
  abbrev both : ℕ
  both = code_of e.price + 2 ^ 16 * code_of e.size

  abbrev pub packed : ℕ
  packed = both + 2 ^ 32 * side_number e.side

  few-price : code_of e.price < 2 ^ 16
  few-price = let h = code-low e.price price.few in omega arith

  few-size : code_of e.size < 2 ^ 16
  few-size = let h = code-low e.size size.few in omega arith

  few-both : both < 2 ^ 32
  few-both = let h = code-low e.price price.few in let k = code-low e.size size.few in omega arith

  regrouped : packed ≡ code_of e.price + 2 ^ 16 * (code_of e.size + 2 ^ 16 * side_number e.side)
  regrouped = omega arith

  side-part : packed / 2 ^ 32 ≡ side_number e.side
  side-part = high (2 ^ 32) both (side_number e.side) (lit< tt) few-both

  price-part : packed % 2 ^ 16 ≡ code_of e.price
  price-part = ap (λ (n : ℕ). n % 2 ^ 16) regrouped ∙ low (2 ^ 16) (code_of e.price) (code_of e.size + 2 ^ 16 * side_number e.side) few-price

  size-part : packed / 2 ^ 16 % 2 ^ 16 ≡ code_of e.size
  size-part =
      ap (λ (n : ℕ). n / 2 ^ 16 % 2 ^ 16) regrouped
      ∙ ap (λ (n : ℕ). n % 2 ^ 16) (high (2 ^ 16) (code_of e.price) (code_of e.size + 2 ^ 16 * side_number e.side) (lit< tt) few-price)
      ∙ low (2 ^ 16) (code_of e.size) (side_number e.side) few-size

  pub entry-packed : entry_of (digits_near e.price) (digits_near e.size) packed ≡ e
  unfolding entry_of
  entry-packed = rw (side-part, price-part, size-part, side-out e.side, words-number e.price price.few, words-number e.size size.few)
