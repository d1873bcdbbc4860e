-- What was packed comes back out of the third word. Assumes nothing.
use Prim.Native.Nat.{ℕ, ◌+◌, ◌*◌, ◌/◌, ◌%◌, ◌^◌, ◌≤◌, ◌<◌}
use mathlib.Core.Path.{◌≡◌, sym, ap, ◌∙◌}
use native.Mathlib.Nat.{div-div-eq-div-mul}
use native.Mathlib.Omega.{arith}
use lib.Dec.{lit<}
use Rattle.edit.proofs.Packing.{low, high}
use Rattle.level.specs.Words.{max_length, packed, price_code, size_code}

module _ (sum length price size : ℕ) (few-sum : sum < 2 ^ 32) where
  abbrev codes : ℕ
  codes = price + 2 ^ 12 * size

  abbrev above : ℕ
  above = length + 2 ^ 8 * codes

  pub sum-out : packed sum length price size % 2 ^ 32 ≡ sum
  unfolding packed
  sum-out = low (2 ^ 32) sum above few-sum

  above-out : packed sum length price size / 2 ^ 32 ≡ above
  unfolding packed
  above-out = high (2 ^ 32) sum above (lit< tt) few-sum

  module _ (few-length : length ≤ max_length) where
    few : length < 2 ^ 8
    few = omega arith

    pub length-out : packed sum length price size / 2 ^ 32 % 2 ^ 8 ≡ length
    length-out = ap (λ (n : ℕ). n % 2 ^ 8) above-out ∙ low (2 ^ 8) length codes few

    codes-out : packed sum length price size / 2 ^ 40 ≡ codes
    codes-out =
        sym (div-div-eq-div-mul (packed sum length price size) (2 ^ 32) (2 ^ 8))
        ∙ ap (λ (n : ℕ). n / 2 ^ 8) above-out ∙ high (2 ^ 8) length codes (lit< tt) few

    module _ (few-price : price < 2000) where
      short : price < 2 ^ 12
      short = omega arith

      pub price-out : price_code (packed sum length price size) ≡ price
      unfolding price_code
      price-out = ap (λ (n : ℕ). n % 2 ^ 12) codes-out ∙ low (2 ^ 12) price size short

      pub size-out : size_code (packed sum length price size) ≡ size
      unfolding size_code
      size-out =
          sym (div-div-eq-div-mul (packed sum length price size) (2 ^ 40) (2 ^ 12))
          ∙ ap (λ (n : ℕ). n / 2 ^ 12) codes-out ∙ high (2 ^ 12) price size (lit< tt) short
