-- The two words that the code keeps a decimal in, as its functions hand them over. Assumes nothing: these are definitions.
use Rattle.std.specs.Prelude.{◌≡◌, ℕ, ◌+◌, ◌-◌, ◌*◌, ◌/◌, ◌%◌, ◌^◌, ◌<◌, cond, nat_le, nat_lt}
use Rattle.decimal.specs.Decimal.{Number, near, max_decimals, decimals_of, far_of, past_of}
use Rattle.decimal.specs.declared.Parts.{Parts}
use Rattle.decimal.specs.declared.Split.{Split}

-- The value in two parts: what counts in the ninth decimal, and what is left of one, counted in the twelfth.
unfoldable pub upper_of : ℕ → ℕ → ℕ
upper_of digits code = digits * 10 ^ (near - code)

unfoldable pub lower_of : ℕ → ℕ
lower_of code = past_of code * 10 ^ (max_decimals - near - far_of code)

-- The digits of a number up to the ninth decimal, and those past it.
unfoldable pub digits_near : Number → ℕ
digits_near n = n.digits / 10 ^ (n.decimals - near)

unfoldable pub digits_past : Number → ℕ
digits_past n = n.digits % 10 ^ (n.decimals - near)

abbrev pub split_of : Number → Split
split_of n = record { digits = digits_near n; past = digits_past n; decimals = n.decimals }

-- Its two words: past the ninth decimal the code has a 1 before the digits past it.
unfoldable pub code_of : Number → ℕ
code_of n = cond (nat_le n.decimals near) n.decimals (10 ^ (n.decimals - near) + digits_past n)

abbrev pub parts_of : Number → Parts
parts_of n = record { digits = digits_near n; code = code_of n }

-- The code with a 1 before its digits that tells what another tells.
unfoldable pub tidy_of : ℕ → ℕ
tidy_of code = cond (nat_lt code 10) code (10 ^ far_of code + past_of code)

pub record Tidied (code tidy : ℕ) : Type 0 where
  pub is : tidy ≡ tidy_of code
  pub far : far_of tidy ≡ far_of code
  pub past : past_of tidy ≡ past_of code
  pub decimals : decimals_of tidy ≡ decimals_of code
  pub low : tidy < 2000
