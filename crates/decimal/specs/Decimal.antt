-- Decimals, as document 01 has them under "Decimals": 1 to 10 digits, then optionally a point and 1 to 12 digits; no sign, no exponent;
-- no leading zero before the point unless it is the single digit 0. Assumes nothing: these are definitions.
use Rattle.std.specs.Prelude.{ℕ, zero, suc, ◌+◌, ◌-◌, ◌*◌, ◌/◌, ◌%◌, ◌^◌, Bool, true, false, cond, not, ◌&&◌, List, [], ◌∷◌, ◌++◌, length, drop, ◌==◌, nat_le, nat_lt, slice_index, None, Option, Some}
use Rattle.decimal.specs.Digits.{leading, value_of, fixed, written}
use Rattle.decimal.specs.declared.Decimal.{Decimal}

-- ---- limits: digits before the point, and after it

abbrev pub max_whole : ℕ
max_whole = 10

abbrev pub max_decimals : ℕ
max_decimals = 12

abbrev pub point : ℕ
point = 46

-- ---- what a decimal text stands for: its digits as one whole number, and how many of them stand after the point

pub record Number : Type 0 where
  pub digits : ℕ
  pub decimals : ℕ

-- ---- how the code keeps that pair in two words, since 22 digits do not fit one: `digits` has those up to the ninth decimal, and `code` tells the
-- others. It is the number of decimals up to 9, and past that a digit before the digits past the ninth decimal: 17 tells a tenth decimal 7, and 1070
-- three more decimals, 070. Every number is a code: from 1000 on its last three digits count alone.

abbrev pub near : ℕ
near = 9

-- how many digits past the ninth decimal a code tells, which these are, and how many decimals there are in all
unfoldable pub far_of : ℕ → ℕ
far_of code = elim (nat_lt code 10) [ true ↦ 0 | false ↦ elim (nat_lt code 100) [ true ↦ 1 | false ↦ elim (nat_lt code 1000) [ true ↦ 2 | false ↦ 3 ] ] ]

unfoldable pub past_of : ℕ → ℕ
past_of code = code % 10 ^ far_of code

unfoldable pub decimals_of : ℕ → ℕ
decimals_of code = elim (nat_lt code 10) [ true ↦ code | false ↦ near + far_of code ]

unfoldable pub number_of : ℕ → ℕ → Number
number_of digits code = record { digits = digits * 10 ^ far_of code + past_of code; decimals = decimals_of code }

-- The pair that the code's struct holds: what is above this crate knows a decimal by this alone.
unfoldable pub number : Decimal → Number
number d = number_of d.digits d.code

-- One digit or more, `most` at the most, and no 0 in front of another digit.
unfoldable pub is_whole : ℕ → List ℕ → Bool
is_whole most w = nat_le 1 (length w) && (nat_le (length w) most && not (nat_lt 1 (length w) && slice_index w 0 == 48))

-- A decimal at the front of a text, and how many bytes it takes.
pub record Prefix : Type 0 where
  pub number : Number
  pub size : ℕ

abbrev pub prefixed : List ℕ → ℕ → ℕ → Option Prefix
prefixed w decimals size = Some (record { number = record { digits = value_of w; decimals = decimals }; size = size })

-- w before the point and f after it
unfoldable pub fractional : List ℕ → List ℕ → Option Prefix
fractional w f = cond (nat_le 1 (length f) && nat_le (length f) max_decimals) (prefixed (w ++ f) (length f) (length w + 1 + length f)) None

-- w before the point, if there is one at the front of t
unfoldable pub pointed : List ℕ → List ℕ → Option Prefix
pointed w t = cond (slice_index t 0 == point) (fractional w (leading (drop 1 t))) (prefixed w 0 (length w))

unfoldable pub prefix : List ℕ → Option Prefix
prefix s = cond (is_whole max_whole (leading s)) (pointed (leading s) (drop (length (leading s)) s)) None

-- A decimal text: a decimal at its front, and nothing after it.
unfoldable pub read : List ℕ → Option Number
read s = elim (prefix s) [ Some p ↦ elim (p.size == length s) [ true ↦ Some p.number | false ↦ None ] | None ↦ None ]

-- ---- its text rebuilt

unfoldable pub after_point : ℕ → ℕ → List ℕ
after_point zero n = []
after_point (suc k) n = point ∷ fixed (suc k) n

unfoldable pub text : Number → List ℕ
text n = written (n.digits / 10 ^ n.decimals) ++ after_point n.decimals n.digits

-- Its text with the point removed, then leading zeros: what the checksum text of dialect K wants.
unfoldable pub without_point : List ℕ → List ℕ
without_point [] = []
without_point (c ∷ s) = elim (c == point) [ true ↦ without_point s | false ↦ c ∷ without_point s ]

unfoldable pub without_zeros : List ℕ → List ℕ
without_zeros [] = []
without_zeros (c ∷ s) = elim (c == 48) [ true ↦ without_zeros s | false ↦ c ∷ s ]

unfoldable pub stripped : Number → List ℕ
stripped n = without_zeros (without_point (text n))

-- ---- its value, counted in the smallest decimal

unfoldable pub value : Number → ℕ
value n = n.digits * 10 ^ (max_decimals - n.decimals)

unfoldable pub is_zero : Number → Bool
is_zero n = n.digits == 0
