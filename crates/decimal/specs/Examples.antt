-- Worked examples of the definitions. Assumes nothing.
use Rattle.std.specs.Prelude.{◌≡◌, [], ◌∷◌, refl, None, Some}
use Rattle.text.specs.Text.{is_digit}
use Rattle.decimal.specs.Digits.{leading, value_from, fixed, significant_in, significant, written}
use Rattle.decimal.specs.Decimal.{Number, is_whole, fractional, pointed, prefix, read, text, after_point, without_point, without_zeros, stripped, value, number_of, far_of, past_of, decimals_of}
use Rattle.decimal.specs.Limits.{order, order_of}
use Rattle.text.specs.Text.{ascii}
use Rattle.std.specs.declared.cmp.Ordering.TheVariants.{Less}
use Rattle.decimal.specs.Whole.{read_whole, at_most, read_checksum}

-- 0.05120: 5120 with 5 decimals, and back
five : Number
five = record { digits = 5120; decimals = 5 }

reads_0_05120 : read (48 ∷ 46 ∷ 48 ∷ 53 ∷ 49 ∷ 50 ∷ 48 ∷ []) ≡ Some five
unfolding five read prefix is_whole pointed fractional leading is_digit value_from
reads_0_05120 = refl

writes_0_05120 : text five ≡ 48 ∷ 46 ∷ 48 ∷ 53 ∷ 49 ∷ 50 ∷ 48 ∷ []
unfolding five text after_point fixed written significant significant_in
writes_0_05120 = refl

strips_0_05120 : stripped five ≡ 53 ∷ 49 ∷ 50 ∷ 48 ∷ []
unfolding five stripped text after_point fixed written significant significant_in without_point without_zeros
strips_0_05120 = refl

-- 05
refuses_05 : read (48 ∷ 53 ∷ []) ≡ None
unfolding read prefix is_whole leading is_digit
refuses_05 = refl

-- 0.5 and 0.50 have one value
half : value (record { digits = 5; decimals = 1 }) ≡ value (record { digits = 50; decimals = 2 })
unfolding value
half = refl

-- twelve decimals, and not thirteen; ten digits before the point, and not eleven
reads_twelve : read (ascii "0.000000000001") ≡ Some (record { digits = 1; decimals = 12 })
unfolding read prefix is_whole pointed fractional leading is_digit value_from
reads_twelve = refl

refuses_thirteen : read (ascii "0.0000000000001") ≡ None
unfolding read prefix is_whole pointed fractional leading is_digit value_from
refuses_thirteen = refl

largest_decimal : Number
largest_decimal = record { digits = 9999999999999999999999; decimals = 12 }

reads_largest : read (ascii "9999999999.999999999999") ≡ Some largest_decimal
unfolding largest_decimal read prefix is_whole pointed fractional leading is_digit value_from
reads_largest = refl

writes_largest : text largest_decimal ≡ ascii "9999999999.999999999999"
unfolding largest_decimal text after_point fixed written significant significant_in
writes_largest = refl

refuses_eleven : read (ascii "10000000000.5") ≡ None
unfolding read prefix is_whole leading is_digit
refuses_eleven = refl

-- the two words of a decimal: those of the largest, of 0.0000000000, of 0.00000000007 and of 12.5
words_largest : number_of 9999999999999999999 1999 ≡ largest_decimal
unfolding largest_decimal number_of far_of past_of decimals_of
words_largest = refl

words_zero : number_of 0 10 ≡ record { digits = 0; decimals = 10 }
unfolding number_of far_of past_of decimals_of
words_zero = refl

words_small : number_of 0 107 ≡ record { digits = 7; decimals = 11 }
unfolding number_of far_of past_of decimals_of
words_small = refl

words_short : number_of 125 1 ≡ record { digits = 125; decimals = 1 }
unfolding number_of far_of past_of decimals_of
words_short = refl

-- 1.000000000010 has its leading zeros removed where it has some, and 0.000000000010 too
strips_one : stripped (record { digits = 1000000000010; decimals = 12 }) ≡ ascii "1000000000010"
unfolding stripped text after_point fixed written significant significant_in without_point without_zeros
strips_one = refl

strips_small : stripped (record { digits = 10; decimals = 12 }) ≡ ascii "10"
unfolding stripped text after_point fixed written significant significant_in without_point without_zeros
strips_small = refl

-- 0.0000000001 and 0.000000000100 have one value, and 0.000000000101 is more
tenth : value (number_of 0 11) ≡ value (number_of 0 1100)
unfolding value number_of far_of past_of decimals_of
tenth = refl

more : order (number_of 0 11) (number_of 0 1101) ≡ Less
unfolding order order_of value number_of far_of past_of decimals_of
more = refl

-- 4294967295 is the largest checksum
largest : read_checksum (52 ∷ 50 ∷ 57 ∷ 52 ∷ 57 ∷ 54 ∷ 55 ∷ 50 ∷ 57 ∷ 53 ∷ []) ≡ Some 4294967295
unfolding read_checksum at_most read_whole is_whole leading is_digit value_from
largest = refl

one_more : read_checksum (52 ∷ 50 ∷ 57 ∷ 52 ∷ 57 ∷ 54 ∷ 55 ∷ 50 ∷ 57 ∷ 54 ∷ []) ≡ None
unfolding read_checksum at_most read_whole is_whole leading is_digit value_from
one_more = refl
