-- Worked examples of the definitions. Assumes nothing.
use Rattle.std.specs.Prelude.{◌≡◌, refl, true, false, [], ◌∷◌, ℕ}
use Rattle.decimal.specs.Decimal.{Number, value, number_of, far_of, past_of, decimals_of}
use Rattle.decimal.specs.Words.{digits_near, digits_past, code_of}
use Rattle.edit.specs.declared.Side.TheVariants.{Bids, Asks}
use Rattle.edit.specs.Edit.{PriceLevel, shown_price}
use Rattle.edit.specs.Edit.{sets, removes}
use Rattle.level.specs.Side.{names, names_twice, without, apply, apply_all, place, ranked, crosses, standing}
use Rattle.level.specs.Ranked.{after_message, replaces, replaced}
use Rattle.level.specs.Moved.{place_of, moves, moved}
use Rattle.level.specs.declared.Level.{Level}
use Rattle.level.specs.Words.{packed, price_code, size_code, level_price, level_size, level_sum, level_length, level_made}

unfoldable decimal : ℕ → ℕ → Number
decimal digits decimals = record { digits = digits; decimals = decimals }

-- a price without decimals, and a size of 1
unfoldable level : ℕ → PriceLevel
level price = record { price = decimal price 0; size = decimal 1 0 }

-- bids stand high to low, asks low to high
bids_high_to_low : after_message shown_price Bids 10 (sets (level 2) ∷ sets (level 3) ∷ sets (level 1) ∷ []) [] ≡ level 3 ∷ level 2 ∷ level 1 ∷ []
unfolding level decimal after_message apply_all apply without ranked place value
bids_high_to_low = refl

asks_low_to_high : after_message shown_price Asks 10 (sets (level 2) ∷ sets (level 3) ∷ sets (level 1) ∷ []) [] ≡ level 1 ∷ level 2 ∷ level 3 ∷ []
unfolding level decimal after_message apply_all apply without ranked place value
asks_low_to_high = refl

-- cut after the whole message and never between entries: an insert and a removal at full depth keep the good level
kept_at_full_depth : after_message shown_price Bids 2 (sets (level 10) ∷ removes (decimal 10 0) ∷ []) (level 9 ∷ level 8 ∷ []) ≡ level 9 ∷ level 8 ∷ []
unfolding level decimal after_message apply_all apply without ranked place value
kept_at_full_depth = refl

-- 0.5 is replaced by 0.50: one price, and the last text holds
unfoldable half : ℕ → ℕ → PriceLevel
half digits decimals = record { price = decimal digits decimals; size = decimal 1 0 }

last_text_holds : after_message shown_price Asks 10 (sets (half 50 2) ∷ []) (half 5 1 ∷ []) ≡ half 50 2 ∷ []
unfolding half decimal after_message apply_all apply without ranked place value
last_text_holds = refl

one_price : names_twice (decimal 5 1 ∷ decimal 7 0 ∷ decimal 50 2 ∷ []) ≡ true
unfolding decimal names_twice names value
one_price = refl

-- a snapshot that names a price twice meets the first of the two; a price that was removed in between is not met
met_twice : replaced shown_price (sets (half 5 1) ∷ sets (half 50 2) ∷ []) [] ≡ true
unfolding half decimal replaced replaces standing apply without value
met_twice = refl

not_met : replaced shown_price (sets (half 5 1) ∷ removes (decimal 50 2) ∷ sets (half 50 2) ∷ []) [] ≡ false
unfolding half decimal replaced replaces standing apply without value
not_met = refl

-- removing an absent price does nothing
absent_price : after_message shown_price Asks 10 (removes (decimal 6 0) ∷ []) (level 5 ∷ level 7 ∷ []) ≡ level 5 ∷ level 7 ∷ []
unfolding level decimal after_message apply_all apply without ranked place value
absent_price = refl

-- one price on both sides, written differently, is crossed; a side alone is not
equal_crossed : crosses shown_price (half 5 1 ∷ []) (half 50 2 ∷ []) ≡ true
unfolding half decimal crosses value
equal_crossed = refl

below_not_crossed : crosses shown_price (level 4 ∷ []) (level 5 ∷ []) ≡ false
unfolding level decimal crosses value
below_not_crossed = refl

alone_not_crossed : crosses shown_price (level 4 ∷ []) [] ≡ false
unfolding level decimal crosses
alone_not_crossed = refl

-- 12.50 and 0.000000000007 with a sum of 5 and a length of 6, in words and back out of them
unfoldable words : Level
words = record { price = 1250; size = 0; rest = packed 5 6 2 1007 }

words_made : level_made (decimal 1250 2) (decimal 7 12) 5 6 ≡ words
unfolding words decimal level_made packed digits_near digits_past code_of
words_made = refl

words_price : level_price words ≡ decimal 1250 2
unfolding words decimal level_price packed price_code number_of far_of past_of decimals_of
words_price = refl

words_size : level_size words ≡ decimal 7 12
unfolding words decimal level_size packed size_code number_of far_of past_of decimals_of
words_size = refl

words_sum : level_sum words ≡ 5
unfolding words level_sum packed
words_sum = refl

words_length : level_length words ≡ 6
unfolding words level_length packed
words_length = refl

-- ---- levels moved

-- an insert at place 1 of 3 moves the two behind it, one at the end none
moved_insert : moved shown_price Bids (sets (level 3) ∷ sets (level 0) ∷ []) (level 4 ∷ level 2 ∷ level 1 ∷ []) ≡ 2
unfolding level decimal moved moves place_of standing apply without value
moved_insert = refl

-- a removal at the top of 3 moves two, one at the end none
moved_removal : moved shown_price Asks (removes (decimal 1 0) ∷ removes (decimal 4 0) ∷ []) (level 1 ∷ level 2 ∷ level 4 ∷ []) ≡ 2
unfolding level decimal moved moves place_of standing apply without value
moved_removal = refl

-- a replacement and the removal of an absent price move none
moved_none : moved shown_price Asks (sets (level 2) ∷ removes (decimal 3 0) ∷ []) (level 1 ∷ level 2 ∷ level 4 ∷ []) ≡ 0
unfolding level decimal moved moves place_of standing apply without value
moved_none = refl

-- the bound is reached: three inserts at the top of two levels, one after another, move 3·2 + 3·2/2
bound_reached : moved shown_price Asks (sets (level 3) ∷ sets (level 2) ∷ sets (level 1) ∷ []) (level 4 ∷ level 5 ∷ []) ≡ 9
unfolding level decimal moved moves place_of standing apply without value
bound_reached = refl
