-- Worked examples: document 004's own book, the ten best prices of each side, and its checksum. Assumes nothing.
use Rattle.std.specs.Prelude.{ℕ, ◌≡◌, refl, List, [], ◌∷◌}
use Rattle.text.specs.Text as x·
use Rattle.decimal.specs.Digits as d·
use Rattle.decimal.specs.Decimal as d2·
use Rattle.crc32_spec.specs.Crc.{bit, bits, step, run, crc}
use Rattle.orders.specs.Orders.{SingleOrder}
use Rattle.orders.specs.Orders as o·
use Rattle.order_checksum.specs.Text.{order_piece, order_checksum_text}

-- a price with one decimal, a size with eight; the id is in no checksum text
unfoldable order : ℕ → ℕ → SingleOrder
order price size = record { id = []; price = record { digits = price; decimals = 1 }; size = record { digits = size; decimals = 8 } }

unfoldable bids : List SingleOrder
bids =
    order 449394 88968699 ∷ order 449394 45210000 ∷ order 449394 10000000 ∷ order 449394 14296323 ∷ order 449394 25000000 ∷ order 449394 10292988 ∷ order 449394 33880000 ∷ order 449394 128140860 ∷ order 449371 3346877 ∷ order 449347 35630000 ∷ order 449302 22734299 ∷ order 449302 1000000 ∷ order 449302 5550000 ∷ order 449302 70000000 ∷ order 449302 15000000 ∷ order 449280 105240 ∷ order 449196 33870000 ∷ order 449195 7610000 ∷ order 449120 35630000 ∷ order 449097 6690000 ∷ order 449019 88982 ∷ []

unfoldable asks : List SingleOrder
asks =
    order 449395 452308393 ∷ order 449395 111261 ∷ order 449395 100000 ∷ order 449395 1000000 ∷ order 449500 10334926 ∷ order 449530 64537 ∷ order 449550 250000 ∷ order 449596 35630000 ∷ order 449596 35630000 ∷ order 449601 338072 ∷ order 449602 88967575 ∷ order 449670 314392283 ∷ order 449785 6778960 ∷ order 449792 35630000 ∷ []

sum_of_004 : crc (order_checksum_text bids asks) ≡ 1063832831
unfolding bids asks order order_checksum_text order_piece o·.summed o·.best_prices o·.at_prices o·.prices o·.among o·.except x·.joined d·.leading d·.value_from d·.fixed d·.significant_in d·.significant d·.written d2·.text d2·.after_point d2·.value x·.is_digit d2·.without_point d2·.without_zeros d2·.stripped bit bits step run crc
sum_of_004 = refl
