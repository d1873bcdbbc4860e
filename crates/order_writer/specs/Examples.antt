-- Worked examples of the definitions. Assumes nothing.
use Rattle.std.specs.Prelude.{◌≡◌, refl, [], ◌∷◌, ℕ}
use Rattle.text.specs.Text.{ascii}
use Rattle.decimal.specs.Digits.{fixed, significant_in, significant, written}
use Rattle.decimal.specs.Decimal.{Number, text, after_point}
use Rattle.writer.specs.Snapshot.{quoted, comma_joined, array}
use Rattle.order_writer.specs.Snapshot.{order_text, order_snapshot}

unfoldable decimal : ℕ → ℕ → Number
decimal digits decimals = record { digits = digits; decimals = decimals }

-- one bid, no asks; a price keeps the zeros that it was sent with
one_bid : order_snapshot (ascii "BTC/USD") (record { id = ascii "A"; price = decimal 90 1; size = decimal 2 0 } ∷ []) [] 123
    ≡ ascii "{\"channel\":\"level3\",\"type\":\"snapshot\",\"data\":[{\"symbol\":\"BTC/USD\",\"checksum\":123,\"bids\":[{\"order_id\":\"A\",\"limit_price\":\"9.0\",\"order_qty\":\"2\"}],\"asks\":[]}]}"
unfolding decimal order_snapshot order_text array comma_joined quoted text after_point fixed written significant significant_in
one_bid = refl

-- two asks at one price, the earliest first, each with the text that it was sent with
one_price : order_snapshot (ascii "X") [] (record { id = ascii "B2"; price = decimal 5 1; size = decimal 10 0 } ∷ record { id = ascii "A1"; price = decimal 50 2; size = decimal 25 2 } ∷ []) 0
    ≡ ascii "{\"channel\":\"level3\",\"type\":\"snapshot\",\"data\":[{\"symbol\":\"X\",\"checksum\":0,\"bids\":[],\"asks\":[{\"order_id\":\"B2\",\"limit_price\":\"0.5\",\"order_qty\":\"10\"},{\"order_id\":\"A1\",\"limit_price\":\"0.50\",\"order_qty\":\"0.25\"}]}]}"
unfolding decimal order_snapshot order_text array comma_joined quoted text after_point fixed written significant significant_in
one_price = refl
