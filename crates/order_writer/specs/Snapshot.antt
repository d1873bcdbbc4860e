-- The text of a book of single orders as a snapshot without blanks, as request c has it: "The writer keeps the member order above and gives each order id, price
-- and quantity only." Orders stand best and earliest first. Assumes nothing: these are definitions.
use Rattle.std.specs.Prelude.{ℕ, List, ◌++◌, map}
use Rattle.text.specs.Text.{ascii}
use Rattle.decimal.specs.Digits.{written}
use Rattle.decimal.specs.Decimal.{text}
use Rattle.writer.specs.Snapshot.{quoted, array}
use Rattle.orders.specs.Orders.{SingleOrder}

unfoldable pub order_text : SingleOrder → List ℕ
order_text x =
    ascii "{\"order_id\":" ++ (quoted x.id
    ++ (ascii ",\"limit_price\":" ++ (quoted (text x.price)
    ++ (ascii ",\"order_qty\":" ++ (quoted (text x.size) ++ ascii "}")))))

unfoldable pub order_snapshot : List ℕ → List SingleOrder → List SingleOrder → ℕ → List ℕ
order_snapshot name bids asks checksum =
    ascii "{\"channel\":\"level3\",\"type\":\"snapshot\",\"data\":[{\"symbol\":" ++ (quoted name
    ++ (ascii ",\"checksum\":" ++ (written checksum
    ++ (ascii ",\"bids\":" ++ (array (map order_text bids)
    ++ (ascii ",\"asks\":" ++ (array (map order_text asks) ++ ascii "}]}")))))))
