-- Worked examples: a text, and what is met of the array of orders that it is. Assumes nothing.
use Prim.Native.String.{String}
use Rattle.std.specs.Prelude.{ℕ, ◌≡◌, refl, Bool, true, false, List, [], ◌∷◌}
use Rattle.edit.specs.declared.Side.TheVariants.{Bids}
use Rattle.text.specs.Text as x·
use Rattle.decimal.specs.Digits as d1·
use Rattle.decimal.specs.Decimal as d2·
use Rattle.json_tokens.specs.Bytes as t1·
use Rattle.json_tokens.specs.Tokens as t2·
use Rattle.json_values.specs.Json as j1·
use Rattle.json_values.specs.Names as j2·
use Rattle.json_values.specs.Fold as j3·
use Rattle.entries.specs.Places as p·
use Rattle.entries.specs.Rows as e·
use Rattle.settings.specs.Settings as n·
use Rattle.order_edit.specs.Ids as i·
use Rattle.order_entries.specs.Rows as r·
use Rattle.order_entries.specs.Saying as y·
use Rattle.order_arrays.specs.Tally as o·
use Rattle.order_arrays.specs.declared.OrderTally.{OrderTally}

met_in : String → OrderTally
met_in t = (o·.told_at (x·.ascii t) 12 Bids o·.none_yet 0).tally

pub data Case : Type 0 where
  -- how many orders, where the first bad text of an update and of a snapshot begins, whether each has an event
  is : String → ℕ → ℕ → ℕ → Bool → Case
  none : String → Case

Holds : Case → Type 0
Holds (is t bids broken strict events) = met_in t ≡ record { bids = bids; asks = 0; broken_at = broken; strict_at = strict; events = events; well_formed = true }
Holds (none t) = met_in t ≡ o·.not_orders

Each : List Case → Type 0
Each [] = Unit
Each (c ∷ cs) = Holds c × Each cs

table : List Case
table =
    -- no order
    is "[]" 0 0 0 true ∷
    -- two good orders, the first without an event
    is "[{\"limit_price\":\"5\",\"order_qty\":\"1\",\"order_id\":\"a\"},{\"event\":\"add\",\"limit_price\":\"5\",\"order_qty\":\"1\",\"order_id\":\"b\"}]" 2 0 0 false ∷
    -- a deleted order's quantity of zero is bad in a snapshot alone
    is "[{\"event\":\"delete\",\"limit_price\":\"5\",\"order_qty\":\"0\",\"order_id\":\"a\"},{\"event\":\"add\",\"limit_price\":\"5\",\"order_qty\":\"x\",\"order_id\":\"b\"}]" 2 114 49 true ∷
    -- of three bad texts the first
    is "[{\"event\":\"add\",\"order_qty\":\"0\",\"limit_price\":\"x\",\"order_id\":\"a\"},{\"event\":\"add\",\"limit_price\":\"0\",\"order_qty\":\"1\",\"order_id\":\"b\"}]" 2 28 28 true ∷
    -- an element that is no order, and an order behind it
    none "[7,{\"limit_price\":\"5\",\"order_qty\":\"1\",\"order_id\":\"a\"}]" ∷
    -- no array
    none "{\"limit_price\":\"5\",\"order_qty\":\"1\",\"order_id\":\"a\"}" ∷
    []

examples : Each table
unfolding table Each Holds met_in o·.orders_at o·.or_else o·.counted o·.one_more o·.tallied o·.told_at j3·.fold_from p·.all p·.array_at y·.bad_quantity y·.first_bad y·.bad_at y·.stays_of y·.event_or e·.bad_price e·.bad_size d1·.leading d1·.value_from d2·.is_whole d2·.fractional d2·.pointed d2·.prefix d2·.read d2·.is_zero x·.is_digit x·.byte_at t1·.blank t1·.hex_digit t1·.escaped t2·.and_then t2·.skip_while t2·.blanks t2·.digits t2·.some_digits t2·.closing t2·.separator t2·.string_rest t2·.string t2·.minus t2·.sign t2·.int t2·.fraction t2·.exponent t2·.json_number t2·.starts_with t2·.literal t2·.scalar t2·.chars t2·.escape t2·.hexes j1·.next j1·.prepended j1·.onward j1·.list j1·.list_of j1·.items_end j1·.element j1·.member j1·.elements j1·.members j1·.value j2·.part j2·.short_meaning j2·.hex_value j2·.long_meaning j2·.escape_meaning j2·.escape_length j2·.meaning j2·.inner j2·.means p·.and_then p·.is_string p·.contents p·.object_at p·.values_of p·.only n·.name_byte n·.name_bytes i·.is_id r·.string_at r·.event_at r·.row_of r·.row_in r·.order_row
examples = (refl, (refl, (refl, (refl, (refl, (refl, tt))))))
