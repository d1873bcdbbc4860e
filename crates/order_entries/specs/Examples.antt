-- Worked examples: a text, and the order that it is. Assumes nothing.
use Prim.Native.String.{String}
use Rattle.std.specs.Prelude.{ℕ, ◌≡◌, refl, true, false, List, [], ◌∷◌, length, None, Option, Some}
use Rattle.text.specs.Text.{ascii}
use Rattle.order_edit.specs.declared.Event.{Event}
use Rattle.order_edit.specs.declared.Event.TheVariants.{Add, Modify}
use Rattle.text.specs.Text as x·
use Rattle.json_tokens.specs.Bytes as t1·
use Rattle.json_tokens.specs.Tokens as t2·
use Rattle.json_values.specs.Json as j1·
use Rattle.json_values.specs.Names as j2·
use Rattle.entries.specs.Places as p·
use Rattle.settings.specs.Settings as n·
use Rattle.order_edit.specs.Ids as i·
use Rattle.order_entries.specs.Rows as r·
use Rattle.order_entries.specs.Saying as y·
use Rattle.entries.specs.Rows as e·
use Rattle.decimal.specs.Digits as d1·
use Rattle.decimal.specs.Decimal as d2·

-- What an order's texts say.
pub record Said : Type 0 where
  pub id : List ℕ
  pub price : List ℕ
  pub size : List ℕ
  pub event : Option Event

said_of : String → Option Said
said_of t =
    p·.and_then (r·.order_row 12 (ascii t) (record { from = 0; to = length (ascii t) })) (λ r.
    Some (record { id = j2·.inner (ascii t) r.id; price = j2·.inner (ascii t) r.price; size = j2·.inner (ascii t) r.size; event = r.event }))

refused_of : String → Option (List ℕ)
refused_of t =
    p·.and_then (r·.order_row 12 (ascii t) (record { from = 0; to = length (ascii t) })) (λ r.
    Some (y·.bad_at false (ascii t) r ∷ y·.bad_at true (ascii t) r ∷ []))

pub data Case : Type 0 where
  is : String → String → String → String → Option Event → Case
  none : String → Case
  -- where the first text begins that check 8 refuses, in an update and in a snapshot
  bad : String → ℕ → ℕ → Case

Holds : Case → Type 0
Holds (is t id price size event) = said_of t ≡ Some (record { id = ascii id; price = ascii price; size = ascii size; event = event })
Holds (none t) = said_of t ≡ None
Holds (bad t update snapshot) = refused_of t ≡ Some (update ∷ snapshot ∷ [])

Each : List Case → Type 0
Each [] = Unit
Each (c ∷ cs) = Holds c × Each cs

table : List Case
table =
    -- 004's first order; a snapshot's has no event
    is "{\"order_id\":\"OTCFZG-YOE2Q-LQKNM3\",\"limit_price\":\"44939.4\",\"order_qty\":\"0.88968699\",\"timestamp\":\"2024-01-08T12:26:39.526146327Z\"}" "OTCFZG-YOE2Q-LQKNM3" "44939.4" "0.88968699" None ∷
    -- members in any order, and a name spelled with an escape
    is "{ \"event\" : \"modify\" , \"order_qty\":\"0\",\"limit\\u005fprice\":\"5\",\"order_id\":\"a\"}" "a" "5" "0" (Some Modify) ∷
    -- an event spelled with an escape
    is "{\"event\":\"\\u0061dd\",\"order_qty\":\"1\",\"limit_price\":\"5\",\"order_id\":\"a\"}" "a" "5" "1" (Some Add) ∷
    -- an event that is none of the three, is no string, or stands twice
    is "{\"event\":\"Add\",\"order_qty\":\"1\",\"limit_price\":\"5\",\"order_id\":\"a\"}" "a" "5" "1" None ∷
    is "{\"event\":1,\"order_qty\":\"1\",\"limit_price\":\"5\",\"order_id\":\"a\"}" "a" "5" "1" None ∷
    is "{\"event\":\"add\",\"event\":\"add\",\"order_qty\":\"1\",\"limit_price\":\"5\",\"order_id\":\"a\"}" "a" "5" "1" None ∷
    -- a text that is no decimal is another check's
    is "{\"order_qty\":\"x\",\"limit_price\":\"\",\"order_id\":\"a\"}" "a" "" "x" None ∷
    -- a price that is no string; one twice; none
    none "{\"order_qty\":\"1\",\"limit_price\":5,\"order_id\":\"a\"}" ∷
    none "{\"order_qty\":\"1\",\"limit_price\":\"5\",\"order_id\":\"a\",\"limit_price\":\"5\"}" ∷
    none "{\"order_qty\":\"1\",\"order_id\":\"a\"}" ∷
    -- an id with an escape, one of 21 bytes, an empty one
    none "{\"order_qty\":\"1\",\"limit_price\":\"5\",\"order_id\":\"\\u0061\"}" ∷
    none "{\"order_qty\":\"1\",\"limit_price\":\"5\",\"order_id\":\"abcdefghijklmnopqrstu\"}" ∷
    none "{\"order_qty\":\"1\",\"limit_price\":\"5\",\"order_id\":\"\"}" ∷
    -- a quantity of zero is refused unless deleted, and in a snapshot always
    bad "{\"event\":\"delete\",\"order_qty\":\"0.0\",\"limit_price\":\"5\",\"order_id\":\"a\"}" 0 30 ∷
    bad "{\"event\":\"modify\",\"order_qty\":\"0.0\",\"limit_price\":\"5\",\"order_id\":\"a\"}" 30 30 ∷
    -- a deleted order's quantity is a decimal all the same
    bad "{\"event\":\"delete\",\"order_qty\":\"\",\"limit_price\":\"5\",\"order_id\":\"a\"}" 30 30 ∷
    -- a price of zero; a good order
    bad "{\"event\":\"delete\",\"order_qty\":\"1\",\"limit_price\":\"0\",\"order_id\":\"a\"}" 48 48 ∷
    bad "{\"event\":\"add\",\"order_qty\":\"1\",\"limit_price\":\"5\",\"order_id\":\"a\"}" 0 0 ∷
    -- two bad texts: the one that stands first, and in an update of a deleted order the price alone
    bad "{\"event\":\"add\",\"order_qty\":\"0\",\"limit_price\":\"x\",\"order_id\":\"a\"}" 27 27 ∷
    bad "{\"event\":\"add\",\"limit_price\":\"x\",\"order_qty\":\"0\",\"order_id\":\"a\"}" 29 29 ∷
    bad "{\"event\":\"delete\",\"order_qty\":\"0\",\"limit_price\":\"x\",\"order_id\":\"a\"}" 48 30 ∷
    -- no object; no member
    none "[\"a\",\"5\",\"1\"]" ∷
    none "{}" ∷
    []

examples : Each table
unfolding table Each Holds said_of refused_of y·.bad_quantity y·.first_bad y·.bad_at y·.stays_of y·.event_or e·.bad_price e·.bad_size d1·.leading d1·.value_from d2·.is_whole d2·.fractional d2·.pointed d2·.prefix d2·.read d2·.is_zero x·.is_digit x·.byte_at t1·.blank t1·.hex_digit t1·.escaped t2·.and_then t2·.skip_while t2·.blanks t2·.digits t2·.some_digits t2·.closing t2·.separator t2·.string_rest t2·.string t2·.minus t2·.sign t2·.int t2·.fraction t2·.exponent t2·.json_number t2·.starts_with t2·.literal t2·.scalar t2·.chars t2·.escape t2·.hexes j1·.next j1·.prepended j1·.onward j1·.list j1·.list_of j1·.items_end j1·.element j1·.member j1·.elements j1·.members j1·.value j2·.part j2·.short_meaning j2·.hex_value j2·.long_meaning j2·.escape_meaning j2·.escape_length j2·.meaning j2·.inner j2·.means p·.and_then p·.is_string p·.contents p·.object_at p·.values_of p·.only n·.name_byte n·.name_bytes i·.is_id r·.string_at r·.event_at r·.row_of r·.row_in r·.order_row
examples = (refl, (refl, (refl, (refl, (refl, (refl, (refl, (refl, (refl, (refl, (refl, (refl, (refl, (refl, (refl, (refl, (refl, (refl, (refl, (refl, (refl, (refl, (refl, tt)))))))))))))))))))))))
