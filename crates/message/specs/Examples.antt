-- Worked examples: settings and a message, with the number of the first refusal that fits by document 01's table, or 0. Assumes nothing.
use Rattle.answer.specs.declared.Answer.{Answer}
use Rattle.std.specs.Prelude.{◌≡◌, refl, List, [], ◌∷◌, ℕ, Err, Ok, Result}
use Prim.Native.String.{String}
use Rattle.text.specs.Text.{ascii}
use Rattle.settings.specs.declared.Dialect.TheVariants.{K, M}
use Rattle.settings.specs.declared.Edition.TheVariants.{M1, M2}
use Rattle.settings.specs.Settings.{Config}
use Rattle.answer.specs.Answers.{answer_number}
use Rattle.message.specs.Meaning.{decode, Message}
use Rattle.text.specs.Text as x·
use Rattle.decimal.specs.Digits as d·
use Rattle.decimal.specs.Decimal as d2·
use Rattle.decimal.specs.Whole as d3·
use Rattle.json_tokens.specs.Bytes as t1·
use Rattle.json_tokens.specs.Tokens as t2·
use Rattle.json_values.specs.Json as j1·
use Rattle.json_values.specs.Names as j2·
use Rattle.edit.specs.Edit as e·
use Rattle.entries.specs.Places as p·
use Rattle.entries.specs.Rows as r·
use Rattle.layout.specs.Layout as l·
use Rattle.settings.specs.Rules as u·
use Rattle.message_k.specs.LayoutK as k·
use Rattle.message_m.specs.LayoutM as m·
use Rattle.message.specs.Meaning as w·

m_book : Config
m_book = record { dialect = M M1; depth = 100; name = ascii "BTC-VND" }

linked_book : Config
linked_book = record { dialect = M M2; depth = 100; name = ascii "BTC-VND" }

k_book : Config
k_book = record { dialect = K; depth = 10; name = ascii "XBT/USD" }

-- the number of a refusal, and 0 of a message that says something
number_of : Result Message Answer → ℕ
number_of (Err a) = answer_number a
number_of (Ok m) = 0

-- settings, a message, and the number
pub data Case : Type 0 where
  answers : Config → String → ℕ → Case

Holds : Case → Type 0
Holds (answers t s n) = number_of (decode t (ascii s)) ≡ n

Each : List Case → Type 0
Each [] = Unit
Each (c ∷ cs) = Holds c × Each cs

table : List Case
table =
    -- the session of 01
    answers m_book "{\"channel\":\"book\",\"product\":\"BTC-VND\",\"type\":\"snapshot\",\"data\":{\"bids\":[[\"9\",\"2\"]],\"asks\":[[\"10\",\"1\"]]},\"checksum\":1226559413,\"gsn\":7}" 0 ∷
    answers m_book "{\"channel\":\"trades\"}" 5 ∷
    answers m_book "{\"channel\":\"book\"" 3 ∷
    answers m_book "{\"channel\":\"book\",\"product\":\"BTC-VND\",\"type\":\"update\",\"data\":{\"bids\":[[\"9\",\"0\"]],\"asks\":[]},\"checksum\":5,\"gsn\":8}" 0 ∷
    -- check 3
    answers m_book "" 3 ∷
    answers m_book "   " 3 ∷
    -- 16 and 17 nested arrays
    answers k_book "[[[[[[[[[[[[[[[[1]]]]]]]]]]]]]]]]" 5 ∷
    answers k_book "[[[[[[[[[[[[[[[[[1]]]]]]]]]]]]]]]]]" 3 ∷
    -- names by what they mean
    answers k_book "[0,{\"as\":[[\"1.5\",\"2\",\"3\"]],\"bs\":[]},\"book-10\",\"XBT\\/USD\"]" 0 ∷
    answers k_book "[0,{\"\\u0061s\":[],\"bs\":[]},\"\\u0062ook-10\",\"XBT\\u002fUSD\"]" 0 ∷
    answers k_book "[0,{\"as\":[],\"\\u0061s\":[],\"bs\":[]},\"book-10\",\"XBT/USD\"]" 6 ∷
    answers k_book "[1,2,\"\\n\",\"trade\"]" 5 ∷
    answers m_book "{\"a\\n\":1}" 5 ∷
    answers m_book "{\"channel\":\"bo\\u006Fk\",\"product\":\"BTC-VND\",\"type\":\"upd\\u0061te\",\"data\":{\"bids\":[],\"asks\":[]},\"checksum\":5,\"gsn\":8}" 0 ∷
    -- check 5
    answers k_book "7" 5 ∷
    answers k_book "[1,2,3]" 5 ∷
    answers k_book "[1,2,3,4,5,6]" 5 ∷
    answers k_book "{}" 5 ∷
    answers m_book "[]" 5 ∷
    answers k_book "[0,{\"as\":[[\"1.5\",\"2\",\"3\"]],\"bs\":[]},\"book-25\",\"XBT/USD\"]" 5 ∷
    answers k_book "[0,{\"as\":[[\"1.5\",\"2\",\"3\"]],\"bs\":[]},\"book-10\",\"XBT/EUR\"]" 5 ∷
    answers m_book "{\"channel\":\"book\",\"product\":\"BTC\",\"type\":\"update\",\"data\":{\"bids\":[[\"9\",\"0\"]],\"asks\":[]},\"checksum\":5,\"gsn\":8}" 5 ∷
    -- check 6, K
    answers k_book "[0,{\"as\":[[\"1.5\",\"2\",\"3\"]],\"bs\":[]},\"book-10\",\"XBT/USD\"]" 0 ∷
    answers k_book "[\"0\",{\"as\":[[\"1.5\",\"2\",\"3\"]],\"bs\":[]},\"book-10\",\"XBT/USD\"]" 6 ∷
    answers k_book "[-0,{\"as\":[[\"1.5\",\"2\",\"3\"]],\"bs\":[]},\"book-10\",\"XBT/USD\"]" 6 ∷
    answers k_book "[0,7,\"book-10\",\"XBT/USD\"]" 6 ∷
    answers k_book "[0,{},\"book-10\",\"XBT/USD\"]" 6 ∷
    answers k_book "[0,{\"as\":[]},\"book-10\",\"XBT/USD\"]" 6 ∷
    answers k_book "[0,{\"as\":[],\"bs\":[],\"c\":\"1\"},\"book-10\",\"XBT/USD\"]" 6 ∷
    answers k_book "[0,{\"as\":[],\"bs\":[],\"as\":[]},\"book-10\",\"XBT/USD\"]" 6 ∷
    answers k_book "[0,{\"as\":[]},{\"bs\":[]},\"book-10\",\"XBT/USD\"]" 6 ∷
    answers k_book "[0,{\"a\":[],\"c\":\"1\"},\"book-10\",\"XBT/USD\"]" 0 ∷
    answers k_book "[0,{\"a\":[]},{\"b\":[],\"c\":\"1\"},\"book-10\",\"XBT/USD\"]" 0 ∷
    answers k_book "[0,{\"a\":[],\"c\":\"1\"},{\"b\":[]},\"book-10\",\"XBT/USD\"]" 6 ∷
    answers k_book "[0,{\"a\":[]},{\"c\":\"1\"},\"book-10\",\"XBT/USD\"]" 6 ∷
    answers k_book "[0,{\"a\":[]},{\"a\":[],\"c\":\"1\"},\"book-10\",\"XBT/USD\"]" 6 ∷
    answers k_book "[0,{\"a\":[],\"c\":1},\"book-10\",\"XBT/USD\"]" 6 ∷
    answers k_book "[0,{\"a\":[],\"c\":\"01\"},\"book-10\",\"XBT/USD\"]" 6 ∷
    answers k_book "[0,{\"a\":[],\"c\":\"4294967296\"},\"book-10\",\"XBT/USD\"]" 6 ∷
    answers k_book "[0,{\"a\":[],\"c\":\"4294967295\",\"x\":[1]},\"book-10\",\"XBT/USD\"]" 0 ∷
    answers k_book "[0,{\"a\":[[\"1\",\"2\"]],\"c\":\"1\"},\"book-10\",\"XBT/USD\"]" 6 ∷
    answers k_book "[0,{\"a\":[[\"1\",\"2\",\"3\",\"r\",{}]],\"c\":\"1\"},\"book-10\",\"XBT/USD\"]" 0 ∷
    answers k_book "[0,{\"a\":[[\"1\",2,\"3\"]],\"c\":\"1\"},\"book-10\",\"XBT/USD\"]" 6 ∷
    answers k_book "[0,{\"a\":{},\"c\":\"1\"},\"book-10\",\"XBT/USD\"]" 6 ∷
    -- check 6, M
    answers m_book "{\"channel\":\"book\",\"product\":\"BTC-VND\",\"type\":\"heartbeat\",\"data\":{\"bids\":[[\"9\",\"0\"]],\"asks\":[]},\"checksum\":5,\"gsn\":8}" 6 ∷
    answers m_book "{\"channel\":\"book\",\"product\":\"BTC-VND\",\"type\":\"update\",\"data\":{\"bids\":[[\"9\",\"0\"]],\"asks\":[]},\"checksum\":5,\"gsn\":8.0}" 6 ∷
    answers m_book "{\"channel\":\"book\",\"product\":\"BTC-VND\",\"type\":\"update\",\"data\":{\"bids\":[[\"9\",\"0\"]],\"asks\":[]},\"checksum\":5,\"gsn\":\"8\"}" 6 ∷
    answers m_book "{\"channel\":\"book\",\"product\":\"BTC-VND\",\"type\":\"update\",\"data\":{\"bids\":[[\"9\",\"0\"]],\"asks\":[]},\"checksum\":4294967296,\"gsn\":8}" 6 ∷
    answers m_book "{\"channel\":\"book\",\"product\":\"BTC-VND\",\"type\":\"update\",\"data\":{\"bids\":[]},\"checksum\":5,\"gsn\":8}" 6 ∷
    answers m_book "{\"channel\":\"book\",\"product\":\"BTC-VND\",\"type\":\"update\",\"data\":{\"bids\":[],\"asks\":[[\"1\",\"2\",\"3\"]]},\"checksum\":5,\"gsn\":8}" 6 ∷
    answers m_book "{\"channel\":\"book\",\"product\":\"BTC-VND\",\"type\":\"update\",\"data\":{\"bids\":[[\"9\",\"0\"]],\"asks\":[]},\"checksum\":5}" 6 ∷
    answers m_book "{\"channel\":\"book\",\"product\":\"BTC-VND\",\"type\":\"update\",\"data\":{\"bids\":[[\"9\",\"0\"]],\"asks\":[]},\"checksum\":5,\"gsn\":8,\"gsn\":9}" 6 ∷
    answers m_book "{\"channel\":\"book\",\"product\":\"BTC-VND\",\"type\":\"update\",\"data\":{\"bids\":[[\"9\",\"0\"]],\"asks\":[]},\"checksum\":5,\"gsn\":8,\"channel\":\"x\"}" 6 ∷
    answers m_book "{\"channel\":\"book\",\"product\":\"BTC-VND\",\"type\":\"update\",\"data\":{\"bids\":[],\"asks\":[],\"gsn\":1},\"checksum\":5,\"gsn\":8}" 0 ∷
    -- the sequence number before an update's own
    answers linked_book "{\"channel\":\"book\",\"product\":\"BTC-VND\",\"type\":\"update\",\"data\":{\"bids\":[],\"asks\":[]},\"checksum\":5,\"gsn\":8,\"prev_gsn\":7}" 0 ∷
    answers linked_book "{\"channel\":\"book\",\"product\":\"BTC-VND\",\"type\":\"update\",\"data\":{\"bids\":[],\"asks\":[]},\"checksum\":5,\"gsn\":8}" 6 ∷
    answers linked_book "{\"channel\":\"book\",\"product\":\"BTC-VND\",\"type\":\"update\",\"data\":{\"bids\":[],\"asks\":[]},\"checksum\":5,\"gsn\":8,\"prev_gsn\":7,\"prev_gsn\":7}" 6 ∷
    answers linked_book "{\"channel\":\"book\",\"product\":\"BTC-VND\",\"type\":\"update\",\"data\":{\"bids\":[],\"asks\":[],\"prev_gsn\":7},\"checksum\":5,\"gsn\":8}" 6 ∷
    answers linked_book "{\"channel\":\"book\",\"product\":\"BTC-VND\",\"type\":\"update\",\"data\":{\"bids\":[],\"asks\":[]},\"checksum\":5,\"gsn\":8,\"prev_gsn\":\"7\"}" 6 ∷
    answers linked_book "{\"channel\":\"book\",\"product\":\"BTC-VND\",\"type\":\"snapshot\",\"data\":{\"bids\":[],\"asks\":[]},\"checksum\":5,\"gsn\":8,\"prev_gsn\":\"7\"}" 0 ∷
    answers m_book "{\"channel\":\"book\",\"product\":\"BTC-VND\",\"type\":\"update\",\"data\":{\"bids\":[],\"asks\":[]},\"checksum\":5,\"gsn\":8,\"prev_gsn\":[]}" 0 ∷
    -- check 8
    answers k_book "[0,{\"a\":[[\"0.0\",\"2\",\"3\"]],\"c\":\"1\"},\"book-10\",\"XBT/USD\"]" 8 ∷
    answers k_book "[0,{\"a\":[[\"1\",\"0\",\"3\"]],\"c\":\"1\"},\"book-10\",\"XBT/USD\"]" 0 ∷
    answers k_book "[0,{\"as\":[[\"1\",\"0\",\"3\"]],\"bs\":[]},\"book-10\",\"XBT/USD\"]" 8 ∷
    answers k_book "[0,{\"a\":[[\"1.\",\"2\",\"3\"]],\"c\":\"1\"},\"book-10\",\"XBT/USD\"]" 8 ∷
    answers m_book "{\"channel\":\"book\",\"product\":\"BTC-VND\",\"type\":\"update\",\"data\":{\"bids\":[[\"1\",\"\\u0031\"]],\"asks\":[]},\"checksum\":5,\"gsn\":8}" 8 ∷
    []

examples : Each table
unfolding table Each Holds number_of answer_number m_book linked_book k_book x·.is_digit d·.leading d·.value_from d·.significant_in d·.significant d·.written d2·.is_whole d2·.fractional d2·.pointed d2·.prefix d2·.read d2·.is_zero d3·.read_whole d3·.at_most d3·.read_checksum x·.byte_at t1·.blank t1·.hex_digit t1·.escaped t2·.and_then t2·.skip_while t2·.blanks t2·.digits t2·.some_digits t2·.closing t2·.separator t2·.string_rest t2·.string t2·.minus t2·.sign t2·.int t2·.fraction t2·.exponent t2·.json_number t2·.starts_with t2·.literal t2·.scalar t2·.ended t2·.chars t2·.escape t2·.hexes j1·.next j1·.prepended j1·.onward j1·.list j1·.list_of j1·.items_end j1·.element j1·.member j1·.elements j1·.members j1·.value j1·.text j2·.part j2·.short_meaning j2·.hex_value j2·.long_meaning j2·.escape_meaning j2·.escape_length j2·.meaning j2·.inner j2·.means p·.and_then p·.all p·.top p·.is_string p·.contents p·.array_at p·.object_at p·.values_of p·.only p·.whole_at p·.checksum_at p·.quoted_checksum_at r·.entries_at k·.frame_of k·.ours_k k·.times k·.together k·.is_snapshot k·.each_has_one k·.last_of k·.is_update r·.row_k l·.member_entries l·.entries_in l·.laid k·.entries_k k·.objects_layout k·.layout_k k·.envelope_k m·.some_means m·.ours_m r·.row_m r·.entry_of m·.kind_at m·.layout_m m·.linked_to m·.layout_in m·.envelope_m r·.bad_price r·.bad_size r·.bad_texts w·.bad r·.number_at r·.numbers_at r·.sided_at p·.and_also e·.for_side e·.is_same e·.edit_of w·.sided_edit w·.decimals w·.too_many w·.counted w·.laid_out w·.addressed w·.envelope_in w·.framed w·.also_decimals w·.checked w·.message_of w·.decoded_of w·.decode l·.is_snapshot u·.summed_in u·.is_linked u·.rules_of
examples = (refl, (refl, (refl, (refl, (refl, (refl, (refl, (refl, (refl, (refl, (refl, (refl, (refl, (refl, (refl, (refl, (refl, (refl, (refl, (refl, (refl, (refl, (refl, (refl, (refl, (refl, (refl, (refl, (refl, (refl, (refl, (refl, (refl, (refl, (refl, (refl, (refl, (refl, (refl, (refl, (refl, (refl, (refl, (refl, (refl, (refl, (refl, (refl, (refl, (refl, (refl, (refl, (refl, (refl, (refl, (refl, (refl, (refl, (refl, (refl, (refl, (refl, (refl, (refl, (refl, (refl, tt))))))))))))))))))))))))))))))))))))))))))))))))))))))))))))))))))
