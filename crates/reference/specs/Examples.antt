-- Worked examples: messages to a new book, with the answers and, after each, the counts of the book as it stands. Assumes nothing.
use Rattle.std.specs.Prelude.{ℕ, ◌≡◌, refl, List, [], ◌∷◌, map}
use Prim.Native.String.{String}
use Rattle.text.specs.Text.{ascii}
use Rattle.settings.specs.declared.Dialect.TheVariants.{K, M}
use Rattle.settings.specs.declared.Edition.TheVariants.{M1}
use Rattle.settings.specs.Settings.{Config}
use Rattle.level.specs.Ranked.{All}
use Rattle.answer.specs.Answers.{answer_number}
use Rattle.reference.specs.Reference.{Value, counts, amount, Reply, message, question, how_many, Call, opened, replies_to, final, snapshot_text}
use Rattle.reference.specs.declared.Scope.TheVariants.{Current}
use Rattle.text.specs.Text as x·
use Rattle.decimal.specs.Digits as d·
use Rattle.decimal.specs.Decimal as d2·
use Rattle.decimal.specs.Whole as d3·
use Rattle.json_tokens.specs.Bytes as t1·
use Rattle.json_tokens.specs.Tokens as t2·
use Rattle.json_values.specs.Json as j1·
use Rattle.json_values.specs.Names as j2·
use Rattle.edit.specs.Edit as e·
use Rattle.entries.specs.Places as p·
use Rattle.entries.specs.Rows as r·
use Rattle.layout.specs.Layout as l·
use Rattle.message_k.specs.LayoutK as k·
use Rattle.message_m.specs.LayoutM as m·
use Rattle.message.specs.Meaning as w·
use Rattle.settings.specs.Settings as s·
use Rattle.settings.specs.Rules as u·
use Rattle.level.specs.Side as side·
use Rattle.level.specs.Moved as v·
use Rattle.crc32_spec.specs.Crc as crc·
use Rattle.checksum.specs.Text as c·
use Rattle.writer.specs.Snapshot as n·
use Rattle.answer.specs.Answers as a·
use Rattle.reference.specs.Reference as b·

m_book : Config
m_book = record { dialect = M M1; depth = 100; name = ascii "BTC-VND" }

k_book : Config
k_book = record { dialect = K; depth = 10; name = ascii "XBT/USD" }

-- each message, then the question how many bids and asks there are
calls : List String → List Call
calls [] = []
calls (s ∷ ss) = record { ask = message (ascii s); buffer = [] } ∷ record { ask = question (how_many Current); buffer = [] } ∷ calls ss

shown : Reply → ℕ × Value
shown r = (answer_number r.answer, r.value)

pub data Case : Type 0 where
  -- a new book's answers
  answers : Config → List String → List (ℕ × Value) → Case
  -- a snapshot that a new book takes and writes out again
  writes : Config → String → Case

Holds : Case → Type 0
Holds (answers t ss rs) = map shown (replies_to (opened t) (calls ss)) ≡ rs
Holds (writes t s) = snapshot_text (final (opened t) (calls (s ∷ []))) ≡ ascii s

table : List Case
table =
    -- the session of 01
    answers m_book
    ("{\"channel\":\"book\",\"product\":\"BTC-VND\",\"type\":\"snapshot\",\"data\":{\"bids\":[[\"9\",\"2\"]],\"asks\":[[\"10\",\"1\"]]},\"checksum\":1226559413,\"gsn\":7}"
    ∷ "{\"channel\":\"trades\"}"
    ∷ "{\"channel\":\"book\""
    ∷ "{\"channel\":\"book\",\"product\":\"BTC-VND\",\"type\":\"update\",\"data\":{\"bids\":[],\"asks\":[]},\"checksum\":1226559413,\"gsn\":8}"
    ∷ [])
    ((0, amount 0) ∷ (0, counts 1 1) ∷ (5, amount 0) ∷ (0, counts 1 1) ∷ (3, amount 0) ∷ (10, counts 0 0) ∷ (10, amount 0) ∷ (10, counts 0 0) ∷ [])
    -- a snapshot, an update, a wrong checksum, the snapshot again
    ∷ answers k_book
    ("[0,{\"as\":[[\"0.05005\",\"0.00000500\",\"0.000000\"]],\"bs\":[]},\"book-10\",\"XBT/USD\"]"
    ∷ "[0,{\"b\":[[\"0.05000\",\"0.00000304\",\"1\"]],\"c\":\"3866222920\"},\"book-10\",\"XBT/USD\"]"
    ∷ "[0,{\"b\":[[\"0.05000\",\"0.00000000\",\"2\"]],\"c\":\"1\"},\"book-10\",\"XBT/USD\"]"
    ∷ "[0,{\"as\":[[\"0.05005\",\"0.00000500\",\"0.000000\"]],\"bs\":[]},\"book-10\",\"XBT/USD\"]"
    ∷ [])
    ((0, amount 0) ∷ (0, counts 0 1) ∷ (0, amount 0) ∷ (0, counts 1 1) ∷ (13, amount 0) ∷ (10, counts 0 0) ∷ (0, amount 0) ∷ (0, counts 0 1) ∷ [])
    -- a crossed K snapshot, whose best prices are equal and written differently, and one that is not crossed
    ∷ answers k_book
    ("[0,{\"as\":[[\"0.50\",\"1\",\"0\"]],\"bs\":[[\"0.5\",\"1\",\"0\"]]},\"book-10\",\"XBT/USD\"]"
    ∷ "[0,{\"as\":[[\"0.50\",\"1\",\"0\"]],\"bs\":[[\"0.49\",\"1\",\"0\"]]},\"book-10\",\"XBT/USD\"]"
    ∷ [])
    ((16, amount 0) ∷ (10, counts 0 0) ∷ (0, amount 0) ∷ (0, counts 1 1) ∷ [])
    -- an update after which the book is crossed, with its right checksum, and a crossed snapshot with a wrong one
    ∷ answers m_book
    ("{\"channel\":\"book\",\"product\":\"BTC-VND\",\"type\":\"snapshot\",\"data\":{\"bids\":[[\"9\",\"2\"]],\"asks\":[[\"10\",\"1\"]]},\"checksum\":1226559413,\"gsn\":7}"
    ∷ "{\"channel\":\"book\",\"product\":\"BTC-VND\",\"type\":\"update\",\"data\":{\"bids\":[[\"10\",\"2\"]],\"asks\":[]},\"checksum\":1570260370,\"gsn\":8}"
    ∷ "{\"channel\":\"book\",\"product\":\"BTC-VND\",\"type\":\"snapshot\",\"data\":{\"bids\":[[\"11\",\"2\"]],\"asks\":[[\"10\",\"1\"]]},\"checksum\":1,\"gsn\":9}"
    ∷ [])
    ((0, amount 0) ∷ (0, counts 1 1) ∷ (16, amount 0) ∷ (10, counts 0 0) ∷ (16, amount 0) ∷ (10, counts 0 0) ∷ [])
    -- levels moved: bids written worst first move 0 + 1 + 2; an insert at place 1 of 3 moves 2, a replacement and an absent price none, a removal at place 2 of 4 one
    ∷ answers k_book
    ("[0,{\"as\":[],\"bs\":[[\"1\",\"1\",\"0\"],[\"2\",\"1\",\"0\"],[\"4\",\"1\",\"0\"]]},\"book-10\",\"XBT/USD\"]"
    ∷ "[0,{\"b\":[[\"3\",\"1\",\"0\"],[\"4\",\"2\",\"0\"],[\"5\",\"0\",\"0\"],[\"2\",\"0\",\"0\"]],\"c\":\"2776420510\"},\"book-10\",\"XBT/USD\"]"
    ∷ [])
    ((0, amount 3) ∷ (0, counts 3 0) ∷ (0, amount 3) ∷ (0, counts 3 0) ∷ [])
    -- 01's two samples of what the writer writes
    ∷ writes m_book "{\"channel\":\"book\",\"product\":\"BTC-VND\",\"type\":\"snapshot\",\"data\":{\"bids\":[[\"9\",\"2\"]],\"asks\":[[\"10\",\"1\"]]},\"checksum\":1226559413,\"gsn\":7}"
    ∷ writes k_book "[0,{\"as\":[[\"0.05005\",\"0.00000500\",\"0.000000\"]],\"bs\":[]},\"book-10\",\"XBT/USD\"]"
    ∷ []

examples : All Holds table
unfolding table Holds All calls shown m_book k_book answer_number replies_to final opened x·.is_digit d·.leading d·.value_from d·.fixed d·.significant_in d·.significant d·.written d2·.is_whole d2·.fractional d2·.pointed d2·.prefix d2·.read d2·.is_zero d2·.text d2·.after_point d2·.value d3·.read_whole d3·.at_most d3·.read_checksum x·.byte_at t1·.blank t1·.hex_digit t1·.escaped t2·.and_then t2·.skip_while t2·.blanks t2·.digits t2·.some_digits t2·.closing t2·.separator t2·.string_rest t2·.string t2·.minus t2·.sign t2·.int t2·.fraction t2·.exponent t2·.json_number t2·.starts_with t2·.literal t2·.scalar t2·.ended t2·.chars t2·.escape t2·.hexes j1·.next j1·.prepended j1·.onward j1·.list j1·.list_of j1·.items_end j1·.element j1·.member j1·.elements j1·.members j1·.value j1·.text j2·.part j2·.short_meaning j2·.hex_value j2·.long_meaning j2·.escape_meaning j2·.escape_length j2·.meaning j2·.inner j2·.means p·.and_then p·.all p·.top p·.is_string p·.contents p·.array_at p·.object_at p·.values_of p·.only p·.whole_at p·.checksum_at p·.quoted_checksum_at r·.entries_at k·.frame_of k·.ours_k k·.times k·.together k·.is_snapshot k·.each_has_one k·.last_of k·.is_update r·.row_k k·.entries_k k·.objects_layout k·.layout_k k·.envelope_k l·.member_entries l·.entries_in l·.laid l·.is_snapshot m·.some_means m·.ours_m r·.row_m r·.entry_of m·.kind_at m·.layout_m m·.layout_in m·.envelope_m r·.bad_price r·.bad_size r·.bad_texts w·.bad r·.number_at r·.numbers_at r·.sided_at p·.and_also e·.for_side e·.is_same e·.edit_of w·.sided_edit w·.decimals w·.too_many w·.counted w·.laid_out w·.addressed w·.envelope_in w·.framed w·.also_decimals w·.checked w·.message_of w·.decoded_of w·.decode s·.good_depth s·.name_byte s·.name_bytes s·.good_name s·.good s·.kept side·.names side·.names_twice side·.without side·.apply side·.apply_all side·.place side·.ranked side·.crosses crc·.bit crc·.bits crc·.step crc·.run crc·.crc c·.interleaved c·.colon_joined c·.m_level c·.m_checksum_text x·.joined c·.k_level c·.k_checksum_text d2·.without_point d2·.without_zeros d2·.stripped b·.is_shut b·.is_live b·.edits_for b·.after_edits e·.named b·.sides_after b·.levels_moved v·.place_of v·.moves v·.moved side·.standing u·.summed_in u·.is_linked u·.rules_of b·.checksum_text b·.checksum_of b·.names_price_twice b·.lacks_snapshot b·.is_old b·.has_too_many b·.has_crossed b·.differs b·.has_wrong_checksum b·.verdict b·.one_more b·.taken a·.leaves_status a·.one_of b·.with_status b·.refused_by a·.is_taken b·.answered b·.received b·.receive b·.stands b·.side_of b·.respond b·.refusal b·.zeros b·.replied b·.does b·.text_in b·.snapshot_text n·.quoted n·.comma_joined n·.array n·.k_entry n·.k_snapshot n·.m_entry n·.m_snapshot
examples = (refl, (refl, (refl, (refl, (refl, (refl, (refl, tt)))))))
