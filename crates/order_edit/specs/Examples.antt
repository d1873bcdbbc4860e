-- Worked examples of the definitions. Assumes nothing.
use Rattle.std.specs.Prelude.{◌+◌, ◌*◌, ◌^◌, ◌≡◌, refl, true, false, [], ◌∷◌}
use Rattle.text.specs.Text.{ascii}
use Rattle.text.specs.Words.{word, word_at}
use Rattle.decimal.specs.Decimal.{number_of, far_of, past_of, decimals_of}
use Rattle.settings.specs.Settings.{name_byte, name_bytes}
use Rattle.edit.specs.declared.Side.TheVariants.{Asks}
use Rattle.edit.specs.Buffer.{side_in}
use Rattle.order_edit.specs.declared.Event.TheVariants.{Modify}
use Rattle.order_edit.specs.Ids.{is_id, same_id, id_of, bytes_of, id_bytes}
use Rattle.order_edit.specs.Buffer.{by_sixes, event_in, entry_of, entries_in}

-- 004's first order: 19 bytes in three words, and back
words_and_back : id_bytes (id_of (ascii "OTCFZG-YOE2Q-LQKNM3")) ≡ ascii "OTCFZG-YOE2Q-LQKNM3"
unfolding id_of word_at word id_bytes bytes_of
words_and_back = refl

-- an id of 20 bytes, and of 21; one of none; one with a blank, one with a quote
longest : is_id (ascii "abcdefghijklmnopqrst") ≡ true
unfolding is_id name_bytes name_byte
longest = refl

too_long : is_id (ascii "abcdefghijklmnopqrstu") ≡ false
unfolding is_id
too_long = refl

no_id : is_id [] ≡ false
unfolding is_id
no_id = refl

blank_id : is_id (ascii "a b") ≡ false
unfolding is_id name_bytes name_byte
blank_id = refl

quote_id : is_id (97 ∷ 34 ∷ []) ≡ false
unfolding is_id name_bytes name_byte
quote_id = refl

-- ids are compared byte by byte, and a shorter one is another
shorter : same_id (ascii "ab") (ascii "abc") ≡ false
unfolding same_id
shorter = refl

-- a modified ask of id "a" at 1.5 with size 20
modified_ask : entries_in (15 ∷ 20 ∷ (1 + 2 ^ 32 * 3) ∷ 97 ∷ 0 ∷ 0 ∷ [])
    ≡ record { side = Asks; event = Modify; id = id_of (ascii "a"); price = record { digits = 15; decimals = 1 }; size = record { digits = 20; decimals = 0 } } ∷ []
unfolding entries_in by_sixes entry_of event_in side_in number_of far_of past_of decimals_of id_of word_at word
modified_ask = refl
