-- Worked examples of the definitions, from document 01. Assumes nothing.
use Rattle.std.specs.Prelude.{◌≡◌, refl, [], ◌∷◌, ℕ}
use Rattle.text.specs.Text.{ascii}
use Rattle.decimal.specs.Digits.{fixed, significant_in, significant, written}
use Rattle.decimal.specs.Decimal.{Number, text, after_point}
use Rattle.writer.specs.Snapshot.{quoted, comma_joined, array, k_entry, k_snapshot, m_entry, m_snapshot}

unfoldable decimal : ℕ → ℕ → Number
decimal digits decimals = record { digits = digits; decimals = decimals }

-- the K line under "Questions and the writer"
k_line : k_snapshot 10 (ascii "XBT/USD") [] (record { price = decimal 5005 5; size = decimal 500 8 } ∷ [])
    ≡ ascii "[0,{\"as\":[[\"0.05005\",\"0.00000500\",\"0.000000\"]],\"bs\":[]},\"book-10\",\"XBT/USD\"]"
unfolding decimal k_snapshot k_entry array comma_joined quoted text after_point fixed written significant significant_in
k_line = refl

-- the M line under "The line program"
m_line : m_snapshot (ascii "BTC-VND") (record { price = decimal 9 0; size = decimal 2 0 } ∷ []) (record { price = decimal 10 0; size = decimal 1 0 } ∷ []) 1226559413 7
    ≡ ascii "{\"channel\":\"book\",\"product\":\"BTC-VND\",\"type\":\"snapshot\",\"data\":{\"bids\":[[\"9\",\"2\"]],\"asks\":[[\"10\",\"1\"]]},\"checksum\":1226559413,\"gsn\":7}"
unfolding decimal m_snapshot m_entry array comma_joined quoted text after_point fixed written significant significant_in
m_line = refl

-- entries are parted by commas
two_bids : array (m_entry (record { price = decimal 9 0; size = decimal 2 0 }) ∷ (m_entry (record { price = decimal 8 0; size = decimal 3 0 }) ∷ [])) ≡ ascii "[[\"9\",\"2\"],[\"8\",\"3\"]]"
unfolding decimal m_entry array comma_joined quoted text after_point fixed written significant significant_in
two_bids = refl
