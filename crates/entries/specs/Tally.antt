-- What is met of the entries of a message, entry by entry: how many there are for each side, the first that check 8 refuses, and the buffer that has their
-- numbers. `base` is where the text begins in its message. Assumes nothing: these are definitions.
use Rattle.std.specs.Prelude.{ℕ, ◌+◌, ◌-◌, ◌≤◌, ◌≡◌, Bool, true, false, ◌&&◌, cond, List, ◌++◌, map, eqb, length, take, None, Option, Some}
use Rattle.edit.specs.Buffer.{max_buffered, buffer_words, entries_in, Put}
use Rattle.edit.specs.declared.Side.{Side}
use Rattle.edit.specs.declared.Side.TheVariants.{Bids, Asks}
use Rattle.json_values.specs.Json.{Span, value}
use Rattle.json_values.specs.Fold.{fold_from}
use Rattle.entries.specs.Places.{array_at}
use Rattle.entries.specs.Rows.{Row, Entry, sided, entry_of, sided_at, is_bad, number_at, numbers_at}
use Rattle.entries.specs.Found.{price_span, size_span, row_from}
use Rattle.entries.specs.declared.Form.{Form}
use Rattle.entries.specs.declared.EntryPlace.{EntryPlace}
use Rattle.entries.specs.declared.Tally.{Tally}
use Rattle.entries.specs.declared.Entries.{Entries}

-- No entry was met yet.
abbrev pub none_yet : Tally
none_yet = record { bids = 0; asks = 0; broken_at = 0; strict_at = 0; well_formed = true }

-- Something was met that is no entry.
abbrev pub not_entries : Tally
not_entries = record { bids = 0; asks = 0; broken_at = 0; strict_at = 0; well_formed = false }

abbrev pub told_not : ℕ → Entries
told_not end = record { end = end; tally = not_entries }

-- What was met in an array that ends there, or not JSON.
unfoldable pub closed : Option ℕ → Entries → Entries
closed (Some end) met = record { end = end; tally = met.tally }
closed None met = told_not 0

-- ---- one entry more

unfoldable pub earliest : ℕ → Bool → ℕ → ℕ
earliest known is_one at = cond (eqb known 0 && is_one) at known

abbrev pub one_bid : Side → ℕ
one_bid Bids = 1
one_bid Asks = 0

abbrev pub one_ask : Side → ℕ
one_ask Bids = 0
one_ask Asks = 1

unfoldable pub with_entry : Tally → Side → ℕ → Bool → Bool → Tally
with_entry t side at broken strict =
    record {
      bids = t.bids + one_bid side;
      asks = t.asks + one_ask side;
      broken_at = earliest t.broken_at broken at;
      strict_at = earliest t.strict_at strict at;
      well_formed = t.well_formed;
    }

unfoldable pub one_more : ℕ → List ℕ → Tally → Entry → Tally
one_more base s t e = with_entry t e.side (base + e.row.whole.from) (is_bad false s e.row) (is_bad true s e.row)

-- ---- entries of a message

abbrev pub tally_of : List ℕ → List Entry → Tally
tally_of s es = fold_from (one_more 0 s) none_yet es

-- t tells what was read of the entries so far.
pub record Tells (s : List ℕ) (x : Option (List Entry)) (t : Tally) : Type 0 where
  pub all : (es : List Entry) → x ≡ Some es → t ≡ tally_of s es
  pub none : x ≡ None → t.well_formed ≡ false

-- The buffer has the numbers of those that were read, up to its end.
pub record Kept (s : List ℕ) (x : Option (List Entry)) (buffer : List ℕ) : Type 0 where
  pub room : length buffer ≡ buffer_words
  pub front : (es : List Entry) → x ≡ Some es → take (length es) (entries_in buffer) ≡ take max_buffered (map (numbers_at s) es)

-- ---- an array of entries

-- The value that a span is, as one more entry.
unfoldable pub or_not : ℕ → List ℕ → Side → Tally → Option Row → Tally
or_not base s side t (Some r) = one_more base s t (sided side r)
or_not base s side t None = not_entries

abbrev pub one_span : ℕ → List ℕ → ℕ → Form → Side → Tally → Span → Tally
one_span base s depth form side t a = or_not base s side t (entry_of form depth s a)

unfoldable pub spans_tally : ℕ → List ℕ → ℕ → Form → Side → Tally → Option (List Span) → Tally
spans_tally base s depth form side t (Some l) = fold_from (one_span base s depth form side) t l
spans_tally base s depth form side t None = not_entries

-- What is told of the value at a position as an array of entries, whose elements have one depth less; t was told before.
unfoldable pub array_tally : ℕ → List ℕ → ℕ → Form → Side → Tally → Span → Tally
array_tally base s depth form side t a = spans_tally base s (depth - 1) form side t (array_at depth s a)

unfoldable pub told_at : ℕ → List ℕ → ℕ → Form → Side → Tally → ℕ → Entries
told_at base s depth form side t at =
    elim (value depth s at) [ Some e ↦ record { end = e; tally = array_tally base s depth form side t (record { from = at; to = e }) } | None ↦ told_not 0 ]

-- ---- what the readers promise

-- How many entries were met.
abbrev pub met : Tally → ℕ
met t = t.bids + t.asks

-- The entry f at a position of the message was met: it is counted and put into the buffer, or what was met are no entries.
pub record Counted (s : List ℕ) (side : Side) (t : Tally) (at : ℕ) (f : EntryPlace) (before after : List ℕ) (r : Entries) : Type 0 where
  pub end : r.end ≡ f.end
  pub entry : f.well_formed ≡ true → r.tally ≡ with_entry t side at (is_bad false s (row_from at f)) (is_bad true s (row_from at f))
  pub other : f.well_formed ≡ false → r.tally ≡ not_entries
  pub room : length after ≡ buffer_words
  pub put : f.well_formed ≡ true → Put before (met t) (record { side = side; price = number_at s (price_span f); size = number_at s (size_span f) }) after

-- The array of entries at a position was met.
pub record Met (base : ℕ) (s : List ℕ) (depth : ℕ) (form : Form) (side : Side) (t : Tally) (at : ℕ) (before after : List ℕ) (r : Entries) : Type 0 where
  pub told : r ≡ told_at base s depth form side t at
  -- each entry takes a byte
  pub few : (r.end ≡ 0 → ⊥) → met r.tally ≤ base + r.end
  pub room : length after ≡ buffer_words
  -- behind those that were met before it has the numbers of the entries, up to its end
  pub kept : (e : ℕ) → value depth s at ≡ Some e → (es : List Entry) → sided_at side form depth s (record { from = at; to = e }) ≡ Some es
      → take (met t + length es) (entries_in after) ≡ take max_buffered (take (met t) (entries_in before) ++ map (numbers_at s) es)
