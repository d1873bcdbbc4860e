-- What is told of one entry, in numbers. Assumes nothing: these are definitions.
use Rattle.std.specs.Prelude.{ℕ, ◌+◌, ◌-◌, ◌≤◌, ◌≡◌, true, false, List, length, None, Option, Some}
use Rattle.json_values.specs.Json.{Span, value, max_depth}
use Rattle.entries.specs.Rows.{Row, entry_of}
use Rattle.entries.specs.declared.Form.{Form}
use Rattle.entries.specs.declared.EntryPlace.{EntryPlace}

-- How deep arrays and objects may nest in an entry of dialect K or M: three levels of nesting are used up outside.
abbrev pub entry_depth : ℕ
entry_depth = max_depth - 3

-- The value ends at `end`, and is the entry that was read of it, or none.
unfoldable pub entry_place_of : ℕ → Option Row → EntryPlace
entry_place_of end (Some r) = record { end = end; well_formed = true; price_from = r.price.from; price_to = r.price.to; size_from = r.size.from; size_to = r.size.to }
entry_place_of end None = record { end = end; well_formed = false; price_from = 0; price_to = 0; size_from = 0; size_to = 0 }

-- The texts of the price and the size that were found.
abbrev pub price_span : EntryPlace → Span
price_span f = record { from = f.price_from; to = f.price_to }

abbrev pub size_span : EntryPlace → Span
size_span f = record { from = f.size_from; to = f.size_to }

-- The entry that was found at a position.
abbrev pub row_from : ℕ → EntryPlace → Row
row_from at f = record { whole = record { from = at; to = f.end }; price = price_span f; size = size_span f }

-- The value at a position as an entry.
unfoldable pub entry_place_at : Form → ℕ → List ℕ → ℕ → EntryPlace
entry_place_at form depth s at = elim (value depth s at) [ Some e ↦ entry_place_of e (entry_of form depth s (record { from = at; to = e })) | None ↦ entry_place_of 0 None ]

-- A part of the text that is long enough for two quotes.
abbrev pub Quoted : List ℕ → ℕ → ℕ → Type 0
Quoted s from to = (from + 2 ≤ to) × (to ≤ length s)

abbrev pub Placed : List ℕ → EntryPlace → Type 0
Placed s f = Quoted s f.price_from f.price_to × Quoted s f.size_from f.size_to

-- The places of an entry, if it is one.
abbrev pub Laid : List ℕ → EntryPlace → Type 0
Laid s f = f.well_formed ≡ true → Placed s f
