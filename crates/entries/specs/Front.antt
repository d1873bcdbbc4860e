-- What the readers of an entry find on the way: the two strings at its front, and the end of its array from a later element on.
-- Assumes nothing: these are definitions.
use Rattle.std.specs.Prelude.{ℕ, suc, ◌+◌, ◌≤◌, ◌≡◌, true, false, List, length, None, Option, Some}
use Rattle.text.specs.Text.{byte_at}
use Rattle.json_tokens.specs.Bytes.{open_array, comma, close_array}
use Rattle.json_tokens.specs.Tokens.{blanks, separator, string}
use Rattle.json_tokens.specs.Ends.{end_of}
use Rattle.json_values.specs.Json.{list, items_end, element, value}
use Rattle.entries.specs.Rows.{entry_of}
use Rattle.entries.specs.Found.{entry_place_of, row_from, entry_place_at}
use Rattle.entries.specs.declared.Form.{Form}
use Rattle.entries.specs.declared.EntryPlace.{EntryPlace}

-- An array begins at `at` with two strings, the second of which ends at f's end.
pub record Two (s : List ℕ) (at : ℕ) (f : EntryPlace) : Type 0 where
  pub opens : byte_at s at ≡ open_array
  pub begins : f.price_from ≡ blanks s (at + 1)
  pub price : string s f.price_from ≡ Some f.price_to
  pub comma : separator comma s f.price_to ≡ Some f.size_from
  pub size : string s f.size_from ≡ Some f.size_to
  pub ends : f.end ≡ f.size_to

-- f tells whether two strings are there; without them the value is an entry of neither form.
pub record Front (s : List ℕ) (at : ℕ) (f : EntryPlace) : Type 0 where
  pub two : f.well_formed ≡ true → Two s at f
  pub neither : f.well_formed ≡ false → (form : Form) (depth to : ℕ) → entry_of form depth s (record { from = at; to = to }) ≡ None

-- The array whose element ends at `at` ends at r, in however many steps, if they are enough; its elements have this depth.
abbrev pub RestEnd : ℕ → List ℕ → ℕ → Option ℕ → Type 0
RestEnd depth s at r = (n : ℕ) → length s ≤ n + at → items_end (list (element (value depth s)) close_array s (suc n) false at) ≡ r

-- An entry whose two strings end at `at` ends where r says; without an r what follows is no entry's.
pub record EntryEnd (form : Form) (depth : ℕ) (s : List ℕ) (at : ℕ) (r : Option ℕ) : Type 0 where
  pub some : (e : ℕ) → r ≡ Some e → (from : ℕ) (f : EntryPlace) → Two s from f → f.end ≡ at → entry_place_at form depth s from ≡ entry_place_of e (Some (row_from from f))
  pub none : r ≡ None → (from : ℕ) (f : EntryPlace) → Two s from f → f.end ≡ at → (to : ℕ) → entry_of form depth s (record { from = from; to = to }) ≡ None

-- The entry at `at` whose front is f, if it ends; without an end it is none.
pub record EndedAt (depth : ℕ) (s : List ℕ) (at : ℕ) (f : EntryPlace) (end : Option ℕ) (r : EntryPlace) : Type 0 where
  pub some : (e : ℕ) → end ≡ Some e → r ≡ entry_place_of e (Some (row_from at f))
  pub none : end ≡ None → r ≡ entry_place_of (end_of (value depth s at)) None
