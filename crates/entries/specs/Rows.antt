-- The entries of a message, as document 01 has them under "Messages": where each lies, with the texts of its price and its size, for which side it is,
-- and which of these texts break a decimal rule. Assumes nothing: these are definitions.
use Rattle.std.specs.Prelude.{ℕ, zero, suc, Bool, true, ◌&&◌, ◌||◌, cond, List, [], ◌∷◌, ◌++◌, map, None, Option, Some}
use Rattle.decimal.specs.Decimal.{Number, read, is_zero}
use Rattle.edit.specs.Edit.{Numbers}
use Rattle.edit.specs.declared.Side.{Side}
use Rattle.json_values.specs.Json.{Span}
use Rattle.entries.specs.Places.{and_then, all, is_string, array_at}
use Rattle.json_values.specs.Names.{inner}
use Rattle.entries.specs.declared.Form.{Form}
use Rattle.entries.specs.declared.Form.TheVariants.{Triple, Pair}

-- Where an entry lies, and the texts of its price and its size, quotes included.
pub record Row : Type 0 where
  pub whole : Span
  pub price : Span
  pub size : Span

-- ---- an entry is an array of one of two forms

-- K: three or more elements, the first three strings: price, size, timestamp. The rest is passed over.
unfoldable pub row_k : List ℕ → Span → List Span → Option Row
row_k s a [] = None
row_k s a (p ∷ []) = None
row_k s a (p ∷ (z ∷ [])) = None
row_k s a (p ∷ (z ∷ (t ∷ l))) = cond (is_string s p && (is_string s z && is_string s t)) (Some (record { whole = a; price = p; size = z })) None

-- M: exactly two strings.
unfoldable pub row_m : List ℕ → Span → List Span → Option Row
row_m s a [] = None
row_m s a (p ∷ []) = None
row_m s a (p ∷ (z ∷ [])) = cond (is_string s p && is_string s z) (Some (record { whole = a; price = p; size = z })) None
row_m s a (p ∷ (z ∷ (x ∷ l))) = None

abbrev pub row_of : Form → List ℕ → Span → List Span → Option Row
row_of Triple = row_k
row_of Pair = row_m

-- The entry that a value is, and the rows of the array of entries that it is, perhaps none; depth is how deep arrays and objects may nest in it.
unfoldable pub entry_of : Form → ℕ → List ℕ → Span → Option Row
entry_of form depth s a = and_then (array_at depth s a) (row_of form s a)

unfoldable pub entries_at : Form → ℕ → List ℕ → Span → Option (List Row)
entries_at form zero s a = None
entries_at form (suc depth) s a = and_then (array_at (suc depth) s a) (all (entry_of form depth s))

-- ---- an entry of a message: for one side

pub record Entry : Type 0 where
  pub side : Side
  pub row : Row

abbrev pub sided : Side → Row → Entry
sided side r = record { side = side; row = r }

-- The entries of the array that a value is, for one side.
unfoldable pub sided_at : Side → Form → ℕ → List ℕ → Span → Option (List Entry)
sided_at side form depth s a = and_then (entries_at form depth s a) (λ rows. Some (map (sided side) rows))

-- ---- check 8: a decimal rule broken, price zero, or size zero in a snapshot

-- By what is read of a price, of a size.
abbrev pub is_bad_price : Option Number → Bool
is_bad_price x = elim x [ Some n ↦ is_zero n | None ↦ true ]

abbrev pub is_bad_size : Bool → Option Number → Bool
is_bad_size snapshot x = elim x [ Some n ↦ snapshot && is_zero n | None ↦ true ]

unfoldable pub bad_price : List ℕ → Span → Bool
bad_price s a = is_bad_price (read (inner s a))

unfoldable pub bad_size : Bool → List ℕ → Span → Bool
bad_size snapshot s a = is_bad_size snapshot (read (inner s a))

unfoldable pub is_bad : Bool → List ℕ → Row → Bool
is_bad snapshot s r = bad_price s r.price || bad_size snapshot s r.size

-- The texts of entries that break it, in written order.
unfoldable pub bad_texts : Bool → List ℕ → List Entry → List Span
bad_texts snapshot s [] = []
bad_texts snapshot s (e ∷ l) =
    cond (bad_price s e.row.price) (e.row.price ∷ []) [] ++ (cond (bad_size snapshot s e.row.size) (e.row.size ∷ []) [] ++ bad_texts snapshot s l)

-- The first of such texts, or the empty part at the start.
unfoldable pub first_of : List Span → Span
first_of [] = record { from = 0; to = 0 }
first_of (a ∷ l) = a

-- ---- the numbers of an entry. A text that is no decimal gives 0; check 8 has refused it before.

abbrev pub number_in : Option Number → Number
number_in x = elim x [ Some n ↦ n | None ↦ record { digits = 0; decimals = 0 } ]

unfoldable pub number_at : List ℕ → Span → Number
number_at s a = number_in (read (inner s a))

unfoldable pub numbers_at : List ℕ → Entry → Numbers
numbers_at s e = record { side = e.side; price = number_at s e.row.price; size = number_at s e.row.size }
