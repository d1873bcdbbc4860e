-- Where things lie in a message: what the arrays and objects of it hold, members by name, strings and whole numbers.
-- Assumes nothing: these are definitions.
use Rattle.std.specs.Prelude.{ℕ, zero, suc, ◌+◌, Bool, cond, List, [], ◌∷◌, ◌++◌, eqb, None, Option, Some}
use Rattle.text.specs.Text.{byte_at}
use Rattle.decimal.specs.Whole.{read_whole, read_checksum}
use Rattle.json_tokens.specs.Bytes.{quote, open_array, open_object}
use Rattle.json_tokens.specs.Tokens.{blanks}
use Rattle.json_values.specs.Json.{Span, Pair, Items, items, no_items, elements, members, value, max_depth}
use Rattle.json_values.specs.Names.{part, inner, means}

-- What was read, and then what is read of it.
unfoldable pub and_then : {A B : Type 0} → Option A → (A → Option B) → Option B
and_then (Some a) next = next a
and_then None next = None

unfoldable pub all : {A B : Type 0} → (A → Option B) → List A → Option (List B)
all f [] = Some []
all f (a ∷ l) = and_then (f a) (λ b. and_then (all f l) (λ bs. Some (b ∷ bs)))

-- The items of one reading and of another, in this order.
unfoldable pub and_also : {A : Type 0} → Option (List A) → Option (List A) → Option (List A)
and_also x y = and_then x (λ l. and_then y (λ r. Some (l ++ r)))

-- ---- values

-- The value that the text is.
unfoldable pub top : List ℕ → Span
top s = elim (value max_depth s (blanks s 0)) [ Some e ↦ record { from = blanks s 0; to = e } | None ↦ record { from = 0; to = 0 } ]

unfoldable pub is_string : List ℕ → Span → Bool
is_string s a = eqb (byte_at s a.from) quote

unfoldable pub contents : {A : Type 0} → Items A → Option (List A)
contents (items l e) = Some l
contents no_items = None

-- The elements of the array, and the members of the object, that a value is; depth is how deep arrays and objects may nest from it on.
unfoldable pub array_at : ℕ → List ℕ → Span → Option (List Span)
array_at zero s a = None
array_at (suc depth) s a = cond (eqb (byte_at s a.from) open_array) (contents (elements (value depth s) s (a.from + 1))) None

unfoldable pub object_at : ℕ → List ℕ → Span → Option (List Pair)
object_at zero s a = None
object_at (suc depth) s a = cond (eqb (byte_at s a.from) open_object) (contents (members (value depth s) s (a.from + 1))) None

-- The values of the members that have a name.
unfoldable pub values_of : List ℕ → List ℕ → List Pair → List Span
values_of s name [] = []
values_of s name (m ∷ ms) = cond (means s m.name name) (m.value ∷ values_of s name ms) (values_of s name ms)

-- The one value of a list.
unfoldable pub only : List Span → Option Span
only [] = None
only (a ∷ []) = Some a
only (a ∷ (b ∷ l)) = None

-- ---- whole numbers: a JSON number written as one, and a string holding one

unfoldable pub whole_at : List ℕ → Span → Option ℕ
whole_at s a = read_whole (part s a)

unfoldable pub checksum_at : List ℕ → Span → Option ℕ
checksum_at s a = read_checksum (part s a)

unfoldable pub quoted_checksum_at : List ℕ → Span → Option ℕ
quoted_checksum_at s a = cond (is_string s a) (read_checksum (inner s a)) None
