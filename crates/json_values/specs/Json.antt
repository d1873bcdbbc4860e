-- JSON, RFC 8259, over its tokens: where a value ends, what elements an array has and what members an object has, and which texts are JSON.
-- The RFC's own productions stand above each definition.
-- Assumes nothing: these are definitions.
use Rattle.std.specs.Prelude.{ℕ, zero, suc, ◌+◌, List, [], ◌∷◌, Bool, true, false, length, eqb, None, Option, Some}
use Rattle.text.specs.Text.{byte_at, colon}
use Rattle.json_tokens.specs.Bytes.{comma, open_array, close_array, open_object, close_object}
use Rattle.json_tokens.specs.Tokens.{blanks, closing, separator, string, scalar, ended}

-- a part of the text: its first position, and the position past it
pub record Span : Type 0 where
  pub from : ℕ
  pub to : ℕ

-- a member of an object: its name, with the quotes, and its value
pub record Pair : Type 0 where
  pub name : Span
  pub value : Span

-- ---- a list of items between brackets: the elements of an array, the members of an object
-- what is found at a place of such a list: an item and the position past it, or the end of the list, or neither
pub data Next (A : Type 0) : Type 0 where
  item : A → ℕ → Next A
  ends : ℕ → Next A
  wrong : Next A

-- what the list holds in written order, and the position past its closing bracket
pub data Items (A : Type 0) : Type 0 where
  items : List A → ℕ → Items A
  no_items : Items A

-- What is found at i, where `one` says which item begins at a position. At first, past the opening bracket, that is the closing bracket or an
-- item; later, past an item, it is a comma and an item, or the closing bracket.
unfoldable pub next : {A : Type 0} → (ℕ → Next A) → ℕ → List ℕ → Bool → ℕ → Next A
next one close s true i = elim (closing close s i) [ Some e ↦ ends e | None ↦ one (blanks s i) ]
next one close s false i = elim (separator comma s i) [ Some j ↦ one j | None ↦ elim (closing close s i) [ Some e ↦ ends e | None ↦ wrong ] ]

unfoldable pub prepended : {A : Type 0} → A → Items A → Items A
prepended a (items l e) = items (a ∷ l) e
prepended a no_items = no_items

-- what was found, and then what the rest of the list holds
unfoldable pub onward : {A : Type 0} → (ℕ → Items A) → Next A → Items A
onward rest (item a e) = prepended a (rest e)
onward rest (ends e) = items [] e
onward rest wrong = no_items

-- the list from i on, in at most n steps
unfoldable pub list : {A : Type 0} → (ℕ → Next A) → ℕ → List ℕ → ℕ → Bool → ℕ → Items A
list one close s zero first i = no_items
list one close s (suc n) first i = onward (λ e. list one close s n false e) (next one close s first i)

-- an item takes a byte at least, so there are no more steps than the text has bytes, and one to find the end
unfoldable pub list_of : {A : Type 0} → (ℕ → Next A) → ℕ → List ℕ → ℕ → Items A
list_of one close s i = list one close s (suc (length s)) true i

unfoldable pub items_end : {A : Type 0} → Items A → Option ℕ
items_end (items l e) = Some e
items_end no_items = None

-- ---- arrays and objects; `value` says where the value at a position ends
unfoldable pub element : (ℕ → Option ℕ) → ℕ → Next Span
element value i = elim (value i) [ Some e ↦ item (record { from = i; to = e }) e | None ↦ wrong ]

-- member = string name-separator value
unfoldable pub member : (ℕ → Option ℕ) → List ℕ → ℕ → Next Pair
member value s i =
    elim (string s i) [
      | Some k ↦ elim (separator colon s k) [
        | Some v ↦ elim (value v) [
          | Some e ↦ item (record { name = record { from = i; to = k }; value = record { from = v; to = e } }) e
          | None ↦ wrong
        ]
        | None ↦ wrong
      ]
      | None ↦ wrong
    ]

-- array = begin-array [ value *( value-separator value ) ] end-array, from past the bracket
unfoldable pub elements : (ℕ → Option ℕ) → List ℕ → ℕ → Items Span
elements value s i = list_of (element value) close_array s i

-- object = begin-object [ member *( value-separator member ) ] end-object, from past the brace
unfoldable pub members : (ℕ → Option ℕ) → List ℕ → ℕ → Items Pair
members value s i = list_of (member value s) close_object s i

-- ---- value = false / null / true / object / array / number / string; d is how deep arrays and objects may still nest
unfoldable pub value : ℕ → List ℕ → ℕ → Option ℕ
value zero s i = scalar s i
value (suc d) s i =
    elim (eqb (byte_at s i) open_array) [
      | true ↦ items_end (elements (value d s) s (i + 1))
      | false ↦ elim (eqb (byte_at s i) open_object) [ true ↦ items_end (members (value d s) s (i + 1)) | false ↦ scalar s i ]
    ]

-- arrays and objects nest at most this deep, the outermost counting as one
abbrev pub max_depth : ℕ
max_depth = 16

-- JSON-text = ws value ws, and nothing more
unfoldable pub text : List ℕ → Bool
text s = elim (value max_depth s (blanks s 0)) [ Some e ↦ ended s e | None ↦ false ]
