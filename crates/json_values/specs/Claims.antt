-- The laws of the definitions, as statements; `proofs/Claims` and `proofs/Names` prove each under its own name.
use Rattle.std.specs.Prelude.{ℕ, ◌≤◌, ◌<◌, ◌≡◌, List, [], ◌∷◌, Bool, true, false, ◌||◌, length, eqb, Some}
use Rattle.text.specs.Text.{colon}
use Rattle.json_tokens.specs.Tokens.{blanks, separator, string}
use Rattle.json_values.specs.Json.{Span, Pair, items, elements, members, value, max_depth, text}
use Rattle.json_tokens.specs.Bytes.{backslash}
use Rattle.json_values.specs.Names.{meaning, means}

-- A value is not empty and ends within the text.
abbrev pub EndsWithin : Type 0
EndsWithin = (d : ℕ) (s : List ℕ) (i e : ℕ) → value d s i ≡ Some e → (i < e) × (e ≤ length s)

-- the items lie one after another from lo on, and the list ends past them, at hi. `is a from to`: the item a lies there
pub data InOrder {A : Type 0} (is : A → ℕ → ℕ → Type 0) (hi : ℕ) : ℕ → List A → Type 0 where
  end : (lo : ℕ) → lo < hi → InOrder is hi lo []
  then : (lo from to : ℕ) (a : A) (l : List A) → lo ≤ from → from < to → is a from to → InOrder is hi to l → InOrder is hi lo (a ∷ l)

-- an element is a value
pub record IsElement (d : ℕ) (s : List ℕ) (a : Span) (from to : ℕ) : Type 0 where
  pub begins : a.from ≡ from
  pub finishes : a.to ≡ to
  pub a_value : value d s a.from ≡ Some a.to

-- a member is a string, a colon and a value
pub record IsMember (d : ℕ) (s : List ℕ) (m : Pair) (from to : ℕ) : Type 0 where
  pub begins : m.name.from ≡ from
  pub finishes : m.value.to ≡ to
  pub a_string : string s m.name.from ≡ Some m.name.to
  pub a_colon : separator colon s m.name.to ≡ Some m.value.from
  pub a_value : value d s m.value.from ≡ Some m.value.to

-- The elements of an array are values, in written order, and lie inside the array, which lies inside the text.
abbrev pub ElementsInOrder : Type 0
ElementsInOrder = (d : ℕ) (s : List ℕ) (i : ℕ) (l : List Span) (e : ℕ) → elements (value d s) s i ≡ items l e
    → InOrder (IsElement d s) e i l × (e ≤ length s)

-- The same of the members of an object.
abbrev pub MembersInOrder : Type 0
MembersInOrder = (d : ℕ) (s : List ℕ) (i : ℕ) (l : List Pair) (e : ℕ) → members (value d s) s i ≡ items l e
    → InOrder (IsMember d s) e i l × (e ≤ length s)

-- one reading of a text: its value ends at e, and only blanks follow
pub record Reading (s : List ℕ) (e : ℕ) : Type 0 where
  pub a_value : value max_depth s (blanks s 0) ≡ Some e
  pub then_blanks : blanks s e ≡ length s

-- A text is JSON exactly when it has a reading, and then it has only one.
abbrev pub OneReading : Type 0
OneReading = (s : List ℕ)
    → (text s ≡ true → (e : ℕ) × Reading s e)
    × ((e : ℕ) → Reading s e → text s ≡ true)
    × ((e f : ℕ) → Reading s e → Reading s f → e ≡ f)

-- A string means one name at most.
abbrev pub OneName : Type 0
OneName = (s : List ℕ) (a : Span) (m n : List ℕ) → means s a m ≡ true → means s a n ≡ true → m ≡ n

-- c is one of the bytes
unfoldable pub holds : ℕ → List ℕ → Bool
holds c [] = false
holds c (d ∷ t) = eqb d c || holds c t

-- A text without a backslash means its bytes.
abbrev pub PlainText : Type 0
PlainText = (t : List ℕ) → holds backslash t ≡ false → meaning 0 t ≡ t
