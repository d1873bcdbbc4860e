-- The id of an order, as request c has it, and the three words that the code keeps it in. Assumes nothing: these are definitions.
use Rattle.std.specs.Prelude.{ℕ, zero, suc, ◌/◌, ◌%◌, ◌≡◌, Bool, true, false, ◌&&◌, cond, List, [], ◌∷◌, ◌++◌, eqb, leb, length}
use Rattle.text.specs.Words.{word_at}
use Rattle.settings.specs.Settings.{name_bytes}
use Rattle.order_edit.specs.declared.Id.{Id}

-- "An id has 1 to 20 bytes, each as in a product name".
abbrev pub max_id : ℕ
max_id = 20

unfoldable pub is_id : List ℕ → Bool
is_id id = leb 1 (length id) && (leb (length id) max_id && name_bytes id)

-- Whether two ids are the same.
unfoldable pub same_id : List ℕ → List ℕ → Bool
same_id [] [] = true
same_id [] (y ∷ t) = false
same_id (x ∷ s) [] = false
same_id (x ∷ s) (y ∷ t) = eqb x y && same_id s t

-- ---- its words: eight bytes a word, low byte first, zeros after the last

unfoldable pub id_of : List ℕ → Id
id_of id = record { first = word_at id 0; second = word_at id 8; third = word_at id 16 }

-- The bytes of a word up to its first zero, of which there are `most` at the most.
unfoldable pub bytes_of : ℕ → ℕ → List ℕ
bytes_of zero w = []
bytes_of (suc most) w = cond (eqb (w % 256) 0) [] (w % 256 ∷ bytes_of most (w / 256))

unfoldable pub id_bytes : Id → List ℕ
id_bytes x = bytes_of 8 x.first ++ (bytes_of 8 x.second ++ bytes_of 8 x.third)

unfoldable pub id_words : Id → List ℕ
id_words x = x.first ∷ x.second ∷ x.third ∷ []

-- Words that have the bytes of an id and zeros after them, as those of every id that was read from a text.
unfoldable pub Packed : Id → Type 0
Packed x = id_of (id_bytes x) ≡ x
