-- The settings of a book, as document 01 has them under "What is kept". Assumes nothing: these are definitions.
use Rattle.std.specs.Prelude.{ℕ, Bool, true, false, ◌&&◌, not, cond, List, [], ◌∷◌, leb, eqb, length}
use Rattle.settings.specs.declared.Dialect.{Dialect}
use Rattle.settings.specs.declared.Dialect.TheVariants.{K, M, Unknown}

pub record Config : Type 0 where
  pub dialect : Dialect
  pub depth : ℕ
  pub name : List ℕ

-- Depth is 10 to 100 for K, 100 exactly for M.
unfoldable pub good_depth : Dialect → ℕ → Bool
good_depth K depth = leb 10 depth && leb depth 100
good_depth (M e) depth = eqb depth 100
good_depth Unknown depth = false

-- The name has 1 to 16 bytes, each 33 to 126, no quote and no backslash.
unfoldable pub name_byte : ℕ → Bool
name_byte c = leb 33 c && (leb c 126 && (not (eqb c 34) && not (eqb c 92)))

unfoldable pub name_bytes : List ℕ → Bool
name_bytes [] = true
name_bytes (c ∷ s) = name_byte c && name_bytes s

unfoldable pub good_name : List ℕ → Bool
good_name name = leb 1 (length name) && (leb (length name) 16 && name_bytes name)

-- Other settings give a shut book.
unfoldable pub good : Config → Bool
good t = good_depth t.dialect t.depth && good_name t.name

-- What a book keeps of its settings: the settings themselves where they are good, and none where they are not.
abbrev pub shut : Config
shut = record { dialect = Unknown; depth = 0; name = [] }

unfoldable pub kept : Config → Config
kept t = cond (good t) t shut
