-- Line 1, as document 01 has it under "The line program": dialect, depth (written as a whole number) and name, one blank between.
-- Assumes nothing: these are definitions.
use Rattle.std.specs.Prelude.{ℕ, suc, ◌≤◌, ◌≡◌, cond, List, [], ◌∷◌, eqb, ltb, length, take, drop, None, Option, Some}
use Rattle.lines.specs.Lines.{bytes_before}
use Rattle.decimal.specs.Whole.{read_whole}
use Rattle.settings.specs.Settings.{Config, shut}
use Rattle.settings.specs.declared.Dialect.{Dialect}
use Rattle.settings.specs.declared.Dialect.TheVariants.{K, M, Unknown}
use Rattle.settings.specs.declared.Edition.TheVariants.{M1, M2}
use Rattle.line_text.specs.declared.FirstLine.{FirstLine}

abbrev pub space : ℕ
space = 32

-- The words of the dialects, by their bytes: `K`, `M`, `M1` and `M2`. Plain `M` means `M1`.
unfoldable pub by_letter : ℕ → Dialect
by_letter c = cond (eqb c 75) K (cond (eqb c 77) (M M1) Unknown)

unfoldable pub by_edition : ℕ → Dialect
by_edition d = cond (eqb d 49) (M M1) (cond (eqb d 50) (M M2) Unknown)

unfoldable pub dialect_of : List ℕ → Dialect
dialect_of [] = Unknown
dialect_of (c ∷ []) = by_letter c
dialect_of (c ∷ (d ∷ [])) = cond (eqb c 77) (by_edition d) Unknown
dialect_of (c ∷ (d ∷ (e ∷ w))) = Unknown

unfoldable pub with_depth : Dialect → Option ℕ → List ℕ → Config
with_depth dialect (Some depth) name = record { dialect = dialect; depth = depth; name = name }
with_depth dialect None name = shut

-- What follows the dialect and a blank: the depth, a blank, and the name, which goes on to the line's end.
unfoldable pub depth_and_name : Dialect → List ℕ → Config
depth_and_name dialect s = cond (ltb (bytes_before space s) (length s)) (with_depth dialect (read_whole (take (bytes_before space s) s)) (drop (suc (bytes_before space s)) s)) shut

-- The dialect is a word up to the first blank. A line that is not laid out like this has the settings of a shut book.
unfoldable pub line_one : List ℕ → Config
line_one s = cond (ltb (bytes_before space s) (length s)) (depth_and_name (dialect_of (take (bytes_before space s) s)) (drop (suc (bytes_before space s)) s)) shut

-- The settings that the code finds on a line.
unfoldable pub config_on : List ℕ → FirstLine → Config
config_on line r = record { dialect = r.dialect; depth = r.depth; name = drop r.name line }

pub record Found (line : List ℕ) (terms : Config) (r : FirstLine) : Type 0 where
  pub same : config_on line r ≡ terms
  pub within : r.name ≤ length line
