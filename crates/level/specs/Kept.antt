-- The side that the code keeps. Assumes nothing: these are definitions.
use Rattle.std.specs.Prelude.{ℕ, zero, suc, ◌+◌, ◌*◌, ◌≤◌, ◌≡◌, List, [], ◌∷◌, length, take, set, replicate, None, Option, Some}
use Rattle.decimal.specs.Limits.{Within}
use Rattle.edit.specs.declared.Side.{Side}
use Rattle.edit.specs.declared.Side.TheVariants.{Bids, Asks}
use Rattle.level.specs.declared.Level.{Level}
use Rattle.level.specs.declared.Levels.{Levels}
use Rattle.level.specs.Ranked.{All, Sorted}
use Rattle.level.specs.Words.{level_words, level_price, levels_in, words_past}

-- How many levels a side keeps, at the most.
abbrev pub max_levels : ℕ
max_levels = 100

-- How many words a side is kept in.
abbrev pub max_words : ℕ
max_words = level_words * max_levels

-- The levels of a side that is kept, best first.
unfoldable pub held : Levels → List Level
held kept = take kept.count (levels_in kept.words)

-- The side in words that are lent, of n levels.
abbrev pub kept_in : List ℕ → ℕ → Levels
kept_in words n = record { words = words; count = n }

-- The level at a place, counted from 0 as best.
unfoldable pub level_at : ℕ → List Level → Option Level
level_at i [] = None
level_at zero (level ∷ s) = Some level
level_at (suc i) (level ∷ s) = level_at i s

-- What holds of every side that is kept.
pub record Good (side : Side) (kept : Levels) : Type 0 where
  pub few : kept.count ≤ max_levels
  pub room : length kept.words ≡ max_words
  pub sorted : Sorted level_price side (held kept)
  pub within : All (λ level. Within (level_price level)) (held kept)

-- The side with no level, in words that are all 0.
unfoldable pub no_levels : Levels
no_levels = record { words = replicate max_words 0; count = 0 }

-- That side: good as bids and as asks.
pub record Empty (kept : Levels) : Type 0 where
  pub is : kept ≡ no_levels
  pub none : held kept ≡ []
  pub bids : Good Bids kept
  pub asks : Good Asks kept

-- A level put at a place of the words, and none past it touched.
pub record PutAt (words : List ℕ) (i : ℕ) (level : Level) (after : List ℕ) : Type 0 where
  pub room : length after ≡ max_words
  pub levels : levels_in after ≡ set (levels_in words) i level
  pub past : words_past (i + 1) after ≡ words_past (i + 1) words
