-- A side while a message's entries are applied to it: the first `count` levels of an array. Assumes nothing: these are definitions.
use Rattle.std.specs.Prelude.{ℕ, ◌≤◌, ◌≡◌, List, length, take}
use Rattle.decimal.specs.Limits.{Within}
use Rattle.edit.specs.Edit.{Edit}
use Rattle.edit.specs.declared.Side.{Side}
use Rattle.level.specs.Side.{apply, ranked}
use Rattle.level.specs.Ranked.{All, Sorted, replaces}
use Rattle.level.specs.Moved.{moves}
use Rattle.level.specs.Words.{level_price, levels_in, words_past}
use Rattle.level.specs.Kept.{max_words}
use Rattle.level.specs.declared.Level.{Level}
use Rattle.side.specs.declared.Step.{Step}

-- How many levels the array holds.
abbrev pub max_working : ℕ
max_working = 200

-- The levels are in order, and their prices can be compared.
pub record Working (side : Side) (levels : List Level) (count : ℕ) : Type 0 where
  pub room : length levels ≡ max_working
  pub few : count ≤ max_working
  pub sorted : Sorted level_price side (take count levels)
  pub within : All (λ level. Within (level_price level)) (take count levels)

-- What a change to the levels of a side leaves: the definition's levels in order, how many they are, how many levels moved, and whether one was replaced.
pub record AfterChange (side : Side) (change : Edit Level) (before array : List Level) (step : Step) : Type 0 where
  pub room : length array ≡ max_working
  pub levels : take step.count array ≡ ranked level_price side (apply level_price change before)
  pub count : step.count ≡ length (apply level_price change before)
  pub moved : step.moved ≡ moves level_price side change before
  pub replaced : step.replaced ≡ replaces level_price change before

-- Levels stored at the front of words, and no word past them touched.
pub record Stored (words : List ℕ) (front : List Level) (left : ℕ) (after : List ℕ) : Type 0 where
  pub room : length after ≡ max_words
  pub levels : take left (levels_in after) ≡ front
  pub past : words_past left after ≡ words_past left words
