-- What applying a message's entries to a side gives. Assumes nothing: these are definitions.
use Rattle.std.specs.Prelude.{ℕ, ◌≤◌, ◌≡◌, List, map, length, take}
use Rattle.decimal.specs.Limits.{Within}
use Rattle.edit.specs.Edit.{Edit, Numbers, for_side, side_of}
use Rattle.edit.specs.Buffer.{max_buffered, buffer_words, entries_in}
use Rattle.edit.specs.declared.Side.{Side}
use Rattle.settings.specs.declared.SumText.{SumText}
use Rattle.level.specs.Side.{apply_all}
use Rattle.level.specs.Ranked.{All, after_message, replaced}
use Rattle.level.specs.Moved.{moved}
use Rattle.level.specs.Words.{level_price, level_size, words_past, change_of}
use Rattle.level.specs.Kept.{held, kept_in, Good}
use Rattle.level.specs.declared.Level.{Level}
use Rattle.level.specs.declared.Levels.{Levels}
use Rattle.checksum.specs.Carried.{level_for}
use Rattle.side.specs.declared.Applied.{Applied}

-- How many entries a message has for one side, at the most.
abbrev pub max_entries : ℕ
max_entries = 100

-- What keeps the limits of decimals.
abbrev pub EntryWithin : Numbers → Type 0
EntryWithin e = Within e.price × Within e.size

abbrev pub LevelWithin : Level → Type 0
LevelWithin level = Within (level_price level) × Within (level_size level)

-- What the first `count` entries of a buffer must be, for one side.
pub record Given (side : Side) (buffer : List ℕ) (count : ℕ) : Type 0 where
  pub room : length buffer ≡ buffer_words
  pub few : count ≤ max_buffered
  pub within : All EntryWithin (take count (entries_in buffer))
  pub own : length (for_side side_of side (take count (entries_in buffer))) ≤ max_entries

-- A level with the sum of its piece of checksum text.
abbrev pub with_sum : SumText → Level → Level
with_sum text level = level_for text (level_price level) (level_size level)

-- What entries do to one side: those for it, in their order. A level that is set carries the sum of its piece.
unfoldable pub changes_for : SumText → Side → List Numbers → List (Edit Level)
changes_for text side es = map (change_of (level_for text)) (for_side side_of side es)

-- A side with a message's entries applied: the levels that are left in the words are the definition's, the count is that before the cut, `moved` is
-- how many levels the entries moved, and `replaced` says whether some entry set a level at a price where one stood by then. No word past the levels that are left is touched.
pub record AfterEntries (side : Side) (depth : ℕ) (entries : List (Edit Level)) (kept : Levels) (words : List ℕ) (applied : Applied) : Type 0 where
  pub good : Good side (kept_in words applied.left)
  pub levels : held (kept_in words applied.left) ≡ after_message level_price side depth entries (held kept)
  pub count : applied.count ≡ length (apply_all level_price entries (held kept))
  pub moved : applied.moved ≡ moved level_price side entries (held kept)
  pub replaced : applied.replaced ≡ replaced level_price entries (held kept)
  pub past : words_past applied.left words ≡ words_past applied.left kept.words
