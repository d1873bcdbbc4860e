-- A side with the entries of a message applied, which lie in a buffer as numbers. Assumes nothing: these are definitions.
use Rattle.std.specs.Prelude.{ℕ, Bool, List, map, ◌≡◌, length}
use Rattle.decimal.specs.Limits.{Within}
use Rattle.settings.specs.declared.SumText.{SumText}
use Rattle.edit.specs.Edit.{PriceLevel, shown_price, Edit, Numbers, edit_of, for_side, side_of}
use Rattle.level.specs.Words.{level_size, shown, words_past}
use Rattle.level.specs.Side.{apply_all}
use Rattle.level.specs.Ranked.{All, after_message, replaced}
use Rattle.level.specs.Moved.{moved}
use Rattle.level.specs.Kept.{kept_in, held, Good}
use Rattle.edit.specs.declared.Side.{Side}
use Rattle.level.specs.declared.Levels.{Levels}
use Rattle.side.specs.declared.Applied.{Applied}
use Rattle.checksum.specs.Carried.{piece_of, Carries}

-- What holds of a side that a book keeps; its levels carry the sums of pieces of that checksum text.
pub record Sound (text : SumText) (side : Side) (kept : Levels) : Type 0 where
  pub good : Good side kept
  pub carried : All (Carries (piece_of text)) (held kept)
  pub sized : All (λ level. Within (level_size level)) (held kept)

-- What entries do to one side: those for it, in their order.
unfoldable pub edits_for : Side → List Numbers → List (Edit PriceLevel)
edits_for side es = map edit_of (for_side side_of side es)

-- A side after entries: its levels, how many stood before the cut, how many the entries moved, and whether some entry set a level at a price where one
-- stood by then.
pub record SideAfter : Type 0 where
  pub levels : Levels
  pub count : ℕ
  pub moved : ℕ
  pub replaced : Bool

-- What `apply_entries` leaves in the words, and answers.
abbrev pub side_after : List ℕ → Applied → SideAfter
side_after words r = record { levels = kept_in words r.left; count = r.count; moved = r.moved; replaced = r.replaced }

pub record Worked (text : SumText) (side : Side) (depth : ℕ) (edits : List (Edit PriceLevel)) (kept : Levels) (r : SideAfter) : Type 0 where
  pub sound : Sound text side r.levels
  pub levels : map shown (held r.levels) ≡ after_message shown_price side depth edits (map shown (held kept))
  pub count : r.count ≡ length (apply_all shown_price edits (map shown (held kept)))
  pub moved : r.moved ≡ moved shown_price side edits (map shown (held kept))
  pub replaced : r.replaced ≡ replaced shown_price edits (map shown (held kept))
  -- no word past the levels that are left is touched
  pub past : words_past r.levels.count r.levels.words ≡ words_past r.levels.count kept.words
