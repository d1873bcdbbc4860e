-- Parts of a snapshot's text, and a part laid into a buffer that has room for it. Assumes nothing: these are definitions.
use Rattle.std.specs.Prelude.{ℕ, ◌+◌, ◌*◌, ◌≤◌, ◌≡◌, Bool, cond, List, ◌++◌, map, length}
use Rattle.text.specs.Text.{ascii}
use Rattle.decimal.specs.Decimal.{max_whole, max_decimals}
use Rattle.decimal.specs.Limits.{Within}
use Rattle.decimal.specs.Buffer.{overlaid}
use Rattle.level.specs.declared.Level.{Level}
use Rattle.level.specs.declared.Levels.{Levels}
use Rattle.level.specs.Words.{level_price, level_size, shown}
use Rattle.level.specs.Ranked.{All}
use Rattle.level.specs.Kept.{max_levels, max_words, held}
use Rattle.writer.specs.Snapshot.{comma_joined, k_entry, m_entry, k_snapshot, m_snapshot}

-- ---- the parts

-- A level as an entry; `stamped` says that a timestamp follows, as in K.
unfoldable pub entry : Bool → Level → List ℕ
entry stamped level = cond stamped (k_entry (shown level)) (m_entry (shown level))

-- The same, with the comma that parts it from the one before it.
unfoldable pub next_entry : Bool → Level → List ℕ
next_entry stamped level = ascii "," ++ entry stamped level

-- The entries of a side, best first.
unfoldable pub entries : Bool → Levels → List ℕ
entries stamped kept = comma_joined (map (entry stamped) (held kept))

-- The text of a book.
unfoldable pub k_snapshot_text : ℕ → List ℕ → Levels → Levels → List ℕ
k_snapshot_text depth name bids asks = k_snapshot depth name (map shown (held bids)) (map shown (held asks))

unfoldable pub m_snapshot_text : List ℕ → Levels → Levels → ℕ → ℕ → List ℕ
m_snapshot_text name bids asks checksum number = m_snapshot name (map shown (held bids)) (map shown (held asks)) checksum number

-- ---- what a text needs, and how long it is at the most

pub record Writable (level : Level) : Type 0 where
  pub price : Within (level_price level)
  pub size : Within (level_size level)

pub record WritableSide (kept : Levels) : Type 0 where
  pub few : kept.count ≤ max_levels
  pub room : length kept.words ≡ max_words
  pub levels : All Writable (held kept)

-- The sizes of a side's levels keep the limits of decimals; of its prices `Good` says so.
abbrev pub Sized : Levels → Type 0
Sized kept = All (λ level. Within (level_size level)) (held kept)

abbrev pub max_name : ℕ
max_name = 16

abbrev pub max_entry : ℕ
max_entry = 2 * (max_whole + 1 + max_decimals) + 18

abbrev pub max_side : ℕ
max_side = (max_entry + 1) * max_levels

-- ---- a text laid where there is room for it

abbrev pub Room : List ℕ → ℕ → List ℕ → Type 0
Room buffer at text = at + length text ≤ length buffer

-- The buffer with the text at a position, and the position past it.
pub record Put (before : List ℕ) (at : ℕ) (text : List ℕ) (after : List ℕ) (past : ℕ) : Type 0 where
  pub bytes : after ≡ overlaid before at text
  pub end : past ≡ at + length text
