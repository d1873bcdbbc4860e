-- What the program keeps true of its book. Assumes nothing: these are definitions.
use Rattle.std.specs.Prelude.{ℕ, ◌≤◌, List, ◌≡◌, length, take}
use Rattle.edit.specs.Buffer.{buffer_words, entries_in}
use Rattle.edit.specs.declared.Side.{Side}
use Rattle.edit.specs.declared.Side.TheVariants.{Bids, Asks}
use Rattle.settings.specs.declared.SumText.{SumText}
use Rattle.level.specs.Ranked.{All}
use Rattle.level.specs.Kept.{Good, held}
use Rattle.level.specs.declared.Levels.{Levels}
use Rattle.checksum.specs.Carried.{piece_of, Carries}
use Rattle.side.specs.Applying.{EntryWithin}
use Rattle.checksum_vectors.specs.declared.Book.{Book}

pub record ValidSide (text : SumText) (side : Side) (levels : Levels) : Type 0 where
  pub good : Good side levels
  pub carried : All (Carries (piece_of text)) (held levels)

pub record Valid (b : Book) : Type 0 where
  pub shallow : b.depth ≤ 100
  pub bids : ValidSide b.text Bids b.bids
  pub asks : ValidSide b.text Asks b.asks

-- n entries at the front of a buffer.
pub record Filled (buffer : List ℕ) (n : ℕ) : Type 0 where
  pub room : length buffer ≡ buffer_words
  pub few : n ≤ 100
  pub within : All EntryWithin (take n (entries_in buffer))
