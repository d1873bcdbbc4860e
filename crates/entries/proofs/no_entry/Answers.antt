-- `entries::no_entry` meets its contract: it is the definition.
-- Assumes nothing.
use mathlib.Core.Path.{refl}
use Rattle.entries.specs.Found.{entry_place_of}
use Rattle.entries.proofs.no_entry.Goals as goal

pub returns : goal.returns
unfolding entry_place_of
returns c = refl
