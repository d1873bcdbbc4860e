use mathlib.Core.Path.{◌≡◌}
use lib.ListN.{length, take}
use Rattle.level.specs.Words.{levels_in, words_past}
use Rattle.level.specs.Kept.{max_words}
use Rattle.side.proofs.store.Given as goal

abbrev pub invariant-loop-i : goal.invariant-loop-i
invariant-loop-i l = (length l.words ≡ max_words) × (take l.i (levels_in l.words) ≡ take l.i l.levels) × (words_past l.i l.words ≡ words_past l.i l.initial.words)
