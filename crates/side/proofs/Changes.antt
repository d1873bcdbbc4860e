-- What the entries for a side set: levels that show the entries' numbers and carry the sums of their pieces. Assumes nothing.
use mathlib.Core.Path.{◌≡◌, refl, sym, subst}
use mathlib.Core.List.{List, [], ◌∷◌, map}
use Rattle.decimal.specs.Limits.{Within}
use Rattle.settings.specs.declared.SumText.{SumText}
use Rattle.edit.specs.Edit.{Numbers, edit_of, is_same, for_side, side_of}
use Rattle.edit.specs.declared.Side.{Side}
use Rattle.level.specs.Words.{level_size, shown, change_of}
use Rattle.level.specs.Ranked.{map_edit, All, IfSet}
use Rattle.level.specs.declared.Level.{Level}
use Rattle.level.proofs.All.{all-cond}
use Rattle.level.proofs.Changes.{change-shown, change-holds}
use Rattle.checksum.specs.Carried.{piece_of, level_for, Carries}
use Rattle.checksum.proofs.Pieces.{level-size, level-shown, level-carries}
use Rattle.side.specs.Applying.{EntryWithin, changes_for}

abbrev Sized : Level → Type 0
Sized level = Within (level_size level)

module _ (text : SumText) where
  shown-list : (es : List Numbers) → All EntryWithin es → map (map_edit shown) (map (change_of (level_for text)) es) ≡ map edit_of es
  unfolding All
  shown-list [] w = refl
  shown-list (e ∷ es) w = rw (change-shown (level_for text) e (level-shown text e.price e.size w.0.0 w.0.1), shown-list es w.1)

  carried-list : (es : List Numbers) → All EntryWithin es → All (IfSet (Carries (piece_of text))) (map (change_of (level_for text)) es)
  unfolding All
  carried-list [] w = tt
  carried-list (e ∷ es) w =
      (change-holds (level_for text) e (Carries (piece_of text)) (level-carries text e.price e.size w.0.0 w.0.1), carried-list es w.1)

  sized-list : (es : List Numbers) → All EntryWithin es → All (IfSet Sized) (map (change_of (level_for text)) es)
  unfolding All
  sized-list [] w = tt
  sized-list (e ∷ es) w =
      (change-holds (level_for text) e Sized (subst Within (sym (level-size text e.price e.size w.0.0 w.0.1)) w.0.1), sized-list es w.1)

-- what holds of each entry holds of those for one side
all_own : (P : Numbers → Type 0) (side : Side) (es : List Numbers) → All P es → All P (for_side side_of side es)
unfolding All for_side
all_own P side [] w = tt
all_own P side (e ∷ es) w =
    let rest = all_own P side es w.1 in
    all-cond P (is_same e.side side) (e ∷ for_side side_of side es) (for_side side_of side es) (w.0, rest) rest

module _ (text : SumText) (side : Side) (es : List Numbers) (w : All EntryWithin es) where
  own : All EntryWithin (for_side side_of side es)
  own = all_own EntryWithin side es w

  pub changes-shown : map (map_edit shown) (changes_for text side es) ≡ map edit_of (for_side side_of side es)
  unfolding changes_for
  changes-shown = shown-list text (for_side side_of side es) own

  pub changes-carried : All (IfSet (Carries (piece_of text))) (changes_for text side es)
  unfolding changes_for
  changes-carried = carried-list text (for_side side_of side es) own

  pub changes-sized : All (IfSet Sized) (changes_for text side es)
  unfolding changes_for
  changes-sized = sized-list text (for_side side_of side es) own
