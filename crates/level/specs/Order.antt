-- What the order of two prices by value says of their places on a side. Assumes nothing: these are definitions.
use Rattle.std.specs.Prelude.{Bool}
use Rattle.std.specs.declared.cmp.Ordering.{Ordering}
use Rattle.std.specs.Ordering.{is_gt, is_lt}
use Rattle.edit.specs.declared.Side.{Side}
use Rattle.edit.specs.declared.Side.TheVariants.{Bids, Asks}

-- Does the first of the two stand nearer the top?
abbrev pub ahead_of : Side → Ordering → Bool
ahead_of Bids order = is_gt order
ahead_of Asks order = is_lt order
