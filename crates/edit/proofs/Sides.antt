-- `==` of two sides, which Rust derives, is `is_same`. Assumes nothing.
use mathlib.Core.Path.{◌≡◌, refl}
use denote.Enum.Bare.{sameb}
use Rattle.edit.specs.declared.Side.{Side}
use Rattle.edit.specs.declared.Side.TheVariants.{Bids, Asks}
use Rattle.edit.specs.contracts.Side.{the_type}
use Rattle.edit.specs.Edit.{is_same}

pub same-is : (a b : Side) → sameb the_type a b ≡ is_same a b
unfolding is_same
same-is Bids Bids = refl
same-is Bids Asks = refl
same-is Asks Bids = refl
same-is Asks Asks = refl
