-- Levels that the claims speak of. Assumes nothing.
use Rattle.std.specs.Prelude.{refl, [], ◌∷◌}
use Rattle.std.proofs.Common.{arith}
use Rattle.decimal.specs.Decimal.{is_zero}
use Rattle.edit.specs.Edit.{PriceLevel}
use Rattle.round_trip.specs.Claims.{ValidLevel, Valid, each_none, each_more}

-- 0.05120 at 9999999999
level : PriceLevel
level = record { price = record { digits = 9999999999; decimals = 0 }; size = record { digits = 5120; decimals = 5 } }

fine_level : ValidLevel level
unfolding level is_zero
fine_level = record {
  price = record { within = record { few = omega arith; low = omega arith }; some = refl };
  size = record { within = record { few = omega arith; low = omega arith }; some = refl };
}

fine : Valid (level ∷ [])
fine = record { few = omega arith; each = each_more fine_level each_none }
