-- A number that is read of a message is within the limits of decimals. Assumes nothing.
use Rattle.std.specs.Prelude.{None, Option, Some}
use mathlib.Core.Path.{◌≡◌, refl}
use mathlib.Core.List.{List}
use Prim.Native.Nat.{ℕ}
use native.Mathlib.Omega.{arith}
use lib.Dec.{lit<}
use Rattle.decimal.specs.Decimal.{Number, read}
use Rattle.decimal.specs.Limits.{Within}
use Rattle.decimal.proofs.RoundTrip.{read-within}
use Rattle.json_values.specs.Json.{Span}
use Rattle.json_values.specs.Names.{inner}
use Rattle.entries.specs.Rows.{number_in, number_at}

pub number-within : (s : List ℕ) (a : Span) → Within (number_at s a)
unfolding number_at
number-within s a = go (read (inner s a)) refl
  where
    go : (x : Option Number) → read (inner s a) ≡ x → Within (number_in x)
    go (Some n) h = read-within (inner s a) n h
    go None h = record { few = omega arith; low = lit< tt }
