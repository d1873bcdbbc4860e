-- Decimals in quotes, read where they lie.
-- Assumes nothing: these are definitions.
use Rattle.std.specs.Prelude.{ℕ, List, ◌≡◌, Some}
use Rattle.decimal.specs.Decimal.{number, read}
use Rattle.json_tokens.specs.Tokens.{string}
use Rattle.json_values.specs.Names.{inner}
use Rattle.entries.specs.Found.{price_span, size_span}
use Rattle.entries.specs.Front.{Two}
use Rattle.entries.specs.declared.EntryPlace.{EntryPlace}
use Rattle.entries.specs.declared.Amounts.{Amounts}
use Rattle.entries.specs.declared.QuotedDecimal.{QuotedDecimal}

-- The string at a position is the decimal that r has, and ends where r says.
pub record QuotedAt (s : List ℕ) (at : ℕ) (r : QuotedDecimal) : Type 0 where
  pub ends : string s at ≡ Some r.end
  pub text : read (inner s (record { from = at; to = r.end })) ≡ Some (number r.decimal)

-- The array at a position begins with two strings, which are the decimals that r has; the second ends where r says.
pub record TwoDecimals (s : List ℕ) (at : ℕ) (r : Amounts) : Type 0 where
  pub found : EntryPlace
  pub two : Two s at found
  pub ends : found.end ≡ r.end
  pub price : read (inner s (price_span found)) ≡ Some (number r.price)
  pub size : read (inner s (size_span found)) ≡ Some (number r.size)
