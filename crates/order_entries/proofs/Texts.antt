-- A text that is too short for two quotes holds nothing. Assumes nothing.
use Rattle.std.specs.Prelude.{None}
use Prim.Native.Nat.{ℕ, ◌-◌, ◌+◌, ◌<◌}
use mathlib.Core.Path.{◌≡◌, refl, ap, ◌∙◌}
use mathlib.Core.List.{List, []}
use native.Mathlib.Omega.{arith}
use lib.ListN.{take, drop}
use Rattle.decimal.specs.Digits.{leading}
use Rattle.decimal.specs.Decimal.{is_whole, prefix, read}
use Rattle.json_values.specs.Json.{Span}
use Rattle.json_values.specs.Names.{inner}
use Rattle.order_edit.specs.Ids.{id_of}

module _ (s : List ℕ) (a : Span) (h : a.to - a.from < 2) where
  nothing : inner s a ≡ []
  unfolding inner
  nothing = let n : a.to - a.from - 2 ≡ 0 = omega arith in ap (λ (k : ℕ). take k (drop (a.from + 1) s)) n

  none_read : read [] ≡ None
  unfolding read prefix is_whole leading
  none_read = refl

  pub short-read : read (inner s a) ≡ None
  short-read = ap read nothing ∙ none_read

  pub short-words : id_of (inner s a) ≡ id_of []
  short-words = ap id_of nothing
