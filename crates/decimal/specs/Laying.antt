-- A text laid into a lent buffer at a position, whole or not at all. Assumes nothing: these are definitions.
use Rattle.std.specs.Prelude.{◌≡◌, ℕ, ◌+◌, Bool, true, false, List, length, nat_le, None, Option, Some}
use Rattle.decimal.specs.Buffer.{overlaid}

unfoldable pub fits : List ℕ → ℕ → List ℕ → Bool
fits buffer at text = nat_le (at + length text) (length buffer)

-- Where the text fits, the buffer with it and the position past it; else the buffer as it was and none.
pub record Laid (buffer : List ℕ) (at : ℕ) (text : List ℕ) (after : List ℕ) (answer : Option ℕ) : Type 0 where
  pub bytes : after ≡ elim (fits buffer at text) [ true ↦ overlaid buffer at text | false ↦ buffer ]
  pub end : answer ≡ elim (fits buffer at text) [ true ↦ Some (at + length text) | false ↦ None ]
