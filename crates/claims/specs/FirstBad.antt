-- The question for the first bad decimal, of messages that pass checks 2 to 7. Assumes nothing: these are definitions.
use Rattle.std.specs.Prelude.{ℕ, ◌≤◌, ◌≡◌, true, List, ◌∷◌, Ok}
use Rattle.json_values.specs.Json.{Span}
use Rattle.settings.specs.Settings.{Config, good}
use Rattle.layout.specs.Layout.{Layout}
use Rattle.message.specs.Meaning.{framed, bad, bad_decimal}

pub data Has (a : Span) : List Span → Type 0 where
  here : (l : List Span) → Has a (a ∷ l)
  later : (b : Span) (l : List Span) → Has a l → Has a (b ∷ l)

-- Where some text breaks check 8, the answer is one that does, and begins at or before each, whichever side stands first in the message.
abbrev pub FirstBad : Type 0
FirstBad = (t : Config) (s : List ℕ) (l : Layout) (a : Span) → good t ≡ true → framed t s ≡ Ok l → Has a (bad s l)
    → Has (bad_decimal t s) (bad s l) × ((bad_decimal t s).from ≤ a.from)
