-- What the reader of a message answers. Assumes nothing: these are definitions.
use Rattle.layout.specs.declared.Outline.{Outline}
use Rattle.answer.specs.declared.Answer.{Answer}
use Rattle.std.specs.Prelude.{◌≡◌, cond, List, ℕ, Some, Err, Ok, Result}
use Rattle.settings.specs.Settings.{Config, good}
use Rattle.entries.specs.Tally.{Kept}
use Rattle.layout.specs.Layout.{Layout}
use Rattle.layout.specs.Scan.{outline_of}
use Rattle.answer.specs.declared.Answer.TheVariants.{Shut}
use Rattle.message.specs.Meaning.{checked}

-- Checks 1 to 8: of the settings, and then of the text.
unfoldable pub judged : Config → List ℕ → Result Layout Answer
judged t s = cond (good t) (checked t s) (Err Shut)

unfoldable pub verdict_of : List ℕ → Result Layout Answer → Result Outline Answer
verdict_of s (Err a) = Err a
verdict_of s (Ok l) = Ok (outline_of s (Some l))

-- What its reader promises: the verdict, and that the buffer has the entries of a message that passes.
pub record Judged (s : List ℕ) (c : Result Layout Answer) (buffer : List ℕ) (r : Result Outline Answer) : Type 0 where
  pub told : r ≡ verdict_of s c
  pub kept : (l : Layout) → c ≡ Ok l → Kept s (Some l.entries) buffer
