-- The checks by what one walk over a message tells. Assumes nothing: these are definitions.
use Rattle.answer.specs.declared.Answer.{Answer}
use Rattle.std.specs.Prelude.{ℕ, Bool, ◌||◌, cond, ltb, eqb, Err, Ok, Result}
use Rattle.layout.specs.declared.Outline.{Outline}
use Rattle.layout.specs.declared.Scan.{Scan}
use Rattle.answer.specs.declared.Answer.TheVariants.{NotJson, NotOurs, BadLayout, TooManyEntries}

unfoldable pub laid_outline : ℕ → Outline → Result Outline Answer
laid_outline most o = cond o.well_formed (cond (ltb most o.bids || ltb most o.asks) (Err TooManyEntries) (Ok o)) (Err BadLayout)

unfoldable pub addressed_scan : ℕ → Scan → Result Outline Answer
addressed_scan most t = cond t.framed (cond t.ours (laid_outline most t.outline) (Err NotOurs)) (Err NotOurs)

unfoldable pub decided : ℕ → Scan → Bool → Result Outline Answer
decided most t ended = cond (eqb t.end 0) (Err NotJson) (cond ended (addressed_scan most t) (Err NotJson))
