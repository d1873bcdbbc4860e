-- What the methods of a book ask on their way. Assumes nothing: these are definitions.
use Rattle.level.specs.declared.Level.{Level}
use Rattle.std.specs.Prelude.{ℕ, ◌≡◌, cond, Option}
use Rattle.decimal.specs.Decimal.{number}
use Rattle.decimal.specs.Limits.{no_number}
use Rattle.level.specs.Kept.{held}
use Rattle.level.specs.Kept as kept·
use Rattle.edit.specs.declared.Side.{Side}
use Rattle.edit.specs.declared.Side.TheVariants.{Bids, Asks}
use Rattle.answer.specs.declared.Answer.{Answer}
use Rattle.book.specs.declared.Book.{Book}
use Rattle.answer.specs.declared.Answer.TheVariants.{Taken}
use Rattle.reference.specs.declared.Scope.{Scope}
use Rattle.lifecycle.specs.Lifecycle.{status_of, answers, refusal_of}
use Rattle.book.specs.declared.LevelReply.{LevelReply}
use Rattle.book.specs.declared.NumberReply.{NumberReply}

-- A reply with an answer and no level.
pub record WithoutLevel (b : Book) (a : Answer) (r : LevelReply) : Type 0 where
  pub book : r.book ≡ b
  pub answer : r.answer ≡ a
  pub price : number r.price ≡ no_number
  pub size : number r.size ≡ no_number

unfoldable pub level_in : Book → Side → ℕ → Option Level
level_in b Bids i = kept·.level_at i (held b.bids)
level_in b Asks i = kept·.level_at i (held b.asks)

-- What a book tells of a number of its own: the number where the question is answered, and 0 where it is refused.
unfoldable pub told : Book → Scope → ℕ → NumberReply
told b scope value =
    cond (answers (status_of b.lifecycle.state) b.lifecycle.had_snapshot scope)
    (record { book = b; answer = Taken; value = value })
    (record { book = b; answer = refusal_of (status_of b.lifecycle.state); value = 0 })
