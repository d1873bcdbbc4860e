-- What the code ensures of one call and of a script. Assumes nothing: these are definitions.
use Rattle.std.specs.Prelude.{ℕ, ◌≤◌, ◌≡◌, List, [], ◌∷◌, length, drop}
use Rattle.decimal.specs.Decimal.{number}
use Rattle.decimal.specs.Words.{digits_near, digits_past}
use Rattle.settings.specs.Settings.{Config}
use Rattle.answer.specs.Answers.{answer_number}
use Rattle.reference.specs.Reference.{Reference, Ask, opened, does, replies_to}
use Rattle.book.specs.Shown.{Good, shows}
use Rattle.book.specs.declared.Book.{Book}
use Rattle.book.specs.declared.Step.{Step}
use Rattle.book.specs.declared.CountsReply.{CountsReply}
use Rattle.book.specs.declared.LevelReply.{LevelReply}
use Rattle.book.specs.declared.NumberReply.{NumberReply}
use Rattle.replay.specs.Format.{header_length, words_length, reply_words, reply_bytes, script, laid_in}
use Rattle.replay.specs.declared.asking.Replied.{Replied}

-- ---- an answer of the book as a reply's words

unfoldable pub step_replied : Step → Replied
step_replied s = record { book = s.book; answer = answer_number s.answer; words = s.moved ∷ 0 ∷ 0 ∷ 0 ∷ 0 ∷ 0 ∷ [] }

unfoldable pub counts_replied : CountsReply → Replied
counts_replied s = record { book = s.book; answer = answer_number s.answer; words = s.bids ∷ s.asks ∷ 0 ∷ 0 ∷ 0 ∷ 0 ∷ [] }

unfoldable pub level_replied : LevelReply → Replied
level_replied s =
    record {
      book = s.book;
      answer = answer_number s.answer;
      words =
          digits_near (number s.price) ∷ digits_past (number s.price) ∷ (number s.price).decimals
          ∷ digits_near (number s.size) ∷ digits_past (number s.size) ∷ (number s.size).decimals ∷ [];
    }

unfoldable pub number_replied : NumberReply → Replied
number_replied s = record { book = s.book; answer = answer_number s.answer; words = s.value ∷ 0 ∷ 0 ∷ 0 ∷ 0 ∷ 0 ∷ [] }

abbrev pub words_in : Replied → List ℕ
words_in r = r.answer ∷ r.words

-- ---- one call

-- A header that is whole.
abbrev pub HasHeader : List ℕ → Type 0
HasHeader c = header_length ≤ length c

-- The words of the reply, and the lent buffer.
pub record Answered (p : Reference) (ask : Ask) (before after : List ℕ) (r : Replied) : Type 0 where
  pub good : Good r.book
  pub same : shows r.book ≡ (does p ask before).after
  pub words : words_in r ≡ reply_words (does p ask before)
  pub buffer : after ≡ (does p ask before).buffer

-- The same of a call that leaves the lent buffer as it is, whatever that holds.
abbrev pub AnsweredAlone : Reference → Ask → Replied → Type 0
AnsweredAlone p ask r = (buffer : List ℕ) → Answered p ask buffer buffer r

-- The same, in the call's part of `out`: the lent buffer stands behind the words.
pub record Called (p : Reference) (ask : Ask) (before after : List ℕ) (r : Book) : Type 0 where
  pub good : Good r
  pub same : shows r ≡ (does p ask (drop words_length before)).after
  pub out : after ≡ reply_bytes (does p ask (drop words_length before))

-- ---- a script

-- The replies are those of the reference book, opened with these settings and run over the script's calls.
pub record Replayed (t : Config) (s before after : List ℕ) (calls : ℕ) : Type 0 where
  pub out : after ≡ laid_in (replies_to (opened t) (script s before)) before
  pub count : calls ≡ length (script s before)
