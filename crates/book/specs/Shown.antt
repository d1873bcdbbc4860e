-- The code's book: what it shows, what holds of it, and what each method ensures. Assumes nothing: these are definitions.
use Rattle.std.specs.Prelude.{ℕ, ◌≤◌, ◌<◌, ◌^◌, ◌≡◌, true, false, List, map, length}
use Rattle.decimal.specs.Decimal.{number}
use Rattle.settings.specs.Settings.{Config, good}
use Rattle.settings.specs.Kept.{config_of}
use Rattle.answer.specs.Answers.{is_taken}
use Rattle.level.specs.Words.{shown, words_past}
use Rattle.level.specs.Kept.{kept_in, held}
use Rattle.edit.specs.declared.Side.{Side}
use Rattle.edit.specs.declared.Side.TheVariants.{Bids, Asks}
use Rattle.sides.specs.Worked.{Sound}
use Rattle.lifecycle.specs.Lifecycle.{status_of}
use Rattle.reference.specs.Reference.{is_shut, Reference, opened, After, receive, Question, how_many, level_at, write, counts, level, amount, question, does}
use Rattle.settings.specs.Rules.{rules_of}
use Rattle.settings.specs.declared.SumText.{SumText}
use Rattle.reference.specs.declared.Scope.{Scope}
use Rattle.book.specs.declared.Book.{Book}
use Rattle.book.specs.declared.Header.{Header}
use Rattle.book.specs.declared.BookParts.{BookParts}
use Rattle.book.specs.declared.Answered.{Answered}
use Rattle.book.specs.declared.Step.{Step}
use Rattle.book.specs.declared.CountsReply.{CountsReply}
use Rattle.book.specs.declared.LevelReply.{LevelReply}
use Rattle.book.specs.declared.NumberReply.{NumberReply}

unfoldable pub shows : Book → Reference
shows b =
    record {
      config = config_of b.settings;
      status = status_of b.lifecycle.state;
      last = record { sides = record { bids = map shown (held b.bids); asks = map shown (held b.asks) }; number = b.number; updates = b.updates };
      had_snapshot = b.lifecycle.had_snapshot;
    }

-- ---- a book whose words are lent

-- The book of a header and the words of its bids and of its asks.
abbrev pub book_of : List ℕ → List ℕ → Header → Book
book_of bids asks h =
    record {
      bids = kept_in bids h.bids;
      asks = kept_in asks h.asks;
      settings = h.settings;
      number = h.number;
      updates = h.updates;
      lifecycle = h.lifecycle;
    }

abbrev pub header_of : Book → Header
header_of b =
    record {
      bids = b.bids.count;
      asks = b.asks.count;
      settings = b.settings;
      number = b.number;
      updates = b.updates;
      lifecycle = b.lifecycle;
    }

abbrev pub parts_of : Book → BookParts
parts_of b = record { bids = b.bids.words; asks = b.asks.words; header = header_of b }

abbrev pub step_of : List ℕ → List ℕ → Answered → Step
step_of bids asks r = record { book = book_of bids asks r.header; answer = r.answer; moved = r.moved }

-- The text that the book's checksum is made of.
abbrev pub text_of : Book → SumText
text_of b = (rules_of b.settings.dialect).text

-- What holds of every book that `open` or a method hands out.
pub record Good (b : Book) : Type 0 where
  pub room : length b.settings.name ≡ 16
  pub short : b.settings.length ≤ 16
  -- a book that is not shut has good settings
  pub config : is_shut (status_of b.lifecycle.state) ≡ false → good (config_of b.settings) ≡ true
  pub bids : Sound (text_of b) Bids b.bids
  pub asks : Sound (text_of b) Asks b.asks
  pub few_bids : length (held b.bids) ≤ b.settings.depth
  pub few_asks : length (held b.asks) ≤ b.settings.depth
  -- a sequence number has at most 19 digits
  pub small : b.number < 10 ^ 19

pub record Opened (t : Config) (b : Book) : Type 0 where
  pub good : Good b
  pub same : shows b ≡ opened t

-- A book after a message.
pub record Received (a : After) (r : Step) : Type 0 where
  pub good : Good r.book
  pub same : shows r.book ≡ a.book
  pub answer : r.answer ≡ a.answer
  pub moved : r.moved ≡ a.moved

-- The same in words that are lent: of a message that is taken, the words past the levels that are left stay as they were, and a refusal leaves every
-- word as it was.
pub record ReceivedAs (b : Book) (a : After) (bids asks : List ℕ) (r : Answered) : Type 0 where
  pub received : Received a (step_of bids asks r)
  pub settings : r.header.settings ≡ b.settings
  pub bids_past : is_taken r.answer ≡ true → words_past r.header.bids bids ≡ words_past r.header.bids b.bids.words
  pub asks_past : is_taken r.answer ≡ true → words_past r.header.asks asks ≡ words_past r.header.asks b.asks.words
  pub bids_back : is_taken r.answer ≡ false → bids ≡ b.bids.words
  pub asks_back : is_taken r.answer ≡ false → asks ≡ b.asks.words

abbrev pub ReceivedIn : Book → List ℕ → List ℕ → List ℕ → Answered → Type 0
ReceivedIn b s bids asks r = ReceivedAs b (receive (shows b) s) bids asks r

-- ---- questions and the writer: the book is handed back as it was

pub record AnswersCounts (b : Book) (scope : Scope) (r : CountsReply) : Type 0 where
  pub book : r.book ≡ b
  pub answer : (buffer : List ℕ) → r.answer ≡ (does (shows b) (question (how_many scope)) buffer).answer
  pub value : (buffer : List ℕ) → counts r.bids r.asks ≡ (does (shows b) (question (how_many scope)) buffer).value

pub record AnswersLevel (b : Book) (scope : Scope) (side : Side) (i : ℕ) (r : LevelReply) : Type 0 where
  pub book : r.book ≡ b
  pub answer : (buffer : List ℕ) → r.answer ≡ (does (shows b) (question (level_at scope side i)) buffer).answer
  pub value : (buffer : List ℕ) → level (record { price = number r.price; size = number r.size }) ≡ (does (shows b) (question (level_at scope side i)) buffer).value

pub record AnswersAmount (b : Book) (q : Question) (r : NumberReply) : Type 0 where
  pub book : r.book ≡ b
  pub answer : (buffer : List ℕ) → r.answer ≡ (does (shows b) (question q) buffer).answer
  pub value : (buffer : List ℕ) → amount r.value ≡ (does (shows b) (question q) buffer).value

-- The writer: the buffer afterwards too.
pub record Wrote (b : Book) (before after : List ℕ) (r : NumberReply) : Type 0 where
  pub book : r.book ≡ b
  pub answer : r.answer ≡ (does (shows b) (question write) before).answer
  pub value : amount r.value ≡ (does (shows b) (question write) before).value
  pub buffer : after ≡ (does (shows b) (question write) before).buffer
