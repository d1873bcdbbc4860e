-- What the functions that take a message give, in terms of the code's book. Assumes nothing: these are definitions.
use Rattle.std.specs.Prelude.{ℕ, ◌+◌, ◌<◌, ◌^◌, ◌≡◌, Bool, true, false, ◌&&◌, ◌||◌, not, cond, List, map, eqb, ltb, length, take, Err, Ok, Result}
use Rattle.lifecycle.specs.Lifecycle.{status_of, live_lifecycle, refused_lifecycle, judged_update, judged_sides}
use Rattle.answer.specs.Answers.{is_taken}
use Rattle.decimal.specs.Decimal.{is_zero}
use Rattle.settings.specs.Rules.{rules_of}
use Rattle.settings.specs.declared.Dialect.{Dialect}
use Rattle.edit.specs.Edit.{Numbers, for_side, side_of}
use Rattle.edit.specs.Buffer.{entries_in}
use Rattle.edit.specs.declared.Side.{Side}
use Rattle.edit.specs.declared.Side.TheVariants.{Bids, Asks}
use Rattle.level.specs.Words.{level_price, shown}
use Rattle.level.specs.Side.{crosses}
use Rattle.level.specs.Ranked.{All}
use Rattle.level.specs.Kept.{kept_in, held}
use Rattle.level.specs.declared.Levels.{Levels}
use Rattle.side.specs.Applying.{Given}
use Rattle.sides.specs.Worked.{SideAfter, edits_for, Worked}
use Rattle.layout.specs.Layout.{is_snapshot, Printed, printed, unprinted}
use Rattle.layout.specs.declared.Outline.{Outline}
use Rattle.message.specs.Meaning.{Message, sided_edit}
use Rattle.answer.specs.declared.Answer.{Answer}
use Rattle.answer.specs.declared.Answer.TheVariants.{Taken, WrongChecksum}
use Rattle.reference.specs.Reference.{is_shut, checksum_of, one_more, verdict, After, answered, receive}
use Rattle.book.specs.Shown.{shows, text_of, Good, Received, ReceivedAs}
use Rattle.book.specs.declared.Book.{Book}
use Rattle.book.specs.declared.Header.{Header}
use Rattle.book.specs.declared.Answered.{Answered}
use Rattle.book.specs.declared.Step.{Step}

-- ---- a message that passes checks 2 to 8, as its reader hands it on: an outline, and its entries in a buffer

abbrev pub entries_of : Outline → List ℕ → List Numbers
entries_of o buffer = take (o.bids + o.asks) (entries_in buffer)

abbrev pub printed_of : Outline → Printed
printed_of o = cond o.printed (printed o.checksum) unprinted

abbrev pub message_in : Outline → List ℕ → Message
message_in o buffer = record { kind = o.kind; edits = map sided_edit (entries_of o buffer); checksum = printed_of o; number = o.number; previous = o.previous }

pub record Passed (b : Book) (o : Outline) (buffer : List ℕ) : Type 0 where
  pub good : Good b
  pub unshut : is_shut (status_of b.lifecycle.state) ≡ false
  pub bids_given : Given Bids buffer (o.bids + o.asks)
  pub asks_given : Given Asks buffer (o.bids + o.asks)
  pub bids_own : o.bids ≡ length (for_side side_of Bids (entries_of o buffer))
  pub asks_own : o.asks ≡ length (for_side side_of Asks (entries_of o buffer))
  -- a snapshot removes nothing
  pub sets : is_snapshot o.kind ≡ true → All (λ e. is_zero e.size ≡ false) (entries_of o buffer)
  -- a sequence number has at most 19 digits
  pub small : o.number < 10 ^ 19

abbrev pub refused_header : Header → Answer → Header
refused_header h a =
    record {
      bids = h.bids;
      asks = h.asks;
      settings = h.settings;
      number = h.number;
      updates = h.updates;
      lifecycle = refused_lifecycle h.lifecycle a;
    }

abbrev pub refused_as : Header → Answer → Answered
refused_as h a = record { header = refused_header h a; answer = a; moved = 0 }

unfoldable pub refused_step : Book → Answer → Step
refused_step b a =
    record {
      book = record { bids = b.bids; asks = b.asks; settings = b.settings; number = b.number; updates = b.updates; lifecycle = refused_lifecycle b.lifecycle a };
      answer = a;
      moved = 0;
    }

-- A book that takes a message, which makes these sides and moves so many levels.
unfoldable pub kept_step : Book → Outline → Levels → Levels → ℕ → Step
kept_step b o bids asks moved =
    record {
      book = record { bids = bids; asks = asks; settings = b.settings; number = o.number; updates = cond (is_snapshot o.kind) 0 (one_more b.updates); lifecycle = live_lifecycle b.lifecycle o.kind };
      answer = Taken;
      moved = moved;
    }

-- .. and its header, where so many bids and asks are left.
abbrev pub taken_header : Header → Outline → ℕ → ℕ → Header
taken_header h o bids asks =
    record {
      bids = bids;
      asks = asks;
      settings = h.settings;
      number = o.number;
      updates = cond (is_snapshot o.kind) 0 (one_more h.updates);
      lifecycle = live_lifecycle h.lifecycle o.kind;
    }

-- The book after it, by the checks from 9 on.
abbrev pub after_in : Book → Outline → List ℕ → After
after_in b o buffer = answered (shows b) (message_in o buffer) (verdict (shows b) (message_in o buffer))

-- What checks 10 and 11 leave.
pub record Ready (b : Book) (o : Outline) (buffer : List ℕ) : Type 0 where
  pub passed : Passed b o buffer
  pub updates : judged_update b.lifecycle.state (rules_of b.settings.dialect) b.number o ≡ Ok o

-- What checks 1 to 8, 10 and 11 find.
unfoldable pub Judged : Book → List ℕ → List ℕ → Result Outline Answer → Type 0
Judged b s buffer (Err a) = Received (receive (shows b) s) (refused_step b a)
Judged b s buffer (Ok o) = Ready b o buffer × (receive (shows b) s ≡ after_in b o buffer)

-- A side before the entries: the book's own, and with no level before those of a snapshot.
abbrev pub side_before : Outline → Levels → Levels
side_before o kept = kept_in kept.words (cond (is_snapshot o.kind) 0 kept.count)

-- What the entries of a message make of the sides of a book.
pub record SidesAfter (b : Book) (o : Outline) (buffer : List ℕ) (bids asks : SideAfter) : Type 0 where
  pub bids_worked : Worked (text_of b) Bids b.settings.depth (edits_for Bids (entries_of o buffer)) (side_before o b.bids) bids
  pub asks_worked : Worked (text_of b) Asks b.settings.depth (edits_for Asks (entries_of o buffer)) (side_before o b.asks) asks
  pub bids_stay : o.bids ≡ 0 → bids.levels.words ≡ b.bids.words
  pub asks_stay : o.asks ≡ 0 → asks.levels.words ≡ b.asks.words

-- Check 13.
unfoldable pub judged_checksum : Outline → Dialect → Levels → Levels → Answer
judged_checksum o d bids asks =
    cond (o.printed && not (eqb o.checksum (checksum_of (rules_of d) (record { bids = map shown (held bids); asks = map shown (held asks) })))) WrongChecksum Taken

-- Checks 9, 12, 16 and 13.
unfoldable pub weighed : Outline → Dialect → Bool → Bool → Levels → Levels → Answer
weighed o d replaced over bids asks =
    let found : Answer = judged_sides o.kind replaced (not (rules_of d).cut && over) (crosses level_price (held bids) (held asks)) in
    cond (is_taken found) (judged_checksum o d bids asks) found

-- .. of what the entries made of the sides.
abbrev pub weighed_sides : Outline → Dialect → SideAfter → SideAfter → Answer
weighed_sides o d bids asks =
    weighed o d (bids.replaced || asks.replaced) (ltb (rules_of d).levels bids.count || ltb (rules_of d).levels asks.count) bids.levels asks.levels

-- A message that has no entries for the other side than this one.
abbrev pub ForSide : Side → Outline → Type 0
ForSide Bids o = o.asks ≡ 0
ForSide Asks o = o.bids ≡ 0

-- A message that passes the checks of its text is tried: where it is taken, the words are those of the book after it; where it is refused, those of the
-- book before it are to be put back. A side without entries keeps its words.
pub record Tried (b : Book) (o : Outline) (buffer bids asks : List ℕ) (r : Answered) : Type 0 where
  pub taken : is_taken r.answer ≡ true → ReceivedAs b (after_in b o buffer) bids asks r
  pub refused : is_taken r.answer ≡ false → ReceivedAs b (after_in b o buffer) b.bids.words b.asks.words r
  pub bids_stay : o.bids ≡ 0 → bids ≡ b.bids.words
  pub asks_stay : o.asks ≡ 0 → asks ≡ b.asks.words
