-- A feed that comes in blocks: what was replied to the text so far. Assumes nothing: these are definitions.
use Rattle.std.specs.Prelude.{ℕ, ◌+◌, ◌-◌, ◌≤◌, ◌≡◌, Bool, true, false, List, [], ◌∷◌, ◌++◌, ltb, length, take, drop}
use Rattle.lines.specs.Lines.{line_end, complete, unfinished}
use Rattle.line_text.specs.Opening.{line_one}
use Rattle.reference.specs.Reference.{Reference, opened, receive}
use Rattle.book.specs.Shown.{Good, shows, Opened}
use Rattle.book.specs.declared.Book.{Book}
use Rattle.feed.specs.declared.Stream.{Stream}
use Rattle.feed.specs.declared.Block.{Block}
use Rattle.feed.specs.declared.Answered.{Answered}
use Rattle.feed.specs.Feed.{reply_to, session, output, carried, max_reply, Progress, processing}

-- ---- line by line

-- Line 1 is awaited, or it opened the book.
pub data State : Type 0 where
  line_one_awaited : State
  book_open : Reference → State

-- What a feed has come to, and the replies so far.
pub record Transcript : Type 0 where
  pub state : State
  pub replies : List ℕ

unfoldable pub extend : State → List ℕ → List ℕ → Transcript
extend line_one_awaited said line = record { state = book_open (opened (line_one line)); replies = said }
extend (book_open p) said line = record { state = book_open (receive p line).book; replies = said ++ reply_to (receive p line) }

unfoldable pub after : Transcript → List (List ℕ) → Transcript
after t [] = t
after t (line ∷ ls) = after (extend t.state t.replies line) ls

abbrev pub begun : Transcript
begun = record { state = line_one_awaited; replies = [] }

-- A text was read, of which the bytes `pending` are not answered: answered, their lines give what the lines of the text give, and the
-- line that they leave unfinished begins as the text's.
pub record SoFar (text : List ℕ) (t : Transcript) (pending : List ℕ) : Type 0 where
  pub lines : after t (complete pending) ≡ after begun (complete text)
  pub rest : take carried (unfinished pending) ≡ take carried (unfinished text)

-- ---- as far as a buffer has room for the replies

-- What a feed has come to after some lines, the buffer, the position past the replies, and the lines that are left.
pub record FeedProgress : Type 0 where
  pub state : State
  pub buffer : List ℕ
  pub past : ℕ
  pub left : List (List ℕ)

abbrev pub of_book : Progress → FeedProgress
of_book x = record { state = book_open x.book; buffer = x.buffer; past = x.past; left = x.left }

-- Line 1 opens the book, if it is awaited; every later line is a message.
unfoldable pub answering : State → List (List ℕ) → List ℕ → FeedProgress
answering (book_open p) ls buffer = of_book (processing ls p buffer 0)
answering line_one_awaited [] buffer = record { state = line_one_awaited; buffer = buffer; past = 0; left = [] }
answering line_one_awaited (line ∷ ls) buffer = of_book (processing ls (opened (line_one line)) buffer 0)

-- The lines at the end of the input: a line end follows what was not answered, unless that is nothing.
unfoldable pub last_lines : List ℕ → List (List ℕ)
last_lines [] = []
last_lines (c ∷ s) = complete (c ∷ s ++ (line_end ∷ []))

-- ---- in the code's terms

unfoldable pub state_of : Bool → Reference → State
state_of true p = book_open p
state_of false p = line_one_awaited

abbrev pub state_in : Stream → State
state_in stream = state_of stream.opened (shows stream.book)

abbrev pub transcript_of : Stream → List ℕ → Transcript
transcript_of stream said = record { state = state_in stream; replies = said }

-- What is not answered yet lies in the input buffer.
pub record Holds (stream : Stream) (input : List ℕ) : Type 0 where
  pub good : Good stream.book
  pub order : stream.from ≤ stream.to
  pub within : stream.to ≤ length input

abbrev pub pending_of : Stream → List ℕ → List ℕ
pending_of stream input = take (stream.to - stream.from) (drop stream.from input)

-- With `got` bytes more behind them.
abbrev pub unanswered : Stream → List ℕ → ℕ → List ℕ
unanswered stream input got = pending_of stream input ++ take got (drop stream.to input)

-- Nothing is read; the book is that of an empty line 1, which is shut.
pub record Started (r : Stream) : Type 0 where
  pub holds : (input : List ℕ) → Holds r input
  pub none : r.to ≡ 0
  pub shut : Opened (line_one []) r.book
  pub so_far : (input : List ℕ) → SoFar [] (transcript_of r []) (pending_of r input)

-- After `got` bytes more: the lines that end in the bytes which were not answered before and in these are answered, as many as there is room for. If there is
-- room for a further reply, what they leave unfinished, or as much of it as is carried over, is moved to the front of the input buffer, and if not, all bytes stay
-- where they are. So all that was read so far is accounted for, and once no room is missing, the replies are those to all the lines that end in it.
pub record AnsweredBlock (stream : Stream) (input : List ℕ) (got : ℕ) (before : List ℕ) (r : Block) (input' buffer' : List ℕ) : Type 0 where
  pub holds : Holds r.stream input'
  pub room : r.written ≤ length buffer'
  pub same : record {
    state = state_in r.stream;
    buffer = buffer';
    past = r.written;
    left = complete (pending_of r.stream input');
  } ≡ answering (state_in stream) (complete (unanswered stream input got)) before
  pub past : drop r.written buffer' ≡ drop r.written before
  pub awaited : r.stream.opened ≡ false → r.stream.book ≡ stream.book
  pub more : r.more ≡ ltb (length buffer') (r.written + max_reply)
  pub kept : r.more ≡ true → input' ≡ input
  pub end_kept : r.more ≡ true → r.stream.to ≡ stream.to + got
  pub left_over : r.more ≡ true → unfinished (pending_of r.stream input') ≡ unfinished (unanswered stream input got)
  pub front : r.more ≡ false → r.stream.from ≡ 0
  pub carried_over : r.more ≡ false → pending_of r.stream input' ≡ take carried (unfinished (unanswered stream input got))
  pub behind : r.more ≡ false → drop r.stream.to input' ≡ drop r.stream.to input
  pub short : r.more ≡ false → r.stream.to ≤ carried
  pub none_left : r.more ≡ false → complete (pending_of r.stream input') ≡ []
  pub so_far : (text said : List ℕ) → SoFar text (transcript_of stream said) (pending_of stream input) →
      SoFar (text ++ take got (drop stream.to input)) (transcript_of r.stream (said ++ take r.written buffer')) (pending_of r.stream input')
  pub all : r.more ≡ false → (text said : List ℕ) → SoFar text (transcript_of stream said) (pending_of stream input) →
      said ++ take r.written buffer' ≡ session (complete (text ++ take got (drop stream.to input)))

-- At the end of the input: the last lines are answered, and where no whole line was left, the replies are those to the whole text. The input buffer is as before.
pub record Finished (stream : Stream) (input before : List ℕ) (r : ℕ) (input' buffer' : List ℕ) : Type 0 where
  pub room : r ≤ length buffer'
  pub kept : input' ≡ input
  pub written : r ≡ (answering (state_in stream) (last_lines (pending_of stream input)) before).past
  pub bytes : buffer' ≡ (answering (state_in stream) (last_lines (pending_of stream input)) before).buffer
  pub past : drop r buffer' ≡ drop r before
  pub all : complete (pending_of stream input) ≡ [] → (text said : List ℕ) → SoFar text (transcript_of stream said) (pending_of stream input) →
      said ++ take r buffer' ≡ output text

-- The lines of a text from a position on, as far as the buffer had room.
pub record AnsweredLines (s : List ℕ) (from : ℕ) (state : State) (book : Book) (before : List ℕ) (r : Answered) (buffer' : List ℕ) : Type 0 where
  pub good : Good r.book
  pub within : r.next ≤ length s
  pub room : r.written ≤ length buffer'
  pub same : record { state = state_of r.opened (shows r.book); buffer = buffer'; past = r.written; left = complete (drop r.next s) }
      ≡ answering state (complete (drop from s)) before
  pub awaited : r.opened ≡ false → r.book ≡ book
  pub lines : (said : List ℕ) → after (record { state = state; replies = said }) (complete (drop from s))
      ≡ after (record { state = state_of r.opened (shows r.book); replies = said ++ take r.written buffer' }) (complete (drop r.next s))
  pub past : drop r.written buffer' ≡ drop r.written before
  pub rest : unfinished (drop r.next s) ≡ unfinished (drop from s)
  pub all : r.written + max_reply ≤ length buffer' → complete (drop r.next s) ≡ []
  pub one : length (complete (drop from s)) ≤ 1 → max_reply ≤ length before → complete (drop r.next s) ≡ []
