-- The line program, as document 01 has it: line 1 opens a book, and every later line is a message that gets a reply.
-- Assumes nothing: these are definitions.
use Rattle.std.specs.Prelude.{ℕ, ◌+◌, ◌≤◌, ◌≡◌, cond, List, [], ◌∷◌, ◌++◌, leb, length, drop}
use Rattle.decimal.specs.Buffer.{overlaid}
use Rattle.lines.specs.Lines.{lines_of, complete, unfinished}
use Rattle.line_text.specs.Opening.{line_one}
use Rattle.line_text.specs.Reply.{reply_text}
use Rattle.reference.specs.Reference.{Reference, opened, is_live, After, receive}
use Rattle.book.specs.Shown.{Good, shows}
use Rattle.feed.specs.declared.Processed.{Processed}

-- ---- the whole text

abbrev pub reply_to : After → List ℕ
reply_to a = reply_text a.answer (is_live a.book.status) (length a.book.last.sides.bids) (length a.book.last.sides.asks)

unfoldable pub replies : Reference → List (List ℕ) → List ℕ
replies p [] = []
replies p (line ∷ ls) = reply_to (receive p line) ++ replies (receive p line).book ls

unfoldable pub session : List (List ℕ) → List ℕ
session [] = []
session (line ∷ ls) = replies (opened (line_one line)) ls

-- What the program writes when it has read a text.
unfoldable pub output : List ℕ → List ℕ
output s = session (lines_of s)

-- What is carried over of a line from block to block: one byte more than a message may have.
abbrev pub carried : ℕ
carried = 32769

-- ---- as far as a buffer has room for the replies

-- The longest reply: three numbers of 20 digits, two blanks and a line end.
abbrev pub max_reply : ℕ
max_reply = 63

-- The book and the buffer after some lines, the position past the replies, and the lines that are left.
pub record Progress : Type 0 where
  pub book : Reference
  pub buffer : List ℕ
  pub past : ℕ
  pub left : List (List ℕ)

unfoldable pub processing : List (List ℕ) → Reference → List ℕ → ℕ → Progress
processing [] p buffer at = record { book = p; buffer = buffer; past = at; left = [] }
processing (line ∷ ls) p buffer at =
    cond (leb (at + max_reply) (length buffer))
    (processing ls (receive p line).book (overlaid buffer at (reply_to (receive p line))) (at + length (reply_to (receive p line))))
    (record { book = p; buffer = buffer; past = at; left = line ∷ ls })

pub record ProcessedLines (s : List ℕ) (p : Reference) (before : List ℕ) (r : Processed) (after : List ℕ) : Type 0 where
  pub good : Good r.book
  pub within : r.next ≤ length s
  pub room : r.written ≤ length before
  pub same : record { book = shows r.book; buffer = after; past = r.written; left = complete (drop r.next s) } ≡ processing (complete s) p before 0
  pub rest : unfinished (drop r.next s) ≡ unfinished s
