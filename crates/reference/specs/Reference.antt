-- The reference book (document 01: "the plain book"): from the settings and what each call is given, what the book is and what it answers.
-- Assumes nothing: these are definitions.
use Rattle.std.specs.Prelude.{ℕ, ◌+◌, Bool, true, false, ◌&&◌, ◌||◌, not, cond, List, [], ◌∷◌, map, leb, ltb, eqb, length, take, get_or, Err, Ok, Result}
use Rattle.decimal.specs.Decimal.{Number}
use Rattle.decimal.specs.Buffer.{overlaid}
use Rattle.settings.specs.Settings.{Config, good, kept}
use Rattle.settings.specs.Rules.{rules_of}
use Rattle.settings.specs.declared.Dialect.{Dialect}
use Rattle.settings.specs.declared.Dialect.TheVariants.{K, M, Unknown}
use Rattle.settings.specs.declared.Rules.{Rules}
use Rattle.settings.specs.declared.SumText.{SumText}
use Rattle.settings.specs.declared.SumText.TheVariants.{Stripped, Interleaved}
use Rattle.edit.specs.Edit.{PriceLevel, shown_price, Edit, for_side}
use Rattle.level.specs.Side.{names_twice, apply_all, ranked, crosses}
use Rattle.level.specs.Moved.{moved}
use Rattle.edit.specs.Edit.{named}
use Rattle.edit.specs.declared.Side.{Side}
use Rattle.edit.specs.declared.Side.TheVariants.{Bids, Asks}
use Rattle.crc32_spec.specs.Crc.{crc}
use Rattle.checksum.specs.Text.{k_checksum_text, m_checksum_text}
use Rattle.layout.specs.Layout.{is_snapshot, Printed, printed, unprinted}
use Rattle.answer.specs.Answers.{is_taken, leaves_status}
use Rattle.message.specs.Meaning.{SidedEdit, Message, decode}
use Rattle.answer.specs.declared.Answer.{Answer}
use Rattle.answer.specs.declared.Answer.TheVariants.{Taken, Shut, PriceTwice, NoSnapshot, OldNumber, TooManyLevels, WrongChecksum, NoLevel, NoRoom, Crossed}
use Rattle.writer.specs.Snapshot.{k_snapshot, m_snapshot}
use Rattle.reference.specs.declared.Scope.{Scope}
use Rattle.reference.specs.declared.Scope.TheVariants.{Current, LastGood}

pub data Status : Type 0 where
  shut : Status
  waiting : Status
  live : Status

-- Both sides, best first.
pub record Sides : Type 0 where
  pub bids : List PriceLevel
  pub asks : List PriceLevel

-- What waiting keeps, as last good: the sides, the sequence number, and how many updates were taken since the last snapshot.
pub record Last : Type 0 where
  pub sides : Sides
  pub number : ℕ
  pub updates : ℕ

pub record Reference : Type 0 where
  pub config : Config
  pub status : Status
  pub last : Last
  -- whether a snapshot was ever taken
  pub had_snapshot : Bool

abbrev pub rules : Reference → Rules
rules p = rules_of p.config.dialect

unfoldable pub is_shut : Status → Bool
is_shut shut = true
is_shut waiting = false
is_shut live = false

unfoldable pub is_live : Status → Bool
is_live shut = false
is_live waiting = false
is_live live = true

-- ---- opening: shut or waiting by the settings, sides empty, number and count 0, no snapshot taken

abbrev pub no_last : Last
no_last = record { sides = record { bids = []; asks = [] }; number = 0; updates = 0 }

unfoldable pub opened : Config → Reference
opened t = record { config = kept t; status = cond (good t) waiting shut; last = no_last; had_snapshot = false }

-- ---- what a message would make of the sides: entry by entry the level at a price is set or removed; then a side is ranked, and cut where the dialect cuts

-- The edits of a message for one side, in their order.
unfoldable pub edits_for : Side → Message → List (Edit PriceLevel)
edits_for side m = map (λ (e : SidedEdit). e.edit) (for_side (λ (e : SidedEdit). e.side) side m.edits)

unfoldable pub after_edits : Config → Side → List (Edit PriceLevel) → List PriceLevel → List PriceLevel
after_edits t side es s =
    let levels : List PriceLevel = ranked shown_price side (apply_all shown_price es s) in
    cond (rules_of t.dialect).cut (take t.depth levels) levels

-- A snapshot replaces the book: it starts from empty sides.
abbrev pub sides_before : Reference → Message → Sides
sides_before p m = record { bids = cond (is_snapshot m.kind) [] p.last.sides.bids; asks = cond (is_snapshot m.kind) [] p.last.sides.asks }

unfoldable pub sides_after : Reference → Message → Sides
sides_after p m =
    record {
      bids = after_edits p.config Bids (edits_for Bids m) (sides_before p m).bids;
      asks = after_edits p.config Asks (edits_for Asks m) (sides_before p m).asks;
    }

-- How many levels a message moves: the sum over its entries, both sides.
unfoldable pub levels_moved : Reference → Message → ℕ
levels_moved p m = moved shown_price Bids (edits_for Bids m) (sides_before p m).bids + moved shown_price Asks (edits_for Asks m) (sides_before p m).asks

-- ---- checks 9 to 13, and 16

abbrev pub prices_of : List (Edit PriceLevel) → List Number
prices_of es = map (named shown_price) es

unfoldable pub checksum_text : SumText → ℕ → List PriceLevel → List PriceLevel → List ℕ
checksum_text Stripped = k_checksum_text
checksum_text Interleaved = m_checksum_text

unfoldable pub checksum_of : Rules → Sides → ℕ
checksum_of r s = crc (checksum_text r.text r.summed s.bids s.asks)

-- 9: a snapshot names one price twice on a side
unfoldable pub names_price_twice : Message → Bool
names_price_twice m = is_snapshot m.kind && (names_twice (prices_of (edits_for Bids m)) || names_twice (prices_of (edits_for Asks m)))

-- 10: an update while waiting
unfoldable pub lacks_snapshot : Reference → Message → Bool
lacks_snapshot p m = not (is_snapshot m.kind) && not (is_live p.status)

-- 11: an update whose sequence number is not greater, or, where updates are linked, does not follow the book's
unfoldable pub is_old : Reference → Message → Bool
is_old p m = (rules p).numbered && (not (is_snapshot m.kind) && (leb m.number p.last.number || ((rules p).linked && not (eqb m.previous p.last.number))))

-- 12: too many levels on a side after the message
unfoldable pub has_too_many : Reference → Message → Bool
has_too_many p m = ltb (rules p).levels (length (sides_after p m).bids) || ltb (rules p).levels (length (sides_after p m).asks)

-- 16, after 12 and before 13: both sides have levels and the best bid is not below the best ask
unfoldable pub has_crossed : Reference → Message → Bool
has_crossed p m = crosses shown_price (sides_after p m).bids (sides_after p m).asks

-- 13: checksum differs
unfoldable pub differs : Printed → ℕ → Bool
differs (printed n) sum = not (eqb n sum)
differs unprinted sum = false

unfoldable pub has_wrong_checksum : Reference → Message → Bool
has_wrong_checksum p m = differs m.checksum (checksum_of (rules p) (sides_after p m))

unfoldable pub verdict : Reference → Message → Answer
verdict p m =
    cond (names_price_twice m) PriceTwice
    (cond (lacks_snapshot p m) NoSnapshot
    (cond (is_old p m) OldNumber
    (cond (has_too_many p m) TooManyLevels
    (cond (has_crossed p m) Crossed
    (cond (has_wrong_checksum p m) WrongChecksum Taken)))))

-- ---- a message

pub record After : Type 0 where
  pub book : Reference
  pub answer : Answer
  -- how many levels it moved
  pub moved : ℕ

abbrev pub max_updates : ℕ
max_updates = 4294967295

-- The count of updates rises by one, up to its end.
unfoldable pub one_more : ℕ → ℕ
one_more n = cond (ltb n max_updates) (n + 1) n

unfoldable pub taken : Reference → Message → Reference
taken p m =
    record {
      config = p.config;
      status = live;
      last = record { sides = sides_after p m; number = m.number; updates = cond (is_snapshot m.kind) 0 (one_more p.last.updates) };
      had_snapshot = is_snapshot m.kind || p.had_snapshot;
    }

unfoldable pub with_status : Status → Reference → Reference
with_status status p = record { config = p.config; status = status; last = p.last; had_snapshot = p.had_snapshot }

unfoldable pub refused_by : Reference → Answer → After
refused_by p a = record { book = cond (leaves_status a) p (with_status waiting p); answer = a; moved = 0 }

abbrev pub taken_by : Reference → Message → After
taken_by p m = record { book = taken p m; answer = Taken; moved = levels_moved p m }

unfoldable pub answered : Reference → Message → Answer → After
answered p m a = cond (is_taken a) (taken_by p m) (refused_by p a)

unfoldable pub received : Reference → Result Message Answer → After
received p (Err a) = refused_by p a
received p (Ok m) = answered p m (verdict p m)

unfoldable pub receive : Reference → List ℕ → After
receive p s = cond (is_shut p.status) (record { book = p; answer = Shut; moved = 0 }) (received p (decode p.config s))

-- ---- questions and the writer: 1, 10, 14, 15 in that order; none changes the book

pub data Question : Type 0 where
  how_many : Scope → Question
  level_at : Scope → Side → ℕ → Question
  which_number : Scope → Question
  how_many_updates : Scope → Question
  write : Question

-- What is handed back with an answer.
pub data Value : Type 0 where
  -- how many bids and asks
  counts : ℕ → ℕ → Value
  level : PriceLevel → Value
  -- how many levels a message moved; the sequence number, the count of updates, or a length
  amount : ℕ → Value

abbrev pub no_level : PriceLevel
no_level = record { price = record { digits = 0; decimals = 0 }; size = record { digits = 0; decimals = 0 } }

-- "A refused one answers 0 in place of every count, level, book number and length."
unfoldable pub zeros : Value → Value
zeros (counts m n) = counts 0 0
zeros (level l) = level no_level
zeros (amount n) = amount 0

-- Level i is counted from 0 as best.
unfoldable pub side_of : Side → Reference → List PriceLevel
side_of Bids p = p.last.sides.bids
side_of Asks p = p.last.sides.asks

-- The text of the book as a snapshot.
unfoldable pub text_in : Dialect → Reference → List ℕ
text_in K p = k_snapshot p.config.depth p.config.name p.last.sides.bids p.last.sides.asks
text_in (M e) p = m_snapshot p.config.name p.last.sides.bids p.last.sides.asks (checksum_of (rules_of (M e)) p.last.sides) p.last.number
text_in Unknown p = []

unfoldable pub snapshot_text : Reference → List ℕ
snapshot_text p = text_in p.config.dialect p

-- What is asked for: of the current or of the last good book, whether it lacks what is asked for, its value, and the text that is written.
pub record Response : Type 0 where
  pub scope : Scope
  pub lacks : Answer
  pub value : Value
  pub text : List ℕ

-- `room` is how long the lent buffer is.
unfoldable pub respond : Reference → ℕ → Question → Response
respond p room (how_many scope) = record { scope = scope; lacks = Taken; value = counts (length (side_of Bids p)) (length (side_of Asks p)); text = [] }
respond p room (level_at scope side i) =
    record { scope = scope; lacks = cond (ltb i (length (side_of side p))) Taken NoLevel; value = level (get_or (side_of side p) i no_level); text = [] }
respond p room (which_number scope) = record { scope = scope; lacks = Taken; value = amount p.last.number; text = [] }
respond p room (how_many_updates scope) = record { scope = scope; lacks = Taken; value = amount p.last.updates; text = [] }
respond p room write =
    record { scope = Current; lacks = cond (ltb room (length (snapshot_text p))) NoRoom Taken; value = amount (length (snapshot_text p)); text = snapshot_text p }

unfoldable pub stands : Scope → Reference → Bool
stands Current p = is_live p.status
stands LastGood p = p.had_snapshot

unfoldable pub refusal : Reference → Response → Answer
refusal p r = cond (is_shut p.status) Shut (cond (stands r.scope p) r.lacks NoSnapshot)

-- ---- calls: a message, or a question; and the lent buffer

pub record Reply : Type 0 where
  pub after : Reference
  pub answer : Answer
  pub value : Value
  pub buffer : List ℕ

unfoldable pub replied : Reference → List ℕ → Response → Reply
replied p buffer r =
    record {
      after = p;
      answer = refusal p r;
      value = cond (is_taken (refusal p r)) r.value (zeros r.value);
      buffer = cond (is_taken (refusal p r)) (overlaid buffer 0 r.text) buffer;
    }

pub data Ask : Type 0 where
  message : List ℕ → Ask
  question : Question → Ask

unfoldable pub does : Reference → Ask → List ℕ → Reply
does p (message s) buffer = record { after = (receive p s).book; answer = (receive p s).answer; value = amount (receive p s).moved; buffer = buffer }
does p (question q) buffer = replied p buffer (respond p (length buffer) q)

pub record Call : Type 0 where
  pub ask : Ask
  pub buffer : List ℕ

unfoldable pub replies_to : Reference → List Call → List Reply
replies_to p [] = []
replies_to p (c ∷ cs) = does p c.ask c.buffer ∷ replies_to (does p c.ask c.buffer).after cs

-- The book that a list of calls leaves.
unfoldable pub final : Reference → List Call → Reference
final p [] = p
final p (c ∷ cs) = final (does p c.ask c.buffer).after cs
