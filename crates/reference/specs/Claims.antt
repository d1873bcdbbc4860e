-- What is claimed of reference books, as statements; `proofs/Claims` proves each under its own name. No code enters here: the contracts say that the
-- code's book shows a reference book at every step. Assumes nothing: these are definitions.
use Rattle.std.specs.Prelude.{ℕ, ◌≤◌, ◌<◌, ◌≡◌, Bool, true, false, ◌&&◌, ◌||◌, cond, List, [], ◌∷◌, ◌++◌, length, Err, Ok, Result}
use Rattle.decimal.specs.Decimal.{value}
use Rattle.settings.specs.Settings.{Config, good, kept}
use Rattle.settings.specs.declared.Dialect.{Dialect}
use Rattle.settings.specs.declared.Dialect.TheVariants.{K}
use Rattle.edit.specs.Edit.{PriceLevel}
use Rattle.edit.specs.declared.Side.TheVariants.{Bids, Asks}
use Rattle.level.specs.Side.{names_twice}
use Rattle.layout.specs.Layout.{is_snapshot, Printed, printed, unprinted}
use Rattle.layout.specs.declared.Kind.{Kind}
use Rattle.layout.specs.declared.Kind.TheVariants.{Snapshot, Update}
use Rattle.answer.specs.Answers.{answer_number as number_of, one_of, to_messages, to_questions, is_taken, leaves_status}
use Rattle.message.specs.Meaning.{Message, decode}
use Rattle.answer.specs.declared.Answer.{Answer}
use Rattle.answer.specs.declared.Answer.TheVariants.{Taken, Shut, NoSnapshot}
use Rattle.reference.specs.Reference.{waiting, live, with_status, Sides, Reference, rules, is_shut, is_live, opened, edits_for, sides_after, levels_moved, prices_of, checksum_of, taken, receive, Question, write, zeros, respond, Reply, Ask, message, question, does, Call, replies_to, final, snapshot_text}
use Rattle.reference.specs.declared.Scope.{Scope}
use Rattle.reference.specs.declared.Scope.TheVariants.{Current, LastGood}

-- ---- demand 1: every call on every book has an answer of the table, and a refusal touches nothing but the status, as the table's last column says.
-- Rules out a refusal that loses levels, a half-applied message, a value beside a refusal, and a question that changes something.

-- "Waiting" keeps levels, number and count as last good.
pub record Refused (p : Reference) (lent : List ℕ) (r : Reply) : Type 0 where
  pub config : r.after.config ≡ p.config
  pub status : r.after.status ≡ cond (leaves_status r.answer) p.status waiting
  pub last : r.after.last ≡ p.last
  pub had_snapshot : r.after.had_snapshot ≡ p.had_snapshot
  -- all zeros
  pub value : r.value ≡ zeros r.value
  pub buffer : r.buffer ≡ lent

pub record Demand1 (p : Reference) (buffer : List ℕ) : Type 0 where
  -- "No number is given otherwise."
  pub of_message : (s : List ℕ) → one_of to_messages (number_of (does p (message s) buffer).answer) ≡ true
  pub of_question : (q : Question) → one_of to_questions (number_of (does p (question q) buffer).answer) ≡ true
  pub refused : (ask : Ask) → ((does p ask buffer).answer ≡ Taken → ⊥) → Refused p buffer (does p ask buffer)
  -- "Questions and the writer .. change no book", answered or not.
  pub unchanged : (q : Question) → (does p (question q) buffer).after ≡ p
  -- Only the writer writes.
  pub others_buffer : (ask : Ask) → (ask ≡ question write → ⊥) → (does p ask buffer).buffer ≡ buffer

abbrev pub FirstDemand : Type 0
FirstDemand = (p : Reference) (buffer : List ℕ) → Demand1 p buffer

-- Bad settings open a shut book, which answers 1 to every call, whatever came before; good settings never do.
abbrev pub SettingsDecide : Type 0
SettingsDecide = (t : Config) (cs : List Call) (ask : Ask) (buffer : List ℕ)
    → (good t ≡ false → (does (final (opened t) cs) ask buffer).answer ≡ Shut) × (good t ≡ true → (does (final (opened t) cs) ask buffer).answer ≡ Shut → ⊥)

-- ---- demand 2: a message is taken exactly when it can be, and then the book is the one that the rules give.
-- Rules out a book that refuses everything, one that takes what it should refuse, and one that answers 0 and leaves the book alone.

-- Live, or waiting and handed a snapshot.
pub data Ready (p : Reference) (m : Message) : Type 0 where
  when_live : p.status ≡ live → Ready p m
  restarts : p.status ≡ waiting → m.kind ≡ Snapshot → Ready p m

-- K snapshots carry no checksum; all others are compared.
pub data Agrees (c : Printed) (sum : ℕ) : Type 0 where
  carries_none : c ≡ unprinted → Agrees c sum
  the_same : c ≡ printed sum → Agrees c sum

-- Where both sides have levels, the best bid is below the best ask.
abbrev pub Uncrossed : Sides → Type 0
Uncrossed s = (bid ask : PriceLevel) (bids asks : List PriceLevel) → s.bids ≡ bid ∷ bids → s.asks ≡ ask ∷ asks → value bid.price < value ask.price

pub record Acceptable (p : Reference) (m : Message) : Type 0 where
  pub ready : Ready p m
  -- A snapshot names no price twice on a side.
  pub once : m.kind ≡ Snapshot → (names_twice (prices_of (edits_for Bids m)) ≡ false) × (names_twice (prices_of (edits_for Asks m)) ≡ false)
  -- Where messages are numbered, an update's number is greater than the book's.
  pub newer : (rules p).numbered ≡ true → m.kind ≡ Update → p.last.number < m.number
  -- Where updates are linked too, an update names the book's number as the one before its own.
  pub follows : (rules p).numbered ≡ true → (rules p).linked ≡ true → m.kind ≡ Update → m.previous ≡ p.last.number
  -- No more levels stand on a side afterwards than may.
  pub few : (length (sides_after p m).bids ≤ (rules p).levels) × (length (sides_after p m).asks ≤ (rules p).levels)
  -- The book is not crossed afterwards.
  pub uncrossed : Uncrossed (sides_after p m)
  -- A checksum, if the message carries one, is that of the book afterwards.
  pub checksum : Agrees m.checksum (checksum_of (rules p) (sides_after p m))

pub record Demand2 (p : Reference) (s : List ℕ) : Type 0 where
  pub only_when : (receive p s).answer ≡ Taken → (m : Message) × (decode p.config s ≡ Ok m) × Acceptable p m
  pub when : (m : Message) → decode p.config s ≡ Ok m → Acceptable p m → (receive p s).answer ≡ Taken
  pub then : (m : Message) → decode p.config s ≡ Ok m → (receive p s).answer ≡ Taken → (receive p s).book ≡ taken p m
  -- It moved as many levels as its entries do.
  pub moved : (m : Message) → decode p.config s ≡ Ok m → (receive p s).answer ≡ Taken → (receive p s).moved ≡ levels_moved p m

abbrev pub SecondDemand : Type 0
SecondDemand = (p : Reference) (s : List ℕ) → Demand2 p s

-- "K snapshots carry no checksum; all others are compared", and a K message has no sequence number. Rules out a message that gets by for want of a checksum.
pub record Carries (d : Dialect) (kind : Kind) (checksum : Printed) (sequence : ℕ) : Type 0 where
  pub compared : checksum ≡ unprinted → (d ≡ K) × (kind ≡ Snapshot)
  pub none : d ≡ K → kind ≡ Snapshot → checksum ≡ unprinted
  pub number : d ≡ K → sequence ≡ 0

abbrev pub AllCompared : Type 0
AllCompared = (t : Config) (s : List ℕ) (m : Message) → decode t s ≡ Ok m → Carries t.dialect m.kind m.checksum m.number

-- ---- demand 3, of lists of calls

abbrev pub call : Ask → List ℕ → Call
call ask buffer = record { ask = ask; buffer = buffer }

-- From any taken snapshot on, every reply, with every byte of buffer and the whole book afterwards, is what a new book with the same settings gives,
-- handed that snapshot and what followed. Rules out a past that shows through a snapshot: an old level, number, count or gsn.
abbrev pub FromSnapshot : Type 0
FromSnapshot = (t : Config) (cs ds : List Call) (s buffer : List ℕ) (m : Message) → decode (kept t) s ≡ Ok m → m.kind ≡ Snapshot
    → (receive (final (opened t) cs) s).answer ≡ Taken
    → replies_to (opened t) (cs ++ (call (message s) buffer ∷ ds)) ≡ replies_to (opened t) cs ++ replies_to (opened t) (call (message s) buffer ∷ ds)

-- The messages that a list of calls has taken, in their order.
unfoldable pub if_answered : Answer → Result Message Answer → List Message
if_answered a (Err b) = []
if_answered a (Ok m) = cond (is_taken a) (m ∷ []) []

unfoldable pub taken_in : Reference → Ask → List Message
taken_in p (message s) = if_answered (receive p s).answer (decode p.config s)
taken_in p (question q) = []

unfoldable pub taken_of : Reference → List Call → List Message
taken_of p [] = []
taken_of p (c ∷ cs) = taken_in p c.ask ++ taken_of (does p c.ask c.buffer).after cs

unfoldable pub any_snapshot : List Message → Bool
any_snapshot [] = false
any_snapshot (m ∷ ms) = is_snapshot m.kind || any_snapshot ms

-- The latest snapshot and what follows it.
unfoldable pub since_snapshot : List Message → List Message
since_snapshot [] = []
since_snapshot (m ∷ ms) = cond (any_snapshot ms) (since_snapshot ms) (cond (is_snapshot m.kind) (m ∷ ms) [])

pub data Begins : List Message → Type 0 where
  begins : (m : Message) (ms : List Message) → m.kind ≡ Snapshot → any_snapshot ms ≡ false → Begins (m ∷ ms)

-- The rules alone, message after message.
unfoldable pub rebuilt : Reference → List Message → Reference
rebuilt p [] = p
rebuilt p (m ∷ ms) = rebuilt (taken p m) ms

-- A live book is the one that the rules make of the latest taken snapshot and the messages taken after it, and of nothing else in the list. A book that
-- waits after a snapshot is that one too, but for its status. Rules out a book that applies only the first message, or drops one, or keeps an invented count.
pub record Latest (t : Config) (cs : List Call) : Type 0 where
  pub snapshot_first : (final (opened t) cs).had_snapshot ≡ true → Begins (since_snapshot (taken_of (opened t) cs))
  pub last_good : (final (opened t) cs).had_snapshot ≡ true
      → final (opened t) cs ≡ with_status (final (opened t) cs).status (rebuilt (opened t) (since_snapshot (taken_of (opened t) cs)))
  pub had_snapshot : (final (opened t) cs).status ≡ live → (final (opened t) cs).had_snapshot ≡ true
  pub current : (final (opened t) cs).status ≡ live → final (opened t) cs ≡ rebuilt (opened t) (since_snapshot (taken_of (opened t) cs))

abbrev pub LatestSnapshot : Type 0
LatestSnapshot = (t : Config) (cs : List Call) → Latest t cs

-- No book is ever crossed: whatever the calls, the sides of a live book are not, nor those that a waiting one keeps as last good. Rules out a crossed book whose
-- checksum agrees, and a crossed K snapshot, which carries none.
abbrev pub NeverCrossed : Type 0
NeverCrossed = (t : Config) (cs : List Call) → Uncrossed (final (opened t) cs).last.sides

-- "A K book's number is always 0."
abbrev pub KNumber : Type 0
KNumber = (t : Config) (cs : List Call) → (kept t).dialect ≡ K → (final (opened t) cs).last.number ≡ 0

-- "A current price is what the writer, or any of these questions but those on the last good book, gives with answer number 0."
unfoldable pub is_current : Scope → Bool
is_current Current = true
is_current LastGood = false

unfoldable pub asks_price : Reference → Ask → Bool
asks_price p (message s) = false
asks_price p (question q) = is_current (respond p 0 q).scope

-- The replies of a list of calls that are current prices.
unfoldable pub prices : Reference → List Call → List Reply
prices p [] = []
prices p (c ∷ cs) =
    cond (asks_price p c.ask && is_taken (does p c.ask c.buffer).answer)
    (does p c.ask c.buffer ∷ prices (does p c.ask c.buffer).after cs)
    (prices (does p c.ask c.buffer).after cs)

-- Before the first taken snapshot, and from a refusal that sets the book waiting until the next taken snapshot, no current price is given.
-- Rules out a price from a book that the venue's checksum, or anything else, has put in doubt.
pub record NoPrice : Type 0 where
  -- A book that is not live takes no update.
  pub update : (p : Reference) (s : List ℕ) (m : Message) → is_live p.status ≡ false → decode p.config s ≡ Ok m → m.kind ≡ Update
      → (receive p s).answer ≡ Taken → ⊥
  pub not_live : (p : Reference) (cs : List Call) → is_live p.status ≡ false → any_snapshot (taken_of p cs) ≡ false → prices p cs ≡ []
  -- "Asked for one it answers 'no snapshot', or the refusal that the question's own order of checks puts before it."
  pub answer : (p : Reference) (ask : Ask) (buffer : List ℕ) → is_live p.status ≡ false → asks_price p ask ≡ true
      → (does p ask buffer).answer ≡ cond (is_shut p.status) Shut NoSnapshot
  pub at_first : (t : Config) (cs : List Call) → any_snapshot (taken_of (opened t) cs) ≡ false → prices (opened t) cs ≡ []
  pub after_refusal : (p : Reference) (s : List ℕ) (cs : List Call) → ((receive p s).answer ≡ Taken → ⊥) → leaves_status (receive p s).answer ≡ false
      → any_snapshot (taken_of (receive p s).book cs) ≡ false → prices (receive p s).book cs ≡ []

-- ---- the round trip: what the writer writes of a live book is taken by a new book with the same settings, which then shows the same levels and number,
-- with a count of 0. Rules out a writer that loses a text, a level or the number, and one whose snapshot our own reader refuses.
pub record ReadsBack (t : Config) (p : Reference) : Type 0 where
  pub answer : (receive (opened t) (snapshot_text p)).answer ≡ Taken
  pub status : (receive (opened t) (snapshot_text p)).book.status ≡ live
  pub sides : (receive (opened t) (snapshot_text p)).book.last.sides ≡ p.last.sides
  pub number : (receive (opened t) (snapshot_text p)).book.last.number ≡ p.last.number
  pub updates : (receive (opened t) (snapshot_text p)).book.last.updates ≡ 0

abbrev pub RoundTrip : Type 0
RoundTrip = (t : Config) (cs : List Call) → is_live (final (opened t) cs).status ≡ true → ReadsBack t (final (opened t) cs)
