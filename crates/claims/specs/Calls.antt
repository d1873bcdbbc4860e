-- Demand 3 of the code: one claim about a list of calls to one newly opened book, in any order: messages, questions on the current and on the last good
-- book, writings-out into buffers of any length and content. Assumes nothing: these are definitions.
use Rattle.std.specs.Prelude.{ℕ, ◌≡◌, List, [], ◌∷◌, map, take, Ok}
use contract.Lifetimes.{Lfts}
use Rattle.std.specs.Borrow.{Bor, MutBor}
use Rattle.decimal.specs.Decimal.{number as number_of}
use Rattle.answer.specs.declared.Answer.{Answer}
use Rattle.settings.specs.declared.Dialect.{Dialect}
use Rattle.edit.specs.declared.Side.{Side}
use Rattle.settings.specs.Settings.{kept}
use Rattle.layout.specs.declared.Kind.TheVariants.{Snapshot}
use Rattle.message.specs.Meaning.{Message, decode}
use Rattle.answer.specs.declared.Answer.TheVariants.{Taken}
use Rattle.reference.specs.Reference.{opened, Value, counts, level, amount, Reply, message, Question, question, how_many, level_at, which_number, how_many_updates, write, Call, replies_to}
use Rattle.reference.specs.Claims.{call}
use Rattle.reference.specs.declared.Scope.{Scope}
use Rattle.book.specs.declared.Book.{Book}
use Rattle.book.specs.declared.Step.{Step}
use Rattle.book.specs.declared.CountsReply.{CountsReply}
use Rattle.book.specs.declared.LevelReply.{LevelReply}
use Rattle.book.specs.declared.NumberReply.{NumberReply}
use Rattle.book.proofs.open.Reads as opens
use Rattle.book.proofs.Book.take.Reads as takes
use Rattle.book.proofs.Book.counts.Reads as counters
use Rattle.book.proofs.Book.level.Reads as levels
use Rattle.book.proofs.Book.number.Reads as numbers
use Rattle.book.proofs.Book.updates.Reads as updates
use Rattle.book.proofs.Book.write.Reads as writes

-- What a caller sees of a call.
pub record Seen : Type 0 where
  pub answer : Answer
  pub value : Value
  pub buffer : List ℕ

abbrev pub seen : Reply → Seen
seen r = record { answer = r.answer; value = r.value; buffer = r.buffer }

-- A list of calls to one book, and what was seen of each. A step is held to the contract of the method that is called, as the checker reads it: what it
-- requires (`Asked`) gives what it ensures (`Learnt`). Each gets the book as the last one left it.
pub data Made : Book → List Call → List Seen → Book → Type 0 where
  no_call : {b : Book} → Made b [] [] b
  a_message : {b e : Book} {buffer : List ℕ} {r : Step} {cs : List Call} {rs : List Seen} (κs : Lfts 1) (s : Bor (List ℕ))
      → (takes.Asked κs (b, (s, tt)) → takes.Learnt κs (b, (s, tt)) r (b, (s, tt))) → Made r.book cs rs e
      → Made b (call (message s.now) buffer ∷ cs) (record { answer = r.answer; value = amount r.moved; buffer = buffer } ∷ rs) e
  a_count : {b e : Book} {scope : Scope} {buffer : List ℕ} {r : CountsReply} {cs : List Call} {rs : List Seen} (κs : Lfts 0)
      → (counters.Asked κs (b, (scope, tt)) → counters.Learnt κs (b, (scope, tt)) r (b, (scope, tt))) → Made r.book cs rs e
      → Made b (call (question (how_many scope)) buffer ∷ cs) (record { answer = r.answer; value = counts r.bids r.asks; buffer = buffer } ∷ rs) e
  a_level : {b e : Book} {scope : Scope} {side : Side} {i : ℕ} {buffer : List ℕ} {r : LevelReply} {cs : List Call} {rs : List Seen} (κs : Lfts 0)
      → (levels.Asked κs (b, (scope, (side, (i, tt)))) → levels.Learnt κs (b, (scope, (side, (i, tt)))) r (b, (scope, (side, (i, tt))))) → Made r.book cs rs e
      → Made b (call (question (level_at scope side i)) buffer ∷ cs)
      (record { answer = r.answer; value = level (record { price = number_of r.price; size = number_of r.size }); buffer = buffer } ∷ rs) e
  a_number : {b e : Book} {scope : Scope} {buffer : List ℕ} {r : NumberReply} {cs : List Call} {rs : List Seen} (κs : Lfts 0)
      → (numbers.Asked κs (b, (scope, tt)) → numbers.Learnt κs (b, (scope, tt)) r (b, (scope, tt))) → Made r.book cs rs e
      → Made b (call (question (which_number scope)) buffer ∷ cs) (record { answer = r.answer; value = amount r.value; buffer = buffer } ∷ rs) e
  an_updates : {b e : Book} {scope : Scope} {buffer : List ℕ} {r : NumberReply} {cs : List Call} {rs : List Seen} (κs : Lfts 0)
      → (updates.Asked κs (b, (scope, tt)) → updates.Learnt κs (b, (scope, tt)) r (b, (scope, tt))) → Made r.book cs rs e
      → Made b (call (question (how_many_updates scope)) buffer ∷ cs) (record { answer = r.answer; value = amount r.value; buffer = buffer } ∷ rs) e
  a_write : {b e : Book} {r : NumberReply} {cs : List Call} {rs : List Seen} (κs : Lfts 1) (u w : MutBor (List ℕ))
      → (writes.Asked κs (b, (u, tt)) → writes.Learnt κs (b, (u, tt)) r (b, (w, tt))) → Made r.book cs rs e
      → Made b (call (question write) u.now ∷ cs) (record { answer = r.answer; value = amount r.value; buffer = w.now } ∷ rs) e

-- Every answer, level with its text, length, number and count, and every byte of every buffer is the reference book's. What the book is between two calls
-- is what questions put there would be answered.
abbrev pub ThirdDemand : Type 0
ThirdDemand = (κs : Lfts 1) (dialect : Dialect) (depth : ℕ) (name : Bor (List ℕ)) (b e : Book) (cs : List Call) (rs : List Seen)
    → opens.Learnt κs (dialect, (depth, (name, tt))) b (dialect, (depth, (name, tt))) → Made b cs rs e
    → rs ≡ map seen (replies_to (opened (record { dialect = dialect; depth = depth; name = name.now })) cs)

-- ---- two books of the code, opened with the same settings

-- A newly opened book.
abbrev pub Opens : Dialect → ℕ → List ℕ → Book → Type 0
Opens dialect depth name b = (κs : Lfts 1) × (n : Bor (List ℕ)) × (n.now ≡ name) × opens.Learnt κs (dialect, (depth, (n, tt))) b (dialect, (depth, (n, tt)))

-- From a taken snapshot on, all that is seen of one book is what is seen of a new one that is handed the snapshot and what followed.
abbrev pub FromSnapshotCode : Type 0
FromSnapshotCode = (dialect : Dialect) (depth : ℕ) (name : List ℕ) (b c e n f : Book) (cs ds : List Call) (s buffer : List ℕ) (m : Message) (r : Seen) (qs rs ts : List Seen)
    → Opens dialect depth name b → Made b cs qs c → Made c (call (message s) buffer ∷ ds) (r ∷ rs) e
    → decode (kept (record { dialect = dialect; depth = depth; name = name })) s ≡ Ok m → m.kind ≡ Snapshot → r.answer ≡ Taken
    → Opens dialect depth name n → Made n (call (message s) buffer ∷ ds) ts f
    → r ∷ rs ≡ ts

-- The bytes that the writer left in the lent room, handed to a new book: it takes them, and answers every question but that for the
-- count of updates, the writer among them, as the book that was written out.
abbrev pub RoundTripCode : Type 0
RoundTripCode = (dialect : Dialect) (depth : ℕ) (name : List ℕ) (b c d e n f : Book) (cs : List Call) (lent buffer u : List ℕ) (k : ℕ) (q : Question) (qs : List Seen) (w r a z : Seen)
    → Opens dialect depth name b → Made b cs qs c → Made c (call (question write) lent ∷ []) (w ∷ []) d → w.answer ≡ Taken → w.value ≡ amount k
    → Opens dialect depth name n → Made n (call (message (take k w.buffer)) buffer ∷ call (question q) u ∷ []) (r ∷ a ∷ []) f
    → ((scope : Scope) → q ≡ how_many_updates scope → ⊥) → Made c (call (question q) u ∷ []) (z ∷ []) e
    → (r.answer ≡ Taken) × (a ≡ z)
