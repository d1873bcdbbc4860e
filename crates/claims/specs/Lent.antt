-- Demand 3 of the code for a book whose words are lent, which is how the line program keeps it: opened, split into its header and words, handed messages
-- and asked how many bids and asks there are. Assumes nothing: these are definitions.
use Rattle.std.specs.Prelude.{ℕ, ◌≡◌, List, [], ◌∷◌, map}
use contract.Lifetimes.{Lfts}
use Rattle.std.specs.Borrow.{Bor, MutBor}
use Rattle.settings.specs.declared.Dialect.{Dialect}
use Rattle.lifecycle.specs.declared.Counts.{Counts}
use Rattle.reference.specs.Reference.{opened, counts, amount, message, question, how_many, Call, replies_to}
use Rattle.reference.specs.Claims.{call}
use Rattle.reference.specs.declared.Scope.{Scope}
use Rattle.book.specs.declared.Book.{Book}
use Rattle.book.specs.declared.BookParts.{BookParts}
use Rattle.book.specs.declared.Header.{Header}
use Rattle.book.specs.declared.Answered.{Answered}
use Rattle.book.proofs.open.Reads as opens
use Rattle.book.proofs.Book.split.Reads as splits
use Rattle.book.proofs.Header.take.Reads as takes
use Rattle.book.proofs.Header.counts.Reads as counters
use Rattle.crc32.proofs.fill_table.Reads as fills
use Rattle.claims.specs.Calls.{Seen, seen}

-- A list of calls on a header and lent words, and what was seen of each; a step is held to the contract of the function that is called, as the checker
-- reads it. The table to sum by is one that `fill_table` left.
pub data MadeIn : Header → List ℕ → List ℕ → List Call → List Seen → Type 0 where
  no_call_in : {h : Header} {bids asks : List ℕ} → MadeIn h bids asks [] []
  a_message_in : {h : Header} {r : Answered} {buffer : List ℕ} {cs : List Call} {rs : List Seen} (κs : Lfts 4) (u v x y : MutBor (List ℕ)) (s t : Bor (List ℕ)) (κt : Lfts 1) (t0 t1 : MutBor (List ℕ))
      → fills.Learnt κt (t0, tt) tt (t1, tt) → t.now ≡ t1.now
      → (takes.Asked κs (h, (u, (v, (s, (t, tt))))) → takes.Learnt κs (h, (u, (v, (s, (t, tt))))) r (h, (x, (y, (s, (t, tt)))))) → MadeIn r.header x.now y.now cs rs
      → MadeIn h u.now v.now (call (message s.now) buffer ∷ cs) (record { answer = r.answer; value = amount r.moved; buffer = buffer } ∷ rs)
  a_count_in : {h : Header} {bids asks buffer : List ℕ} {scope : Scope} {r : Counts} {cs : List Call} {rs : List Seen} (κs : Lfts 0)
      → counters.Learnt κs (h, (scope, tt)) r (h, (scope, tt)) → MadeIn h bids asks cs rs
      → MadeIn h bids asks (call (question (how_many scope)) buffer ∷ cs) (record { answer = r.answer; value = counts r.bids r.asks; buffer = buffer } ∷ rs)

abbrev pub ThirdDemandLent : Type 0
ThirdDemandLent = (κs : Lfts 1) (κp : Lfts 0) (dialect : Dialect) (depth : ℕ) (name : Bor (List ℕ)) (b : Book) (p : BookParts) (cs : List Call) (rs : List Seen)
    → opens.Learnt κs (dialect, (depth, (name, tt))) b (dialect, (depth, (name, tt))) → splits.Learnt κp (b, tt) p (b, tt) → MadeIn p.header p.bids p.asks cs rs
    → rs ≡ map seen (replies_to (opened (record { dialect = dialect; depth = depth; name = name.now })) cs)
