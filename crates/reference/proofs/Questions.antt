-- What questions and the writer answer: which answers they have, and that a book that is not live gives no current price.
-- Assumes nothing.
use mathlib.Core.Path.{◌≡◌, refl, ap, ◌∙◌}
use mathlib.Core.List.{List}
use mathlib.Core.Bool.{Bool, true, false, false≢true, ◌&&◌, cond}
use Prim.Native.Nat.{ℕ}
use lib.Dec.{ltb}
use lib.ListN.{length}
use Rattle.answer.specs.Answers.{answer_number, is_taken}
use Rattle.answer.specs.declared.Answer.{Answer}
use Rattle.answer.specs.declared.Answer.TheVariants.{Taken, Shut, NoSnapshot, NoLevel, NoRoom}
use Rattle.reference.specs.Reference.{is_shut, is_live, Reference, stands, side_of, snapshot_text, Question, how_many, level_at, which_number, how_many_updates, write, Value, counts, level, amount, zeros, Response, respond, refusal, replied, Ask, message, question, does}
use Rattle.reference.specs.Claims.{is_current, asks_price}
use Rattle.reference.specs.declared.Scope.{Scope}
use Rattle.reference.specs.declared.Scope.TheVariants.{Current, LastGood}

-- ---- a question answers 0, 1, 10, 14 or 15

module _ (P : Answer → Type 0) (p-taken : P Taken) (p-no-level : P NoLevel) (p-no-room : P NoRoom) (p : Reference) where
  pub lacks-one : (room : ℕ) (q : Question) → P (respond p room q).lacks
  unfolding respond
  lacks-one room (how_many scope) = p-taken
  lacks-one room (level_at scope side i) = at (ltb i (length (side_of side p)))
    where
      at : (b : Bool) → P (cond b Taken NoLevel)
      at true = p-taken
      at false = p-no-level
  lacks-one room (which_number scope) = p-taken
  lacks-one room (how_many_updates scope) = p-taken
  lacks-one room write = at (ltb room (length (snapshot_text p)))
    where
      at : (b : Bool) → P (cond b NoRoom Taken)
      at true = p-no-room
      at false = p-taken

module _ (P : Answer → Type 0) (p-taken : P Taken) (p-shut : P Shut) (p-no-snapshot : P NoSnapshot) (p-no-level : P NoLevel) (p-no-room : P NoRoom) (p : Reference) where
  refusal-one : (r : Response) → P r.lacks → P (refusal p r)
  unfolding refusal
  refusal-one r h = at (is_shut p.status) (stands r.scope p)
    where
      at : (a b : Bool) → P (cond a Shut (cond b r.lacks NoSnapshot))
      at true b = p-shut
      at false true = h
      at false false = p-no-snapshot

  pub question-one : (q : Question) (buffer : List ℕ) → P (does p (question q) buffer).answer
  unfolding does replied
  question-one q buffer = refusal-one (respond p (length buffer) q) (lacks-one P p-taken p-no-level p-no-room p (length buffer) q)

-- ---- a refused one shows zeros, and zeros are zeros of themselves

pub zeros-again : (v : Value) → zeros (zeros v) ≡ zeros v
unfolding zeros
zeros-again (counts m n) = refl
zeros-again (level l) = refl
zeros-again (amount n) = refl

-- ---- a book that is not live gives no current price

current-refused : (p : Reference) (r : Response) → is_live p.status ≡ false → r.scope ≡ Current → refusal p r ≡ cond (is_shut p.status) Shut NoSnapshot
unfolding refusal stands
current-refused p r h e = rw (e, stands, h)

waits : (b : Bool) → is_taken (cond b Shut NoSnapshot) ≡ false
unfolding is_taken answer_number
waits true = refl
waits false = refl

-- the scope does not hang on the room
scope-same : (p : Reference) (m n : ℕ) (q : Question) → (respond p m q).scope ≡ (respond p n q).scope
unfolding respond
scope-same p m n (how_many scope) = refl
scope-same p m n (level_at scope side i) = refl
scope-same p m n (which_number scope) = refl
scope-same p m n (how_many_updates scope) = refl
scope-same p m n write = refl

pub no_answer : (p : Reference) (ask : Ask) (buffer : List ℕ) → is_live p.status ≡ false → (asks_price p ask && is_taken (does p ask buffer).answer) ≡ false
unfolding asks_price does replied is_current
no_answer p (message s) buffer h = refl
no_answer p (question q) buffer h = at (respond p 0 q).scope (scope-same p (length buffer) 0 q)
  where
    at : (scope : Scope) → (respond p (length buffer) q).scope ≡ scope → (is_current scope && is_taken (refusal p (respond p (length buffer) q))) ≡ false
    at Current e = ap is_taken (current-refused p (respond p (length buffer) q) h e) ∙ waits (is_shut p.status)
    at LastGood e = refl

pub no-snapshot : (p : Reference) (ask : Ask) (buffer : List ℕ) → is_live p.status ≡ false → asks_price p ask ≡ true → (does p ask buffer).answer ≡ cond (is_shut p.status) Shut NoSnapshot
unfolding asks_price does replied is_current
no-snapshot p (message s) buffer h k = absurd (false≢true k)
no-snapshot p (question q) buffer h k = at (respond p 0 q).scope (scope-same p (length buffer) 0 q) k
  where
    at : (scope : Scope) → (respond p (length buffer) q).scope ≡ scope → is_current scope ≡ true → refusal p (respond p (length buffer) q) ≡ cond (is_shut p.status) Shut NoSnapshot
    at Current e g = current-refused p (respond p (length buffer) q) h e
    at LastGood e g = absurd (false≢true g)
