-- Two live books with the same sides and number answer the questions on them alike; and what the writer leaves in the buffer. Assumes nothing.
use mathlib.Core.Path.{◌≡◌, refl, sym, ap, ◌∙◌}
use mathlib.Core.List.{List}
use mathlib.Core.Bool.{Bool, true, false, false≢true, cond}
use Prim.Native.Nat.{ℕ, ◌+◌}
use native.Mathlib.Omega.{arith}
use lib.Dec.{ltb}
use lib.ListN.{length, take, drop}
use lib.Seq.{take_at}
use Rattle.decimal.specs.Buffer.{overlaid}
use Rattle.answer.specs.Answers.{answer_number, is_taken}
use Rattle.answer.specs.declared.Answer.TheVariants.{Taken, Shut, NoSnapshot, NoRoom}
use Rattle.reference.specs.Reference.{Status, shut, waiting, live, is_shut, is_live, Reference, stands, side_of, text_in, snapshot_text, Question, how_many, level_at, which_number, how_many_updates, write, amount, Response, respond, refusal, replied, question, does}
use Rattle.settings.specs.Settings.{Config}
use Rattle.settings.specs.declared.Dialect.{Dialect}
use Rattle.settings.specs.declared.Dialect.TheVariants.{K, M, Unknown}
use Rattle.edit.specs.declared.Side.TheVariants.{Bids, Asks}
use Rattle.reference.specs.declared.Scope.{Scope}
use Rattle.reference.specs.declared.Scope.TheVariants.{Current, LastGood}

-- ---- what the writer wrote

module _ (p : Reference) (lent : List ℕ) (h : (does p (question write) lent).answer ≡ Taken) where
  pub wrote-live : is_live p.status ≡ true
  unfolding does replied respond refusal stands is_live answer_number
  wrote-live = go (is_shut p.status) (is_live p.status) refl h
    where
      go : (a b : Bool) → is_live p.status ≡ b → cond a Shut (cond b (cond (ltb (length lent) (length (snapshot_text p))) NoRoom Taken) NoSnapshot) ≡ Taken → b ≡ true
      go true b e k = let z : ◌≡◌ {A = ℕ} 1 0 = ap answer_number k in absurd (omega arith)
      go false true e k = refl
      go false false e k = let z : ◌≡◌ {A = ℕ} 10 0 = ap answer_number k in absurd (omega arith)

  taken_yes : is_taken (refusal p (respond p (length lent) write)) ≡ true
  unfolding does replied is_taken answer_number
  taken_yes = ap is_taken h

  pub wrote-length : (does p (question write) lent).value ≡ amount (length (snapshot_text p))
  unfolding does replied respond
  wrote-length = rw taken_yes

  pub wrote-text : take (length (snapshot_text p)) (does p (question write) lent).buffer ≡ snapshot_text p
  unfolding does replied respond overlaid
  wrote-text = rw taken_yes (take_at (snapshot_text p) (drop (0 + length (snapshot_text p)) lent) (length (snapshot_text p)) refl)

-- ---- questions but that for the count of updates

pub refusal-live : (p : Reference) (r : Response) → is_live p.status ≡ true → p.had_snapshot ≡ true → refusal p r ≡ r.lacks
unfolding refusal is_shut is_live stands
refusal-live p r h k = go p.status refl h r.scope refl
  where
    go : (x : Status) → p.status ≡ x → is_live x ≡ true → (y : Scope) → r.scope ≡ y → cond (is_shut p.status) Shut (cond (stands r.scope p) r.lacks NoSnapshot) ≡ r.lacks
    go shut e g y f = absurd (false≢true g)
    go waiting e g y f = absurd (false≢true g)
    go live e g Current f = rw (e, f)
    go live e g LastGood f = rw (e, f, k)

module _ (p q : Reference) (config : p.config ≡ q.config) (sides : p.last.sides ≡ q.last.sides) (number : p.last.number ≡ q.last.number) where
  text-alike : snapshot_text p ≡ snapshot_text q
  unfolding snapshot_text text_in
  text-alike = ap (λ (t : Config). text_in t.dialect p) config ∙ at q.config.dialect
    where
      at : (d : Dialect) → text_in d p ≡ text_in d q
      at K = rw (config, sides)
      at (M e) = rw (config, sides, number)
      at Unknown = refl

  respond-alike : (room : ℕ) (x : Question) → ((scope : Scope) → x ≡ how_many_updates scope → ⊥) → respond p room x ≡ respond q room x
  unfolding respond side_of
  respond-alike room (how_many scope) h = rw sides
  respond-alike room (level_at scope Bids i) h = rw sides
  respond-alike room (level_at scope Asks i) h = rw sides
  respond-alike room (which_number scope) h = rw number
  respond-alike room (how_many_updates scope) h = absurd (h scope refl)
  respond-alike room write h = rw text-alike

  module _ (lp : is_live p.status ≡ true) (lq : is_live q.status ≡ true) (hp : p.had_snapshot ≡ true) (hq : q.had_snapshot ≡ true)
      (x : Question) (h : (scope : Scope) → x ≡ how_many_updates scope → ⊥) (u : List ℕ) where
    pub answer-alike : (does p (question x) u).answer ≡ (does q (question x) u).answer
    unfolding does replied
    answer-alike =
        refusal-live p (respond p (length u) x) lp hp ∙ ap (λ (r : Response). r.lacks) (respond-alike (length u) x h) ∙ sym (refusal-live q (respond q (length u) x) lq hq)

    pub value-alike : (does p (question x) u).value ≡ (does q (question x) u).value
    unfolding does replied
    value-alike = rw (answer-alike, respond-alike (length u) x h)

    pub buffer-alike : (does p (question x) u).buffer ≡ (does q (question x) u).buffer
    unfolding does replied
    buffer-alike = rw (answer-alike, respond-alike (length u) x h)
