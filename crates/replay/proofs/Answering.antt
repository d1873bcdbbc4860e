-- Laws of one call: what its header asks, and the book's answer as words. Assumes nothing.
use Prim.Native.Nat.{ℕ}
use mathlib.Core.Path.{◌≡◌, refl, sym, ap, ap₂, ◌∙◌, subst}
use mathlib.Core.List.{List, ◌∷◌}
use native.Mathlib.Omega.{arith}
use borrow.Author.Tests.{ne_eqb}
use lib.ListN.{drop}
use Rattle.answer.specs.Answers.{answer_number}
use Rattle.answer.specs.declared.Answer.{Answer}
use Rattle.edit.specs.declared.Side.{Side}
use Rattle.reference.specs.declared.Scope.{Scope}
use Rattle.book.specs.declared.Book.{Book}
use Rattle.book.specs.declared.Step.{Step}
use Rattle.book.specs.declared.CountsReply.{CountsReply}
use Rattle.book.specs.declared.LevelReply.{LevelReply}
use Rattle.book.specs.declared.NumberReply.{NumberReply}
use Rattle.reference.specs.Reference.{Reference, Value, amount, Ask, message, question, replied, how_many, level_at, which_number, how_many_updates, write, does, receive}
use Rattle.reference.proofs.Claims.{same-buffer}
use Rattle.book.specs.Shown.{Good, shows, Received, AnswersCounts, AnswersLevel, AnswersAmount, Wrote}
use Rattle.text.specs.Words.{word_at}
use Rattle.replay.specs.Format.{opcode, scope_of, side_of, ask_of, level_words, value_words, reply_words}
use Rattle.replay.specs.Calls.{Answered, step_replied, counts_replied, level_replied, number_replied}
use Rattle.replay.specs.declared.asking.Replied.{Replied}

-- ---- what a header asks

module _ (c : List ℕ) {op : ℕ} (e : op ≡ opcode c) where
  pub asks-message : op ≡ 0 → message (drop 48 c) ≡ ask_of c
  unfolding ask_of
  asks-message h = rw (sym e ∙ h)

  pub asks_write : (op ≡ 0 → ⊥) → (op ≡ 1 → ⊥) → (op ≡ 2 → ⊥) → (op ≡ 3 → ⊥) → (op ≡ 4 → ⊥) → question write ≡ ask_of c
  unfolding ask_of
  asks_write n0 n1 n2 n3 n4 = rw (sym e, ne_eqb op 0 n0, ne_eqb op 1 n1, ne_eqb op 2 n2, ne_eqb op 3 n3, ne_eqb op 4 n4)

  module _ {n : ℕ} {scope : Scope} (f : n ≡ word_at c 8) (g : scope ≡ scope_of n) where
    pub asks-counts : op ≡ 1 → question (how_many scope) ≡ ask_of c
    unfolding ask_of
    asks-counts h = rw (sym e ∙ h, g, f)

    pub asks-level : op ≡ 2 → {m i : ℕ} {side : Side} → m ≡ word_at c 16 → side ≡ side_of m → i ≡ word_at c 24 → question (level_at scope side i) ≡ ask_of c
    unfolding ask_of
    asks-level h k l j = rw (sym e ∙ h, g, f, l, k, j)

    pub asks-number : op ≡ 3 → question (which_number scope) ≡ ask_of c
    unfolding ask_of
    asks-number h = rw (sym e ∙ h, g, f)

    pub asks-updates : op ≡ 4 → question (how_many_updates scope) ≡ ask_of c
    unfolding ask_of
    asks-updates h = rw (sym e ∙ h, g, f)

-- ---- the answer as words

pub as-asked : {p : Reference} {ask ask' : Ask} {before after : List ℕ} {r r' : Replied} → ask ≡ ask' → r' ≡ r → Answered p ask before after r → Answered p ask' before after r'
as-asked {p} {ask} {ask'} {before} {after} {r} {r'} e f a =
    subst (λ (x : Ask). Answered p x before after r') e (subst (Answered p ask before after) (sym f) a)

worded : {a a' : Answer} {v v' : Value} → a ≡ a' → v ≡ v' → answer_number a ∷ value_words v ≡ answer_number a' ∷ value_words v'
worded e f = ap₂ (λ (x : Answer) (y : Value). answer_number x ∷ value_words y) e f

module _ (b : Book) (buffer : List ℕ) where
  pub told-answered : (m : List ℕ) (s : Step) → Received (receive (shows b) m) s → Answered (shows b) (message m) buffer buffer (step_replied s)
  unfolding does step_replied value_words reply_words
  told-answered m s t =
      record { good = t.good; same = t.same; words = worded t.answer (ap amount t.moved); buffer = refl }

  module _ (g : Good b) where
    pub counts-answered : (scope : Scope) (s : CountsReply) → AnswersCounts b scope s → Answered (shows b) (question (how_many scope)) buffer buffer (counts_replied s)
    unfolding does replied counts_replied value_words reply_words
    counts-answered scope s a =
        record { good = subst Good (sym a.book) g; same = ap shows a.book; words = worded (a.answer buffer) (a.value buffer); buffer = same-buffer (shows b) (how_many scope) buffer (λ e. let z : ◌≡◌ {A = ℕ} 0 1 = cc in omega arith) }

    pub level-answered : (scope : Scope) (side : Side) (i : ℕ) (s : LevelReply) → AnswersLevel b scope side i s →
        Answered (shows b) (question (level_at scope side i)) buffer buffer (level_replied s)
    unfolding does replied level_replied value_words level_words reply_words
    level-answered scope side i s a =
        record { good = subst Good (sym a.book) g; same = ap shows a.book; words = worded (a.answer buffer) (a.value buffer); buffer = same-buffer (shows b) (level_at scope side i) buffer (λ e. let z : ◌≡◌ {A = ℕ} 0 1 = cc in omega arith) }

    pub number-answered : (scope : Scope) (s : NumberReply) → AnswersAmount b (which_number scope) s →
        Answered (shows b) (question (which_number scope)) buffer buffer (number_replied s)
    unfolding does replied number_replied value_words reply_words
    number-answered scope s a =
        record { good = subst Good (sym a.book) g; same = ap shows a.book; words = worded (a.answer buffer) (a.value buffer); buffer = same-buffer (shows b) (which_number scope) buffer (λ e. let z : ◌≡◌ {A = ℕ} 0 1 = cc in omega arith) }

    pub updates-answered : (scope : Scope) (s : NumberReply) → AnswersAmount b (how_many_updates scope) s →
        Answered (shows b) (question (how_many_updates scope)) buffer buffer (number_replied s)
    unfolding does replied number_replied value_words reply_words
    updates-answered scope s a =
        record { good = subst Good (sym a.book) g; same = ap shows a.book; words = worded (a.answer buffer) (a.value buffer); buffer = same-buffer (shows b) (how_many_updates scope) buffer (λ e. let z : ◌≡◌ {A = ℕ} 0 1 = cc in omega arith) }

    pub write-answered : (after : List ℕ) (s : NumberReply) → Wrote b buffer after s → Answered (shows b) (question write) buffer after (number_replied s)
    unfolding does replied number_replied value_words reply_words
    write-answered after s a =
        record { good = subst Good (sym a.book) g; same = ap shows a.book; words = worded a.answer a.value; buffer = a.buffer }
