-- The writer: the text that is laid into the buffer is the snapshot of the reference book.
-- Assumes nothing.
use Rattle.std.specs.Prelude.{None, Option, Some}
use mathlib.Core.Path.{◌≡◌, refl, sym, ap, ◌∙◌}
use mathlib.Core.List.{List, map}
use mathlib.Core.Bool.{Bool, true, false, cond}
use Prim.Native.Nat.{ℕ, ◌+◌, ◌≤◌}
use native.Mathlib.Omega.{arith}
use borrow.Author.Tests.{leb-true, leb-false, le-leb, lt-ltb, le-ltb}
use lib.Dec.{leb, ltb}
use lib.ListN.{length, take, length-take}
use Rattle.lifecycle.specs.Lifecycle.{status_of, answers, refusal_of}
use Rattle.decimal.specs.Buffer.{overlaid}
use Rattle.decimal.specs.Laying.{fits, Laid}
use Rattle.settings.specs.Kept.{config_of}
use Rattle.settings.specs.declared.Dialect.{Dialect}
use Rattle.settings.specs.declared.Dialect.TheVariants.{K, M, Unknown}
use Rattle.settings.specs.declared.Edition.{Edition}
use Rattle.settings.specs.declared.SumText.TheVariants.{Interleaved}
use Rattle.settings.specs.Rules.{rules_of}
use Rattle.level.specs.Words.{shown}
use Rattle.level.specs.Kept.{held}
use Rattle.crc32_spec.specs.Crc.{crc}
use Rattle.checksum.specs.Text.{m_checksum_text}
use Rattle.reference.proofs.Sums.{sum-interleaved}
use Rattle.answer.specs.Answers.{answer_number as number_of, is_taken}
use Rattle.answer.specs.declared.Answer.{Answer}
use Rattle.answer.specs.declared.Answer.TheVariants.{Taken, NoRoom}
use Rattle.writer.specs.Snapshot.{k_snapshot, m_snapshot}
use Rattle.reference.specs.Reference.{Reference, text_in, snapshot_text, write, amount, zeros, Response, respond, refusal, replied, does}
use Rattle.book.specs.Shown.{shows, Good, Wrote}
use Rattle.reference.specs.declared.Scope.TheVariants.{Current}
use Rattle.book.specs.declared.Book.{Book}
use Rattle.book.proofs.Asking.{asked-yes, reply-taken, reply-refused, no-refused}

-- ---- the text by the dialect

module _ (b : Book) where
  abbrev name : List ℕ
  name = take b.settings.length b.settings.name

  pub name-length : Good b → length name ≡ b.settings.length
  name-length g = let r = g.room in let s = g.short in let l = length-take b.settings.length b.settings.name in omega arith

  text-is : (d : Dialect) → b.settings.dialect ≡ d → snapshot_text (shows b) ≡ text_in d (shows b)
  unfolding snapshot_text shows config_of
  text-is d e = ap (λ (x : Dialect). text_in x (shows b)) e

  pub k_text : b.settings.dialect ≡ K → k_snapshot b.settings.depth name (map shown (held b.bids)) (map shown (held b.asks)) ≡ snapshot_text (shows b)
  unfolding text_in shows config_of
  k_text e = sym (text-is K e)

  pub m_text : (v : Edition) → b.settings.dialect ≡ M v → (sum : ℕ) → sum ≡ crc (m_checksum_text (rules_of (M v)).summed (map shown (held b.bids)) (map shown (held b.asks)))
      → m_snapshot name (map shown (held b.bids)) (map shown (held b.asks)) sum b.number ≡ snapshot_text (shows b)
  unfolding text_in shows config_of rules_of
  m_text v e sum q = ap (λ (x : ℕ). m_snapshot name (map shown (held b.bids)) (map shown (held b.asks)) x b.number) (q ∙ sum-interleaved (rules_of (M v)) (shows b).last.sides interleaves) ∙ sym (text-is (M v) e)
    where
      interleaves : (rules_of (M v)).text ≡ Interleaved
      interleaves = refl

  -- a book of no dialect has no text
  pub no_text : b.settings.dialect ≡ Unknown → (buffer : List ℕ) → Laid buffer 0 (snapshot_text (shows b)) buffer (Some 0)
  unfolding text_in fits overlaid
  no_text e buffer = let z = le-leb 0 (length buffer) (omega arith) in rw (text-is Unknown e) (record { bytes = rw z; end = rw z })

-- ---- the answer

module _ (b : Book) (before after : List ℕ) where
  abbrev p : Reference
  p = shows b

  abbrev text : List ℕ
  text = snapshot_text p

  abbrev yes : Bool
  yes = answers (status_of b.lifecycle.state) b.lifecycle.had_snapshot Current

  abbrev asked : Response
  asked = respond p (length before) write

  module _ (h : yes ≡ true) (w : Option ℕ) (l : Laid before 0 text after w) where
    asked_is : (t : Bool) → ltb (length before) (length text) ≡ t → refusal p asked ≡ cond t NoRoom Taken
    unfolding respond shows
    asked_is t e = asked-yes p asked h ∙ ap (λ (x : Bool). cond x NoRoom Taken) e

    pub wrote-to : (n : ℕ) → w ≡ Some n → Wrote b before after (record { book = b; answer = Taken; value = n })
    unfolding does respond replied fits
    wrote-to n e = go (leb (0 + length text) (length before)) refl l.bytes (sym e ∙ l.end)
      where
        go : (t : Bool) → leb (0 + length text) (length before) ≡ t → after ≡ elim t [ true ↦ overlaid before 0 text | false ↦ before ] → ◌≡◌ {A = Option ℕ} (Some n) (elim t [ true ↦ Some (0 + length text) | false ↦ None ])
            → Wrote b before after (record { book = b; answer = Taken; value = n })
        go true q x y =
            let f : 0 + length text ≤ length before = leb-true (0 + length text) (length before) q in
            let a : refusal p asked ≡ Taken = asked_is false (le-ltb (length before) (length text) (omega arith)) in
            let z = reply-taken p before asked Taken a refl in
            let m : n ≡ 0 + length text = cc in
            let k : n ≡ length text = omega arith in
            record { book = refl; answer = sym a; value = ap amount k ∙ sym z.0; buffer = x ∙ sym z.1 }
        go false q x y = let z : ◌≡◌ {A = ℕ} 0 1 = cc in absurd (omega arith)

    pub wrote-full : w ≡ None → Wrote b before after (record { book = b; answer = NoRoom; value = 0 })
    unfolding does respond replied zeros fits is_taken number_of
    wrote-full e = go (leb (0 + length text) (length before)) refl l.bytes (sym e ∙ l.end)
      where
        go : (t : Bool) → leb (0 + length text) (length before) ≡ t → after ≡ elim t [ true ↦ overlaid before 0 text | false ↦ before ] → ◌≡◌ {A = Option ℕ} None (elim t [ true ↦ Some (0 + length text) | false ↦ None ])
            → Wrote b before after (record { book = b; answer = NoRoom; value = 0 })
        go true q x y = let z : ◌≡◌ {A = ℕ} 0 1 = cc in absurd (omega arith)
        go false q x y =
            let f = leb-false (0 + length text) (length before) q in
            let a : refusal p asked ≡ NoRoom = asked_is true (lt-ltb (length before) (length text) (omega arith)) in
            let z = reply-refused p before asked NoRoom a refl in
            record { book = refl; answer = sym a; value = sym z.0; buffer = x ∙ sym z.1 }

  pub wrote-not : yes ≡ false → (a : Answer) → a ≡ refusal_of (status_of b.lifecycle.state) → after ≡ before → Wrote b before after (record { book = b; answer = a; value = 0 })
  unfolding does respond replied zeros
  wrote-not h a e x =
      let z = no-refused b Current asked refl h a e before in
      record { book = refl; answer = z.0; value = sym z.1; buffer = x ∙ sym z.2 }
