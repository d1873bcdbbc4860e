-- Laws of a reply in its part of `out`: its words laid one after another, and the lent buffer behind them. Assumes nothing.
use Prim.Native.Nat.{ℕ, suc, ◌+◌, ◌-◌, ◌*◌, ◌≤◌}
use mathlib.Core.Path.{◌≡◌, refl, ap, ap₂, ◌∙◌}
use mathlib.Core.List.{List, [], ◌∷◌, ◌++◌, append-nil}
use native.Mathlib.Omega.{arith}
use lib.ListN.{length, take, drop, length-append, length-drop, drop_of_length-le}
use lib.Seq.{take_all, drop_at, length-take-le}
use Rattle.decimal.specs.Buffer.{overlaid}
use Rattle.writer.specs.Parts.{Put}
use Rattle.writer.proofs.Owed.{Owed, Whole, owed_all, owed-rest, put-none}
use Rattle.reference.specs.Reference.{Reference, Ask, Value, counts, level, amount, Reply, does}
use Rattle.replay.specs.Format.{bytes_of, words_of, level_words, value_words, reply_words, reply_bytes}
use Rattle.replay.specs.Calls.{words_in, Answered, Called}
use Rattle.replay.specs.declared.asking.Replied.{Replied}
use Rattle.replay.proofs.Fields.{length-bytes}

pub length-words : (ns : List ℕ) → length (words_of ns) ≡ 8 * length ns
unfolding words_of
length-words [] = refl
length-words (n ∷ ns) =
    let a = length-append (bytes_of 8 n) (words_of ns) in
    let b = length-bytes 8 n in
    let c = length-words ns in
    omega arith

-- the words of a reply: its answer, and six behind it
length_value : (v : Value) → length (value_words v) ≡ 6
unfolding value_words level_words
length_value (counts bids asks) = refl
length_value (level l) = refl
length_value (amount n) = refl

length_reply : (r : Reply) → length (reply_words r) ≡ 7
unfolding reply_words
length_reply r = ap suc (length_value r.value)

-- ---- word after word

pub words-owed : (part : List ℕ) (r : Replied) → length r.words ≡ 6 → 56 ≤ length part → Whole part 0 (words_of (words_in r)) part 0 (words_of (words_in r))
words-owed part r six h = let l = length-words (words_in r) in owed_all (omega arith)

module _ {final : List ℕ} {past : ℕ} {b : List ℕ} {at : ℕ} (n : ℕ) (ns : List ℕ) (owed : Owed final past b at (words_of (n ∷ ns))) where
  pub word_room : at + 8 ≤ length b
  word_room = let l = length-words (n ∷ ns) in let h = owed.room in omega arith

  pub word-laid : {b' : List ℕ} {e : ℕ} → Put b at (bytes_of 8 n) b' e → Owed final past b' e (words_of ns)
  unfolding words_of
  word-laid put = owed-rest {t = bytes_of 8 n} {u = words_of ns} owed put

pub words-laid : {b₀ : List ℕ} {at₀ : ℕ} {text₀ b : List ℕ} {at : ℕ} → Whole b₀ at₀ text₀ b at (words_of []) → Put b₀ at₀ text₀ b at
unfolding words_of
words-laid owed = put-none owed

-- ---- the lent buffer, then the words

-- all of a list from a position on
pub rest-is : (s : List ℕ) (at : ℕ) → take (length s - at) (drop at s) ≡ drop at s
rest-is s at = take_all (length s - at) (drop at s) (let l = length-drop at s in omega arith)

module _ (part : List ℕ) (h : 56 ≤ length part) where
  behind : (buffer : List ℕ) → drop 56 (take 56 part ++ (buffer ++ drop (length part - 56) (drop 56 part))) ≡ buffer
  behind buffer =
      drop_at (take 56 part) _ 56 (length-take-le 56 part h)
      ∙ ap (λ (l : List ℕ). buffer ++ l) (drop_of_length-le (drop 56 part) {i = length part - 56} (let l = length-drop 56 part in omega arith))
      ∙ append-nil buffer

  pub reply-laid : {p : Reference} {ask : Ask} (buffer after : List ℕ) (e : ℕ) (r : Replied) →
      Answered p ask (take (length part - 56) (drop 56 part)) buffer r →
      Put (take 56 part ++ (buffer ++ drop (length part - 56) (drop 56 part))) 0 (words_of (words_in r)) after e →
      Called p ask part after r.book
  unfolding overlaid reply_bytes
  reply-laid {p} {ask} buffer after e r a put =
      let a' = rw (rest-is part 56) at a in
      let l : 0 + length (words_of (words_in r)) ≡ 56 = (let n = ap length a'.words ∙ length_reply (does p ask (drop 56 part)) in let w = length-words (words_in r) in omega arith) in
      record {
        good = a'.good;
        same = a'.same;
        out =
            put.bytes
            ∙ ap (λ (n : ℕ). words_of (words_in r) ++ drop n (take 56 part ++ (buffer ++ drop (length part - 56) (drop 56 part)))) l
            ∙ ap₂ (λ (x y : List ℕ). x ++ y) (ap words_of a'.words) (behind buffer ∙ a'.buffer);
      }
