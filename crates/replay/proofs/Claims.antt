-- The claims about scripts: what a word holds is read back, so that each call, and each list of calls, is. Assumes nothing.
use Prim.Native.Nat.{ℕ, zero, suc, ◌+◌, ◌-◌, ◌*◌, ◌/◌, ◌%◌, ◌^◌, ◌≤◌, ◌<◌}
use mathlib.Core.Path.{◌≡◌, refl, sym, ap, ap₂, ◌∙◌}
use mathlib.Core.Bool.{true}
use mathlib.Core.List.{List, [], ◌∷◌, ◌++◌, append_assoc}
use native.Mathlib.Nat.{mul-suc, not-suc-le-zero}
use native.Mathlib.Omega.{arith}
use borrow.Author.Tests.{le-leb}
use lib.Dec.{lit<}
use lib.ListN.{length, get_or, take, drop, length-append}
use lib.Pow.{shr_lt, split}
use lib.Seq.{drop-drop, take_at, drop_at}
use Rattle.text.specs.Words.{word, word_at}
use Rattle.crc32_spec.specs.Text.{Bytes}
use Rattle.level.specs.Ranked.{All}
use Rattle.edit.specs.declared.Side.{Side}
use Rattle.edit.specs.declared.Side.TheVariants.{Bids, Asks}
use Rattle.reference.specs.declared.Scope.{Scope}
use Rattle.reference.specs.declared.Scope.TheVariants.{Current, LastGood}
use Rattle.reference.specs.Reference.{Ask, message, question, how_many, level_at, which_number, how_many_updates, write, Call}
use Rattle.reference.specs.Claims.{call}
use Rattle.reference.proofs.Claims.{from-snapshot}
use Rattle.replay.specs.Format.{bytes_of, words_of, is_whole, scope_of, side_of, ask_of, call_length, reply_length, called, decode}
use Rattle.replay.specs.Claims.{opcode_of, scope_number, side_number, scope_in, side_in, index_in, message_in, header_words, script_of, out_of, Holds, EveryList, EveryScript, ReplayedList, ReplayedSnapshot}
use Rattle.replay.proofs.Fields.{length-bytes, whole_by}
use Rattle.replay.proofs.Laying.{length-words}

-- ---- a word is read back

word_back : (k n : ℕ) → n < 2 ^ (8 * k) → word (bytes_of k n) ≡ n
unfolding word bytes_of
word_back zero n h = omega arith
word_back (suc k) n h =
    let e : 8 * suc k ≡ 8 * k + 8 = mul-suc 8 k in
    ap (λ (x : ℕ). x * 256 + n % 256) (word_back k (n / 256) (shr_lt (8 * k) 8 (rw e at h))) ∙ split n 8

first_word : (n : ℕ) (ns r : List ℕ) → n < 2 ^ 64 → word_at (words_of (n ∷ ns) ++ r) 0 ≡ n
unfolding word_at words_of
first_word n ns r h =
    ap (λ (l : List ℕ). word (take 8 l)) (append_assoc (bytes_of 8 n) (words_of ns) r)
    ∙ ap word (take_at (bytes_of 8 n) (words_of ns ++ r) 8 (length-bytes 8 n))
    ∙ word_back 8 n h

later-word : (n : ℕ) (ns r : List ℕ) (at : ℕ) → word_at (words_of (n ∷ ns) ++ r) (8 + at) ≡ word_at (words_of ns ++ r) at
unfolding word_at words_of
later-word n ns r at =
    ap (λ (l : List ℕ). word (take 8 l))
    (ap (drop (8 + at)) (append_assoc (bytes_of 8 n) (words_of ns) r)
    ∙ sym (drop-drop at 8 (bytes_of 8 n ++ (words_of ns ++ r)))
    ∙ ap (drop at) (drop_at (bytes_of 8 n) (words_of ns ++ r) 8 (length-bytes 8 n)))

-- word i of a text that begins with words
word_in : (ns r : List ℕ) (i : ℕ) → i < length ns → get_or ns i 0 < 2 ^ 64 → word_at (words_of ns ++ r) (8 * i) ≡ get_or ns i 0
word_in [] r i h k = absurd (not-suc-le-zero h)
word_in (n ∷ ns) r zero h k = first_word n ns r k
word_in (n ∷ ns) r (suc i) h k =
    let e : 8 * suc i ≡ 8 + 8 * i = omega arith in
    ap (word_at (words_of (n ∷ ns) ++ r)) e ∙ later-word n ns r (8 * i) ∙ word_in ns r i (omega arith) k

-- ---- a call is read back

scope-back : (scope : Scope) → scope_of (scope_number scope) ≡ scope
unfolding scope_of scope_number
scope-back Current = refl
scope-back LastGood = refl

side-back : (side : Side) → side_of (side_number side) ≡ side
unfolding side_of side_number
side-back Bids = refl
side-back Asks = refl

opcode-small : (ask : Ask) → opcode_of ask ≤ 5
unfolding opcode_of
opcode-small (message s) = omega arith
opcode-small (question (how_many scope)) = omega arith
opcode-small (question (level_at scope side i)) = omega arith
opcode-small (question (which_number scope)) = omega arith
opcode-small (question (how_many_updates scope)) = omega arith
opcode-small (question write) = omega arith

scope-small : (ask : Ask) → scope_in ask ≤ 1
unfolding scope_in scope_number
scope-small (message s) = omega arith
scope-small (question (how_many Current)) = omega arith
scope-small (question (how_many LastGood)) = omega arith
scope-small (question (level_at Current side i)) = omega arith
scope-small (question (level_at LastGood side i)) = omega arith
scope-small (question (which_number Current)) = omega arith
scope-small (question (which_number LastGood)) = omega arith
scope-small (question (how_many_updates Current)) = omega arith
scope-small (question (how_many_updates LastGood)) = omega arith
scope-small (question write) = omega arith

side-small : (ask : Ask) → side_in ask ≤ 1
unfolding side_in side_number
side-small (message s) = omega arith
side-small (question (how_many scope)) = omega arith
side-small (question (level_at scope Bids i)) = omega arith
side-small (question (level_at scope Asks i)) = omega arith
side-small (question (which_number scope)) = omega arith
side-small (question (how_many_updates scope)) = omega arith
side-small (question write) = omega arith

-- the words of a header, before any text
module _ (c : Call) (h : Holds c) (r : List ℕ) where
  header-length : length (words_of (header_words c)) ≡ 48
  unfolding header_words
  header-length = length-words (header_words c)

  w0 : word_at (words_of (header_words c) ++ r) 0 ≡ opcode_of c.ask
  unfolding header_words
  w0 = let k = opcode-small c.ask in word_in (header_words c) r 0 (omega arith) (omega arith)

  w8 : word_at (words_of (header_words c) ++ r) 8 ≡ scope_in c.ask
  unfolding header_words
  w8 = let k = scope-small c.ask in word_in (header_words c) r 1 (omega arith) (omega arith)

  w16 : word_at (words_of (header_words c) ++ r) 16 ≡ side_in c.ask
  unfolding header_words
  w16 = let k = side-small c.ask in word_in (header_words c) r 2 (omega arith) (omega arith)

  w24 : word_at (words_of (header_words c) ++ r) 24 ≡ index_in c.ask
  unfolding header_words
  w24 = word_in (header_words c) r 3 (omega arith) h.index

  w32 : word_at (words_of (header_words c) ++ r) 32 ≡ length c.buffer
  unfolding header_words
  w32 = word_in (header_words c) r 4 (omega arith) h.buffer

  w40 : word_at (words_of (header_words c) ++ r) 40 ≡ length (message_in c.ask)
  unfolding header_words
  w40 = word_in (header_words c) r 5 (omega arith) h.message

-- what is asked, from the words that say it
asked-back : (ask : Ask) (c : List ℕ) → word_at c 0 ≡ opcode_of ask → word_at c 8 ≡ scope_in ask → word_at c 16 ≡ side_in ask → word_at c 24 ≡ index_in ask →
    drop 48 c ≡ message_in ask → ask_of c ≡ ask
unfolding ask_of opcode_of scope_in side_in index_in message_in
asked-back (message s) c a b d e f = rw (a, f)
asked-back (question (how_many scope)) c a b d e f = rw (a, b) (ap (λ (x : Scope). question (how_many x)) (scope-back scope))
asked-back (question (level_at scope side i)) c a b d e f = rw (a, b, d, e) (ap₂ (λ (x : Scope) (y : Side). question (level_at x y i)) (scope-back scope) (side-back side))
asked-back (question (which_number scope)) c a b d e f = rw (a, b) (ap (λ (x : Scope). question (which_number x)) (scope-back scope))
asked-back (question (how_many_updates scope)) c a b d e f = rw (a, b) (ap (λ (x : Scope). question (how_many_updates x)) (scope-back scope))
asked-back (question write) c a b d e f = rw a

-- a script that begins with a call, and `out` for it
abbrev zero_words : List ℕ
zero_words = words_of (0 ∷ 0 ∷ 0 ∷ 0 ∷ 0 ∷ 0 ∷ 0 ∷ [])

abbrev text : Call → List ℕ → List ℕ
text c s = words_of (header_words c) ++ (message_in c.ask ++ s)

abbrev room : Call → List ℕ → List ℕ
room c out = zero_words ++ (c.buffer ++ out)

module _ (c : Call) (h : Holds c) (s out : List ℕ) where
  first-length : call_length (text c s) ≡ 48 + length (message_in c.ask)
  unfolding call_length
  first-length = rw (w40 c h (message_in c.ask ++ s))

  first-reply : reply_length (text c s) ≡ 56 + length c.buffer
  unfolding reply_length
  first-reply = rw (w32 c h (message_in c.ask ++ s))

  first-whole : is_whole (text c s) (length (room c out)) ≡ true
  first-whole =
      let r : List ℕ = message_in c.ask ++ s in
      let lt = length-append (words_of (header_words c)) r in
      let lh = header-length c h r in
      let lr = length-append (message_in c.ask) s in
      let lo = length-append zero_words (c.buffer ++ out) in
      let lw = length-words (0 ∷ 0 ∷ 0 ∷ 0 ∷ 0 ∷ 0 ∷ 0 ∷ []) in
      let lb = length-append c.buffer out in
      sym (whole_by (text c s) (length (room c out)) (omega arith) (sym (w0 c h r)) (opcode-small c.ask) (sym (w40 c h r)) (omega arith) (omega arith)
      (sym (w32 c h r)))
      ∙ le-leb (length c.buffer) (length (room c out) - 56) (omega arith)

  part_length : length (words_of (header_words c) ++ message_in c.ask) ≡ call_length (text c s)
  part_length =
      length-append (words_of (header_words c)) (message_in c.ask)
      ∙ ap (λ (n : ℕ). n + length (message_in c.ask)) (header-length c h s)
      ∙ sym first-length

  grouped : text c s ≡ (words_of (header_words c) ++ message_in c.ask) ++ s
  grouped = sym (append_assoc (words_of (header_words c)) (message_in c.ask) s)

  first_part : take (call_length (text c s)) (text c s) ≡ words_of (header_words c) ++ message_in c.ask
  first_part = ap (take (call_length (text c s))) grouped ∙ take_at (words_of (header_words c) ++ message_in c.ask) s (call_length (text c s)) part_length

  script-rest : drop (call_length (text c s)) (text c s) ≡ s
  script-rest = ap (drop (call_length (text c s))) grouped ∙ drop_at (words_of (header_words c) ++ message_in c.ask) s (call_length (text c s)) part_length

  first-asked : ask_of (take (call_length (text c s)) (text c s)) ≡ c.ask
  first-asked =
      let m : List ℕ = message_in c.ask in
      ap ask_of first_part
      ∙ asked-back c.ask (words_of (header_words c) ++ m) (w0 c h m) (w8 c h m) (w16 c h m) (w24 c h m)
      (drop_at (words_of (header_words c)) m 48 (header-length c h m))

  room-length : length (zero_words ++ c.buffer) ≡ reply_length (text c s)
  room-length =
      length-append zero_words c.buffer ∙ ap (λ (n : ℕ). n + length c.buffer) (length-words (0 ∷ 0 ∷ 0 ∷ 0 ∷ 0 ∷ 0 ∷ 0 ∷ [])) ∙ sym first-reply

  room-grouped : room c out ≡ (zero_words ++ c.buffer) ++ out
  room-grouped = sym (append_assoc zero_words c.buffer out)

  first-buffer : drop 56 (take (reply_length (text c s)) (room c out)) ≡ c.buffer
  first-buffer =
      ap (drop 56)
      (ap (take (reply_length (text c s))) room-grouped ∙ take_at (zero_words ++ c.buffer) out (reply_length (text c s)) room-length)
      ∙ drop_at zero_words c.buffer 56 (length-words (0 ∷ 0 ∷ 0 ∷ 0 ∷ 0 ∷ 0 ∷ 0 ∷ []))

  out-rest : drop (reply_length (text c s)) (room c out) ≡ out
  out-rest = ap (drop (reply_length (text c s))) room-grouped ∙ drop_at (zero_words ++ c.buffer) out (reply_length (text c s)) room-length

  first-called : called (text c s) (room c out) ≡ c
  unfolding called
  first-called = ap₂ call first-asked first-buffer

  first-decoded : (turns : ℕ) → decode (suc turns) (text c s) (room c out) ≡ c ∷ decode turns s out
  unfolding decode
  first-decoded turns = rw first-whole (ap₂ (λ (x : Call) (xs : List Call). x ∷ xs) first-called (ap₂ (decode turns) script-rest out-rest))

-- ---- every list of calls

decoded : (turns : ℕ) (cs : List Call) → All Holds cs → length (script_of cs) ≤ turns → decode turns (script_of cs) (out_of cs) ≡ cs
unfolding decode script_of out_of All is_whole
decoded zero [] h l = refl
decoded (suc turns) [] h l = refl
decoded zero (c ∷ cs) h l =
    let a = length-append (words_of (header_words c)) (message_in c.ask ++ script_of cs) in
    let b = header-length c h.0 [] in
    absurd (omega arith)
decoded (suc turns) (c ∷ cs) h l =
    let a = length-append (words_of (header_words c)) (message_in c.ask ++ script_of cs) in
    let b = header-length c h.0 [] in
    let d = length-append (message_in c.ask) (script_of cs) in
    first-decoded c h.0 (script_of cs) (out_of cs) turns ∙ ap (λ (xs : List Call). c ∷ xs) (decoded turns cs h.1 (omega arith))

pub every-list : EveryList
every-list cs h = decoded (length (script_of cs)) cs h (omega arith)

pub replayed-list : ReplayedList
replayed-list t cs after calls h r = record {
  out = r.out ∙ rw (every-list cs h);
  count = r.count ∙ rw (every-list cs h);
}

pub replayed-snapshot : ReplayedSnapshot
replayed-snapshot t cs ds s buffer m after calls h q k a r =
    (replayed-list t (cs ++ (call (message s) buffer ∷ ds)) after calls h r).out ∙ rw (from-snapshot t cs ds s buffer m q k a)

-- ---- every script is one of bytes

bytes-cons : (x : ℕ) (xs : List ℕ) → x < 256 → Bytes xs → Bytes (x ∷ xs)
bytes-cons x xs h k zero = h
bytes-cons x xs h k (suc i) = k i

bytes-append : (xs ys : List ℕ) → Bytes xs → Bytes ys → Bytes (xs ++ ys)
bytes-append [] ys h k = k
bytes-append (x ∷ xs) ys h k = bytes-cons x (xs ++ ys) (h 0) (bytes-append xs ys (λ i. h (suc i)) k)

bytes-none : Bytes []
bytes-none i = lit< tt

bytes_word : (k n : ℕ) → Bytes (bytes_of k n)
unfolding bytes_of
bytes_word zero n = bytes-none
bytes_word (suc k) n = bytes-cons (n % 256) (bytes_of k (n / 256)) (omega arith) (bytes_word k (n / 256))

bytes-words : (ns : List ℕ) → Bytes (words_of ns)
unfolding words_of
bytes-words [] = bytes-none
bytes-words (n ∷ ns) = bytes-append (bytes_of 8 n) (words_of ns) (bytes_word 8 n) (bytes-words ns)

pub every-script : EveryScript
unfolding script_of out_of All
every-script [] h = (bytes-none, bytes-none)
every-script (c ∷ cs) h =
    let r = every-script cs h.1 in (
      bytes-append (words_of (header_words c)) (message_in c.ask ++ script_of cs) (bytes-words (header_words c))
          (bytes-append (message_in c.ask) (script_of cs) h.0.message r.0),
      bytes-append zero_words (c.buffer ++ out_of cs) (bytes-words (0 ∷ 0 ∷ 0 ∷ 0 ∷ 0 ∷ 0 ∷ 0 ∷ [])) (bytes-append c.buffer (out_of cs) h.0.buffer r.1),
    )
