-- A script of calls and its replies, as bytes (docs/REPLAY.md). Assumes nothing: these are definitions.
use Rattle.std.specs.Prelude.{ℕ, zero, suc, ◌+◌, ◌-◌, ◌/◌, ◌%◌, Bool, ◌&&◌, cond, List, [], ◌∷◌, ◌++◌, leb, eqb, length, take, drop}
use Rattle.text.specs.Words.{word_at}
use Rattle.decimal.specs.Words.{digits_near, digits_past}
use Rattle.edit.specs.Edit.{PriceLevel}
use Rattle.edit.specs.declared.Side.{Side}
use Rattle.edit.specs.declared.Side.TheVariants.{Bids, Asks}
use Rattle.answer.specs.Answers.{answer_number}
use Rattle.reference.specs.declared.Scope.{Scope}
use Rattle.reference.specs.declared.Scope.TheVariants.{Current, LastGood}
use Rattle.reference.specs.Reference.{Reply, Value, counts, level, amount, Ask, message, question, how_many, level_at, which_number, how_many_updates, write, Call}

-- ---- words: 8 bytes, the lowest first

unfoldable pub bytes_of : ℕ → ℕ → List ℕ
bytes_of zero n = []
bytes_of (suc k) n = n % 256 ∷ bytes_of k (n / 256)

unfoldable pub words_of : List ℕ → List ℕ
words_of [] = []
words_of (n ∷ ns) = bytes_of 8 n ++ words_of ns

-- ---- a call of a script: a header of six words, then the message

abbrev pub header_length : ℕ
header_length = 48

abbrev pub opcode : List ℕ → ℕ
opcode s = word_at s 0

abbrev pub buffer_length : List ℕ → ℕ
buffer_length s = word_at s 32

abbrev pub message_length : List ℕ → ℕ
message_length s = word_at s 40

-- How many bytes the first call of a script takes.
unfoldable pub call_length : List ℕ → ℕ
call_length s = header_length + message_length s

unfoldable pub scope_of : ℕ → Scope
scope_of n = cond (eqb n 0) Current LastGood

unfoldable pub side_of : ℕ → Side
side_of n = cond (eqb n 0) Bids Asks

-- What a call asks. Its header is read whole for each of them.
unfoldable pub ask_of : List ℕ → Ask
ask_of c =
    cond (eqb (opcode c) 0) (message (drop header_length c))
    (cond (eqb (opcode c) 1) (question (how_many (scope_of (word_at c 8))))
    (cond (eqb (opcode c) 2) (question (level_at (scope_of (word_at c 8)) (side_of (word_at c 16)) (word_at c 24)))
    (cond (eqb (opcode c) 3) (question (which_number (scope_of (word_at c 8))))
    (cond (eqb (opcode c) 4) (question (how_many_updates (scope_of (word_at c 8)))) (question write)))))

-- ---- a reply: seven words, then the lent buffer as it is afterwards

abbrev pub words_length : ℕ
words_length = 56

-- How many bytes the reply to the first call of a script takes.
unfoldable pub reply_length : List ℕ → ℕ
reply_length s = words_length + buffer_length s

-- A price or a size: the digits up to the ninth decimal, those past it, and how many decimals there are.
unfoldable pub level_words : PriceLevel → List ℕ
level_words l =
    digits_near l.price ∷ digits_past l.price ∷ l.price.decimals
    ∷ digits_near l.size ∷ digits_past l.size ∷ l.size.decimals ∷ []

unfoldable pub value_words : Value → List ℕ
value_words (counts bids asks) = bids ∷ asks ∷ 0 ∷ 0 ∷ 0 ∷ 0 ∷ []
value_words (level l) = level_words l
value_words (amount n) = n ∷ 0 ∷ 0 ∷ 0 ∷ 0 ∷ 0 ∷ []

unfoldable pub reply_words : Reply → List ℕ
reply_words r = answer_number r.answer ∷ value_words r.value

unfoldable pub reply_bytes : Reply → List ℕ
reply_bytes r = words_of (reply_words r) ++ r.buffer

-- ---- the calls of a script

-- Whether a script begins with a whole call, and so many bytes hold its reply.
unfoldable pub is_whole : List ℕ → ℕ → Bool
is_whole s room =
    leb header_length (length s) && (leb (opcode s) 5 && (leb (message_length s) (length s - header_length)
    && (leb words_length room && leb (buffer_length s) (room - words_length))))

-- The first call: what it asks, and its lent buffer, which is a part of `out`.
unfoldable pub called : List ℕ → List ℕ → Call
called s out = record { ask = ask_of (take (call_length s) s); buffer = drop words_length (take (reply_length s) out) }

-- Call after call, up to one that is not whole. A call takes bytes, so that the script's length is enough turns.
unfoldable pub decode : ℕ → List ℕ → List ℕ → List Call
decode zero s out = []
decode (suc turns) s out =
    cond (is_whole s (length out)) (called s out ∷ decode turns (drop (call_length s) s) (drop (reply_length s) out)) []

abbrev pub script : List ℕ → List ℕ → List Call
script s out = decode (length s) s out

-- The replies over `out`, one after another.
unfoldable pub laid_in : List Reply → List ℕ → List ℕ
laid_in [] out = out
laid_in (r ∷ rs) out = reply_bytes r ++ laid_in rs (drop (length (reply_bytes r)) out)
