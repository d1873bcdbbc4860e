-- What is claimed of scripts, as statements; `proofs/Claims` proves each under its own name. The contract of `replay` is about the list of calls that
-- a script stands for: these say that no list of calls is left out. Assumes nothing: these are definitions.
use Rattle.std.specs.Prelude.{ℕ, ◌<◌, ◌^◌, ◌≡◌, List, [], ◌∷◌, ◌++◌, length, Ok}
use Rattle.crc32_spec.specs.Text.{Bytes}
use Rattle.settings.specs.Settings.{Config, kept}
use Rattle.level.specs.Ranked.{All}
use Rattle.edit.specs.declared.Side.{Side}
use Rattle.edit.specs.declared.Side.TheVariants.{Bids, Asks}
use Rattle.layout.specs.declared.Kind.TheVariants.{Snapshot}
use Rattle.message.specs.Meaning.{Message, decode}
use Rattle.answer.specs.declared.Answer.TheVariants.{Taken}
use Rattle.reference.specs.declared.Scope.{Scope}
use Rattle.reference.specs.declared.Scope.TheVariants.{Current, LastGood}
use Rattle.reference.specs.Reference.{Ask, message, question, how_many, level_at, which_number, how_many_updates, write, Call, opened, receive, replies_to, final}
use Rattle.reference.specs.Claims.{call}
use Rattle.replay.specs.Format.{words_of, script, laid_in}
use Rattle.replay.specs.Calls.{Replayed}

-- ---- a list of calls as a script

unfoldable pub opcode_of : Ask → ℕ
opcode_of (message s) = 0
opcode_of (question (how_many scope)) = 1
opcode_of (question (level_at scope side i)) = 2
opcode_of (question (which_number scope)) = 3
opcode_of (question (how_many_updates scope)) = 4
opcode_of (question write) = 5

unfoldable pub scope_number : Scope → ℕ
scope_number Current = 0
scope_number LastGood = 1

unfoldable pub side_number : Side → ℕ
side_number Bids = 0
side_number Asks = 1

-- What a call does not use is 0.
unfoldable pub scope_in : Ask → ℕ
scope_in (message s) = 0
scope_in (question (how_many scope)) = scope_number scope
scope_in (question (level_at scope side i)) = scope_number scope
scope_in (question (which_number scope)) = scope_number scope
scope_in (question (how_many_updates scope)) = scope_number scope
scope_in (question write) = 0

unfoldable pub side_in : Ask → ℕ
side_in (message s) = 0
side_in (question (how_many scope)) = 0
side_in (question (level_at scope side i)) = side_number side
side_in (question (which_number scope)) = 0
side_in (question (how_many_updates scope)) = 0
side_in (question write) = 0

unfoldable pub index_in : Ask → ℕ
index_in (message s) = 0
index_in (question (how_many scope)) = 0
index_in (question (level_at scope side i)) = i
index_in (question (which_number scope)) = 0
index_in (question (how_many_updates scope)) = 0
index_in (question write) = 0

unfoldable pub message_in : Ask → List ℕ
message_in (message s) = s
message_in (question q) = []

unfoldable pub header_words : Call → List ℕ
header_words c =
    opcode_of c.ask ∷ scope_in c.ask ∷ side_in c.ask ∷ index_in c.ask ∷ length c.buffer ∷ length (message_in c.ask) ∷ []

unfoldable pub script_of : List Call → List ℕ
script_of [] = []
script_of (c ∷ cs) = words_of (header_words c) ++ (message_in c.ask ++ script_of cs)

-- `out` for that script: zeros where the words of a reply go, and the buffers as they are lent.
unfoldable pub out_of : List Call → List ℕ
out_of [] = []
out_of (c ∷ cs) = words_of (0 ∷ 0 ∷ 0 ∷ 0 ∷ 0 ∷ 0 ∷ 0 ∷ []) ++ (c.buffer ++ out_of cs)

-- What a word holds: no message, buffer or index that the code can be given is larger.
pub record Holds (c : Call) : Type 0 where
  pub message : length (message_in c.ask) < 2 ^ 64
  pub buffer : length c.buffer < 2 ^ 64
  pub index : index_in c.ask < 2 ^ 64

-- Each list of calls is some script's.
abbrev pub EveryList : Type 0
EveryList = (cs : List Call) → All Holds cs → script (script_of cs) (out_of cs) ≡ cs

-- A script of bytes, where the messages and the lent buffers are.
pub record Plain (c : Call) : Type 0 where
  pub message : Bytes (message_in c.ask)
  pub buffer : Bytes c.buffer

abbrev pub EveryScript : Type 0
EveryScript = (cs : List Call) → All Plain cs → Bytes (script_of cs) × Bytes (out_of cs)

-- ---- what `replay` ensures for a list of calls

pub record Listed (t : Config) (cs : List Call) (after : List ℕ) (calls : ℕ) : Type 0 where
  pub out : after ≡ laid_in (replies_to (opened t) cs) (out_of cs)
  pub count : calls ≡ length cs

abbrev pub ReplayedList : Type 0
ReplayedList = (t : Config) (cs : List Call) (after : List ℕ) (calls : ℕ) → All Holds cs → Replayed t (script_of cs) (out_of cs) after calls →
    Listed t cs after calls

-- From a taken snapshot on, the replies are those of a book that was opened just before it.
abbrev pub ReplayedSnapshot : Type 0
ReplayedSnapshot = (t : Config) (cs ds : List Call) (s buffer : List ℕ) (m : Message) (after : List ℕ) (calls : ℕ) →
    All Holds (cs ++ (call (message s) buffer ∷ ds)) → decode (kept t) s ≡ Ok m → m.kind ≡ Snapshot → (receive (final (opened t) cs) s).answer ≡ Taken →
    Replayed t (script_of (cs ++ (call (message s) buffer ∷ ds))) (out_of (cs ++ (call (message s) buffer ∷ ds))) after calls →
    after ≡
    laid_in (replies_to (opened t) cs ++ replies_to (opened t) (call (message s) buffer ∷ ds)) (out_of (cs ++ (call (message s) buffer ∷ ds)))
