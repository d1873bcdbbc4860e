-- What a checksum catches, of books (`crc32_bursts` has it of texts). Assumes nothing: these are definitions.
use Rattle.std.specs.Prelude.{ℕ, ◌≡◌, ◌≢◌, List, Ok}
use Rattle.crc32_spec.specs.Crc.{crc}
use Rattle.crc32_spec.specs.Text.{Bytes}
use Rattle.crc32_bursts.specs.Claims.{SameOutside}
use Rattle.settings.specs.Settings.{Config}
use Rattle.layout.specs.Layout.{printed}
use Rattle.message.specs.Meaning.{Message, decode}
use Rattle.answer.specs.declared.Answer.TheVariants.{Taken}
use Rattle.reference.specs.Reference.{Reference, rules, opened, sides_after, checksum_text, receive, Call, final}

-- The checksum text of the book that a message would give.
abbrev pub text_after : Reference → Message → List ℕ
text_after p m = checksum_text (rules p).text (rules p).summed (sides_after p m).bids (sides_after p m).asks

-- After any list of calls: a message that carries the checksum of one text, where the book that it would give has another, of the same length and other
-- only within some four consecutive bytes, is not taken.
abbrev pub BurstRefused : Type 0
BurstRefused = (t : Config) (cs : List Call) (s text : List ℕ) (m : Message) (i : ℕ) → decode (final (opened t) cs).config s ≡ Ok m → m.checksum ≡ printed (crc text)
    → Bytes text → SameOutside i 4 text (text_after (final (opened t) cs) m) → text ≢ text_after (final (opened t) cs) m
    → (receive (final (opened t) cs) s).answer ≡ Taken → ⊥
