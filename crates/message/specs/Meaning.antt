-- What a message says, from the settings and the text alone: a refusal among 2 to 8, or its kind and what it carries. The checks are those of document
-- 01's table, in its order, each over the whole message before the next one begins. A result is the layout of a message that fails none of them, or the answer
-- to one that fails. Assumes nothing: these are definitions.
use Rattle.std.specs.Prelude.{ℕ, Bool, ◌||◌, cond, List, [], ◌∷◌, map, ltb, length, None, Option, Some, Err, Ok, Result}
use Rattle.edit.specs.Edit.{PriceLevel, Edit, Numbers, edit_of, for_side}
use Rattle.edit.specs.declared.Side.{Side}
use Rattle.edit.specs.declared.Side.TheVariants.{Bids, Asks}
use Rattle.json_values.specs.Json.{Span, text}
use Rattle.settings.specs.Settings.{Config, good}
use Rattle.settings.specs.Rules.{is_linked, rules_of}
use Rattle.entries.specs.Places.{top}
use Rattle.entries.specs.Rows.{Entry, bad_texts, first_of, numbers_at}
use Rattle.layout.specs.Layout.{is_snapshot, Printed, Layout, Envelope}
use Rattle.layout.specs.declared.Kind.{Kind}
use Rattle.message_k.specs.LayoutK.{envelope_k}
use Rattle.message_m.specs.LayoutM.{envelope_m}
use Rattle.answer.specs.declared.Answer.{Answer}
use Rattle.answer.specs.declared.Answer.TheVariants.{TooLong, NotJson, NotOurs, BadLayout, TooManyEntries, BadDecimal}
use Rattle.settings.specs.declared.Dialect.{Dialect}
use Rattle.settings.specs.declared.Dialect.TheVariants.{K, M, Unknown}

-- ---- check 7: too many entries on one side

abbrev pub entries_for : Side → Layout → List Entry
entries_for side l = for_side (λ (e : Entry). e.side) side l.entries

unfoldable pub too_many : ℕ → Layout → Bool
too_many most l = ltb most (length (entries_for Bids l)) || ltb most (length (entries_for Asks l))

unfoldable pub counted : ℕ → Layout → Result Layout Answer
counted most l = cond (too_many most l) (Err TooManyEntries) (Ok l)

-- ---- checks 5 and 6

unfoldable pub laid_out : ℕ → Option Layout → Result Layout Answer
laid_out most (Some l) = counted most l
laid_out most None = Err BadLayout

-- What is no message of the dialect's outer form is not this book's.
unfoldable pub addressed : ℕ → Option Envelope → Result Layout Answer
addressed most (Some h) = cond h.ours (laid_out most h.layout) (Err NotOurs)
addressed most None = Err NotOurs

unfoldable pub envelope_in : Dialect → Config → List ℕ → Span → Option Envelope
envelope_in K t = envelope_k t.depth t.name
envelope_in (M e) t = envelope_m (is_linked e) t.name
envelope_in Unknown t = λ s a. None

-- ---- checks 2 and 3

unfoldable pub framed : Config → List ℕ → Result Layout Answer
framed t s =
    cond (ltb (rules_of t.dialect).longest (length s)) (Err TooLong)
    (cond (text s) (addressed (rules_of t.dialect).entries (envelope_in t.dialect t s (top s))) (Err NotJson))

-- ---- check 8: a decimal rule broken, price zero, or size zero in a snapshot

-- The texts that break it, in written order.
unfoldable pub bad : List ℕ → Layout → List Span
bad s l = bad_texts (is_snapshot l.kind) s l.entries

unfoldable pub decimals : List ℕ → Layout → Result Layout Answer
decimals s l = elim (bad s l) [ [] ↦ Ok l | a ∷ rest ↦ Err BadDecimal ]

unfoldable pub also_decimals : List ℕ → Result Layout Answer → Result Layout Answer
also_decimals s (Err a) = Err a
also_decimals s (Ok l) = decimals s l

-- ---- checks 2 to 8, of a book that is not shut

unfoldable pub checked : Config → List ℕ → Result Layout Answer
checked t s = also_decimals s (framed t s)

-- ---- what a message says that fails none of them

-- What an entry does to which side.
pub record SidedEdit : Type 0 where
  pub side : Side
  pub edit : Edit PriceLevel

-- Its edits are in the order in which they stand in it.
pub record Message : Type 0 where
  pub kind : Kind
  pub edits : List SidedEdit
  pub checksum : Printed
  pub number : ℕ
  -- the sequence number before it, where one is named
  pub previous : ℕ

unfoldable pub sided_edit : Numbers → SidedEdit
sided_edit e = record { side = e.side; edit = edit_of e }

unfoldable pub message_of : List ℕ → Layout → Message
message_of s l = record { kind = l.kind; edits = map sided_edit (map (numbers_at s) l.entries); checksum = l.checksum; number = l.number; previous = l.previous }

unfoldable pub decoded_of : List ℕ → Result Layout Answer → Result Message Answer
decoded_of s (Err a) = Err a
decoded_of s (Ok l) = Ok (message_of s l)

unfoldable pub decode : Config → List ℕ → Result Message Answer
decode t s = decoded_of s (checked t s)

-- ---- the question for the first bad decimal

unfoldable pub first_bad : List ℕ → Layout → Span
first_bad s l = first_of (bad s l)

unfoldable pub first_bad_of : List ℕ → Result Layout Answer → Span
first_bad_of s (Err a) = record { from = 0; to = 0 }
first_bad_of s (Ok l) = first_bad s l

-- The first text that breaks check 8, in message order, quotes included; if settings are bad or checks 2 to 7 refuse or nothing breaks, the empty part
-- at the start.
unfoldable pub bad_decimal : Config → List ℕ → Span
bad_decimal t s = cond (good t) (first_bad_of s (framed t s)) (record { from = 0; to = 0 })
