-- A text that is one value as the writer writes it, heard as a snapshot of these levels, says this snapshot. Assumes nothing.
use Rattle.std.specs.Prelude.{Option, Some, Err, Ok}
use Prim.Native.Nat.{ℕ, ◌+◌, ◌≤◌}
use mathlib.Core.Path.{◌≡◌, refl, sym, ap, ◌∙◌, subst}
use mathlib.Core.Bool.{Bool, true, false, cond}
use mathlib.Core.List.{List, [], ◌++◌, map, append-nil}
use native.Mathlib.Omega.{arith}
use borrow.Author.Tests.{eq-eqb, le-ltb}
use lib.Dec.{ltb}
use lib.ListN.{length}
use lib.Seq.{drop-length}
use Rattle.json_tokens.specs.Bytes.{blank}
use Rattle.json_tokens.specs.Tokens.{skip_while, blanks, ended}
use Rattle.json_values.specs.Json.{Span, value}
use Rattle.json_values.specs.Json as json·
use Rattle.json_values.proofs.Laws.{text-ends}
use Rattle.settings.specs.Rules.{rules_of}
use Rattle.settings.specs.Settings.{Config}
use Rattle.entries.specs.Places.{top}
use Rattle.entries.specs.Rows.{Entry}
use Rattle.layout.specs.Layout.{is_snapshot, Printed, Layout, Envelope}
use Rattle.layout.specs.declared.Kind.TheVariants.{Snapshot}
use Rattle.message.specs.Meaning.{SidedEdit, too_many, counted, laid_out, addressed, envelope_in, framed, bad, decimals, also_decimals, checked, message_of, decoded_of, decode}
use Rattle.answer.specs.declared.Answer.TheVariants.{TooManyEntries}
use Rattle.edit.specs.Edit.{PriceLevel, is_same, for_side}
use Rattle.edit.specs.declared.Side.{Side}
use Rattle.edit.specs.declared.Side.TheVariants.{Bids, Asks}
use Rattle.round_trip.specs.Claims.{setting}
use Rattle.round_trip.proofs.Places.{no-blanks, nothing_stops, Is}
use Rattle.round_trip.proofs.Lists.{Matched}
use Rattle.round_trip.proofs.Values.{Reads}
use Rattle.round_trip.proofs.Rows.{IsEdit, edits-are, none-bad, edit_side, count-is, count-append, count-own, count-other}

-- ---- the text is its own value
module _ (s : List ℕ) (r : Reads 16 s) where
  at-start : blanks s 0 ≡ 0
  at-start = no-blanks s 0 s refl r.starts.seen

  the_value : value 16 s (blanks s 0) ≡ Some (length s)
  the_value =
      let n : 0 + length s ≡ length s = omega arith in
      ap (value 16 s) at-start ∙ r.ends s 0 [] (sym (append-nil s)) nothing_stops ∙ ap Some n

  to_the_end : blanks s (length s) ≡ length s
  unfolding blanks skip_while
  to_the_end = ap (λ (l : List ℕ). skip_while blank l (length s)) (drop-length s)

  text-yes : json·.text s ≡ true
  unfolding ended
  text-yes = text-ends s (length s) the_value ∙ eq-eqb (blanks s (length s)) (length s) to_the_end

  top-at : top s ≡ record { from = 0; to = length s }
  unfolding top
  top-at = rw (the_value, top, at-start)

  top-is : Is s (top s) s
  top-is = rw top-at record { rest = []; here = sym (append-nil s); ends = omega arith }

-- ---- the checks, in their order

abbrev pub laid_as : List Entry → Printed → ℕ → Layout
laid_as entries sum number = record { kind = Snapshot; entries = entries; checksum = sum; number = number; previous = 0 }

-- it is this book's, and has the layout of a snapshot that carries these edits
pub record HeardAs (s : List ℕ) (edits : List SidedEdit) (sum : Printed) (number : ℕ) (x : Option Envelope) : Type 0 where
  pub entries : List Entry
  pub is-heard : x ≡ Some (record { ours = true; layout = Some (laid_as entries sum number) })
  pub carries : Matched (IsEdit s) entries edits

-- no more of them for a side than a message may have
abbrev pub Few : ℕ → List SidedEdit → Type 0
Few most edits = (side : Side) → length (for_side edit_side side edits) ≤ most

-- the levels of the one side and of the other
pub asks-first : (most : ℕ) (bids asks : List PriceLevel) → length bids ≤ most → length asks ≤ most → Few most (map (setting Asks) asks ++ map (setting Bids) bids)
unfolding is_same
asks-first most bids asks b a Bids = omega (arith, count-append Bids (map (setting Asks) asks) (map (setting Bids) bids), count-other Bids Asks asks refl, count-own Bids bids refl)
asks-first most bids asks b a Asks = omega (arith, count-append Asks (map (setting Asks) asks) (map (setting Bids) bids), count-own Asks asks refl, count-other Asks Bids bids refl)

pub bids-first : (most : ℕ) (bids asks : List PriceLevel) → length bids ≤ most → length asks ≤ most → Few most (map (setting Bids) bids ++ map (setting Asks) asks)
unfolding is_same
bids-first most bids asks b a Bids = omega (arith, count-append Bids (map (setting Bids) bids) (map (setting Asks) asks), count-own Bids bids refl, count-other Bids Asks asks refl)
bids-first most bids asks b a Asks = omega (arith, count-append Asks (map (setting Bids) bids) (map (setting Asks) asks), count-other Asks Bids bids refl, count-own Asks asks refl)

module _ (t : Config) (s : List ℕ) (short : length s ≤ (rules_of t.dialect).longest) (r : Reads 16 s) (edits : List SidedEdit) (sum : Printed) (number : ℕ)
    (h : HeardAs s edits sum number (envelope_in t.dialect t s (top s))) (few : Few (rules_of t.dialect).entries edits) where
  l : Layout
  l = laid_as h.entries sum number

  few-for : (side : Side) → ltb (rules_of t.dialect).entries (length (for_side (λ (e : Entry). e.side) side h.entries)) ≡ false
  few-for side =
      let e = count-is side h.carries in
      let f = few side in
      le-ltb (rules_of t.dialect).entries (length (for_side (λ (e : Entry). e.side) side h.entries)) (omega arith)

  not-many : too_many (rules_of t.dialect).entries l ≡ false
  unfolding too_many l
  not-many = rw (few-for Bids, few-for Asks)

  is_framed : framed t s ≡ Ok l
  unfolding framed addressed laid_out counted l
  is_framed = rw (le-ltb (rules_of t.dialect).longest (length s) short, text-yes s r) (ap (addressed (rules_of t.dialect).entries) h.is-heard ∙ ap (λ (b : Bool). cond b (Err TooManyEntries) (Ok l)) not-many)

  no-bad : bad s l ≡ []
  unfolding bad l is_snapshot
  no-bad = none-bad h.carries

  is-checked : checked t s ≡ Ok l
  unfolding checked also_decimals decimals
  is-checked = ap (also_decimals s) is_framed ∙ rw (no-bad, decimals)

  says-them : decode t s ≡ Ok (record { kind = Snapshot; edits = edits; checksum = sum; number = number; previous = 0 })
  unfolding decode decoded_of message_of l
  says-them = ap (decoded_of s) is-checked ∙ rw (edits-are h.carries)

-- the same of a text that is a tree of values
pub says-tree : (t : Config) (s tree : List ℕ) → s ≡ tree → length s ≤ (rules_of t.dialect).longest → Reads 16 tree → (edits : List SidedEdit) (sum : Printed) (number : ℕ)
    → ((a : Span) → Is s a tree → HeardAs s edits sum number (envelope_in t.dialect t s a)) → Few (rules_of t.dialect).entries edits
    → decode t s ≡ Ok (record { kind = Snapshot; edits = edits; checksum = sum; number = number; previous = 0 })
says-tree t s tree e short r edits sum number h few =
    let q : Reads 16 s = subst (Reads 16) (sym e) r in
    says-them t s short q edits sum number (h (top s) (subst (Is s (top s)) e (top-is s q))) few
