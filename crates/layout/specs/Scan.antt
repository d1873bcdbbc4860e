-- What one walk over a message tells, in numbers. Assumes nothing: these are definitions.
use Rattle.std.specs.Prelude.{ℕ, Bool, true, false, cond, List, ◌≡◌, None, Option, Some}
use Rattle.json_values.specs.Json.{Span, value, max_depth}
use Rattle.entries.specs.Tally.{tally_of, Kept}
use Rattle.entries.specs.declared.Tally.{Tally}
use Rattle.layout.specs.Layout.{is_snapshot, Printed, printed, unprinted, Layout, Envelope}
use Rattle.layout.specs.declared.Outline.{Outline}
use Rattle.layout.specs.declared.Scan.{Scan}
use Rattle.layout.specs.declared.Kind.{Kind}
use Rattle.layout.specs.declared.Kind.TheVariants.{Update}

-- ---- the layout

unfoldable pub is_printed : Printed → Bool
is_printed (printed n) = true
is_printed unprinted = false

unfoldable pub sum_of : Printed → ℕ
sum_of (printed n) = n
sum_of unprinted = 0

-- Where the first entry begins that check 8 refuses, or 0.
unfoldable pub bad_at : Kind → Tally → ℕ
bad_at kind t = cond (is_snapshot kind) t.strict_at t.broken_at

-- A layout that is broken.
abbrev pub no_outline : Outline
no_outline = record { well_formed = false; kind = Update; bids = 0; asks = 0; bad_at = 0; printed = false; checksum = 0; number = 0; previous = 0 }

-- The layout of the entries that were met.
unfoldable pub outline_from : Kind → Tally → Bool → ℕ → ℕ → Outline
outline_from kind t sent sum number =
    cond t.well_formed
    (record {
      well_formed = true;
      kind = kind;
      bids = t.bids;
      asks = t.asks;
      bad_at = bad_at kind t;
      printed = sent;
      checksum = sum;
      number = number;
      previous = 0;
    })
    no_outline

-- The layout of a message that names the sequence number before its own.
abbrev pub following : ℕ → Outline → Outline
following n o =
    record {
      well_formed = o.well_formed;
      kind = o.kind;
      bids = o.bids;
      asks = o.asks;
      bad_at = o.bad_at;
      printed = o.printed;
      checksum = o.checksum;
      number = o.number;
      previous = n;
    }

unfoldable pub outline_of : List ℕ → Option Layout → Outline
outline_of s (Some l) = following l.previous (outline_from l.kind (tally_of s l.entries) (is_printed l.checksum) (sum_of l.checksum) l.number)
outline_of s None = no_outline

-- ---- the message

-- A value that has not the dialect's outer form.
abbrev pub not_framed : ℕ → Scan
not_framed end = record { end = end; framed = false; ours = false; outline = no_outline }

unfoldable pub scan_of : List ℕ → ℕ → Option Envelope → Scan
scan_of s end (Some h) = record { end = end; framed = true; ours = h.ours; outline = outline_of s h.layout }
scan_of s end None = not_framed end

-- The value at a position as a message; `hear` is K's or M's.
unfoldable pub scan_at : (List ℕ → Span → Option Envelope) → List ℕ → ℕ → Scan
scan_at hear s at = elim (value max_depth s at) [ Some e ↦ scan_of s e (hear s (record { from = at; to = e })) | None ↦ scan_of s 0 None ]

-- What a walk promises: what it tells, and that the buffer has the numbers of the entries of a message that is this book's and laid out right.
pub record Scanned (hear : List ℕ → Span → Option Envelope) (s : List ℕ) (at : ℕ) (buffer : List ℕ) (r : Scan) : Type 0 where
  pub told : r ≡ scan_at hear s at
  pub kept : (e : ℕ) → value max_depth s at ≡ Some e → (h : Envelope) → hear s (record { from = at; to = e }) ≡ Some h → h.ours ≡ true
      → (l : Layout) → h.layout ≡ Some l → Kept s (Some l.entries) buffer
