-- Dialect M, as document 01 has it under "Messages". Assumes nothing: these are definitions.
use Rattle.std.specs.Prelude.{ℕ, Bool, false, ◌&&◌, ◌||◌, cond, List, [], ◌∷◌, None, Option, Some}
use Rattle.text.specs.Text.{ascii}
use Rattle.json_values.specs.Json.{Span, Pair, max_depth}
use Rattle.json_values.specs.Names.{means}
use Rattle.entries.specs.Places.{and_then, object_at, values_of, only, whole_at, checksum_at}
use Rattle.entries.specs.declared.Form.TheVariants as forms
use Rattle.layout.specs.Depths.{item_depth, side_depth}
use Rattle.layout.specs.Layout.{is_snapshot, printed, Layout, Envelope, entries_in, laid}
use Rattle.layout.specs.declared.Kind.{Kind}
use Rattle.layout.specs.declared.Kind.TheVariants.{Snapshot, Update}

-- Check 5: it is this book's when some member `channel` is `book` and some member `product` is the name.
unfoldable pub some_means : List ℕ → List ℕ → List Span → Bool
some_means s name [] = false
some_means s name (a ∷ l) = means s a name || some_means s name l

unfoldable pub ours_m : List ℕ → List ℕ → List Pair → Bool
ours_m name s ms = some_means s (ascii "book") (values_of s (ascii "channel") ms) && some_means s name (values_of s (ascii "product") ms)

-- ---- check 6: named, once each: `channel`, `product`, `type` (`snapshot` or `update`), `data`, `checksum`, `gsn`, and in `data` `bids` and `asks`

unfoldable pub kind_at : List ℕ → Span → Option Kind
kind_at s a = cond (means s a (ascii "snapshot")) (Some Snapshot) (cond (means s a (ascii "update")) (Some Update) None)

unfoldable pub layout_m : List ℕ → List Pair → Option Layout
layout_m s ms =
    and_then (only (values_of s (ascii "channel") ms)) (λ c.
    and_then (only (values_of s (ascii "product") ms)) (λ p.
    and_then (only (values_of s (ascii "type") ms)) (λ t.
    and_then (kind_at s t) (λ kind.
    and_then (only (values_of s (ascii "data") ms)) (λ d.
    and_then (object_at item_depth s d) (λ ds.
    and_then (only (values_of s (ascii "bids") ds)) (λ b.
    and_then (only (values_of s (ascii "asks") ds)) (λ a.
    and_then (only (values_of s (ascii "checksum") ms)) (λ k.
    and_then (checksum_at s k) (λ sum.
    and_then (only (values_of s (ascii "gsn") ms)) (λ g.
    and_then (whole_at s g) (λ number.
    laid kind (printed sum) number (entries_in forms.Pair side_depth s (ascii "bids") (ascii "asks") ds)))))))))))))

-- Where updates are linked, one needs `prev_gsn` once, the sequence number before its own, written as `gsn` is; a snapshot's is passed over.
unfoldable pub linked_to : List ℕ → List Span → Layout → Option Layout
linked_to s before l =
    cond (is_snapshot l.kind) (Some l)
    (and_then (and_then (only before) (whole_at s)) (λ n.
    Some (record { kind = l.kind; entries = l.entries; checksum = l.checksum; number = l.number; previous = n })))

unfoldable pub layout_in : Bool → List ℕ → List Pair → Option Layout
layout_in linked s ms = cond linked (and_then (layout_m s ms) (linked_to s (values_of s (ascii "prev_gsn") ms))) (layout_m s ms)

-- ---- the message, to a book of that name

unfoldable pub envelope_m : Bool → List ℕ → List ℕ → Span → Option Envelope
envelope_m linked name s a =
    and_then (object_at max_depth s a) (λ ms.
    Some (record { ours = ours_m name s ms; layout = layout_in linked s ms }))
