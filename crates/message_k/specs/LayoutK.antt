-- Dialect K, as document 01 has it under "Messages". Assumes nothing: these are definitions.
use Rattle.std.specs.Prelude.{ℕ, ◌+◌, Bool, true, ◌&&◌, cond, List, [], ◌∷◌, ◌++◌, leb, eqb, length, None, Option, Some}
use Rattle.text.specs.Text.{ascii}
use Rattle.decimal.specs.Digits.{written}
use Rattle.json_values.specs.Json.{Span, Pair, max_depth}
use Rattle.json_values.specs.Names.{means}
use Rattle.entries.specs.Places.{and_then, all, array_at, object_at, values_of, only, whole_at, quoted_checksum_at}
use Rattle.entries.specs.declared.Form.TheVariants.{Triple}
use Rattle.layout.specs.Depths.{item_depth, side_depth}
use Rattle.entries.specs.Rows.{Entry}
use Rattle.layout.specs.Layout.{printed, unprinted, Layout, Envelope, entries_in, laid}
use Rattle.layout.specs.declared.Kind.TheVariants.{Snapshot, Update}

-- An array of four or five elements: whole number, one or two objects, channel, pair.
pub record Frame : Type 0 where
  pub first : Span
  pub objects : List Span
  pub channel : Span
  pub pair : Span

unfoldable pub frame_of : List Span → Option Frame
frame_of [] = None
frame_of (n ∷ []) = None
frame_of (n ∷ (o ∷ [])) = None
frame_of (n ∷ (o ∷ (c ∷ []))) = None
frame_of (n ∷ (o ∷ (c ∷ (p ∷ [])))) = Some (record { first = n; objects = o ∷ []; channel = c; pair = p })
frame_of (n ∷ (o ∷ (q ∷ (c ∷ (p ∷ []))))) = Some (record { first = n; objects = o ∷ (q ∷ []); channel = c; pair = p })
frame_of (n ∷ (o ∷ (q ∷ (c ∷ (p ∷ (x ∷ l)))))) = None

-- Check 5: it is this book's when channel is `book-` and the depth in decimal, and pair is the name.
unfoldable pub ours_k : ℕ → List ℕ → List ℕ → Frame → Bool
ours_k depth name s f = means s f.channel (ascii "book-" ++ written depth) && means s f.pair name

-- ---- check 6

-- How often the members have a name.
unfoldable pub times : List ℕ → List ℕ → List Pair → ℕ
times s name ms = length (values_of s name ms)

unfoldable pub together : List (List Pair) → List Pair
together [] = []
together (ms ∷ l) = ms ++ together l

-- A snapshot has one object with `as` and `bs` once each and none of the others.
unfoldable pub is_snapshot : List ℕ → List (List Pair) → Bool
is_snapshot s objects =
    eqb (length objects) 1
    && (eqb (times s (ascii "as") (together objects)) 1
    && (eqb (times s (ascii "bs") (together objects)) 1
    && eqb (times s (ascii "a") (together objects) + (times s (ascii "b") (together objects) + times s (ascii "c") (together objects))) 0))

-- An update has `a` and `b` each at most once over the message, at least one of them in each object, `c` once, in the last object, and neither
-- `as` nor `bs`.
unfoldable pub each_has_one : List ℕ → List (List Pair) → Bool
each_has_one s [] = true
each_has_one s (ms ∷ l) = leb 1 (times s (ascii "a") ms + times s (ascii "b") ms) && each_has_one s l

unfoldable pub last_of : List (List Pair) → List Pair
last_of [] = []
last_of (ms ∷ []) = ms
last_of (ms ∷ (ns ∷ l)) = last_of (ns ∷ l)

unfoldable pub is_update : List ℕ → List (List Pair) → Bool
is_update s objects =
    leb (times s (ascii "a") (together objects)) 1
    && (leb (times s (ascii "b") (together objects)) 1
    && (each_has_one s objects
    && (eqb (times s (ascii "c") (together objects)) 1
    && (eqb (times s (ascii "c") (last_of objects)) 1
    && eqb (times s (ascii "as") (together objects) + times s (ascii "bs") (together objects)) 0))))

-- The entries of a message, by the names of the members that hold the bids' and the asks'.
unfoldable pub entries_k : List ℕ → List ℕ → List ℕ → List (List Pair) → Option (List Entry)
entries_k s bids asks objects = entries_in Triple side_depth s bids asks (together objects)

unfoldable pub objects_layout : List ℕ → List (List Pair) → Option Layout
objects_layout s objects =
    cond (is_snapshot s objects)
    (laid Snapshot unprinted 0 (entries_k s (ascii "bs") (ascii "as") objects))
    (cond (is_update s objects)
    (and_then (only (values_of s (ascii "c") (together objects))) (λ c.
    and_then (quoted_checksum_at s c) (λ sum. laid Update (printed sum) 0 (entries_k s (ascii "b") (ascii "a") objects))))
    None)

unfoldable pub layout_k : List ℕ → Frame → Option Layout
layout_k s f = and_then (whole_at s f.first) (λ n. and_then (all (object_at item_depth s) f.objects) (objects_layout s))

-- ---- the message, to a book of that depth and name

unfoldable pub envelope_k : ℕ → List ℕ → List ℕ → Span → Option Envelope
envelope_k depth name s a =
    and_then (and_then (array_at max_depth s a) frame_of) (λ f.
    Some (record { ours = ours_k depth name s f; layout = layout_k s f }))
