-- What a message carries: every message but a snapshot of K's a checksum, and none of K's a sequence number.
-- Assumes nothing.
use Rattle.answer.specs.declared.Answer.{Answer}
use Rattle.std.specs.Prelude.{None, Option, Some, Err, Ok, Result}
use mathlib.Core.Path.{◌≡◌, refl}
use mathlib.Core.List.{List}
use mathlib.Core.Bool.{Bool, true, false, cond}
use Prim.Native.Nat.{ℕ}
use native.Mathlib.Omega.{arith}
use Rattle.text.specs.Text.{ascii}
use Rattle.json_values.specs.Json.{Span, Pair, max_depth}
use Rattle.settings.specs.Settings.{Config}
use Rattle.settings.specs.declared.Dialect.{Dialect}
use Rattle.settings.specs.declared.Dialect.TheVariants.{K, M, Unknown}
use Rattle.settings.specs.declared.Edition.{Edition}
use Rattle.settings.specs.Rules.{is_linked}
use Rattle.entries.specs.Places.{and_then, all, top, array_at, object_at, values_of, only, whole_at, checksum_at, quoted_checksum_at}
use Rattle.entries.specs.Rows.{Entry}
use Rattle.entries.specs.declared.Form.TheVariants as forms
use Rattle.layout.specs.Depths.{side_depth}
use Rattle.layout.specs.declared.Kind.{Kind}
use Rattle.layout.specs.declared.Kind.TheVariants.{Snapshot, Update}
use Rattle.layout.specs.Layout.{is_snapshot as is_snapshot_l, Printed, printed, unprinted, Layout, Envelope, entries_in, laid}
use Rattle.message_k.specs.LayoutK.{Frame, frame_of, together, is_snapshot, is_update, entries_k, objects_layout, layout_k, envelope_k}
use Rattle.message_m.specs.LayoutM.{kind_at, layout_m, linked_to, layout_in, envelope_m}
use Rattle.message.specs.Meaning.{Message, decode, envelope_in, checked, decoded_of, message_of}
use Rattle.reference.specs.Claims.{Carries}
use Rattle.reference.proofs.Checks.{Refusals, Read, Either, checked-either}

-- ---- reading

then-read : {A B : Type 0} (P : B → Type 0) (x : Option A) (next : A → Option B) → ((a : A) → Read P (next a)) → Read P (and_then x next)
unfolding and_then
then-read P (Some a) next h = h a
then-read P None next h = tt

abbrev Carrying : Dialect → Layout → Type 0
Carrying d l = Carries d l.kind l.checksum l.number

laid-carries : (d : Dialect) (kind : Kind) (sum : Printed) (number : ℕ) (entries : Option (List Entry)) → Carries d kind sum number
    → Read (Carrying d) (laid kind sum number entries)
unfolding laid
laid-carries d kind sum number entries h = then-read (Carrying d) entries _ (λ es. h)

-- ---- the dialects

not-unprinted : {A : Type 0} (n : ℕ) → printed n ≡ unprinted → A
not-unprinted n h = let z : ◌≡◌ {A = ℕ} 0 1 = cc in absurd (omega arith)

update-not : {A : Type 0} → Update ≡ Snapshot → A
update-not h = let z : ◌≡◌ {A = ℕ} 0 1 = cc in absurd (omega arith)

m-not-k : {A : Type 0} (e : Edition) → M e ≡ K → A
m-not-k e h = let z : ◌≡◌ {A = ℕ} 0 1 = cc in absurd (omega arith)

objects-carry : (s : List ℕ) (objects : List (List Pair)) → Read (Carrying K) (objects_layout s objects)
unfolding objects_layout
objects-carry s objects = at (is_snapshot s objects) (is_update s objects)
  where
    at : (a b : Bool) → Read (Carrying K)
        (cond a (laid Snapshot unprinted 0 (entries_k s (ascii "bs") (ascii "as") objects))
        (cond b (and_then (only (values_of s (ascii "c") (together objects))) (λ c.
        and_then (quoted_checksum_at s c) (λ sum. laid Update (printed sum) 0 (entries_k s (ascii "b") (ascii "a") objects)))) None))
    at true b =
        laid-carries K Snapshot unprinted 0 (entries_k s (ascii "bs") (ascii "as") objects)
        (record { compared = λ e. (refl, refl); none = λ e h. refl; number = λ e. refl })
    at false true =
        then-read (Carrying K) (only (values_of s (ascii "c") (together objects))) _ (λ c.
        then-read (Carrying K) (quoted_checksum_at s c) _ (λ sum.
        laid-carries K Update (printed sum) 0 (entries_k s (ascii "b") (ascii "a") objects)
        (record { compared = λ e. not-unprinted sum e; none = λ e h. update-not h; number = λ e. refl })))
    at false false = tt

k-carries : (s : List ℕ) (f : Frame) → Read (Carrying K) (layout_k s f)
unfolding layout_k
k-carries s f = then-read (Carrying K) (whole_at s f.first) _ (λ n. then-read (Carrying K) (all (object_at 15 s) f.objects) _ (objects-carry s))

m-carries : (v : Edition) (s : List ℕ) (ms : List Pair) → Read (Carrying (M v)) (layout_m s ms)
unfolding layout_m
m-carries v s ms =
    then-read P (only (values_of s (ascii "channel") ms)) _ (λ c.
    then-read P (only (values_of s (ascii "product") ms)) _ (λ p.
    then-read P (only (values_of s (ascii "type") ms)) _ (λ t.
    then-read P (kind_at s t) _ (λ kind.
    then-read P (only (values_of s (ascii "data") ms)) _ (λ d.
    then-read P (object_at 15 s d) _ (λ ds.
    then-read P (only (values_of s (ascii "bids") ds)) _ (λ b.
    then-read P (only (values_of s (ascii "asks") ds)) _ (λ a.
    then-read P (only (values_of s (ascii "checksum") ms)) _ (λ k.
    then-read P (checksum_at s k) _ (λ sum.
    then-read P (only (values_of s (ascii "gsn") ms)) _ (λ g.
    then-read P (whole_at s g) _ (λ number.
    laid-carries (M v) kind (printed sum) number (entries_in forms.Pair side_depth s (ascii "bids") (ascii "asks") ds)
    (record { compared = λ e. not-unprinted sum e; none = λ e h. m-not-k v e; number = λ e. m-not-k v e })))))))))))))
  where
    P : Layout → Type 0
    P = Carrying (M v)

-- .. also where an update names the sequence number before its own
linked-carries : (v : Edition) (linked : Bool) (s : List ℕ) (ms : List Pair) → Read (Carrying (M v)) (layout_in linked s ms)
unfolding layout_in linked_to and_then
linked-carries v false s ms = m-carries v s ms
linked-carries v true s ms = go (layout_m s ms) (m-carries v s ms)
  where
    before : Option ℕ
    before = and_then (only (values_of s (ascii "prev_gsn") ms)) (whole_at s)

    at : (l : Layout) (b : Bool) → Carrying (M v) l
        → Read (Carrying (M v)) (cond b (Some l) (and_then before (λ n. Some (record { kind = l.kind; entries = l.entries; checksum = l.checksum; number = l.number; previous = n }))))
    at l true h = h
    at l false h = then-read (Carrying (M v)) before _ (λ n. record { compared = h.compared; none = h.none; number = h.number })

    go : (x : Option Layout) → Read (Carrying (M v)) x → Read (Carrying (M v)) (and_then x (linked_to s (values_of s (ascii "prev_gsn") ms)))
    go (Some l) h = at l (is_snapshot_l l.kind) h
    go None h = tt

abbrev HeardCarries : Dialect → Envelope → Type 0
HeardCarries d h = Read (Carrying d) h.layout

heard-carries : (d : Dialect) (t : Config) (s : List ℕ) (a : Span) → Read (HeardCarries d) (envelope_in d t s a)
unfolding envelope_in envelope_k envelope_m
heard-carries K t s a = then-read (HeardCarries K) (and_then (array_at max_depth s a) frame_of) _ (k-carries s)
heard-carries (M v) t s a = then-read (HeardCarries (M v)) (object_at max_depth s a) _ (linked-carries v (is_linked v) s)
heard-carries Unknown t s a = tt

-- ---- the message

pub said-carries : (t : Config) (s : List ℕ) (m : Message) → decode t s ≡ Ok m → Carries t.dialect m.kind m.checksum m.number
unfolding decode decoded_of message_of
said-carries t s m h = go (checked t s) (checked-either (λ a. Unit {0}) (Carrying t.dialect) none t s (heard-carries t.dialect t s (top s))) h
  where
    none : Refusals (λ a. Unit {0})
    none = record { long = tt; not-json = tt; not_ours = tt; layout = tt; entries = tt; decimal = tt }

    go : (x : Result Layout Answer) → Either (λ a. Unit {0}) (Carrying t.dialect) x → decoded_of s x ≡ Ok m → Carries t.dialect m.kind m.checksum m.number
    go (Ok l) r g = let e : message_of s l ≡ m = cc in rw (← e) r
    go (Err a) r g = let z : ◌≡◌ {A = ℕ} 0 1 = cc in absurd (omega arith)
