-- What one walk over a message of dialect M collects, member by member, and what is told of the message in the end.
-- Assumes nothing: these are definitions.
use Rattle.std.specs.Prelude.{ℕ, ◌≤◌, ◌≡◌, Bool, true, false, ◌&&◌, ◌||◌, cond, List, eqb, length, None, Option, Some}
use denote.Enum.Bare.{sameb}
use Rattle.text.specs.Text.{ascii}
use Rattle.edit.specs.Buffer.{buffer_words}
use Rattle.edit.specs.declared.Side.TheVariants.{Bids, Asks}
use Rattle.json_values.specs.Json.{Span, Pair}
use Rattle.json_values.specs.Names.{means}
use Rattle.json_values.specs.Fold.{fold_from}
use Rattle.entries.specs.Places.{and_then, and_also, object_at, whole_at, checksum_at}
use Rattle.entries.specs.Rows.{Entry, sided_at}
use Rattle.entries.specs.Tally.{none_yet, met as count, array_tally, Tells, Kept}
use Rattle.entries.specs.declared.Form.TheVariants as forms
use Rattle.entries.specs.declared.Tally.{Tally}
use Rattle.layout.specs.Depths.{item_depth, side_depth}
use Rattle.layout.specs.MemberSpans.{few_more, no_member_span, with_member_span, once_at, on_hit, on_member}
use Rattle.layout.specs.Scan.{no_outline, outline_from, following}
use Rattle.layout.specs.Layout.{is_snapshot}
use Rattle.layout.specs.declared.MemberSpan.{MemberSpan}
use Rattle.layout.specs.declared.Outline.{Outline}
use Rattle.layout.specs.declared.Scan.{Scan}
use Rattle.layout.specs.declared.Kind.{Kind}
use Rattle.message_m.specs.LayoutM.{kind_at}
use Rattle.message_m.specs.declared.Data.{Data}
use Rattle.message_m.specs.declared.Body.{Body}
use Rattle.message_m.specs.declared.Members.{Members}
use Rattle.message_m.specs.declared.Key.{Key}
use Rattle.message_m.specs.declared.Key.TheVariants as keys
use Rattle.message_m.specs.contracts.Key.{the_type}

-- ---- the value of a member `data`

-- The entries that a member holds, after those that were read before.
unfoldable pub with_held : List ℕ → Option (List Entry) → Pair → Option (List Entry)
with_held s x m =
    cond (means s m.name (ascii "bids")) (and_also x (sided_at Bids forms.Pair side_depth s m.value))
    (cond (means s m.name (ascii "asks")) (and_also x (sided_at Asks forms.Pair side_depth s m.value)) x)

unfoldable pub tally_with : List ℕ → Tally → Pair → Tally
tally_with s t m =
    cond (means s m.name (ascii "bids")) (array_tally 0 s side_depth forms.Pair Bids t m.value)
    (cond (means s m.name (ascii "asks")) (array_tally 0 s side_depth forms.Pair Asks t m.value) t)

-- A value that ends at `end` and has no sides; t was told before it.
abbrev pub no_data : ℕ → Tally → Data
no_data end t = record { end = end; bids = 0; asks = 0; tally = t }

-- An object that ends at `end`, with the sides that were met in it.
abbrev pub data_end : ℕ → Data → Data
data_end end d = record { end = end; bids = d.bids; asks = d.asks; tally = d.tally }

-- One member more.
unfoldable pub more_data : List ℕ → Data → Pair → Data
more_data s d m =
    record {
      end = m.value.to;
      bids = on_member s (ascii "bids") (λ n a. few_more n) d.bids m;
      asks = on_member s (ascii "asks") (λ n a. few_more n) d.asks m;
      tally = tally_with s d.tally m;
    }

unfoldable pub data_from : List ℕ → ℕ → Tally → Option (List Pair) → Data
data_from s end t (Some ms) = data_end end (fold_from (more_data s) (no_data 0 t) ms)
data_from s end t None = no_data end t

unfoldable pub data_of : List ℕ → Tally → Span → Data
data_of s t a = data_from s a.to t (object_at item_depth s a)

-- The entries that a value holds as that of a member `data`, after those that were read before.
unfoldable pub held_of : List ℕ → Option (List Entry) → Option (List Pair) → Option (List Entry)
held_of s x (Some ms) = fold_from (with_held s) x ms
held_of s x None = x

-- What a reader promises of a value from a on, which it reads if it is JSON: that it is told, and that the buffer has what `next` says that it adds.
pub record Added (s : List ℕ) (a : Span) (t u : Tally) (next : Option (List Entry) → Option (List Entry)) (before after : List ℕ) : Type 0 where
  pub few : (a.to ≡ 0 → ⊥) → count u ≤ a.to
  pub room : length after ≡ buffer_words
  pub kept : (a.to ≡ 0 → ⊥) → (x : Option (List Entry)) → Tells s x t → Kept s x before → Tells s (next x) u × Kept s (next x) after

pub record DataRead (s : List ℕ) (t : Tally) (a : Span) (before after : List ℕ) (r : Data) : Type 0 where
  pub told : r ≡ data_of s t a
  pub added : Added s a t r.tally (λ x. held_of s x (object_at item_depth s a)) before after

pub record MoreData (s : List ℕ) (d : Data) (m : Pair) (before after : List ℕ) (r : Data) : Type 0 where
  pub told : r ≡ more_data s d m
  pub added : Added s m.value d.tally r.tally (λ x. with_held s x m) before after

-- ---- the members of the message

-- Which of our names a string means.
unfoldable pub key_of : List ℕ → Span → Key
key_of s a =
    cond (means s a (ascii "channel")) keys.Channel
    (cond (means s a (ascii "product")) keys.Product
    (cond (means s a (ascii "type")) keys.Type
    (cond (means s a (ascii "data")) keys.Data
    (cond (means s a (ascii "checksum")) keys.Checksum
    (cond (means s a (ascii "gsn")) keys.Number
    (cond (means s a (ascii "prev_gsn")) keys.Previous keys.Other))))))

-- Whether two of our names are the same, which `==` tells.
abbrev pub is_key : Key → Key → Bool
is_key = sameb the_type

unfoldable pub more_body : List ℕ → Bool → Body → Span → Body
more_body s hit b a = record { end = a.to; mark = on_hit hit with_member_span b.mark a; last = on_hit hit (λ d v. data_of s d.tally v) b.last a }

-- The entries that a member of the message holds, after those that were read before: those of `data`.
unfoldable pub body_held : List ℕ → Bool → Option (List Entry) → Span → Option (List Entry)
body_held s hit x a = cond hit (held_of s x (object_at item_depth s a)) x

pub record MoreBody (s : List ℕ) (hit : Bool) (b : Body) (a : Span) (before after : List ℕ) (r : Body) : Type 0 where
  pub told : r ≡ more_body s hit b a
  pub added : Added s a b.last.tally r.last.tally (λ x. body_held s hit x a) before after

abbrev pub no_members : Members
no_members =
    record {
      body = record { end = 0; mark = no_member_span; last = no_data 0 none_yet };
      is_book = false;
      is_product = false;
      channel = no_member_span;
      product = no_member_span;
      kind = no_member_span;
      checksum = no_member_span;
      gsn = no_member_span;
      previous = no_member_span;
    }

-- One member more of a message to a book of that name.
unfoldable pub more_members : List ℕ → List ℕ → Members → Pair → Members
more_members name s met m =
    record {
      body = more_body s (means s m.name (ascii "data")) met.body m.value;
      is_book = met.is_book || (means s m.name (ascii "channel") && means s m.value (ascii "book"));
      is_product = met.is_product || (means s m.name (ascii "product") && means s m.value name);
      channel = on_member s (ascii "channel") with_member_span met.channel m;
      product = on_member s (ascii "product") with_member_span met.product m;
      kind = on_member s (ascii "type") with_member_span met.kind m;
      checksum = on_member s (ascii "checksum") with_member_span met.checksum m;
      gsn = on_member s (ascii "gsn") with_member_span met.gsn m;
      previous = on_member s (ascii "prev_gsn") with_member_span met.previous m;
    }

pub record MoreMembers (name s : List ℕ) (met : Members) (m : Pair) (before after : List ℕ) (r : Members) : Type 0 where
  pub told : r ≡ more_members name s met m
  pub added : Added s m.value met.body.last.tally r.body.last.tally (λ x. body_held s (means s m.name (ascii "data")) x m.value) before after

-- ---- the layout, once all members were met

unfoldable pub outline_where : {A : Type 0} → Option A → (A → Outline) → Outline
outline_where (Some a) outline = outline a
outline_where None outline = no_outline

unfoldable pub numbers_in : List ℕ → Kind → Tally → MemberSpan → MemberSpan → Outline
numbers_in s kind t checksum gsn =
    outline_where (and_then (once_at checksum) (checksum_at s)) (λ sum.
    outline_where (and_then (once_at gsn) (whole_at s)) (λ number.
    outline_from kind t true sum number))

-- From the sides on, of which each was met once in `data`.
unfoldable pub sides_in : List ℕ → Kind → Data → MemberSpan → MemberSpan → Outline
sides_in s kind d checksum gsn =
    cond (eqb d.bids 1) (cond (eqb d.asks 1) (numbers_in s kind d.tally checksum gsn) no_outline) no_outline

unfoldable pub body_in : List ℕ → Kind → Members → Outline
body_in s kind met = outline_where (once_at met.body.mark) (λ d. sides_in s kind met.body.last met.checksum met.gsn)

unfoldable pub outline_in : List ℕ → Members → Outline
outline_in s met =
    outline_where (once_at met.channel) (λ c.
    outline_where (once_at met.product) (λ p.
    outline_where (and_then (once_at met.kind) (kind_at s)) (λ kind.
    body_in s kind met)))

-- The same for an update that has to name the sequence number before its own.
unfoldable pub linked_outline : Bool → List ℕ → MemberSpan → Outline → Outline
linked_outline linked s before o =
    cond linked
    (cond o.well_formed
    (cond (is_snapshot o.kind) o (outline_where (and_then (once_at before) (whole_at s)) (λ n. following n o)))
    o)
    o

unfoldable pub scan_in : Bool → List ℕ → ℕ → Members → Scan
scan_in linked s end met =
    record {
      end = end;
      framed = true;
      ours = met.is_book && met.is_product;
      outline = linked_outline linked s met.previous (outline_in s met);
    }

-- A mark's place lies in the text.
abbrev pub Placed : List ℕ → MemberSpan → Type 0
Placed s m = (m.from ≤ m.to) × (m.to ≤ length s)
