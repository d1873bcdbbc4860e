-- What is told of the objects of a message of dialect K, in numbers. Assumes nothing: these are definitions.
use Rattle.std.specs.Prelude.{ℕ, ◌≤◌, ◌≡◌, Bool, true, false, ◌&&◌, ◌||◌, cond, List, leb, ltb, eqb, length, None, Option, Some, is_some, unwrap_or}
use Rattle.text.specs.Text.{ascii, byte_at}
use Rattle.edit.specs.Buffer.{buffer_words}
use Rattle.edit.specs.declared.Side.{Side}
use Rattle.edit.specs.declared.Side.TheVariants.{Bids, Asks}
use Rattle.json_tokens.specs.Bytes.{open_object}
use Rattle.json_tokens.specs.Ends.{end_of}
use Rattle.json_values.specs.Json.{Span, Pair, value}
use Rattle.json_values.specs.Names.{means}
use Rattle.json_values.specs.Fold.{fold_from}
use Rattle.entries.specs.Places.{and_also, object_at, quoted_checksum_at}
use Rattle.entries.specs.Rows.{Entry, sided_at}
use Rattle.entries.specs.Tally.{none_yet, met, array_tally, Tells, Kept}
use Rattle.entries.specs.declared.Form.TheVariants.{Triple}
use Rattle.entries.specs.declared.Tally.{Tally}
use Rattle.layout.specs.Depths.{item_depth, side_depth}
use Rattle.layout.specs.declared.Kind.TheVariants.{Snapshot, Update}
use Rattle.layout.specs.Scan.{outline_from, no_outline}
use Rattle.layout.specs.MemberSpans.{few_more, no_member_span, with_member_span}
use Rattle.layout.specs.declared.Outline.{Outline}
use Rattle.message_k.specs.declared.Sum.{Sum}
use Rattle.message_k.specs.declared.Members.{Members}

-- ---- one more member

-- The names whose members hold bids, and those whose members hold asks, in messages of either kind.
unfoldable pub is_bids : List ℕ → Span → Bool
is_bids s name = means s name (ascii "b") || means s name (ascii "bs")

unfoldable pub is_asks : List ℕ → Span → Bool
is_asks s name = means s name (ascii "a") || means s name (ascii "as")

-- The entries that a member holds, after those that were read before.
unfoldable pub with_held : List ℕ → Option (List Entry) → Pair → Option (List Entry)
with_held s x m =
    cond (is_bids s m.name) (and_also x (sided_at Bids Triple side_depth s m.value))
    (cond (is_asks s m.name) (and_also x (sided_at Asks Triple side_depth s m.value)) x)

abbrev pub held_in : List ℕ → Option (List Entry) → List Pair → Option (List Entry)
held_in s x ms = fold_from (with_held s) x ms

unfoldable pub tally_with : List ℕ → Tally → Pair → Tally
tally_with s t m =
    cond (is_bids s m.name) (array_tally 0 s side_depth Triple Bids t m.value)
    (cond (is_asks s m.name) (array_tally 0 s side_depth Triple Asks t m.value) t)

-- How often a name was met.
unfoldable pub times_with : List ℕ → List ℕ → ℕ → Pair → ℕ
times_with s name n m = cond (means s m.name name) (few_more n) n

abbrev pub no_sum : Sum
no_sum = record { mark = no_member_span; well_formed = false; sum = 0 }

unfoldable pub more_summed : List ℕ → Sum → Span → Sum
more_summed s t a = record { mark = with_member_span t.mark a; well_formed = is_some (quoted_checksum_at s a); sum = unwrap_or (quoted_checksum_at s a) 0 }

unfoldable pub sum_with : List ℕ → Sum → Pair → Sum
sum_with s t m = cond (means s m.name (ascii "c")) (more_summed s t m.value) t

unfoldable pub with_member : List ℕ → Members → Pair → Members
with_member s t m =
    record {
      end = m.value.to;
      is_object = true;
      snapshot_asks = times_with s (ascii "as") t.snapshot_asks m;
      snapshot_bids = times_with s (ascii "bs") t.snapshot_bids m;
      asks = times_with s (ascii "a") t.asks m;
      bids = times_with s (ascii "b") t.bids m;
      checksum = sum_with s t.checksum m;
      tally = tally_with s t.tally m;
    }

-- The buffer after `before`, in which the entries of a value at `from` went behind those that t tells of: what was read of all of them is told, and the
-- buffer has it, where `next` says what reading the value adds.
pub record Added (s : List ℕ) (from : ℕ) (t u : Tally) (next : ℕ → Option (List Entry) → Option (List Entry)) (before after : List ℕ) : Type 0 where
  pub room : length after ≡ buffer_words
  pub kept : (e : ℕ) → value side_depth s from ≡ Some e → (x : Option (List Entry)) → Tells s x t → Kept s x before → Tells s (next e x) u × Kept s (next e x) after

-- r tells of the member whose name is `name` and whose value begins at `from`, with t told before.
pub record MemberRead (s : List ℕ) (t : Members) (name : Span) (from : ℕ) (before after : List ℕ) (r : Members) : Type 0 where
  pub ends : r.end ≡ end_of (value side_depth s from)
  pub collected : (e : ℕ) → value side_depth s from ≡ Some e → r ≡ with_member s t (record { name = name; value = record { from = from; to = e } })
  pub few : (r.end ≡ 0 → ⊥) → met r.tally ≤ r.end
  pub added : Added s from t.tally r.tally (λ e x. with_held s x (record { name = name; value = record { from = from; to = e } })) before after

abbrev pub with_tally : ℕ → Tally → Members → Members
with_tally e u t =
    record {
      end = e;
      is_object = t.is_object;
      snapshot_asks = t.snapshot_asks;
      snapshot_bids = t.snapshot_bids;
      asks = t.asks;
      bids = t.bids;
      checksum = t.checksum;
      tally = u;
    }

-- r tells of the entries of a side that begin at `from`, with t told before.
pub record EntriesRead (s : List ℕ) (t : Members) (from : ℕ) (side : Side) (before after : List ℕ) (r : Members) : Type 0 where
  pub ends : r.end ≡ end_of (value side_depth s from)
  pub collected : (e : ℕ) → value side_depth s from ≡ Some e → r ≡ with_tally e (array_tally 0 s side_depth Triple side t.tally (record { from = from; to = e })) t
  pub few : (r.end ≡ 0 → ⊥) → met r.tally ≤ r.end
  pub added : Added s from t.tally r.tally (λ e x. and_also x (sided_at side Triple side_depth s (record { from = from; to = e }))) before after

abbrev pub with_sum : ℕ → Sum → Members → Members
with_sum e sum t =
    record {
      end = e;
      is_object = t.is_object;
      snapshot_asks = t.snapshot_asks;
      snapshot_bids = t.snapshot_bids;
      asks = t.asks;
      bids = t.bids;
      checksum = sum;
      tally = t.tally;
    }

-- r tells of one more member `c` whose value begins at `from`, with t told before.
pub record SumRead (s : List ℕ) (t : Members) (from : ℕ) (r : Members) : Type 0 where
  pub ends : r.end ≡ end_of (value side_depth s from)
  pub collected : (e : ℕ) → value side_depth s from ≡ Some e → r ≡ with_sum e (more_summed s t.checksum (record { from = from; to = e })) t

-- ---- an object

-- A value that ends at e and is no object.
abbrev pub no_members : ℕ → Members
no_members e =
    record { end = e; is_object = false; snapshot_asks = 0; snapshot_bids = 0; asks = 0; bids = 0; checksum = no_sum; tally = none_yet }

-- An object that ends at e.
abbrev pub closed_at : ℕ → Members → Members
closed_at e t =
    record {
      end = e;
      is_object = true;
      snapshot_asks = t.snapshot_asks;
      snapshot_bids = t.snapshot_bids;
      asks = t.asks;
      bids = t.bids;
      checksum = t.checksum;
      tally = t.tally;
    }

-- The members that were read of a value, with t told of the objects before.
unfoldable pub members_of : List ℕ → Members → ℕ → Option (List Pair) → Members
members_of s t e (Some ms) = closed_at e (fold_from (with_member s) t ms)
members_of s t e None = no_members e

unfoldable pub members_at : List ℕ → Members → ℕ → Members
members_at s t at = elim (value item_depth s at) [ Some e ↦ members_of s t e (object_at item_depth s (record { from = at; to = e })) | None ↦ no_members 0 ]

-- r tells of the object at `at`, with t told before; a value that is no object leaves the buffer as it is.
pub record ObjectRead (s : List ℕ) (t : Members) (at : ℕ) (before after : List ℕ) (r : Members) : Type 0 where
  pub told : r ≡ members_at s t at
  pub few : (r.end ≡ 0 → ⊥) → met r.tally ≤ r.end
  pub room : length after ≡ buffer_words
  pub same : (byte_at s at ≡ open_object → ⊥) → after ≡ before
  pub kept : (e : ℕ) → value item_depth s at ≡ Some e → (ms : List Pair) → object_at item_depth s (record { from = at; to = e }) ≡ Some ms
      → (x : Option (List Entry)) → Tells s x t.tally → Kept s x before → Tells s (held_in s x ms) r.tally × Kept s (held_in s x ms) after

-- ---- check 6, of what is told of all objects together

-- With this object there is one more of `a` or `b`; t is told before it, and u with it.
unfoldable pub has_more : Members → Members → Bool
has_more t u = ltb t.asks u.asks || ltb t.bids u.bids

-- The one object is a snapshot's.
unfoldable pub snapshot_by : Members → Bool
snapshot_by t =
    eqb t.snapshot_asks 1
    && (eqb t.snapshot_bids 1
    && (eqb t.asks 0
    && (eqb t.bids 0
    && eqb t.checksum.mark.times 0)))

-- The objects are an update's: `each` is whether each has one of `a` and `b`, `before` is told before the last object, and t of all.
unfoldable pub update_by : Bool → Members → Members → Bool
update_by each before t =
    leb t.asks 1
    && (leb t.bids 1
    && (each
    && (eqb t.checksum.mark.times 1
    && (eqb before.checksum.mark.times 0
    && (eqb t.snapshot_asks 0
    && eqb t.snapshot_bids 0)))))

unfoldable pub outline_by : Bool → Bool → Members → Outline
outline_by snapshot update t =
    cond snapshot
    (outline_from Snapshot t.tally false 0 0)
    (cond (update && t.checksum.well_formed) (outline_from Update t.tally true t.checksum.sum 0) no_outline)
