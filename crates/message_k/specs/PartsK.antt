-- What is told of the elements of a message of dialect K. Assumes nothing: these are definitions.
use Rattle.std.specs.Prelude.{ℕ, ◌+◌, Bool, true, false, ◌&&◌, cond, ◌≡◌, List, [], ◌∷◌, ◌++◌, leb, eqb, length, Some, is_some}
use Rattle.text.specs.Text.{ascii, byte_at}
use Rattle.decimal.specs.Digits.{written}
use Rattle.edit.specs.Buffer.{buffer_words}
use Rattle.json_tokens.specs.Bytes.{open_object}
use Rattle.json_values.specs.Json.{Span, Pair, Items, items}
use Rattle.entries.specs.Tally.{Kept}
use Rattle.json_values.specs.Names.{means}
use Rattle.entries.specs.Places.{object_at, whole_at}
use Rattle.layout.specs.Depths.{item_depth}
use Rattle.layout.specs.Scan.{no_outline}
use Rattle.json_values.specs.Fold.{folded_in}
use Rattle.layout.specs.declared.Outline.{Outline}
use Rattle.layout.specs.declared.Scan.{Scan}
use Rattle.message_k.specs.MembersK.{no_members, members_of, held_in, has_more, snapshot_by, update_by, outline_by}
use Rattle.message_k.specs.declared.Members.{Members}
use Rattle.message_k.specs.declared.Outer.{Outer}
use Rattle.message_k.specs.declared.Parts.{Parts}

-- One more element, told up to six.
unfoldable pub up_to_six : ℕ → ℕ
up_to_six n = cond (leb 6 n) 6 (n + 1)

abbrev pub no_outer : Outer
no_outer = record { count = 0; channel_from = 0; channel_to = 0; pair_from = 0; pair_to = 0; whole = false }

-- One more element; the last two are the channel and the pair.
unfoldable pub with_outer : List ℕ → Outer → Span → Outer
with_outer s t a =
    record {
      count = up_to_six t.count;
      channel_from = t.pair_from;
      channel_to = t.pair_to;
      pair_from = a.from;
      pair_to = a.to;
      whole = cond (eqb t.count 0) (is_some (whole_at s a)) t.whole;
    }

-- An array of no elements that ends at e.
abbrev pub no_parts : ℕ → Parts
no_parts e = record { end = e; outer = no_outer; one = no_members 0; two = no_members 0 }

-- One more element.
unfoldable pub with_part : List ℕ → Parts → Span → Parts
with_part s t a =
    record {
      end = t.end;
      outer = with_outer s t.outer a;
      one = cond (eqb t.outer.count 1) (members_of s (no_members 0) a.to (object_at item_depth s a)) t.one;
      two = cond (eqb t.outer.count 2) (members_of s t.one a.to (object_at item_depth s a)) t.two;
    }

abbrev pub ended_at : ℕ → Parts → Parts
ended_at e t = record { end = e; outer = t.outer; one = t.one; two = t.two }

unfoldable pub parts_in : List ℕ → Items Span → Parts
parts_in s x = folded_in (with_part s) ended_at (no_parts 0) (no_parts 0) x

-- r tells of the elements x. Where the objects of a message of four or of five are objects, the buffer has the entries that they hold; the third of four
-- is no object.
pub record PartsRead (s : List ℕ) (x : Items Span) (buffer : List ℕ) (r : Parts) : Type 0 where
  pub told : r ≡ parts_in s x
  pub room : length buffer ≡ buffer_words
  pub four : (n o c p : Span) (e : ℕ) → x ≡ items (n ∷ o ∷ c ∷ p ∷ []) e → (byte_at s c.from ≡ open_object → ⊥)
      → (ms : List Pair) → object_at item_depth s o ≡ Some ms → Kept s (held_in s (Some []) ms) buffer
  pub five : (n o q c p : Span) (e : ℕ) → x ≡ items (n ∷ o ∷ q ∷ c ∷ p ∷ []) e
      → (ms ns : List Pair) → object_at item_depth s o ≡ Some ms → object_at item_depth s q ≡ Some ns → Kept s (held_in s (held_in s (Some []) ms) ns) buffer

-- ---- check 5, of the last two elements

unfoldable pub ours_by : ℕ → List ℕ → List ℕ → Span → Span → Bool
ours_by depth name s channel pair = means s channel (ascii "book-" ++ written depth) && means s pair name

abbrev pub framed_as : ℕ → List ℕ → List ℕ → ℕ → Outer → Outline → Scan
framed_as depth name s end t outline =
    record {
      end = end;
      framed = true;
      ours =
          ours_by depth name s (record { from = t.channel_from; to = t.channel_to }) (record { from = t.pair_from; to = t.pair_to });
      outline = outline;
    }

-- ---- check 6: `whole` is whether the first element is a whole number

unfoldable pub one_object : Bool → Members → Outline
one_object whole t =
    cond (whole && t.is_object) (outline_by (snapshot_by t) (update_by (has_more (no_members 0) t) (no_members 0) t) t) no_outline

-- t is told of the first object, and u of both.
unfoldable pub two_objects : Bool → Members → Members → Outline
two_objects whole t u =
    cond (whole && (t.is_object && u.is_object)) (outline_by false (update_by (has_more (no_members 0) t && has_more t u) t u) u) no_outline
