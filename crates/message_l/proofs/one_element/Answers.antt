-- `message_l::one_element` meets its contract: the one element is where the first begins, if nothing but the closing bracket follows it.
-- Assumes nothing.
use Rattle.std.specs.Prelude.{None, is_some}
use Prim.Native.Nat.{ℕ, ◌+◌}
use lib.Dec.{eqb}
use mathlib.Core.Path.{◌≡◌, ◌∙◌, sym, ap, subst}
use mathlib.Core.List.{List}
use native.Mathlib.Omega.{arith}
use Rattle.text.specs.Text.{byte_at}
use Rattle.json_tokens.specs.Ends.{end_of}
use Rattle.json_tokens.specs.Tokens.{closing, separator}
use Rattle.json_tokens.proofs.Laws.{in-byte}
use Rattle.json_values.specs.Json.{value}
use Rattle.entries.proofs.Strings.{no_row, same_row}
use Rattle.message_l.specs.Collected.{DataRead}
use Rattle.message_l.specs.declared.Data.{Data}
use Rattle.message_l.specs.declared.Listing.{Listing}
use Rattle.message_l.proofs.Whole.{listing-end-at}
use Rattle.message_l.proofs.OneElement.{no-end, one-other, one-empty, one-wrong, one-many, one-broken, one-here, one_end, data-one}
use Rattle.message_l.proofs.one_element.Goals as goal
use Rattle.message_l.proofs.one_element.Goals.{After-l_object-listing, Else-is_some-2, then-byte_at-ne-OPEN_ARRAY-via-then-byte_at-ne-OPEN_ARRAY, then-byte_at-ne-OPEN_ARRAY-via-else-byte_at-ne-OPEN_ARRAY+then-is_some, then-past-eq0-via-then-past-eq0, then-past-eq0-via-else-past-eq0+then-is_some-2}

pub overflow_add-at : goal.overflow_add-at
overflow_add-at c =
    let a = c.args in
    let l = in-byte a.s.now a.at 91 (omega arith) (sym c.byte_at.ensures ∙ c.if-byte_at-ne-OPEN_ARRAY.false) in
    omega arith

pub returns-then-byte_at-ne-OPEN_ARRAY : goal.returns-then-byte_at-ne-OPEN_ARRAY
returns-then-byte_at-ne-OPEN_ARRAY c =
    let s = c.args.s.now in
    record {
      some = λ d q. no_row q;
      none = λ q. elim c.then-byte_at-ne-OPEN_ARRAY.branch [
        | then-byte_at-ne-OPEN_ARRAY-via-then-byte_at-ne-OPEN_ARRAY w ↦ one-other s c.args.at (λ h. w.if-byte_at-ne-OPEN_ARRAY.true (c.byte_at.ensures ∙ h))
        | then-byte_at-ne-OPEN_ARRAY-via-else-byte_at-ne-OPEN_ARRAY+then-is_some w ↦
            one-empty s c.args.at (sym c.byte_at.ensures ∙ w.if-byte_at-ne-OPEN_ARRAY.false) (sym (w.is_some.ensures ∙ ap is_some w.array_close_end.ensures) ∙ w.if-is_some.true)
      ];
      room = c.requires;
    }

pub overflow_add-at-2 : goal.overflow_add-at-2
overflow_add-at-2 c =
    let a = c.args in
    let l = in-byte a.s.now a.at 91 (omega arith) (sym c.byte_at.ensures ∙ c.if-byte_at-ne-OPEN_ARRAY.false) in
    omega arith

-- the element there was read
module _ (c : After-l_object-listing) where
  abbrev text : List ℕ
  text = c.args.s.now

  abbrev past : ℕ
  past = c.l_object-listing.result.sides.end

  opens : byte_at text c.args.at ≡ 91
  opens = sym c.byte_at.ensures ∙ c.if-byte_at-ne-OPEN_ARRAY.false

  shut : closing 93 text (c.args.at + 1) ≡ None
  shut = no-end (closing 93 text (c.args.at + 1)) (sym (c.is_some.ensures ∙ ap is_some c.array_close_end.ensures) ∙ c.if-is_some.false)

  ends : past ≡ end_of (value 14 text c.skip_blanks-first.result)
  ends = ap (λ (l : Listing). l.sides.end) c.l_object-listing.ensures.told ∙ listing-end-at c.args.name.now text c.skip_blanks-first.result

-- no comma follows
no-comma : (c : Else-is_some-2) → separator 44 c.args.s.now c.l_object-listing.result.sides.end ≡ None
no-comma c = no-end (separator 44 c.args.s.now c.l_object-listing.result.sides.end) (sym (c.is_some-else-past-eq0.ensures ∙ ap is_some c.comma_end.ensures) ∙ c.if-is_some-2.false)

pub returns-then-past-eq0 : goal.returns-then-past-eq0
returns-then-past-eq0 c =
    let m = (goal.at.returns-then-past-eq0 c).After-l_object-listing in
    let a = c.args in
    let skip = c.skip_blanks-first in
    record {
      some = λ d q. no_row q;
      none = λ q. elim c.then-past-eq0.branch [
        | then-past-eq0-via-then-past-eq0 w ↦ one-wrong a.s.now a.at (opens m) (shut m) skip.result skip.ensures (past m) (ends m) w.if-past-eq0.true
        | then-past-eq0-via-else-past-eq0+then-is_some-2 w ↦
            one-many a.s.now a.at (opens m) (shut m) skip.result skip.ensures (past m) (ends m) w.if-past-eq0.false
            (sym (w.is_some-else-past-eq0.ensures ∙ ap is_some w.comma_end.ensures) ∙ w.if-is_some-2.true)
      ];
      room = c.l_object-listing.ensures.room;
    }

pub returns-in_err-end : goal.returns-in_err-end
returns-in_err-end c =
    let m = (goal.at.returns-in_err-end c).After-l_object-listing in
    let n = no-comma (goal.at.returns-in_err-end c).Else-is_some-2 in
    let a = c.args in
    let skip = c.skip_blanks-first in
    record {
      some = λ d q. no_row (sym c.from_residual.ensures ∙ q);
      none = λ q. one-broken a.s.now a.at (opens m) (shut m) skip.result skip.ensures (past m) (ends m) c.if-past-eq0.false n (sym c.in_err-end.ensures);
      room = c.l_object-listing.ensures.room;
    }

pub returns : goal.returns
returns c =
    let m = (goal.at.returns c).After-l_object-listing in
    let n = no-comma (goal.at.returns c).Else-is_some-2 in
    let a = c.args in
    let skip = c.skip_blanks-first in
    let u = c.in_ok-end in
    let listing = c.l_object-listing in
    let here = one-here a.s.now a.at (opens m) (shut m) skip.result skip.ensures (past m) (ends m) c.if-past-eq0.false n u.end (sym u.ensures) in
    let end = one_end a.s.now a.at (opens m) (shut m) skip.result skip.ensures (past m) (ends m) c.if-past-eq0.false n u.end (sym u.ensures) in
    record {
      some = λ d q.
          subst (λ (x : Data). DataRead a.name.now a.s.now a.at listing.new.buffer x) (sym (same_row q))
          (data-one a.name.now a.s.now a.at _ listing.ensures.room skip.result listing.result listing.ensures (past m) here u.end end _ (ap (λ (k : ℕ). eqb k 123) c.byte_at-one.ensures));
      none = λ q. no_row (sym q);
      room = listing.ensures.room;
    }
