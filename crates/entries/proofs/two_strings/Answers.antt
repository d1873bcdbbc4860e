-- `entries::two_strings` meets its contract: each of its ways out is where an array, a string or a comma is missing, but the last.
-- Assumes nothing.
use mathlib.Core.Bool.{true≢false}
use mathlib.Core.Path.{◌∙◌, ap, refl, sym}
use native.Mathlib.Omega.{arith}
use Rattle.json_tokens.proofs.Laws.{in-byte}
use Rattle.json_tokens.specs.Tokens.{string}
use Rattle.entries.proofs.Entry.{front-none, neither-array, neither-comma, neither-first, neither-second}
use Rattle.entries.proofs.two_strings.Goals as goal

pub returns-then-byte_at-ne-OPEN_ARRAY : goal.returns-then-byte_at-ne-OPEN_ARRAY
returns-then-byte_at-ne-OPEN_ARRAY c =
    let a = c.args in
    let s = a.s.now in
    front-none s a.at _ c.no_entry.ensures (neither-array s a.at (λ z. c.if-byte_at-ne-OPEN_ARRAY.true (c.byte_at.ensures ∙ z)))

pub overflow_add-at : goal.overflow_add-at
overflow_add-at c =
    let a = c.args in
    let s = a.s.now in
    let l = in-byte s a.at 91 (omega arith) (sym c.byte_at.ensures ∙ c.if-byte_at-ne-OPEN_ARRAY.false) in
    omega arith

pub returns-in_default : goal.returns-in_default
returns-in_default c =
    let s = c.args.s.now in
    let opens = sym c.byte_at.ensures ∙ c.if-byte_at-ne-OPEN_ARRAY.false in
    front-none s c.args.at _ c.no_entry-in_default.ensures (neither-first s c.args.at opens (ap (string s) (sym c.skip_blanks-price_from.ensures) ∙ sym c.string_end.ensures ∙ c.in_default.is))

pub returns-in_default-comma_end : goal.returns-in_default-comma_end
returns-in_default-comma_end c =
    let s = c.args.s.now in
    let opens = sym c.byte_at.ensures ∙ c.if-byte_at-ne-OPEN_ARRAY.false in
    let p = c.skip_blanks-price_from in
    let q = c.in-Some in
    front-none s c.args.at _ c.no_entry-in_default-comma_end.ensures
    (neither-comma s c.args.at opens p.result q.price_to p.ensures (sym c.string_end.ensures ∙ q.is) (sym c.comma_end.ensures ∙ c.in_default-comma_end.is))

pub returns-in_default-string_end : goal.returns-in_default-string_end
returns-in_default-string_end c =
    let s = c.args.s.now in
    let opens = sym c.byte_at.ensures ∙ c.if-byte_at-ne-OPEN_ARRAY.false in
    let p = c.skip_blanks-price_from in
    let q = c.in-Some in
    let z = c.in-Some-comma_end in
    front-none s c.args.at _ c.no_entry-in_default-string_end.ensures
    (neither-second s c.args.at opens p.result q.price_to p.ensures (sym c.string_end.ensures ∙ q.is) z.size_from (sym c.comma_end.ensures ∙ z.is) (sym c.string_end-2.ensures ∙ c.in_default-string_end.is))

pub returns : goal.returns
returns c =
    let opens = sym c.byte_at.ensures ∙ c.if-byte_at-ne-OPEN_ARRAY.false in
    record {
      two = λ t. record {
        opens = opens;
        begins = c.skip_blanks-price_from.ensures;
        price = sym c.string_end.ensures ∙ c.in-Some.is;
        comma = sym c.comma_end.ensures ∙ c.in-Some-comma_end.is;
        size = sym c.string_end-2.ensures ∙ c.in-Some-string_end.is;
        ends = refl;
      };
      neither = λ t. absurd (true≢false t);
    }
