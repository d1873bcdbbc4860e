-- `any_entry` meets its contract: the two texts that were found are read, counted by what they say, and put as numbers.
use mathlib.Core.Bool.{Bool, true, false, ◌||◌}
use mathlib.Core.Path.{◌≡◌, refl, sym, ◌∙◌, subst}
use Rattle.decimal.specs.Decimal.{number}
use Rattle.decimal.specs.Limits.{Within}
use Rattle.decimal.specs.Reads.{parsed}
use Rattle.entries.specs.Rows.{number_at, is_bad_price, is_bad_size}
use Rattle.entries.specs.Found.{price_span, size_span}
use Rattle.entries.proofs.Numbers.{number-within}
use Rattle.entries.proofs.Decimals.{bad-by, price-by, size-by}
use Rattle.entries.proofs.Counting.{counted-entry, counted-other}
use Rattle.entries.proofs.any_entry.Goals as goal
use Rattle.entries.proofs.any_entry.Goals.{After-number_of-then-found, then-bad, else-bad, then-bad-2, else-bad-2}

or-true : {a : Bool} (b : Bool) → a ≡ true → (a || b) ≡ true
or-true b h = rw h

or-next : {a b : Bool} → a ≡ false → (a || b) ≡ b
or-next h = rw h

pub parse_quoted-price-requires : goal.parse_quoted-price-requires
parse_quoted-price-requires c = (c.requires.0 c.if-found.true).0

pub parse_quoted-size-requires : goal.parse_quoted-size-requires
parse_quoted-size-requires c = (c.requires.0 c.if-found.true).1

-- the numbers that are put are those of the two texts
module _ (c : After-number_of-then-found) where
  price-number : number c.number_of.result ≡ number_at c.args.s.now (price_span c.args.found)
  price-number =
      c.number_of.ensures
      ∙ price-by c.args.s.now c.args.at c.args.found (parsed c.parse_quoted-price.result) (parsed c.parse_quoted-size.result) c.parse_quoted-price.ensures c.parse_quoted-size.ensures

  size_number : number c.number_of-then-found.result ≡ number_at c.args.s.now (size_span c.args.found)
  size_number =
      c.number_of-then-found.ensures
      ∙ size-by c.args.s.now c.args.at c.args.found (parsed c.parse_quoted-price.result) (parsed c.parse_quoted-size.result) c.parse_quoted-price.ensures c.parse_quoted-size.ensures

pub put-requires : goal.put-requires
put-requires c =
    let a = c.args in (
      c.requires.2,
      subst Within (sym (price-number (goal.at.put-requires c).After-number_of-then-found)) (number-within a.s.now (price_span a.found)),
      subst Within (sym (size_number (goal.at.put-requires c).After-number_of-then-found)) (number-within a.s.now (size_span a.found)),
    )

pub returns-then-found : goal.returns-then-found
returns-then-found c =
    let a = c.args in
    let n = (goal.at.returns-then-found c).After-number_of-then-found in
    let p = c.parse_quoted-price in
    let z = c.parse_quoted-size in
    let price = c.is_bad_price-bad.ensures in
    let bad = bad-by a.s.now a.at a.found (parsed p.result) (parsed z.result) p.ensures z.ensures in
    let broken : c.if-bad.broken ≡ (is_bad_price (parsed p.result) || is_bad_size false (parsed z.result)) =
    elim c.if-bad.branch [
      | then-bad w ↦ w.broken-is ∙ w.if-bad.true ∙ sym (or-true _ (sym price ∙ w.if-bad.true))
      | else-bad w ↦ w.broken-is ∙ w.is_bad_size-broken.ensures ∙ sym (or-next (sym price ∙ w.if-bad.false))
    ] in
    let strict : c.if-bad-2.strict ≡ (is_bad_price (parsed p.result) || is_bad_size true (parsed z.result)) =
    elim c.if-bad-2.branch [
      | then-bad-2 w ↦ w.strict-is ∙ w.if-bad-2.true ∙ sym (or-true _ (sym price ∙ w.if-bad-2.true))
      | else-bad-2 w ↦ w.strict-is ∙ w.is_bad_size-strict.ensures ∙ sym (or-next (sym price ∙ w.if-bad-2.false))
    ] in
    counted-entry a.s.now a.side a.before a.at a.found a.buffer.now _ c.if-found.true refl
    c.if-bad.broken c.if-bad-2.strict c.with_entry-tally.ensures (broken ∙ bad false) (strict ∙ bad true)
    _ (number n.number_of.result) (number n.number_of-then-found.result) c.put.ensures (price-number n) (size_number n)

pub returns : goal.returns
returns c =
    let a = c.args in
    counted-other a.s.now a.side a.before a.at a.found a.buffer.now c.told_not.result c.if-found.false c.requires.2 c.told_not.ensures
