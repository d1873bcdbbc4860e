-- `bad_in` meets its contract: the price of the entry if it is bad, and else the size.
use mathlib.Core.Path.{sym, ap, ◌∙◌}
use Rattle.entries.specs.Rows.{is_bad_price, bad_price}
use Rattle.message.proofs.FirstBad.{in-none, in-price, in_size}
use Rattle.message.proofs.bad.bad_in.Goals as goal

pub returns-then-at-eq0 : goal.returns-then-at-eq0
returns-then-at-eq0 c = let a = c.args in in-none a.s.now a.form a.at c.if-at-eq0.true

pub parse_quoted-requires : goal.parse_quoted-requires
parse_quoted-requires c = let b = c in rw c.entry_at-found.ensures (b.requires c.if-at-eq0.false).0

pub returns-then-is_bad_price : goal.returns-then-is_bad_price
unfolding bad_price
returns-then-is_bad_price c =
    let a = c.args in
    in-price a.s.now a.form a.at c.if-at-eq0.false c.entry_at-found.result c.entry_at-found.ensures (sym (c.is_bad_price.ensures ∙ ap is_bad_price c.parse_quoted.ensures) ∙ c.if-is_bad_price.true)

pub returns : goal.returns
unfolding bad_price
returns c =
    let a = c.args in
    in_size a.s.now a.form a.at c.if-at-eq0.false c.entry_at-found.result c.entry_at-found.ensures (sym (c.is_bad_price.ensures ∙ ap is_bad_price c.parse_quoted.ensures) ∙ c.if-is_bad_price.false)
