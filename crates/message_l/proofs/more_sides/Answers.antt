-- `message_l::more_sides` meets its contract: the name says which side takes the orders, if any.
-- Assumes nothing.
use mathlib.Core.Path.{◌∙◌, sym, ap}
use native.Mathlib.Omega.{arith}
use Rattle.json_tokens.specs.Ends.{end_of}
use Rattle.json_values.specs.Json.{Pair}
use Rattle.entries.proofs.Entry.{end-or-zero}
use Rattle.edit.specs.declared.Side.TheVariants.{Bids, Asks}
use Rattle.layout.specs.MemberSpans.{member_at}
use Rattle.message_l.proofs.Steps.{orders-end, orders-tally, orders-added, passed-added, orders-bids, orders-asks, orders-other, sides-bids, sides-asks, sides-other}
use Rattle.message_l.proofs.more_sides.Goals as goal

pub orders_at-read-requires : goal.orders_at-read-requires
orders_at-read-requires c = let p = c.requires in (omega arith, p.0, p.1)

pub orders_at-read-requires-then-is_name-2 : goal.orders_at-read-requires-then-is_name-2
orders_at-read-requires-then-is_name-2 c = let p = c.requires in (omega arith, p.0, p.1)

pub returns-then-is_name : goal.returns-then-is_name
returns-then-is_name c =
    let a = c.args in
    let s = a.s.now in
    let m : Pair = member_at 13 s a.first a.past a.from in
    let e = c.orders_at-read in
    let y = sym c.is_name.ensures ∙ c.if-is_name.true in
    record {
      told = sides-bids s m a.met (orders-end s a.from Bids a.met.tally a.buffer.now _ e.result e.ensures) y c.few_more.ensures (orders-tally s a.from Bids a.met.tally a.buffer.now _ e.result e.ensures);
      added = orders-added s a.from Bids a.met.tally a.buffer.now _ e.result e.ensures m.name (orders-bids s m y);
    }

pub returns-then-is_name-2 : goal.returns-then-is_name-2
returns-then-is_name-2 c =
    let a = c.args in
    let s = a.s.now in
    let m : Pair = member_at 13 s a.first a.past a.from in
    let e = c.orders_at-read-then-is_name-2 in
    let n = sym c.is_name.ensures ∙ c.if-is_name.false in
    let y = sym c.is_name-2.ensures ∙ c.if-is_name-2.true in
    record {
      told = sides-asks s m a.met (orders-end s a.from Asks a.met.tally a.buffer.now _ e.result e.ensures) n y c.few_more-then-is_name-2.ensures (orders-tally s a.from Asks a.met.tally a.buffer.now _ e.result e.ensures);
      added = orders-added s a.from Asks a.met.tally a.buffer.now _ e.result e.ensures m.name (orders-asks s m n y);
    }

pub returns : goal.returns
returns c =
    let a = c.args in
    let s = a.s.now in
    let m : Pair = member_at 13 s a.first a.past a.from in
    let end = c.unwrap_or.ensures ∙ end-or-zero c.item_end.result ∙ ap end_of c.item_end.ensures in
    let n = sym c.is_name.ensures ∙ c.if-is_name.false in
    let o = sym c.is_name-2.ensures ∙ c.if-is_name-2.false in
    record {
      told = sides-other s m a.met end n o;
      added = passed-added s a.from m.name a.met.tally a.buffer.now c.requires.0 c.requires.1 (orders-other s m n o);
    }
