-- `message_m::more_data` meets its contract: the name says which side takes the entries, if any.
-- Assumes nothing.
use mathlib.Core.Path.{◌∙◌, sym}
use Rattle.json_values.specs.Json.{Pair}
use Rattle.edit.specs.declared.Side.TheVariants.{Bids, Asks}
use Rattle.layout.specs.MemberSpans.{member_at}
use Rattle.message_m.proofs.Steps.{end-read, entries-end, entries-tally, entries-added, added-as, added_none, data-bids, data-asks, data-other, held-bids, held_asks, held-other}
use Rattle.message_m.proofs.more_data.Goals as goal

pub returns-then-is_name : goal.returns-then-is_name
returns-then-is_name c =
    let a = c.args in
    let s = a.s.now in
    let m : Pair = member_at 14 s a.first a.past a.from in
    let e = c.side_at-read in
    let y = sym c.is_name.ensures ∙ c.if-is_name.true in
    record {
      told = data-bids s a.met m (entries-end s a.from Bids a.met.tally a.buffer.now _ e.result e.ensures) y c.few_more.ensures (entries-tally s a.from Bids a.met.tally a.buffer.now _ e.result e.ensures);
      added = added-as (entries-added s a.from Bids a.met.tally a.buffer.now _ e.result e.ensures) (λ x. held-bids s x m y);
    }

pub returns-then-is_name-2 : goal.returns-then-is_name-2
returns-then-is_name-2 c =
    let a = c.args in
    let s = a.s.now in
    let m : Pair = member_at 14 s a.first a.past a.from in
    let e = c.side_at-read-then-is_name-2 in
    let n = sym c.is_name.ensures ∙ c.if-is_name.false in
    let y = sym c.is_name-2.ensures ∙ c.if-is_name-2.true in
    record {
      told = data-asks s a.met m (entries-end s a.from Asks a.met.tally a.buffer.now _ e.result e.ensures) n y c.few_more-then-is_name-2.ensures (entries-tally s a.from Asks a.met.tally a.buffer.now _ e.result e.ensures);
      added = added-as (entries-added s a.from Asks a.met.tally a.buffer.now _ e.result e.ensures) (λ x. held_asks s x m n y);
    }

pub returns : goal.returns
returns c =
    let b = c in
    let a = b.args in
    let s = a.s.now in
    let m : Pair = member_at 14 s a.first a.past a.from in
    let n = sym c.is_name.ensures ∙ c.if-is_name.false in
    let o = sym c.is_name-2.ensures ∙ c.if-is_name-2.false in
    record {
      told = data-other s a.met m (end-read c.unwrap_or.ensures c.item_end.ensures) n o;
      added = added-as (added_none s 14 a.from a.met.tally a.buffer.now b.requires.0 b.requires.1) (λ x. held-other s x m n o);
    }
