-- `message_l::more_listing` meets its contract: part by part.
-- Assumes nothing.
use mathlib.Core.Path.{◌≡◌, ◌∙◌}
use mathlib.Core.Bool.{Bool, ◌&&◌, ◌||◌}
use Rattle.text.specs.Text.{ascii}
use Rattle.json_tokens.specs.Ends.{end_of}
use Rattle.json_values.specs.Json.{Span, value}
use Rattle.json_values.specs.Names.{means}
use Rattle.layout.specs.MemberSpans.{member_at}
use Rattle.message_l.specs.Collected.{MoreListing}
use Rattle.message_l.proofs.Steps.{listing-made, or-stop, or-next}
use Rattle.message_l.proofs.more_listing.Goals as goal
use Rattle.message_l.proofs.more_listing.Goals.{After-more_spans-2}

module _ (c : After-more_spans-2) where
  abbrev ours : Bool
  ours = means c.args.s.now (record { from = c.args.first; to = c.args.past }) (ascii "symbol") && means c.args.s.now (record { from = c.args.from; to = c.more_sides-sides.result.end }) c.args.name.now

  made : (named : Bool) → named ≡ (c.args.met.named || ours)
      → MoreListing c.args.name.now c.args.s.now c.args.met (member_at 13 c.args.s.now c.args.first c.args.past c.args.from) c.args.buffer.now c.more_sides-sides.new.buffer
      (record { sides = c.more_sides-sides.result; symbol = c.more_spans.result; checksum = c.more_spans-2.result; named = named })
  made named h =
      let a = c.args in
      let s = a.s.now in
      let n : Span = record { from = a.first; to = a.past } in
      let d = c.more_sides-sides in
      record {
        told =
            listing-made a.name.now s a.met n a.from (end_of (value 13 s a.from)) d.result d.ensures.told
            c.more_spans.result c.more_spans-2.result named c.more_spans.ensures c.more_spans-2.ensures h;
        added = d.ensures.added;
      }

pub returns-then-met : goal.returns-then-met
returns-then-met c = let m = (goal.at.returns-then-met c).After-more_spans-2 in made m c.args.met.named (or-stop (ours m) c.if-met.true)

pub returns-else-met : goal.returns-else-met
returns-else-met c = let m = (goal.at.returns-else-met c).After-more_spans-2 in made m c.is_symbol.result (c.is_symbol.ensures ∙ or-next c.if-met.false)
