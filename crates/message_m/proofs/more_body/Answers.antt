-- `message_m::more_body` meets its contract: the value of a member `data` is read as such, and any other is passed over.
-- Assumes nothing.
use mathlib.Core.Path.{◌≡◌, ap, sym, ◌∙◌}
use mathlib.Core.Bool.{true, false}
use Rattle.json_tokens.specs.Ends.{end_of}
use Rattle.json_values.specs.Json.{Span, value}
use Rattle.message_m.specs.Collected.{is_key}
use Rattle.message_m.specs.declared.Data.{Data}
use Rattle.message_m.specs.declared.Key.TheVariants as keys
use Rattle.message_m.proofs.Steps.{end-read, body-data, body-other, added-as, added-told, added_none, body-held, body-passed}
use Rattle.message_m.proofs.more_body.Goals as goal

pub m_data-data-requires : goal.m_data-data-requires
m_data-data-requires c = let p = c.requires in (p.0, p.1)

pub returns-then-eq : goal.returns-then-eq
returns-then-eq c =
    let a = c.args in
    let s = a.s.now in
    let v : Span = record { from = a.from; to = end_of (value 15 s a.from) } in
    let d = c.m_data-data in
    let m = c.with_member_span in
    let hit = is_key a.key keys.Data in
    let y : hit ≡ true = sym c.if-eq.ensures in
    record {
      told =
          ap (λ (x : Data). record { end = d.result.end; mark = m.result; last = x }) c.by_fields.ensures
          ∙ body-data s a.body v hit y d.result d.ensures.told m.result m.ensures;
      added =
          added-told (ap (λ (x : Data). x.tally) c.by_fields.ensures)
          (added-as d.ensures.added (λ x. body-held s hit x v y));
    }

pub returns : goal.returns
returns c =
    let b = c in
    let a = b.args in
    let s = a.s.now in
    let v : Span = record { from = a.from; to = end_of (value 15 s a.from) } in
    let hit = is_key a.key keys.Data in
    let n : hit ≡ false = sym c.if-eq.ensures in
    record {
      told =
          ap (λ (x : Data). record { end = c.unwrap_or.result; mark = a.body.mark; last = x }) c.by_fields-2.ensures
          ∙ body-other s a.body v hit n (end-read c.unwrap_or.ensures c.item_end.ensures);
      added =
          added-told (ap (λ (x : Data). x.tally) c.by_fields-2.ensures)
          (added-as (added_none s 15 a.from a.body.last.tally a.buffer.now b.requires.0 b.requires.1) (λ x. body-passed s hit x v n));
    }
