-- `message_m::more_members` meets its contract: part by part.
-- Assumes nothing.
use mathlib.Core.Path.{◌≡◌, ◌∙◌, sym}
use mathlib.Core.Bool.{Bool, true, false, ◌||◌, ◌&&◌}
use Rattle.text.specs.Text.{ascii}
use Rattle.json_values.specs.Names.{means}
use Rattle.json_tokens.specs.Ends.{end_of}
use Rattle.json_values.specs.Json.{Span, value}
use Rattle.message_m.specs.Collected.{is_key}
use Rattle.message_m.specs.declared.Key.TheVariants as keys
use Rattle.message_m.proofs.Steps.{members-made, members-passed, member-added}
use Rattle.message_m.proofs.more_members.Goals as goal
use Rattle.message_m.proofs.more_members.Goals.{then-met, else-met, then-met-2, else-met-2}

or-true : {a : Bool} (b : Bool) → a ≡ true → (a || b) ≡ true
or-true b h = rw h

or-next : {a b : Bool} → a ≡ false → (a || b) ≡ b
or-next h = rw h

pub more_body-body-requires : goal.more_body-body-requires
more_body-body-requires c = let p = c.requires in (p.0, p.1)

-- a member with another name
pub returns-then-eq : goal.returns-then-eq
returns-then-eq c =
    let a = c.args in
    let s = a.s.now in
    let n : Span = record { from = a.first; to = a.past } in
    let k = c.key_of-key in
    let b = c.more_body-body in
    record {
      told = members-passed a.name.now s a.met n a.from (end_of (value 15 s a.from)) k.result b.result k.ensures b.ensures.told (sym c.if-eq.ensures);
      added = member-added n k.ensures b.ensures.added;
    }

pub returns : goal.returns
returns c =
    let a = c.args in
    let s = a.s.now in
    let n : Span = record { from = a.first; to = a.past } in
    let k = c.key_of-key in
    let b = c.more_body-body in
    let book : c.if-met.result ≡ (a.met.is_book || (is_key k.result keys.Channel && means s (record { from = a.from; to = b.result.end }) (ascii "book"))) = elim c.if-met.branch [
      | then-met w ↦ w.result-is ∙ w.if-met.true ∙ sym (or-true _ w.if-met.true)
      | else-met w ↦ w.result-is ∙ w.is_book.ensures ∙ sym (or-next w.if-met.false)
    ] in
    let product : c.if-met-2.result ≡ (a.met.is_product || (is_key k.result keys.Product && means s (record { from = a.from; to = b.result.end }) a.name.now)) = elim c.if-met-2.branch [
      | then-met-2 w ↦ w.result-is ∙ w.if-met-2.true ∙ sym (or-true _ w.if-met-2.true)
      | else-met-2 w ↦ w.result-is ∙ w.is_product.ensures ∙ sym (or-next w.if-met-2.false)
    ] in
    record {
      told =
          members-made a.name.now s a.met n a.from (end_of (value 15 s a.from)) k.result b.result k.ensures b.ensures.told
          c.if-met.result c.if-met-2.result c.more_spans.result c.more_spans-2.result c.more_spans-3.result c.more_spans-4.result c.more_spans-5.result c.more_spans-6.result
          book product
          c.more_spans.ensures c.more_spans-2.ensures c.more_spans-3.ensures c.more_spans-4.ensures c.more_spans-5.ensures c.more_spans-6.ensures;
      added = member-added n k.ensures b.ensures.added;
    }
