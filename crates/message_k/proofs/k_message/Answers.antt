-- `k_message` meets its contract: by how many elements the array has.
-- Assumes nothing.
use mathlib.Core.Path.{◌≡◌, sym, ap, ◌∙◌}
use native.Mathlib.Omega.{arith}
use Rattle.text.specs.Text.{byte_at}
use Rattle.json_tokens.proofs.Laws.{in-byte}
use Rattle.json_tokens.specs.Ends.{end_of}
use Rattle.entries.proofs.Entry.{end-or-zero}
use Rattle.layout.specs.Scan.{not_framed}
use Rattle.message_k.specs.PartsK.{framed_as}
use Rattle.message_k.proofs.Messages.{told_by, told-four, told-five, told-other, told_none, told_array, keeps-other, keeps-array}
use Rattle.message_k.proofs.k_message.Goals as goal
use Rattle.message_k.proofs.k_message.Goals.{Else-byte_at-ne-OPEN_ARRAY, in-4, in-5}

-- the bracket stands there
module _ (c : Else-byte_at-ne-OPEN_ARRAY) where
  opens : byte_at c.args.s.now c.args.at ≡ 91
  opens = sym c.byte_at.ensures ∙ c.if-byte_at-ne-OPEN_ARRAY.false

pub returns-then-byte_at-ne-OPEN_ARRAY : goal.returns-then-byte_at-ne-OPEN_ARRAY
returns-then-byte_at-ne-OPEN_ARRAY c =
    let a = c.args in
    let s = a.s.now in
    let d = a.depth in
    let n = a.name.now in
    let other : (byte_at s a.at ≡ 91 → ⊥) = λ z. c.if-byte_at-ne-OPEN_ARRAY.true (c.byte_at.ensures ∙ z) in
    record { told = c.not_framed.ensures ∙ ap not_framed (c.unwrap_or.ensures ∙ end-or-zero c.value_end.result ∙ ap end_of c.value_end.ensures) ∙ told_none d n s a.at other; kept = keeps-other d n s a.at a.buffer.now other }

pub overflow_add-at : goal.overflow_add-at
overflow_add-at c = let l = in-byte c.args.s.now c.args.at 91 (omega arith) (opens c) in omega arith

pub k_parts-parts-requires : goal.k_parts-parts-requires
k_parts-parts-requires c = c.requires.2

pub returns-in_default : goal.returns-in_default
returns-in_default c =
    let a = c.args in
    let s = a.s.now in
    let d = a.depth in
    let n = a.name.now in
    let k = c.k_parts-parts in
    let p = k.result in
    let opened = opens (goal.at.returns-in_default c).Else-byte_at-ne-OPEN_ARRAY in
    record {
      told = c.not_framed-in_default.ensures ∙ told-other d n s p (λ z. omega arith) (λ z. omega arith) ∙ ap (told_by d n s) k.ensures.told ∙ told_array d n s a.at opened;
      kept = keeps-array d n s a.at _ opened p k.ensures;
    }

pub returns : goal.returns
returns c =
    let a = c.args in
    let s = a.s.now in
    let d = a.depth in
    let n = a.name.now in
    let k = c.k_parts-parts in
    let p = k.result in
    let opened = opens (goal.at.returns c).Else-byte_at-ne-OPEN_ARRAY in
    let told : framed_as d n s p.end p.outer c.match-outer.outline ≡ told_by d n s p =
    elim c.match-outer.branch [
      | in-4 w ↦ ap (framed_as d n s p.end p.outer) (w.outline-is ∙ w.one_object-outline.ensures) ∙ told-four d n s p w.in-4.is
      | in-5 w ↦ ap (framed_as d n s p.end p.outer) (w.outline-is ∙ w.two_objects-outline.ensures) ∙ told-five d n s p w.in-5.is
    ] in
    record {
      told = c.framed.ensures ∙ told ∙ ap (told_by d n s) k.ensures.told ∙ told_array d n s a.at opened;
      kept = keeps-array d n s a.at _ opened p k.ensures;
    }
