-- `k_member` meets its contract: by its name.
-- Assumes nothing.
use mathlib.Core.Path.{sym, refl, ap, ◌∙◌}
use Rattle.json_tokens.specs.Ends.{end_of}
use Rattle.entries.proofs.Entry.{end-or-zero}
use Rattle.message_k.proofs.OneMember.{read_as, read-bs, read_a, read-b, read-c, read-other}
use Rattle.message_k.proofs.k_member.Goals as goal

pub returns-then-is_name : goal.returns-then-is_name
returns-then-is_name c =
    let b = c in
    let a = b.args in
    read-c a.s.now a.members (record { from = a.name_from; to = a.name_to }) a.from b.requires.0 a.buffer.now b.requires.1 c.with_checksum.result (sym c.is_name.ensures ∙ c.if-is_name.true) _ refl c.with_checksum.ensures

pub returns-then-is_name-2 : goal.returns-then-is_name-2
returns-then-is_name-2 c =
    let a = c.args in
    read_a a.s.now a.members (record { from = a.name_from; to = a.name_to }) a.from a.buffer.now _ c.with_entries.result (sym c.is_name-2.ensures ∙ c.if-is_name-2.true) c.few_more.result c.few_more.ensures c.with_entries.ensures

pub returns-then-is_name-3 : goal.returns-then-is_name-3
returns-then-is_name-3 c =
    let a = c.args in
    read-b a.s.now a.members (record { from = a.name_from; to = a.name_to }) a.from a.buffer.now _ c.with_entries-then-is_name-3.result (sym c.is_name-3.ensures ∙ c.if-is_name-3.true) c.few_more-then-is_name-3.result c.few_more-then-is_name-3.ensures c.with_entries-then-is_name-3.ensures

pub returns-then-is_name-4 : goal.returns-then-is_name-4
returns-then-is_name-4 c =
    let a = c.args in
    read_as a.s.now a.members (record { from = a.name_from; to = a.name_to }) a.from a.buffer.now _ c.with_entries-then-is_name-4.result (sym c.is_name-4.ensures ∙ c.if-is_name-4.true) c.few_more-then-is_name-4.result c.few_more-then-is_name-4.ensures c.with_entries-then-is_name-4.ensures

pub returns-then-is_name-5 : goal.returns-then-is_name-5
returns-then-is_name-5 c =
    let a = c.args in
    read-bs a.s.now a.members (record { from = a.name_from; to = a.name_to }) a.from a.buffer.now _ c.with_entries-then-is_name-5.result (sym c.is_name-5.ensures ∙ c.if-is_name-5.true) c.few_more-then-is_name-5.result c.few_more-then-is_name-5.ensures c.with_entries-then-is_name-5.ensures

pub returns : goal.returns
returns c =
    let b = c in
    let a = b.args in
    read-other a.s.now a.members (record { from = a.name_from; to = a.name_to }) a.from b.requires.0 a.buffer.now b.requires.1 c.unwrap_or.result (c.unwrap_or.ensures ∙ end-or-zero c.value_end.result ∙ ap end_of c.value_end.ensures)
    (sym c.is_name.ensures ∙ c.if-is_name.false) (sym c.is_name-2.ensures ∙ c.if-is_name-2.false) (sym c.is_name-3.ensures ∙ c.if-is_name-3.false)
    (sym c.is_name-4.ensures ∙ c.if-is_name-4.false) (sym c.is_name-5.ensures ∙ c.if-is_name-5.false)
