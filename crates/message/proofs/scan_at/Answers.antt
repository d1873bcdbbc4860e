-- `scan_at` meets its contract: dialect by dialect.
use Rattle.message.specs.Meaning.{envelope_in}
use Rattle.message_k.specs.LayoutK.{envelope_k}
use Rattle.message_m.specs.LayoutM.{envelope_m}
use Rattle.settings.specs.Settings.{Config}
use Rattle.settings.specs.declared.Dialect.{Dialect}
use Rattle.layout.specs.Scan.{Scanned}
use Rattle.message.proofs.Reading.{k-depth, kept-unknown, told-unknown}
use Rattle.json_tokens.specs.Ends.{end_of}
use Rattle.entries.proofs.Entry.{end-or-zero}
use mathlib.Core.Path.{sym, ap, ◌∙◌, subst}
use Rattle.message.proofs.scan_at.Goals as goal

pub k_message-requires : goal.k_message-requires
k_message-requires c =
    let b = c in
    let d = k-depth b.args.depth b.args.name.now (rw (sym c.in-K.is) b.requires.0) in
    (d.0, d.1, b.requires.1)

pub m_message-requires : goal.m_message-requires
m_message-requires c = c.requires.1

pub returns-in-K : goal.returns-in-K
unfolding envelope_in envelope_k
returns-in-K c = rw c.in-K.is c.k_message.ensures

pub returns-in-M : goal.returns-in-M
unfolding envelope_in envelope_m
returns-in-M c = rw (c.in-M.is, ← c.is_linked.ensures) c.m_message.ensures

pub returns-in-Unknown : goal.returns-in-Unknown
returns-in-Unknown c =
    let a = c.args in
    let t : Config = record { dialect = a.dialect; depth = a.depth; name = a.name.now } in
    subst (λ (d : Dialect). Scanned (envelope_in d t) a.s.now a.at a.buffer.now c.not_framed.result) (sym c.in-Unknown.is)
    (record {
      told = c.not_framed.ensures ∙ told-unknown t a.s.now a.at c.unwrap_or.result (c.unwrap_or.ensures ∙ end-or-zero c.value_end.result ∙ ap end_of c.value_end.ensures);
      kept = λ e v h g u l y. kept-unknown t a.s.now (record { from = a.at; to = e }) h g;
    })
