-- `checksum_of` meets its contract: by which text the dialect sums.
use Rattle.book.proofs.Settling.{k-sums, m-sums}
use mathlib.Core.Path.{◌≡◌, sym, ap, ◌∙◌}
use mathlib.Core.List.{map}
use Rattle.crc32_spec.specs.Crc.{crc}
use Rattle.checksum.specs.Text.{k_checksum_text, m_checksum_text}
use Rattle.level.specs.Words.{shown}
use Rattle.settings.specs.Rules.{rules_of}
use Rattle.settings.specs.declared.Rules.{Rules}
use Rattle.settings.specs.declared.SumText.{SumText}
use Rattle.reference.specs.Reference.{Sides}
use Rattle.reference.proofs.Sums.{sum-stripped, sum-interleaved}
use Rattle.level.specs.Kept.{kept_in, held}
use Rattle.book.proofs.taking.checksum_of.Goals as goal
use Rattle.book.proofs.taking.checksum_of.Lts as lts
use Rattle.book.proofs.taking.checksum_of.Tie as tie
use Rattle.book.proofs.taking.checksum_of.Reads as reads

-- Places in the code.
abbrev Start : Type 0
Start = lts.Start tie.the-claims reads.Pre reads.Post

-- which text it is, of the rules that were asked for
text-is : {r q : Rules} {t : SumText} → r ≡ q → r.text ≡ t → q.text ≡ t
text-is e h = sym (ap (λ (x : Rules). x.text) e) ∙ h

pub k_checksum-requires : goal.k_checksum-requires
k_checksum-requires c =
    let a = c.args in
    let p = c.requires in
    let q = k-sums (rules_of a.dialect).text (kept_in a.bids.now a.bid_count) (kept_in a.asks.now a.ask_count) (text-is c.rules_of-rules.ensures c.in-Stripped.is) p.0 p.1 in
    (q.0, q.1, q.2, q.3, p.2)

pub m_checksum-requires : goal.m_checksum-requires
m_checksum-requires c =
    let a = c.args in
    let p = c.requires in
    let q = m-sums (rules_of a.dialect).text (kept_in a.bids.now a.bid_count) (kept_in a.asks.now a.ask_count) (text-is c.rules_of-rules.ensures c.in-Interleaved.is) p.0 p.1 in
    (q.0, q.1, q.2, q.3, p.2)

-- both sides, as the reference book has them
abbrev sides_at : Start → Sides
sides_at s = record { bids = map shown (held (kept_in s.args.bids.now s.args.bid_count)); asks = map shown (held (kept_in s.args.asks.now s.args.ask_count)) }

pub returns-in-Stripped : goal.returns-in-Stripped
returns-in-Stripped c =
    let s = c.before.before.before.before.before in
    let r = c.rules_of-rules in
    c.k_checksum.ensures
    ∙ ap (λ (x : Rules). crc (k_checksum_text x.summed (sides_at s).bids (sides_at s).asks)) r.ensures
    ∙ sum-stripped (rules_of s.args.dialect) (sides_at s) (text-is r.ensures c.in-Stripped.is)

pub returns-in-Interleaved : goal.returns-in-Interleaved
returns-in-Interleaved c =
    let s = c.before.before.before.before.before in
    let r = c.rules_of-rules in
    c.m_checksum.ensures
    ∙ ap (λ (x : Rules). crc (m_checksum_text x.summed (sides_at s).bids (sides_at s).asks)) r.ensures
    ∙ sum-interleaved (rules_of s.args.dialect) (sides_at s) (text-is r.ensures c.in-Interleaved.is)
