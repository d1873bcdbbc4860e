-- `lay` meets its contract: dialect by dialect.
use Rattle.book.proofs.Snapshots.{name-length, k_text, m_text, no_text}
use Rattle.book.proofs.Settling.{m-sums}
use mathlib.Core.Path.{sym, ap, ◌∙◌, subst}
use mathlib.Core.List.{List, [], map}
use Rattle.crc32_spec.specs.Crc.{crc}
use Rattle.checksum.specs.Text.{m_checksum_text}
use Rattle.level.specs.Words.{shown}
use Rattle.level.specs.Kept.{held}
use Rattle.settings.specs.Rules.{rules_of}
use Rattle.settings.specs.declared.Rules.{Rules}
use Rattle.settings.specs.declared.Dialect.{Dialect}
use Prim.Native.Nat.{ℕ}
use native.Mathlib.Omega.{arith}
use Rattle.decimal.specs.Laying.{Laid}
use Rattle.crc32.proofs.Filled.{empty-table}
use Rattle.book.proofs.writing.lay.Goals as goal

pub slice_bounds-k_write-end : goal.slice_bounds-k_write-end
slice_bounds-k_write-end c =
    let a = c.args in
    sym (name-length a.book c.requires)

pub k_write-requires : goal.k_write-requires
k_write-requires c =
    let a = c.args in
    let g = c.requires in
    let n = name-length a.book g in
    let s = g.short in
    (g.bids.good, g.asks.good, g.bids.sized, g.asks.sized, omega arith)

pub m_checksum-sum-requires : goal.m_checksum-sum-requires
unfolding rules_of
m_checksum-sum-requires c =
    let b = c in
    let a = b.args in
    let g = b.requires in
    let q = m-sums (rules_of a.book.settings.dialect).text a.book.bids a.book.asks (ap (λ (d : Dialect). (rules_of d).text) c.in-M.is) g.bids g.asks in
    (q.0, q.1, q.2, q.3, empty-table [])

pub slice_bounds-m_write-end : goal.slice_bounds-m_write-end
slice_bounds-m_write-end c =
    let a = c.args in
    sym (name-length a.book c.requires)

pub m_write-requires : goal.m_write-requires
m_write-requires c =
    let a = c.args in
    let g = c.requires in
    let n = name-length a.book g in
    let s = g.short in
    (g.bids.good, g.asks.good, g.bids.sized, g.asks.sized, omega arith)

pub returns-in-K : goal.returns-in-K
returns-in-K c =
    let a = c.args in
    subst (λ (t : List ℕ). Laid a.buffer.now 0 t c.k_write.new.buffer c.k_write.result) (k_text a.book c.in-K.is) c.k_write.ensures

pub returns-in-M : goal.returns-in-M
returns-in-M c =
    let a = c.args in
    let e = c.in-M.is in
    let r = c.rules_of-rules.ensures in
    let sum = c.m_checksum-sum in
    subst (λ (t : List ℕ). Laid a.buffer.now 0 t c.m_write.new.buffer c.m_write.result)
    (m_text a.book _ e sum.result (sum.ensures ∙ ap (λ (x : Rules). crc (m_checksum_text x.summed (map shown (held a.book.bids)) (map shown (held a.book.asks)))) (r ∙ ap rules_of e)))
    c.m_write.ensures

pub returns-in-Unknown : goal.returns-in-Unknown
returns-in-Unknown c =
    let a = c.args in
    no_text a.book c.in-Unknown.is a.buffer.now
