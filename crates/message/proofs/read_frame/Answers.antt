-- `read_frame` meets its contract: a message that is too long, or the checks by what one walk tells.
use Rattle.message.proofs.Reading.{frame-long, frame-rest, long_kept, framed_kept}
use mathlib.Core.Path.{ap, ◌∙◌, subst}
use Prim.Native.Nat.{ℕ}
use Rattle.settings.specs.Settings.{Config}
use Rattle.layout.specs.Scan.{scan_at, Scanned}
use Rattle.message.specs.Meaning.{envelope_in}
use Rattle.message.proofs.read_frame.Goals as goal

pub returns-then-rules-s : goal.returns-then-rules-s
returns-then-rules-s c =
    let a = c.args in
    let t : Config = record { dialect = a.dialect; depth = a.depth; name = a.name.now } in
    let u = c.rules_of-rules in
    record {
      told = frame-long t a.s.now u.result u.ensures c.if-rules-s.true;
      kept = λ l h. long_kept t a.s.now u.result u.ensures c.if-rules-s.true l h;
    }

pub scan_at-scan-requires : goal.scan_at-scan-requires
scan_at-scan-requires c = let p = c.requires in (p.0, p.1)

pub returns : goal.returns
returns c =
    let a = c.args in
    let t : Config = record { dialect = a.dialect; depth = a.depth; name = a.name.now } in
    let s = a.s.now in
    let u = c.rules_of-rules in
    let k = c.skip_blanks.ensures in
    let w = c.scan_at-scan in
    record {
      told = c.decide.ensures ∙ frame-rest t s u.result u.ensures c.if-rules-s.false w.result (w.ensures.told ∙ ap (scan_at (envelope_in a.dialect t) s) k) c.is_ended-ended.result c.is_ended-ended.ensures;
      kept = λ l h. framed_kept t s w.new.buffer w.result (subst (λ (n : ℕ). Scanned (envelope_in a.dialect t) s n w.new.buffer w.result) k w.ensures) l h;
    }
