-- `json_tokens::number_end` meets its contract: its parts follow one another as in the definition.
-- Assumes nothing.
use mathlib.Core.Path.{◌≡◌}
use Rattle.std.specs.Prelude.{None, Some}
use Rattle.json_tokens.proofs.Laws.{number_is, number-no-fraction, number-no-int}
use Rattle.json_tokens.specs.Tokens.{int, minus, fraction}
use Rattle.json_tokens.proofs.number_end.Goals as goal

pub returns-in_err-j : goal.returns-in_err-j
returns-in_err-j c =
    let s = c.args.s.now in
    let i = c.args.at in
    let p : int s (minus s i) ≡ None = cc c.in_err-j.was in
    cc (number-no-int s i p)

pub returns-in_err-k : goal.returns-in_err-k
returns-in_err-k c =
    let s = c.args.s.now in
    let i = c.args.at in
    let p : int s (minus s i) ≡ Some c.in_ok-j.j = cc c.in_ok-j.was in
    let q : fraction s c.in_ok-j.j ≡ None = cc c.in_err-k.was in
    cc (number-no-fraction s i c.in_ok-j.j p q)

pub returns : goal.returns
returns c =
    let s = c.args.s.now in
    let i = c.args.at in
    let p : int s (minus s i) ≡ Some c.in_ok-j.j = cc c.in_ok-j.was in
    let q : fraction s c.in_ok-j.j ≡ Some c.in_ok-k.k = cc c.in_ok-k.was in
    cc (number_is s i c.in_ok-j.j c.in_ok-k.k p q)
