-- `entries::triple_end` meets its contract: past the two strings stand a third one and the rest of the array.
-- Assumes nothing.
use mathlib.Core.Path.{◌∙◌, ap, sym}
use Rattle.json_tokens.specs.Tokens.{separator}
use Rattle.entries.specs.Found.{entry_place_of}
use Rattle.entries.proofs.Entry.{triple-is, triple-no-comma, triple-no-third, triple-none, none-some}
use Rattle.entries.proofs.triple_end.Goals as goal

pub returns-in_err-third : goal.returns-in_err-third
returns-in_err-third c =
    let a = c.args in
    let s = a.s.now in
    record { some = λ e z from f two ends. none-some (sym c.from_residual.ensures ∙ z); none = λ z from f two ends. triple-no-comma a.depth s from f two (ap (separator 44 s) ends ∙ sym c.in_err-third.ensures) }

pub returns-in_err-past : goal.returns-in_err-past
returns-in_err-past c =
    let a = c.args in
    let s = a.s.now in
    let j = c.in_ok-third in
    record { some = λ e z from f two ends. none-some (sym c.from_residual-in_err-past.ensures ∙ z); none = λ z from f two ends. triple-no-third a.depth s from f two j.third (ap (separator 44 s) ends ∙ sym j.ensures) (sym c.in_err-past.ensures) }

pub returns : goal.returns
unfolding entry_place_of
returns c =
    let a = c.args in
    let s = a.s.now in
    let j = c.in_ok-third in
    let e = c.in_ok-past in
    record {
      some = λ k n from f two ends. sym (triple-is a.depth s from f two j.third e.past (ap (separator 44 s) ends ∙ sym j.ensures) (sym e.ensures) c.rest_end.result c.rest_end.ensures k n);
      none = λ z from f two ends. triple-none a.depth s from f two j.third e.past (ap (separator 44 s) ends ∙ sym j.ensures) (sym e.ensures) c.rest_end.result c.rest_end.ensures z;
    }
