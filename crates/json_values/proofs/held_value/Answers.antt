-- `json_values::held_value` meets its contract: a member's value begins past its name and a colon.
-- Assumes nothing.
use Rattle.std.specs.Prelude.{None, Some}
use mathlib.Core.Path.{◌≡◌, ◌∙◌, ap, sym}
use Rattle.json_tokens.proofs.Laws.{then_at, then-broken}
use Rattle.json_tokens.specs.Tokens.{separator, string}
use Rattle.json_values.specs.Ends.{held_value}
use Rattle.json_values.specs.declared.Container.{Container}
use Rattle.json_values.proofs.held_value.Goals as goal

pub returns-in_err-string_end-in-Object : goal.returns-in_err-string_end-in-Object
returns-in_err-string_end-in-Object c =
    let s = c.args.s.now in
    let q : string s c.args.at ≡ None = cc c.in_err-string_end-in-Object.was in
    c.from_residual.ensures ∙ sym (then-broken (separator 58 s) q) ∙ ap (λ (k : Container). held_value k s c.args.at) (sym c.in-Object.is)

pub returns-in_ok-string_end-in-Object : goal.returns-in_ok-string_end-in-Object
returns-in_ok-string_end-in-Object c =
    let s = c.args.s.now in
    let q : string s c.args.at ≡ Some c.in_ok-string_end-in-Object.field-0 = cc c.in_ok-string_end-in-Object.was in
    c.colon_end.ensures ∙ sym (then_at (separator 58 s) q) ∙ ap (λ (k : Container). held_value k s c.args.at) (sym c.in-Object.is)
