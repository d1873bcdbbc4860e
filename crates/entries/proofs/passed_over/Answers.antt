-- `entries::passed_over` meets its contract: it hands on where the value ends.
-- Assumes nothing.
use Rattle.std.specs.Prelude.{None}
use mathlib.Core.Path.{◌∙◌, ap}
use Rattle.json_tokens.specs.Ends.{end_of}
use Rattle.entries.specs.Found.{entry_place_of}
use Rattle.entries.proofs.Entry.{end-or-zero}
use Rattle.entries.proofs.passed_over.Goals as goal

pub returns : goal.returns
returns c = c.no_entry.ensures ∙ ap (λ e. entry_place_of e None) (c.unwrap_or.ensures ∙ end-or-zero c.value_end.result ∙ ap end_of c.value_end.ensures)
