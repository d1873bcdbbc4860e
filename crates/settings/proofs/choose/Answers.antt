-- `choose` meets its contract: good settings are kept whole, others as none.
use Prim.Native.Nat.{ℕ, zero-le}
use mathlib.Core.Path.{refl, sym, ap, ◌∙◌}
use mathlib.Core.List.{List}
use lib.ListN.{length}
use Rattle.settings.specs.Settings.{Config}
use Rattle.settings.specs.Kept.{config_of, padded, settings_of}
use Rattle.settings.proofs.Good.{good-short, kept-good, kept-none}
use Rattle.settings.proofs.choose.Goals as goal
use Rattle.settings.proofs.choose.Goals.{Start}

abbrev given : Start → Config
given s = record { dialect = s.args.dialect; depth = s.args.depth; name = s.args.name.now }

pub copy_name-requires : goal.copy_name-requires
copy_name-requires c = good-short (given (goal.at.copy_name-requires c).Start) (sym c.is_good.ensures ∙ c.if-is_good.true)

pub returns-then-is_good : goal.returns-then-is_good
unfolding config_of settings_of
returns-then-is_good c =
    let t = given (goal.at.returns-then-is_good c).Start in
    let g = sym c.is_good.ensures ∙ c.if-is_good.true in
    record {
      is = ap (λ (n : List ℕ). record { dialect = t.dialect; depth = t.depth; name = n; length = length t.name }) c.copy_name.ensures.is ∙ sym (ap settings_of (kept-good t g));
      config = ap (λ (n : List ℕ). record { dialect = t.dialect; depth = t.depth; name = n }) c.copy_name.ensures.front ∙ sym (kept-good t g);
      room = c.copy_name.ensures.room;
      short = good-short t g;
    }

pub returns : goal.returns
unfolding config_of settings_of padded
returns c =
    let none = kept-none (given (goal.at.returns c).Start) (sym c.is_good.ensures ∙ c.if-is_good.false) in
    record { is = sym (ap settings_of none); config = sym none; room = refl; short = zero-le }
