-- `split_of` meets its contract: the digits are those up to the ninth decimal, and the code tells the others.
use Rattle.std.proofs.Common.{◌≡◌, ℕ, sym, ap, ◌∙◌, ap₂}
use Rattle.decimal.specs.Decimal.{number}
use Rattle.decimal.specs.declared.Split.{Split}
use Rattle.decimal.proofs.Words.{near-words, past_words, decimals-words}
use Rattle.decimal.proofs.split_of.Goals as goal

split : ℕ → ℕ → ℕ → Split
split digits past decimals = record { digits = digits; past = past; decimals = decimals }

ap₃ : {A : Type 0} (f : ℕ → ℕ → ℕ → A) {a b c d e g : ℕ} → a ≡ b → c ≡ d → e ≡ g → f a c e ≡ f b d g
ap₃ f {a = a} {d = d} {g = g} p q r = ap₂ (f a) q r ∙ ap (λ (n : ℕ). f n d g) p

pub returns : goal.returns
unfolding number split
returns c =
    let a = c.args.a in
    ap₃ split
    (sym (near-words a.digits a.code))
    (c.past.ensures ∙ sym (past_words a.digits a.code))
    (c.decimals.ensures ∙ sym (decimals-words a.digits a.code))
