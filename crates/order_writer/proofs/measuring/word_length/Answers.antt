-- `word_length` meets its contract: how many bytes stand before the first zero.
use Rattle.std.proofs.Common.{rules, tests, ℕ, ◌≡◌, length, ap, ◌∙◌, arith}
use Rattle.std.proofs.lemmas.Iterator.{YieldsList-from_slice}
use Rattle.std.proofs.lemmas.Iterator.Search.{position_from_yields_List}
use lib.Dec.{eqb}
use Rattle.std.specs.List.{position}
use Rattle.std.specs.Prelude.{Option, unwrap_or}
use Rattle.order_edit.specs.Ids.{bytes_of}
use Rattle.order_writer.proofs.Ids.{length-word, bytes-short}
use Rattle.order_writer.proofs.measuring.word_length.Goals as goal

pub returns : goal.returns
returns c =
    let w = c.args.word in
    let p = position_from_yields_List (λ (x : ℕ). eqb x 0) _ _ c.position.result c.position.ensures.ran (YieldsList-from_slice _ c.iter.ensures.rest) (λ x t q k. search (rules, tests)) in
    let at : c.position.result ≡ position (λ (x : ℕ). eqb x 0) c.to_le_bytes.result = p in
    let e : c.unwrap_or.result ≡ length (bytes_of 8 w) =
    c.unwrap_or.ensures ∙ ap (λ (o : Option ℕ). unwrap_or o 8) (at ∙ ap (position (λ (x : ℕ). eqb x 0)) c.to_le_bytes.ensures) ∙ length-word w in
    let s = bytes-short 8 w in
    (e, omega arith)
