-- `work` meets its contract: bids and then asks are worked in copies, asks beside the bids as those then stand, and kept at the end.
use native.Mathlib.Omega.{arith}
use lib.ListN.{take}
use Rattle.edit.specs.declared.Side.TheVariants.{Bids, Asks}
use Rattle.order_edit.specs.Buffer.{entries_in}
use Rattle.orders.proofs.Both.{good-copied, first-clash, bids-good, second-clash, asks-good, cut-sides}
use Rattle.std.proofs.Common.{rules, ℕ, ◌≡◌}
use Rattle.std.specs.Option.{ok_or}
use Rattle.std.specs.Prelude.{Option, Some, None, Result, Ok, Err}
use Rattle.orders.specs.declared.Refusal.{Refusal}
use Rattle.orders.specs.declared.Refusal.TheVariants.{Clashed}
use Rattle.orders.proofs.updating.work.Goals as goal

ok-some : (o : Option ℕ) (r : Result ℕ Refusal) (n : ℕ) → r ≡ ok_or o Clashed → r ≡ Ok n → o ≡ Some n
ok-some (Some m) r n e f = grind arith
ok-some None r n e f = grind arith

err-none : (o : Option ℕ) (r : Result ℕ Refusal) (x : Refusal) → r ≡ ok_or o Clashed → r ≡ Err x → o ≡ None
err-none (Some m) r x e f = grind arith
err-none None r x e f = grind arith

pub apply-requires : goal.apply-requires
apply-requires c =
    let s = c in
    let w = c.copy.ensures in
    let o = c.copy-2.ensures in
    (good-copied Bids s.args.bids.now _ s.args.b _ s.requires.0.good (omega (arith, s.requires.0.few)) w, record { room = omega (arith, w.room, s.requires.0.few, s.requires.2.bids); other_room = omega (arith, o.room, s.requires.1.few); wide = s.requires.2.wide; few = s.requires.2.few; sound = s.requires.2.sound }, s.requires.3)

pub returns-in_err-n : goal.returns-in_err-n
returns-in_err-n c =
    let s = c in
    let es = take s.args.entries (entries_in s.args.buffer.now) in
    let clashed : c.from_residual.result ≡ Err Clashed = search rules in
    rw clashed
    (first-clash s.args.listed s.args.depth s.args.b s.args.a s.args.bids.now s.args.asks.now es _ _ c.copy.ensures.orders c.copy-2.ensures.orders _ c.apply.result c.apply.ensures (err-none _ _ _ c.ok_or.ensures.value c.in_err-n.was))

pub apply-requires-2 : goal.apply-requires-2
apply-requires-2 c =
    let s = c in
    let es = take s.args.entries (entries_in s.args.buffer.now) in
    let o = c.copy-2.ensures in
    let g = bids-good s.args.listed s.args.depth s.args.b s.args.a s.args.bids.now s.args.asks.now es _ _ c.copy.ensures.orders c.copy-2.ensures.orders _ c.apply.result c.apply.ensures c.in_ok-n.n (ok-some _ _ _ c.ok_or.ensures.value c.in_ok-n.was) in
    (good-copied Asks s.args.asks.now _ s.args.a _ s.requires.1.good (omega (arith, s.requires.1.few)) o, record { room = omega (arith, o.room, s.requires.1.few, s.requires.2.asks); other_room = g.room; wide = s.requires.2.wide; few = s.requires.2.few; sound = s.requires.2.sound }, s.requires.3)

pub returns-in_err-m : goal.returns-in_err-m
returns-in_err-m c =
    let s = c in
    let es = take s.args.entries (entries_in s.args.buffer.now) in
    let clashed : c.from_residual-in_err-m.result ≡ Err Clashed = search rules in
    rw clashed
    (second-clash s.args.listed s.args.depth s.args.b s.args.a s.args.bids.now s.args.asks.now es _ _ c.copy.ensures.orders c.copy-2.ensures.orders _ c.apply.result c.apply.ensures c.in_ok-n.n (ok-some _ _ _ c.ok_or.ensures.value c.in_ok-n.was) _ c.apply-2.result c.apply-2.ensures (err-none _ _ _ c.ok_or-2.ensures.value c.in_err-m.was))

pub keep-requires : goal.keep-requires
keep-requires c =
    let s = c in
    let es = take s.args.entries (entries_in s.args.buffer.now) in
    let b = bids-good s.args.listed s.args.depth s.args.b s.args.a s.args.bids.now s.args.asks.now es _ _ c.copy.ensures.orders c.copy-2.ensures.orders _ c.apply.result c.apply.ensures c.in_ok-n.n (ok-some _ _ _ c.ok_or.ensures.value c.in_ok-n.was) in
    let a = asks-good s.args.listed s.args.depth s.args.b s.args.a s.args.bids.now s.args.asks.now es _ _ c.copy.ensures.orders c.copy-2.ensures.orders _ c.apply.result c.apply.ensures c.in_ok-n.n (ok-some _ _ _ c.ok_or.ensures.value c.in_ok-n.was) _ c.apply-2.result c.apply-2.ensures c.in_ok-m.m (ok-some _ _ _ c.ok_or-2.ensures.value c.in_ok-m.was) in
    (b, a, s.requires.0.wide, s.requires.1.wide)

pub returns : goal.returns
returns c =
    let s = c in
    let es = take s.args.entries (entries_in s.args.buffer.now) in
    rw (cut-sides s.args.listed s.args.depth s.args.b s.args.a s.args.bids.now s.args.asks.now es _ _ c.copy.ensures.orders c.copy-2.ensures.orders _ c.apply.result c.apply.ensures c.in_ok-n.n (ok-some _ _ _ c.ok_or.ensures.value c.in_ok-n.was) _ c.apply-2.result c.apply-2.ensures c.in_ok-m.m (ok-some _ _ _ c.ok_or-2.ensures.value c.in_ok-m.was)) at c.keep.ensures
