-- One more member, by its name.
-- Assumes nothing.
use Rattle.std.specs.Prelude.{None, Option, Some, ℕ}
use mathlib.Core.Path.{◌≡◌, refl, sym, ap, ◌∙◌, subst}
use mathlib.Core.List.{List, [], ◌∷◌}
use mathlib.Core.Bool.{Bool, true, false, ◌||◌, cond}
use Prim.Native.Nat.{ℕ, ◌≤◌, ◌<◌}
use lib.ListN.{length, get_or}
use native.Mathlib.Omega.{arith}
use Rattle.text.specs.Text.{ascii}
use Rattle.edit.specs.declared.Side.{Side}
use Rattle.edit.specs.declared.Side.TheVariants.{Bids, Asks}
use Rattle.json_tokens.specs.Ends.{end_of}
use Rattle.json_tokens.proofs.Laws.{end-at}
use Rattle.json_tokens.proofs.Bounds.{bounds}
use Rattle.json_values.specs.Json.{Span, Pair, value}
use Rattle.json_values.specs.Names.{means}
use Rattle.json_values.proofs.Bounds.{value_in}
use Rattle.json_values.proofs.Which.{meant, only_at, one-meant}
use Rattle.entries.specs.Places.{and_also}
use Rattle.entries.specs.Rows.{Entry, sided_at}
use Rattle.entries.specs.Tally.{met, told_not, told_at, array_tally, Tells, Kept, Met}
use Rattle.entries.specs.declared.Form.TheVariants.{Triple}
use Rattle.entries.specs.declared.Entries.{Entries}
use Rattle.entries.specs.declared.Tally.{Tally}
use Rattle.entries.proofs.Tallies.{tells_more, kept_more}
use Rattle.layout.specs.MemberSpans.{few_more}
use Rattle.message_k.specs.MembersK.{is_bids, is_asks, with_held, tally_with, times_with, more_summed, sum_with, with_member, with_sum, with_tally, SumRead, EntriesRead, MemberRead, closed_at}
use Rattle.message_k.specs.declared.Members.{Members}

-- the names of members that are told, which differ
abbrev names : List (List ℕ)
names = ascii "as" ∷ ascii "bs" ∷ ascii "a" ∷ ascii "b" ∷ ascii "c" ∷ []

-- ---- the entries of a side at `from`
module _ (s : List ℕ) (t : Members) (from : ℕ) (side : Side) (before after : List ℕ) (g : Entries) (h : Met 0 s 14 Triple side t.tally from before after g) where
  told-end : (e : ℕ) → value 14 s from ≡ Some e → (g.end ≡ e) × (g.tally ≡ array_tally 0 s 14 Triple side t.tally (record { from = from; to = e }))
  unfolding told_at
  told-end e v =
      let q : told_at 0 s 14 Triple side t.tally from ≡ record { end = e; tally = array_tally 0 s 14 Triple side t.tally (record { from = from; to = e }) } = rw (v, told_at) in
      (ap (λ (x : Entries). x.end) (h.told ∙ q), ap (λ (x : Entries). x.tally) (h.told ∙ q))

  told-ends : g.end ≡ end_of (value 14 s from)
  unfolding told_at end_of
  told-ends = ap (λ (x : Entries). x.end) h.told ∙ go (value 14 s from)
    where
      go : (x : Option ℕ) → (elim x as (λ y. Entries) [ Some e ↦ record { end = e; tally = array_tally 0 s 14 Triple side t.tally (record { from = from; to = e }) } | None ↦ told_not 0 ]).end ≡ end_of x
      go (Some e) = refl
      go None = refl

  pub entries-read : EntriesRead s t from side before after (with_tally g.end g.tally t)
  entries-read =
      record {
        ends = told-ends;
        collected = λ e v. let q = told-end e v in rw (q.0, q.1);
        few = λ n. let k = h.few n in omega arith;
        added = record {
          room = h.room;
          kept = λ e v x w k. (
            subst (Tells s (and_also x (sided_at side Triple 14 s (record { from = from; to = e })))) (sym (told-end e v).1) (tells_more s x t.tally side Triple 14 (record { from = from; to = e }) w),
            kept_more s x t.tally side Triple 14 from before after g w k h e v,
          );
        };
      }

abbrev pub as_object : Members → Members
as_object t = closed_at t.end t

module _ (s : List ℕ) (t : Members) (name : Span) (from : ℕ) where
  abbrev pair_to : ℕ → Pair
  pair_to e = record { name = name; value = record { from = from; to = e } }

  abbrev sides_tally : Side → ℕ → Tally
  sides_tally side e = array_tally 0 s 14 Triple side t.tally (record { from = from; to = e })

  -- by which of our names it has
  by_name : (e : ℕ) (p q x y z : Bool) → meant s name names ≡ p ∷ q ∷ x ∷ y ∷ z ∷ []
      → record {
        end = e;
        is_object = true;
        snapshot_asks = cond p (few_more t.snapshot_asks) t.snapshot_asks;
        snapshot_bids = cond q (few_more t.snapshot_bids) t.snapshot_bids;
        asks = cond x (few_more t.asks) t.asks;
        bids = cond y (few_more t.bids) t.bids;
        checksum = cond z (more_summed s t.checksum (record { from = from; to = e })) t.checksum;
        tally = cond (y || q) (sides_tally Bids e) (cond (x || p) (sides_tally Asks e) t.tally);
      }
      ≡ with_member s t (pair_to e)
  unfolding with_member times_with sum_with tally_with is_bids is_asks
  by_name e p q x y z h =
      let hp : means s name (ascii "as") ≡ p = cc in
      let hq : means s name (ascii "bs") ≡ q = cc in
      let hx : means s name (ascii "a") ≡ x = cc in
      let hy : means s name (ascii "b") ≡ y = cc in
      let hz : means s name (ascii "c") ≡ z = cc in
      sym (rw (hp, hq, hx, hy, hz))

  held_by : (e : ℕ) (r : Option (List Entry)) (p q x y z : Bool) → meant s name names ≡ p ∷ q ∷ x ∷ y ∷ z ∷ []
      → cond (y || q) (and_also r (sided_at Bids Triple 14 s (record { from = from; to = e }))) (cond (x || p) (and_also r (sided_at Asks Triple 14 s (record { from = from; to = e }))) r)
      ≡ with_held s r (pair_to e)
  unfolding with_held is_bids is_asks
  held_by e r p q x y z h =
      let hp : means s name (ascii "as") ≡ p = cc in
      let hq : means s name (ascii "bs") ≡ q = cc in
      let hx : means s name (ascii "a") ≡ x = cc in
      let hy : means s name (ascii "b") ≡ y = cc in
      sym (rw (hp, hq, hx, hy))

  -- the name at place i and no other
  alone : (i : ℕ) → i < 5 → means s name (get_or names i []) ≡ true → meant s name names ≡ only_at i names
  alone i l h = one-meant s name names refl i l h

  module _ (before after : List ℕ) (r : Members) where
    -- ---- members that hold entries: u has the name counted
    held : (side : Side) (u : Members) → EntriesRead s u from side before after r → u.tally ≡ t.tally
        → ((e : ℕ) → with_tally e (sides_tally side e) u ≡ with_member s t (pair_to e))
        → ((e : ℕ) (x : Option (List Entry)) → and_also x (sided_at side Triple 14 s (record { from = from; to = e })) ≡ with_held s x (pair_to e))
        → MemberRead s t name from before after r
    held side u g same whole next =
        record {
          ends = g.ends;
          collected = λ e v. g.collected e v ∙ ap (λ (x : Tally). with_tally e (array_tally 0 s 14 Triple side x (record { from = from; to = e })) u) same ∙ whole e;
          few = g.few;
          added = record {
            room = g.added.room;
            kept = λ e v x w k.
                let a = g.added.kept e v x (subst (Tells s x) (sym same) w) k in
                (subst (λ (y : Option (List Entry)). Tells s y r.tally) (next e x) a.0, subst (λ (y : Option (List Entry)). Kept s y after) (next e x) a.1);
          };
        }

    abbrev counted : ℕ → ℕ → ℕ → ℕ → Members
    counted sa sb a b = record { end = t.end; is_object = true; snapshot_asks = sa; snapshot_bids = sb; asks = a; bids = b; checksum = t.checksum; tally = t.tally }

    pub read_as : means s name (ascii "as") ≡ true → (n : ℕ) → n ≡ few_more t.snapshot_asks
        → EntriesRead s (counted n t.snapshot_bids t.asks t.bids) from Asks before after r → MemberRead s t name from before after r
    read_as m n q g =
        let o = alone 0 (omega arith) m in
        held Asks (counted n t.snapshot_bids t.asks t.bids) g refl (λ e. rw q (by_name e true false false false false o)) (λ e x. held_by e x true false false false false o)

    pub read-bs : means s name (ascii "bs") ≡ true → (n : ℕ) → n ≡ few_more t.snapshot_bids
        → EntriesRead s (counted t.snapshot_asks n t.asks t.bids) from Bids before after r → MemberRead s t name from before after r
    read-bs m n q g =
        let o = alone 1 (omega arith) m in
        held Bids (counted t.snapshot_asks n t.asks t.bids) g refl (λ e. rw q (by_name e false true false false false o)) (λ e x. held_by e x false true false false false o)

    pub read_a : means s name (ascii "a") ≡ true → (n : ℕ) → n ≡ few_more t.asks
        → EntriesRead s (counted t.snapshot_asks t.snapshot_bids n t.bids) from Asks before after r → MemberRead s t name from before after r
    read_a m n q g =
        let o = alone 2 (omega arith) m in
        held Asks (counted t.snapshot_asks t.snapshot_bids n t.bids) g refl (λ e. rw q (by_name e false false true false false o)) (λ e x. held_by e x false false true false false o)

    pub read-b : means s name (ascii "b") ≡ true → (n : ℕ) → n ≡ few_more t.bids
        → EntriesRead s (counted t.snapshot_asks t.snapshot_bids t.asks n) from Bids before after r → MemberRead s t name from before after r
    read-b m n q g =
        let o = alone 3 (omega arith) m in
        held Bids (counted t.snapshot_asks t.snapshot_bids t.asks n) g refl (λ e. rw q (by_name e false false false true false o)) (λ e x. held_by e x false false false true false o)

  -- ---- members that hold none
  module _ (few : met t.tally ≤ from) (buffer : List ℕ) (room : length buffer ≡ 600) (r : Members) where
    unheld : r.end ≡ end_of (value 14 s from) → ((e : ℕ) → value 14 s from ≡ Some e → r ≡ with_member s t (pair_to e))
        → ((e : ℕ) → value 14 s from ≡ Some e → r.tally ≡ t.tally) → ((e : ℕ) (x : Option (List Entry)) → x ≡ with_held s x (pair_to e))
        → MemberRead s t name from buffer buffer r
    unheld ends collected same next =
        record {
          ends = ends;
          collected = collected;
          few = λ n.
              let v = end-at (value 14 s from) r.end ends n in
              let b = bounds r.end (value_in 14 s from) v in
              let k : met r.tally ≡ met t.tally = ap met (same r.end v) in
              omega arith;
          added = record {
            room = room;
            kept = λ e v x w k.
                (subst (λ (y : Option (List Entry)). Tells s y r.tally) (next e x) (subst (Tells s x) (sym (same e v)) w), subst (λ (y : Option (List Entry)). Kept s y buffer) (next e x) k);
          };
        }

    -- the member `c`
    pub read-c : means s name (ascii "c") ≡ true → (u : Members) → u ≡ as_object t → SumRead s u from r → MemberRead s t name from buffer buffer r
    read-c m u k q =
        let o = alone 4 (omega arith) m in
        unheld q.ends
        (λ e v. q.collected e v ∙ ap (λ x. with_sum e (more_summed s x.checksum (record { from = from; to = e })) x) k ∙ by_name e false false false false true o)
        (λ e v. ap (λ (x : Members). x.tally) (q.collected e v) ∙ ap (λ (x : Members). x.tally) k)
        (λ e x. held_by e x false false false false true o)

  -- any other member
  module _ (few : met t.tally ≤ from) (buffer : List ℕ) (room : length buffer ≡ 600) (end : ℕ) (h : end ≡ end_of (value 14 s from)) where
    pub read-other : means s name (ascii "c") ≡ false → means s name (ascii "a") ≡ false → means s name (ascii "b") ≡ false
        → means s name (ascii "as") ≡ false → means s name (ascii "bs") ≡ false → MemberRead s t name from buffer buffer (closed_at end t)
    unfolding end_of
    read-other z x y p q =
        let o : meant s name names ≡ false ∷ false ∷ false ∷ false ∷ false ∷ [] = rw (p, q, x, y, z) in
        unheld few buffer room (closed_at end t) h (λ e v. rw (h ∙ ap end_of v) (by_name e false false false false false o)) (λ e v. refl)
        (λ e r. held_by e r false false false false false o)
