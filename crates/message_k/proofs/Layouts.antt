-- Check 6 by what is told of the objects is check 6 of the objects.
-- Assumes nothing.
use Rattle.std.specs.Prelude.{None, Option, Some, is_some, unwrap_or}
use mathlib.Core.Path.{◌≡◌, refl, sym, ap, ◌∙◌, subst}
use mathlib.Core.List.{List, [], ◌∷◌, ◌++◌, append-nil}
use mathlib.Core.Bool.{Bool, true, false, true≢false, ◌&&◌, ◌||◌, cond, and-eq-true_iff}
use Prim.Native.Nat.{ℕ, ◌+◌, ◌≤◌}
use native.Mathlib.Omega.{arith}
use lib.Dec.{leb, ltb, eqb}
use lib.ListN.{length, length-append}
use borrow.Author.Tests.{eqb-true, leb-true}
use Rattle.text.specs.Text.{ascii}
use Rattle.edit.specs.declared.Side.TheVariants.{Bids, Asks}
use Rattle.json_values.specs.Json.{Span, Pair}
use Rattle.json_values.specs.Names.{means}
use Rattle.json_values.specs.Fold.{fold_from}
use Rattle.entries.specs.Places.{and_then, and_also, values_of, only, quoted_checksum_at}
use Rattle.entries.specs.Rows.{Entry, sided_at}
use Rattle.entries.specs.Tally as tallies·
use Rattle.entries.specs.declared.Form.TheVariants.{Triple}
use Rattle.entries.proofs.Tallies.{none-also, also-none, also-assoc}
use Rattle.layout.specs.Layout.{printed, unprinted, Layout, member_entries, entries_in, laid}
use Rattle.layout.specs.declared.Kind.TheVariants.{Snapshot, Update}
use Rattle.layout.specs.Scan.{is_printed, sum_of, no_outline, outline_of, outline_from}
use Rattle.layout.specs.MemberSpans.{few}
use Rattle.layout.proofs.Laws.{outline-of, laid-entries}
use Rattle.message_k.specs.LayoutK.{times, together, is_snapshot, each_has_one, last_of, is_update, entries_k, objects_layout}
use Rattle.message_k.specs.MembersK.{is_bids, is_asks, with_held, held_in, more_summed, no_members, has_more, snapshot_by, update_by, outline_by}
use Rattle.message_k.specs.declared.Members.{Members}
use Rattle.message_k.proofs.Counts.{few-zero, few-one, few-most, few-some, few-rises, some_or, none-and, once_last, and-on}
use Rattle.message_k.proofs.Tells.{sums_of, Tells, values-append, snapshot-asks-count, snapshot-bids-count, asks-count, bids-count, checksum-count}

no-layout : {A : Type 0} {l : Layout} → ◌≡◌ {A = Option Layout} None (Some l) → A
no-layout h = absurd (true≢false (sym (ap (λ (y : Option Layout). elim y [ Some k ↦ true | None ↦ false ]) h)))

pub both_true : (a b : Bool) → (a && b) ≡ true → (a ≡ true) × (b ≡ true)
both_true a b h = (and-eq-true_iff a b).0 h

and-true : (b : Bool) → b ≡ (b && true)
and-true true = refl
and-true false = refl

or-false : (b : Bool) → (b || false) ≡ b
or-false true = refl
or-false false = refl

-- ---- the entries that all members hold are those of two names, where the other two are not met
module _ (s other-bids other-asks bids asks : List ℕ)
    (is-bids : (a : Span) → means s a other-bids ≡ false → is_bids s a ≡ means s a bids)
    (is-asks : (a : Span) → means s a other-asks ≡ false → is_asks s a ≡ means s a asks) where
  absent : (name : List ℕ) (m : Pair) (ms : List Pair) → times s name (m ∷ ms) ≡ 0 → (means s m.name name ≡ false) × (times s name ms ≡ 0)
  unfolding times values_of
  absent name m ms h = go (means s m.name name) h
    where
      go : (b : Bool) → length (cond b (m.value ∷ values_of s name ms) (values_of s name ms)) ≡ 0 → (b ≡ false) × (length (values_of s name ms) ≡ 0)
      go true g = absurd (omega arith)
      go false g = (refl, g)

  one-held : (x : Option (List Entry)) (m : Pair) → means s m.name other-bids ≡ false → means s m.name other-asks ≡ false
      → with_held s x m ≡ and_also x (member_entries Triple 14 s bids asks m)
  unfolding with_held member_entries
  one-held x m h g = rw (is-bids m.name h, is-asks m.name g) (go (means s m.name bids) (means s m.name asks))
    where
      go : (b a : Bool) → cond b (and_also x (sided_at Bids Triple 14 s m.value)) (cond a (and_also x (sided_at Asks Triple 14 s m.value)) x)
          ≡ and_also x (cond b (sided_at Bids Triple 14 s m.value) (cond a (sided_at Asks Triple 14 s m.value) (Some [])))
      go true a = refl
      go false true = refl
      go false false = sym (also-none x)

  pub held-are : (x : Option (List Entry)) (ms : List Pair) → times s other-bids ms ≡ 0 → times s other-asks ms ≡ 0
      → held_in s x ms ≡ and_also x (entries_in Triple 14 s bids asks ms)
  unfolding fold_from entries_in
  held-are x [] h g = sym (also-none x)
  held-are x (m ∷ ms) h g =
      let p = absent other-bids m ms h in
      let q = absent other-asks m ms g in
      held-are (with_held s x m) ms p.1 q.1
      ∙ ap (λ (y : Option (List Entry)). and_also y (entries_in Triple 14 s bids asks ms)) (one-held x m p.0 q.0)
      ∙ also-assoc x (member_entries Triple 14 s bids asks m) (entries_in Triple 14 s bids asks ms)

module _ (s : List ℕ) (ms : List Pair) where
  pub snapshot-held : times s (ascii "b") ms ≡ 0 → times s (ascii "a") ms ≡ 0 → held_in s (Some []) ms ≡ entries_in Triple 14 s (ascii "bs") (ascii "as") ms
  unfolding is_bids is_asks
  snapshot-held h g =
      held-are s (ascii "b") (ascii "a") (ascii "bs") (ascii "as") (λ a k. rw k) (λ a k. rw k) (Some []) ms h g ∙ none-also (entries_in Triple 14 s (ascii "bs") (ascii "as") ms)

  pub update-held : times s (ascii "bs") ms ≡ 0 → times s (ascii "as") ms ≡ 0 → held_in s (Some []) ms ≡ entries_in Triple 14 s (ascii "b") (ascii "a") ms
  unfolding is_bids is_asks
  update-held h g =
      held-are s (ascii "bs") (ascii "as") (ascii "b") (ascii "a") (λ a k. rw k (or-false (means s a (ascii "b")))) (λ a k. rw k (or-false (means s a (ascii "a")))) (Some []) ms h g
      ∙ none-also (entries_in Triple 14 s (ascii "b") (ascii "a") ms)

-- ---- the layout
module _ (s : List ℕ) (objects : List (List Pair)) where
  abbrev often : List ℕ → ℕ
  often name = times s name (together objects)

  snapshot-none : is_snapshot s objects ≡ true → (often (ascii "b") ≡ 0) × (often (ascii "a") ≡ 0)
  unfolding is_snapshot
  snapshot-none g =
      let a = both_true (eqb (length objects) 1) _ g in
      let b = both_true (eqb (often (ascii "as")) 1) _ a.1 in
      let c = both_true (eqb (often (ascii "bs")) 1) _ b.1 in
      let z : often (ascii "a") + (often (ascii "b") + often (ascii "c")) ≡ 0 = eqb-true _ 0 c.1 in
      (omega arith, omega arith)

  update-none : is_update s objects ≡ true → (often (ascii "bs") ≡ 0) × (often (ascii "as") ≡ 0) × (often (ascii "c") ≡ 1)
  unfolding is_update
  update-none g =
      let a = both_true (leb (often (ascii "a")) 1) _ g in
      let b = both_true (leb (often (ascii "b")) 1) _ a.1 in
      let e = both_true (each_has_one s objects) _ b.1 in
      let c = both_true (eqb (often (ascii "c")) 1) _ e.1 in
      let l = both_true (eqb (times s (ascii "c") (last_of objects)) 1) _ c.1 in
      let z : often (ascii "as") + often (ascii "bs") ≡ 0 = eqb-true _ 0 l.1 in
      (omega arith, omega arith, eqb-true _ 1 c.0)

  -- the entries of its layout are all that the members hold
  abbrev all_held : Option (List Entry)
  all_held = held_in s (Some []) (together objects)

  snapshot-entries : is_snapshot s objects ≡ true → all_held ≡ entries_k s (ascii "bs") (ascii "as") objects
  unfolding entries_k
  snapshot-entries g = let n = snapshot-none g in snapshot-held s (together objects) n.0 n.1

  update-entries : is_update s objects ≡ true → all_held ≡ entries_k s (ascii "b") (ascii "a") objects
  unfolding entries_k
  update-entries g = let n = update-none g in update-held s (together objects) n.0 n.1

  pub layout-held : (l : Layout) → objects_layout s objects ≡ Some l → all_held ≡ Some l.entries
  unfolding objects_layout and_then
  layout-held l h = go (is_snapshot s objects) refl (is_update s objects) refl h
    where
      as-update : (x : Option Span) → and_then x (λ c. and_then (quoted_checksum_at s c) (λ sum. laid Update (printed sum) 0 (entries_k s (ascii "b") (ascii "a") objects))) ≡ Some l
          → entries_k s (ascii "b") (ascii "a") objects ≡ Some l.entries
      as-update None g = no-layout g
      as-update (Some c) g = at (quoted_checksum_at s c) g
        where
          at : (y : Option ℕ) → and_then y (λ sum. laid Update (printed sum) 0 (entries_k s (ascii "b") (ascii "a") objects)) ≡ Some l → entries_k s (ascii "b") (ascii "a") objects ≡ Some l.entries
          at (Some sum) k = laid-entries Update (printed sum) 0 (entries_k s (ascii "b") (ascii "a") objects) l k
          at None k = no-layout k

      go : (x : Bool) → is_snapshot s objects ≡ x → (y : Bool) → is_update s objects ≡ y
          → cond x (laid Snapshot unprinted 0 (entries_k s (ascii "bs") (ascii "as") objects))
          (cond y (and_then (only (values_of s (ascii "c") (together objects))) (λ c. and_then (quoted_checksum_at s c) (λ sum. laid Update (printed sum) 0 (entries_k s (ascii "b") (ascii "a") objects)))) None)
          ≡ Some l → all_held ≡ Some l.entries
      go true p y q g = snapshot-entries p ∙ laid-entries Snapshot unprinted 0 (entries_k s (ascii "bs") (ascii "as") objects) l g
      go false p true q g = update-entries q ∙ as-update (only (values_of s (ascii "c") (together objects))) g
      go false p false q g = no-layout g

  module _ (t : Members) (h : Tells s t (together objects)) where
    snapshot-laid : is_snapshot s objects ≡ true → (update : Bool) → outline_by true update t ≡ outline_of s (objects_layout s objects)
    unfolding outline_by objects_layout is_printed sum_of
    snapshot-laid g update =
        rw g
        (outline-of s Snapshot unprinted 0 (entries_k s (ascii "bs") (ascii "as") objects) t.tally
        (subst (λ (x : Option (List Entry)). tallies·.Tells s x t.tally) (snapshot-entries g) h.entries))

    -- the one `c`
    sum_laid : is_update s objects ≡ true → (x : Option ℕ)
        → cond (is_some x) (outline_from Update t.tally true (unwrap_or x 0) 0) no_outline
        ≡ outline_of s (and_then x (λ sum. laid Update (printed sum) 0 (entries_k s (ascii "b") (ascii "a") objects)))
    unfolding and_then is_printed sum_of outline_of
    sum_laid g (Some n) =
        outline-of s Update (printed n) 0 (entries_k s (ascii "b") (ascii "a") objects) t.tally
        (subst (λ (x : Option (List Entry)). tallies·.Tells s x t.tally) (update-entries g) h.entries)
    sum_laid g None = refl

    one-sum : is_update s objects ≡ true → (l : List Span) → length l ≡ 1 → t.checksum ≡ sums_of s l
        → outline_by false true t
        ≡ outline_of s (and_then (only l) (λ c. and_then (quoted_checksum_at s c) (λ sum.
        laid Update (printed sum) 0 (entries_k s (ascii "b") (ascii "a") objects))))
    unfolding outline_by fold_from more_summed only and_then
    one-sum u [] n g = absurd (omega arith)
    one-sum u (c ∷ []) n g = rw g (sum_laid u (quoted_checksum_at s c))
    one-sum u (c ∷ (d ∷ l)) n g = absurd (omega arith)

    update-laid : is_snapshot s objects ≡ false → is_update s objects ≡ true → outline_by false true t ≡ outline_of s (objects_layout s objects)
    unfolding objects_layout times
    update-laid q g = rw (q, g) (one-sum g (values_of s (ascii "c") (together objects)) (update-none g).2 h.checksum)

    neither-laid : is_snapshot s objects ≡ false → is_update s objects ≡ false → outline_by false false t ≡ outline_of s (objects_layout s objects)
    unfolding objects_layout outline_by outline_of
    neither-laid q g = rw (q, g)

    -- by what the tests say
    pub objects-laid : (snapshot update : Bool) → snapshot ≡ is_snapshot s objects → update ≡ is_update s objects
        → outline_by snapshot update t ≡ outline_of s (objects_layout s objects)
    objects-laid true update p q = snapshot-laid (sym p) update
    objects-laid false true p q = update-laid (sym p) (sym q)
    objects-laid false false p q = neither-laid (sym p) (sym q)

-- ---- the tests: one object
module _ (s : List ℕ) (ms : List Pair) (t : Members) (h : Tells s t ms) where
  alone : together (ms ∷ []) ≡ ms
  unfolding together
  alone = append-nil ms

  pub tells-alone : Tells s t (together (ms ∷ []))
  tells-alone = rw alone h

  pub one-snapshot : snapshot_by t ≡ is_snapshot s (ms ∷ [])
  unfolding snapshot_by is_snapshot
  one-snapshot =
      rw (
        alone,
        snapshot-asks-count s t ms h,
        snapshot-bids-count s t ms h,
        asks-count s t ms h,
        bids-count s t ms h,
        checksum-count s t ms h,
        few-one (times s (ascii "as") ms),
        few-one (times s (ascii "bs") ms),
        few-zero (times s (ascii "a") ms),
        few-zero (times s (ascii "b") ms),
        few-zero (times s (ascii "c") ms),
        none-and (times s (ascii "b") ms) (times s (ascii "c") ms),
        none-and (times s (ascii "a") ms) (times s (ascii "b") ms + times s (ascii "c") ms),
      )

  pub one-update : update_by (has_more (no_members 0) t) (no_members 0) t ≡ is_update s (ms ∷ [])
  unfolding update_by is_update has_more each_has_one last_of
  one-update =
      rw (alone, snapshot-asks-count s t ms h, snapshot-bids-count s t ms h, asks-count s t ms h, bids-count s t ms h, checksum-count s t ms h)
      (and-on _ _ _ _ (few-most (times s (ascii "a") ms)) (λ a.
      and-on _ _ _ _ (few-most (times s (ascii "b") ms)) (λ b.
      and-on _ _ _ _ (has_one ∙ and-true (leb 1 (times s (ascii "a") ms + times s (ascii "b") ms))) (λ e.
      and-on _ _ _ _ (few-one (times s (ascii "c") ms)) (λ c.
      and-on _ _ _ _ (sym c) (λ l. none))))))
    where
      has_one : (ltb 0 (few (times s (ascii "a") ms)) || ltb 0 (few (times s (ascii "b") ms))) ≡ leb 1 (times s (ascii "a") ms + times s (ascii "b") ms)
      has_one = some_or _ _ (times s (ascii "a") ms) (times s (ascii "b") ms) (few-some (times s (ascii "a") ms)) (few-some (times s (ascii "b") ms))

      none : (eqb (few (times s (ascii "as") ms)) 0 && eqb (few (times s (ascii "bs") ms)) 0) ≡ eqb (times s (ascii "as") ms + times s (ascii "bs") ms) 0
      none = rw (few-zero (times s (ascii "as") ms), few-zero (times s (ascii "bs") ms)) (none-and (times s (ascii "as") ms) (times s (ascii "bs") ms))

-- ---- the tests: two objects, where t is told of the first and u of both
module _ (s : List ℕ) (ms ns : List Pair) (t u : Members) (h : Tells s t ms) (g : Tells s u (ms ++ ns)) where
  joined : together (ms ∷ (ns ∷ [])) ≡ ms ++ ns
  unfolding together
  joined = ap (λ l. ms ++ l) (append-nil ns)

  pub tells_both : Tells s u (together (ms ∷ (ns ∷ [])))
  tells_both = rw joined g

  in_both : (name : List ℕ) → times s name (ms ++ ns) ≡ times s name ms + times s name ns
  unfolding times
  in_both name = ap length (values-append s name ms ns) ∙ length-append (values_of s name ms) (values_of s name ns)

  pub two-snapshot : false ≡ is_snapshot s (ms ∷ (ns ∷ []))
  unfolding is_snapshot
  two-snapshot = refl

  abbrev in_one : List ℕ → ℕ
  in_one name = times s name ms

  abbrev in_two : List ℕ → ℕ
  in_two name = times s name ns

  abbrev in_all : List ℕ → ℕ
  in_all name = times s name (ms ++ ns)

  each-one : in_all (ascii "a") ≤ 1 → in_all (ascii "b") ≤ 1 → (has_more (no_members 0) t && has_more t u) ≡ each_has_one s (ms ∷ (ns ∷ []))
  unfolding has_more each_has_one
  each-one a b =
      let p = in_both (ascii "a") in
      let q = in_both (ascii "b") in
      let x : in_one (ascii "a") + in_two (ascii "a") ≤ 1 = omega arith in
      let y : in_one (ascii "b") + in_two (ascii "b") ≤ 1 = omega arith in
      rw (asks-count s t ms h, bids-count s t ms h, asks-count s u (ms ++ ns) g, bids-count s u (ms ++ ns) g, p, q)
      (and-on _ _ _ _ (some_or _ _ (in_one (ascii "a")) (in_one (ascii "b")) (few-some (in_one (ascii "a"))) (few-some (in_one (ascii "b")))) (λ e.
      some_or _ _ (in_two (ascii "a")) (in_two (ascii "b")) (few-rises (in_one (ascii "a")) (in_two (ascii "a")) x) (few-rises (in_one (ascii "b")) (in_two (ascii "b")) y)
      ∙ and-true (leb 1 (in_two (ascii "a") + in_two (ascii "b")))))

  update-by : (each : Bool) → (in_all (ascii "a") ≤ 1 → in_all (ascii "b") ≤ 1 → each ≡ each_has_one s (ms ∷ (ns ∷ []))) → update_by each t u ≡ is_update s (ms ∷ (ns ∷ []))
  unfolding update_by is_update last_of
  update-by each f =
      rw (
        joined,
        snapshot-asks-count s u (ms ++ ns) g,
        snapshot-bids-count s u (ms ++ ns) g,
        asks-count s u (ms ++ ns) g,
        bids-count s u (ms ++ ns) g,
        checksum-count s u (ms ++ ns) g,
        checksum-count s t ms h,
      )
      (and-on _ _ _ _ (few-most (in_all (ascii "a"))) (λ a.
      and-on _ _ _ _ (few-most (in_all (ascii "b"))) (λ b.
      and-on _ _ _ _ (f (leb-true _ 1 a) (leb-true _ 1 b)) (λ e.
      and-on _ _ _ _ (few-one (in_all (ascii "c"))) (λ c.
      and-on _ _ _ _ (once_last (in_one (ascii "c")) (in_two (ascii "c")) (ap (λ n. eqb n 1) (sym (in_both (ascii "c"))) ∙ c)) (λ l. none))))))
    where
      none : (eqb (few (in_all (ascii "as"))) 0 && eqb (few (in_all (ascii "bs"))) 0) ≡ eqb (in_all (ascii "as") + in_all (ascii "bs")) 0
      none = rw (few-zero (in_all (ascii "as")), few-zero (in_all (ascii "bs"))) (none-and (in_all (ascii "as")) (in_all (ascii "bs")))

  pub two-update : update_by (has_more (no_members 0) t && has_more t u) t u ≡ is_update s (ms ∷ (ns ∷ []))
  two-update = update-by (has_more (no_members 0) t && has_more t u) each-one
