-- What is told of objects is what their members of our names are.
-- Assumes nothing.
use Rattle.std.specs.Prelude.{Option, Some}
use mathlib.Core.Path.{◌≡◌, refl, sym, ap, ◌∙◌, subst}
use mathlib.Core.List.{List, [], ◌∷◌, ◌++◌}
use mathlib.Core.Bool.{Bool, true, false, cond}
use Prim.Native.Nat.{ℕ}
use Rattle.text.specs.Text.{ascii}
use Rattle.edit.specs.declared.Side.TheVariants.{Bids, Asks}
use Rattle.json_values.specs.Json.{Span, Pair}
use Rattle.json_values.specs.Names.{means}
use Rattle.json_values.specs.Fold.{fold_from}
use Rattle.entries.specs.Places.{and_also, values_of}
use Rattle.entries.specs.Rows.{Entry, sided_at}
use Rattle.entries.specs.Tally.{array_tally}
use Rattle.entries.specs.Tally as tallies·
use Rattle.entries.specs.declared.Form.TheVariants.{Triple}
use Rattle.entries.specs.declared.Tally.{Tally}
use Rattle.entries.proofs.Tallies.{fold-append, tells_more, tells_none as no-entries}
use Rattle.layout.specs.MemberSpans.{few, few_more, with_member_span}
use Rattle.layout.specs.declared.MemberSpan.{MemberSpan}
use Rattle.layout.proofs.MemberSpans.{mark-times, count-times, values-fold}
use Rattle.message_k.specs.LayoutK.{times}
use Rattle.message_k.specs.MembersK.{is_bids, is_asks, with_held, held_in, tally_with, times_with, no_sum, more_summed, sum_with, with_member, no_members, closed_at}
use Rattle.message_k.specs.declared.Sum.{Sum}
use Rattle.message_k.specs.declared.Members.{Members}

abbrev pub sums_of : List ℕ → List Span → Sum
sums_of s l = fold_from (more_summed s) no_sum l

-- how often a name was met, up to two
abbrev pub times_of : List Span → ℕ
times_of l = fold_from (λ (n : ℕ) (a : Span). few_more n) 0 l

pub record Tells (s : List ℕ) (t : Members) (ms : List Pair) : Type 0 where
  pub snapshot-asks : t.snapshot_asks ≡ times_of (values_of s (ascii "as") ms)
  pub snapshot-bids : t.snapshot_bids ≡ times_of (values_of s (ascii "bs") ms)
  pub asks : t.asks ≡ times_of (values_of s (ascii "a") ms)
  pub bids : t.bids ≡ times_of (values_of s (ascii "b") ms)
  pub checksum : t.checksum ≡ sums_of s (values_of s (ascii "c") ms)
  -- the entries that all of them hold
  pub entries : tallies·.Tells s (held_in s (Some []) ms) t.tally

-- ---- more members

pub values-append : (s name : List ℕ) (ms ns : List Pair) → values_of s name (ms ++ ns) ≡ values_of s name ms ++ values_of s name ns
unfolding values_of
values-append s name [] ns = refl
values-append s name (m ∷ ms) ns = go (means s m.name name) (values-append s name ms ns)
  where
    go : (b : Bool) → values_of s name (ms ++ ns) ≡ values_of s name ms ++ values_of s name ns
        → cond b (m.value ∷ values_of s name (ms ++ ns)) (values_of s name (ms ++ ns)) ≡ cond b (m.value ∷ values_of s name ms) (values_of s name ms) ++ values_of s name ns
    go true h = ap (λ l. m.value ∷ l) h
    go false h = h

module _ (s : List ℕ) where
  times-hit : (name : List ℕ) (n : ℕ) (m : Pair) → means s m.name name ≡ true → times_with s name n m ≡ few_more n
  unfolding times_with
  times-hit name n m h = rw (h, times_with)

  times-miss : (name : List ℕ) (n : ℕ) (m : Pair) → means s m.name name ≡ false → times_with s name n m ≡ n
  unfolding times_with
  times-miss name n m h = rw (h, times_with)

  sum-hit : (t : Sum) (m : Pair) → means s m.name (ascii "c") ≡ true → sum_with s t m ≡ more_summed s t m.value
  unfolding sum_with
  sum-hit t m h = rw (h, sum_with)

  sum-miss : (t : Sum) (m : Pair) → means s m.name (ascii "c") ≡ false → sum_with s t m ≡ t
  unfolding sum_with
  sum-miss t m h = rw (h, sum_with)

  -- a component that follows one name
  module _ {A : Type 0} (name : List ℕ) (get : Members → A) (add : A → Span → A) (none : A)
      (hit : (t : Members) (m : Pair) → means s m.name name ≡ true → get (with_member s t m) ≡ add (get t) m.value)
      (miss : (t : Members) (m : Pair) → means s m.name name ≡ false → get (with_member s t m) ≡ get t) where
    follows : (t : Members) (ms ns : List Pair) → get t ≡ fold_from add none (values_of s name ms)
        → get (fold_from (with_member s) t ns) ≡ fold_from add none (values_of s name (ms ++ ns))
    follows t ms ns h =
        values-fold s name (with_member s) get add hit miss t ns
        ∙ ap (λ x. fold_from add x (values_of s name ns)) h
        ∙ sym (fold-append add none (values_of s name ms) (values_of s name ns))
        ∙ ap (fold_from add none) (sym (values-append s name ms ns))

  -- one member more
  pub held_tells : (x : Option (List Entry)) (t : Tally) (m : Pair) → tallies·.Tells s x t → tallies·.Tells s (with_held s x m) (tally_with s t m)
  unfolding with_held tally_with
  held_tells x t m h = go (is_bids s m.name) (is_asks s m.name)
    where
      go : (b a : Bool) → tallies·.Tells s
          (cond b (and_also x (sided_at Bids Triple 14 s m.value)) (cond a (and_also x (sided_at Asks Triple 14 s m.value)) x))
          (cond b (array_tally 0 s 14 Triple Bids t m.value) (cond a (array_tally 0 s 14 Triple Asks t m.value) t))
      go true a = tells_more s x t Bids Triple 14 m.value h
      go false true = tells_more s x t Asks Triple 14 m.value h
      go false false = h

  held_all : (x : Option (List Entry)) (t : Members) (ms : List Pair) → tallies·.Tells s x t.tally → tallies·.Tells s (held_in s x ms) (fold_from (with_member s) t ms).tally
  unfolding fold_from with_member
  held_all x t [] h = h
  held_all x t (m ∷ ms) h = held_all (with_held s x m) (with_member s t m) ms (held_tells x t.tally m h)

  pub tells_none : (e : ℕ) → Tells s (no_members e) []
  unfolding values_of fold_from
  tells_none e = record { snapshot-asks = refl; snapshot-bids = refl; asks = refl; bids = refl; checksum = refl; entries = no-entries s }

  abbrev one_more : ℕ → Span → ℕ
  one_more n a = few_more n

  pub tells-on : (t : Members) (ms ns : List Pair) (e : ℕ) → Tells s t ms → Tells s (closed_at e (fold_from (with_member s) t ns)) (ms ++ ns)
  unfolding with_member
  tells-on t ms ns e h =
      record {
        snapshot-asks =
            follows (ascii "as") (λ x. x.snapshot_asks) one_more 0
            (λ x m. times-hit (ascii "as") x.snapshot_asks m) (λ x m. times-miss (ascii "as") x.snapshot_asks m) t ms ns h.snapshot-asks;
        snapshot-bids =
            follows (ascii "bs") (λ x. x.snapshot_bids) one_more 0
            (λ x m. times-hit (ascii "bs") x.snapshot_bids m) (λ x m. times-miss (ascii "bs") x.snapshot_bids m) t ms ns h.snapshot-bids;
        asks =
            follows (ascii "a") (λ x. x.asks) one_more 0
            (λ x m. times-hit (ascii "a") x.asks m) (λ x m. times-miss (ascii "a") x.asks m) t ms ns h.asks;
        bids =
            follows (ascii "b") (λ x. x.bids) one_more 0
            (λ x m. times-hit (ascii "b") x.bids m) (λ x m. times-miss (ascii "b") x.bids m) t ms ns h.bids;
        checksum =
            follows (ascii "c") (λ x. x.checksum) (more_summed s) no_sum
            (λ x m. sum-hit x.checksum m) (λ x m. sum-miss x.checksum m) t ms ns h.checksum;
        entries =
            subst (λ (x : Option (List Entry)). tallies·.Tells s x (fold_from (with_member s) t ns).tally) (sym (fold-append (with_held s) (Some []) ms ns))
            (held_all (held_in s (Some []) ms) t ns h.entries);
      }

  -- ---- how often
  times-count : (n : ℕ) (name : List ℕ) (ms : List Pair) → n ≡ times_of (values_of s name ms) → n ≡ few (times s name ms)
  unfolding times
  times-count n name ms h = h ∙ count-times (values_of s name ms)

  sum-mark : (t : Sum) (l : List Span) → (fold_from (more_summed s) t l).mark ≡ fold_from with_member_span t.mark l
  unfolding fold_from more_summed
  sum-mark t [] = refl
  sum-mark t (a ∷ l) = sum-mark (more_summed s t a) l

  module _ (t : Members) (ms : List Pair) (h : Tells s t ms) where
    pub snapshot-asks-count : t.snapshot_asks ≡ few (times s (ascii "as") ms)
    snapshot-asks-count = times-count t.snapshot_asks (ascii "as") ms h.snapshot-asks

    pub snapshot-bids-count : t.snapshot_bids ≡ few (times s (ascii "bs") ms)
    snapshot-bids-count = times-count t.snapshot_bids (ascii "bs") ms h.snapshot-bids

    pub asks-count : t.asks ≡ few (times s (ascii "a") ms)
    asks-count = times-count t.asks (ascii "a") ms h.asks

    pub bids-count : t.bids ≡ few (times s (ascii "b") ms)
    bids-count = times-count t.bids (ascii "b") ms h.bids

    pub checksum-count : t.checksum.mark.times ≡ few (times s (ascii "c") ms)
    unfolding times
    checksum-count =
        ap (λ (x : Sum). x.mark.times) h.checksum
        ∙ ap (λ (x : MemberSpan). x.times) (sum-mark no_sum (values_of s (ascii "c") ms))
        ∙ mark-times (values_of s (ascii "c") ms)
