-- Both sides of a message: what the calls of the code, in their order, say of the definition. Assumes nothing.
use Prim.Native.Nat.{ℕ, ◌*◌, ◌<◌, ◌≤◌}
use mathlib.Core.Path.{◌≡◌, refl, sym, ap, ap₂, ◌∙◌, subst}
use mathlib.Core.Bool.{Bool, true, ◌&&◌, cond, and-false}
use mathlib.Core.List.{List, [], map}
use native.Mathlib.Omega.{arith}
use borrow.Author.Tests.{le-leb, lt-leb}
use lib.Dec.{leb}
use lib.ListN.{length, take}
use lib.Seq.{length-take-le, take-take}
use Rattle.edit.specs.Edit.{for_side}
use Rattle.edit.specs.declared.Side.{Side}
use Rattle.edit.specs.declared.Side.TheVariants.{Bids, Asks}
use Rattle.level.proofs.All.{all_take}
use Rattle.order_edit.specs.Buffer.{OrderEntry, entry_side}
use Rattle.orders.specs.declared.Order.{Order}
use Rattle.std.specs.Prelude.{Option, Some, None, Result, Ok, Err}
use Rattle.orders.specs.declared.Counts.{Counts}
use Rattle.orders.specs.declared.Refusal.{Refusal}
use Rattle.orders.specs.declared.Refusal.TheVariants.{Clashed, TooMany}
use Rattle.orders.specs.Orders.{Entry, adds, Outcome, taken, clash, Sides, both, apply_all, then_asks, apply_both, cut_both, beside, after_update, after_snapshot, best_prices}
use Rattle.orders.specs.Words.{coded, orders_in, held, Sound, order_for, change_of, changes_for, orders_for}
use Rattle.orders.specs.Kept.{Good, Copied, outcome, count_of, AfterEntries, CutTo, max_orders, max_words, Kept, answer, Left, LeftBy, AfterMessage}
use Rattle.orders.proofs.Places.{sorted-take}
use Rattle.orders.proofs.Held.{held-length}
use Rattle.orders.proofs.Sided.{map-map}
use Rattle.orders.proofs.Entries.{none-good}
use Rattle.orders.proofs.Listing.{snapshot-adds}

-- ---- a side that is copied

pub good-copied : (side : Side) (source words : List ℕ) (n : ℕ) (after : List ℕ) → Good side source n → 6 * n ≤ length words → Copied source words n after → Good side after n
good-copied side source words n after g room c = record {
  room = omega (arith, c.room);
  sorted = rw c.orders g.sorted;
  sound = rw c.orders g.sound;
}

-- the front of a side
pub front-held : (words : List ℕ) (n x : ℕ) → x ≤ n → held words x ≡ take x (held words n)
unfolding held
front-held words n x h = sym (take-take x n (orders_in words) h)

pub good-front : (side : Side) (words : List ℕ) (n x : ℕ) → x ≤ n → Good side words n → Good side words x
good-front side words n x h g = record {
  room = omega (arith, g.room);
  sorted = rw (front-held words n x h) (sorted-take coded side x (held words n) g.sorted);
  sound = rw (front-held words n x h) (all_take Sound x (held words n) g.sound);
}

pub cut_short : (side : Side) (depth : ℕ) (words : List ℕ) (n x : ℕ) → Good side words n → CutTo depth (held words n) x → x ≤ n
cut_short side depth words n x g c = omega (arith, c.within, held-length words n g.room)

cut-length : (depth : ℕ) (s : List Order) (x : ℕ) → CutTo depth s x → length (best_prices coded depth s) ≡ x
cut-length depth s x c = ap length (sym c.orders) ∙ length-take-le x s c.within

-- a cut side that is copied back
left-copied : (side : Side) (depth : ℕ) (source : List ℕ) (n x : ℕ) (words after : List ℕ) → Good side source n → CutTo depth (held source n) x → x ≤ max_orders → length words ≡ max_words
    → Copied source words x after → Left side (best_prices coded depth (held source n)) words x after
left-copied side depth source n x words after g c few wide w = record {
  kept = record {
    few = few;
    wide = w.room ∙ wide;
    good = good-copied side source words x after (good-front side source n x (cut_short side depth source n x g c) g) (omega arith) w;
  };
  orders = w.orders ∙ front-held source n x (cut_short side depth source n x g c) ∙ c.orders;
  past = w.past;
}

-- ---- the sides that are kept

abbrev pub counted : ℕ → ℕ → Result Counts Refusal
counted x y = Ok (record { bids = x; asks = y })

module _ (depth : ℕ) (working : List ℕ) (n : ℕ) (others : List ℕ) (m : ℕ) (x y : ℕ) (cx : CutTo depth (held working n) x) (cy : CutTo depth (held others m) y) where
  abbrev cut_sides : Sides Order
  cut_sides = cut_both coded depth (both (held working n) (held others m))

  answered : answer cut_sides ≡ cond (leb x max_orders && leb y max_orders) (counted x y) (Err TooMany)
  unfolding answer cut_both
  answered = rw (cut-length depth (held working n) x cx, cut-length depth (held others m) y cy)

  module _ (bids asks : List ℕ) where
    pub many-bids : max_orders < x → AfterMessage cut_sides bids asks bids asks (Err TooMany)
    unfolding LeftBy
    many-bids h = record {
      answer = sym (answered ∙ ap (λ (t : Bool). cond (t && leb y max_orders) (counted x y) (Err TooMany)) (lt-leb x max_orders h));
      left = (refl, refl);
    }

    pub many-asks : max_orders < y → AfterMessage cut_sides bids asks bids asks (Err TooMany)
    unfolding LeftBy
    many-asks h = record {
      answer =
          sym (answered ∙ ap (λ (t : Bool). cond (leb x max_orders && t) (counted x y) (Err TooMany)) (lt-leb y max_orders h)
          ∙ ap (λ (t : Bool). cond t (counted x y) (Err TooMany)) (and-false (leb x max_orders)));
      left = (refl, refl);
    }

    pub done : Good Bids working n → Good Asks others m → x ≤ max_orders → y ≤ max_orders → length bids ≡ max_words → length asks ≡ max_words
        → (bids' asks' : List ℕ) → Copied working bids x bids' → Copied others asks y asks' → AfterMessage cut_sides bids asks bids' asks' (counted x y)
    unfolding LeftBy cut_both
    done gb ga fx fy wb wa bids' asks' c d = record {
      answer =
          sym (answered ∙ ap (λ (t : Bool). cond (t && leb y max_orders) (counted x y) (Err TooMany)) (le-leb x max_orders fx)
          ∙ ap (λ (t : Bool). cond t (counted x y) (Err TooMany)) (le-leb y max_orders fy));
      left = (left-copied Bids depth working n x bids bids' gb cx fx wb c, left-copied Asks depth others m y asks asks' ga cy fy wa d);
    }

-- ---- the calls in their order

module _ (listed : Bool) (depth b a : ℕ) (bids asks : List ℕ) (es : List OrderEntry) (w o : List ℕ) (cb : held w b ≡ held bids b) (ca : held o a ≡ held asks a)
    (w' : List ℕ) (r : Option ℕ) (first : AfterEntries listed Bids (held o a) es w b w' r) where
  abbrev bes : List (Entry Order)
  bes = changes_for listed Bids es

  abbrev aes : List (Entry Order)
  aes = changes_for listed Asks es

  abbrev target : Sides Order
  target = after_update coded depth bes aes (held bids b) (held asks a)

  bid-outcome : outcome w' r ≡ apply_all coded Bids (held asks a) bes (held bids b)
  bid-outcome = first.outcome ∙ ap (λ (x : List Order). apply_all coded Bids x bes (held w b)) ca ∙ ap (apply_all coded Bids (held asks a) bes) cb

  pub first-clash : r ≡ None → AfterMessage target bids asks bids asks (Err Clashed)
  unfolding outcome after_update apply_both then_asks cut_both beside answer LeftBy
  first-clash e =
      let q : apply_all coded Bids (held asks a) bes (held bids b) ≡ clash = sym (ap (outcome w') (sym e) ∙ bid-outcome) in
      record {
        answer = sym (ap (λ (x : Outcome Order). answer (cut_both coded depth (then_asks coded aes (held asks a) x))) q);
        left = (refl, refl);
      }

  module _ (n : ℕ) (is : r ≡ Some n) where
    pub bids-good : Good Bids w' n
    unfolding count_of
    bids-good = subst (λ (x : Option ℕ). Good Bids w' (count_of x)) is first.good

    bids-taken : apply_all coded Bids (held asks a) bes (held bids b) ≡ taken (held w' n)
    unfolding outcome
    bids-taken = sym (ap (outcome w') (sym is) ∙ bid-outcome)

    module _ (o' : List ℕ) (q : Option ℕ) (second : AfterEntries listed Asks (held w' n) es o a o' q) where
      ask-outcome : outcome o' q ≡ apply_all coded Asks (held w' n) aes (held asks a)
      ask-outcome = second.outcome ∙ ap (apply_all coded Asks (held w' n) aes) ca

      pub second-clash : q ≡ None → AfterMessage target bids asks bids asks (Err Clashed)
      unfolding outcome after_update apply_both then_asks cut_both beside answer LeftBy
      second-clash e =
          let t : apply_all coded Asks (held w' n) aes (held asks a) ≡ clash = sym (ap (outcome o') (sym e) ∙ ask-outcome) in
          record {
            answer =
                sym (ap (λ (x : Outcome Order). answer (cut_both coded depth (then_asks coded aes (held asks a) x))) bids-taken
                ∙ ap (λ (x : Outcome Order). answer (cut_both coded depth (beside coded (held w' n) x))) t);
            left = (refl, refl);
          }

      module _ (m : ℕ) (was : q ≡ Some m) where
        pub asks-good : Good Asks o' m
        unfolding count_of
        asks-good = subst (λ (x : Option ℕ). Good Asks o' (count_of x)) was second.good

        asks-taken : apply_all coded Asks (held w' n) aes (held asks a) ≡ taken (held o' m)
        unfolding outcome
        asks-taken = sym (ap (outcome o') (sym was) ∙ ask-outcome)

        pub cut-sides : cut_both coded depth (both (held w' n) (held o' m)) ≡ target
        unfolding after_update apply_both then_asks beside
        cut-sides =
            sym (ap (λ (x : Outcome Order). cut_both coded depth (then_asks coded aes (held asks a) x)) bids-taken
            ∙ ap (λ (x : Outcome Order). cut_both coded depth (beside coded (held w' n) x)) asks-taken)

-- ---- a snapshot: each entry adds an order

adds-all : (side : Side) (es : List OrderEntry) → changes_for true side es ≡ map adds (orders_for side es)
unfolding changes_for orders_for change_of
adds-all side es = sym (map-map order_for adds (for_side entry_side side es))

pub snapshot-sides : (depth : ℕ) (bids asks : List ℕ) (es : List OrderEntry)
    → after_update coded depth (changes_for true Bids es) (changes_for true Asks es) (held bids 0) (held asks 0) ≡ after_snapshot coded depth (orders_for Bids es) (orders_for Asks es)
unfolding held
snapshot-sides depth bids asks es =
    ap₂ (λ (x y : List (Entry Order)). after_update coded depth x y [] []) (adds-all Bids es) (adds-all Asks es)
    ∙ snapshot-adds coded (orders_for Bids es) (orders_for Asks es) depth

pub none_kept : (side : Side) (words : List ℕ) → length words ≡ max_words → Kept side words 0
none_kept side words h = record { few = omega arith; wide = h; good = none-good side words }
