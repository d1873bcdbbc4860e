-- The loops over an array and an object that ask only for the end: what they keep of the items is nothing. `Fold` has their law.
-- Assumes nothing.
use Rattle.std.specs.Prelude.{None, Option, Some, ℕ}
use mathlib.Core.Path.{◌≡◌, refl, ◌∙◌}
use mathlib.Core.List.{List}
use Prim.Native.Nat.{ℕ, ◌≤◌, ◌<◌}
use lib.ListN.{length}
use native.Mathlib.Omega.{arith}
use Rattle.json_tokens.proofs.Laws.{then_at, then-broken}
use Rattle.json_tokens.specs.Tokens.{and_then, string, blanks, closing, separator}
use Rattle.json_tokens.proofs.Bounds.{Within, bounds}
use Rattle.json_values.specs.Json.{Next, item, wrong, Items, items, no_items, list_of, items_end, element, member, elements, members, value}
use Rattle.json_values.specs.Ends.{member_end, held_value, container_end, close_end}
use Rattle.json_values.specs.declared.Container.{Container}
use Rattle.json_values.specs.declared.Container.TheVariants.{Array, Object}
use Rattle.json_values.specs.Fold.{folded_in}
use Rattle.json_values.proofs.Laws.{element-is, element-wrong, by-member, member_is, no_member}
use Rattle.json_values.proofs.Bounds.{value_in, member_end-value}
use Rattle.json_values.proofs.Fold.{Loop, Stands, Left, made, fold-empty, fold_start, fold-wrong, fold-further, fold_on, fold-last, fold-broken, is-bracket, is-brace}

-- `end` tells of each position where the item there ends, or that none begins there
pub record Tells {A : Type 0} (one : ℕ → Next A) (s : List ℕ) (end : ℕ → Option ℕ) : Type 0 where
  pub inside : (i : ℕ) → Within s i (end i)
  pub is-item : (i e : ℕ) → end i ≡ Some e → (a : A) × (one i ≡ item a e)
  pub is-wrong : (i : ℕ) → end i ≡ None → one i ≡ wrong

module _ (d : ℕ) (s : List ℕ) where
  pub elements-tell : Tells (element (value d s)) s (value d s)
  elements-tell = record {
    inside = value_in d s;
    is-item = λ i e h. (record { from = i; to = e }, element-is (value d s) i e h);
    is-wrong = element-wrong (value d s);
  }

  pub members-tell : Tells (member (value d s) s) s (member_end (value d s) s)
  members-tell = record {
    inside = member_end-value d s;
    is-item = λ i e h. by-member (value d s) s i e h (λ k j p q r.
        (record { name = record { from = i; to = k }; value = record { from = j; to = e } }, member_is (value d s) s i k j e p q r));
    is-wrong = no_member (value d s) s;
  }

-- ---- a list of such items, past the opening bracket
module _ {A : Type 0} {one : ℕ → Next A} {s : List ℕ} {end : ℕ → Option ℕ} (t : Tells one s end) (bracket : ℕ) (is_byte : 0 < bracket) where
  -- nothing is kept
  abbrev ends : Loop A (Unit {0}) (Option ℕ)
  ends = record { text = s; one = one; bracket = bracket; is_byte = is_byte; step = λ st a. st; close = λ e st. Some e; bad = None }

  ends-are : (x : Items A) → made ends tt x ≡ items_end x
  unfolding folded_in items_end
  ends-are (items l e) = refl
  ends-are no_items = refl

  -- an item ends at e, and the list ends as r says
  pub record Past (e : ℕ) (r : Option ℕ) : Type 0 where
    pub begins : ℕ
    pub left : Left ends tt begins r
    pub item : end begins ≡ Some e

  pub ends-empty : (i e : ℕ) → closing bracket s i ≡ Some e → Some e ≡ items_end (list_of one bracket s i)
  ends-empty i e h = fold-empty ends tt i e h ∙ ends-are (list_of one bracket s i)

  module _ (i : ℕ) (h : closing bracket s i ≡ None) (k : ℕ) (b : k ≡ blanks s i) where
    first : Left ends tt k (items_end (list_of one bracket s i))
    first = rw (ends-are (list_of one bracket s i)) at (fold_start ends tt i h k b)

    pub past-first : (e : ℕ) → end k ≡ Some e → Past e (items_end (list_of one bracket s i))
    past-first e q = record { begins = k; left = first; item = q }

    pub no-first : end k ≡ None → None ≡ items_end (list_of one bracket s i)
    no-first q = fold-wrong ends tt first (t.is-wrong k q)

  module _ {e : ℕ} {r : Option ℕ} (w : Past e r) where
    item_at : (a : A) × Stands one s w.begins a e
    item_at =
        let a = t.is-item w.begins e w.item in
        let b = bounds e (t.inside w.begins) w.item in
        (a.0, record { is = a.1; some = omega arith; inside = b.1 })

    module _ (j : ℕ) (c : separator 44 s e ≡ Some j) where
      next : Left ends tt j r
      next = fold_on ends tt w.left item_at.1 j c refl

      pub past_on : (f : ℕ) → end j ≡ Some f → Past f r
      past_on f q = record { begins = j; left = next; item = q }

      pub past-further : (f : ℕ) → end j ≡ Some f → (e < f) × (f ≤ length s)
      past-further f q =
          let m = fold-further ends tt w.left item_at.1 j c in
          let b = bounds f (t.inside j) q in
          (omega arith, b.1)

      pub past-wrong : end j ≡ None → None ≡ r
      past-wrong q = fold-wrong ends tt next (t.is-wrong j q)

    -- no comma: the answer is where the bracket ends, if it does
    pub past-last : separator 44 s e ≡ None → closing bracket s e ≡ r
    past-last c = go (closing bracket s e) refl
      where
        go : (x : Option ℕ) → closing bracket s e ≡ x → x ≡ r
        go (Some k) q = fold-last ends tt w.left item_at.1 c k q refl
        go None q = fold-broken ends tt w.left item_at.1 c q

-- ---- an array and an object
abbrev held_end : Container → (ℕ → Option ℕ) → List ℕ → ℕ → Option ℕ
held_end Array v s i = v i
held_end Object v s i = member_end v s i

-- an item, by where its value begins
held-is : (k : Container) (v : ℕ → Option ℕ) (s : List ℕ) (i : ℕ) → held_end k v s i ≡ and_then (held_value k s i) v
unfolding member_end and_then
held-is Array v s i = refl
held-is Object v s i = go (string s i)
  where
    go : (x : Option ℕ) → and_then x (λ k. and_then (separator 58 s k) v) ≡ and_then (and_then x (separator 58 s)) v
    go (Some k) = refl
    go None = refl

pub held-none : (k : Container) (v : ℕ → Option ℕ) (s : List ℕ) (i : ℕ) → held_value k s i ≡ None → held_end k v s i ≡ None
held-none k v s i h = held-is k v s i ∙ then-broken v h

pub held-at : (k : Container) (v : ℕ → Option ℕ) (s : List ℕ) (i : ℕ) {x : Option ℕ} (p : ℕ) → held_value k s i ≡ Some p → v p ≡ x → held_end k v s i ≡ x
held-at k v s i p h q = held-is k v s i ∙ then_at v h ∙ q

abbrev pub Held : Container → ℕ → List ℕ → ℕ → Option ℕ → Type 0
Held Array d s e r = Past (elements-tell d s) 93 is-bracket e r
Held Object d s e r = Past (members-tell d s) 125 is-brace e r

pub held-empty : (k : Container) (d : ℕ) (s : List ℕ) (i e : ℕ) → close_end k s i ≡ Some e → Some e ≡ container_end k (value d s) s i
unfolding elements members
held-empty Array d s i e h = ends-empty (elements-tell d s) 93 is-bracket i e h
held-empty Object d s i e h = ends-empty (members-tell d s) 125 is-brace i e h

pub held-first : (k : Container) (d : ℕ) (s : List ℕ) (i : ℕ) → close_end k s i ≡ None → (b : ℕ) → b ≡ blanks s i
    → (e : ℕ) → held_end k (value d s) s b ≡ Some e → Held k d s e (container_end k (value d s) s i)
unfolding elements members
held-first Array d s i h b z e q = past-first (elements-tell d s) 93 is-bracket i h b z e q
held-first Object d s i h b z e q = past-first (members-tell d s) 125 is-brace i h b z e q

pub held-no-first : (k : Container) (d : ℕ) (s : List ℕ) (i : ℕ) → close_end k s i ≡ None → (b : ℕ) → b ≡ blanks s i
    → held_end k (value d s) s b ≡ None → None ≡ container_end k (value d s) s i
unfolding elements members
held-no-first Array d s i h b z q = no-first (elements-tell d s) 93 is-bracket i h b z q
held-no-first Object d s i h b z q = no-first (members-tell d s) 125 is-brace i h b z q

pub held_on : (k : Container) (d : ℕ) (s : List ℕ) (e : ℕ) (r : Option ℕ) → Held k d s e r → (j : ℕ) → separator 44 s e ≡ Some j
    → (f : ℕ) → held_end k (value d s) s j ≡ Some f → Held k d s f r
held_on Array d s e r w j c f q = past_on (elements-tell d s) 93 is-bracket w j c f q
held_on Object d s e r w j c f q = past_on (members-tell d s) 125 is-brace w j c f q

pub held-further : (k : Container) (d : ℕ) (s : List ℕ) (e : ℕ) (r : Option ℕ) → Held k d s e r → (j : ℕ) → separator 44 s e ≡ Some j
    → (f : ℕ) → held_end k (value d s) s j ≡ Some f → (e < f) × (f ≤ length s)
held-further Array d s e r w j c f q = past-further (elements-tell d s) 93 is-bracket w j c f q
held-further Object d s e r w j c f q = past-further (members-tell d s) 125 is-brace w j c f q

pub held-wrong : (k : Container) (d : ℕ) (s : List ℕ) (e : ℕ) (r : Option ℕ) → Held k d s e r → (j : ℕ) → separator 44 s e ≡ Some j
    → held_end k (value d s) s j ≡ None → None ≡ r
held-wrong Array d s e r w j c q = past-wrong (elements-tell d s) 93 is-bracket w j c q
held-wrong Object d s e r w j c q = past-wrong (members-tell d s) 125 is-brace w j c q

pub held-last : (k : Container) (d : ℕ) (s : List ℕ) (e : ℕ) (r : Option ℕ) → Held k d s e r → separator 44 s e ≡ None → close_end k s e ≡ r
held-last Array d s e r w c = past-last (elements-tell d s) 93 is-bracket w c
held-last Object d s e r w c = past-last (members-tell d s) 125 is-brace w c
