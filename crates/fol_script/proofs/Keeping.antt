-- One more entry behind the others, or in a map.
use Rattle.std.proofs.Common.{◌≡◌, suc, ◌-◌, Bool, true, false, cond, List, [], ◌∷◌, ◌++◌, length, Some, None, refl, sym, ap, subst, ◌∙◌, append_assoc, append-nil, arith, inl, inr}
use Rattle.std.specs.Prelude.{is_some}
use Rattle.std.specs.Cmp.{IsTotalOrder}
use Rattle.std.specs.List.{AllByRecursion, slice_get}
use Rattle.std.specs.Ordering.{is_eq, is_lt, ordering_reverse}
use Rattle.std.specs.declared.cmp.Ordering.{Ordering}
use Rattle.std.specs.declared.cmp.Ordering.TheVariants.{Less, Equal, Greater}
use Rattle.std.specs.BTreeMap.{insert_entry, is_at}
use Rattle.std.specs.Map.{lookup, keys_of}
use Rattle.std.specs.List.Sorted.{IsStrictlySortedBy}
use Rattle.std.proofs.lemmas.Bool.{cases_Bool}
use Rattle.std.proofs.lemmas.Map.Keys.{sorted_head, sorted_tail}
use Rattle.fol_text_laws.proofs.Sorting.{sorted_cons, sorted_none}
use Rattle.fol_script.specs.Kept.{Keeps, AllBelow}
use Rattle.fol_script.proofs.WorldMaps.{insert_before, insert_behind}

is_less : (r : Ordering) → is_lt r ≡ true → r ≡ Less
is_less Less h = refl
is_less Equal h = cc
is_less Greater h = cc

is_equal : (r : Ordering) → is_eq r ≡ true → r ≡ Equal
is_equal Less h = cc
is_equal Equal h = refl
is_equal Greater h = cc

either_way : (r : Ordering) → is_eq (ordering_reverse r) ≡ is_eq r
either_way Less = refl
either_way Equal = refl
either_way Greater = refl

above : {K : Type 0} {R : K → K → Ordering} (o : IsTotalOrder R) (p k : K) → R p k ≡ Less → R k p ≡ Greater
above o p k less = o.antisymm k p ∙ ap ordering_reverse less

module _ {K X : Type 0} (R : K → K → Ordering) where
  last_at : (x y : K × X) (es : List (K × X)) (e : K × X) → slice_get (x ∷ y ∷ es) (length (x ∷ y ∷ es) - 1) ≡ Some e → slice_get (y ∷ es) (length (y ∷ es) - 1) ≡ Some e
  last_at x y es e h =
      let more : length (x ∷ y ∷ es) - 1 ≡ suc (length (y ∷ es) - 1) = omega arith in
      rw more at h

  pub below_last : (o : IsTotalOrder R) (es : List (K × X)) (e : K × X) (k : K) → IsStrictlySortedBy R (keys_of es) → slice_get es (length es - 1) ≡ Some e → is_lt (R e.0 k) ≡ true → AllBelow R es k
  below_last o [] e k up last less = tt
  below_last o (x ∷ []) e k up last less = let s : x ≡ e = cc in (is_less (R x.0 k) (subst (λ (y : K × X). is_lt (R y.0 k) ≡ true) (sym s) less), tt)
  below_last o (x ∷ y ∷ es) e k up last less =
      let rest = below_last o (y ∷ es) e k (sorted_tail R x.0 (keys_of (y ∷ es)) up) (last_at x y es e last) less in
      (o.trans x.0 y.0 k (sorted_head R x.0 (keys_of (y ∷ es)) up).0 rest.0, rest)

  -- ---- a key above all others

  absent_above : (o : IsTotalOrder R) (es : List (K × X)) (k : K) → AllBelow R es k → lookup (is_at (R k)) es ≡ None
  absent_above o [] k all = refl
  absent_above o (x ∷ es) k all = rw (above o x.0 k all.0) (absent_above o es k all.1)

  put_behind : (o : IsTotalOrder R) (es : List (K × X)) (k : K) (v : X) → AllBelow R es k → es ++ (k, v) ∷ [] ≡ insert_entry R es k v
  put_behind o [] k v all = refl
  put_behind o (x ∷ es) k v all = ap (λ (l : List (K × X)). x ∷ l) (put_behind o es k v all.1) ∙ sym (insert_behind R k v x es (above o x.0 k all.0))

  found_behind : (o : IsTotalOrder R) (es : List (K × X)) (k : K) (v : X) (q : K) → AllBelow R es k → lookup (is_at (R q)) (es ++ (k, v) ∷ []) ≡ cond (is_eq (R k q)) (Some v) (lookup (is_at (R q)) es)
  found_behind o [] k v q all = ap (λ (b : Bool). cond b (Some v) None) (ap is_eq (o.antisymm q k) ∙ either_way (R k q))
  found_behind o (x ∷ es) k v q all = elim (cases_Bool (is_eq (R q x.0))) [
    | inl e ↦
        let less : R q k ≡ Less = o.congr q x.0 k (is_equal (R q x.0) e) ∙ all.0 in
        let other : is_eq (R k q) ≡ false = ap is_eq (above o q k less) in
        rw (e, other) refl
    | inr e ↦ rw e (found_behind o es k v q all.1)
  ]

  sorted_behind : (es : List (K × X)) (k : K) (v : X) → IsStrictlySortedBy R (keys_of es) → AllBelow R es k → IsStrictlySortedBy R (keys_of (es ++ (k, v) ∷ []))
  sorted_behind [] k v up all = sorted_cons R k [] tt (sorted_none R)
  sorted_behind (x ∷ es) k v up all =
      sorted_cons R x.0 (keys_of (es ++ (k, v) ∷ [])) (more es (sorted_head R x.0 (keys_of es) up)) (sorted_behind es k v (sorted_tail R x.0 (keys_of es) up) all.1)
    where
      more : (fs : List (K × X)) → AllByRecursion (λ p. R x.0 p ≡ Less) (keys_of fs) → AllByRecursion (λ p. R x.0 p ≡ Less) (keys_of (fs ++ (k, v) ∷ []))
      more [] below = (all.0, tt)
      more (f ∷ fs) below = (below.0, more fs below.1)

  pub put_last : (o : IsTotalOrder R) (xs ms ns : List (K × X)) (k : K) (v : X) → ms ≡ [] → ns ≡ xs ++ (k, v) ∷ [] → (IsStrictlySortedBy R (keys_of xs) → AllBelow R xs k) → IsStrictlySortedBy R (keys_of (xs ++ ms)) → Keeps R (xs ++ ms) (ns ++ ms) k v false
  put_last o xs ms ns k v none put below up =
      let old : xs ++ ms ≡ xs = ap (λ (l : List (K × X)). xs ++ l) none ∙ append-nil xs in
      let new : ns ++ ms ≡ xs ++ (k, v) ∷ [] = ap (λ (l : List (K × X)). ns ++ l) none ∙ append-nil ns ∙ put in
      let rising = subst (λ (l : List (K × X)). IsStrictlySortedBy R (keys_of l)) old up in
      let all = below rising in
      let keeps : Keeps R xs (xs ++ (k, v) ∷ []) k v false = record {
        stood = sym (ap is_some (absent_above o xs k all));
        entries = put_behind o xs k v all;
        updates = λ q. found_behind o xs k v q all;
        ordered = sorted_behind xs k v rising all;
      } in
      subst (λ (l : List (K × X)). Keeps R l (ns ++ ms) k v false) (sym old) (subst (λ (l : List (K × X)). Keeps R xs l k v false) (sym new) keeps)

  -- ---- into a map

  later_sorted : (xs ys : List (K × X)) → IsStrictlySortedBy R (keys_of (xs ++ ys)) → IsStrictlySortedBy R (keys_of ys)
  later_sorted [] ys up = up
  later_sorted (x ∷ xs) ys up = later_sorted xs ys (sorted_tail R x.0 (keys_of (xs ++ ys)) up)

  put_first : (k : K) (v : X) (es : List (K × X)) → IsStrictlySortedBy R (keys_of ((k, v) ∷ es)) → insert_entry R es k v ≡ (k, v) ∷ es
  put_first k v [] up = refl
  put_first k v (x ∷ es) up = insert_before R k v x es (sorted_head R k (keys_of (x ∷ es)) up).0

  -- the last of the entries that came in rising order goes before those of the map
  pub one_moved : (os rs xs ms ns : List (K × X)) (k : K) (v : X) → rs ++ ms ≡ os → rs ≡ xs ++ (k, v) ∷ [] → ns ≡ insert_entry R ms k v → IsStrictlySortedBy R (keys_of os) → xs ++ ns ≡ os
  one_moved os rs xs ms ns k v all popped put up =
      let whole : xs ++ (k, v) ∷ ms ≡ os = sym (append_assoc xs ((k, v) ∷ []) ms) ∙ ap (λ (l : List (K × X)). l ++ ms) (sym popped) ∙ all in
      let rest = later_sorted xs ((k, v) ∷ ms) (subst (λ (l : List (K × X)). IsStrictlySortedBy R (keys_of l)) (sym whole) up) in
      ap (λ (l : List (K × X)). xs ++ l) (put ∙ put_first k v ms rest) ∙ whole
