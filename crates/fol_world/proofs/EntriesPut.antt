-- What a map has after entries were put into it.
use Rattle.std.proofs.Common.{◌≡◌, ℕ, refl, sym, ◌∙◌, ap, Bool, true, false, inl, inr, ◌⊎◌, List, [], ◌∷◌, ◌++◌, ◌+◌, ◌<◌, length, take, get_or}
use Rattle.std.specs.Prelude.{flat_map, map, Option, Some, None}
use Rattle.std.specs.Option.{option_map}
use Rattle.std.specs.List.{AllByRecursion, find, list_any}
use Rattle.std.specs.List.Sorted.{IsStrictlySortedBy}
use Rattle.std.specs.Map.{lookup, update, update_all}
use Rattle.std.specs.BTreeMap.{BTreeMap, get}
use Rattle.std.specs.Ordering.{eq_by_cmp}
use Rattle.std.specs.declared.cmp.Ordering.{Ordering}
use Rattle.std.proofs.Math.Path.{fun_ext}
use Rattle.std.proofs.lemmas.Bool.{cases_Bool, or_cases, true≢false}
use Rattle.std.proofs.lemmas.List.{map-append, take_more}
use Rattle.std.proofs.lemmas.Map.{update_all_push}
use Rattle.std.proofs.lemmas.List.Sums.{fold-append}
use Rattle.fol_laws.proofs.Tests.{same_answer}
use Rattle.fol_world.specs.Closings.{PutsAll}
use Rattle.fol_world.proofs.KeyedRows.{Tells, each, find_passes, finds_own, keyed_rows, listed, sorted_by_key}

module _ {K X : Type 0} (c : K → K → Ordering) where
  -- more entries after the others
  pub puts_more : (old m n : BTreeMap K X) (xs ys : List (K × X)) → PutsAll c old m xs → PutsAll c m n ys → PutsAll c old n (xs ++ ys)
  puts_more old m n xs ys h k q = k q
      ∙ ap (λ (g : K → Option X). update_all (eq_by_cmp c) g ys q) (fun_ext h)
      ∙ ap (λ (g : K → Option X). g q) (sym (fold-append (λ (g : K → Option X) p. update (eq_by_cmp c) g p.0 (Some p.1)) (get c old) xs ys))

  -- one entry more, for the next element of a list
  pub puts_next : {Y : Type 0} (old m n : BTreeMap K X) (f : Y → K × X) (ys : List Y) (i : ℕ) (d : Y) → i < length ys → PutsAll c old m (map f (take i ys))
      → ((q : K) → get c n q ≡ update (eq_by_cmp c) (get c m) (f (get_or ys i d)).0 (Some (f (get_or ys i d)).1) q) → PutsAll c old n (map f (take (i + 1) ys))
  puts_next old m n f ys i d l h k q = k q
      ∙ update_all_push (eq_by_cmp c) (get c old) (get c m) (map f (take i ys)) (f (get_or ys i d)) q (h q)
      ∙ ap (λ (xs : List (K × X)). update_all (eq_by_cmp c) (get c old) xs q) (sym (ap (map f) (take_more ys i d l) ∙ map-append f (take i ys) (get_or ys i d ∷ [])))

  module _ (t : (a b : K) → eq_by_cmp c a b ≡ true → a ≡ b) (f : K → Option X) where
    abbrev pub IsRight : K × X → Type 0
    IsRight e = f e.0 ≡ Some e.1

    -- entries that are right, of which one is at the key, or the key was right before
    right_at : (es : List (K × X)) (g : K → Option X) (q : K) → AllByRecursion IsRight es → (list_any (λ e. eq_by_cmp c e.0 q) es ≡ true) ⊎ (g q ≡ f q) → update_all (eq_by_cmp c) g es q ≡ f q
    right_at [] g q a (inl m) = absurd (true≢false (sym m))
    right_at [] g q a (inr e) = e
    right_at (e ∷ es) g q a h = elim (cases_Bool (eq_by_cmp c e.0 q)) [
      | inl k ↦ let s : e.0 ≡ q = t e.0 q k in
          let here : update (eq_by_cmp c) g e.0 (Some e.1) q ≡ f q = rw k (sym a.0 ∙ ap f s) in
          right_at es (update (eq_by_cmp c) g e.0 (Some e.1)) q a.1 (inr here)
      | inr k ↦ right_at es (update (eq_by_cmp c) g e.0 (Some e.1)) q a.1 (elim h [
        | inl m ↦ elim (or_cases (eq_by_cmp c e.0 q) (list_any (λ x. eq_by_cmp c x.0 q) es) m) [ inl z ↦ absurd (true≢false (sym z ∙ k)) | inr z ↦ inl z ]
        | inr z ↦ inr (rw k z)
      ])
    ]

    -- what has a value has an entry, and every entry is right
    pub puts_right : (old new : BTreeMap K X) (es : List (K × X)) → old.entries ≡ [] → PutsAll c old new es → AllByRecursion IsRight es
        → ((q : K) (x : X) → f q ≡ Some x → list_any (λ e. eq_by_cmp c e.0 q) es ≡ true) → (q : K) → get c new q ≡ f q
    puts_right old new es none puts right all q = puts q ∙ right_at es (get c old) q right (at (f q) refl)
      where
        at : (o : Option X) → f q ≡ o → (list_any (λ e. eq_by_cmp c e.0 q) es ≡ true) ⊎ (get c old q ≡ f q)
        at None e = inr (ap (lookup (λ k. eq_by_cmp c q k)) none ∙ sym e)
        at (Some x) e = inl (all q x e)

lookup_is : {K X : Type 0} (test : K → Bool) (es : List (K × X)) → lookup test es ≡ option_map (λ (e : K × X). e.1) (find (λ e. test e.0) es)
lookup_is test [] = refl
lookup_is test (e ∷ es) = elim (cases_Bool (test e.0)) [ inl k ↦ rw k refl | inr k ↦ rw k (lookup_is test es) ]

-- an order tells the same of two keys both ways round
module _ {K : Type 0} (c : K → K → Ordering) (t : Tells c (eq_by_cmp c)) where
  pub turned : (a b : K) → eq_by_cmp c a b ≡ eq_by_cmp c b a
  turned a b = same_answer (eq_by_cmp c a b) (eq_by_cmp c b a)
      (λ h. let s : a ≡ b = t.is a b h in ap (λ z. eq_by_cmp c b z) s ∙ t.self b)
      (λ h. let s : b ≡ a = t.is b a h in ap (λ z. eq_by_cmp c a z) s ∙ t.self a)

abbrev pub entry_of : {K X : Type 0} → K → Option X → List (K × X)
entry_of k None = []
entry_of k (Some x) = (k, x) ∷ []

module _ {K X : Type 0} (c : K → K → Ordering) (t : Tells c (eq_by_cmp c)) where
  -- entries are looked up as f says
  abbrev pub LooksUp : (K → Option X) → List (K × X) → Type 0
  LooksUp f es = (q : K) → lookup (λ k. eq_by_cmp c q k) es ≡ f q

  value_is : (f : K → Option X) (es : List (K × X)) → LooksUp f es → (k : K) (o : Option (K × X)) → find (λ e. eq_by_cmp c e.0 k) es ≡ o → f k ≡ option_map (λ (e : K × X). e.1) o
  value_is f es h k o e = sym (h k) ∙ lookup_is (λ a. eq_by_cmp c k a) es
      ∙ ap (λ (p : K × X → Bool). option_map (λ (e : K × X). e.1) (find p es)) (fun_ext (λ (e : K × X). turned c t k e.0))
      ∙ ap (option_map (λ (e : K × X). e.1)) e

  entry_found : (f : K → Option X) (es : List (K × X)) → LooksUp f es → (k : K) (o : Option (K × X)) → find (λ e. eq_by_cmp c e.0 k) es ≡ o → entry_of k (f k) ≡ listed o
  entry_found f es h k None e = let z : f k ≡ None = value_is f es h k None e in rw z refl
  entry_found f es h k (Some x) e =
      let z : f k ≡ Some x.1 = value_is f es h k (Some x) e in
      let s : x.0 ≡ k = t.is x.0 k (find_passes (λ (e : K × X). eq_by_cmp c e.0 k) es x e) in
      rw (z, ← s) refl

  -- entries that are looked up as f says are one for each key that has a value, in the order of all keys
  pub entries_are : (f : K → Option X) (ks : List K) (es : List (K × X)) → IsStrictlySortedBy c ks → IsStrictlySortedBy c (map (λ (e : K × X). e.0) es) → LooksUp f es
      → ((q : K) (x : X) → f q ≡ Some x → list_any (eq_by_cmp c q) ks ≡ true) → es ≡ flat_map (λ k. entry_of k (f k)) ks
  entries_are f ks es o ordered h within =
      let up = sorted_by_key c (λ (e : K × X). e.0) es ordered in
      keyed_rows c (eq_by_cmp c) t (λ (e : K × X). e.0) (λ k. entry_of k (f k)) ks es o up
      (λ k z. entry_found f es h k (find (λ e. eq_by_cmp c e.0 k) es) refl)
      (each _ (λ e. list_any (eq_by_cmp c e.0) ks ≡ true) (λ e k. within e.0 e.1 (value_is f es h e.0 (Some e) k)) es (finds_own c (eq_by_cmp c) t (λ (e : K × X). e.0) es up))

  -- entries that are right are looked up as f says, or have none at the key
  first_right : (f : K → Option X) (es : List (K × X)) (q : K) → AllByRecursion (λ e. f e.0 ≡ Some e.1) es
      → (lookup (λ k. eq_by_cmp c q k) es ≡ f q) ⊎ ((lookup (λ k. eq_by_cmp c q k) es ≡ None) × (list_any (λ e. eq_by_cmp c e.0 q) es ≡ false))
  first_right f [] q a = inr (refl, refl)
  first_right f (e ∷ es) q a = elim (cases_Bool (eq_by_cmp c q e.0)) [
    | inl k ↦ let s : q ≡ e.0 = t.is q e.0 k in inl (rw k (sym a.0 ∙ ap f (sym s)))
    | inr k ↦ elim (first_right f es q a.1) [
      | inl r ↦ inl (rw k r)
      | inr n ↦ inr (rw k n.0, rw (turned c t e.0 q, k) n.1)
    ]
  ]

  -- entries that are right, of which there is one for each key that has a value, are looked up as f says
  pub looks_up : (f : K → Option X) (es : List (K × X)) → AllByRecursion (λ e. f e.0 ≡ Some e.1) es
      → ((q : K) (x : X) → f q ≡ Some x → list_any (λ e. eq_by_cmp c e.0 q) es ≡ true) → LooksUp f es
  looks_up f es right all q = elim (first_right f es q right) [ inl r ↦ r | inr n ↦ n.0 ∙ sym (none_at (f q) refl n.1) ]
    where
      none_at : (o : Option X) → f q ≡ o → list_any (λ e. eq_by_cmp c e.0 q) es ≡ false → f q ≡ None
      none_at None e n = e
      none_at (Some x) e n = absurd (true≢false (sym (all q x e) ∙ n))
