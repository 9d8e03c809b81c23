-- Lists of the things of several parts, one after the other, and what a look-up in them finds.
use Rattle.std.proofs.Common.{◌≡◌, ℕ, zero, suc, Bool, true, List, [], ◌∷◌, ◌++◌, get_or, refl, sym, ◌∙◌, ap, inl, inr, arith, Option, Some, None}
use Rattle.std.specs.Prelude.{Contains}
use Rattle.std.specs.List.{find, flat_map, IsDistinct}
use Rattle.std.specs.List.Sorted.{IsPermutation}
use Rattle.std.specs.Option.{option_map}
use Rattle.std.proofs.lemmas.List.Elements.{Contains-append_left, Contains-append_right, Contains-append_cases}
use Rattle.fol_keyed.proofs.Keyed.{Differ, differ_append, find_absent, find_key, find_of, find_permuted}
use Rattle.fol_bags.specs.declared.slot.Slot.{Slot}
use Rattle.fol_data.specs.declared.region_data.RegionData.{RegionData}
use Rattle.fol_bags.specs.Things.{no_data}
use Rattle.fol_store.specs.Stock.{Stock, Where, arriving, in_spot, in_bag, slot, spot}
use Rattle.fol_bags.specs.Slots.{no_slot}

module _ {X P : Type 0} (f : P → List X) (d : P) (nothing : f d ≡ []) where
  none_in : (x : X) → Contains (f d) x → ⊥
  none_in x c = let m : Contains [] x = rw nothing at c in omega (arith, m.1)

  -- what is in the whole is in one of the parts
  pub in_part : (ps : List P) (x : X) → Contains (flat_map f ps) x → (i : ℕ) × Contains (f (get_or ps i d)) x
  in_part [] x c = absurd (omega (arith, c.1))
  in_part (p ∷ ps) x c =
      elim (Contains-append_cases (f p) (flat_map f ps) x c) [
        | inl m ↦ (0, m)
        | inr m ↦ let r : (i : ℕ) × Contains (f (get_or ps i d)) x = in_part ps x m in (suc r.0, r.1)
      ]

  -- what is in a part is in the whole
  pub in_whole : (ps : List P) (i : ℕ) (x : X) → Contains (f (get_or ps i d)) x → Contains (flat_map f ps) x
  in_whole [] i x c = absurd (none_in x c)
  in_whole (p ∷ ps) zero x c = Contains-append_left (f p) (flat_map f ps) x c
  in_whole (p ∷ ps) (suc i) x c = Contains-append_right (f p) (flat_map f ps) x (in_whole ps i x c)

  -- parts that share no key, each with keys that differ, make a list with keys that differ
  pub differ_parts : {K : Type 0} (same : K → K → Bool) (same_is : (a b : K) → same a b ≡ true → a ≡ b) (same_self : (a : K) → same a a ≡ true) (key : X → K) (ps : List P)
      → ((i : ℕ) → Differ same same_is same_self key (f (get_or ps i d)))
      → ((i j : ℕ) (x y : X) → Contains (f (get_or ps i d)) x → Contains (f (get_or ps j d)) y → key x ≡ key y → i ≡ j)
      → Differ same same_is same_self key (flat_map f ps)
  unfolding IsDistinct
  differ_parts same same_is same_self key [] each one = tt
  differ_parts same same_is same_self key (p ∷ ps) each one =
      differ_append same same_is same_self key (f p) (flat_map f ps) (each 0)
      (differ_parts same same_is same_self key ps (λ i. each (suc i)) (λ i j x y m n e. let s : suc i ≡ suc j = one (suc i) (suc j) x y m n e in omega arith))
      (λ x y m n e.
      let r : (i : ℕ) × Contains (f (get_or ps i d)) y = in_part ps y n in
      let s : 0 ≡ suc r.0 = one 0 (suc r.0) x y m r.1 e in
      omega arith)

-- the lists of the parts of a store
module _ {X : Type 0} (s : Stock) (arr : List X) (f : RegionData → List X) (nothing : f no_data ≡ []) where
  abbrev pub list_at : Where → List X
  list_at arriving = arr
  list_at (in_spot i) = f (spot s i)
  list_at (in_bag id) = f (slot s id).body

  abbrev pub in_bags : List X
  in_bags = flat_map (λ (b : Slot). f b.body) s.bags

  abbrev pub whole : List X
  whole = (arr ++ flat_map f s.spots) ++ in_bags

  pub whole_part : (x : X) → Contains whole x → (w : Where) × Contains (list_at w) x
  whole_part x c =
      elim (Contains-append_cases (arr ++ flat_map f s.spots) in_bags x c) [
        | inl m ↦
            elim (Contains-append_cases arr (flat_map f s.spots) x m) [
              | inl n ↦ (arriving, n)
              | inr n ↦ let r : (i : ℕ) × Contains (f (get_or s.spots i no_data)) x = in_part f no_data nothing s.spots x n in (in_spot r.0, r.1)
            ]
        | inr m ↦ let r : (i : ℕ) × Contains (f (get_or s.bags i no_slot).body) x = in_part (λ (b : Slot). f b.body) no_slot nothing s.bags x m in (in_bag r.0, r.1)
      ]

  pub part_whole : (w : Where) (x : X) → Contains (list_at w) x → Contains whole x
  part_whole arriving x c = Contains-append_left (arr ++ flat_map f s.spots) in_bags x (Contains-append_left arr (flat_map f s.spots) x c)
  part_whole (in_spot i) x c = Contains-append_left (arr ++ flat_map f s.spots) in_bags x (Contains-append_right arr (flat_map f s.spots) x (in_whole f no_data nothing s.spots i x c))
  part_whole (in_bag id) x c = Contains-append_right (arr ++ flat_map f s.spots) in_bags x (in_whole (λ (b : Slot). f b.body) no_slot nothing s.bags id x c)

  module _ {K : Type 0} (same : K → K → Bool) (same_is : (a b : K) → same a b ≡ true → a ≡ b) (same_self : (a : K) → same a a ≡ true) (key : X → K) where
    pub differ_whole : ((w : Where) → Differ same same_is same_self key (list_at w)) → ((v w : Where) (x y : X) → Contains (list_at v) x → Contains (list_at w) y → key x ≡ key y → v ≡ w) → Differ same same_is same_self key whole
    differ_whole each one =
        differ_append same same_is same_self key (arr ++ flat_map f s.spots) in_bags
        (differ_append same same_is same_self key arr (flat_map f s.spots) (each arriving)
        (differ_parts f no_data nothing same same_is same_self key s.spots (λ i. each (in_spot i)) (λ i j x y m n e. let r : in_spot i ≡ in_spot j = one (in_spot i) (in_spot j) x y m n e in cc))
        (λ x y m n e.
        let r : (i : ℕ) × Contains (f (get_or s.spots i no_data)) y = in_part f no_data nothing s.spots y n in
        let z : arriving ≡ in_spot r.0 = one arriving (in_spot r.0) x y m r.1 e in
        cc))
        (differ_parts (λ (b : Slot). f b.body) no_slot nothing same same_is same_self key s.bags (λ i. each (in_bag i)) (λ i j x y m n e. let r : in_bag i ≡ in_bag j = one (in_bag i) (in_bag j) x y m n e in cc))
        (λ x y m n e.
        let r : (i : ℕ) × Contains (f (get_or s.bags i no_slot).body) y = in_part (λ (b : Slot). f b.body) no_slot nothing s.bags y n in
        elim (Contains-append_cases arr (flat_map f s.spots) x m) [
          | inl k ↦ let z : arriving ≡ in_bag r.0 = one arriving (in_bag r.0) x y k r.1 e in cc
          | inr k ↦
              let q : (i : ℕ) × Contains (f (get_or s.spots i no_data)) x = in_part f no_data nothing s.spots x k in
              let z : in_spot q.0 ≡ in_bag r.0 = one (in_spot q.0) (in_bag r.0) x y q.1 r.1 e in
              cc
        ])

-- elements with keys and values
module _ {X K V : Type 0} (same : K → K → Bool) (same_is : (a b : K) → same a b ≡ true → a ≡ b) (same_self : (a : K) → same a a ≡ true) (key : X → K) (value : X → V) where
  -- the value under a key
  abbrev pub look : List X → K → Option V
  look xs k = option_map value (find (λ x. same (key x) k) xs)

  pub look_own : (xs : List X) (x : X) (k : K) → Differ same same_is same_self key xs → Contains xs x → key x ≡ k → look xs k ≡ Some (value x)
  look_own xs x k d c e = ap (option_map value) (find_of same same_is same_self key xs k x d c e)

  pub look_element : (xs : List X) (k : K) (v : V) → look xs k ≡ Some v → (x : X) × Contains xs x × (key x ≡ k) × (value x ≡ v)
  look_element xs k v h = go (find (λ x. same (key x) k) xs) refl
    where
      go : (o : Option X) → find (λ x. same (key x) k) xs ≡ o → (x : X) × Contains xs x × (key x ≡ k) × (value x ≡ v)
      go None e = let z : None ≡ Some v = rw e at h in cc
      go (Some x) e =
          let c : Contains xs x × (key x ≡ k) = find_key same same_is same_self key xs k x e in
          let z : Some (value x) ≡ Some v = rw e at h in
          let w : value x ≡ v = cc in
          (x, c.0, c.1, w)

  -- where what lies in the parts is known part by part, and no key lies in two
  module _ (s : Stock) (arr : List X) (f : RegionData → List X) (nothing : f no_data ≡ []) (col : K → Where → Option V) (all : K → Option V)
      (all_at : (k : K) (v : V) → all k ≡ Some v → (w : Where) × (col k w ≡ Some v))
      (all_none : (k : K) → all k ≡ None → (w : Where) → col k w ≡ None)
      (unique : (k : K) (v w : Where) (x y : V) → col k v ≡ Some x → col k w ≡ Some y → v ≡ w)
      (each : (w : Where) → Differ same same_is same_self key (list_at s arr f nothing w))
      (cols : (k : K) (w : Where) → col k w ≡ look (list_at s arr f nothing w) k) where
    col_own : (w : Where) (x : X) (k : K) → Contains (list_at s arr f nothing w) x → key x ≡ k → col k w ≡ Some (value x)
    col_own w x k c e = cols k w ∙ look_own (list_at s arr f nothing w) x k (each w) c e

    pub whole_differs : Differ same same_is same_self key (whole s arr f nothing)
    whole_differs =
        differ_whole s arr f nothing same same_is same_self key each
        (λ v w x y m n e. unique (key y) v w (value x) (value y) (col_own v x (key y) m e) (col_own w y (key y) n refl))

    pub look_whole : (k : K) → look (whole s arr f nothing) k ≡ all k
    look_whole k = go (all k) refl
      where
        none_there : all k ≡ None → (x : X) → Contains (whole s arr f nothing) x → key x ≡ k → ⊥
        none_there e x c q =
            let p : (w : Where) × Contains (list_at s arr f nothing w) x = whole_part s arr f nothing x c in
            let z : None ≡ Some (value x) = sym (all_none k e p.0) ∙ col_own p.0 x k p.1 q in
            cc

        go : (o : Option V) → all k ≡ o → look (whole s arr f nothing) k ≡ all k
        go None e = ap (option_map value) (find_absent same same_is same_self key (whole s arr f nothing) k (none_there e)) ∙ sym e
        go (Some v) e =
            let a : (w : Where) × (col k w ≡ Some v) = all_at k v e in
            let r : (x : X) × Contains (list_at s arr f nothing a.0) x × (key x ≡ k) × (value x ≡ v) = look_element (list_at s arr f nothing a.0) k v (sym (cols k a.0) ∙ a.1) in
            look_own (whole s arr f nothing) r.0 k whole_differs (part_whole s arr f nothing a.0 r.0 r.1) r.2 ∙ ap (λ (q : V). Some q) r.3 ∙ sym e

    -- the same where the elements stand in another order
    pub look_permuted : (ys : List X) → IsPermutation (whole s arr f nothing) ys → (k : K) → look ys k ≡ all k
    look_permuted ys m k = ap (option_map value) (find_permuted same same_is same_self key (whole s arr f nothing) ys whole_differs m k) ∙ look_whole k
