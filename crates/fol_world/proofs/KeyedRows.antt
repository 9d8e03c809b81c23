-- A list in order of its keys is what the list of all keys gives, key by key.
use Rattle.std.proofs.Common.{◌≡◌, ◌∙◌, refl, sym, ap, Bool, true, false, List, [], ◌∷◌, ◌++◌, inl, inr}
use Rattle.std.specs.Prelude.{flat_map, map, filter, if◌then◌else◌, Option, Some, None}
use Rattle.std.specs.List.{AllByRecursion, find, list_any}
use Rattle.std.specs.List.Sorted.{IsStrictlySortedBy}
use Rattle.std.specs.declared.cmp.Ordering.{Ordering}
use Rattle.std.specs.declared.cmp.Ordering.TheVariants.{Less}
use Rattle.std.proofs.lemmas.List.Concat.{flat_map-cons}
use Rattle.std.proofs.lemmas.List.{map-append}
use Rattle.std.proofs.lemmas.Bool.{cases_Bool, or_left, or_right, or_cases, true≢false}

abbrev pub listed : {X : Type 0} → Option X → List X
listed None = []
listed (Some x) = x ∷ []

module _ {X : Type 0} where
  pub each : (P Q : X → Type 0) → ((x : X) → P x → Q x) → (xs : List X) → AllByRecursion P xs → AllByRecursion Q xs
  each P Q f [] h = tt
  each P Q f (x ∷ xs) h = (f x h.0, each P Q f xs h.1)

  pub find_none : (p : X → Bool) (xs : List X) → AllByRecursion (λ x. p x ≡ false) xs → find p xs ≡ None
  find_none p [] h = refl
  find_none p (x ∷ xs) h = let e : p x ≡ false = h.0 in rw e (find_none p xs h.1)

-- an order in which no two keys are before each other, and a test that tells keys apart
pub record Tells {K : Type 0} (c : K → K → Ordering) (same : K → K → Bool) : Type 0 where
  pub is : (a b : K) → same a b ≡ true → a ≡ b
  pub self : (a : K) → same a a ≡ true
  pub one_way : (a b : K) → c a b ≡ Less → c b a ≡ Less → ⊥

module _ {X K : Type 0} (c : K → K → Ordering) (same : K → K → Bool) (t : Tells c same) (key : X → K) where
  abbrev pub has_key : K → X → Bool
  has_key k x = same (key x) k

  -- keys of which none is k are among the others
  among_rest : (k : K) (ks : List K) (xs : List X) → AllByRecursion (λ x. list_any (same (key x)) (k ∷ ks) ≡ true) xs → AllByRecursion (λ x. same (key x) k ≡ false) xs
      → AllByRecursion (λ x. list_any (same (key x)) ks ≡ true) xs
  among_rest k ks [] h n = tt
  among_rest k ks (x ∷ xs) h n = (
    elim (or_cases (same (key x) k) (list_any (same (key x)) ks) h.0) [ inl e ↦ absurd (true≢false (sym e ∙ n.0)) | inr e ↦ e ],
    among_rest k ks xs h.1 n.1,
  )

  later : (k : K) (ks : List K) (q : K) → AllByRecursion (λ a. c k a ≡ Less) ks → list_any (same q) ks ≡ true → c k q ≡ Less
  later k [] q h m = absurd (true≢false (sym m))
  later k (a ∷ ks) q h m = elim (or_cases (same q a) (list_any (same q) ks) m) [
    | inl e ↦ let s : q ≡ a = t.is q a e in rw s h.0
    | inr e ↦ later k ks q h.1 e
  ]

  not_same : (a b : K) → (a ≡ b → ⊥) → same a b ≡ false
  not_same a b h = elim (cases_Bool (same a b)) [ inl e ↦ absurd (h (t.is a b e)) | inr e ↦ e ]

  pub keyed_rows : (row : K → List X) (ks : List K) (xs : List X) → IsStrictlySortedBy c ks → IsStrictlySortedBy (λ a b. c (key a) (key b)) xs
      → ((k : K) → list_any (same k) ks ≡ true → row k ≡ listed (find (has_key k) xs)) → AllByRecursion (λ x. list_any (same (key x)) ks ≡ true) xs
      → xs ≡ flat_map row ks
  unfolding IsStrictlySortedBy
  keyed_rows row [] [] o p h a = refl
  keyed_rows row [] (x ∷ xs) o p h a = absurd (true≢false (sym a.0))
  keyed_rows row (k ∷ ks) [] o p h a =
      let none : row k ≡ [] = h k (or_left (same k k) _ (t.self k)) in
      let rest : [] ≡ flat_map row ks = keyed_rows row ks [] o.1 tt (λ q m. h q (or_right (same q k) _ m)) tt in
      rw (flat_map-cons {A = X} row k ks, none) rest
  keyed_rows row (k ∷ ks) (y ∷ ys) o p h a = elim (cases_Bool (same (key y) k)) [
    | inl e ↦
        let here : key y ≡ k = t.is (key y) k e in
        let first : row k ≡ y ∷ [] = let z = h k (or_left (same k k) _ (t.self k)) in rw e at z in
        let others : AllByRecursion (λ x. same (key x) k ≡ false) ys = each (λ x. c (key y) (key x) ≡ Less) (λ x. same (key x) k ≡ false)
        (λ x l. not_same (key x) k (λ s. let u : key x ≡ key y = s ∙ sym here in let v : c (key y) (key y) ≡ Less = rw u at l in t.one_way (key y) (key y) v v)) ys p.0 in
        let rest : ys ≡ flat_map row ks = keyed_rows row ks ys o.1 p.1
        (λ q m. let l : c k q ≡ Less = later k ks q o.0 m in
        let f : same (key y) q ≡ false = not_same (key y) q (λ s. let u : q ≡ k = sym s ∙ here in let v : c k k ≡ Less = rw u at l in t.one_way k k v v) in
        let z = h q (or_right (same q k) _ m) in rw f at z)
        (among_rest k ks ys a.1 others) in
        rw (flat_map-cons {A = X} row k ks, first) (ap (λ (zs : List X). y ∷ zs) rest)
    | inr e ↦
        let among : list_any (same (key y)) ks ≡ true = elim (or_cases (same (key y) k) (list_any (same (key y)) ks) a.0) [ inl z ↦ absurd (true≢false (sym z ∙ e)) | inr z ↦ z ] in
        let above : c k (key y) ≡ Less = later k ks (key y) o.0 among in
        let others : AllByRecursion (λ x. same (key x) k ≡ false) ys = each (λ x. c (key y) (key x) ≡ Less) (λ x. same (key x) k ≡ false)
        (λ x l. not_same (key x) k (λ s. let v : c (key y) k ≡ Less = rw s at l in t.one_way k (key y) above v)) ys p.0 in
        let none : row k ≡ [] = h k (or_left (same k k) _ (t.self k)) ∙ ap listed (find_none (has_key k) (y ∷ ys) (e, others)) in
        let rest : y ∷ ys ≡ flat_map row ks = keyed_rows row ks (y ∷ ys) o.1 p (λ q m. h q (or_right (same q k) _ m)) (among_rest k ks (y ∷ ys) a (e, others)) in
        rw (flat_map-cons {A = X} row k ks, none) rest
  ]

  -- the look-up of an element's key finds the element
  pub finds_own : (xs : List X) → IsStrictlySortedBy (λ a b. c (key a) (key b)) xs → AllByRecursion (λ x. find (has_key (key x)) xs ≡ Some x) xs
  unfolding IsStrictlySortedBy
  finds_own [] o = tt
  finds_own (x ∷ xs) o = (
    let e : same (key x) (key x) ≡ true = t.self (key x) in rw e refl,
    behind xs o.0 (finds_own xs o.1),
  )
    where
      behind : (ys : List X) → AllByRecursion (λ y. c (key x) (key y) ≡ Less) ys → AllByRecursion (λ y. find (has_key (key y)) xs ≡ Some y) ys
          → AllByRecursion (λ y. find (has_key (key y)) (x ∷ xs) ≡ Some y) ys
      behind [] l h = tt
      behind (y ∷ ys) l h = (
        let f : same (key x) (key y) ≡ false = not_same (key x) (key y) (λ s. let v : c (key y) (key y) ≡ Less = rw s at l.0 in t.one_way (key y) (key y) v v) in rw f h.0,
        behind ys l.1 h.1,
      )

module _ {X : Type 0} where
  -- what a look-up finds passes
  pub find_passes : (p : X → Bool) (xs : List X) (x : X) → find p xs ≡ Some x → p x ≡ true
  find_passes p [] x h = absurd (cc)
  find_passes p (y ∷ ys) x h = elim (cases_Bool (p y)) [
    | inl e ↦ let f : Some y ≡ Some x = rw e at h in let s : y ≡ x = cc in ap p (sym s) ∙ e
    | inr e ↦ find_passes p ys x (rw e at h)
  ]

  pub none_passes : (p : X → Bool) (xs : List X) → find p xs ≡ None → AllByRecursion (λ x. p x ≡ false) xs
  none_passes p [] h = tt
  none_passes p (y ∷ ys) h = elim (cases_Bool (p y)) [
    | inl e ↦ let f : Some y ≡ None = rw e at h in absurd (cc)
    | inr e ↦ (e, none_passes p ys (rw e at h))
  ]

  -- where a look-up finds an element, one passes
  pub found_passes : (p : X → Bool) (xs : List X) (x : X) → find p xs ≡ Some x → list_any p xs ≡ true
  found_passes p [] x h = absurd (cc)
  found_passes p (y ∷ ys) x h = elim (cases_Bool (p y)) [
    | inl e ↦ or_left (p y) _ e
    | inr e ↦ or_right (p y) _ (found_passes p ys x (rw e at h))
  ]

  pub passing : (q : X → Bool) (P : X → Type 0) → ((x : X) → q x ≡ true → P x) → (xs : List X) → AllByRecursion P (filter q xs)
  passing q P f [] = tt
  passing q P f (x ∷ xs) = elim (cases_Bool (q x)) [
    | inl e ↦ rw e (f x e, passing q P f xs)
    | inr e ↦ rw e (passing q P f xs)
  ]

  pub map_passing : {Y : Type 0} (f g : X → Y) (p : X → Bool) → ((x : X) → p x ≡ true → f x ≡ g x) → (xs : List X) → map f (filter p xs) ≡ map g (filter p xs)
  map_passing f g p h [] = refl
  map_passing f g p h (x ∷ xs) = elim (cases_Bool (p x)) [
    | inl e ↦ rw e (λ i. h x e i ∷ map_passing f g p h xs i)
    | inr e ↦ rw e (map_passing f g p h xs)
  ]

  -- a row for each that passes
  pub map_filter : {Y : Type 0} (f : X → Y) (p : X → Bool) (xs : List X) → map f (filter p xs) ≡ flat_map (λ x. if p x then f x ∷ [] else []) xs
  map_filter f p [] = refl
  map_filter {Y} f p (x ∷ xs) = elim (cases_Bool (p x)) [
    | inl e ↦ rw (flat_map-cons {A = Y} (λ y. if p y then f y ∷ [] else []) x xs, e) (ap (λ (zs : List Y). f x ∷ zs) (map_filter f p xs))
    | inr e ↦ rw (flat_map-cons {A = Y} (λ y. if p y then f y ∷ [] else []) x xs, e) (map_filter f p xs)
  ]

  pub map_flat : {Y Z : Type 0} (g : Y → Z) (f : X → List Y) (xs : List X) → map g (flat_map f xs) ≡ flat_map (λ x. map g (f x)) xs
  map_flat g f [] = refl
  map_flat {Y} {Z} g f (x ∷ xs) = rw (flat_map-cons {A = Y} f x xs, flat_map-cons {A = Z} (λ y. map g (f y)) x xs) (map-append g (f x) (flat_map f xs) ∙ ap (λ zs. map g (f x) ++ zs) (map_flat g f xs))

  pub sorted_by_key : {K : Type 0} (c : K → K → Ordering) (key : X → K) (xs : List X) → IsStrictlySortedBy c (map key xs) → IsStrictlySortedBy (λ a b. c (key a) (key b)) xs
  unfolding IsStrictlySortedBy
  sorted_by_key c key [] h = tt
  sorted_by_key c key (x ∷ xs) h = (below xs h.0, sorted_by_key c key xs h.1)
    where
      below : (ys : List X) → AllByRecursion (λ k. c (key x) k ≡ Less) (map key ys) → AllByRecursion (λ y. c (key x) (key y) ≡ Less) ys
      below [] h = tt
      below (y ∷ ys) h = (h.0, below ys h.1)
