-- The visits that are due, as they are collected for one entity after another.
use Rattle.std.proofs.Common.{◌≡◌, ◌≢◌, ℕ, zero, suc, ◌+◌, ◌-◌, ◌<◌, ◌≤◌, ◌&&◌, Bool, true, false, cond, refl, sym, ◌∙◌, ap, subst, inl, inr, arith, List, [], ◌∷◌, ◌++◌, length, take, get_or}
use Rattle.std.specs.Prelude.{nat_eq, nat_le, if◌then◌else◌, slice_get, Option, Some, None, IsNone}
use Rattle.std.specs.Option.{option_map, unwrap_or}
use Rattle.std.specs.List.{find, IsDistinct, AllByRecursion}
use Rattle.std.specs.List.Sorted.{IsPermutation, IsStrictlySortedBy}
use Rattle.std.specs.Ordering.{nat_cmp}
use Rattle.std.specs.declared.cmp.Ordering.TheVariants.{Less, Equal}
use Rattle.std.specs.Cmp.{tied_itself}
use Rattle.std.proofs.lemmas.Cmp.{nat_cmp_total}
use Rattle.std.proofs.lemmas.Bool.{cases_Bool, eqb-true, eqb-false, eq-eqb, ne_eqb, leb-true, leb-false, le-leb, lt-leb, and_left, and_right, and_from}
use Rattle.std.proofs.lemmas.List.{take_more}
use Rattle.fol_keyed.proofs.Keyed.{differ_push, find_permuted, find_push}
use Rattle.fol_keyed.proofs.Sorted.{sorted_take}
use Rattle.fol_model.specs.declared.places.BlockPos.{BlockPos}
use Rattle.fol_follow.specs.declared.asks.Row.{Row}
use Rattle.fol_follow.specs.declared.entries.EntityAt.{EntityAt}
use Rattle.fol_follow.specs.declared.entries.Visit.{Visit}
use Rattle.fol_follow.specs.Here.{by_id, place_in}
use Rattle.fol_follow.specs.Visits.{AreVisits, Pending, by_number, same_number, visit_at, visit_due, visit_in}
use Rattle.fol_follow.specs.Table.{IsLast, collected, pending_at, pending_by, pending_row, waits_for}
use Rattle.fol_follow.proofs.Numbers.{nat_self}
use Rattle.fol_follow.proofs.Linking.{none_past, waits_same}

-- ---- the chain of one entity

-- the asks above number n were collected, and n is the next one or 0
pub record IsCollecting (rows : List Row) (place : EntityAt) (due n : ℕ) (old now : List Visit) : Type 0 where
  pub low : n ≤ length rows
  pub there : (k : ℕ) → n ≡ suc k → waits_for place.id due (slice_get rows k) ≡ true
  pub visits : (m : ℕ) → visit_in now m ≡ collected rows place due n m (visit_in old m)
  pub distinct : IsDistinct same_number now

module _ (rows : List Row) (place : EntityAt) (due : ℕ) where
  -- above the last one there is none to collect
  none_above : (n m : ℕ) (x : Option Visit) → IsLast rows place.id due (length rows) n → x ≡ collected rows place due n m x
  none_above n zero x last = refl
  none_above n (suc k) x last = elim (cases_Bool (nat_le n k)) [
    | inl e ↦
        let l : n ≤ k = leb-true n k e in
        let w : waits_for place.id due (slice_get rows k) ≡ false = not_there k l in
        rw (e, w) refl
    | inr e ↦ rw e refl
  ]
    where
      not_there : (k : ℕ) → n ≤ k → waits_for place.id due (slice_get rows k) ≡ false
      not_there k l = elim (cases_Bool (nat_le (length rows) k)) [
        | inl e ↦ none_past rows place.id due k (leb-true (length rows) k e)
        | inr e ↦ last.none k l (leb-false (length rows) k e)
      ]

  pub collecting_begins : (n : ℕ) (old : List Visit) → IsLast rows place.id due (length rows) n → IsDistinct same_number old → IsCollecting rows place due n old old
  collecting_begins n old last distinct = record {
    low = last.low;
    there = last.there;
    visits = λ m. none_above n m (visit_in old m) last;
    distinct = distinct;
  }

  module _ (n k0 before : ℕ) (old now : List Visit) (is : n ≡ suc k0) (collecting : IsCollecting rows place due n old now)
      (apart : (k : ℕ) → waits_for place.id due (slice_get rows k) ≡ true → visit_in old (suc k) ≡ None) (last : IsLast rows place.id due k0 before) where
    abbrev visit : Visit
    visit = visit_at n place.id place.at

    waits_here : waits_for place.id due (slice_get rows k0) ≡ true
    waits_here = collecting.there k0 is

    not_yet : visit_in now n ≡ None
    not_yet = collecting.visits n ∙ at_own n is
      where
        at_own : (m : ℕ) → m ≡ suc k0 → collected rows place due n m (visit_in old m) ≡ None
        at_own zero e = absurd (omega arith)
        at_own (suc k) e =
            let s : k ≡ k0 = omega arith in
            let t : nat_le n k ≡ false = lt-leb n k (omega arith) in
            rw t (ap (λ (x : ℕ). visit_in old (suc x)) s ∙ apart k0 waits_here)

    at_number : (m : ℕ) → cond (nat_eq n m) (Some visit) (collected rows place due n m (visit_in old m)) ≡ collected rows place due before m (visit_in old m)
    at_number zero = let t : nat_eq n 0 ≡ false = ne_eqb n 0 (λ (e : n ≡ 0). omega arith) in rw t refl
    at_number (suc k) = elim (cases_Bool (nat_eq n (suc k))) [
      | inl e ↦
          let s : n ≡ suc k = eqb-true n (suc k) e in
          let t : k ≡ k0 = omega arith in
          let l : nat_le before k ≡ true = le-leb before k (let low = last.low in omega arith) in
          let w : waits_for place.id due (slice_get rows k) ≡ true = rw t waits_here in
          rw (e, l, w) (ap (λ (x : ℕ). Some (visit_at x place.id place.at)) s)
      | inr e ↦
          let d : n ≢ suc k = eqb-false n (suc k) e in
          rw e (elim (cases_Bool (waits_for place.id due (slice_get rows k))) [
            | inr w ↦
                let a : (nat_le n k && waits_for place.id due (slice_get rows k)) ≡ false = and_right (nat_le n k) (waits_for place.id due (slice_get rows k)) w in
                let b : (nat_le before k && waits_for place.id due (slice_get rows k)) ≡ false = and_right (nat_le before k) (waits_for place.id due (slice_get rows k)) w in
                rw (a, b) refl
            | inl w ↦ elim (cases_Bool (nat_le n k)) [
              | inl f ↦
                  let l : n ≤ k = leb-true n k f in
                  let g : nat_le before k ≡ true = le-leb before k (let low = last.low in omega arith) in
                  rw (f, g) refl
              | inr f ↦
                  let l : k < n = leb-false n k f in
                  let g : nat_le before k ≡ false = below k w (omega arith) in
                  rw (f, g) refl
            ]
          ])
    ]
      where
        below : (k : ℕ) → waits_for place.id due (slice_get rows k) ≡ true → k < k0 → nat_le before k ≡ false
        below k w l = elim (cases_Bool (nat_le before k)) [
          | inl g ↦ let z : waits_for place.id due (slice_get rows k) ≡ false = last.none k (leb-true before k g) l in absurd (let x : true ≡ false = sym w ∙ z in cc)
          | inr g ↦ g
        ]

    pub collecting_goes_on : IsCollecting rows place due before old (now ++ visit ∷ [])
    collecting_goes_on = record {
      low = (let low = last.low in let l = collecting.low in omega arith);
      there = last.there;
      visits = λ m. find_push nat_eq eqb-true nat_self (λ (v : Visit). v.number) now visit not_yet m ∙ ap (cond (nat_eq n m) (Some visit)) (collecting.visits m) ∙ at_number m;
      distinct = differ_push nat_eq eqb-true nat_self (λ (v : Visit). v.number) now visit collecting.distinct not_yet;
    }

-- the next ask of the chain, with its row
pub chain_goes_on : (rows : List Row) (place : EntityAt) (due n : ℕ) (row : Row) (old now : List Visit) → n ≢ 0 → IsCollecting rows place due n old now
    → ((k : ℕ) → waits_for place.id due (slice_get rows k) ≡ true → visit_in old (suc k) ≡ None) → slice_get rows (n - 1) ≡ Some row → IsLast rows row.entity row.due (n - 1) row.before
    → IsCollecting rows place due row.before old (now ++ visit_at n place.id place.at ∷ []) × (row.before < n)
chain_goes_on rows place due n row old now some collecting apart found last =
    let is : n ≡ suc (n - 1) = omega arith in
    let waits : waits_for place.id due (Some row) ≡ true = sym (ap (waits_for place.id due) found) ∙ collecting.there (n - 1) is in
    let same = waits_same place.id due row waits in
    let L : ℕ → ℕ → Type 0 = λ e d. IsLast rows e d (n - 1) row.before in
    let here : IsLast rows place.id due (n - 1) row.before = subst (λ (d : ℕ). L place.id d) same.1 (subst (λ (e : ℕ). L e row.due) same.0 last) in
    let low = here.low in
    (collecting_goes_on rows place due n (n - 1) row.before old now is collecting apart here, omega arith)

pub not_found : (vs : List Visit) (n : ℕ) → IsNone (visit_in vs n) → visit_in vs n ≡ None
not_found vs n h = none (visit_in vs n) h
  where
    none : (o : Option Visit) → IsNone o → o ≡ None
    none None h = refl
    none (Some v) h = absurd (cc)

-- ---- one entity after another

-- an entity stands in the list once
pub once : (xs : List EntityAt) (y : EntityAt) → IsStrictlySortedBy by_id (xs ++ y ∷ []) → find (λ (e : EntityAt). nat_eq e.id y.id) xs ≡ None
unfolding IsStrictlySortedBy
once [] y order = refl
once (x ∷ xs) y order = let d : nat_eq x.id y.id ≡ false = differs x y (among xs y order.0) in rw d (once xs y order.1)
  where
    among : (xs : List EntityAt) (y : EntityAt) → AllByRecursion (λ (z : EntityAt). by_id x z ≡ Less) (xs ++ y ∷ []) → by_id x y ≡ Less
    among [] y h = h.0
    among (z ∷ zs) y h = among zs y h.1

    differs : (x y : EntityAt) → by_id x y ≡ Less → nat_eq x.id y.id ≡ false
    differs x y h = elim (cases_Bool (nat_eq x.id y.id)) [
      | inl e ↦
          let s : x.id ≡ y.id = eqb-true x.id y.id e in
          let t : nat_cmp x.id x.id ≡ Equal = tied_itself nat_cmp_total x.id in
          let l : nat_cmp x.id x.id ≡ Less = ap (nat_cmp x.id) s ∙ h in
          cc
      | inr e ↦ e
    ]

module _ (xs : List EntityAt) (p : EntityAt) (order : IsStrictlySortedBy by_id (xs ++ p ∷ [])) where
  pub place_none : place_in xs p.id ≡ None
  place_none = ap (option_map (λ (e : EntityAt). e.at)) (once xs p order)

  pub place_push : (id : ℕ) → place_in (xs ++ p ∷ []) id ≡ cond (nat_eq p.id id) (Some p.at) (place_in xs id)
  place_push id = ap (option_map (λ (e : EntityAt). e.at)) (find_push nat_eq eqb-true nat_self (λ (e : EntityAt). e.id) xs p (once xs p order) id) ∙ inside (nat_eq p.id id)
    where
      inside : (b : Bool) → option_map (λ (e : EntityAt). e.at) (cond b (Some p) (find (λ (e : EntityAt). nat_eq e.id id) xs)) ≡ cond b (Some p.at) (place_in xs id)
      inside true = refl
      inside false = refl

-- the next entity of a list in order
pub next_in_order : (here : List EntityAt) (i : ℕ) (x : EntityAt) → IsStrictlySortedBy by_id here → i < length here → x ≡ get_or here i x
    → (take (i + 1) here ≡ take i here ++ x ∷ []) × IsStrictlySortedBy by_id (take i here ++ x ∷ [])
next_in_order here i x order l is =
    let more : take (i + 1) here ≡ take i here ++ x ∷ [] = take_more here i x l ∙ ap (λ (y : EntityAt). take i here ++ y ∷ []) (sym is) in
    let P : List EntityAt → Type 0 = λ xs. IsStrictlySortedBy by_id xs in
    (more, subst P more (sorted_take (λ (e : EntityAt). e.id) nat_cmp nat_cmp_total (i + 1) here order))

-- just the visits that are due for these entities were gathered
pub record IsGathering (count : ℕ → ℕ) (rows : List Row) (here : List EntityAt) (visits : List Visit) : Type 0 where
  pub distinct : IsDistinct same_number visits
  pub each : (n : ℕ) → visit_in visits n ≡ visit_due here n (pending_by count rows n)

pub gathering_begins : (count : ℕ → ℕ) (rows : List Row) → IsGathering count rows [] []
unfolding IsDistinct
gathering_begins count rows = record { distinct = tt; each = λ n. none (pending_by count rows n) n }
  where
    none : (o : Option Pending) (n : ℕ) → None ≡ visit_due [] n o
    none None n = refl
    none (Some p) n = elim (cases_Bool (nat_eq (p.rest - 1) 0)) [ inl e ↦ rw e refl | inr e ↦ rw e refl ]

module _ (count : ℕ → ℕ) (rows : List Row) (xs : List EntityAt) (p : EntityAt) (order : IsStrictlySortedBy by_id (xs ++ p ∷ [])) (visits : List Visit) (gathering : IsGathering count rows xs visits) where
  abbrev due : ℕ
  due = count p.id + 1

  -- an ask that waits for this entity's next visit
  due_row : (r : Row) → waits_for p.id due (Some r) ≡ true → pending_at (count r.entity) r ≡ Some (record { entity = p.id; rest = 1 })
  due_row r w =
      let s = waits_same p.id due r w in
      let c : count r.entity ≡ count p.id = ap count s.0 in
      let d : nat_le r.due (count r.entity) ≡ false = lt-leb r.due (count r.entity) (omega (arith, c, s.1)) in
      let one : r.due - count r.entity ≡ 1 = omega (arith, c, s.1) in
      rw (d, one) (ap (λ (x : ℕ). Some (record { entity = x; rest = 1 })) s.0)

  due_pending : (k : ℕ) → waits_for p.id due (slice_get rows k) ≡ true → pending_row count (slice_get rows k) ≡ Some (record { entity = p.id; rest = 1 })
  due_pending k w = at_row (slice_get rows k) w
    where
      at_row : (o : Option Row) → waits_for p.id due o ≡ true → pending_row count o ≡ Some (record { entity = p.id; rest = 1 })
      at_row None w = absurd (cc)
      at_row (Some r) w = due_row r w

  -- none of its visits was gathered before
  pub apart : (k : ℕ) → waits_for p.id due (slice_get rows k) ≡ true → visit_in visits (suc k) ≡ None
  apart k w =
      let none = place_none xs p order in
      gathering.each (suc k) ∙ ap (visit_due xs (suc k)) (due_pending k w) ∙ rw none refl

  -- an ask that does not wait for it gets no visit by it
  other : (k : ℕ) (o : Option Row) → waits_for p.id due o ≡ false → visit_due xs (suc k) (pending_row count o) ≡ visit_due (xs ++ p ∷ []) (suc k) (pending_row count o)
  other k None w = refl
  other k (Some r) w = elim (cases_Bool (nat_le r.due (count r.entity))) [
    | inl e ↦ rw e refl
    | inr e ↦ rw e (elim (cases_Bool (nat_eq (r.due - count r.entity - 1) 0)) [
      | inl z ↦
          let l : count r.entity < r.due = leb-false r.due (count r.entity) e in
          let y : r.due - count r.entity - 1 ≡ 0 = eqb-true (r.due - count r.entity - 1) 0 z in
          let d : nat_eq p.id r.entity ≡ false = elsewhere r w l y in
          let push = place_push xs p order r.entity in
          rw (z, push, d) refl
      | inr z ↦ rw z refl
    ])
  ]
    where
      elsewhere : (r : Row) → waits_for p.id due (Some r) ≡ false → count r.entity < r.due → r.due - count r.entity - 1 ≡ 0 → nat_eq p.id r.entity ≡ false
      elsewhere r w l y = elim (cases_Bool (nat_eq p.id r.entity)) [
        | inl e ↦
            let s : p.id ≡ r.entity = eqb-true p.id r.entity e in
            let c : count p.id ≡ count r.entity = ap count s in
            let a : nat_eq r.entity p.id ≡ true = eq-eqb r.entity p.id (sym s) in
            let b : nat_eq r.due due ≡ true = eq-eqb r.due due (omega (arith, c)) in
            let both : waits_for p.id due (Some r) ≡ true = and_from (nat_eq r.entity p.id) (nat_eq r.due due) a b in
            absurd (let x : true ≡ false = sym both ∙ w in cc)
        | inr e ↦ e
      ]

  gathered : (n : ℕ) → collected rows p due 0 n (visit_in visits n) ≡ visit_due (xs ++ p ∷ []) n (pending_by count rows n)
  gathered zero = gathering.each zero
  gathered (suc k) =
      let z : nat_le 0 k ≡ true = le-leb 0 k (omega arith) in
      elim (cases_Bool (waits_for p.id due (slice_get rows k))) [
        | inl w ↦
            let a : pending_row count (slice_get rows k) ≡ Some (record { entity = p.id; rest = 1 }) = due_pending k w in
            let push = place_push xs p order p.id in
            let self = nat_self p.id in
            rw (z, w, a, push, self) refl
        | inr w ↦ rw (z, w) (gathering.each (suc k) ∙ other k (slice_get rows k) w)
      ]

  pub gathering_goes_on : (now : List Visit) → IsDistinct same_number now → ((n : ℕ) → visit_in now n ≡ collected rows p due 0 n (visit_in visits n)) → IsGathering count rows (xs ++ p ∷ []) now
  gathering_goes_on now distinct each = record { distinct = distinct; each = λ n. each n ∙ gathered n }

-- the next entity of a list in order
module _ (count : ℕ → ℕ) (rows : List Row) (here : List EntityAt) (i : ℕ) (x : EntityAt) (order : IsStrictlySortedBy by_id here) (low : i < length here) (is : x ≡ get_or here i x) (visits : List Visit)
    (gathering : IsGathering count rows (take i here) visits) where
  pub next_apart : (k : ℕ) → waits_for x.id (count x.id + 1) (slice_get rows k) ≡ true → IsNone (visit_in visits (suc k))
  next_apart k w = let e = apart count rows (take i here) x (next_in_order here i x order low is).1 visits gathering k w in rw e refl

  pub next_gathered : (now : List Visit) → IsDistinct same_number now → ((n : ℕ) → visit_in now n ≡ collected rows x (count x.id + 1) 0 n (visit_in visits n)) → IsGathering count rows (take (i + 1) here) now
  next_gathered now distinct each =
      let next = next_in_order here i x order low is in
      let P : List EntityAt → Type 0 = λ xs. IsGathering count rows xs now in
      subst P (sym next.0) (gathering_goes_on count rows (take i here) x next.1 visits gathering now distinct each)

-- in order of number they are the visits that are due
pub in_order : (count : ℕ → ℕ) (rows : List Row) (here : List EntityAt) (visits sorted : List Visit) → IsGathering count rows here visits → IsPermutation visits sorted → IsStrictlySortedBy by_number sorted → AreVisits (pending_by count rows) here sorted
in_order count rows here visits sorted gathering moved order = record {
  order = order;
  each = λ n. find_permuted nat_eq eqb-true nat_self (λ (v : Visit). v.number) visits sorted gathering.distinct moved n ∙ gathering.each n;
}
