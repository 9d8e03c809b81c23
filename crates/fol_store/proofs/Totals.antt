-- What a store has under a key, from what its parts have.
use Rattle.std.proofs.Common.{◌≡◌, ◌≢◌, ℕ, Bool, true, false, refl, sym, ◌∙◌, ap, ◌⊎◌, inl, inr, Option, Some, None}
use Rattle.std.specs.Prelude.{nat_eq, if◌then◌else◌}
use Rattle.std.specs.Option.{option_or, unwrap_or}
use Rattle.std.proofs.lemmas.Bool.{cases_Bool, cases_eq, eqb-true}
use Rattle.std.proofs.Math.Path.{fun_ext}
use Rattle.fol_queues.specs.Waiting.{option_filter}
use Rattle.fol_chunks.specs.Contents.{flat_of as contents_of}
use Rattle.fol_model.specs.declared.places.BlockPos.{BlockPos}
use Rattle.fol_chunks.proofs.Flats.{flat_is}
use Rattle.fol_bags.specs.declared.slot.Slot.{Slot}
use Rattle.fol_store.specs.Columns.{first}
use Rattle.fol_bags.specs.Things.{Key, of_block, of_entity, of_task, Thing, things, some_number, arrived, no_data}
use Rattle.fol_store.specs.Stock.{Stock, Where, arriving, in_spot, in_bag, slot, spot, column, found, flat_of, jobs_of}
use Rattle.fol_bags.specs.Slots.{no_slot}
use Rattle.fol_store.proofs.Columns.{or_cases_of, or_none_left, or_none_right, first_at, first_none}
use Rattle.fol_bags.proofs.Empty.{things_none}

-- two parts are one or not
pub where_cases : (v w : Where) → (v ≡ w) ⊎ (v ≢ w)
where_cases arriving arriving = inl refl
where_cases arriving (in_spot i) = inr (λ e. cc)
where_cases arriving (in_bag i) = inr (λ e. cc)
where_cases (in_spot i) arriving = inr (λ e. cc)
where_cases (in_spot i) (in_spot j) = elim (cases_eq i j) [ inl e ↦ inl (ap (λ n. in_spot n) e) | inr n ↦ inr (λ e. let f : i ≡ j = cc in n f) ]
where_cases (in_spot i) (in_bag j) = inr (λ e. cc)
where_cases (in_bag i) arriving = inr (λ e. cc)
where_cases (in_bag i) (in_spot j) = inr (λ e. cc)
where_cases (in_bag i) (in_bag j) = elim (cases_eq i j) [ inl e ↦ inl (ap (λ n. in_bag n) e) | inr n ↦ inr (λ e. let f : i ≡ j = cc in n f) ]

pub found_at : (s : Stock) (k : Key) (x : Thing k) → found s k ≡ Some x → (w : Where) × (column s k w ≡ Some x)
unfolding found
found_at s k x h =
    elim (or_cases_of (arrived s.arrivals k) (option_or (first (λ r. things r k) s.spots) (first (λ (b : Slot). things b.body k) s.bags)) x h) [
      | inl e ↦ (arriving, e)
      | inr e ↦
          elim (or_cases_of (first (λ r. things r k) s.spots) (first (λ (b : Slot). things b.body k) s.bags) x e) [
            | inl f ↦ let r = first_at (λ r. things r k) no_data (things_none k) s.spots x f in (in_spot r.0, r.1)
            | inr f ↦ let r = first_at (λ (b : Slot). things b.body k) no_slot (things_none k) s.bags x f in (in_bag r.0, r.1)
          ]
    ]

pub found_none : (s : Stock) (k : Key) → found s k ≡ None → (w : Where) → column s k w ≡ None
unfolding found
found_none s k h arriving = or_none_left (arrived s.arrivals k) (option_or (first (λ r. things r k) s.spots) (first (λ (b : Slot). things b.body k) s.bags)) h
found_none s k h (in_spot i) =
    let e = or_none_right (arrived s.arrivals k) (option_or (first (λ r. things r k) s.spots) (first (λ (b : Slot). things b.body k) s.bags)) h in
    first_none (λ r. things r k) no_data (things_none k) s.spots (or_none_left (first (λ r. things r k) s.spots) (first (λ (b : Slot). things b.body k) s.bags) e) i
found_none s k h (in_bag i) =
    let e = or_none_right (arrived s.arrivals k) (option_or (first (λ r. things r k) s.spots) (first (λ (b : Slot). things b.body k) s.bags)) h in
    first_none (λ (b : Slot). things b.body k) no_slot (things_none k) s.bags (or_none_right (first (λ r. things r k) s.spots) (first (λ (b : Slot). things b.body k) s.bags) e) i

-- no thing lies in two parts
abbrev pub IsUnique : Stock → Type 0
IsUnique s = (k : Key) (v w : Where) (x y : Thing k) → column s k v ≡ Some x → column s k w ≡ Some y → v ≡ w

pub found_of : (s : Stock) → IsUnique s → (k : Key) (w : Where) (x : Thing k) → column s k w ≡ Some x → found s k ≡ Some x
found_of s one k w x h = go (found s k) refl
  where
    go : (o : Option (Thing k)) → found s k ≡ o → o ≡ Some x
    go None e = let n : column s k w ≡ None = found_none s k e w in let z : None ≡ Some x = sym n ∙ h in cc
    go (Some y) e =
        let r = found_at s k y e in
        let same : r.0 ≡ w = one k r.0 w y x r.1 h in
        sym r.1 ∙ ap (column s k) same ∙ h

-- the same things lie somewhere
pub found_from : (s t : Stock) → IsUnique s → IsUnique t → (k : Key) → ((w : Where) (x : Thing k) → column s k w ≡ Some x → (v : Where) × (column t k v ≡ Some x)) → ((w : Where) (x : Thing k) → column t k w ≡ Some x → (v : Where) × (column s k v ≡ Some x)) → found t k ≡ found s k
found_from s t one two k forth back = go (found t k) (found s k) refl refl
  where
    go : (o r : Option (Thing k)) → found t k ≡ o → found s k ≡ r → o ≡ r
    go None None e f = refl
    go None (Some y) e f =
        let a = found_at s k y f in
        let b = forth a.0 y a.1 in
        let n : column t k b.0 ≡ None = found_none t k e b.0 in
        let z : None ≡ Some y = sym n ∙ b.1 in cc
    go (Some x) r e f =
        let a = found_at t k x e in
        let b = back a.0 x a.1 in
        sym (sym f ∙ found_of s one k b.0 x b.1)

-- one view, one flat world and one map of tasks
pub same_flat : (s t : Stock) → ((k : Key) → found t k ≡ found s k) → flat_of t ≡ flat_of s
unfolding flat_of
same_flat s t h = flat_is (flat_of t) (flat_of s) (fun_ext (λ b. ap (λ o. unwrap_or o 0) (h (of_block b)))) (fun_ext (λ id. h (of_entity id)))

pub same_jobs : (s t : Stock) → ((k : Key) → found t k ≡ found s k) → jobs_of t ≡ jobs_of s
unfolding jobs_of
same_jobs s t h = fun_ext (λ n. h (of_task n))

pub same_flat_at : (s t : Stock) → ((b : BlockPos) → found t (of_block b) ≡ found s (of_block b)) → ((id : ℕ) → found t (of_entity id) ≡ found s (of_entity id)) → flat_of t ≡ flat_of s
unfolding flat_of
same_flat_at s t h g = flat_is (flat_of t) (flat_of s) (fun_ext (λ b. ap (λ o. unwrap_or o 0) (h b))) (fun_ext (λ id. g id))

-- a key under which no part changes
pub found_columns : (s t : Stock) → IsUnique s → IsUnique t → (k : Key) → ((w : Where) → column t k w ≡ column s k w) → found t k ≡ found s k
found_columns s t one two k e = found_from s t one two k (λ w x h. (w, e w ∙ h)) (λ w x h. (w, sym (e w) ∙ h))

-- a block that is found has a number above 0
pub found_number : (s : Stock) (b : BlockPos) (m : ℕ) → found s (of_block b) ≡ Some m → nat_eq m 0 ≡ false
found_number s b m h = let r = found_at s (of_block b) m h in at_part r.0 r.1
  where
    number_above : (n : ℕ) → some_number n ≡ Some m → nat_eq m 0 ≡ false
    number_above n e =
        elim (cases_Bool (nat_eq n 0)) [
          | inl z ↦ let f : None ≡ Some m = rw z at e in cc
          | inr z ↦ let f : Some n ≡ Some m = rw z at e in let g : n ≡ m = cc in ap (λ q. nat_eq q 0) (sym g) ∙ z
        ]

    at_part : (w : Where) → column s (of_block b) w ≡ Some m → nat_eq m 0 ≡ false
    at_part arriving e = cc
    at_part (in_spot i) e = number_above ((contents_of (spot s i).chunks).blocks b) e
    at_part (in_bag id) e = number_above ((contents_of (slot s id).body.chunks).blocks b) e

pub number_is : (n : ℕ) → unwrap_or (some_number n) 0 ≡ n
number_is n = elim (cases_Bool (nat_eq n 0)) [ inl z ↦ rw z (sym (eqb-true n 0 z)) | inr z ↦ rw z refl ]

pub unwrap_filter : (r : Bool) (o : Option ℕ) → unwrap_or (option_filter (λ (n : ℕ). r) o) 0 ≡ (if r then unwrap_or o 0 else 0)
unwrap_filter true None = refl
unwrap_filter false None = refl
unwrap_filter true (Some n) = refl
unwrap_filter false (Some n) = refl
