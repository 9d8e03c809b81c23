-- A thing is laid into a spot.
use Rattle.std.proofs.Common.{◌≡◌, ◌≢◌, ℕ, ◌<◌, false, List, length, refl, sym, ◌∙◌, ap, subst, ◌⊎◌, inl, inr, arith, Some, None}
use Rattle.std.specs.Prelude.{nat_eq, if◌then◌else◌}
use Rattle.std.proofs.lemmas.Bool.{cases_Bool, cases_eq, eqb-true}
use Rattle.fol_model.specs.declared.places.ChunkPos.{ChunkPos}
use Rattle.fol_queues.proofs.Numbers.{nat_self}
use Rattle.fol_data.specs.declared.region_data.RegionData.{RegionData}
use Rattle.fol_store.specs.Bag.{Bag}
use Rattle.fol_store.specs.Laid.{AllClosed}
use Rattle.fol_bags.specs.Things.{Key, Thing, things, chunk_at, IsTimely}
use Rattle.fol_store.specs.Stock.{Stock, Where, arriving, in_spot, in_bag, slot, spot, place, column, found, bag_of, shown}
use Rattle.fol_store.specs.Sound.{Allows, IsSound}
use Rattle.fol_store.proofs.Totals.{IsUnique, found_of, found_none, found_columns}
use Rattle.fol_store.proofs.BagSteps.{closed_bag, bag_slot}

module _ (s : Stock) (spots : List RegionData) (i : ℕ) (c : ChunkPos) (r : RegionData) where
  abbrev t : Stock
  t = record s { spots = spots }

  -- a thing that nothing was known of, on the chunk
  pub record New (k : Key) (x : Thing k) : Type 0 where
    pub chunk : chunk_at k x ≡ c
    pub none : found s k ≡ None

  pub record Lays : Type 0 where
    pub each : (n : ℕ) → spot t n ≡ (if nat_eq i n then r else spot s n)
    pub back : (k : Key) (x : Thing k) → things r k ≡ Some x → (things (spot s i) k ≡ Some x) ⊎ New k x
    pub at : (place s c).spot ≡ Some i
    pub long : length spots ≡ length s.spots
    pub timely : IsTimely r
    pub closed : AllClosed s

  module _ (d : Lays) (h : IsSound s) where
    spot_here : spot t i ≡ r
    spot_here = d.each i ∙ rw (nat_self i) refl

    spot_other : (n : ℕ) → i ≢ n → spot t n ≡ spot s n
    spot_other n f = d.each n ∙ elim (cases_Bool (nat_eq i n)) [ inl q ↦ absurd (f (eqb-true i n q)) | inr q ↦ rw q refl ]

    record Came (k : Key) (w : Where) (x : Thing k) : Type 0 where
      pub there : w ≡ in_spot i
      pub new : New k x

    before : (k : Key) (w : Where) (x : Thing k) → column t k w ≡ Some x → (column s k w ≡ Some x) ⊎ Came k w x
    before k arriving x q = inl q
    before k (in_bag n) x q = inl q
    before k (in_spot n) x q =
        elim (cases_eq i n) [
          | inl e ↦
              let P : ℕ → Type 0 = λ m. column t k (in_spot m) ≡ Some x in
              let p : column t k (in_spot i) ≡ Some x = subst P (sym e) q in
              elim (d.back k x (sym (ap (λ (v : RegionData). things v k) spot_here) ∙ p)) [
                | inl a ↦ let Q : ℕ → Type 0 = λ m. column s k (in_spot m) ≡ Some x in inl (subst Q e a)
                | inr a ↦ inr (record { there = ap (λ m. in_spot m) (sym e); new = a })
              ]
          | inr f ↦ inl (sym (ap (λ (v : RegionData). things v k) (spot_other n f)) ∙ q)
        ]

    never : {P : Type 0} (k : Key) (w : Where) (x : Thing k) → found s k ≡ None → column s k w ≡ Some x → P
    never k w x n q = let z : None ≡ Some x = sym (found_none s k n w) ∙ q in absurd (let f : ⊥ = cc in f)

    laid_unique : IsUnique t
    laid_unique k v w x y q g =
        elim (before k v x q) [
          | inl a ↦ elim (before k w y g) [ inl b ↦ h.unique k v w x y a b | inr b ↦ never k v x b.new.none a ]
          | inr a ↦ elim (before k w y g) [ inl b ↦ never k w y a.new.none b | inr b ↦ a.there ∙ sym b.there ]
        ]

    shut : (u : ℕ) → shown (slot s u) ≡ bag_of s u
    shut u = sym (bag_slot s u)

    pub laid_sound : IsSound t
    laid_sound = record {
      unique = laid_unique;
      lies = λ k w x q. elim (before k w x q) [
        | inl a ↦ h.lies k w x a
        | inr a ↦ let P : Where → Type 0 = λ m. Allows (place s (chunk_at k x)) m in subst P (sym a.there) (ap (λ z. (place s z).spot) a.new.chunk ∙ d.at)
      ];
      spot_range = λ q n e. let l : n < length s.spots = h.spot_range q n e in let g : length spots ≡ length s.spots = d.long in omega arith;
      bag_range = h.bag_range;
      bags = λ u.
          let taken : (slot s u).taken ≡ false = ap (λ (b : Bag). b.taken) (shut u ∙ d.closed.bags u) in
          closed_bag t u (slot s u) (ap (λ (b : Bag). b.here) (shut u ∙ d.closed.bags u)) taken (ap (λ (b : Bag). b.listed) (shut u ∙ d.closed.bags u)) ((h.bags u).list taken);
      spot_times = λ n. elim (cases_eq i n) [
        | inl q ↦ let P : ℕ → Type 0 = λ m. IsTimely (spot t m) in subst P q (subst IsTimely (sym spot_here) d.timely)
        | inr f ↦ subst IsTimely (sym (spot_other n f)) (h.spot_times n)
      ];
      bag_times = h.bag_times;
      arrival_times = h.arrival_times;
      arrivals_differ = h.arrivals_differ;
    }

    pub laid_here : (k : Key) (x : Thing k) → things r k ≡ Some x → found t k ≡ Some x
    laid_here k x q = found_of t laid_unique k (in_spot i) x (ap (λ (v : RegionData). things v k) spot_here ∙ q)

    pub laid_other : (k : Key) → things r k ≡ things (spot s i) k → found t k ≡ found s k
    laid_other k e = found_columns s t h.unique laid_unique k columns
      where
        columns : (w : Where) → column t k w ≡ column s k w
        columns arriving = refl
        columns (in_bag n) = refl
        columns (in_spot n) = elim (cases_eq i n) [
          | inl q ↦ let P : ℕ → Type 0 = λ m. things (spot t m) k ≡ things (spot s m) k in subst P q (ap (λ (v : RegionData). things v k) spot_here ∙ e)
          | inr f ↦ ap (λ (v : RegionData). things v k) (spot_other n f)
        ]
