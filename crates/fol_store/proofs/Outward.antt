-- What lies on a chunk goes from the bag that has the chunk into its spot.
use Rattle.std.proofs.Common.{◌≡◌, ◌≢◌, ℕ, true, false, [], ◌∷◌, refl, sym, ◌∙◌, ap, inl, inr, Some, None}
use Rattle.std.specs.Prelude.{if◌then◌else◌}
use Rattle.std.proofs.lemmas.Bool.{cases_Bool}
use Rattle.fol_model.specs.declared.places.ChunkPos.{ChunkPos}
use Rattle.fol_model.specs.Geometry.{same_chunk}
use Rattle.fol_chunks.specs.Contents.{is_recorded}
use Rattle.fol_keyed.proofs.Places.{same_chunk-true}
use Rattle.fol_data.specs.declared.region_data.RegionData.{RegionData}
use Rattle.fol_bags.specs.declared.places.Place.{Place}
use Rattle.fol_bags.specs.Moves.{Loses, Gains}
use Rattle.fol_bags.specs.Things.{Key, Thing, things, chunk_at}
use Rattle.fol_store.specs.Stock.{Stock, Where, arriving, in_spot, in_bag, slot, spot, place, column}
use Rattle.fol_store.specs.Sound.{Allows, IsSound}
use Rattle.fol_store.proofs.Columns.{Moves}
use Rattle.fol_store.proofs.Totals.{where_cases}
use Rattle.fol_keyed.proofs.Recorded.{single-is, single-self}

-- a chunk is no longer one of the bag
pub record Unnamed (s t : Stock) (id : ℕ) (c : ChunkPos) : Type 0 where
  pub homes : (q : ChunkPos) → place t q ≡ (if same_chunk c q then (record (place s c) { bag = None }) else place s q)
  pub at_bag : (place s c).bag ≡ Some id

module _ (s t : Stock) (id : ℕ) (c : ChunkPos) (u : Unnamed s t id c) where
  pub home_spot : (q : ChunkPos) → (place t q).spot ≡ (place s q).spot
  home_spot q = elim (cases_Bool (same_chunk c q)) [
    | inl e ↦ ap (λ (p : Place). p.spot) (u.homes q) ∙ rw e (ap (λ z. (place s z).spot) (same_chunk-true c q e))
    | inr e ↦ ap (λ (p : Place). p.spot) (u.homes q) ∙ rw e refl
  ]

  pub home_bag : (q : ChunkPos) (n : ℕ) → (place s q).bag ≡ Some n → (n ≡ id → same_chunk c q ≡ false) → (place t q).bag ≡ Some n
  home_bag q n e f = elim (cases_Bool (same_chunk c q)) [
    | inl z ↦
        let g : Some n ≡ Some id = sym e ∙ ap (λ y. (place s y).bag) (sym (same_chunk-true c q z)) ∙ u.at_bag in
        let m : n ≡ id = cc in
        let y : true ≡ false = sym z ∙ f m in cc
    | inr z ↦ ap (λ (p : Place). p.bag) (u.homes q) ∙ rw z e
  ]

  pub home_before : (q : ChunkPos) (n : ℕ) → (place t q).bag ≡ Some n → (place s q).bag ≡ Some n
  home_before q n e = elim (cases_Bool (same_chunk c q)) [
    | inl z ↦ let f : None ≡ Some n = sym (ap (λ (p : Place). p.bag) (u.homes q) ∙ rw z refl) ∙ e in cc
    | inr z ↦ sym (ap (λ (p : Place). p.bag) (u.homes q) ∙ rw z refl) ∙ e
  ]

  -- no bag has the chunk afterwards
  pub home_gone : (q : ChunkPos) (n : ℕ) → (place t q).bag ≡ Some n → same_chunk c q ≡ false
  home_gone q n e = elim (cases_Bool (same_chunk c q)) [
    | inl z ↦ let f : None ≡ Some n = sym (ap (λ (p : Place). p.bag) (u.homes q) ∙ rw z refl) ∙ e in cc
    | inr z ↦ z
  ]

module _ (s t : Stock) (i id : ℕ) (c : ChunkPos) (in_it out_of_it : RegionData) where
  pub record Outward : Type 0 where
    pub unnamed : Unnamed s t id c
    pub at_spot : (place s c).spot ≡ Some i
    pub left : (k : Key) → column t k (in_bag id) ≡ things in_it k
    pub came : (k : Key) → column t k (in_spot i) ≡ things out_of_it k
    pub rest : (k : Key) (w : Where) → w ≢ in_bag id → w ≢ in_spot i → column t k w ≡ column s k w
    pub loses : Loses (c ∷ []) (slot s id).body in_it
    pub gains : Gains (c ∷ []) (slot s id).body (spot s i) out_of_it

  module _ (o : Outward) (h : IsSound s) where
    pub apart_out : in_bag id ≢ in_spot i
    apart_out e = cc

    pub moves_out : (k : Key) → Moves where_cases (column s k) (column t k) (in_bag id) (in_spot i) (λ x. is_recorded (c ∷ []) (chunk_at k x))
    moves_out k = record { left = o.left k ∙ o.loses.things k; come = o.came k ∙ o.gains.things k; rest = o.rest k }

    pub comes_out : (k : Key) (x : Thing k) → column s k (in_bag id) ≡ Some x → is_recorded (c ∷ []) (chunk_at k x) ≡ true → Allows (place t (chunk_at k x)) (in_spot i)
    comes_out k x q r = home_spot s t id c o.unnamed (chunk_at k x) ∙ ap (λ z. (place s z).spot) (single-is c (chunk_at k x) r) ∙ o.at_spot

    pub stays_out : (k : Key) (w : Where) (x : Thing k) → column s k w ≡ Some x → (w ≡ in_bag id → is_recorded (c ∷ []) (chunk_at k x) ≡ false) → Allows (place t (chunk_at k x)) w
    stays_out k arriving x q f = tt
    stays_out k (in_spot n) x q f = home_spot s t id c o.unnamed (chunk_at k x) ∙ h.lies k (in_spot n) x q
    stays_out k (in_bag n) x q f = home_bag s t id c o.unnamed (chunk_at k x) n (h.lies k (in_bag n) x q) (λ e. not_same (f (ap (λ m. in_bag m) e)))
      where
        not_same : is_recorded (c ∷ []) (chunk_at k x) ≡ false → same_chunk c (chunk_at k x) ≡ false
        not_same e = elim (cases_Bool (same_chunk c (chunk_at k x))) [
          | inl z ↦ let y : true ≡ false = sym (single-self c (chunk_at k x) (same_chunk-true c (chunk_at k x) z)) ∙ e in cc
          | inr z ↦ z
        ]
