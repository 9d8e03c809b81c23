-- A block or an entity is laid into a spot.
use Rattle.std.proofs.Common.{◌≡◌, ◌≢◌, ℕ, zero, suc, ◌<◌, ◌≤◌, Bool, true, false, ◌&&◌, List, [], ◌∷◌, length, get_or, take, map, refl, sym, ◌∙◌, ap, ◌⊎◌, inl, inr, arith, Option, Some, None}
use Rattle.std.specs.Prelude.{nat_eq, nat_lt, nat_le, if◌then◌else◌}
use Rattle.std.specs.List.{list_all, AllByRecursion}
use Rattle.std.specs.List.Sorted.{IsStrictlySortedBy}
use Rattle.std.specs.Ordering.{nat_cmp, ordering_reverse}
use Rattle.std.specs.declared.cmp.Ordering.TheVariants.{Less, Greater}
use Rattle.std.proofs.lemmas.Bool.{cases_Bool, eqb-true, ltb-true, ne_eqb}
use Rattle.fol_model.specs.declared.places.BlockPos.{BlockPos}
use Rattle.fol_model.specs.declared.places.ChunkPos.{ChunkPos}
use Rattle.fol_model.specs.declared.openings.BlockAt.{BlockAt}
use Rattle.fol_model.specs.declared.entities.Entity.{Entity}
use Rattle.fol_model.specs.Geometry.{chunk_of, same_block, is_block}
use Rattle.fol_model.specs.Universe.{block_cmp}
use Rattle.fol_model.specs.World.{block_in, standing_in}
use Rattle.fol_model.specs.OpeningParts.{is_block_at}
use Rattle.fol_model.specs.ActionStep.{Flat, Standing, standing_of}
use Rattle.fol_keyed.proofs.Places.{same_block-true, block_cmp_total}
use Rattle.std.proofs.lemmas.Cmp.{nat_cmp_total}
use Rattle.fol_data.specs.declared.region_data.RegionData.{RegionData}
use Rattle.fol_store.specs.Laid.{AllClosed}
use Rattle.fol_bags.specs.Moves.{LaysBlock, LaysEntity}
use Rattle.fol_bags.specs.Things.{Key, of_block, of_entity, of_task, Thing, things, some_number, IsTimely}
use Rattle.fol_store.specs.Stock.{Stock, spot, place, found}
use Rattle.fol_store.specs.Sound.{IsSound}
use Rattle.fol_store.proofs.Laying.{New, Lays, laid_sound, laid_here, laid_other}

pub some_above : (n : ℕ) → 0 < n → some_number n ≡ Some n
some_above n l = elim (cases_Bool (nat_eq n 0)) [ inl e ↦ let z : n ≡ 0 = eqb-true n 0 e in absurd (omega arith) | inr e ↦ rw e refl ]

module _ (s : Stock) (spots : List RegionData) (i : ℕ) (r : RegionData) where
  abbrev t : Stock
  t = record s { spots = spots }

  -- the spot of the chunk, and all bags closed
  pub record InSpot (c : ChunkPos) : Type 0 where
    pub each : (n : ℕ) → spot t n ≡ (if nat_eq i n then r else spot s n)
    pub at : (place s c).spot ≡ Some i
    pub long : length spots ≡ length s.spots
    pub timely : IsTimely r
    pub closed : AllClosed s

  pub record BlockLaid (at : BlockPos) (id : ℕ) : Type 0 where
    pub sound : IsSound t
    pub blocks : (q : BlockPos) → found t (of_block q) ≡ (if same_block at q then some_number id else found s (of_block q))
    pub entities : (n : ℕ) → found t (of_entity n) ≡ found s (of_entity n)
    pub tasks : (n : ℕ) → found t (of_task n) ≡ found s (of_task n)

  pub block_laid : (at : BlockPos) (id : ℕ) → InSpot (chunk_of at) → LaysBlock at id (spot s i) r → found s (of_block at) ≡ None → 0 < id → IsSound s → BlockLaid at id
  block_laid at id p l fresh above h =
      let d : Lays s spots i (chunk_of at) r = record { each = p.each; back = back; at = p.at; long = p.long; timely = p.timely; closed = p.closed } in
      record {
        sound = laid_sound s spots i (chunk_of at) r d h;
        blocks = λ q. elim (cases_Bool (same_block at q)) [
          | inl e ↦ rw e (laid_here s spots i (chunk_of at) r d h (of_block q) id (number_there q e ∙ some_above id above) ∙ sym (some_above id above))
          | inr e ↦ rw e (laid_other s spots i (chunk_of at) r d h (of_block q) (number_other q e))
        ];
        entities = λ n. laid_other s spots i (chunk_of at) r d h (of_entity n) (ap (λ (f : Flat). f.standing n) l.contents);
        tasks = λ n. laid_other s spots i (chunk_of at) r d h (of_task n) (l.tasks n);
      }
    where
      number_there : (q : BlockPos) → same_block at q ≡ true → things r (of_block q) ≡ some_number id
      number_there q e = ap (λ (f : Flat). some_number (f.blocks q)) l.contents ∙ rw e refl

      number_other : (q : BlockPos) → same_block at q ≡ false → things r (of_block q) ≡ things (spot s i) (of_block q)
      number_other q e = ap (λ (f : Flat). some_number (f.blocks q)) l.contents ∙ rw e refl

      back : (k : Key) (x : Thing k) → things r k ≡ Some x → (things (spot s i) k ≡ Some x) ⊎ New s spots i (chunk_of at) r k x
      back (of_block q) x e =
          elim (cases_Bool (same_block at q)) [
            | inl z ↦ let m : at ≡ q = same_block-true at q z in inr (record { chunk = ap chunk_of (sym m); none = ap (λ b. found s (of_block b)) (sym m) ∙ fresh })
            | inr z ↦ inl (sym (number_other q z) ∙ e)
          ]
      back (of_entity n) x e = inl (sym (ap (λ (f : Flat). f.standing n) l.contents) ∙ e)
      back (of_task n) x e = inl (sym (l.tasks n) ∙ e)

  pub record EntityLaid (y : Entity) : Type 0 where
    pub sound : IsSound t
    pub entities : (n : ℕ) → found t (of_entity n) ≡ (if nat_eq y.id n then Some (standing_of y) else found s (of_entity n))
    pub blocks : (q : BlockPos) → found t (of_block q) ≡ found s (of_block q)
    pub tasks : (n : ℕ) → found t (of_task n) ≡ found s (of_task n)

  pub entity_laid : (y : Entity) → InSpot (chunk_of y.at) → LaysEntity y (spot s i) r → found s (of_entity y.id) ≡ None → IsSound s → EntityLaid y
  entity_laid y p l fresh h =
      let d : Lays s spots i (chunk_of y.at) r = record { each = p.each; back = back; at = p.at; long = p.long; timely = p.timely; closed = p.closed } in
      record {
        sound = laid_sound s spots i (chunk_of y.at) r d h;
        entities = λ n. elim (cases_Bool (nat_eq y.id n)) [
          | inl e ↦ rw e (laid_here s spots i (chunk_of y.at) r d h (of_entity n) (standing_of y) (there n e))
          | inr e ↦ rw e (laid_other s spots i (chunk_of y.at) r d h (of_entity n) (other n e))
        ];
        blocks = λ q. laid_other s spots i (chunk_of y.at) r d h (of_block q) (ap (λ (f : Flat). some_number (f.blocks q)) l.contents);
        tasks = λ n. laid_other s spots i (chunk_of y.at) r d h (of_task n) (l.tasks n);
      }
    where
      there : (n : ℕ) → nat_eq y.id n ≡ true → things r (of_entity n) ≡ Some (standing_of y)
      there n e = ap (λ (f : Flat). f.standing n) l.contents ∙ rw e refl

      other : (n : ℕ) → nat_eq y.id n ≡ false → things r (of_entity n) ≡ things (spot s i) (of_entity n)
      other n e = ap (λ (f : Flat). f.standing n) l.contents ∙ rw e refl

      back : (k : Key) (x : Thing k) → things r k ≡ Some x → (things (spot s i) k ≡ Some x) ⊎ New s spots i (chunk_of y.at) r k x
      back (of_block q) x e = inl (sym (ap (λ (f : Flat). some_number (f.blocks q)) l.contents) ∙ e)
      back (of_entity n) x e =
          elim (cases_Bool (nat_eq y.id n)) [
            | inl z ↦
                let m : y.id ≡ n = eqb-true y.id n z in
                let f : Some (standing_of y) ≡ Some x = sym (there n z) ∙ e in
                let g : standing_of y ≡ x = cc in
                inr (record { chunk = ap (λ (v : Standing). chunk_of v.at) (sym g); none = ap (λ v. found s (of_entity v)) (sym m) ∙ fresh })
            | inr z ↦ inl (sym (other n z) ∙ e)
          ]
      back (of_task n) x e = inl (sym (l.tasks n) ∙ e)

-- what holds of all holds of one
at_index : {X Y : Type 0} (P : Y → Type 0) (f : X → Y) (xs : List X) (k : ℕ) (d : X) → AllByRecursion P (map f xs) → k < length xs → P (f (get_or xs k d))
at_index P f [] k d h l = absurd (omega arith)
at_index P f (x ∷ xs) zero d h l = h.0
at_index P f (x ∷ xs) (suc k) d h l = at_index P f xs k d h.1 (omega arith)

pub take_all : {X : Type 0} (xs : List X) (k : ℕ) → length xs ≤ k → take k xs ≡ xs
take_all [] zero l = refl
take_all [] (suc k) l = refl
take_all (x ∷ xs) zero l = absurd (omega arith)
take_all (x ∷ xs) (suc k) l = ap (λ ys. x ∷ ys) (take_all xs k (omega arith))

-- a place is not before itself
not_before : {P : Type 0} (b : BlockPos) → block_cmp b b ≡ Less → P
not_before b l = absurd (let z : Less ≡ Greater = sym l ∙ block_cmp_total.antisymm b b ∙ ap ordering_reverse l in let f : ⊥ = cc in f)

-- no block stands twice in a list in order
block_later : (x : BlockAt) (xs : List BlockAt) (k : ℕ) (d : BlockAt) → AllByRecursion (λ y. block_cmp x.at y ≡ Less) (map (λ (z : BlockAt). z.at) xs) → k < length xs → same_block x.at (get_or xs k d).at ≡ false
block_later x xs k d h l = elim (cases_Bool (same_block x.at (get_or xs k d).at)) [
  | inl e ↦
      let m : x.at ≡ (get_or xs k d).at = same_block-true x.at (get_or xs k d).at e in
      let b : block_cmp x.at (get_or xs k d).at ≡ Less = at_index (λ y. block_cmp x.at y ≡ Less) (λ (z : BlockAt). z.at) xs k d h l in
      not_before x.at (ap (block_cmp x.at) m ∙ b)
  | inr e ↦ e
]

pub block_fresh : (xs : List BlockAt) (k : ℕ) (d : BlockAt) → IsStrictlySortedBy block_cmp (map (λ (x : BlockAt). x.at) xs) → k < length xs → block_in (take k xs) (get_or xs k d).at ≡ 0
unfolding IsStrictlySortedBy
block_fresh [] k d h l = absurd (omega arith)
block_fresh (x ∷ xs) zero d h l = refl
block_fresh (x ∷ xs) (suc k) d h l = let n : same_block x.at (get_or xs k d).at ≡ false = block_later x xs k d h.0 (omega arith) in rw n (block_fresh xs k d h.1 (omega arith))

block_push : (xs : List BlockAt) (k : ℕ) (d : BlockAt) (q : BlockPos) → IsStrictlySortedBy block_cmp (map (λ (x : BlockAt). x.at) xs) → k < length xs
    → block_in (take (suc k) xs) q ≡ (if same_block (get_or xs k d).at q then (get_or xs k d).id else block_in (take k xs) q)
unfolding IsStrictlySortedBy
block_push [] k d q h l = absurd (omega arith)
block_push (x ∷ xs) zero d q h l = refl
block_push (x ∷ xs) (suc k) d q h l = elim (cases_Bool (same_block x.at q)) [
  | inl e ↦
      let m : x.at ≡ q = same_block-true x.at q e in
      let n : same_block (get_or xs k d).at q ≡ false = other (cases_Bool (same_block (get_or xs k d).at q)) m in
      rw (e, n) refl
  | inr e ↦ rw e (block_push xs k d q h.1 (omega arith))
]
  where
    other : (same_block (get_or xs k d).at q ≡ true) ⊎ (same_block (get_or xs k d).at q ≡ false) → x.at ≡ q → same_block (get_or xs k d).at q ≡ false
    other (inr f) m = f
    other (inl f) m =
        let b : block_cmp x.at (get_or xs k d).at ≡ Less = at_index (λ y. block_cmp x.at y ≡ Less) (λ (z : BlockAt). z.at) xs k d h.0 (omega arith) in
        not_before x.at (ap (block_cmp x.at) (m ∙ sym (same_block-true (get_or xs k d).at q f)) ∙ b)

-- one block more of a list
pub block_more : (xs : List BlockAt) (k n : ℕ) (d : BlockAt) (q : BlockPos) (o : Option ℕ) → IsStrictlySortedBy block_cmp (map (λ (x : BlockAt). x.at) xs) → k < length xs → n ≡ suc k
    → o ≡ some_number (block_in (take k xs) q) → (if same_block (get_or xs k d).at q then some_number (get_or xs k d).id else o) ≡ some_number (block_in (take n xs) q)
block_more xs k n d q o h l e f =
    let p : block_in (take n xs) q ≡ (if same_block (get_or xs k d).at q then (get_or xs k d).id else block_in (take k xs) q) = ap (λ m. block_in (take m xs) q) e ∙ block_push xs k d q h l in
    elim (cases_Bool (same_block (get_or xs k d).at q)) [
      | inl z ↦ let r : block_in (take n xs) q ≡ (get_or xs k d).id = rw z at p in rw z (ap some_number (sym r))
      | inr z ↦ let r : block_in (take n xs) q ≡ block_in (take k xs) q = rw z at p in rw z (f ∙ ap some_number (sym r))
    ]

-- nor an entity
entity_later : (x : Entity) (xs : List Entity) (k : ℕ) (d : Entity) → AllByRecursion (λ y. nat_cmp x.id y ≡ Less) (map (λ (z : Entity). z.id) xs) → k < length xs → x.id ≢ (get_or xs k d).id
entity_later x xs k d h l m =
    let b : nat_cmp x.id (get_or xs k d).id ≡ Less = at_index (λ y. nat_cmp x.id y ≡ Less) (λ (z : Entity). z.id) xs k d h l in
    let c : nat_cmp x.id x.id ≡ Less = ap (nat_cmp x.id) m ∙ b in
    let z : Less ≡ Greater = sym c ∙ nat_cmp_total.antisymm x.id x.id ∙ ap ordering_reverse c in cc

pub entity_fresh : (xs : List Entity) (k : ℕ) (d : Entity) → IsStrictlySortedBy nat_cmp (map (λ (x : Entity). x.id) xs) → k < length xs → standing_in (take k xs) (get_or xs k d).id ≡ None
unfolding IsStrictlySortedBy
entity_fresh [] k d h l = absurd (omega arith)
entity_fresh (x ∷ xs) zero d h l = refl
entity_fresh (x ∷ xs) (suc k) d h l = let n : nat_eq x.id (get_or xs k d).id ≡ false = ne_eqb x.id (get_or xs k d).id (entity_later x xs k d h.0 (omega arith)) in rw n (entity_fresh xs k d h.1 (omega arith))

entity_push : (xs : List Entity) (k : ℕ) (d : Entity) (q : ℕ) → IsStrictlySortedBy nat_cmp (map (λ (x : Entity). x.id) xs) → k < length xs
    → standing_in (take (suc k) xs) q ≡ (if nat_eq (get_or xs k d).id q then Some (standing_of (get_or xs k d)) else standing_in (take k xs) q)
unfolding IsStrictlySortedBy
entity_push [] k d q h l = absurd (omega arith)
entity_push (x ∷ xs) zero d q h l = refl
entity_push (x ∷ xs) (suc k) d q h l = elim (cases_Bool (nat_eq x.id q)) [
  | inl e ↦
      let n : nat_eq (get_or xs k d).id q ≡ false = ne_eqb (get_or xs k d).id q (λ m. entity_later x xs k d h.0 (omega arith) (eqb-true x.id q e ∙ sym m)) in
      rw (e, n) refl
  | inr e ↦ rw e (entity_push xs k d q h.1 (omega arith))
]

-- one entity more of a list
pub entity_more : (xs : List Entity) (k n : ℕ) (d : Entity) (q : ℕ) (o : Option Standing) → IsStrictlySortedBy nat_cmp (map (λ (x : Entity). x.id) xs) → k < length xs → n ≡ suc k
    → o ≡ standing_in (take k xs) q → (if nat_eq (get_or xs k d).id q then Some (standing_of (get_or xs k d)) else o) ≡ standing_in (take n xs) q
entity_more xs k n d q o h l e f =
    let p : standing_in (take n xs) q ≡ (if nat_eq (get_or xs k d).id q then Some (standing_of (get_or xs k d)) else standing_in (take k xs) q) = ap (λ m. standing_in (take m xs) q) e ∙ entity_push xs k d q h l in
    rw (p, f) refl

-- each block has a number above 0
pub block_above : (xs : List BlockAt) (k : ℕ) (d : BlockAt) → list_all is_block_at xs ≡ true → k < length xs → 0 < (get_or xs k d).id
block_above [] k d h l = absurd (omega arith)
block_above (x ∷ xs) zero d h l = ltb-true 0 x.id (and_first (nat_lt 0 x.id) (nat_le x.id 65535) (and_second (is_block x.at) (nat_lt 0 x.id && nat_le x.id 65535) (and_first (is_block_at x) (list_all is_block_at xs) h)))
  where
    and_first : (a b : Bool) → (a && b) ≡ true → a ≡ true
    and_first true b e = refl
    and_first false b e = e

    and_second : (a b : Bool) → (a && b) ≡ true → b ≡ true
    and_second true b e = e
    and_second false b e = (let z : false ≡ true = e in cc)
block_above (x ∷ xs) (suc k) d h l = block_above xs k d (and_rest (is_block_at x) (list_all is_block_at xs) h) (omega arith)
  where
    and_rest : (a b : Bool) → (a && b) ≡ true → b ≡ true
    and_rest true b e = e
    and_rest false b e = (let z : false ≡ true = e in cc)
