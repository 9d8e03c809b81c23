-- A bag that comes back.
use Rattle.std.proofs.Common.{◌≡◌, ◌≢◌, ℕ, ◌<◌, Bool, true, false, ◌||◌, List, length, refl, sym, ◌∙◌, ap, subst, ◌⊎◌, inl, inr, arith, Option, Some, None}
use Rattle.std.specs.Prelude.{nat_eq, if◌then◌else◌, IsTrue}
use Rattle.std.specs.Option.{unwrap_or, option_or, is_none, ForSome}
use Rattle.std.proofs.lemmas.Bool.{cases_Bool, cases_eq}
use Rattle.std.proofs.Math.Path.{fun_ext}
use Rattle.fol_model.specs.declared.places.ChunkPos.{ChunkPos}
use Rattle.fol_model.specs.ActionStep.{Flat, Standing}
use Rattle.fol_model.specs.Geometry.{chunk_of}
use Rattle.fol_model.specs.Job.{Job}
use Rattle.fol_chunks.specs.Contents.{is_recorded, within, joined, Apart, flat_of as contents_of}
use Rattle.fol_chunks.proofs.Flats.{flat_is}
use Rattle.fol_data.specs.Rests.{rests_of}
use Rattle.fol_data.specs.declared.region_data.RegionData.{RegionData}
use Rattle.fol_bags.specs.declared.slot.Slot.{Slot}
use Rattle.fol_bags.specs.Things.{Key, of_block, of_entity, of_task, Thing, things, some_number, chunk_at, IsTimely}
use Rattle.fol_store.specs.Stock.{Stock, Where, arriving, in_spot, in_bag, slot, place, column, found, flat_of, jobs_of}
use Rattle.fol_store.specs.Sound.{Allows, Near, IsBag, IsSound}
use Rattle.fol_store.proofs.Columns.{filter_some}
use Rattle.fol_store.proofs.Totals.{where_cases, IsUnique, found_of, found_at, found_none, found_number, number_is}
use Rattle.fol_store.proofs.Resound.{kept_bag, kept_self}
use Rattle.fol_store.proofs.BagSteps.{with_bags, slot_here, slot_other}

-- a number above 0 is seen as itself
some_number-above : (n m : ℕ) → some_number n ≡ Some m → nat_eq n 0 ≡ false
some_number-above n m h = elim (cases_Bool (nat_eq n 0)) [ inl z ↦ let f : None ≡ Some m = rw z at h in cc | inr z ↦ z ]

-- what lies in chunks that pass alone lies there
pub there : (r : ChunkPos → Bool) (body : RegionData) → contents_of body.chunks ≡ within r (contents_of body.chunks) → ((n : ℕ) → ForSome (rests_of body n) (λ (j : Job). r j.chunk ≡ true))
    → (k : Key) (x : Thing k) → things body k ≡ Some x → r (chunk_at k x) ≡ true
there r body f g (of_block b) x q =
    elim (cases_Bool (r (chunk_of b))) [
      | inl z ↦ z
      | inr z ↦
          let gone : (contents_of body.chunks).blocks b ≡ 0 = ap (λ (w : Flat). w.blocks b) f ∙ rw z refl in
          let none : None ≡ Some x = rw gone at q in cc
    ]
there r body f g (of_entity id) x q = (filter_some (λ (s : Standing). r (chunk_of s.at)) ((contents_of body.chunks).standing id) x (sym (ap (λ (w : Flat). w.standing id) f) ∙ q)).1
there r body f g (of_task n) x q = g n x q

-- nothing that is found lies in data that has nothing in common with the store
pub apart_found : (s : Stock) (body : RegionData) → Apart (flat_of s) (contents_of body.chunks) → ((n : ℕ) → IsTrue (is_none (jobs_of s n) || is_none (rests_of body n)))
    → (k : Key) (x y : Thing k) → things body k ≡ Some x → found s k ≡ Some y → ⊥
unfolding flat_of jobs_of
apart_found s body f g (of_block b) x y p q =
    let m : nat_eq ((contents_of body.chunks).blocks b) 0 ≡ false = some_number-above ((contents_of body.chunks).blocks b) x p in
    let n : nat_eq y 0 ≡ false = found_number s b y q in
    let h : IsTrue (nat_eq (unwrap_or (found s (of_block b)) 0) 0 || nat_eq ((contents_of body.chunks).blocks b) 0) = f.blocks b in
    let z : false ≡ true = rw (q, m, n) at h in cc
apart_found s body f g (of_entity id) x y p q =
    let h : IsTrue (is_none (found s (of_entity id)) || is_none ((contents_of body.chunks).standing id)) = f.standing id in
    let z : false ≡ true = rw (q, p) at h in cc
apart_found s body f g (of_task n) x y p q =
    let h : IsTrue (is_none (found s (of_task n)) || is_none (rests_of body n)) = g n in
    let z : false ≡ true = rw (q, p) at h in cc

module _ (s : Stock) (bags : List Slot) (spare slots id : ℕ) (body : RegionData) (list : List ChunkPos) where
  -- the bag with its things
  abbrev pub filled : Slot
  filled = record (slot s id) { body = body; here = true; taken = false; list = list }

  abbrev t : Stock
  t = with_bags s bags spare slots

  abbrev rec : ChunkPos → Bool
  rec = is_recorded (slot s id).chunks

  module _ (e : (u : ℕ) → slot t u ≡ (if nat_eq id u then filled else slot s u)) (same : list ≡ (slot s id).chunks) (taken : (slot s id).taken ≡ true) (h : IsSound s)
      (all_there : (k : Key) (x : Thing k) → things body k ≡ Some x → rec (chunk_at k x) ≡ true)
      (apart : (k : Key) (x y : Thing k) → things body k ≡ Some x → found s k ≡ Some y → ⊥) where
    col_here : (k : Key) → column t k (in_bag id) ≡ things body k
    col_here k = ap (λ (b : Slot). things b.body k) (slot_here s bags spare slots id filled e)

    col_other : (k : Key) (w : Where) → w ≢ in_bag id → column t k w ≡ column s k w
    col_other k arriving n = refl
    col_other k (in_spot i) n = refl
    col_other k (in_bag u) n = ap (λ (b : Slot). things b.body k) (slot_other s bags spare slots id filled e u (λ q. n (ap (λ v. in_bag v) (sym q))))

    record Came (k : Key) (w : Where) (x : Thing k) : Type 0 where
      pub there : w ≡ in_bag id
      pub had : things body k ≡ Some x

    record Was (k : Key) (w : Where) (x : Thing k) : Type 0 where
      pub other : w ≢ in_bag id
      pub had : column s k w ≡ Some x

    back : (k : Key) (w : Where) (x : Thing k) → column t k w ≡ Some x → Came k w x ⊎ Was k w x
    back k w x q =
        elim (where_cases w (in_bag id)) [
          | inl z ↦ inl (record { there = z; had = sym (col_here k) ∙ ap (column t k) (sym z) ∙ q })
          | inr n ↦ inr (record { other = n; had = sym (col_other k w n) ∙ q })
        ]

    put_unique : IsUnique t
    put_unique k v w x y q r =
        elim (back k v x q) [
          | inl a ↦
              elim (back k w y r) [
                | inl b ↦ a.there ∙ sym b.there
                | inr b ↦ absurd (apart k x y a.had (found_of s h.unique k w y b.had))
              ]
          | inr a ↦
              elim (back k w y r) [
                | inl b ↦ absurd (apart k y x b.had (found_of s h.unique k v x a.had))
                | inr b ↦ h.unique k v w x y a.had b.had
              ]
        ]

    found_put : (k : Key) → found t k ≡ option_or (found s k) (things body k)
    found_put k = go (found s k) (things body k) refl refl
      where
        go : (o r : Option (Thing k)) → found s k ≡ o → things body k ≡ r → found t k ≡ option_or o r
        go (Some y) r f g =
            let p = found_at s k y f in
            let n : p.0 ≢ in_bag id = λ z. (h.bags id).out taken k y (ap (column s k) (sym z) ∙ p.1) in
            found_of t put_unique k p.0 y (col_other k p.0 n ∙ p.1)
        go None (Some x) f g = found_of t put_unique k (in_bag id) x (col_here k ∙ g)
        go None None f g = none_left (found t k) refl
          where
            none_left : (o : Option (Thing k)) → found t k ≡ o → found t k ≡ None
            none_left None m = m
            none_left (Some x) m =
                let p = found_at t k x m in
                elim (back k p.0 x p.1) [
                  | inl a ↦ let z : None ≡ Some x = sym g ∙ a.had in cc
                  | inr a ↦ let z : None ≡ Some x = sym (found_none s k f p.0) ∙ a.had in cc
                ]

    bag : (u : ℕ) → IsBag t u (slot t u)
    bag u =
        elim (cases_eq id u) [
          | inl q ↦ let P : ℕ → Type 0 = λ v. IsBag t v (slot t v) in subst P q (let Q : Slot → Type 0 = λ b. IsBag t id b in subst Q (sym (slot_here s bags spare slots id filled e)) put_bag)
          | inr n ↦ let Q : Slot → Type 0 = λ b. IsBag t u b in subst Q (sym (slot_other s bags spare slots id filled e u n)) (other_bag u n)
        ]
      where
        put_bag : IsBag t id filled
        put_bag = record {
          claims = λ o c q. (h.bags id).claims (opened (slot s id).here taken) c q;
          held = λ o c q. (h.bags id).held (held_taken (slot s id).listed taken) c q;
          near = λ o k w x q r. elim (back k w x q) [ inl a ↦ let P : Where → Type 0 = λ v. Near id filled (chunk_at k x) v in subst P (sym a.there) refl | inr a ↦ near_same (chunk_at k x) w ((h.bags id).near o k w x a.had r) ];
          untouched = λ o p. (h.bags id).untouched o p;
          opened = λ o. refl;
          one = refl;
          out = λ o k x q. (let z : false ≡ true = o in cc);
          list = λ o. same;
        }
          where
            near_same : (c : ChunkPos) (w : Where) → Near id (slot s id) c w → Near id filled c w
            near_same c arriving n = n
            near_same c (in_spot i) n = n
            near_same c (in_bag v) n = n

            opened : (b : Bool) → (slot s id).taken ≡ true → (b || (slot s id).taken) ≡ true
            opened true z = refl
            opened false z = z

            held_taken : (b : Bool) → (slot s id).taken ≡ true → (b || (slot s id).taken) ≡ true
            held_taken true z = refl
            held_taken false z = z

        other_bag : (u : ℕ) → id ≢ u → IsBag t u (slot s u)
        other_bag u n =
            kept_bag s t u (slot s u) (slot s u) (kept_self (slot s u)) (λ c q. inl q) (λ o c q. q)
            (λ o k w x q r. elim (back k w x q) [
              | inl a ↦
                  let mine : (place s (chunk_at k x)).bag ≡ Some id = (h.bags id).held (or_taken (slot s id).listed) (chunk_at k x) (all_there k x a.had) in
                  let others : (place s (chunk_at k x)).bag ≡ Some u = (h.bags u).held (rw o refl) (chunk_at k x) r in
                  let f : Some id ≡ Some u = sym mine ∙ others in
                  let g : id ≡ u = cc in absurd (n g)
              | inr a ↦ (h.bags u).near o k w x a.had r
            ])
            (λ o k x q. elim (back k (in_bag u) x q) [
              | inl a ↦ let f : in_bag u ≡ in_bag id = a.there in let g : id ≡ u = cc in n g
              | inr a ↦ (h.bags u).out o k x a.had
            ])
            (h.bags u)
          where
            or_taken : (b : Bool) → (b || (slot s id).taken) ≡ true
            or_taken true = refl
            or_taken false = taken

    pub put_sound : length bags ≡ length s.bags → IsTimely body → IsSound t
    put_sound long timely = record {
      unique = put_unique;
      lies = λ k w x q. elim (back k w x q) [
        | inl a ↦ let P : Where → Type 0 = λ v. Allows (place s (chunk_at k x)) v in subst P (sym a.there) ((h.bags id).held (or_taken (slot s id).listed) (chunk_at k x) (all_there k x a.had))
        | inr a ↦ h.lies k w x a.had
      ];
      spot_range = h.spot_range;
      bag_range = λ c u q. let l : u < length s.bags = h.bag_range c u q in omega arith;
      bags = bag;
      spot_times = h.spot_times;
      bag_times = λ u. elim (cases_eq id u) [
        | inl q ↦ let P : ℕ → Type 0 = λ v. IsTimely (slot t v).body in subst P q (let Q : Slot → Type 0 = λ b. IsTimely b.body in subst Q (sym (slot_here s bags spare slots id filled e)) timely)
        | inr n ↦ let Q : Slot → Type 0 = λ b. IsTimely b.body in subst Q (sym (slot_other s bags spare slots id filled e u n)) (h.bag_times u)
      ];
      arrival_times = h.arrival_times;
      arrivals_differ = h.arrivals_differ;
    }
      where
        or_taken : (b : Bool) → (b || (slot s id).taken) ≡ true
        or_taken true = refl
        or_taken false = taken

    pub put_contents : flat_of t ≡ joined (flat_of s) (contents_of body.chunks)
    unfolding flat_of
    put_contents = flat_is (flat_of t) (joined (flat_of s) (contents_of body.chunks))
        (fun_ext (λ b. ap (λ o. unwrap_or o 0) (found_put (of_block b)) ∙ blocks b (found s (of_block b)) ((contents_of body.chunks).blocks b) refl))
        (fun_ext (λ n. found_put (of_entity n)))
      where
        blocks : (b : _) (o : Option ℕ) (n : ℕ) → found s (of_block b) ≡ o → unwrap_or (option_or o (some_number n)) 0 ≡ (if nat_eq (unwrap_or o 0) 0 then n else unwrap_or o 0)
        blocks b None n f = number_is n
        blocks b (Some m) n f = rw (found_number s b m f) refl

    pub put_tasks : jobs_of t ≡ λ n. option_or (jobs_of s n) (rests_of body n)
    unfolding jobs_of
    put_tasks = fun_ext (λ n. found_put (of_task n))
