-- A bag that is taken out.
use Rattle.std.proofs.Common.{◌≡◌, ◌≢◌, ℕ, ◌<◌, Bool, true, false, not, List, [], length, refl, sym, ◌∙◌, ap, subst, inl, inr, arith, Option, Some, None}
use Rattle.std.specs.Prelude.{nat_eq, if◌then◌else◌}
use Rattle.std.specs.Option.{unwrap_or}
use Rattle.std.proofs.lemmas.Bool.{cases_eq}
use Rattle.std.proofs.Math.Path.{fun_ext}
use Rattle.fol_model.specs.declared.places.ChunkPos.{ChunkPos}
use Rattle.fol_model.specs.Geometry.{chunk_of}
use Rattle.fol_model.specs.Job.{Job}
use Rattle.fol_queues.specs.Waiting.{option_filter}
use Rattle.fol_chunks.specs.Contents.{is_recorded, outside}
use Rattle.fol_chunks.proofs.Flats.{flat_is}
use Rattle.fol_data.specs.declared.region_data.RegionData.{RegionData}
use Rattle.fol_bags.specs.declared.slot.Slot.{Slot}
use Rattle.fol_bags.specs.Things.{Key, of_block, of_entity, of_task, Thing, things, chunk_at, IsTimely}
use Rattle.fol_store.specs.Stock.{Stock, Where, arriving, in_spot, in_bag, slot, column, found, flat_of, jobs_of}
use Rattle.fol_store.specs.Sound.{IsBag, IsSound}
use Rattle.fol_store.proofs.Totals.{where_cases, IsUnique, found_of, found_at, found_none, unwrap_filter}
use Rattle.fol_store.proofs.Resound.{kept_bag, kept_self, whole_alone}
use Rattle.fol_store.proofs.BagSteps.{with_bags, slot_here, slot_other}
use Rattle.fol_store.proofs.WholeBag.{inside, outside_it}

module _ (s : Stock) (bags : List Slot) (spare slots id : ℕ) (body : RegionData) where
  -- the bag without its things
  abbrev pub emptied : Slot
  emptied = record (slot s id) { body = body; here = false; taken = true; list = [] }

  abbrev t : Stock
  t = with_bags s bags spare slots

  abbrev rec : ChunkPos → Bool
  rec = is_recorded (slot s id).chunks

  module _ (e : (u : ℕ) → slot t u ≡ (if nat_eq id u then emptied else slot s u)) (empty : (k : Key) → things body k ≡ None) (h : IsSound s) (listed : (slot s id).listed ≡ true) (calm : (slot s id).calm ≡ true) where
    col_here : (k : Key) → column t k (in_bag id) ≡ None
    col_here k = ap (λ (b : Slot). things b.body k) (slot_here s bags spare slots id emptied e) ∙ empty k

    col_other : (k : Key) (w : Where) → w ≢ in_bag id → column t k w ≡ column s k w
    col_other k arriving n = refl
    col_other k (in_spot i) n = refl
    col_other k (in_bag u) n = ap (λ (b : Slot). things b.body k) (slot_other s bags spare slots id emptied e u (λ q. n (ap (λ v. in_bag v) (sym q))))

    record Back (k : Key) (w : Where) (x : Thing k) : Type 0 where
      pub other : w ≢ in_bag id
      pub had : column s k w ≡ Some x

    back : (k : Key) (w : Where) (x : Thing k) → column t k w ≡ Some x → Back k w x
    back k w x q =
        elim (where_cases w (in_bag id)) [
          | inl z ↦ let f : None ≡ Some x = sym (col_here k) ∙ ap (column t k) (sym z) ∙ q in absurd (let g : ⊥ = cc in g)
          | inr n ↦ record { other = n; had = sym (col_other k w n) ∙ q }
        ]

    taken_unique : IsUnique t
    taken_unique k v w x y q r = h.unique k v w x y (back k v x q).had (back k w y r).had

    found_left : (k : Key) → found t k ≡ option_filter (λ x. not (rec (chunk_at k x))) (found s k)
    found_left k = go (found s k) (found t k) refl refl
      where
        gone : (x : Thing k) (w : Where) → w ≡ in_bag id → column s k w ≡ Some x → (r : Option (Thing k)) → found t k ≡ r → r ≡ None
        gone x w z q None g = refl
        gone x w z q (Some y) g =
            let p = found_at t k y g in
            let b = back k p.0 y p.1 in
            absurd (b.other (h.unique k p.0 w y x b.had q ∙ z))

        some_case : (x : Thing k) (r : Option (Thing k)) → found t k ≡ r → (w : Where) → column s k w ≡ Some x → r ≡ option_filter (λ y. not (rec (chunk_at k y))) (Some x)
        some_case x r g w q =
            elim (where_cases w (in_bag id)) [
              | inl z ↦
                  let in_it : rec (chunk_at k x) ≡ true = inside s id h listed calm k x (ap (column s k) (sym z) ∙ q) in
                  rw in_it (gone x w z q r g)
              | inr n ↦
                  let out_of_it : rec (chunk_at k x) ≡ false = outside_it s id h listed calm k w x q n in
                  rw out_of_it (sym g ∙ found_of t taken_unique k w x (col_other k w n ∙ q))
            ]

        go : (o r : Option (Thing k)) → found s k ≡ o → found t k ≡ r → r ≡ option_filter (λ x. not (rec (chunk_at k x))) o
        go None None f g = refl
        go None (Some y) f g =
            let p = found_at t k y g in
            let b = back k p.0 y p.1 in
            let z : None ≡ Some y = sym (found_none s k f p.0) ∙ b.had in cc
        go (Some x) r f g = let p = found_at s k x f in some_case x r g p.0 p.1

    bag : (u : ℕ) → IsBag t u (slot t u)
    bag u =
        elim (cases_eq id u) [
          | inl q ↦ let P : ℕ → Type 0 = λ v. IsBag t v (slot t v) in subst P q (let Q : Slot → Type 0 = λ b. IsBag t id b in subst Q (sym (slot_here s bags spare slots id emptied e)) taken_bag)
          | inr n ↦
              let Q : Slot → Type 0 = λ b. IsBag t u b in
              subst Q (sym (slot_other s bags spare slots id emptied e u n))
              (kept_bag s t u (slot s u) (slot s u) (kept_self (slot s u)) (λ c q. inl q) (λ o c q. q)
              (λ o k w x q r. (h.bags u).near o k w x (back k w x q).had r)
              (λ o k x q. (h.bags u).out o k x (back k (in_bag u) x q).had)
              (h.bags u))
        ]
      where
        taken_bag : IsBag t id emptied
        taken_bag = record {
          claims = λ o c q. (h.bags id).claims ((h.bags id).opened listed) c q;
          held = λ o c q. (h.bags id).held (rw listed refl) c q;
          near = λ o k w x q r. let b = back k w x q in absurd (b.other (whole_alone s id (slot s id) (h.bags id) listed calm k w x b.had r));
          untouched = λ o p. (h.bags id).untouched listed calm;
          opened = λ o. refl;
          one = refl;
          out = λ o k x q. let f : None ≡ Some x = sym (col_here k) ∙ q in cc;
          list = λ o. (let f : true ≡ false = o in cc);
        }

    pub taken_sound : length bags ≡ length s.bags → IsTimely body → IsSound t
    taken_sound long timely = record {
      unique = taken_unique;
      lies = λ k w x q. h.lies k w x (back k w x q).had;
      spot_range = h.spot_range;
      bag_range = λ c u q. let l : u < length s.bags = h.bag_range c u q in omega arith;
      bags = bag;
      spot_times = h.spot_times;
      bag_times = λ u. elim (cases_eq id u) [
        | inl q ↦ let P : ℕ → Type 0 = λ v. IsTimely (slot t v).body in subst P q (let Q : Slot → Type 0 = λ b. IsTimely b.body in subst Q (sym (slot_here s bags spare slots id emptied e)) timely)
        | inr n ↦ let Q : Slot → Type 0 = λ b. IsTimely b.body in subst Q (sym (slot_other s bags spare slots id emptied e u n)) (h.bag_times u)
      ];
      arrival_times = h.arrival_times;
      arrivals_differ = h.arrivals_differ;
    }

    pub taken_contents : flat_of t ≡ outside rec (flat_of s)
    unfolding flat_of
    taken_contents = flat_is (flat_of t) (outside rec (flat_of s))
        (fun_ext (λ b. ap (λ o. unwrap_or o 0) (found_left (of_block b)) ∙ unwrap_filter (not (rec (chunk_of b))) (found s (of_block b))))
        (fun_ext (λ n. found_left (of_entity n)))

    pub taken_tasks : jobs_of t ≡ λ n. option_filter (λ (j : Job). not (rec j.chunk)) (jobs_of s n)
    unfolding jobs_of
    taken_tasks = fun_ext (λ n. found_left (of_task n))
