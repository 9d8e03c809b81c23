-- Places after a step.
use Rattle.std.proofs.Common.{◌≡◌, ℕ, ℤ, ◌&&◌, ◌||◌, Bool, true, false, List, refl, sym, ◌∙◌, ap, inl, inr, Option, Some, None}
use Rattle.std.specs.Prelude.{if◌then◌else◌, nat_eq}
use Rattle.std.specs.Option.{option_map, unwrap_or}
use Rattle.std.specs.Ordering.{int_eq}
use Rattle.std.proofs.lemmas.Bool.{cases_Bool, eqb-true}
use Rattle.std.proofs.lemmas.Map.Made.{lookup-map_values}
use Rattle.fol_keyed.proofs.Places.{same_chunk-true}
use Rattle.fol_model.specs.declared.places.ChunkPos.{ChunkPos}
use Rattle.fol_model.specs.Geometry.{same_chunk}
use Rattle.fol_queues.proofs.Numbers.{nat_self}
use Rattle.fol_bags.specs.declared.places.Place.{Place}
use Rattle.fol_bags.specs.Labels.{swapped}
use Rattle.fol_bags.specs.Places.{place_at, known_place, nowhere, is_bag, is_number, rebagged, renumbered, exchanged, renumbered_rows}

-- the test for a bag
pub is_bag-some : (p : Place) (u : ℕ) → p.bag ≡ Some u → is_bag u p ≡ true
is_bag-some p u e = ap (is_number u) e ∙ nat_self u

pub bag-from_is : (p : Place) (u : ℕ) → is_bag u p ≡ true → p.bag ≡ Some u
bag-from_is p u h = go p.bag refl
  where
    go : (o : Option ℕ) → p.bag ≡ o → p.bag ≡ Some u
    go None e = let f : false ≡ true = sym (ap (is_number u) e) ∙ h in cc
    go (Some v) e = let f : nat_eq u v ≡ true = sym (ap (is_number u) e) ∙ h in let g : u ≡ v = eqb-true u v f in e ∙ ap (λ (n : ℕ). Some n) (sym g)

-- the place that was set
pub set_places : (old new : List ((ℤ × ℤ) × Place)) (c : ChunkPos) (p : Place)
    → ((a b : ℤ) → known_place new a b ≡ (if (int_eq c.x a && int_eq c.z b) then Some p else known_place old a b))
    → (q : ChunkPos) → place_at (record { rows = new }) q ≡ (if same_chunk c q then p else place_at (record { rows = old }) q)
unfolding place_at same_chunk
set_places old new c p h q =
    rw (h q.x q.z) (pick (int_eq c.x q.x && int_eq c.z q.z) (known_place old q.x q.z))
  where
    pick : (b : Bool) (o : Option Place) → unwrap_or (if b then Some p else o) nowhere ≡ (if b then p else unwrap_or o nowhere)
    pick true o = refl
    pick false o = refl

pub set_unknown : (old : List ((ℤ × ℤ) × Place)) (c : ChunkPos) → known_place old c.x c.z ≡ None → place_at (record { rows = old }) c ≡ nowhere
unfolding place_at
set_unknown old c h = rw h refl

-- a place with another bag
abbrev pub renamed : Bool → ℕ → ℕ → Place → Place
renamed b «from» to p = if (b && is_bag «from» p) then record p { bag = Some to } else p

pub renamed_twice : (b c : Bool) («from» to : ℕ) (p : Place) → renamed c «from» to (renamed b «from» to p) ≡ renamed (b || c) «from» to p
renamed_twice false c «from» to p = refl
renamed_twice true c «from» to p = split (is_bag «from» p) refl
  where
    again : (r : Place) → record r { bag = Some to } ≡ r → (b : Bool) → (if b then record r { bag = Some to } else r) ≡ r
    again r same true = same
    again r same false = refl

    never : (c : Bool) → (if (c && false) then record p { bag = Some to } else p) ≡ p
    never true = refl
    never false = refl

    split : (b : Bool) → is_bag «from» p ≡ b → renamed c «from» to (renamed true «from» to p) ≡ renamed true «from» to p
    split true e = rw e (again (record p { bag = Some to }) refl (c && is_bag «from» (record p { bag = Some to })))
    split false e = rw (e, e) (never c)

-- a change at one place
pub renamed_places : (old new : List ((ℤ × ℤ) × Place)) (c : ChunkPos) («from» to : ℕ)
    → ((a b : ℤ) → known_place new a b ≡ (if (int_eq c.x a && int_eq c.z b) then option_map (rebagged «from» to) (known_place old c.x c.z) else known_place old a b))
    → (q : ChunkPos) → place_at (record { rows = new }) q ≡ renamed (same_chunk c q) «from» to (place_at (record { rows = old }) q)
unfolding place_at same_chunk
renamed_places old new c «from» to h q =
    rw (h q.x q.z) (pick (int_eq c.x q.x && int_eq c.z q.z) (known_place old c.x c.z) (known_place old q.x q.z) (λ e. ap (λ (k : ChunkPos). known_place old k.x k.z) (same_chunk-true c q e)))
  where
    there : (o : Option Place) → unwrap_or (option_map (rebagged «from» to) o) nowhere ≡ renamed true «from» to (unwrap_or o nowhere)
    there None = refl
    there (Some p) = refl

    pick : (b : Bool) (o r : Option Place) → (b ≡ true → o ≡ r) → unwrap_or (if b then option_map (rebagged «from» to) o else r) nowhere ≡ renamed b «from» to (unwrap_or r nowhere)
    pick true o r e = there o ∙ ap (λ s. renamed true «from» to (unwrap_or s nowhere)) (e refl)
    pick false o r e = refl

-- no change where the chunk has no place
pub none_renamed : (old : List ((ℤ × ℤ) × Place)) (x z : ℤ) («from» to : ℕ) → known_place old x z ≡ None → (a b : ℤ)
    → known_place old a b ≡ (if (int_eq x a && int_eq z b) then option_map (rebagged «from» to) (known_place old x z) else known_place old a b)
unfolding same_chunk
none_renamed old x z «from» to n a b =
    elim (cases_Bool (int_eq x a && int_eq z b)) [
      | inl e ↦
          let here : ChunkPos = record { x = x; z = z } in
          let there : ChunkPos = record { x = a; z = b } in
          let same : known_place old x z ≡ known_place old a b = ap (λ (k : ChunkPos). known_place old k.x k.z) (same_chunk-true here there e) in
          rw e (sym same ∙ n ∙ sym (ap (option_map (rebagged «from» to)) n))
      | inr e ↦ rw e refl
    ]

-- a place, where each row has the label of its bag
pub owned_place : (owner : ℕ → ℕ) (rows : List ((ℤ × ℤ) × Place)) (c : ChunkPos)
    → place_at (record { rows = renumbered_rows owner rows }) c ≡ renumbered owner (place_at (record { rows = rows }) c)
unfolding place_at known_place
owned_place owner rows c =
    rw (lookup-map_values (renumbered owner) (λ (key : ℤ × ℤ). int_eq c.x key.0 && int_eq c.z key.1) rows) (go (known_place rows c.x c.z))
  where
    go : (o : Option Place) → unwrap_or (option_map (renumbered owner) o) nowhere ≡ renumbered owner (unwrap_or o nowhere)
    go None = refl
    go (Some p) = refl

module _ (owner : ℕ → ℕ) (old new : List ((ℤ × ℤ) × Place)) where
  -- a place that was set by its label
  pub owned_set : (c : ChunkPos) (row place : Place) → renumbered owner row ≡ place
      → ((q : ChunkPos) → place_at (record { rows = new }) q ≡ (if same_chunk c q then row else place_at (record { rows = old }) q))
      → (q : ChunkPos) → place_at (record { rows = renumbered_rows owner new }) q ≡ (if same_chunk c q then place else place_at (record { rows = renumbered_rows owner old }) q)
  owned_set c row place e h q =
      owned_place owner new q ∙ ap (renumbered owner) (h q) ∙ pick (same_chunk c q)
    where
      pick : (b : Bool) → renumbered owner (if b then row else place_at (record { rows = old }) q) ≡ (if b then place else place_at (record { rows = renumbered_rows owner old }) q)
      pick true = e
      pick false = sym (owned_place owner old q)

  -- a change at one place, by labels
  pub owned_renamed : (c : ChunkPos) («from» to old_label new_label : ℕ)
      → owner old_label ≡ «from» → ((n : ℕ) → owner n ≡ «from» → n ≡ old_label) → owner new_label ≡ to
      → ((q : ChunkPos) → place_at (record { rows = new }) q ≡ renamed (same_chunk c q) old_label new_label (place_at (record { rows = old }) q))
      → (q : ChunkPos) → place_at (record { rows = renumbered_rows owner new }) q ≡ renamed (same_chunk c q) «from» to (place_at (record { rows = renumbered_rows owner old }) q)
  owned_renamed c «from» to old_label new_label e alone f h q =
      owned_place owner new q ∙ ap (renumbered owner) (h q) ∙ pick (same_chunk c q) (place_at (record { rows = old }) q)
      ∙ ap (renamed (same_chunk c q) «from» to) (sym (owned_place owner old q))
    where
      same_test : (n : ℕ) → nat_eq «from» (owner n) ≡ nat_eq old_label n
      same_test n =
          elim (cases_Bool (nat_eq old_label n)) [
            | inl t ↦
                let g : old_label ≡ n = eqb-true old_label n t in
                rw (t, ← g, e) (nat_self «from»)
            | inr t ↦
                elim (cases_Bool (nat_eq «from» (owner n))) [
                  | inl u ↦
                      let g : n ≡ old_label = alone n (sym (eqb-true «from» (owner n) u)) in
                      let k : true ≡ false = sym (nat_self old_label) ∙ ap (nat_eq old_label) (sym g) ∙ t in
                      cc
                  | inr u ↦ u ∙ sym t
                ]
          ]

      bags : (o : Option ℕ) → option_map owner (if is_number old_label o then Some new_label else o)
          ≡ (if is_number «from» (option_map owner o) then Some to else option_map owner o)
      bags None = refl
      bags (Some n) = rw (same_test n) (either (nat_eq old_label n))
        where
          either : (t : Bool) → option_map owner (if t then Some new_label else Some n) ≡ (if t then Some to else Some (owner n))
          either true = ap (λ (m : ℕ). Some m) f
          either false = refl

      -- a change of the bag alone
      moved : (t : Bool) (p : Place) (o : Option ℕ) → (if t then record p { bag = o } else p) ≡ record p { bag = (if t then o else p.bag) }
      moved true p o = refl
      moved false p o = refl

      pick : (b : Bool) (p : Place) → renumbered owner (renamed b old_label new_label p) ≡ renamed b «from» to (renumbered owner p)
      pick false p = refl
      pick true p =
          ap (renumbered owner) (moved (is_bag old_label p) p (Some new_label))
          ∙ ap (λ (o : Option ℕ). record p { bag = o }) (bags p.bag)
          ∙ sym (moved (is_bag «from» (renumbered owner p)) (renumbered owner p) (Some to))

-- the places after two bags were exchanged
pub owned_exchanged : (rows : List ((ℤ × ℤ) × Place)) (a b : ℕ) (old new : ℕ → ℕ) → ((n : ℕ) → new n ≡ swapped a b (old n))
    → (q : ChunkPos) → place_at (record { rows = renumbered_rows new rows }) q ≡ exchanged a b (place_at (record { rows = renumbered_rows old rows }) q)
owned_exchanged rows a b old new h q =
    owned_place new rows q ∙ go (place_at (record { rows = rows }) q) ∙ ap (exchanged a b) (sym (owned_place old rows q))
  where
    numbers : (o : Option ℕ) → option_map new o ≡ option_map (swapped a b) (option_map old o)
    numbers None = refl
    numbers (Some n) = ap (λ (m : ℕ). Some m) (h n)

    go : (p : Place) → renumbered new p ≡ exchanged a b (renumbered old p)
    go p = ap (λ (o : Option ℕ). record p { bag = o }) (numbers p.bag)

-- two labels were exchanged at all places; each is the label of one bag alone
module _ (owner : ℕ → ℕ) (a b label other : ℕ) (its : owner label ≡ a) (alone : (n : ℕ) → owner n ≡ a → n ≡ label)
    (other_its : owner other ≡ b) (other_alone : (n : ℕ) → owner n ≡ b → n ≡ other) where
  -- a label that is not the bag's has another bag
  not_its : (bag its_label n : ℕ) → ((m : ℕ) → owner m ≡ bag → m ≡ its_label) → nat_eq n its_label ≡ false → nat_eq (owner n) bag ≡ false
  not_its bag its_label n h f = elim (cases_Bool (nat_eq (owner n) bag)) [
    | inl e ↦
        let g : n ≡ its_label = h n (eqb-true (owner n) bag e) in
        let k : true ≡ false = sym (nat_self its_label) ∙ ap (λ (m : ℕ). nat_eq m its_label) (sym g) ∙ f in
        cc
    | inr e ↦ e
  ]

  owner_swapped : (n : ℕ) → owner (swapped label other n) ≡ swapped a b (owner n)
  owner_swapped n = elim (cases_Bool (nat_eq n label)) [
    | inl e ↦
        let g : n ≡ label = eqb-true n label e in
        let k : owner n ≡ a = ap owner g ∙ its in
        rw (e, k, nat_self a) other_its
    | inr e ↦ elim (cases_Bool (nat_eq n other)) [
      | inl f ↦
          let g : n ≡ other = eqb-true n other f in
          let k : owner n ≡ b = ap owner g ∙ other_its in
          let m : nat_eq b a ≡ false = ap (λ (o : ℕ). nat_eq o a) (sym k) ∙ not_its a label n alone e in
          rw (e, f, k, m, nat_self b) its
      | inr f ↦ rw (e, f, not_its a label n alone e, not_its b other n other_alone f) refl
    ]
  ]

  pub relabelled : (old new : List ((ℤ × ℤ) × Place)) → new ≡ renumbered_rows (swapped label other) old
      → (q : ChunkPos) → place_at (record { rows = renumbered_rows owner new }) q ≡ exchanged a b (place_at (record { rows = renumbered_rows owner old }) q)
  relabelled old new h q =
      owned_place owner new q
      ∙ ap (λ (rows : List ((ℤ × ℤ) × Place)). renumbered owner (place_at (record { rows = rows }) q)) h
      ∙ ap (renumbered owner) (owned_place (swapped label other) old q)
      ∙ go (place_at (record { rows = old }) q)
      ∙ ap (exchanged a b) (sym (owned_place owner old q))
    where
      numbers : (o : Option ℕ) → option_map owner (option_map (swapped label other) o) ≡ option_map (swapped a b) (option_map owner o)
      numbers None = refl
      numbers (Some n) = ap (λ (m : ℕ). Some m) (owner_swapped n)

      go : (p : Place) → renumbered owner (renumbered (swapped label other) p) ≡ exchanged a b (renumbered owner p)
      go p = ap (λ (o : Option ℕ). record p { bag = o }) (numbers p.bag)

-- nothing changes where each label keeps its bag
pub owned_kept : (rows : List ((ℤ × ℤ) × Place)) (old new : ℕ → ℕ) → ((n : ℕ) → new n ≡ old n)
    → (q : ChunkPos) → place_at (record { rows = renumbered_rows new rows }) q ≡ place_at (record { rows = renumbered_rows old rows }) q
owned_kept rows old new h q =
    owned_place new rows q ∙ go (place_at (record { rows = rows }) q) ∙ sym (owned_place old rows q)
  where
    numbers : (o : Option ℕ) → option_map new o ≡ option_map old o
    numbers None = refl
    numbers (Some n) = ap (λ (m : ℕ). Some m) (h n)

    go : (p : Place) → renumbered new p ≡ renumbered old p
    go p = ap (λ (o : Option ℕ). record p { bag = o }) (numbers p.bag)
