-- A task comes into a bag that is here.
use Rattle.std.proofs.Common.{◌≡◌, ◌≢◌, ℕ, ◌<◌, Bool, true, false, ◌&&◌, List, length, refl, sym, ◌∙◌, ap, subst, ◌⊎◌, inl, inr, arith, Some, None}
use Rattle.std.specs.Prelude.{nat_eq, if◌then◌else◌}
use Rattle.std.proofs.lemmas.Bool.{cases_Bool, cases_eq, eqb-true}
use Rattle.std.proofs.Math.Path.{fun_ext}
use Rattle.fol_model.specs.ActionStep.{Flat, at_id}
use Rattle.fol_model.specs.Job.{Job, queued}
use Rattle.fol_queues.specs.declared.dated.Dated.{Dated}
use Rattle.fol_data.specs.declared.region_data.RegionData.{RegionData}
use Rattle.fol_bags.specs.declared.slot.Slot.{Slot}
use Rattle.fol_bags.specs.Moves.{SameThings, Queues}
use Rattle.fol_bags.specs.Things.{Key, of_block, of_entity, of_task, Thing, things, some_number, chunk_at, IsTimely}
use Rattle.fol_store.specs.Stock.{Stock, Where, arriving, in_spot, in_bag, slot, place, column, found, flat_of, jobs_of, bag_of, next_of, shown}
use Rattle.fol_store.specs.Sound.{Allows, Near, IsBag, IsSound}
use Rattle.fol_store.specs.Steps.{Roomier}
use Rattle.fol_store.proofs.Totals.{IsUnique, found_of, found_none, found_columns, same_flat, same_flat_at, same_jobs}
use Rattle.fol_store.proofs.Resound.{Kept, kept_bag, near_kept, kept_self}
use Rattle.fol_store.proofs.BagSteps.{with_bags, one_sound, one_found, one_kept, slot_here, slot_other}

module _ (s : Stock) (bags : List Slot) (spare slots id : ℕ) (r : RegionData) where
  abbrev t : Stock
  t = with_bags s bags spare slots

  abbrev filled : Slot
  filled = record (slot s id) { body = r }

  module _ (e : (u : ℕ) → slot t u ≡ (if nat_eq id u then filled else slot s u)) (h : IsSound s) where
    pub shown_same : r.tick ≡ (slot s id).body.tick → r.owed ≡ (slot s id).body.owed → bag_of t ≡ bag_of s
    unfolding bag_of
    shown_same tick owed = fun_ext (λ u. elim (cases_eq id u) [
      | inl q ↦ let P : ℕ → Type 0 = λ v. shown (slot t v) ≡ shown (slot s v) in subst P q (ap shown (slot_here s bags spare slots id filled e) ∙ (rw (tick, owed) refl))
      | inr n ↦ ap shown (slot_other s bags spare slots id filled e u n)
    ])

    pub kept_filled : Kept (slot s id) filled
    kept_filled = record { here = refl; taken = refl; chunks = refl; list = refl; touched = refl; listed = λ o. o; calm = λ o. o }

    -- the same things, and perhaps more room
    pub same_sound : SameThings (slot s id).body r → IsTimely r → length bags ≡ length s.bags → IsSound t
    same_sound same timely long = one_sound s bags spare slots id filled e h same.things (omega arith) timely (one_kept s bags spare slots id filled e h kept_filled)

    pub roomier : SameThings (slot s id).body r → length bags ≡ length s.bags → spare ≡ s.spare → slots ≡ s.slots → Roomier s t
    unfolding next_of
    roomier same long spare_same slots_same = record {
      found = one_found s bags spare slots id filled e h same.things;
      places = refl;
      arrivals = refl;
      contents = same_flat s t (one_found s bags spare slots id filled e h same.things);
      tasks = same_jobs s t (one_found s bags spare slots id filled e h same.things);
      bags = shown_same same.tick same.owed;
      next = long;
      spare = spare_same;
      slots = slots_same;
    }

    module _ (d : Dated) (q : Queues d (slot s id).body r) (home : (place s d.task.chunk).bag ≡ Some id) (here : (slot s id).here ≡ true) (fresh : found s (of_task d.task.number) ≡ None) where
      abbrev job : Job
      job = queued d.task.chunk d.deadline d.task.action

      own : (k : Key) → things (slot t id).body k ≡ things r k
      own k = ap (λ (b : Slot). things b.body k) (slot_here s bags spare slots id filled e)

      others : (u : ℕ) (k : Key) → id ≢ u → things (slot t u).body k ≡ things (slot s u).body k
      others u k n = ap (λ (b : Slot). things b.body k) (slot_other s bags spare slots id filled e u n)

      record New (k : Key) (w : Where) (x : Thing k) : Type 0 where
        pub there : w ≡ in_bag id
        pub chunk : chunk_at k x ≡ d.task.chunk
        pub none : found s k ≡ None

      came : (k : Key) (x : Thing k) → things r k ≡ Some x → (things (slot s id).body k ≡ Some x) ⊎ New k (in_bag id) x
      came (of_block b) x z = inl (sym (ap (λ (f : Flat). some_number (f.blocks b)) q.contents) ∙ z)
      came (of_entity i) x z = inl (sym (ap (λ (f : Flat). f.standing i) q.contents) ∙ z)
      came (of_task n) x z =
          elim (cases_Bool (nat_eq d.task.number n)) [
            | inl m ↦
                let f : Some job ≡ Some x = sym (rw m at (q.tasks n)) ∙ z in
                let g : job ≡ x = cc in
                let i : d.task.number ≡ n = eqb-true d.task.number n m in
                inr (record { there = refl; chunk = ap (λ (j : Job). j.chunk) (sym g); none = sym (ap (λ v. found s (of_task v)) i) ∙ fresh })
            | inr m ↦ inl (sym (rw m at (q.tasks n)) ∙ z)
          ]

      back : (k : Key) (w : Where) (x : Thing k) → column t k w ≡ Some x → (column s k w ≡ Some x) ⊎ New k w x
      back k arriving x z = inl z
      back k (in_spot i) x z = inl z
      back k (in_bag u) x z =
          elim (cases_eq id u) [
            | inl m ↦
                let P : ℕ → Type 0 = λ v. column t k (in_bag v) ≡ Some x → (column s k (in_bag v) ≡ Some x) ⊎ New k (in_bag v) x in
                subst P m (λ y. came k x (sym (own k) ∙ y)) z
            | inr n ↦ inl (sym (others u k n) ∙ z)
          ]

      never : {P : Type 0} (k : Key) (w : Where) (x : Thing k) → found s k ≡ None → column s k w ≡ Some x → P
      never k w x n y = let z : None ≡ Some x = sym (found_none s k n w) ∙ y in absurd (let f : ⊥ = cc in f)

      queued_unique : IsUnique t
      queued_unique k v w x y a b =
          elim (back k v x a) [
            | inl m ↦ elim (back k w y b) [ inl n ↦ h.unique k v w x y m n | inr n ↦ never k v x n.none m ]
            | inr m ↦ elim (back k w y b) [ inl n ↦ never k w y m.none n | inr n ↦ m.there ∙ sym n.there ]
          ]

      kept : (u : ℕ) → Kept (slot s u) (slot t u)
      kept u = elim (cases_eq id u) [
        | inl m ↦ let P : ℕ → Type 0 = λ v. Kept (slot s v) (slot t v) in subst P m (let Q : Slot → Type 0 = λ b. Kept (slot s id) b in subst Q (sym (slot_here s bags spare slots id filled e)) kept_filled)
        | inr n ↦ let Q : Slot → Type 0 = λ b. Kept (slot s u) b in subst Q (sym (slot_other s bags spare slots id filled e u n)) (kept_self (slot s u))
      ]

      both : (a b : Bool) → a ≡ true → b ≡ true → (a && b) ≡ false → ⊥
      both a b m n f = let z : true ≡ false = (rw (m, n) at f) in cc

      bag : (u : ℕ) → IsBag t u (slot t u)
      bag u = kept_bag s t u (slot s u) (slot t u) (kept u) (λ c z. inl z) (λ o c z. z)
          (λ o k w x z g. elim (back k w x z) [
            | inl a ↦ near_kept u (slot s u) (slot t u) (kept u) (chunk_at k x) w ((h.bags u).near ((kept u).listed o) k w x a g)
            | inr a ↦
                let listed : (slot s u).listed ≡ true = (kept u).listed o in
                let held : (place s (chunk_at k x)).bag ≡ Some u = (h.bags u).held (rw listed refl) (chunk_at k x) g in
                let mine : (place s (chunk_at k x)).bag ≡ Some id = ap (λ c. (place s c).bag) a.chunk ∙ home in
                let f : Some id ≡ Some u = sym mine ∙ held in
                let same : id ≡ u = cc in
                let P : Where → Type 0 = λ v. Near u (slot t u) (chunk_at k x) v in subst P (sym a.there) same
          ])
          (λ o k x z. elim (back k (in_bag u) x z) [
            | inl a ↦ (h.bags u).out (sym (kept u).taken ∙ o) k x a
            | inr a ↦
                let f : in_bag u ≡ in_bag id = a.there in
                let same : u ≡ id = cc in
                let P : ℕ → Type 0 = λ v. (slot s v).taken ≡ true in
                let out : (slot s id).taken ≡ true = subst P same (sym (kept u).taken ∙ o) in
                both (slot s id).here (slot s id).taken here out (h.bags id).one
          ])
          (h.bags u)

      pub queued_sound : IsTimely r → length bags ≡ length s.bags → IsSound t
      queued_sound timely long = record {
        unique = queued_unique;
        lies = λ k w x z. elim (back k w x z) [
          | inl a ↦ h.lies k w x a
          | inr a ↦ let P : Where → Type 0 = λ v. Allows (place s (chunk_at k x)) v in subst P (sym a.there) (ap (λ c. (place s c).bag) a.chunk ∙ home)
        ];
        spot_range = h.spot_range;
        bag_range = λ c i z. let l : i < length s.bags = h.bag_range c i z in omega arith;
        bags = bag;
        spot_times = h.spot_times;
        bag_times = λ u. elim (cases_eq id u) [
          | inl m ↦ let P : ℕ → Type 0 = λ v. IsTimely (slot t v).body in subst P m (let Q : Slot → Type 0 = λ b. IsTimely b.body in subst Q (sym (slot_here s bags spare slots id filled e)) timely)
          | inr n ↦ let Q : Slot → Type 0 = λ b. IsTimely b.body in subst Q (sym (slot_other s bags spare slots id filled e u n)) (h.bag_times u)
        ];
        arrival_times = h.arrival_times;
        arrivals_differ = h.arrivals_differ;
      }

      pub queued_tasks : jobs_of t ≡ at_id (jobs_of s) d.task.number (Some job)
      unfolding jobs_of
      queued_tasks = fun_ext each
        where
          each : (n : ℕ) → found t (of_task n) ≡ (if nat_eq d.task.number n then Some job else found s (of_task n))
          each n =
              elim (cases_Bool (nat_eq d.task.number n)) [
                | inl m ↦ rw m (found_of t queued_unique (of_task n) (in_bag id) job (own (of_task n) ∙ q.tasks n ∙ rw m refl))
                | inr m ↦ rw m (found_columns s t h.unique queued_unique (of_task n) (columns m))
              ]
            where
              columns : nat_eq d.task.number n ≡ false → (w : Where) → column t (of_task n) w ≡ column s (of_task n) w
              columns m arriving = refl
              columns m (in_spot i) = refl
              columns m (in_bag u) = elim (cases_eq id u) [
                | inl z ↦ let P : ℕ → Type 0 = λ v. column t (of_task n) (in_bag v) ≡ column s (of_task n) (in_bag v) in subst P z (own (of_task n) ∙ q.tasks n ∙ rw m refl)
                | inr z ↦ others u (of_task n) z
              ]

      pub queued_contents : flat_of t ≡ flat_of s
      queued_contents = same_flat_at s t
          (λ b. found_columns s t h.unique queued_unique (of_block b) (same (of_block b) (ap (λ (f : Flat). some_number (f.blocks b)) q.contents)))
          (λ i. found_columns s t h.unique queued_unique (of_entity i) (same (of_entity i) (ap (λ (f : Flat). f.standing i) q.contents)))
        where
          same : (k : Key) → things r k ≡ things (slot s id).body k → (w : Where) → column t k w ≡ column s k w
          same k m arriving = refl
          same k m (in_spot i) = refl
          same k m (in_bag u) = elim (cases_eq id u) [
            | inl z ↦ let P : ℕ → Type 0 = λ v. column t k (in_bag v) ≡ column s k (in_bag v) in subst P z (own k ∙ m)
            | inr z ↦ others u k z
          ]

      pub queued_bags : bag_of t ≡ bag_of s
      queued_bags = shown_same q.tick q.owed
