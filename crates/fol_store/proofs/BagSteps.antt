-- Steps that change bags, and neither spots nor arrivals nor places.
use Rattle.std.proofs.Common.{◌≡◌, ◌≢◌, ℕ, ◌<◌, ◌≤◌, Bool, true, false, ◌||◌, List, length, refl, sym, ◌∙◌, ap, subst, inl, inr, arith}
use Rattle.std.specs.Prelude.{nat_eq, if◌then◌else◌}
use Rattle.std.proofs.lemmas.Bool.{cases_Bool, cases_eq, eqb-true, eqb-false}
use Rattle.std.proofs.Math.Path.{fun_ext}
use Rattle.fol_model.specs.ActionStep.{at_id}
use Rattle.fol_queues.specs.declared.dated.Dated.{Dated}
use Rattle.fol_bags.specs.declared.slot.Slot.{Slot}
use Rattle.fol_store.specs.Bag.{Bag}
use Rattle.fol_bags.specs.Things.{Key, things, IsTimely}
use Rattle.fol_store.specs.Stock.{Stock, arriving, in_spot, in_bag, slot, found, flat_of, jobs_of, next_of, bag_of, shown}
use Rattle.fol_store.specs.Sound.{IsBag, IsSound}
use Rattle.fol_store.proofs.Totals.{same_flat, same_jobs}
use Rattle.fol_store.proofs.Resound.{Kept, SameColumns, kept_self, same_unique, same_found, same_bag}
use Rattle.fol_bags.proofs.OpenBags.{here_range}

-- the bag of a region changed, and nothing else that contracts see
pub record OneStep (s t : Stock) (id : ℕ) (b : Bag) : Type 0 where
  pub sound : IsSound t
  pub bags : bag_of t ≡ at_id (bag_of s) id b
  pub next : next_of t ≡ next_of s
  pub contents : flat_of t ≡ flat_of s
  pub tasks : jobs_of t ≡ jobs_of s

pub bag_slot : (s : Stock) (id : ℕ) → bag_of s id ≡ shown (slot s id)
unfolding bag_of
bag_slot s id = refl

-- a store with other bags
abbrev pub with_bags : Stock → List Slot → ℕ → ℕ → Stock
with_bags s bags spare slots = record s { bags = bags; spare = spare; slots = slots }

-- a store with other room
abbrev pub with_room : Stock → List Dated → List Slot → ℕ → ℕ → Stock
with_room s arrivals bags spare slots = record s { arrivals = arrivals; bags = bags; spare = spare; slots = slots }

pub record Resized (s t : Stock) : Type 0 where
  pub sound : IsSound t
  pub bags : bag_of t ≡ bag_of s
  pub next : next_of t ≡ next_of s
  pub contents : flat_of t ≡ flat_of s
  pub tasks : jobs_of t ≡ jobs_of s

pub resized : (s : Stock) (arrivals : List Dated) (bags : List Slot) (spare slots : ℕ) → arrivals ≡ s.arrivals → bags ≡ s.bags → IsSound s → Resized s (with_room s arrivals bags spare slots)
unfolding bag_of next_of flat_of jobs_of found
resized s arrivals bags spare slots e f h =
    let P : List Dated → List Slot → Type 0 = λ xs bs. Resized s (with_room s xs bs spare slots) in
    let start : P s.arrivals s.bags = room s spare slots h in
    subst (λ xs. P xs bags) (sym e) (subst (λ bs. P s.arrivals bs) (sym f) start)
  where
    room : (s : Stock) (spare slots : ℕ) → IsSound s → Resized s (with_room s s.arrivals s.bags spare slots)
    room s spare slots h = record {
      sound = record {
        unique = λ k v w x y p q. h.unique k v w x y (sym (same k v) ∙ p) (sym (same k w) ∙ q);
        lies = λ k w x p. h.lies k w x (sym (same k w) ∙ p);
        spot_range = h.spot_range;
        bag_range = h.bag_range;
        bags = λ id. same_bag s (with_room s s.arrivals s.bags spare slots) id (slot s id) (slot s id) (kept_self (slot s id)) same (λ c q. inl q) (λ o c q. q) (h.bags id);
        spot_times = h.spot_times;
        bag_times = h.bag_times;
        arrival_times = h.arrival_times;
        arrivals_differ = h.arrivals_differ;
      };
      bags = refl;
      next = refl;
      contents = refl;
      tasks = refl;
    }
      where
        same : SameColumns s (with_room s s.arrivals s.bags spare slots)
        same k arriving = refl
        same k (in_spot i) = refl
        same k (in_bag u) = refl

-- a bag that is closed keeps nothing
pub closed_bag : (s : Stock) (id : ℕ) (b : Slot) → b.here ≡ false → b.taken ≡ false → b.listed ≡ false → b.list ≡ b.chunks → IsBag s id b
closed_bag s id b here taken listed list =
    let shut : (b.here || b.taken) ≡ false = rw (here, taken) refl in
    record {
      claims = λ o c q. clash (sym o ∙ shut);
      held = λ o c q. clash (sym o ∙ (rw (listed, taken) refl));
      near = λ o k w x q r. clash (sym o ∙ listed);
      untouched = λ o p. clash (sym o ∙ listed);
      opened = λ o. clash (sym o ∙ listed);
      one = rw here refl;
      out = λ o k x q. clash (sym o ∙ taken);
      list = λ o. list;
    }
  where
    clash : {P : Type 0} → true ≡ false → P
    clash e = absurd (let z : ⊥ = cc in z)

module _ (s : Stock) (bags : List Slot) (spare slots : ℕ) where
  abbrev t : Stock
  t = with_bags s bags spare slots

  -- the bags have the same things
  pub same_columns : ((u : ℕ) (k : Key) → things (slot t u).body k ≡ things (slot s u).body k) → SameColumns s t
  same_columns e k arriving = refl
  same_columns e k (in_spot i) = refl
  same_columns e k (in_bag u) = e u k

  -- only bags change, and none of their things
  pub sound_bags : IsSound s → SameColumns s t → length s.bags ≤ length bags → ((u : ℕ) → IsBag t u (slot t u)) → ((u : ℕ) → IsTimely (slot t u).body) → IsSound t
  sound_bags h e long each times = record {
    unique = same_unique s t e h.unique;
    lies = λ k w x q. h.lies k w x (sym (e k w) ∙ q);
    spot_range = h.spot_range;
    bag_range = λ c id q. let l : id < length s.bags = h.bag_range c id q in omega arith;
    bags = each;
    spot_times = h.spot_times;
    bag_times = times;
    arrival_times = h.arrival_times;
    arrivals_differ = h.arrivals_differ;
  }

  -- what contracts see of the bags where one changes
  pub bags_shown : (id : ℕ) (d : Slot) (b : Bag) → ((u : ℕ) → slot t u ≡ (if nat_eq id u then d else slot s u)) → shown d ≡ b → bag_of t ≡ at_id (bag_of s) id b
  unfolding bag_of
  bags_shown id d b e f = fun_ext (λ u. ap shown (e u) ∙ pick (nat_eq id u) (slot s u))
    where
      pick : (q : Bool) (r : Slot) → shown (if q then d else r) ≡ (if q then b else shown r)
      pick true r = f
      pick false r = refl

  -- one bag changes
  module _ (id : ℕ) (d : Slot) (e : (u : ℕ) → slot t u ≡ (if nat_eq id u then d else slot s u)) where
    pub slot_here : slot t id ≡ d
    slot_here = e id ∙ rw (self id) refl
      where
        self : (n : ℕ) → nat_eq n n ≡ true
        self n = elim (cases_Bool (nat_eq n n)) [ inl q ↦ q | inr q ↦ absurd (eqb-false n n q refl) ]

    pub slot_other : (u : ℕ) → id ≢ u → slot t u ≡ slot s u
    slot_other u n = e u ∙ elim (cases_Bool (nat_eq id u)) [ inl q ↦ absurd (n (eqb-true id u q)) | inr q ↦ rw q refl ]

    pub one_columns : ((k : Key) → things d.body k ≡ things (slot s id).body k) → SameColumns s t
    one_columns same = same_columns (λ u k. elim (cases_eq id u) [
      | inl q ↦ let P : ℕ → Type 0 = λ v. things (slot t v).body k ≡ things (slot s v).body k in subst P q (ap (λ (b : Slot). things b.body k) slot_here ∙ same k)
      | inr n ↦ ap (λ (b : Slot). things b.body k) (slot_other u n)
    ])

    -- a bag that changes in what contracts see alone
    pub one_sound : IsSound s → ((k : Key) → things d.body k ≡ things (slot s id).body k) → length s.bags ≤ length bags → IsTimely d.body → (SameColumns s t → IsBag t id d) → IsSound t
    one_sound h same long timely bag =
        let columns : SameColumns s t = one_columns same in
        sound_bags h columns long
        (λ u. elim (cases_eq id u) [
          | inl q ↦ let P : ℕ → Type 0 = λ v. IsBag t v (slot t v) in subst P q (let Q : Slot → Type 0 = λ b. IsBag t id b in subst Q (sym slot_here) (bag columns))
          | inr n ↦ let Q : Slot → Type 0 = λ b. IsBag t u b in subst Q (sym (slot_other u n)) (same_bag s t u (slot s u) (slot s u) (kept_self (slot s u)) columns (λ c q. inl q) (λ o c q. q) (h.bags u))
        ])
        (λ u. elim (cases_eq id u) [
          | inl q ↦ let P : ℕ → Type 0 = λ v. IsTimely (slot t v).body in subst P q (let Q : Slot → Type 0 = λ b. IsTimely b.body in subst Q (sym slot_here) timely)
          | inr n ↦ let Q : Slot → Type 0 = λ b. IsTimely b.body in subst Q (sym (slot_other u n)) (h.bag_times u)
        ])

    pub one_found : IsSound s → ((k : Key) → things d.body k ≡ things (slot s id).body k) → (k : Key) → found t k ≡ found s k
    one_found h same k = same_found s t (one_columns same) h.unique k

    -- as before, but perhaps listed no more
    pub one_kept : IsSound s → Kept (slot s id) d → SameColumns s t → IsBag t id d
    one_kept h kept columns = same_bag s t id (slot s id) d kept columns (λ c q. inl q) (λ o c q. q) (h.bags id)

    pub one_step : (b : Bag) → IsSound s → ((k : Key) → things d.body k ≡ things (slot s id).body k) → length bags ≡ length s.bags → IsTimely d.body → (SameColumns s t → IsBag t id d) → shown d ≡ b → OneStep s t id b
    unfolding next_of
    one_step b h same long timely bag e' = record {
      sound = one_sound h same (omega arith) timely bag;
      bags = bags_shown id d b e e';
      next = long;
      contents = same_flat s t (one_found h same);
      tasks = same_jobs s t (one_found h same);
    }

-- a bag that is here is that of an id below the next one
pub here_below : (s : Stock) (id : ℕ) → (bag_of s id).here ≡ true → id < next_of s
unfolding bag_of next_of
here_below s id h = here_range s.bags id h
