-- A task that comes.
use Rattle.std.proofs.Common.{◌≡◌, ℕ, ◌-◌, ◌<◌, Bool, true, false, not, cond, ◌&&◌, List, [], ◌∷◌, ◌++◌, length, get_or, refl, sym, ◌∙◌, ap, subst, ◌⊎◌, inl, inr, arith, Option, Some, None}
use Rattle.std.specs.Prelude.{nat_eq, if◌then◌else◌, IsNone}
use Rattle.std.specs.Option.{option_map}
use Rattle.std.proofs.lemmas.Bool.{cases_Bool, eqb-true, and_parts}
use Rattle.std.proofs.lemmas.List.Elements.{All-append, All-cons, All-nil}
use Rattle.std.proofs.Math.Path.{fun_ext}
use Rattle.fol_model.specs.ActionStep.{at_id}
use Rattle.fol_model.specs.Job.{Job, queued}
use Rattle.fol_chunks.specs.Contents.{is_recorded}
use Rattle.fol_queues.specs.Waiting.{dated_in, job_of}
use Rattle.fol_queues.specs.declared.dated.Dated.{Dated}
use Rattle.fol_queues.proofs.Numbers.{nat_self}
use Rattle.fol_keyed.proofs.Keyed.{find_push, differ_push}
use Rattle.fol_data.specs.Rests.{IsInTime}
use Rattle.fol_bags.specs.declared.slot.Slot.{Slot}
use Rattle.fol_store.specs.Bag.{disturbed}
use Rattle.fol_bags.specs.Places.{is_bag}
use Rattle.fol_bags.specs.Slots.{stays_calm, no_slot}
use Rattle.fol_bags.specs.Things.{Key, of_block, of_entity, of_task, Thing, things, chunk_at, IsTimely}
use Rattle.fol_store.specs.Stock.{Stock, Where, arriving, in_spot, in_bag, slot, place, column, found, flat_of, jobs_of, bag_of, shown}
use Rattle.fol_store.specs.Sound.{Allows, Near, IsBag, IsSound}
use Rattle.fol_store.proofs.Totals.{IsUnique, found_of, found_none, found_columns, same_flat_at}
use Rattle.fol_store.proofs.Resound.{Kept, kept_bag, near_kept}
use Rattle.fol_store.proofs.BagSteps.{with_room}
use Rattle.fol_bags.proofs.PlaceSteps.{is_bag-some, bag-from_is}

pub map_none : {X Y : Type 0} (f : X → Y) (o : Option X) → option_map f o ≡ None → o ≡ None
map_none f None h = refl
map_none f (Some x) h = cc

module _ (s : Stock) (d : Dated) (bags : List Slot) (spare slots : ℕ)
    (e : (u : ℕ) → get_or bags u no_slot ≡ (if is_bag u (place s d.task.chunk) then record (slot s u) { calm = stays_calm (slot s u) } else slot s u))
    (fresh : found s (of_task d.task.number) ≡ None) (h : IsSound s) where
  abbrev t : Stock
  t = with_room s (s.arrivals ++ d ∷ []) bags spare slots

  abbrev job : Job
  job = queued d.task.chunk d.deadline d.task.action

  body_same : (u : ℕ) (k : Key) → things (slot t u).body k ≡ things (slot s u).body k
  body_same u k = ap (λ (b : Slot). things b.body k) (e u) ∙ pick (is_bag u (place s d.task.chunk)) (slot s u)
    where
      pick : (q : Bool) (r : Slot) → things (let z : Slot = (if q then record r { calm = stays_calm r } else r) in z).body k ≡ things r.body k
      pick true r = refl
      pick false r = refl

  no_arrival : dated_in s.arrivals d.task.number ≡ None
  no_arrival = map_none (job_of 0) (dated_in s.arrivals d.task.number) (found_none s (of_task d.task.number) fresh arriving)

  arrived_push : (n : ℕ) → column t (of_task n) arriving ≡ (if nat_eq d.task.number n then Some job else column s (of_task n) arriving)
  arrived_push n = ap (option_map (job_of 0)) (find_push nat_eq eqb-true nat_self (λ (b : Dated). b.task.number) s.arrivals d no_arrival n) ∙ pick (nat_eq d.task.number n) (dated_in s.arrivals n)
    where
      same : job_of 0 d ≡ job
      same = let z : d.deadline - 0 ≡ d.deadline = omega arith in ap (λ m. queued d.task.chunk m d.task.action) z

      pick : (q : Bool) (o : Option Dated) → option_map (job_of 0) (cond q (Some d) o) ≡ (if q then Some job else option_map (job_of 0) o)
      pick true o = ap (λ (j : Job). Some j) same
      pick false o = refl

  record New (k : Key) (u : Where) (x : Thing k) : Type 0 where
    pub there : u ≡ arriving
    pub chunk : chunk_at k x ≡ d.task.chunk
    pub none : found s k ≡ None

  back : (k : Key) (u : Where) (x : Thing k) → column t k u ≡ Some x → (column s k u ≡ Some x) ⊎ New k u x
  back (of_block b) arriving x q = inl q
  back (of_entity id) arriving x q = inl q
  back (of_task n) arriving x q =
      elim (cases_Bool (nat_eq d.task.number n)) [
        | inl z ↦
            let f : Some job ≡ Some x = sym (rw z at (arrived_push n)) ∙ q in
            let g : job ≡ x = cc in
            let m : d.task.number ≡ n = eqb-true d.task.number n z in
            inr (record { there = refl; chunk = ap (λ (j : Job). j.chunk) (sym g); none = sym (ap (λ i. found s (of_task i)) m) ∙ fresh })
        | inr z ↦ inl (sym (rw z at (arrived_push n)) ∙ q)
      ]
  back k (in_spot i) x q = inl q
  back k (in_bag u) x q = inl (sym (body_same u k) ∙ q)

  never : {P : Type 0} (k : Key) (w : Where) (x : Thing k) → found s k ≡ None → column s k w ≡ Some x → P
  never k w x n q = let z : None ≡ Some x = sym (found_none s k n w) ∙ q in absurd (let f : ⊥ = cc in f)

  pub accepted_unique : IsUnique t
  accepted_unique k v w x y q r =
      elim (back k v x q) [
        | inl a ↦
            elim (back k w y r) [
              | inl b ↦ h.unique k v w x y a b
              | inr b ↦ never k v x b.none a
            ]
        | inr a ↦
            elim (back k w y r) [
              | inl b ↦ never k w y a.none b
              | inr b ↦ a.there ∙ sym b.there
            ]
      ]

  kept : (u : ℕ) → Kept (slot s u) (slot t u)
  kept u = let P : Slot → Type 0 = λ b. Kept (slot s u) b in subst P (sym (e u)) (pick (is_bag u (place s d.task.chunk)))
    where
      pick : (q : Bool) → Kept (slot s u) (if q then record (slot s u) { calm = stays_calm (slot s u) } else slot s u)
      pick true = record { here = refl; taken = refl; chunks = refl; list = refl; touched = refl; listed = λ o. o; calm = λ o. (and_parts (slot s u).calm (not (slot s u).listed) o).0 }
      pick false = record { here = refl; taken = refl; chunks = refl; list = refl; touched = refl; listed = λ o. o; calm = λ o. o }

  -- a listed bag that has the chunk is calm no more
  stirred : (u : ℕ) → (slot t u).listed ≡ true → is_recorded (slot s u).chunks d.task.chunk ≡ true → (slot t u).calm ≡ true → ⊥
  stirred u o r m =
      let before : (slot s u).listed ≡ true = (kept u).listed o in
      let held : (place s d.task.chunk).bag ≡ Some u = (h.bags u).held (rw before refl) d.task.chunk r in
      let f : (slot t u).calm ≡ stays_calm (slot s u) = ap (λ (b : Slot). b.calm) (e u) ∙ rw (is_bag-some (place s d.task.chunk) u held) refl in
      let g : not (slot s u).listed ≡ true = (and_parts (slot s u).calm (not (slot s u).listed) (sym f ∙ m)).1 in
      let z : false ≡ true = rw before at g in cc

  bag : (u : ℕ) → IsBag t u (slot t u)
  bag u = kept_bag s t u (slot s u) (slot t u) (kept u) (λ c q. inl q) (λ o c q. q)
      (λ o k w x q r. elim (back k w x q) [
        | inl a ↦ near_kept u (slot s u) (slot t u) (kept u) (chunk_at k x) w ((h.bags u).near ((kept u).listed o) k w x a r)
        | inr a ↦ let P : Where → Type 0 = λ v. Near u (slot t u) (chunk_at k x) v in subst P (sym a.there) (stirred u o (sym (ap (is_recorded (slot s u).chunks) a.chunk) ∙ r))
      ])
      (λ o k x q. elim (back k (in_bag u) x q) [
        | inl a ↦ (h.bags u).out (sym (kept u).taken ∙ o) k x a
        | inr a ↦ let z : in_bag u ≡ arriving = a.there in cc
      ])
      (h.bags u)

  pub accepted : length bags ≡ length s.bags → IsInTime 0 d → IsSound t
  accepted long in_time = record {
    unique = accepted_unique;
    lies = λ k w x q. elim (back k w x q) [
      | inl a ↦ h.lies k w x a
      | inr a ↦ let P : Where → Type 0 = λ v. Allows (place s (chunk_at k x)) v in subst P (sym a.there) tt
    ];
    spot_range = h.spot_range;
    bag_range = λ c id q. let l : id < length s.bags = h.bag_range c id q in omega arith;
    bags = bag;
    spot_times = h.spot_times;
    bag_times = λ u. timely u;
    arrival_times = All-append (IsInTime 0) s.arrivals (d ∷ []) h.arrival_times (All-cons (IsInTime 0) d [] in_time (All-nil (IsInTime 0)));
    arrivals_differ = differ_push nat_eq eqb-true nat_self (λ (b : Dated). b.task.number) s.arrivals d h.arrivals_differ no_arrival;
  }
    where
      timely : (u : ℕ) → IsTimely (slot t u).body
      timely u = let P : Slot → Type 0 = λ b. IsTimely b.body in subst P (sym (e u)) (pick (is_bag u (place s d.task.chunk)))
        where
          pick : (q : Bool) → IsTimely (let z : Slot = (if q then record (slot s u) { calm = stays_calm (slot s u) } else slot s u) in z).body
          pick true = h.bag_times u
          pick false = h.bag_times u

  pub accepted_tasks : jobs_of t ≡ at_id (jobs_of s) d.task.number (Some job)
  unfolding jobs_of
  accepted_tasks = fun_ext each
    where
      each : (n : ℕ) → found t (of_task n) ≡ (if nat_eq d.task.number n then Some job else found s (of_task n))
      each n =
          elim (cases_Bool (nat_eq d.task.number n)) [
            | inl z ↦ rw z (found_of t accepted_unique (of_task n) arriving job (rw z at (arrived_push n)))
            | inr z ↦ rw z (found_columns s t h.unique accepted_unique (of_task n) (columns z))
          ]
        where
          columns : nat_eq d.task.number n ≡ false → (w : Where) → column t (of_task n) w ≡ column s (of_task n) w
          columns z arriving = rw z at (arrived_push n)
          columns z (in_spot i) = refl
          columns z (in_bag u) = body_same u (of_task n)

  pub accepted_contents : flat_of t ≡ flat_of s
  accepted_contents = same_flat_at s t
      (λ b. found_columns s t h.unique accepted_unique (of_block b) (blocks b))
      (λ id. found_columns s t h.unique accepted_unique (of_entity id) (entities id))
    where
      blocks : (b : _) (w : Where) → column t (of_block b) w ≡ column s (of_block b) w
      blocks b arriving = refl
      blocks b (in_spot i) = refl
      blocks b (in_bag u) = body_same u (of_block b)

      entities : (id : ℕ) (w : Where) → column t (of_entity id) w ≡ column s (of_entity id) w
      entities id arriving = refl
      entities id (in_spot i) = refl
      entities id (in_bag u) = body_same u (of_entity id)

  pub accepted_bags : bag_of t ≡ λ id. disturbed d.task.chunk (bag_of s id)
  unfolding bag_of
  accepted_bags = fun_ext (λ u. ap shown (e u) ∙ pick u (is_bag u (place s d.task.chunk)) (slot s u).listed (is_recorded (slot s u).chunks d.task.chunk) refl refl refl)
    where
      stays : (u : ℕ) (q : Bool) → ((slot s u).calm && q) ≡ ((slot s u).calm && not ((slot s u).listed && is_recorded (slot s u).chunks d.task.chunk))
          → (let b : Slot = record (slot s u) { calm = (slot s u).calm && q } in shown b) ≡ disturbed d.task.chunk (shown (slot s u))
      stays u q f = λ i. record (shown (slot s u)) { calm = f i }

      and_true : (b : Bool) → b ≡ (b && true)
      and_true true = refl
      and_true false = refl

      pick : (u : ℕ) (q w r : Bool) → is_bag u (place s d.task.chunk) ≡ q → (slot s u).listed ≡ w → is_recorded (slot s u).chunks d.task.chunk ≡ r
          → shown (if q then record (slot s u) { calm = stays_calm (slot s u) } else slot s u) ≡ disturbed d.task.chunk (shown (slot s u))
      pick u true false r a b c = stays u (not (slot s u).listed) (rw b refl)
      pick u true true true a b c = stays u (not (slot s u).listed) (rw (b, c) refl)
      pick u true true false a b c =
          let claimed : is_recorded (slot s u).chunks d.task.chunk ≡ true = (h.bags u).claims ((h.bags u).opened b) d.task.chunk (bag-from_is (place s d.task.chunk) u a) in
          let z : true ≡ false = sym claimed ∙ c in cc
      pick u false true true a b c =
          let held : (place s d.task.chunk).bag ≡ Some u = (h.bags u).held (rw b refl) d.task.chunk c in
          let z : true ≡ false = sym (is_bag-some (place s d.task.chunk) u held) ∙ a in cc
      pick u false false r a b c = λ i. record (shown (slot s u)) { calm = kept_calm i }
        where
          kept_calm : (slot s u).calm ≡ ((slot s u).calm && not ((slot s u).listed && is_recorded (slot s u).chunks d.task.chunk))
          kept_calm = rw b (and_true (slot s u).calm)
      pick u false true false a b c = λ i. record (shown (slot s u)) { calm = kept_calm i }
        where
          kept_calm : (slot s u).calm ≡ ((slot s u).calm && not ((slot s u).listed && is_recorded (slot s u).chunks d.task.chunk))
          kept_calm = rw (b, c) (and_true (slot s u).calm)

pub fresh_found : (s : Stock) (n : ℕ) → IsNone (jobs_of s n) → found s (of_task n) ≡ None
unfolding jobs_of
fresh_found s n h = none_is (found s (of_task n)) h
  where
    none_is : (o : Option Job) → IsNone o → o ≡ None
    none_is None h = refl
    none_is (Some x) h = cc
