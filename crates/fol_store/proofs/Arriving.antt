-- Spots that come, and tasks that go to the spots of their chunks.
use Rattle.std.proofs.Common.{◌≡◌, ◌≢◌, ℕ, ◌+◌, ◌-◌, ◌^◌, ◌<◌, ◌≤◌, Bool, true, false, not, cond, List, [], ◌∷◌, ◌++◌, length, refl, sym, ◌∙◌, ap, subst, inl, inr, arith, lit≤, length-append, Option, Some, None}
use Rattle.std.specs.Prelude.{nat_eq, if◌then◌else◌, All}
use Rattle.std.specs.List.{IsDistinct, AllByRecursion}
use Rattle.std.specs.Option.{option_or, option_map}
use Rattle.std.proofs.lemmas.Bool.{cases_Bool, cases_eq, eqb-true}
use Rattle.std.proofs.Math.ListN.{get_or-eq_default}
use Rattle.std.proofs.lemmas.List.{get_or_append_left}
use Rattle.fol_model.specs.declared.places.ChunkPos.{ChunkPos}
use Rattle.fol_model.specs.Geometry.{same_chunk}
use Rattle.fol_model.specs.ActionStep.{Flat}
use Rattle.fol_chunks.specs.Contents.{is_recorded}
use Rattle.fol_model.specs.Job.{Job, queued}
use Rattle.fol_keyed.proofs.Places.{same_chunk-true}
use Rattle.fol_keyed.proofs.Keyed.{differ_left, find_push}
use Rattle.fol_queues.proofs.Numbers.{nat_self}
use Rattle.fol_queues.specs.Waiting.{option_filter, dated_in, job_of}
use Rattle.fol_queues.specs.Distinct.{Distinct}
use Rattle.fol_queues.specs.declared.dated.Dated.{Dated}
use Rattle.fol_data.specs.Rests.{IsInTime}
use Rattle.fol_data.specs.declared.region_data.RegionData.{RegionData}
use Rattle.fol_bags.specs.declared.places.Place.{Place}
use Rattle.fol_bags.specs.Moves.{SameThings, Queues}
use Rattle.fol_bags.specs.Places.{PlaceRows}
use Rattle.fol_bags.specs.Things.{Key, of_block, of_entity, of_task, Thing, things, some_number, arrived, chunk_at, IsTimely, no_data}
use Rattle.fol_store.specs.Stock.{Stock, Where, arriving, in_spot, in_bag, slot, spot, place, column, bag_of}
use Rattle.fol_store.specs.Sound.{Allows, IsSound}
use Rattle.fol_store.specs.Steps.{SameMeaning, IsNoted}
use Rattle.fol_store.proofs.Columns.{Moves, or_none}
use Rattle.fol_store.proofs.Totals.{where_cases}
use Rattle.fol_bags.proofs.Empty.{things_none, timely_empty}
use Rattle.fol_store.proofs.Resound.{SameColumns, same_found, same_bag, kept_self, moved_found, moved_sound, MovesSoundly}

pub record Changed (s t : Stock) : Type 0 where
  pub sound : IsSound t
  pub same : SameMeaning s t

pub bags_same : (s t : Stock) → t.bags ≡ s.bags → bag_of t ≡ bag_of s
unfolding bag_of
bags_same s t e = ap (λ bags. bag_of (record s { bags = bags })) e

-- spots with the same things
module _ (s : Stock) (spots : List RegionData) where
  abbrev t : Stock
  t = record s { spots = spots }

  pub spots_changed : ((n : ℕ) (k : Key) → things (spot t n) k ≡ things (spot s n) k) → ((n : ℕ) → IsTimely (spot t n)) → length s.spots ≤ length spots → IsSound s → Changed s t
  spots_changed each times long h =
      record {
        sound = record {
          unique = λ k v w x y p q. h.unique k v w x y (sym (columns k v) ∙ p) (sym (columns k w) ∙ q);
          lies = λ k w x p. h.lies k w x (sym (columns k w) ∙ p);
          spot_range = λ c i e. let l : i < length s.spots = h.spot_range c i e in omega arith;
          bag_range = h.bag_range;
          bags = λ n. same_bag s t n (slot s n) (slot s n) (kept_self (slot s n)) columns (λ c q. inl q) (λ o c q. q) (h.bags n);
          spot_times = times;
          bag_times = h.bag_times;
          arrival_times = h.arrival_times;
          arrivals_differ = h.arrivals_differ;
        };
        same = record { found = same_found s t columns h.unique; bags = refl; spare = omega arith; slots = omega arith };
      }
    where
      columns : SameColumns s t
      columns k arriving = refl
      columns k (in_spot i) = each i k
      columns k (in_bag n) = refl

  -- one more spot, which is empty
  pub spot_added : (len : ℕ) → ((n : ℕ) → spot t n ≡ (if nat_eq len n then spot t len else spot s n)) → SameThings no_data (spot t len) → (spot t len).queues.tasks ≡ [] → len ≡ length s.spots → length spots ≡ len + 1 → IsSound s → Changed s t
  spot_added len e new none at_end long h =
      spots_changed
      (λ n k. elim (cases_eq len n) [
        | inl q ↦
            let old : things (spot s len) k ≡ None = ap (λ (r : RegionData). things r k) (get_or-eq_default s.spots no_data {n = len} (omega arith)) ∙ things_none k in
            let P : ℕ → Type 0 = λ m. things (spot t m) k ≡ things (spot s m) k in subst P q (new.things k ∙ things_none k ∙ sym old)
        | inr f ↦ ap (λ (r : RegionData). things r k) (other n f)
      ])
      (λ n. elim (cases_eq len n) [
        | inl q ↦ let small : (spot t len).tick ≤ 2 ^ 62 = rw new.tick (lit≤ tt) in let P : ℕ → Type 0 = λ m. IsTimely (spot t m) in subst P q (timely_empty (spot t len) small none)
        | inr f ↦ subst IsTimely (sym (other n f)) (h.spot_times n)
      ])
      (omega arith) h
    where
      other : (n : ℕ) → len ≢ n → spot t n ≡ spot s n
      other n f = e n ∙ elim (cases_Bool (nat_eq len n)) [ inl q ↦ absurd (f (eqb-true len n q)) | inr q ↦ rw q refl ]

  -- one spot with the same things
  pub spot_same : (i : ℕ) → ((n : ℕ) → spot t n ≡ (if nat_eq i n then spot t i else spot s n)) → SameThings (spot s i) (spot t i) → IsTimely (spot t i) → length spots ≡ length s.spots → IsSound s → Changed s t
  spot_same i e same timely long h =
      spots_changed
      (λ n k. elim (cases_eq i n) [
        | inl q ↦ let P : ℕ → Type 0 = λ m. things (spot t m) k ≡ things (spot s m) k in subst P q (same.things k)
        | inr f ↦ ap (λ (r : RegionData). things r k) (other n f)
      ])
      (λ n. elim (cases_eq i n) [
        | inl q ↦ let P : ℕ → Type 0 = λ m. IsTimely (spot t m) in subst P q timely
        | inr f ↦ subst IsTimely (sym (other n f)) (h.spot_times n)
      ])
      (omega arith) h
    where
      other : (n : ℕ) → i ≢ n → spot t n ≡ spot s n
      other n f = e n ∙ elim (cases_Bool (nat_eq i n)) [ inl q ↦ absurd (f (eqb-true i n q)) | inr q ↦ rw q refl ]

-- the spot of a chunk that had none
module _ (s : Stock) (places : PlaceRows) (c : ChunkPos) (i : ℕ) (old : Place) (is : old ≡ place s c) (none_named : old.spot ≡ None) where
  abbrev u : Stock
  u = record s { places = places }

  pub spot_named : ((q : ChunkPos) → place u q ≡ (if same_chunk c q then (let p : Place = record { spot = Some i; bag = old.bag } in p) else place s q)) → i < length s.spots → IsSound s → Changed s u
  spot_named homes range h =
      record {
        sound = record {
          unique = λ k v w x y p q. h.unique k v w x y (sym (columns k v) ∙ p) (sym (columns k w) ∙ q);
          lies = λ k w x p. allows (chunk_at k x) w (h.lies k w x (sym (columns k w) ∙ p));
          spot_range = λ q n e. elim (cases_Bool (same_chunk c q)) [
            | inl z ↦ let f : Some i ≡ Some n = sym (ap (λ (p : Place). p.spot) (homes q) ∙ rw z refl) ∙ e in let g : i ≡ n = cc in subst (λ m. m < length s.spots) g range
            | inr z ↦ h.spot_range q n (sym (ap (λ (p : Place). p.spot) (homes q) ∙ rw z refl) ∙ e)
          ];
          bag_range = λ q n e. h.bag_range q n (sym (home_bag q) ∙ e);
          bags = λ n. same_bag s u n (slot s n) (slot s n) (kept_self (slot s n)) columns (λ q e. inl (sym (home_bag q) ∙ e)) (λ o q e. home_bag q ∙ e) (h.bags n);
          spot_times = h.spot_times;
          bag_times = h.bag_times;
          arrival_times = h.arrival_times;
          arrivals_differ = h.arrivals_differ;
        };
        same = record { found = same_found s u columns h.unique; bags = refl; spare = omega arith; slots = omega arith };
      }
    where
      columns : SameColumns s u
      columns k arriving = refl
      columns k (in_spot n) = refl
      columns k (in_bag n) = refl

      home_bag : (q : ChunkPos) → (place u q).bag ≡ (place s q).bag
      home_bag q = elim (cases_Bool (same_chunk c q)) [
        | inl z ↦ ap (λ (p : Place). p.bag) (homes q) ∙ rw z (ap (λ (p : Place). p.bag) is ∙ ap (λ y. (place s y).bag) (same_chunk-true c q z))
        | inr z ↦ ap (λ (p : Place). p.bag) (homes q) ∙ rw z refl
      ]

      allows : (q : ChunkPos) (w : Where) → Allows (place s q) w → Allows (place u q) w
      allows q arriving a = tt
      allows q (in_bag n) a = home_bag q ∙ a
      allows q (in_spot n) a = elim (cases_Bool (same_chunk c q)) [
        | inl z ↦ let f : None ≡ Some n = sym none_named ∙ ap (λ (p : Place). p.spot) is ∙ ap (λ y. (place s y).spot) (same_chunk-true c q z) ∙ a in cc
        | inr z ↦ ap (λ (p : Place). p.spot) (homes q) ∙ rw z a
      ]

-- a last task has a number of its own
last_fresh : (xs : List Dated) (d : Dated) → Distinct (xs ++ d ∷ []) → dated_in xs d.task.number ≡ None
unfolding IsDistinct
last_fresh [] d h = refl
last_fresh (x ∷ xs) d h =
    let f : nat_eq x.task.number d.task.number ≡ false = last_of x xs d h.0 in
    rw f (last_fresh xs d h.1)
  where
    last_of : (x : Dated) (ys : List Dated) (d : Dated) → AllByRecursion (λ y. nat_eq x.task.number y.task.number ≡ false) (ys ++ d ∷ []) → nat_eq x.task.number d.task.number ≡ false
    last_of x [] d h = h.0
    last_of x (y ∷ ys) d h = last_of x ys d h.1

arrived_push : (xs : List Dated) (d : Dated) → dated_in xs d.task.number ≡ None → (n : ℕ) → arrived (xs ++ d ∷ []) (of_task n) ≡ (if nat_eq d.task.number n then Some (queued d.task.chunk d.deadline d.task.action) else arrived xs (of_task n))
arrived_push xs d none n = ap (option_map (job_of 0)) (find_push nat_eq eqb-true nat_self (λ (b : Dated). b.task.number) xs d none n) ∙ pick (nat_eq d.task.number n) (dated_in xs n)
  where
    same : job_of 0 d ≡ queued d.task.chunk d.deadline d.task.action
    same = let z : d.deadline - 0 ≡ d.deadline = omega arith in ap (λ m. queued d.task.chunk m d.task.action) z

    pick : (q : Bool) (o : Option Dated) → option_map (job_of 0) (cond q (Some d) o) ≡ (if q then Some (queued d.task.chunk d.deadline d.task.action) else option_map (job_of 0) o)
    pick true o = ap (λ (j : Job). Some j) same
    pick false o = refl

-- the last task that came
module _ (s : Stock) (xs : List Dated) (d : Dated) (arrivals_are : s.arrivals ≡ xs ++ d ∷ []) where
  abbrev pub last_job : Job
  last_job = queued d.task.chunk d.deadline d.task.action

  abbrev pub is_last : (k : Key) → Thing k → Bool
  is_last (of_block b) x = false
  is_last (of_entity id) x = false
  is_last (of_task n) x = nat_eq d.task.number n

  module _ (differ : Distinct s.arrivals) where
    differs : Distinct (xs ++ d ∷ [])
    differs = subst Distinct arrivals_are differ

    not_before : dated_in xs d.task.number ≡ None
    not_before = last_fresh xs d differs

    arrived_last : (n : ℕ) → arrived s.arrivals (of_task n) ≡ (if nat_eq d.task.number n then Some last_job else arrived xs (of_task n))
    arrived_last n = ap (λ (ds : List Dated). arrived ds (of_task n)) arrivals_are ∙ arrived_push xs d not_before n

    pub others_differ : Distinct xs
    others_differ = differ_left nat_eq eqb-true nat_self (λ (b : Dated). b.task.number) xs (d ∷ []) differs

    -- it lies nowhere else
    pub nowhere_else : IsSound s → (w : Where) → arriving ≢ w → column s (of_task d.task.number) w ≡ None
    nowhere_else h w n = go (column s (of_task d.task.number) w) refl
      where
        there : column s (of_task d.task.number) arriving ≡ Some last_job
        there = arrived_last d.task.number ∙ rw (nat_self d.task.number) refl

        go : (o : Option Job) → column s (of_task d.task.number) w ≡ o → column s (of_task d.task.number) w ≡ None
        go None e = e
        go (Some y) e = absurd (n (h.unique (of_task d.task.number) arriving w last_job y there e))

    pub last_chunk_is : (k : Key) (x : Thing k) → column s k arriving ≡ Some x → is_last k x ≡ true → chunk_at k x ≡ d.task.chunk
    last_chunk_is (of_block b) x q g = (let f : false ≡ true = g in cc)
    last_chunk_is (of_entity id) x q g = (let f : false ≡ true = g in cc)
    last_chunk_is (of_task n) x q g =
        let all : arrived s.arrivals (of_task n) ≡ Some last_job = rw g at (arrived_last n) in
        let e : Some last_job ≡ Some x = sym all ∙ q in
        let f : last_job ≡ x = cc in
        ap (λ (j : Job). j.chunk) (sym f)

    -- the others wait on
    pub others_wait : (k : Key) → arrived xs k ≡ option_filter (λ x. not (is_last k x)) (arrived s.arrivals k)
    others_wait (of_block b) = refl
    others_wait (of_entity id) = refl
    others_wait (of_task n) = elim (cases_Bool (nat_eq d.task.number n)) [
      | inl z ↦
          let m : d.task.number ≡ n = eqb-true d.task.number n z in
          let none : arrived xs (of_task n) ≡ None = ap (option_map (job_of 0)) (sym (ap (dated_in xs) m) ∙ not_before) in
          let all : arrived s.arrivals (of_task n) ≡ Some last_job = rw z at (arrived_last n) in
          rw (z, all, none) refl
      | inr z ↦
          let all : arrived s.arrivals (of_task n) ≡ arrived xs (of_task n) = rw z at (arrived_last n) in
          rw (z, all) (sym (all_pass (arrived xs (of_task n))))
    ]
      where
        all_pass : {X : Type 0} (o : Option X) → option_filter (λ x. true) o ≡ o
        all_pass None = refl
        all_pass (Some x) = refl

    -- it came into these data
    pub came_in : (old middle last : RegionData) → SameThings old middle → Queues d middle last → things old (of_task d.task.number) ≡ None
        → (k : Key) → things last k ≡ option_or (things old k) (option_filter (is_last k) (arrived s.arrivals k))
    came_in old middle last same came fresh (of_block b) = ap (λ (f : Flat). some_number (f.blocks b)) came.contents ∙ same.things (of_block b) ∙ sym (or_none (things old (of_block b)))
    came_in old middle last same came fresh (of_entity id) = ap (λ (f : Flat). f.standing id) came.contents ∙ same.things (of_entity id) ∙ sym (or_none (things old (of_entity id)))
    came_in old middle last same came fresh (of_task n) =
        elim (cases_Bool (nat_eq d.task.number n)) [
          | inl z ↦
              let m : d.task.number ≡ n = eqb-true d.task.number n z in
              let none : things old (of_task n) ≡ None = sym (ap (λ q. things old (of_task q)) m) ∙ fresh in
              let all : arrived s.arrivals (of_task n) ≡ Some last_job = rw z at (arrived_last n) in
              (rw z at (came.tasks n)) ∙ rw (none, all, z) refl
          | inr z ↦ (rw z at (came.tasks n)) ∙ same.things (of_task n) ∙ sym (ap (λ b. option_or (things old (of_task n)) (option_filter (λ (j : Job). b) (arrived s.arrivals (of_task n)))) z ∙ none_pass (things old (of_task n)) (arrived s.arrivals (of_task n)))
        ]
      where
        none_pass : {X : Type 0} (o r : Option X) → option_or o (option_filter (λ x. false) r) ≡ o
        none_pass None None = refl
        none_pass None (Some x) = refl
        none_pass (Some y) r = refl

-- the last task that came goes to a spot
module _ (s : Stock) (xs : List Dated) (d : Dated) (spots : List RegionData) (spare i : ℕ) (middle last : RegionData) (arrivals_are : s.arrivals ≡ xs ++ d ∷ []) where
  abbrev v : Stock
  v = record s { arrivals = xs; spots = spots; spare = spare }

  abbrev goes : (k : Key) → Thing k → Bool
  goes k x = is_last s xs d arrivals_are k x

  module _ (differ : Distinct s.arrivals) where
    pub nothing_there : IsSound s → things (spot s i) (of_task d.task.number) ≡ None
    nothing_there h = nowhere_else s xs d arrivals_are differ h (in_spot i) (λ e. cc)

    module _ (h : IsSound s) (each : (n : ℕ) → spot v n ≡ (if nat_eq i n then last else spot s n)) (same : SameThings (spot s i) middle) (came : Queues d middle last) where
      spot_here : spot v i ≡ last
      spot_here = each i ∙ rw (nat_self i) refl

      spot_other : (n : ℕ) → i ≢ n → spot v n ≡ spot s n
      spot_other n f = each n ∙ elim (cases_Bool (nat_eq i n)) [ inl q ↦ absurd (f (eqb-true i n q)) | inr q ↦ rw q refl ]

      come : (k : Key) → column v k (in_spot i) ≡ option_or (column s k (in_spot i)) (option_filter (goes k) (column s k arriving))
      come k = ap (λ (r : RegionData). things r k) spot_here ∙ came_in s xs d arrivals_are differ (spot s i) middle last same came (nothing_there h) k

      apart : arriving ≢ in_spot i
      apart e = cc

      moves : (k : Key) → Moves where_cases (column s k) (column v k) arriving (in_spot i) (goes k)
      moves k = record { left = others_wait s xs d arrivals_are differ k; come = come k; rest = rest k }
        where
          rest : (k : Key) (w : Where) → w ≢ arriving → w ≢ in_spot i → column v k w ≡ column s k w
          rest k arriving a b = absurd (a refl)
          rest k (in_spot n) a b = ap (λ (r : RegionData). things r k) (spot_other n (λ e. b (ap (λ m. in_spot m) (sym e))))
          rest k (in_bag n) a b = refl

      pub handed_out : (place s d.task.chunk).spot ≡ Some i → IsNoted s d.task.chunk → IsTimely last → length spots ≡ length s.spots → All (IsInTime 0) xs → s.spare ≤ spare → Changed s v
      handed_out at noted timely long in_time more = record {
        sound = moved_sound s v arriving (in_spot i) goes apart moves soundly h;
        same = record { found = moved_found s v arriving (in_spot i) goes apart moves h.unique; bags = refl; spare = more; slots = omega arith };
      }
        where
          target : (k : Key) (x : Thing k) → column s k arriving ≡ Some x → goes k x ≡ true → (place s (chunk_at k x)).spot ≡ Some i
          target k x q g = ap (λ z. (place s z).spot) (last_chunk_is s xs d arrivals_are differ k x q g) ∙ at

          not_calm : (b : Bool) → (b ≡ true → ⊥) → b ≡ false
          not_calm true f = absurd (f refl)
          not_calm false f = refl

          soundly : MovesSoundly s v arriving (in_spot i) goes apart moves
          soundly = record {
            come = target;
            stay = λ k w x q f. h.lies k w x q;
            spot_range = λ c n e. let l : n < length s.spots = h.spot_range c n e in omega arith;
            bag_range = h.bag_range;
            kept = λ n. kept_self (slot s n);
            fewer = λ n o c q. inl q;
            more = λ n o c q. q;
            lands = λ n o k x q p r.
                let mine : chunk_at k x ≡ d.task.chunk = last_chunk_is s xs d arrivals_are differ k x q p in
                let calm : (slot s n).calm ≡ false = not_calm (slot s n).calm ((h.bags n).near o k arriving x q r) in
                let home : (place s (chunk_at k x)).bag ≡ Some n = (h.bags n).held (rw o refl) (chunk_at k x) r in
                ap (is_recorded (slot s n).touched) mine ∙ noted n (ap (λ z. (place s z).bag) (sym mine) ∙ home) o calm;
            none_come = λ n o e. cc;
            spot_times = λ n. elim (cases_eq i n) [
              | inl q ↦ let P : ℕ → Type 0 = λ m. IsTimely (spot v m) in subst P q (subst IsTimely (sym spot_here) timely)
              | inr f ↦ subst IsTimely (sym (spot_other n f)) (h.spot_times n)
            ];
            bag_times = h.bag_times;
            arrival_times = in_time;
            arrivals_differ = others_differ s xs d arrivals_are differ;
          }

-- what holds of all holds of those at the front
pub all_before : {X : Type 0} (P : X → Type 0) (xs ys : List X) → All P (xs ++ ys) → All P xs
all_before P xs ys h k d l = subst P (get_or_append_left xs ys d k l) (h k d (let e : length (xs ++ ys) ≡ length xs + length ys = length-append xs ys in omega arith))

-- a spot that was written twice
pub twice_written : (i : ℕ) (a b e : ℕ → RegionData) → ((n : ℕ) → b n ≡ (if nat_eq i n then b i else a n)) → ((n : ℕ) → e n ≡ (if nat_eq i n then e i else b n)) → (n : ℕ) → e n ≡ (if nat_eq i n then e i else a n)
twice_written i a b e f g n =
    elim (cases_Bool (nat_eq i n)) [
      | inl q ↦ g n ∙ rw q refl
      | inr q ↦ g n ∙ rw q (f n ∙ rw q refl)
    ]
