-- What lies on one chunk goes from its spot into a bag, or from a bag into its spot.
use Rattle.std.proofs.Common.{◌≡◌, ◌≢◌, ℕ, ◌<◌, ◌≤◌, true, false, ◌||◌, List, [], ◌∷◌, length, refl, sym, ◌∙◌, ap, subst, inl, inr, arith, Some, None}
use Rattle.std.specs.Prelude.{nat_eq, if◌then◌else◌}
use Rattle.std.proofs.lemmas.Bool.{cases_Bool, cases_eq, eqb-true}
use Rattle.std.proofs.Math.Path.{fun_ext}
use Rattle.fol_model.specs.declared.places.ChunkPos.{ChunkPos}
use Rattle.fol_model.specs.Geometry.{same_chunk}
use Rattle.fol_chunks.specs.Contents.{is_recorded}
use Rattle.fol_keyed.proofs.Places.{same_chunk-true}
use Rattle.fol_queues.proofs.Numbers.{nat_self}
use Rattle.fol_queues.specs.declared.dated.Dated.{Dated}
use Rattle.fol_data.specs.declared.region_data.RegionData.{RegionData}
use Rattle.fol_bags.specs.declared.slot.Slot.{Slot}
use Rattle.fol_bags.specs.declared.places.Place.{Place}
use Rattle.fol_bags.specs.Places.{PlaceRows}
use Rattle.fol_bags.specs.Moves.{Loses, Gains}
use Rattle.fol_bags.specs.Things.{Key, of_block, of_entity, of_task, Thing, things, chunk_at, arrived, IsTimely}
use Rattle.fol_store.specs.Stock.{Stock, Where, arriving, in_spot, in_bag, slot, spot, place, column, found, bag_of, shown}
use Rattle.fol_store.specs.Sound.{Allows, IsSound}
use Rattle.fol_store.specs.Steps.{SameMeaning, IsGathered}
use Rattle.fol_store.proofs.Columns.{Moves, moves_back}
use Rattle.fol_store.proofs.Totals.{where_cases}
use Rattle.fol_store.proofs.Resound.{Kept, kept_self, moved_found, moved_sound, MovesSoundly}
use Rattle.fol_store.proofs.Drawing.{with_parts}
use Rattle.fol_store.proofs.Outward.{Outward, apart_out, moves_out, home_spot, home_bag, home_before, comes_out, stays_out}

-- the store means the same, and so does each bag
pub record Spotted (s t : Stock) : Type 0 where
  pub sound : IsSound t
  pub same : SameMeaning s t
  pub bags : bag_of t ≡ bag_of s

-- nothing arrives
pub none_arrives : (s : Stock) (k : Key) → s.arrivals ≡ [] → column s k arriving ≡ None
none_arrives s (of_block b) e = refl
none_arrives s (of_entity id) e = refl
none_arrives s (of_task n) e = ap (λ (ds : List Dated). arrived ds (of_task n)) e

module _ (s : Stock) (spots : List RegionData) (bags : List Slot) (places : PlaceRows) (spare slots i id : ℕ) (c : ChunkPos) (in_it out_of_it : RegionData) where
  abbrev t : Stock
  t = with_parts s spots bags places spare slots

  -- the bag with other things
  abbrev changed : Slot
  changed = record (slot s id) { body = in_it }

  pub record OnePair : Type 0 where
    pub each_spot : (n : ℕ) → spot t n ≡ (if nat_eq i n then out_of_it else spot s n)
    pub each_bag : (n : ℕ) → slot t n ≡ (if nat_eq id n then changed else slot s n)
    pub spots_long : length spots ≡ length s.spots
    pub bags_long : length bags ≡ length s.bags
    pub timely : IsTimely in_it
    pub spot_timely : IsTimely out_of_it
    pub tick : in_it.tick ≡ (slot s id).body.tick
    pub owed : in_it.owed ≡ (slot s id).body.owed
    pub more_spare : s.spare ≤ spare
    pub more_slots : s.slots ≤ slots
    pub at_spot : (place s c).spot ≡ Some i
    pub at_bag : (place s c).bag ≡ Some id
    pub not_taken : (slot s id).taken ≡ false

  module _ (d : OnePair) (h : IsSound s) where
    spot_here : spot t i ≡ out_of_it
    spot_here = d.each_spot i ∙ rw (nat_self i) refl

    bag_here : slot t id ≡ changed
    bag_here = d.each_bag id ∙ rw (nat_self id) refl

    spot_other : (n : ℕ) → i ≢ n → spot t n ≡ spot s n
    spot_other n f = d.each_spot n ∙ elim (cases_Bool (nat_eq i n)) [ inl e ↦ absurd (f (eqb-true i n e)) | inr e ↦ rw e refl ]

    bag_other : (n : ℕ) → id ≢ n → slot t n ≡ slot s n
    bag_other n f = d.each_bag n ∙ elim (cases_Bool (nat_eq id n)) [ inl e ↦ absurd (f (eqb-true id n e)) | inr e ↦ rw e refl ]

    by_bag : (P : ℕ → Slot → Type 0) → P id changed → ((n : ℕ) → P n (slot s n)) → (n : ℕ) → P n (slot t n)
    by_bag P a b n =
        elim (cases_eq id n) [
          | inl e ↦ let Q : ℕ → Type 0 = λ m. P m (slot t m) in subst Q e (subst (P id) (sym bag_here) a)
          | inr f ↦ subst (P n) (sym (bag_other n f)) (b n)
        ]

    spot_times : (n : ℕ) → IsTimely (spot t n)
    spot_times n =
        elim (cases_eq i n) [
          | inl e ↦ let Q : ℕ → Type 0 = λ m. IsTimely (spot t m) in subst Q e (subst IsTimely (sym spot_here) d.spot_timely)
          | inr f ↦ subst IsTimely (sym (spot_other n f)) (h.spot_times n)
        ]

    bag_times : (n : ℕ) → IsTimely (slot t n).body
    bag_times = by_bag (λ n b. IsTimely b.body) d.timely h.bag_times

    kept : (n : ℕ) → Kept (slot s n) (slot t n)
    kept = by_bag (λ n b. Kept (slot s n) b) (record { here = refl; taken = refl; chunks = refl; list = refl; touched = refl; listed = λ o. o; calm = λ o. o }) (λ n. kept_self (slot s n))

    still_listed : (n : ℕ) → (slot t n).listed ≡ true → (slot s n).listed ≡ true
    still_listed n = (kept n).listed

    rest : (k : Key) (w : Where) → w ≢ in_spot i → w ≢ in_bag id → column t k w ≡ column s k w
    rest k arriving a b = refl
    rest k (in_spot n) a b = ap (λ (r : RegionData). things r k) (spot_other n (λ e. a (ap (λ m. in_spot m) (sym e))))
    rest k (in_bag n) a b = ap (λ (q : Slot). things q.body k) (bag_other n (λ e. b (ap (λ m. in_bag m) (sym e))))

    shown_same : bag_of t ≡ bag_of s
    unfolding bag_of
    shown_same = fun_ext (by_bag (λ n b. shown b ≡ shown (slot s n)) (rw (d.tick, d.owed) refl) (λ n. refl))

    not_target : (n : ℕ) → (slot t n).taken ≡ true → in_bag id ≢ in_bag n
    not_target n o e =
        let f : id ≡ n = cc in
        let P : ℕ → Type 0 = λ m. (slot t m).taken ≡ true in
        let p : (slot t id).taken ≡ true = subst P (sym f) o in
        let q : (slot s id).taken ≡ true = rw bag_here at p in
        let z : true ≡ false = sym q ∙ d.not_taken in cc

    same_meaning : ((k : Key) → found t k ≡ found s k) → SameMeaning s t
    same_meaning f = record { found = f; bags = d.bags_long; spare = d.more_spare; slots = d.more_slots }

    -- out of the spot, or nothing at all
    module _ (cs : List ChunkPos) (one : (q : ChunkPos) → is_recorded cs q ≡ true → q ≡ c) (homes : (q : ChunkPos) → place t q ≡ place s q) (loses : Loses cs (spot s i) out_of_it) (gains : Gains cs (spot s i) (slot s id).body in_it) where
      apart : in_spot i ≢ in_bag id
      apart e = cc

      moves : (k : Key) → Moves where_cases (column s k) (column t k) (in_spot i) (in_bag id) (λ x. is_recorded cs (chunk_at k x))
      moves k = record {
        left = ap (λ (r : RegionData). things r k) spot_here ∙ loses.things k;
        come = ap (λ (b : Slot). things b.body k) bag_here ∙ gains.things k;
        rest = rest k;
      }

      stays : (c : ChunkPos) (w : Where) → Allows (place s c) w → Allows (place t c) w
      stays c arriving a = tt
      stays c (in_spot n) a = ap (λ (p : Place). p.spot) (homes c) ∙ a
      stays c (in_bag n) a = ap (λ (p : Place). p.bag) (homes c) ∙ a

      soundly : MovesSoundly s t (in_spot i) (in_bag id) (λ k x. is_recorded cs (chunk_at k x)) apart moves
      soundly = record {
        come = λ k x q r. ap (λ (p : Place). p.bag) (homes (chunk_at k x)) ∙ ap (λ z. (place s z).bag) (one (chunk_at k x) r) ∙ d.at_bag;
        stay = λ k w x q f. stays (chunk_at k x) w (h.lies k w x q);
        spot_range = λ q n e. let l : n < length s.spots = h.spot_range q n (sym (ap (λ (p : Place). p.spot) (homes q)) ∙ e) in let g : length spots ≡ length s.spots = d.spots_long in omega arith;
        bag_range = λ q n e. let l : n < length s.bags = h.bag_range q n (sym (ap (λ (p : Place). p.bag) (homes q)) ∙ e) in let g : length bags ≡ length s.bags = d.bags_long in omega arith;
        kept = kept;
        fewer = λ n o q e. inl (sym (ap (λ (p : Place). p.bag) (homes q)) ∙ e);
        more = λ n o q e. ap (λ (p : Place). p.bag) (homes q) ∙ e;
        lands = λ n o k x q p r.
            let theirs : (place s (chunk_at k x)).bag ≡ Some n = (h.bags n).held (rw (still_listed n o) refl) (chunk_at k x) r in
            let mine : (place s (chunk_at k x)).bag ≡ Some id = ap (λ z. (place s z).bag) (one (chunk_at k x) p) ∙ d.at_bag in
            let e : Some id ≡ Some n = sym mine ∙ theirs in cc;
        none_come = not_target;
        spot_times = spot_times;
        bag_times = bag_times;
        arrival_times = h.arrival_times;
        arrivals_differ = h.arrivals_differ;
      }

      pub from_spot : Spotted s t
      from_spot = record {
        sound = moved_sound s t (in_spot i) (in_bag id) (λ k x. is_recorded cs (chunk_at k x)) apart moves soundly h;
        same = same_meaning (moved_found s t (in_spot i) (in_bag id) (λ k x. is_recorded cs (chunk_at k x)) apart moves h.unique);
        bags = shown_same;
      }

      pub keeps_gathered : (q : ChunkPos) → IsGathered s id q → IsGathered t id q
      keeps_gathered q g = record {
        place = ap (λ (p : Place). p.bag) (homes q) ∙ g.place;
        alone = λ k w x a b. elim (moves_back where_cases (column s k) (column t k) (in_spot i) (in_bag id) (λ y. is_recorded cs (chunk_at k y)) apart (moves k) w x a) [
          | inl z ↦ z.there
          | inr z ↦ g.alone k w x z.had b
        ];
      }

      pub gathers : ((q : ChunkPos) → c ≡ q → is_recorded cs q ≡ true) → s.arrivals ≡ [] → IsGathered t id c
      gathers self none = record {
        place = ap (λ (p : Place). p.bag) (homes c) ∙ d.at_bag;
        alone = λ k w x a b. elim (moves_back where_cases (column s k) (column t k) (in_spot i) (in_bag id) (λ y. is_recorded cs (chunk_at k y)) apart (moves k) w x a) [
          | inl z ↦ z.there
          | inr z ↦ only k w x z.had z.fails (same_chunk-true c (chunk_at k x) b)
        ];
      }
        where
          only : (k : Key) (w : Where) (x : Thing k) → column s k w ≡ Some x → (w ≡ in_spot i → is_recorded cs (chunk_at k x) ≡ false) → c ≡ chunk_at k x → w ≡ in_bag id
          only k arriving x a f e = let z : None ≡ Some x = sym (none_arrives s k none) ∙ a in cc
          only k (in_spot n) x a f e =
              let g : Some n ≡ Some i = sym (h.lies k (in_spot n) x a) ∙ ap (λ z. (place s z).spot) (sym e) ∙ d.at_spot in
              let m : n ≡ i = cc in
              let z : true ≡ false = sym (self (chunk_at k x) e) ∙ f (ap (λ v. in_spot v) m) in cc
          only k (in_bag n) x a f e =
              let g : Some n ≡ Some id = sym (h.lies k (in_bag n) x a) ∙ ap (λ z. (place s z).bag) (sym e) ∙ d.at_bag in
              let m : n ≡ id = cc in ap (λ v. in_bag v) m

    -- into the spot
    module _ (homes : (q : ChunkPos) → place t q ≡ (if same_chunk c q then (record (place s c) { bag = None }) else place s q)) (not_listed : (slot s id).listed ≡ false)
        (loses : Loses (c ∷ []) (slot s id).body in_it) (gains : Gains (c ∷ []) (slot s id).body (spot s i) out_of_it) where
      outward : Outward s t i id c in_it out_of_it
      outward = record {
        unnamed = record { homes = homes; at_bag = d.at_bag };
        at_spot = d.at_spot;
        left = λ k. ap (λ (b : Slot). things b.body k) bag_here;
        came = λ k. ap (λ (r : RegionData). things r k) spot_here;
        rest = λ k w a b. rest k w b a;
        loses = loses;
        gains = gains;
      }

      apart_too : in_bag id ≢ in_spot i
      apart_too = apart_out s t i id c in_it out_of_it outward h

      moves_too : (k : Key) → Moves where_cases (column s k) (column t k) (in_bag id) (in_spot i) (λ x. is_recorded (c ∷ []) (chunk_at k x))
      moves_too = moves_out s t i id c in_it out_of_it outward h

      soundly_out : MovesSoundly s t (in_bag id) (in_spot i) (λ k x. is_recorded (c ∷ []) (chunk_at k x)) apart_too moves_too
      soundly_out = record {
        come = comes_out s t i id c in_it out_of_it outward h;
        stay = stays_out s t i id c in_it out_of_it outward h;
        spot_range = λ q n e. let l : n < length s.spots = h.spot_range q n (sym (home_spot s t id c outward.unnamed q) ∙ e) in let g : length spots ≡ length s.spots = d.spots_long in omega arith;
        bag_range = λ q n e. let l : n < length s.bags = h.bag_range q n (home_before s t id c outward.unnamed q n e) in let g : length bags ≡ length s.bags = d.bags_long in omega arith;
        kept = kept;
        fewer = λ n o q e. inl (home_before s t id c outward.unnamed q n e);
        more = λ n o q e. home_bag s t id c outward.unnamed q n e (λ m. absurd (not_mine n m o));
        lands = λ n o k x q p r. absurd (mine_whole n ((h.bags n).near (still_listed n o) k (in_bag id) x q r) o);
        none_come = λ n o e. cc;
        spot_times = spot_times;
        bag_times = bag_times;
        arrival_times = h.arrival_times;
        arrivals_differ = h.arrivals_differ;
      }
        where
          not_mine : (n : ℕ) → n ≡ id → ((slot t n).listed || (slot t n).taken) ≡ true → ⊥
          not_mine n m o =
              let P : ℕ → Type 0 = λ v. ((slot t v).listed || (slot t v).taken) ≡ true in
              let p : ((slot t id).listed || (slot t id).taken) ≡ true = subst P m o in
              let q : ((slot s id).listed || (slot s id).taken) ≡ true = rw bag_here at p in
              let z : false ≡ true = rw (not_listed, d.not_taken) at q in cc

          mine_whole : (n : ℕ) → id ≡ n → (slot t n).listed ≡ true → ⊥
          mine_whole n m o =
              let P : ℕ → Type 0 = λ v. (slot t v).listed ≡ true in
              let p : (slot t id).listed ≡ true = subst P (sym m) o in
              let q : (slot s id).listed ≡ true = rw bag_here at p in
              let z : true ≡ false = sym q ∙ not_listed in cc

      pub into_spot : Spotted s t
      into_spot = record {
        sound = moved_sound s t (in_bag id) (in_spot i) (λ k x. is_recorded (c ∷ []) (chunk_at k x)) apart_too moves_too soundly_out h;
        same = same_meaning (moved_found s t (in_bag id) (in_spot i) (λ k x. is_recorded (c ∷ []) (chunk_at k x)) apart_too moves_too h.unique);
        bags = shown_same;
      }
