-- What lies on some chunks goes from one part to another.
use Rattle.std.proofs.Common.{◌≡◌, ◌≢◌, ℕ, ◌<◌, ◌≤◌, true, false, ◌||◌, ◌&&◌, List, [], length, refl, sym, ◌∙◌, ap, subst, ◌⊎◌, inl, inr, arith, Option, Some, None}
use Rattle.std.specs.Prelude.{nat_eq, if◌then◌else◌}
use Rattle.std.proofs.lemmas.Bool.{cases_Bool, cases_eq, eqb-true}
use Rattle.std.specs.Option.{option_or}
use Rattle.fol_queues.specs.Waiting.{option_filter}
use Rattle.fol_model.specs.declared.places.ChunkPos.{ChunkPos}
use Rattle.fol_chunks.specs.Contents.{is_recorded}
use Rattle.fol_queues.proofs.Numbers.{nat_self}
use Rattle.fol_data.specs.declared.region_data.RegionData.{RegionData}
use Rattle.fol_bags.specs.declared.slot.Slot.{Slot}
use Rattle.fol_bags.specs.declared.places.Place.{Place}
use Rattle.fol_store.specs.Gathered.{IsClear, Spared}
use Rattle.fol_bags.specs.Places.{PlaceRows, rehomed}
use Rattle.fol_bags.specs.Moves.{Loses, Gains, SameThings}
use Rattle.fol_bags.specs.Things.{Key, Thing, things, chunk_at, IsTimely}
use Rattle.fol_store.specs.Stock.{Stock, Where, arriving, in_spot, in_bag, slot, place, column, bag_of, shown}
use Rattle.fol_store.specs.Sound.{Allows, IsSound}
use Rattle.fol_store.specs.Steps.{Draws}
use Rattle.fol_store.proofs.Columns.{Moves, moves_back}
use Rattle.fol_store.proofs.Totals.{where_cases}
use Rattle.fol_store.proofs.Resound.{Kept, kept_self, moved_found, moved_sound, MovesSoundly}
use Rattle.fol_bags.proofs.Homes.{Homed, rehomed-spot, rehomed-keeps, rehomed-cases, rehomed-moves}

-- a store with other spots, bags and places
abbrev pub with_parts : Stock → List RegionData → List Slot → PlaceRows → ℕ → ℕ → Stock
with_parts s spots bags places spare slots = record s { spots = spots; bags = bags; places = places; spare = spare; slots = slots }

pub record Drawn (id : ℕ) (chunks : List ChunkPos) (s t : Stock) : Type 0 where
  pub sound : IsSound t
  pub draws : Draws id chunks s t

never : {P : Type 0} → false ≡ true → P
never e = absurd (let z : ⊥ = cc in z)

-- what lies on some chunks goes from one bag to another, whatever else changes in the two
module _ (s : Stock) (bags : List Slot) (places : PlaceRows) (spare slots u id : ℕ) (chunks : List ChunkPos) (source target : Slot) where
  abbrev after : Stock
  after = with_parts s s.spots bags places spare slots

  pub record Pours : Type 0 where
    pub each : (n : ℕ) → slot after n ≡ (if nat_eq u n then source else (if nat_eq id n then target else slot s n))
    pub loses : Loses chunks (slot s u).body source.body
    pub gains : Gains chunks (slot s u).body (slot s id).body target.body
    pub homes : (q : ChunkPos) → place after q ≡ rehomed chunks u id q (place s q)
    pub apart : u ≢ id
    pub long : length bags ≡ length s.bags
    pub there : id < length s.bags
    pub timely : IsTimely source.body
    pub to_timely : IsTimely target.body

  module _ (d : Pours) where
    pub at_source : slot after u ≡ source
    at_source = d.each u ∙ rw (nat_self u) refl

    pub at_target : slot after id ≡ target
    at_target = d.each id ∙ elim (cases_Bool (nat_eq u id)) [
      | inl e ↦ absurd (d.apart (eqb-true u id e))
      | inr e ↦ rw (e, nat_self id) refl
    ]

    pub at_other : (n : ℕ) → u ≢ n → id ≢ n → slot after n ≡ slot s n
    at_other n a b = d.each n ∙ elim (cases_Bool (nat_eq u n)) [
      | inl e ↦ absurd (a (eqb-true u n e))
      | inr e ↦ elim (cases_Bool (nat_eq id n)) [
        | inl f ↦ absurd (b (eqb-true id n f))
        | inr f ↦ rw (e, f) refl
      ]
    ]

    pub apart_bags : in_bag u ≢ in_bag id
    apart_bags e = let f : u ≡ id = cc in d.apart f

    pub moves_over : (k : Key) → Moves where_cases (column s k) (column after k) (in_bag u) (in_bag id) (λ x. is_recorded chunks (chunk_at k x))
    moves_over k = record {
      left = ap (λ (b : Slot). things b.body k) at_source ∙ d.loses.things k;
      come = ap (λ (b : Slot). things b.body k) at_target ∙ d.gains.things k;
      rest = rest k;
    }
      where
        rest : (k : Key) (w : Where) → w ≢ in_bag u → w ≢ in_bag id → column after k w ≡ column s k w
        rest k arriving a b = refl
        rest k (in_spot i) a b = refl
        rest k (in_bag n) a b = ap (λ (q : Slot). things q.body k) (at_other n (λ e. a (ap (λ m. in_bag m) (sym e))) (λ e. b (ap (λ m. in_bag m) (sym e))))

    -- each bag is the source, the target or another
    pub by_bag : (P : ℕ → Slot → Type 0) → P u source → P id target → ((n : ℕ) → u ≢ n → id ≢ n → P n (slot s n)) → (n : ℕ) → P n (slot after n)
    by_bag P a b c n =
        elim (cases_eq u n) [
          | inl e ↦ let Q : ℕ → Type 0 = λ m. P m (slot after m) in subst Q e (subst (P u) (sym at_source) a)
          | inr f ↦ elim (cases_eq id n) [
            | inl e ↦ let Q : ℕ → Type 0 = λ m. P m (slot after m) in subst Q e (subst (P id) (sym at_target) b)
            | inr g ↦ subst (P n) (sym (at_other n f g)) (c n f g)
          ]
        ]

    pub home_spot : (c : ChunkPos) → (place after c).spot ≡ (place s c).spot
    home_spot c = ap (λ (p : Place). p.spot) (d.homes c) ∙ rehomed-spot chunks u id c (place s c)

    pub home_keeps : (c : ChunkPos) (n : ℕ) → (place s c).bag ≡ Some n → (n ≡ u → is_recorded chunks c ≡ false) → (place after c).bag ≡ Some n
    home_keeps c n e f = ap (λ (p : Place). p.bag) (d.homes c) ∙ rehomed-keeps chunks u id c (place s c) n e f

    pub home_moves : (c : ChunkPos) → is_recorded chunks c ≡ true → (place s c).bag ≡ Some u → (place after c).bag ≡ Some id
    home_moves c r e = ap (λ (p : Place). p.bag) (d.homes c) ∙ rehomed-moves chunks u id c (place s c) r e

    pub home_cases : (c : ChunkPos) (n : ℕ) → (place after c).bag ≡ Some n → Homed chunks u id c (place s c) n ⊎ ((place s c).bag ≡ Some n)
    home_cases c n e = rehomed-cases chunks u id c (place s c) n (sym (ap (λ (p : Place). p.bag) (d.homes c)) ∙ e)

    module _ (h : IsSound s) where
      pub comes_over : (k : Key) (x : Thing k) → column s k (in_bag u) ≡ Some x → is_recorded chunks (chunk_at k x) ≡ true → Allows (place after (chunk_at k x)) (in_bag id)
      comes_over k x q r = home_moves (chunk_at k x) r (h.lies k (in_bag u) x q)

      pub stays_over : (k : Key) (w : Where) (x : Thing k) → column s k w ≡ Some x → (w ≡ in_bag u → is_recorded chunks (chunk_at k x) ≡ false) → Allows (place after (chunk_at k x)) w
      stays_over k arriving x q f = tt
      stays_over k (in_spot i) x q f = home_spot (chunk_at k x) ∙ h.lies k (in_spot i) x q
      stays_over k (in_bag n) x q f = home_keeps (chunk_at k x) n (h.lies k (in_bag n) x q) (λ e. f (ap (λ m. in_bag m) e))

      pub spots_within : (c : ChunkPos) (i : ℕ) → (place after c).spot ≡ Some i → i < length s.spots
      spots_within c i q = h.spot_range c i (sym (home_spot c) ∙ q)

      pub bags_within : (c : ChunkPos) (n : ℕ) → (place after c).bag ≡ Some n → n < length bags
      bags_within c n q = elim (home_cases c n q) [
        | inl z ↦ let a : n ≡ id = z.here in let l : id < length s.bags = d.there in let g : length bags ≡ length s.bags = d.long in omega arith
        | inr z ↦ let l : n < length s.bags = h.bag_range c n z in let g : length bags ≡ length s.bags = d.long in omega arith
      ]

      pub times_over : (n : ℕ) → IsTimely (slot after n).body
      times_over = by_bag (λ n b. IsTimely b.body) d.timely d.to_timely (λ n a b. h.bag_times n)

-- from one bag to another, which is not listed meanwhile
module _ (s : Stock) (bags : List Slot) (places : PlaceRows) (spare slots u id : ℕ) (chunks : List ChunkPos) (left come : RegionData) where
  abbrev t : Stock
  t = with_parts s s.spots bags places spare slots

  abbrev source : Slot
  source = record (slot s u) { body = left; listed = false }

  abbrev target : Slot
  target = record (slot s id) { body = come }

  pub record DrawsBag : Type 0 where
    pub pours : Pours s bags places spare slots u id chunks source target
    pub here : (slot s id).here ≡ true
    pub not_listed : (slot s id).listed ≡ false
    pub listed : (c : ChunkPos) → is_recorded chunks c ≡ true → is_recorded (slot s id).chunks c ≡ true
    pub not_taken : (slot s u).taken ≡ false
    pub more_spare : s.spare ≤ spare
    pub more_slots : s.slots ≤ slots

  module _ (d : DrawsBag) (h : IsSound s) where
    slot_u : slot t u ≡ source
    slot_u = at_source s bags places spare slots u id chunks source target d.pours

    slot_id : slot t id ≡ target
    slot_id = at_target s bags places spare slots u id chunks source target d.pours

    apart : in_bag u ≢ in_bag id
    apart = apart_bags s bags places spare slots u id chunks source target d.pours

    moves : (k : Key) → Moves where_cases (column s k) (column t k) (in_bag u) (in_bag id) (λ x. is_recorded chunks (chunk_at k x))
    moves = moves_over s bags places spare slots u id chunks source target d.pours

    each_bag : (P : ℕ → Slot → Type 0) → P u source → P id target → ((n : ℕ) → u ≢ n → id ≢ n → P n (slot s n)) → (n : ℕ) → P n (slot t n)
    each_bag = by_bag s bags places spare slots u id chunks source target d.pours

    keeps : (c : ChunkPos) (n : ℕ) → (place s c).bag ≡ Some n → (n ≡ u → is_recorded chunks c ≡ false) → (place t c).bag ≡ Some n
    keeps = home_keeps s bags places spare slots u id chunks source target d.pours

    not_both : (slot s id).taken ≡ false
    not_both = let e : ((slot s id).here && (slot s id).taken) ≡ false = (h.bags id).one in rw d.here at e

    soundly : MovesSoundly s t (in_bag u) (in_bag id) (λ k x. is_recorded chunks (chunk_at k x)) apart moves
    soundly = record {
      come = comes_over s bags places spare slots u id chunks source target d.pours h;
      stay = stays_over s bags places spare slots u id chunks source target d.pours h;
      spot_range = spots_within s bags places spare slots u id chunks source target d.pours h;
      bag_range = bags_within s bags places spare slots u id chunks source target d.pours h;
      kept = each_bag (λ n b. Kept (slot s n) b)
          (record { here = refl; taken = refl; chunks = refl; list = refl; touched = refl; listed = λ o. never o; calm = λ o. o })
          (record { here = refl; taken = refl; chunks = refl; list = refl; touched = refl; listed = λ o. o; calm = λ o. o })
          (λ n a b. kept_self (slot s n));
      fewer = λ n o c q. elim (home_cases s bags places spare slots u id chunks source target d.pours c n q) [
        | inl z ↦ let P : ℕ → Type 0 = λ m. is_recorded (slot s m).chunks c ≡ true in inr (subst P (sym z.here) (d.listed c z.listed))
        | inr z ↦ inl z
      ];
      more = λ n o c q. keeps c n q (λ e. absurd (not_source n e o));
      lands = λ n o k x q p r. absurd (source_whole n ((h.bags n).near (still_listed n o) k (in_bag u) x q r) o);
      none_come = λ n o e. let f : id ≡ n = cc in target_taken n f o;
      spot_times = h.spot_times;
      bag_times = times_over s bags places spare slots u id chunks source target d.pours h;
      arrival_times = h.arrival_times;
      arrivals_differ = h.arrivals_differ;
    }
      where
        not_source : (n : ℕ) → n ≡ u → ((slot t n).listed || (slot t n).taken) ≡ true → ⊥
        not_source n e o =
            let P : ℕ → Type 0 = λ m. ((slot t m).listed || (slot t m).taken) ≡ true in
            let p : ((slot t u).listed || (slot t u).taken) ≡ true = subst P e o in
            let q : (slot s u).taken ≡ true = rw slot_u at p in
            let z : true ≡ false = sym q ∙ d.not_taken in cc

        still_listed : (n : ℕ) → (slot t n).listed ≡ true → (slot s n).listed ≡ true
        still_listed = each_bag (λ n b. b.listed ≡ true → (slot s n).listed ≡ true) (λ o. never o) (λ o. o) (λ n a b o. o)

        source_whole : (n : ℕ) → u ≡ n → (slot t n).listed ≡ true → ⊥
        source_whole n e o =
            let P : ℕ → Type 0 = λ m. (slot t m).listed ≡ true in
            let p : (slot t u).listed ≡ true = subst P (sym e) o in
            let q : false ≡ true = rw slot_u at p in cc

        target_taken : (n : ℕ) → id ≡ n → (slot t n).taken ≡ true → ⊥
        target_taken n e o =
            let P : ℕ → Type 0 = λ m. (slot t m).taken ≡ true in
            let p : (slot t id).taken ≡ true = subst P (sym e) o in
            let q : (slot s id).taken ≡ true = rw slot_id at p in
            let z : true ≡ false = sym q ∙ not_both in cc

    pub drawn_bag : (all : List ChunkPos) (c : ChunkPos) → is_recorded all c ≡ true → (place s c).bag ≡ Some u → Drawn id all s t
    unfolding bag_of
    drawn_bag all c listed at = record {
      sound = moved_sound s t (in_bag u) (in_bag id) (λ k x. is_recorded chunks (chunk_at k x)) apart moves soundly h;
      draws = record {
        same = record { found = moved_found s t (in_bag u) (in_bag id) (λ k x. is_recorded chunks (chunk_at k x)) apart moves h.unique; bags = d.pours.long; spare = d.more_spare; slots = d.more_slots };
        arrivals = refl;
        own = ap shown slot_id ∙ rw (d.pours.gains.tick, d.pours.gains.owed) refl;
        others = each_bag (λ n b. n ≢ id → Spared all (shown (slot s n)) (shown b))
            (λ f. record { same = rw (d.pours.loses.tick, d.pours.loses.owed) refl; kept = λ o clear. lost o clear; lost = λ o. never o })
            (λ f. absurd (f refl))
            (λ n a b f. record { same = refl; kept = λ o clear. o; lost = λ o. o });
        gathered = λ q g. record {
          place = keeps q id g.place (λ e. absurd (d.pours.apart (sym e)));
          alone = λ k w x a b. elim (moves_back where_cases (column s k) (column t k) (in_bag u) (in_bag id) (λ y. is_recorded chunks (chunk_at k y)) apart (moves k) w x a) [
            | inl z ↦ z.there
            | inr z ↦ g.alone k w x z.had b
          ];
        };
      };
    }
      where
        lost : (slot s u).listed ≡ true → IsClear all (shown (slot s u)) → false ≡ true
        lost o clear =
            let a : is_recorded (slot s u).chunks c ≡ true = (h.bags u).claims ((h.bags u).opened o) c at in
            let b : is_recorded (slot s u).chunks c ≡ false = clear c listed in
            sym b ∙ a

-- where nothing moves, nothing is lost and nothing is gained
pub loses_none : (a b : RegionData) → SameThings a b → Loses [] a b
loses_none a b e = record { things = λ k. e.things k ∙ sym (all_pass (things a k)); tick = e.tick; owed = e.owed }
  where
    all_pass : {X : Type 0} (o : Option X) → option_filter (λ x. true) o ≡ o
    all_pass None = refl
    all_pass (Some x) = refl

pub gains_none : (d a b : RegionData) → SameThings a b → Gains [] d a b
gains_none d a b e = record { things = λ k. e.things k ∙ sym (nothing_more (things a k) (things d k)); tick = e.tick; owed = e.owed }
  where
    nothing_more : {X : Type 0} (o r : Option X) → option_or o (option_filter (λ x. false) r) ≡ o
    nothing_more None None = refl
    nothing_more None (Some x) = refl
    nothing_more (Some y) r = refl
