-- A listed bag loses a chunk, and what lies on it goes into the chunk's spot.
use Rattle.std.proofs.Common.{◌≡◌, ◌≢◌, ℕ, ◌<◌, ◌≤◌, Bool, true, false, not, ◌&&◌, List, [], ◌∷◌, length, refl, sym, ◌∙◌, ap, subst, inl, inr, arith, Some, None}
use Rattle.std.specs.Prelude.{nat_eq, if◌then◌else◌}
use Rattle.std.specs.List.Sorted.{IsStrictlySortedBy}
use Rattle.std.proofs.lemmas.Bool.{cases_Bool, cases_eq, eqb-true}
use Rattle.fol_model.specs.declared.places.ChunkPos.{ChunkPos}
use Rattle.fol_model.specs.Geometry.{same_chunk}
use Rattle.fol_chunks.specs.Contents.{is_recorded}
use Rattle.fol_chunks.specs.Order.{chunk_cmp}
use Rattle.fol_keyed.proofs.Places.{same_chunk-self}
use Rattle.fol_queues.proofs.Numbers.{nat_self}
use Rattle.fol_data.specs.declared.region_data.RegionData.{RegionData}
use Rattle.fol_bags.specs.declared.slot.Slot.{Slot}
use Rattle.fol_bags.specs.Places.{PlaceRows}
use Rattle.fol_bags.specs.Moves.{Loses, Gains}
use Rattle.fol_store.specs.Relisted.{Relisted}
use Rattle.fol_bags.specs.Things.{Key, Thing, things, chunk_at, IsTimely}
use Rattle.fol_store.specs.Stock.{Stock, Where, arriving, in_spot, in_bag, slot, spot, place, column, bag_of, shown}
use Rattle.fol_store.specs.Sound.{Near, IsBag, IsSound}
use Rattle.fol_store.proofs.Columns.{Moves, moves_back}
use Rattle.fol_store.proofs.Totals.{where_cases}
use Rattle.fol_store.proofs.Resound.{kept_self, moved_unique, moved_found, moved_lies, moved_bag}
use Rattle.fol_keyed.proofs.Recorded.{single-is}
use Rattle.fol_store.proofs.Drawing.{with_parts}
use Rattle.fol_store.proofs.Outward.{Outward, apart_out, moves_out, home_spot, home_bag, home_before, home_gone, comes_out, stays_out}
use Rattle.fol_store.proofs.Stepping.{here_not_taken}
use Rattle.fol_store.proofs.Coming.{Followed}

-- the chunks of a bag but for one
abbrev pub narrower : Stock → ℕ → ChunkPos → ChunkPos → Bool
narrower s id c q = is_recorded (bag_of s id).chunks q && not (same_chunk c q)

no : {P : Type 0} → false ≡ true → P
no e = absurd (let z : ⊥ = cc in z)

-- the one and not the other
pub one_alone : (a b : Bool) → (a && not b) ≡ true → (a ≡ true) × (b ≡ false)
one_alone true false e = (refl, refl)
one_alone true true e = no e
one_alone false b e = no e

module _ (s : Stock) (spots : List RegionData) (bags : List Slot) (places : PlaceRows) (spare slots i id : ℕ) (c : ChunkPos) (in_it out_of_it : RegionData) (chunks : List ChunkPos) where
  abbrev t : Stock
  t = with_parts s spots bags places spare slots

  abbrev d : Slot
  d = record (slot s id) { body = in_it; chunks = chunks; list = chunks }

  pub record LosesOne : Type 0 where
    pub each_spot : (n : ℕ) → spot t n ≡ (if nat_eq i n then out_of_it else spot s n)
    pub each_bag : (n : ℕ) → slot t n ≡ (if nat_eq id n then d else slot s n)
    pub spots_long : length spots ≡ length s.spots
    pub bags_long : length bags ≡ length s.bags
    pub timely : IsTimely in_it
    pub spot_timely : IsTimely out_of_it
    pub more_spare : s.spare ≤ spare
    pub more_slots : s.slots ≤ slots
    pub at_spot : (place s c).spot ≡ Some i
    pub at_bag : (place s c).bag ≡ Some id
    pub homes : (q : ChunkPos) → place t q ≡ (if same_chunk c q then (record (place s c) { bag = None }) else place s q)
    pub here : (slot s id).here ≡ true
    pub listed : (slot s id).listed ≡ true
    pub loses : Loses (c ∷ []) (slot s id).body in_it
    pub gains : Gains (c ∷ []) (slot s id).body (spot s i) out_of_it
    pub order : IsStrictlySortedBy chunk_cmp chunks
    pub has : (q : ChunkPos) → is_recorded chunks q ≡ (is_recorded (slot s id).chunks q && not (same_chunk c q))

  module _ (f : LosesOne) (h : IsSound s) where
    spot_here : spot t i ≡ out_of_it
    spot_here = f.each_spot i ∙ rw (nat_self i) refl

    mine : slot t id ≡ d
    mine = f.each_bag id ∙ rw (nat_self id) refl

    spot_other : (n : ℕ) → i ≢ n → spot t n ≡ spot s n
    spot_other n g = f.each_spot n ∙ elim (cases_Bool (nat_eq i n)) [ inl e ↦ absurd (g (eqb-true i n e)) | inr e ↦ rw e refl ]

    other : (n : ℕ) → id ≢ n → slot t n ≡ slot s n
    other n g = f.each_bag n ∙ elim (cases_Bool (nat_eq id n)) [ inl e ↦ absurd (g (eqb-true id n e)) | inr e ↦ rw e refl ]

    rest : (k : Key) (w : Where) → w ≢ in_bag id → w ≢ in_spot i → column t k w ≡ column s k w
    rest k arriving a b = refl
    rest k (in_spot n) a b = ap (λ (r : RegionData). things r k) (spot_other n (λ e. b (ap (λ m. in_spot m) (sym e))))
    rest k (in_bag n) a b = ap (λ (q : Slot). things q.body k) (other n (λ e. a (ap (λ m. in_bag m) (sym e))))

    out : Outward s t i id c in_it out_of_it
    out = record {
      unnamed = record { homes = f.homes; at_bag = f.at_bag };
      at_spot = f.at_spot;
      left = λ k. ap (λ (b : Slot). things b.body k) mine;
      came = λ k. ap (λ (r : RegionData). things r k) spot_here;
      rest = rest;
      loses = f.loses;
      gains = f.gains;
    }

    apart : in_bag id ≢ in_spot i
    apart = apart_out s t i id c in_it out_of_it out h

    moves : (k : Key) → Moves where_cases (column s k) (column t k) (in_bag id) (in_spot i) (λ x. is_recorded (c ∷ []) (chunk_at k x))
    moves = moves_out s t i id c in_it out_of_it out h

    before : (q : ChunkPos) (n : ℕ) → (place t q).bag ≡ Some n → (place s q).bag ≡ Some n
    before = home_before s t id c out.unnamed

    not_taken : (slot s id).taken ≡ false
    not_taken = here_not_taken id s h f.here

    own_bag : IsBag t id d
    own_bag = record {
      claims = λ o q p.
          let old : is_recorded (slot s id).chunks q ≡ true = (h.bags id).claims o q (before q id p) in
          let away : same_chunk c q ≡ false = home_gone s t id c out.unnamed q id p in
          f.has q ∙ rw (old, away) refl;
      held = λ o q r.
          let two = one_alone (is_recorded (slot s id).chunks q) (same_chunk c q) (sym (f.has q) ∙ r) in
          home_bag s t id c out.unnamed q id ((h.bags id).held o q two.0) (λ e. two.1);
      near = λ o k w x q r.
          let two = one_alone (is_recorded (slot s id).chunks (chunk_at k x)) (same_chunk c (chunk_at k x)) (sym (f.has (chunk_at k x)) ∙ r) in
          elim (moves_back where_cases (column s k) (column t k) (in_bag id) (in_spot i) (λ y. is_recorded (c ∷ []) (chunk_at k y)) apart (moves k) w x q) [
            | inl z ↦ no (sym two.1 ∙ ap (same_chunk c) (single-is c (chunk_at k x) z.passes) ∙ same_chunk-self c)
            | inr z ↦ close k w x ((h.bags id).near f.listed k w x z.had two.0)
          ];
      untouched = (h.bags id).untouched;
      opened = (h.bags id).opened;
      one = (h.bags id).one;
      out = λ o k x q. no (sym not_taken ∙ o);
      list = λ o. refl;
    }
      where
        close : (k : Key) (w : Where) (x : Thing k) → Near id (slot s id) (chunk_at k x) w → Near id d (chunk_at k x) w
        close k arriving x n = n
        close k (in_spot v) x n = n
        close k (in_bag v) x n = n

    other_bag : (n : ℕ) → id ≢ n → IsBag t n (slot s n)
    other_bag n g =
        moved_bag s t (in_bag id) (in_spot i) (λ k x. is_recorded (c ∷ []) (chunk_at k x)) apart moves n (slot s n) (slot s n) (kept_self (slot s n))
        (λ q p. inl (before q n p))
        (λ o q p. home_bag s t id c out.unnamed q n p (λ e. absurd (g (sym e))))
        (λ o k x q p r. absurd (g ((h.bags n).near o k (in_bag id) x q r)))
        (λ o e. cc)
        (h.bags n)

    pub left_one : Followed s t id (narrower s id c)
    unfolding bag_of
    left_one = record {
      sound = record {
        unique = moved_unique s t (in_bag id) (in_spot i) (λ k x. is_recorded (c ∷ []) (chunk_at k x)) apart moves h.unique;
        lies = moved_lies s t (in_bag id) (in_spot i) (λ k x. is_recorded (c ∷ []) (chunk_at k x)) apart moves (comes_out s t i id c in_it out_of_it out h) (stays_out s t i id c in_it out_of_it out h);
        spot_range = λ q n e. let l : n < length s.spots = h.spot_range q n (sym (home_spot s t id c out.unnamed q) ∙ e) in omega (arith, f.spots_long);
        bag_range = λ q n e. let l : n < length s.bags = h.bag_range q n (before q n e) in omega (arith, f.bags_long);
        bags = λ n. elim (cases_eq id n) [
          | inl q ↦ let P : ℕ → Type 0 = λ v. IsBag t v (slot t v) in subst P q (let Q : Slot → Type 0 = λ b. IsBag t id b in subst Q (sym mine) own_bag)
          | inr g ↦ let Q : Slot → Type 0 = λ b. IsBag t n b in subst Q (sym (other n g)) (other_bag n g)
        ];
        spot_times = λ n. elim (cases_eq i n) [
          | inl q ↦ let P : ℕ → Type 0 = λ v. IsTimely (spot t v) in subst P q (subst IsTimely (sym spot_here) f.spot_timely)
          | inr g ↦ subst IsTimely (sym (spot_other n g)) (h.spot_times n)
        ];
        bag_times = λ n. elim (cases_eq id n) [
          | inl q ↦ let P : ℕ → Type 0 = λ v. IsTimely (slot t v).body in subst P q (let Q : Slot → Type 0 = λ b. IsTimely b.body in subst Q (sym mine) f.timely)
          | inr g ↦ let Q : Slot → Type 0 = λ b. IsTimely b.body in subst Q (sym (other n g)) (h.bag_times n)
        ];
        arrival_times = h.arrival_times;
        arrivals_differ = h.arrivals_differ;
      };
      own = let P : Slot → Type 0 = λ b. Relisted (narrower s id c) (bag_of s id) (shown b) in subst P (sym mine) (record {
        same = rw (f.here, f.loses.tick, f.loses.owed) refl;
        before = λ o. o;
        order = λ o. f.order;
        chunks = λ o q n. f.has q;
        noted = λ o q n. n;
        here = λ o. refl;
        out = λ o. no (sym not_taken ∙ o);
      });
      others = λ u n. ap shown (other u (λ q. n (sym q)));
      same = record {
        found = moved_found s t (in_bag id) (in_spot i) (λ k x. is_recorded (c ∷ []) (chunk_at k x)) apart moves h.unique;
        bags = f.bags_long;
        spare = f.more_spare;
        slots = f.more_slots;
      };
    }
