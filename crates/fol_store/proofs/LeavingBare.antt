-- A listed bag loses a chunk on which nothing in it lies.
use Rattle.std.proofs.Common.{◌≡◌, ◌≢◌, ℕ, ◌<◌, ◌≤◌, true, false, not, ◌&&◌, List, length, refl, sym, ◌∙◌, ap, subst, inl, inr, arith, Some}
use Rattle.std.specs.Prelude.{nat_eq, if◌then◌else◌}
use Rattle.std.specs.List.Sorted.{IsStrictlySortedBy}
use Rattle.std.proofs.lemmas.Bool.{cases_eq}
use Rattle.fol_model.specs.declared.places.ChunkPos.{ChunkPos}
use Rattle.fol_model.specs.Geometry.{same_chunk}
use Rattle.fol_chunks.specs.Contents.{is_recorded}
use Rattle.fol_chunks.specs.Order.{chunk_cmp}
use Rattle.fol_bags.specs.declared.slot.Slot.{Slot}
use Rattle.fol_bags.specs.Clear.{IsClearOf}
use Rattle.fol_bags.specs.Places.{PlaceRows}
use Rattle.fol_store.specs.Relisted.{Relisted}
use Rattle.fol_bags.specs.Things.{Key, Thing, things, chunk_at, IsTimely}
use Rattle.fol_store.specs.Stock.{Stock, Where, arriving, in_spot, in_bag, slot, place, column, bag_of, shown}
use Rattle.fol_store.specs.Sound.{Allows, Near, IsBag, IsSound}
use Rattle.fol_store.proofs.Resound.{SameColumns, kept_self, same_bag, same_found, same_unique}
use Rattle.fol_store.proofs.BagSteps.{slot_here, slot_other, one_columns}
use Rattle.fol_store.proofs.Coming.{Followed}
use Rattle.fol_store.proofs.Drawing.{with_parts}
use Rattle.fol_store.proofs.Leaving.{narrower, one_alone}
use Rattle.fol_store.proofs.Outward.{Unnamed, home_spot, home_bag, home_before, home_gone}
use Rattle.fol_store.proofs.Stepping.{here_not_taken}

no : {P : Type 0} → false ≡ true → P
no e = absurd (let z : ⊥ = cc in z)

module _ (s : Stock) (bags : List Slot) (places : PlaceRows) (spare slots id : ℕ) (c : ChunkPos) (chunks : List ChunkPos) where
  abbrev after : Stock
  after = with_parts s s.spots bags places spare slots

  abbrev fewer : Slot
  fewer = record (slot s id) { chunks = chunks; list = chunks }

  pub record LosesBare : Type 0 where
    pub each_bag : (n : ℕ) → slot after n ≡ (if nat_eq id n then fewer else slot s n)
    pub long : length bags ≡ length s.bags
    pub more_spare : s.spare ≤ spare
    pub more_slots : s.slots ≤ slots
    pub unnamed : Unnamed s after id c
    pub here : (slot s id).here ≡ true
    pub order : IsStrictlySortedBy chunk_cmp chunks
    pub has : (q : ChunkPos) → is_recorded chunks q ≡ (is_recorded (slot s id).chunks q && not (same_chunk c q))
    pub bare : IsClearOf c (slot s id).body

  module _ (f : LosesBare) (h : IsSound s) where
    mine : slot after id ≡ fewer
    mine = slot_here s bags spare slots id fewer f.each_bag

    other : (n : ℕ) → id ≢ n → slot after n ≡ slot s n
    other = slot_other s bags spare slots id fewer f.each_bag

    columns : SameColumns s after
    columns k arriving = refl
    columns k (in_spot i) = refl
    columns k (in_bag n) = one_columns s bags spare slots id fewer f.each_bag (λ k. refl) k (in_bag n)

    not_taken : (slot s id).taken ≡ false
    not_taken = here_not_taken id s h f.here

    before : (q : ChunkPos) (n : ℕ) → (place after q).bag ≡ Some n → (place s q).bag ≡ Some n
    before = home_before s after id c f.unnamed

    stays : (q : ChunkPos) (n : ℕ) → (place s q).bag ≡ Some n → (n ≡ id → same_chunk c q ≡ false) → (place after q).bag ≡ Some n
    stays = home_bag s after id c f.unnamed

    allows : (k : Key) (w : Where) (x : Thing k) → column s k w ≡ Some x → Allows (place s (chunk_at k x)) w → Allows (place after (chunk_at k x)) w
    allows k arriving x q a = tt
    allows k (in_spot n) x q a = home_spot s after id c f.unnamed (chunk_at k x) ∙ a
    allows k (in_bag n) x q a = stays (chunk_at k x) n a (λ e. f.bare k x (ap (λ m. things (slot s m).body k) (sym e) ∙ q))

    own_bag : IsBag after id fewer
    own_bag = record {
      claims = λ o q p.
          let old : is_recorded (slot s id).chunks q ≡ true = (h.bags id).claims o q (before q id p) in
          let away : same_chunk c q ≡ false = home_gone s after id c f.unnamed q id p in
          f.has q ∙ rw (old, away) refl;
      held = λ o q r.
          let two = one_alone (is_recorded (slot s id).chunks q) (same_chunk c q) (sym (f.has q) ∙ r) in
          stays q id ((h.bags id).held o q two.0) (λ e. two.1);
      near = λ o k w x q r.
          let two = one_alone (is_recorded (slot s id).chunks (chunk_at k x)) (same_chunk c (chunk_at k x)) (sym (f.has (chunk_at k x)) ∙ r) in
          close k w x ((h.bags id).near o k w x (sym (columns k w) ∙ q) two.0);
      untouched = (h.bags id).untouched;
      opened = (h.bags id).opened;
      one = (h.bags id).one;
      out = λ o k x q. no (sym not_taken ∙ o);
      list = λ o. refl;
    }
      where
        close : (k : Key) (w : Where) (x : Thing k) → Near id (slot s id) (chunk_at k x) w → Near id fewer (chunk_at k x) w
        close k arriving x n = n
        close k (in_spot v) x n = n
        close k (in_bag v) x n = n

    pub left_bare : Followed s after id (narrower s id c)
    unfolding bag_of
    left_bare = record {
      sound = record {
        unique = same_unique s after columns h.unique;
        lies = λ k w x q. allows k w x (sym (columns k w) ∙ q) (h.lies k w x (sym (columns k w) ∙ q));
        spot_range = λ q n e. h.spot_range q n (sym (home_spot s after id c f.unnamed q) ∙ e);
        bag_range = λ q n e. let l : n < length s.bags = h.bag_range q n (before q n e) in omega (arith, f.long);
        bags = λ n. elim (cases_eq id n) [
          | inl q ↦ let P : ℕ → Type 0 = λ v. IsBag after v (slot after v) in subst P q (let Q : Slot → Type 0 = λ b. IsBag after id b in subst Q (sym mine) own_bag)
          | inr g ↦ let Q : Slot → Type 0 = λ b. IsBag after n b in
              subst Q (sym (other n g)) (same_bag s after n (slot s n) (slot s n) (kept_self (slot s n)) columns (λ q p. inl (before q n p)) (λ o q p. stays q n p (λ e. absurd (g (sym e)))) (h.bags n))
        ];
        spot_times = h.spot_times;
        bag_times = λ n. elim (cases_eq id n) [
          | inl q ↦ let P : ℕ → Type 0 = λ v. IsTimely (slot after v).body in subst P q (let Q : Slot → Type 0 = λ b. IsTimely b.body in subst Q (sym mine) (h.bag_times id))
          | inr g ↦ let Q : Slot → Type 0 = λ b. IsTimely b.body in subst Q (sym (other n g)) (h.bag_times n)
        ];
        arrival_times = h.arrival_times;
        arrivals_differ = h.arrivals_differ;
      };
      own = let P : Slot → Type 0 = λ b. Relisted (narrower s id c) (bag_of s id) (shown b) in subst P (sym mine) (record {
        same = refl;
        before = λ o. o;
        order = λ o. f.order;
        chunks = λ o q n. f.has q;
        noted = λ o q n. n;
        here = λ o. refl;
        out = λ o. no (sym not_taken ∙ o);
      });
      others = λ u n. ap shown (other u (λ q. n (sym q)));
      same = record { found = same_found s after columns h.unique; bags = f.long; spare = f.more_spare; slots = f.more_slots };
    }
