-- Steps of a gathering, one after another.
use Rattle.std.proofs.Common.{◌≡◌, ℕ, ◌<◌, ◌≤◌, Bool, true, false, ◌||◌, ◌&&◌, List, [], length, refl, sym, ◌∙◌, ap, subst, ◌⊎◌, inl, inr, arith, Some, None}
use Rattle.std.specs.Prelude.{if◌then◌else◌}
use Rattle.std.proofs.lemmas.Bool.{cases_Bool, cases_eq}
use Rattle.fol_model.specs.declared.places.ChunkPos.{ChunkPos}
use Rattle.fol_model.specs.Geometry.{same_chunk}
use Rattle.fol_chunks.specs.Contents.{is_recorded}
use Rattle.fol_keyed.proofs.Places.{same_chunk-true}
use Rattle.fol_bags.specs.declared.places.Place.{Place}
use Rattle.fol_store.specs.Bag.{Bag}
use Rattle.fol_store.specs.Gathered.{AreFree, Spared, OthersSpared}
use Rattle.fol_bags.specs.Places.{PlaceRows}
use Rattle.fol_bags.specs.Things.{Key, Thing, chunk_at}
use Rattle.fol_store.specs.Stock.{Stock, Where, arriving, in_spot, in_bag, slot, place, column, bag_of, shown}
use Rattle.fol_store.specs.Sound.{Allows, IsSound}
use Rattle.fol_store.specs.Steps.{SameMeaning, IsGathered, Draws, IsTarget}
use Rattle.fol_store.proofs.Resound.{SameColumns, same_found, same_bag, kept_self}
use Rattle.fol_store.proofs.Drawing.{Drawn}
use Rattle.fol_store.proofs.Spotting.{none_arrives}

pub same_meaning_refl : (s : Stock) → SameMeaning s s
same_meaning_refl s = record { found = λ k. refl; bags = refl; spare = omega arith; slots = omega arith }

pub same_meaning_trans : (r s t : Stock) → SameMeaning r s → SameMeaning s t → SameMeaning r t
same_meaning_trans r s t a b = record {
  found = λ k. b.found k ∙ a.found k;
  bags = b.bags ∙ a.bags;
  spare = let x : r.spare ≤ s.spare = a.spare in let y : s.spare ≤ t.spare = b.spare in omega arith;
  slots = let x : r.slots ≤ s.slots = a.slots in let y : s.slots ≤ t.slots = b.slots in omega arith;
}

pub spared_same : (chunks : List ChunkPos) (a b : Bag) → b ≡ a → Spared chunks a b
spared_same chunks a b e = let P : Bag → Type 0 = λ z. Spared chunks a z in subst P (sym e) (record { same = refl; kept = λ o clear. o; lost = λ o. o })

pub spared_trans : (chunks : List ChunkPos) (a b d : Bag) → Spared chunks a b → Spared chunks b d → Spared chunks a d
spared_trans chunks a b d x y = record {
  same = y.same ∙ ap (λ (z : Bag). let w : Bag = record z { listed = d.listed } in w) x.same;
  kept = λ o clear. y.kept (x.kept o clear) (λ c r. ap (λ (z : Bag). is_recorded z.chunks c) x.same ∙ clear c r);
  lost = λ o. x.lost (y.lost o);
}

pub others_same : (id : ℕ) (chunks : List ChunkPos) (old new : ℕ → Bag) → new ≡ old → OthersSpared id chunks old new
others_same id chunks old new e u n = spared_same chunks (old u) (new u) (ap (λ (f : ℕ → Bag). f u) e)

pub others_trans : (id : ℕ) (chunks : List ChunkPos) (a b d : ℕ → Bag) → OthersSpared id chunks a b → OthersSpared id chunks b d → OthersSpared id chunks a d
others_trans id chunks a b d x y u n = spared_trans chunks (a u) (b u) (d u) (x u n) (y u n)

pub draws_refl : (id : ℕ) (chunks : List ChunkPos) (s : Stock) → Draws id chunks s s
draws_refl id chunks s = record { same = same_meaning_refl s; arrivals = refl; own = refl; others = others_same id chunks (bag_of s) (bag_of s) refl; gathered = λ c g. g }

pub draws_trans : (id : ℕ) (chunks : List ChunkPos) (r s t : Stock) → Draws id chunks r s → Draws id chunks s t → Draws id chunks r t
draws_trans id chunks r s t a b = record {
  same = same_meaning_trans r s t a.same b.same;
  arrivals = b.arrivals ∙ a.arrivals;
  own = b.own ∙ a.own;
  others = others_trans id chunks (bag_of r) (bag_of s) (bag_of t) a.others b.others;
  gathered = λ c g. b.gathered c (a.gathered c g);
}

-- the bags that were taken out stay free of the chunks
pub free_kept : (id : ℕ) (chunks : List ChunkPos) (old new : ℕ → Bag) → (new id).taken ≡ (old id).taken → (new id).chunks ≡ (old id).chunks → OthersSpared id chunks old new → AreFree old chunks → AreFree new chunks
free_kept id chunks old new a b others free u o c r =
    elim (cases_eq id u) [
      | inl e ↦
          let P : ℕ → Type 0 = λ v. (new v).taken ≡ true → is_recorded (new v).chunks c ≡ false in
          let own : (new id).taken ≡ true → is_recorded (new id).chunks c ≡ false = λ p. ap (λ l. is_recorded l c) b ∙ free id (sym a ∙ p) c r in
          subst P e own o
      | inr n ↦
          let x : Spared chunks (old u) (new u) = others u (λ e. n (sym e)) in
          ap (λ (z : Bag). is_recorded z.chunks c) x.same ∙ free u (sym (ap (λ (z : Bag). z.taken) x.same) ∙ o) c r
    ]

pub target_kept : (id : ℕ) (chunks : List ChunkPos) (s t : Stock) → IsTarget id chunks s → Draws id chunks s t → IsTarget id chunks t
target_kept id chunks s t h d = record {
  here = ap (λ (b : Bag). b.here) d.own ∙ h.here;
  not_listed = ap (λ (b : Bag). b.listed) d.own ∙ h.not_listed;
  chunks_are = ap (λ (b : Bag). b.chunks) d.own ∙ h.chunks_are;
  empty = d.arrivals ∙ h.empty;
  free = free_kept id chunks (bag_of s) (bag_of t) (ap (λ (b : Bag). b.taken) d.own) (ap (λ (b : Bag). b.chunks) d.own) d.others h.free;
}

-- the bag that is being gathered has its own chunks after a step, and a step for these comes after it
pub target_own : (id : ℕ) (chunks : List ChunkPos) (s t : Stock) → IsTarget id chunks s → Draws id chunks s t → IsTarget id (bag_of t id).chunks t
target_own id chunks s t h d =
    let k : IsTarget id chunks t = target_kept id chunks s t h d in
    let P : List ChunkPos → Type 0 = λ l. IsTarget id l t in
    subst P (sym k.chunks_are) k

pub draws_own : (id : ℕ) (chunks : List ChunkPos) (r s t : Stock) → IsTarget id chunks r → Draws id chunks r s → Draws id (bag_of s id).chunks s t → Draws id chunks r t
draws_own id chunks r s t h a b =
    let P : List ChunkPos → Type 0 = λ l. Draws id l s t in
    draws_trans id chunks r s t a (subst P (target_kept id chunks r s h a).chunks_are b)

-- a store with other places
abbrev pub with_places : Stock → PlaceRows → Stock
with_places s places = record s { places = places }

module _ (s : Stock) (places : PlaceRows) where
  abbrev t : Stock
  t = with_places s places

  columns : SameColumns s t
  columns k arriving = refl
  columns k (in_spot i) = refl
  columns k (in_bag n) = refl

  -- the same places
  module _ (homes : (q : ChunkPos) → place t q ≡ place s q) where
    allows : (q : ChunkPos) (w : Where) → Allows (place s q) w → Allows (place t q) w
    allows q arriving a = tt
    allows q (in_spot n) a = ap (λ (p : Place). p.spot) (homes q) ∙ a
    allows q (in_bag n) a = ap (λ (p : Place). p.bag) (homes q) ∙ a

    pub same_places : (id : ℕ) (chunks : List ChunkPos) → IsSound s → Drawn id chunks s t
    unfolding bag_of
    same_places id chunks h = record {
      sound = record {
        unique = λ k v w x y p q. h.unique k v w x y (sym (columns k v) ∙ p) (sym (columns k w) ∙ q);
        lies = λ k w x p. allows (chunk_at k x) w (h.lies k w x (sym (columns k w) ∙ p));
        spot_range = λ c i e. h.spot_range c i (sym (ap (λ (p : Place). p.spot) (homes c)) ∙ e);
        bag_range = λ c i e. h.bag_range c i (sym (ap (λ (p : Place). p.bag) (homes c)) ∙ e);
        bags = λ n. same_bag s t n (slot s n) (slot s n) (kept_self (slot s n)) columns (λ c q. inl (sym (ap (λ (p : Place). p.bag) (homes c)) ∙ q)) (λ o c q. ap (λ (p : Place). p.bag) (homes c) ∙ q) (h.bags n);
        spot_times = h.spot_times;
        bag_times = h.bag_times;
        arrival_times = h.arrival_times;
        arrivals_differ = h.arrivals_differ;
      };
      draws = record {
        same = record { found = same_found s t columns h.unique; bags = refl; spare = omega arith; slots = omega arith };
        arrivals = refl;
        own = refl;
        others = others_same id chunks (bag_of s) (bag_of s) refl;
        gathered = λ q g. record { place = ap (λ (p : Place). p.bag) (homes q) ∙ g.place; alone = λ k w x a b. g.alone k w x (sym (columns k w) ∙ a) b };
      };
    }

  -- the bag of one chunk that had none
  module _ (c : ChunkPos) (id : ℕ) (old : Place) (is : old ≡ place s c) (homes : (q : ChunkPos) → place t q ≡ (if same_chunk c q then (let p : Place = record { spot = old.spot; bag = Some id } in p) else place s q)) (none_named : old.bag ≡ None) where
    none : (place s c).bag ≡ None
    none = sym (ap (λ (p : Place). p.bag) is) ∙ none_named

    home_spot : (q : ChunkPos) → (place t q).spot ≡ (place s q).spot
    home_spot q = elim (cases_Bool (same_chunk c q)) [
      | inl e ↦ ap (λ (p : Place). p.spot) (homes q) ∙ rw e (ap (λ (p : Place). p.spot) is ∙ ap (λ z. (place s z).spot) (same_chunk-true c q e))
      | inr e ↦ ap (λ (p : Place). p.spot) (homes q) ∙ rw e refl
    ]

    home_bag : (q : ChunkPos) (n : ℕ) → (place s q).bag ≡ Some n → (place t q).bag ≡ Some n
    home_bag q n e = elim (cases_Bool (same_chunk c q)) [
      | inl z ↦ let f : None ≡ Some n = sym none ∙ ap (λ y. (place s y).bag) (same_chunk-true c q z) ∙ e in cc
      | inr z ↦ ap (λ (p : Place). p.bag) (homes q) ∙ rw z e
    ]

    home_cases : (q : ChunkPos) (n : ℕ) → (place t q).bag ≡ Some n → ((q ≡ c) × (n ≡ id)) ⊎ ((place s q).bag ≡ Some n)
    home_cases q n e = elim (cases_Bool (same_chunk c q)) [
      | inl z ↦
          let f : Some id ≡ Some n = sym (ap (λ (p : Place). p.bag) (homes q) ∙ rw z refl) ∙ e in
          let g : n ≡ id = cc in inl (sym (same_chunk-true c q z), g)
      | inr z ↦ inr (sym (ap (λ (p : Place). p.bag) (homes q) ∙ rw z refl) ∙ e)
    ]

    claimed_allows : (q : ChunkPos) (w : Where) → Allows (place s q) w → Allows (place t q) w
    claimed_allows q arriving a = tt
    claimed_allows q (in_spot n) a = home_spot q ∙ a
    claimed_allows q (in_bag n) a = home_bag q n a

    pub claimed : (chunks : List ChunkPos) → id < length s.bags → is_recorded (slot s id).chunks c ≡ true → IsSound s → Drawn id chunks s t
    unfolding bag_of
    claimed chunks there listed h = record {
      sound = record {
        unique = λ k v w x y p q. h.unique k v w x y (sym (columns k v) ∙ p) (sym (columns k w) ∙ q);
        lies = λ k w x p. claimed_allows (chunk_at k x) w (h.lies k w x (sym (columns k w) ∙ p));
        spot_range = λ q i e. h.spot_range q i (sym (home_spot q) ∙ e);
        bag_range = λ q n e. elim (home_cases q n e) [ inl z ↦ let f : n ≡ id = z.1 in let l : id < length s.bags = there in omega arith | inr z ↦ h.bag_range q n z ];
        bags = λ n. same_bag s t n (slot s n) (slot s n) (kept_self (slot s n)) columns
            (λ q e. elim (home_cases q n e) [
              | inl z ↦ let P : ℕ → Type 0 = λ m. is_recorded (slot s m).chunks q ≡ true in inr (subst P (sym z.1) (ap (is_recorded (slot s id).chunks) z.0 ∙ listed))
              | inr z ↦ inl z
            ])
            (λ o q e. home_bag q n e) (h.bags n);
        spot_times = h.spot_times;
        bag_times = h.bag_times;
        arrival_times = h.arrival_times;
        arrivals_differ = h.arrivals_differ;
      };
      draws = record {
        same = record { found = same_found s t columns h.unique; bags = refl; spare = omega arith; slots = omega arith };
        arrivals = refl;
        own = refl;
        others = others_same id chunks (bag_of s) (bag_of s) refl;
        gathered = λ q g. record { place = home_bag q id g.place; alone = λ k w x a b. g.alone k w x (sym (columns k w) ∙ a) b };
      };
    }

-- without a spot and with nothing that arrives, the chunk is gathered where its bag is the one
pub gathered_home : (s : Stock) (id : ℕ) (c : ChunkPos) → s.arrivals ≡ [] → (place s c).bag ≡ Some id → (place s c).spot ≡ None → IsSound s → IsGathered s id c
gathered_home s id c none home no_spot h = record { place = home; alone = λ k w x a b. only k w x a (same_chunk-true c (chunk_at k x) b) }
  where
    only : (k : Key) (w : Where) (x : Thing k) → column s k w ≡ Some x → c ≡ chunk_at k x → w ≡ in_bag id
    only k arriving x a e = let z : None ≡ Some x = sym (none_arrives s k none) ∙ a in cc
    only k (in_spot n) x a e = let z : None ≡ Some n = sym no_spot ∙ ap (λ y. (place s y).spot) e ∙ h.lies k (in_spot n) x a in cc
    only k (in_bag n) x a e =
        let z : Some n ≡ Some id = sym (h.lies k (in_bag n) x a) ∙ ap (λ y. (place s y).bag) (sym e) ∙ home in
        let m : n ≡ id = cc in ap (λ v. in_bag v) m

-- what is known of the bag that is gathered
pub target_slot : (id : ℕ) (chunks : List ChunkPos) (s : Stock) → IsTarget id chunks s → shown (slot s id) ≡ bag_of s id
unfolding bag_of
target_slot id chunks s h = refl

pub target_here : (id : ℕ) (chunks : List ChunkPos) (s : Stock) → IsTarget id chunks s → (slot s id).here ≡ true
unfolding bag_of
target_here id chunks s h = h.here

pub target_not_listed : (id : ℕ) (chunks : List ChunkPos) (s : Stock) → IsTarget id chunks s → (slot s id).listed ≡ false
unfolding bag_of
target_not_listed id chunks s h = h.not_listed

pub target_listed : (id : ℕ) (chunks : List ChunkPos) (s : Stock) → IsTarget id chunks s → (c : ChunkPos) → is_recorded chunks c ≡ true → is_recorded (slot s id).chunks c ≡ true
unfolding bag_of
target_listed id chunks s h c r = ap (λ l. is_recorded l c) h.chunks_are ∙ r

pub here_not_taken : (id : ℕ) (s : Stock) → IsSound s → (slot s id).here ≡ true → (slot s id).taken ≡ false
here_not_taken id s h e = let f : ((slot s id).here && (slot s id).taken) ≡ false = (h.bags id).one in rw e at f

-- the list of a bag that is here is that of its chunks
pub listed_here : (id : ℕ) (s : Stock) → IsSound s → (slot s id).here ≡ true → (slot s id).list ≡ (slot s id).chunks
listed_here id s h e = (h.bags id).list (here_not_taken id s h e)

-- a bag that has one of the chunks was not taken out
pub source_not_taken : (id u : ℕ) (chunks : List ChunkPos) (s : Stock) → IsTarget id chunks s → IsSound s → (c : ChunkPos) → is_recorded chunks c ≡ true → (place s c).bag ≡ Some u → (slot s u).taken ≡ false
unfolding bag_of
source_not_taken id u chunks s g h c r e =
    elim (cases_Bool (slot s u).taken) [
      | inl z ↦
          let free : is_recorded (slot s u).chunks c ≡ false = g.free u z c r in
          let mine : is_recorded (slot s u).chunks c ≡ true = (h.bags u).claims (either (slot s u).here z) c e in
          let y : true ≡ false = sym mine ∙ free in cc
      | inr z ↦ z
    ]
  where
    either : (b : Bool) → (slot s u).taken ≡ true → (b || (slot s u).taken) ≡ true
    either true q = refl
    either false q = q
