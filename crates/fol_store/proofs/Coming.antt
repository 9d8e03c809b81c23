-- A listed bag gets a chunk that no bag has.
use Rattle.std.proofs.Common.{◌≡◌, ◌≢◌, ℕ, ◌<◌, ◌≤◌, Bool, true, false, ◌||◌, ◌&&◌, List, [], ◌∷◌, ◌++◌, length, refl, sym, ◌∙◌, ap, subst, ◌⊎◌, inl, inr, arith, Some, None}
use Rattle.std.specs.Prelude.{nat_eq, if◌then◌else◌, IsTrue}
use Rattle.std.specs.List.Sorted.{IsStrictlySortedBy}
use Rattle.std.proofs.lemmas.Bool.{cases_Bool, cases_eq}
use Rattle.fol_model.specs.declared.places.ChunkPos.{ChunkPos}
use Rattle.fol_model.specs.Geometry.{same_chunk}
use Rattle.fol_chunks.specs.Contents.{is_recorded}
use Rattle.fol_chunks.specs.Order.{chunk_cmp}
use Rattle.fol_keyed.proofs.Places.{same_chunk-true, same_chunk-self}
use Rattle.fol_queues.proofs.Numbers.{nat_self}
use Rattle.fol_bags.specs.declared.slot.Slot.{Slot}
use Rattle.fol_bags.specs.declared.places.Place.{Place}
use Rattle.fol_bags.specs.Places.{PlaceRows}
use Rattle.fol_store.specs.Relisted.{Relisted}
use Rattle.fol_bags.specs.Things.{Key, Thing, things, chunk_at, IsTimely}
use Rattle.fol_store.specs.Stock.{Stock, Where, arriving, in_spot, in_bag, slot, spot, place, column, bag_of, shown}
use Rattle.fol_store.specs.Sound.{Allows, Near, IsBag, IsSound}
use Rattle.fol_store.specs.Steps.{SameMeaning}
use Rattle.fol_store.proofs.Resound.{SameColumns, same_unique, same_found, same_bag, kept_self}
use Rattle.fol_store.proofs.BagSteps.{slot_here, slot_other, one_columns}
use Rattle.fol_store.proofs.Drawing.{with_parts}
use Rattle.fol_keyed.proofs.Recorded.{recorded_front, recorded_last}
use Rattle.fol_store.proofs.Spotting.{none_arrives}
use Rattle.fol_store.proofs.Stepping.{here_not_taken}

-- the bag of a region has other chunks, and nothing else that contracts see has changed
pub record Followed (s t : Stock) (id : ℕ) (p : ChunkPos → Bool) : Type 0 where
  pub sound : IsSound t
  pub own : Relisted p (bag_of s id) (bag_of t id)
  pub others : (u : ℕ) → u ≢ id → bag_of t u ≡ bag_of s u
  pub same : SameMeaning s t

-- the chunks of a bag and one more
abbrev pub wider : Stock → ℕ → ChunkPos → ChunkPos → Bool
wider s id c q = is_recorded (bag_of s id).chunks q || same_chunk c q

no : {P : Type 0} → false ≡ true → P
no e = absurd (let z : ⊥ = cc in z)

or_first : (a b : Bool) → a ≡ true → (a || b) ≡ true
or_first a b e = rw e refl

or_second : (a b : Bool) → b ≡ true → (a || b) ≡ true
or_second true b e = refl
or_second false b e = e

-- one of many is set, and then changed
pub set_twice : {X : Type 0} (id : ℕ) (f g h : ℕ → X) (a : X) (m : X → X) → ((u : ℕ) → g u ≡ (if nat_eq id u then a else f u)) → ((u : ℕ) → h u ≡ (if nat_eq id u then m (g id) else g u))
    → (u : ℕ) → h u ≡ (if nat_eq id u then m a else f u)
set_twice id f g h a m e k u = k u ∙ pick (nat_eq id u) (e u)
  where
    here : g id ≡ a
    here = e id ∙ rw (nat_self id) refl

    pick : (q : Bool) → g u ≡ (if q then a else f u) → (if q then m (g id) else g u) ≡ (if q then m a else f u)
    pick true r = ap m here
    pick false r = r

module _ (s : Stock) (bags : List Slot) (places : PlaceRows) (spare slots id : ℕ) (c : ChunkPos) (listed calm : Bool) (chunks touched : List ChunkPos) where
  abbrev t : Stock
  t = with_parts s s.spots bags places spare slots

  abbrev d : Slot
  d = record (slot s id) { listed = listed; calm = calm; chunks = chunks; list = chunks; touched = touched }

  -- what lies on the chunk that comes, and on those that were there, is noted, unless nothing waits
  pub record Expects : Type 0 where
    pub calmer : calm ≡ true → (slot s id).calm ≡ true
    pub none_noted : calm ≡ true → (slot s id).touched ≡ [] → touched ≡ []
    pub none_waits : (k : Key) (x : Thing k) → column s k arriving ≡ Some x → calm ≡ true → ⊥
    pub noted_stay : (q : ChunkPos) → is_recorded (slot s id).touched q ≡ true → is_recorded touched q ≡ true
    pub spot_noted : (k : Key) (i : ℕ) (x : Thing k) → column s k (in_spot i) ≡ Some x → c ≡ chunk_at k x → is_recorded touched (chunk_at k x) ≡ true

  -- the chunk is noted
  expects_noted : calm ≡ false → touched ≡ (slot s id).touched ++ c ∷ [] → Expects
  expects_noted stirred noted = record {
    calmer = λ o. no (sym stirred ∙ o);
    none_noted = λ o e. no (sym stirred ∙ o);
    none_waits = λ k x q o. no (sym stirred ∙ o);
    noted_stay = λ q r. rw noted (recorded_front (slot s id).touched (c ∷ []) q r);
    spot_noted = λ k i x q e. rw (noted, ← e) (recorded_last (slot s id).touched c);
  }

  -- nothing waits, and nothing lies in the spot of the chunk
  expects_none : IsSound s → calm ≡ (slot s id).calm → touched ≡ (slot s id).touched → s.arrivals ≡ [] → ((i : ℕ) (k : Key) → (place s c).spot ≡ Some i → things (spot s i) k ≡ None) → Expects
  expects_none h same noted none bare = record {
    calmer = λ o. sym same ∙ o;
    none_noted = λ o e. noted ∙ e;
    none_waits = λ k x q o. (let f : None ≡ Some x = sym (none_arrives s k none) ∙ q in absurd (let z : ⊥ = cc in z));
    noted_stay = λ q r. ap (λ l. is_recorded l q) noted ∙ r;
    spot_noted = λ k i x q e. (let f : None ≡ Some x = sym (bare i k (ap (λ z. (place s z).spot) e ∙ h.lies k (in_spot i) x q)) ∙ q in absurd (let z : ⊥ = cc in z));
  }

  -- either of both
  pub expects : (quiet : Bool) → IsSound s → calm ≡ (quiet && (slot s id).calm) → touched ≡ (if quiet then (slot s id).touched else (slot s id).touched ++ c ∷ [])
      → (IsTrue quiet → s.arrivals ≡ []) → (IsTrue quiet → (i : ℕ) (k : Key) → (place s c).spot ≡ Some i → things (spot s i) k ≡ None) → Expects
  expects true h same noted none bare = expects_none h same noted (none refl) (bare refl)
  expects false h same noted none bare = expects_noted same noted

  module _ (e : (u : ℕ) → slot t u ≡ (if nat_eq id u then d else slot s u)) (h : IsSound s) (long : length bags ≡ length s.bags) (there : id < length s.bags) (here : (slot s id).here ≡ true)
      (more_spare : s.spare ≤ spare) (more_slots : s.slots ≤ slots) where
    mine : slot t id ≡ d
    mine = slot_here s bags spare slots id d e

    other : (u : ℕ) → id ≢ u → slot t u ≡ slot s u
    other = slot_other s bags spare slots id d e

    columns : SameColumns s t
    columns k arriving = refl
    columns k (in_spot i) = refl
    columns k (in_bag n) = one_columns s bags spare slots id d e (λ k. refl) k (in_bag n)

    not_taken : (slot s id).taken ≡ false
    not_taken = here_not_taken id s h here

    -- sound, where the places are
    module _ (spots : (q : ChunkPos) → (place t q).spot ≡ (place s q).spot)
        (homes : (q : ChunkPos) (n : ℕ) → (place t q).bag ≡ Some n → ((q ≡ c) × (n ≡ id)) ⊎ ((place s q).bag ≡ Some n))
        (stays : (q : ChunkPos) (n : ℕ) → (place s q).bag ≡ Some n → (place t q).bag ≡ Some n) where
      allows : (q : ChunkPos) (w : Where) → Allows (place s q) w → Allows (place t q) w
      allows q arriving a = tt
      allows q (in_spot n) a = spots q ∙ a
      allows q (in_bag n) a = stays q n a

      sound_with : IsBag t id d → IsSound t
      sound_with own = record {
        unique = same_unique s t columns h.unique;
        lies = λ k w x p. allows (chunk_at k x) w (h.lies k w x (sym (columns k w) ∙ p));
        spot_range = λ q i p. h.spot_range q i (sym (spots q) ∙ p);
        bag_range = λ q n p. elim (homes q n p) [
          | inl z ↦ let f : n ≡ id = z.1 in omega (arith, long, there)
          | inr z ↦ let l : n < length s.bags = h.bag_range q n z in omega (arith, long)
        ];
        bags = λ u. elim (cases_eq id u) [
          | inl q ↦ let P : ℕ → Type 0 = λ v. IsBag t v (slot t v) in subst P q (let Q : Slot → Type 0 = λ b. IsBag t id b in subst Q (sym mine) own)
          | inr n ↦ let Q : Slot → Type 0 = λ b. IsBag t u b in
              subst Q (sym (other u n)) (same_bag s t u (slot s u) (slot s u) (kept_self (slot s u)) columns (λ q p. elim (homes q u p) [ inl z ↦ absurd (n (sym z.1)) | inr z ↦ inl z ]) (λ o q p. stays q u p) (h.bags u))
        ];
        spot_times = h.spot_times;
        bag_times = λ u. elim (cases_eq id u) [
          | inl q ↦ let P : ℕ → Type 0 = λ v. IsTimely (slot t v).body in subst P q (let Q : Slot → Type 0 = λ b. IsTimely b.body in subst Q (sym mine) (h.bag_times id))
          | inr n ↦ let Q : Slot → Type 0 = λ b. IsTimely b.body in subst Q (sym (other u n)) (h.bag_times u)
        ];
        arrival_times = h.arrival_times;
        arrivals_differ = h.arrivals_differ;
      }

      followed_with : IsBag t id d → Relisted (wider s id c) (bag_of s id) (shown d) → Followed s t id (wider s id c)
      unfolding bag_of
      followed_with own shown_so = record {
        sound = sound_with own;
        own = let P : Slot → Type 0 = λ b. Relisted (wider s id c) (bag_of s id) (shown b) in subst P (sym mine) shown_so;
        others = λ u n. ap shown (other u (λ q. n (sym q)));
        same = record { found = same_found s t columns h.unique; bags = long; spare = more_spare; slots = more_slots };
      }

    -- without memory for the chunk
    pub unlisted : listed ≡ false → ((q : ChunkPos) → place t q ≡ place s q) → ((q : ChunkPos) → is_recorded (slot s id).chunks q ≡ true → is_recorded chunks q ≡ true) → Followed s t id (wider s id c)
    unfolding bag_of
    unlisted off same kept =
        followed_with (λ q. ap (λ (p : Place). p.spot) (same q)) (λ q n p. inr (sym (ap (λ (z : Place). z.bag) (same q)) ∙ p)) (λ q n p. ap (λ (z : Place). z.bag) (same q) ∙ p)
        (record {
          claims = λ o q p. kept q ((h.bags id).claims o q (sym (ap (λ (z : Place). z.bag) (same q)) ∙ p));
          held = λ o q p. no (sym (rw (off, not_taken) refl) ∙ o);
          near = λ o k w x q r. no (sym off ∙ o);
          untouched = λ o p. no (sym off ∙ o);
          opened = λ o. no (sym off ∙ o);
          one = (h.bags id).one;
          out = λ o k x q. no (sym not_taken ∙ o);
          list = λ o. refl;
        })
        (record {
          same = refl;
          before = λ o. no (sym off ∙ o);
          order = λ o. no (sym off ∙ o);
          chunks = λ o. no (sym off ∙ o);
          noted = λ o. no (sym off ∙ o);
          here = λ o. refl;
          out = λ o. no (sym not_taken ∙ o);
        })

    -- with the chunk
    pub came : (slot s id).listed ≡ true → (before : Place) → before ≡ place s c → before.bag ≡ None
        → ((q : ChunkPos) → place t q ≡ (if same_chunk c q then (let p : Place = record { spot = before.spot; bag = Some id } in p) else place s q))
        → IsStrictlySortedBy chunk_cmp chunks → ((q : ChunkPos) → is_recorded chunks q ≡ (is_recorded (slot s id).chunks q || same_chunk c q)) → Expects
        → Followed s t id (wider s id c)
    unfolding bag_of
    came was before is free set order has x =
        followed_with spots homes stays
        (record {
          claims = λ o q p. has q ∙ elim (homes q id p) [
            | inl z ↦ or_second (is_recorded (slot s id).chunks q) (same_chunk c q) (ap (same_chunk c) z.0 ∙ same_chunk-self c)
            | inr z ↦ or_first (is_recorded (slot s id).chunks q) (same_chunk c q) ((h.bags id).claims o q z)
          ];
          held = λ o q p. elim (cases_Bool (same_chunk c q)) [
            | inl y ↦ ap (λ (z : Place). z.bag) (set q) ∙ rw y refl
            | inr y ↦ stays q id ((h.bags id).held (rw was refl) q (old q y (sym (has q) ∙ p)))
          ];
          near = λ o k w y q r. close k w y (sym (columns k w) ∙ q) (sym (has (chunk_at k y)) ∙ r);
          untouched = λ o p. x.none_noted p ((h.bags id).untouched was (x.calmer p));
          opened = λ o. rw here refl;
          one = (h.bags id).one;
          out = λ o k x q. no (sym not_taken ∙ o);
          list = λ o. refl;
        })
        (record {
          same = refl;
          before = λ o. was;
          order = λ o. order;
          chunks = λ o q n. has q;
          noted = λ o q n. n;
          here = λ o. refl;
          out = λ o. no (sym not_taken ∙ o);
        })
      where
        none : (place s c).bag ≡ None
        none = sym (ap (λ (z : Place). z.bag) is) ∙ free

        spots : (q : ChunkPos) → (place t q).spot ≡ (place s q).spot
        spots q = elim (cases_Bool (same_chunk c q)) [
          | inl y ↦ ap (λ (z : Place). z.spot) (set q) ∙ rw y (ap (λ (z : Place). z.spot) is ∙ ap (λ z. (place s z).spot) (same_chunk-true c q y))
          | inr y ↦ ap (λ (z : Place). z.spot) (set q) ∙ rw y refl
        ]

        homes : (q : ChunkPos) (n : ℕ) → (place t q).bag ≡ Some n → ((q ≡ c) × (n ≡ id)) ⊎ ((place s q).bag ≡ Some n)
        homes q n p = elim (cases_Bool (same_chunk c q)) [
          | inl y ↦
              let f : Some id ≡ Some n = sym (ap (λ (z : Place). z.bag) (set q) ∙ rw y refl) ∙ p in
              let g : n ≡ id = cc in inl (sym (same_chunk-true c q y), g)
          | inr y ↦ inr (sym (ap (λ (z : Place). z.bag) (set q) ∙ rw y refl) ∙ p)
        ]

        stays : (q : ChunkPos) (n : ℕ) → (place s q).bag ≡ Some n → (place t q).bag ≡ Some n
        stays q n p = elim (cases_Bool (same_chunk c q)) [
          | inl y ↦ let f : None ≡ Some n = sym none ∙ ap (λ z. (place s z).bag) (same_chunk-true c q y) ∙ p in cc
          | inr y ↦ ap (λ (z : Place). z.bag) (set q) ∙ rw y p
        ]

        old : (q : ChunkPos) → same_chunk c q ≡ false → (is_recorded (slot s id).chunks q || same_chunk c q) ≡ true → is_recorded (slot s id).chunks q ≡ true
        old q y r = front (is_recorded (slot s id).chunks q) (same_chunk c q) y r
          where
            front : (a b : Bool) → b ≡ false → (a || b) ≡ true → a ≡ true
            front true b y r = refl
            front false b y r = no (sym y ∙ r)

        close : (k : Key) (w : Where) (y : Thing k) → column s k w ≡ Some y → (is_recorded (slot s id).chunks (chunk_at k y) || same_chunk c (chunk_at k y)) ≡ true → Near id d (chunk_at k y) w
        close k arriving y q r = x.none_waits k y q
        close k (in_spot i) y q r = elim (cases_Bool (same_chunk c (chunk_at k y))) [
          | inl e ↦ x.spot_noted k i y q (same_chunk-true c (chunk_at k y) e)
          | inr e ↦ x.noted_stay (chunk_at k y) ((h.bags id).near was k (in_spot i) y q (old (chunk_at k y) e r))
        ]
        close k (in_bag u) y q r = elim (cases_Bool (same_chunk c (chunk_at k y))) [
          | inl e ↦ let f : None ≡ Some u = sym none ∙ ap (λ z. (place s z).bag) (same_chunk-true c (chunk_at k y) e) ∙ h.lies k (in_bag u) y q in cc
          | inr e ↦ (h.bags id).near was k (in_bag u) y q (old (chunk_at k y) e r)
        ]
