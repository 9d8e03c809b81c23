-- What lies on some chunks of the bag of a region goes into the bag of a part of it.
use Rattle.std.proofs.Common.{◌≡◌, ℕ, ◌≤◌, Bool, true, false, not, ◌&&◌, ◌||◌, List, [], refl, sym, ◌∙◌, ap, subst, inl, inr, Some, filter}
use Rattle.std.specs.Prelude.{nat_eq, if◌then◌else◌}
use Rattle.std.specs.List.Sorted.{IsStrictlySortedBy}
use Rattle.std.proofs.lemmas.Bool.{cases_Bool, true≢false}
use Rattle.fol_model.specs.declared.places.ChunkPos.{ChunkPos}
use Rattle.fol_chunks.specs.Contents.{is_recorded}
use Rattle.fol_chunks.specs.Order.{chunk_cmp}
use Rattle.fol_data.specs.declared.region_data.RegionData.{RegionData}
use Rattle.fol_bags.specs.declared.slot.Slot.{Slot}
use Rattle.fol_store.specs.Bag.{Bag}
use Rattle.fol_bags.specs.Places.{PlaceRows}
use Rattle.fol_store.specs.Relisted.{IsInOrder, Receives}
use Rattle.fol_bags.specs.Things.{Key, Thing, chunk_at}
use Rattle.fol_store.specs.Stock.{Stock, Where, arriving, in_spot, in_bag, slot, place, column, bag_of, shown}
use Rattle.fol_store.specs.Sound.{Near, IsBag, IsSound}
use Rattle.fol_store.specs.Noted.{AreNoted}
use Rattle.fol_store.specs.Steps.{SameWorld}
use Rattle.fol_store.proofs.Columns.{Stayed, moves_back}
use Rattle.fol_store.proofs.Totals.{where_cases}
use Rattle.fol_store.proofs.Resound.{moved_bag}
use Rattle.fol_store.proofs.Drawing.{with_parts, Pours, at_source, at_target, apart_bags, moves_over, home_keeps, home_moves, home_cases}
use Rattle.fol_store.proofs.GoingOver.{Pair, WentOver, first_is, not_here, went_over}
use Rattle.fol_store.proofs.Leaving.{one_alone}
use Rattle.fol_store.proofs.SameLists.{without}
use Rattle.fol_store.proofs.Stepping.{here_not_taken}

pub record Handed (u id : ℕ) (chunks : List ChunkPos) (s t : Stock) : Type 0 where
  pub sound : IsSound t
  pub received : Receives u id chunks (bag_of s) (bag_of t)
  pub same : SameWorld s t

never : {P : Type 0} → false ≡ true → P
never e = absurd (true≢false (sym e))

-- the bags after what lies on some chunks went over: the first has other chunks then
pub shift_and_lose : (s : Stock) (u id : ℕ) (source target : Slot) (mid new : ℕ → Slot) (others : Slot → Slot)
    → ((n : ℕ) → mid n ≡ (if nat_eq u n then source else (if nat_eq id n then target else slot s n)))
    → ((n : ℕ) → new n ≡ (if nat_eq u n then others (mid u) else mid n))
    → (n : ℕ) → new n ≡ (if nat_eq u n then others source else (if nat_eq id n then target else slot s n))
shift_and_lose s u id source target mid new others first second n = elim (cases_Bool (nat_eq u n)) [
  | inl e ↦ second n ∙ rw e (ap others (first_is s u id source target mid first))
  | inr e ↦ second n ∙ rw e (first n ∙ rw e refl)
]

-- the list of the first has the chunks of the bag still
pub poured_list : (s : Stock) (u id : ℕ) (left : RegionData) (target : Slot) (mid : ℕ → Slot)
    → ((n : ℕ) → mid n ≡ (if nat_eq u n then (record (slot s u) { body = left; listed = false }) else (if nat_eq id n then target else slot s n)))
    → IsSound s → (slot s u).here ≡ true → (mid u).list ≡ (slot s u).chunks
poured_list s u id left target mid each h here =
    ap (λ (b : Slot). b.list) (first_is s u id (record (slot s u) { body = left; listed = false }) target mid each) ∙ (h.bags u).list (here_not_taken u s h here)

-- what contracts see of a bag that is listed
pub was_listed : (s v : Stock) (u : ℕ) (b : Bool) → s ≡ v → b ≡ (bag_of v u).listed → b ≡ true → (slot s u).listed ≡ true
unfolding bag_of
was_listed s v u b e f l = subst (λ w. (slot w u).listed ≡ true) (sym e) (sym f ∙ l)

pub was_in_order : (s v : Stock) (u : ℕ) → s ≡ v → IsInOrder (bag_of v u) → (slot s u).listed ≡ true → IsStrictlySortedBy chunk_cmp (slot s u).chunks
unfolding bag_of
was_in_order s v u e order = subst (λ w. (slot w u).listed ≡ true → IsStrictlySortedBy chunk_cmp (slot w u).chunks) (sym e) order

-- ---- some things go over, and the first bag has other chunks then
module _ (s : Stock) (bags : List Slot) (places : PlaceRows) (spare slots u id : ℕ) (moved chunks : List ChunkPos) (left : RegionData) (listed : Bool) (rest list : List ChunkPos) (target : Slot) where
  abbrev t : Stock
  t = with_parts s s.spots bags places spare slots

  abbrev source : Slot
  source = record (slot s u) { body = left; listed = listed; chunks = rest; list = list }

  pub record HandsOver : Type 0 where
    pub pours : Pours s bags places spare slots u id moved source target
    pub pair : Pair s u id
    pub before : listed ≡ true → (slot s u).listed ≡ true
    pub order : listed ≡ true → IsStrictlySortedBy chunk_cmp (slot s u).chunks
    pub rest_order : listed ≡ true → IsStrictlySortedBy chunk_cmp rest
    pub has : listed ≡ true → (q : ChunkPos) → is_recorded rest q ≡ (is_recorded (slot s u).chunks q && not (is_recorded moved q))
    pub unlisted : listed ≡ false → rest ≡ (slot s u).chunks
    pub list_is : list ≡ rest
    pub moved_are : listed ≡ true → moved ≡ chunks
    pub own : IsBag t id target
    pub stays : shown target ≡ (let b : Bag = record (shown (slot s id)) { listed = target.listed; calm = target.calm; chunks = target.chunks } in b)
    pub chunks_are : target.listed ≡ true → target.chunks ≡ chunks
    pub more_spare : s.spare ≤ spare
    pub more_slots : s.slots ≤ slots

  module _ (d : HandsOver) (h : IsSound s) where
    not_taken : (slot s u).taken ≡ false
    not_taken = here_not_taken u s h d.pair.here

    -- a chunk that the first bag has still did not go over
    kept_chunk : listed ≡ true → (c : ChunkPos) → is_recorded rest c ≡ true → (is_recorded (slot s u).chunks c ≡ true) × (is_recorded moved c ≡ false)
    kept_chunk l c r = one_alone (is_recorded (slot s u).chunks c) (is_recorded moved c) (sym (d.has l c) ∙ r)

    still_named : (c : ChunkPos) → (place t c).bag ≡ Some u → (place s c).bag ≡ Some u
    still_named = not_here s bags places spare slots u id moved source target d.pours u (λ e. d.pair.apart (sym e))

    not_moved : (c : ChunkPos) → (place t c).bag ≡ Some u → is_recorded moved c ≡ false
    not_moved c q = elim (cases_Bool (is_recorded moved c)) [
      | inl r ↦
          let e : Some u ≡ Some id = sym q ∙ home_moves s bags places spare slots u id moved source target d.pours c r (still_named c q) in
          let f : u ≡ id = cc in absurd (d.pair.apart f)
      | inr r ↦ r
    ]

    -- a chunk that names the first bag is one that it has
    claimed : (c : ChunkPos) → is_recorded (slot s u).chunks c ≡ true → is_recorded moved c ≡ false → is_recorded rest c ≡ true
    claimed c had stayed = elim (cases_Bool listed) [
      | inl l ↦ d.has l c ∙ rw (had, stayed) refl
      | inr l ↦ ap (λ m. is_recorded m c) (d.unlisted l) ∙ had
    ]

    is_listed : (listed || (slot s u).taken) ≡ true → listed ≡ true
    is_listed o = elim (cases_Bool listed) [ inl l ↦ l | inr l ↦ never (sym (rw (l, not_taken) refl) ∙ o) ]

    first_bag : IsBag t u source
    first_bag = record {
      claims = λ o c q. claimed c ((h.bags u).claims o c (still_named c q)) (not_moved c q);
      held = λ o c r.
          let l : listed ≡ true = is_listed o in
          let two = kept_chunk l c r in
          home_keeps s bags places spare slots u id moved source target d.pours c u ((h.bags u).held (rw (d.before l) refl) c two.0) (λ e. two.1);
      near = λ l k w x q r.
          let two = kept_chunk l (chunk_at k x) r in
          elim (moves_back where_cases (column s k) (column t k) (in_bag u) (in_bag id) (λ y. is_recorded moved (chunk_at k y))
          (apart_bags s bags places spare slots u id moved source target d.pours)
          (moves_over s bags places spare slots u id moved source target d.pours k) w x q) [
            | inl z ↦ never (sym two.1 ∙ z.passes)
            | inr z ↦ close k w x ((h.bags u).near (d.before l) k w x z.had two.0)
          ];
      untouched = λ l p. (h.bags u).untouched (d.before l) p;
      opened = λ l. (h.bags u).opened (d.before l);
      one = (h.bags u).one;
      out = λ o k x q. never (sym not_taken ∙ o);
      list = λ o. d.list_is;
    }
      where
        close : (k : Key) (w : Where) (x : Thing k) → Near u (slot s u) (chunk_at k x) w → Near u source (chunk_at k x) w
        close k arriving x n = n
        close k (in_spot v) x n = n
        close k (in_bag v) x n = n

    over : WentOver s bags places spare slots u id moved source target
    over = went_over s bags places spare slots u id moved source target (record {
      pours = d.pours;
      first = first_bag;
      second = d.own;
      more_spare = d.more_spare;
      more_slots = d.more_slots;
    }) h

    left_are : listed ≡ true → rest ≡ filter (λ q. not (is_recorded chunks q)) (slot s u).chunks
    left_are l = without (slot s u).chunks chunks rest (d.order l) (d.rest_order l) (rw (d.moved_are l) at (d.has l))

    pub handed_over : Handed u id chunks s t
    unfolding bag_of
    handed_over = record {
      sound = over.sound;
      received = record {
        own = let P : Slot → Type 0 = λ b. shown b ≡ (let r : Bag = record (shown (slot s id)) { listed = b.listed; calm = b.calm; chunks = b.chunks } in r) in subst P (sym (at_target s bags places spare slots u id moved source target d.pours)) d.stays;
        listing = let P : Slot → Type 0 = λ b. b.listed ≡ true → b.chunks ≡ chunks in subst P (sym (at_target s bags places spare slots u id moved source target d.pours)) d.chunks_are;
        rest = let P : Slot → Type 0 = λ b. shown b ≡ (let r : Bag = record (shown (slot s u)) { listed = b.listed; chunks = b.chunks } in r) in subst P (sym (at_source s bags places spare slots u id moved source target d.pours)) (rw (d.pours.loses.tick, d.pours.loses.owed) refl);
        left = let P : Slot → Type 0 = λ b. b.listed ≡ true → ((slot s u).listed ≡ true) × (b.chunks ≡ filter (λ q. not (is_recorded chunks q)) (slot s u).chunks) in subst P (sym (at_source s bags places spare slots u id moved source target d.pours)) (λ l. (d.before l, left_are l));
        in_order = let P : Slot → Type 0 = λ b. IsInOrder (shown b) in subst P (sym (at_source s bags places spare slots u id moved source target d.pours)) d.rest_order;
        others = over.others;
      };
      same = over.same;
    }

-- ---- all that lies on the chunks goes over, and the second bag is listed for them
module _ (s : Stock) (bags : List Slot) (places : PlaceRows) (spare slots u id : ℕ) (chunks touched : List ChunkPos) (left come : RegionData) (listed : Bool) (rest : List ChunkPos) where
  abbrev after : Stock
  after = with_parts s s.spots bags places spare slots

  abbrev first_left : Slot
  first_left = record (slot s u) { body = left; listed = listed; chunks = rest; list = rest }

  abbrev second_listed : Slot
  second_listed = record (slot s id) { body = come; listed = true; calm = false; chunks = chunks; list = chunks; touched = touched }

  pub record ListsBag : Type 0 where
    pub pours : Pours s bags places spare slots u id chunks first_left second_listed
    pub pair : Pair s u id
    pub before : listed ≡ true → (slot s u).listed ≡ true
    pub order : listed ≡ true → IsStrictlySortedBy chunk_cmp (slot s u).chunks
    pub rest_order : listed ≡ true → IsStrictlySortedBy chunk_cmp rest
    pub has : listed ≡ true → (q : ChunkPos) → is_recorded rest q ≡ (is_recorded (slot s u).chunks q && not (is_recorded chunks q))
    pub unlisted : listed ≡ false → rest ≡ (slot s u).chunks
    pub homes : (q : ChunkPos) → is_recorded chunks q ≡ true → (place s q).bag ≡ Some u
    pub touched_are : AreNoted s chunks touched
    pub more_spare : s.spare ≤ spare
    pub more_slots : s.slots ≤ slots

  module _ (d : ListsBag) (h : IsSound s) where
    second_home : (slot s id).taken ≡ false
    second_home = here_not_taken id s h d.pair.id_here

    lies_near : (k : Key) (x : Thing k) (w : Where) → Stayed where_cases (column s k) (column after k) (in_bag u) w (λ y. is_recorded chunks (chunk_at k y)) x → is_recorded chunks (chunk_at k x) ≡ true → Near id second_listed (chunk_at k x) w
    lies_near k x arriving z r = λ o. never o
    lies_near k x (in_spot i) z r = d.touched_are (chunk_at k x) i r (h.lies k (in_spot i) x z.had)
    lies_near k x (in_bag n) z r =
        let e : Some n ≡ Some u = sym (h.lies k (in_bag n) x z.had) ∙ d.homes (chunk_at k x) r in
        let f : n ≡ u = cc in
        never (sym (z.fails (ap (λ m. in_bag m) f)) ∙ r)

    second_bag : IsBag after id second_listed
    second_bag = record {
      claims = λ o c q. elim (home_cases s bags places spare slots u id chunks first_left second_listed d.pours c id q) [
        | inl z ↦ z.listed
        | inr z ↦ never (sym (ap (λ l. is_recorded l c) d.pair.bare) ∙ (h.bags id).claims (rw d.pair.id_here refl) c z)
      ];
      held = λ o c r. home_moves s bags places spare slots u id chunks first_left second_listed d.pours c r (d.homes c r);
      near = λ o k w x q r. elim (moves_back where_cases (column s k) (column after k) (in_bag u) (in_bag id) (λ y. is_recorded chunks (chunk_at k y))
          (apart_bags s bags places spare slots u id chunks first_left second_listed d.pours)
          (moves_over s bags places spare slots u id chunks first_left second_listed d.pours k) w x q) [
            | inl z ↦ subst (Near id second_listed (chunk_at k x)) (sym z.there) refl
            | inr z ↦ lies_near k x w z r
          ];
      untouched = λ o p. never p;
      opened = λ o. rw d.pair.id_here refl;
      one = (h.bags id).one;
      out = λ o k x q. never (sym second_home ∙ o);
      list = λ o. refl;
    }

    pub listed_over : Handed u id chunks s after
    listed_over = handed_over s bags places spare slots u id chunks chunks left listed rest rest second_listed (record {
      pours = d.pours;
      pair = d.pair;
      before = d.before;
      order = d.order;
      rest_order = d.rest_order;
      has = d.has;
      unlisted = d.unlisted;
      list_is = refl;
      moved_are = λ l. refl;
      own = second_bag;
      stays = rw (d.pair.id_here, d.pours.gains.tick, d.pours.gains.owed) refl;
      chunks_are = λ o. refl;
      more_spare = d.more_spare;
      more_slots = d.more_slots;
    }) h

-- ---- nothing goes over
module _ (s : Stock) (bags : List Slot) (spare slots u id : ℕ) (chunks : List ChunkPos) (left come : RegionData) where
  abbrev still : Stock
  still = with_parts s s.spots bags s.places spare slots

  abbrev first_same : Slot
  first_same = record (slot s u) { body = left; listed = false }

  abbrev second_same : Slot
  second_same = record (slot s id) { body = come }

  pub record LeavesBag : Type 0 where
    pub pours : Pours s bags s.places spare slots u id [] first_same second_same
    pub pair : Pair s u id
    pub more_spare : s.spare ≤ spare
    pub more_slots : s.slots ≤ slots

  module _ (d : LeavesBag) (h : IsSound s) where
    same_second : IsBag still id second_same
    same_second =
        moved_bag s still (in_bag u) (in_bag id) (λ k x. is_recorded [] (chunk_at k x))
        (apart_bags s bags s.places spare slots u id [] first_same second_same d.pours)
        (moves_over s bags s.places spare slots u id [] first_same second_same d.pours) id (slot s id) second_same
        (record { here = refl; taken = refl; chunks = refl; list = refl; touched = refl; listed = λ o. o; calm = λ o. o })
        (λ c q. elim (home_cases s bags s.places spare slots u id [] first_same second_same d.pours c id q) [ inl z ↦ never z.listed | inr z ↦ inl z ])
        (λ o c q. home_keeps s bags s.places spare slots u id [] first_same second_same d.pours c id q (λ e. refl))
        (λ o k x q p r. never (sym d.pair.id_unlisted ∙ o))
        (λ o e. never (sym (here_not_taken id s h d.pair.id_here) ∙ o))
        (h.bags id)

    pub left_over : Handed u id chunks s still
    left_over = handed_over s bags s.places spare slots u id [] chunks left false (slot s u).chunks (slot s u).list second_same (record {
      pours = d.pours;
      pair = d.pair;
      before = λ o. never o;
      order = λ o. never o;
      rest_order = λ o. never o;
      has = λ o. never o;
      unlisted = λ o. refl;
      list_is = (h.bags u).list (here_not_taken u s h d.pair.here);
      moved_are = λ o. never o;
      own = same_second;
      stays = rw (d.pair.id_here, d.pours.gains.tick, d.pours.gains.owed) refl;
      chunks_are = λ o. never (sym d.pair.id_unlisted ∙ o);
      more_spare = d.more_spare;
      more_slots = d.more_slots;
    }) h
