-- What lies in a whole bag goes into another whole one, with its chunks.
use Rattle.std.proofs.Common.{◌≡◌, ◌≢◌, ℕ, ◌≤◌, Bool, true, false, ◌||◌, ◌&&◌, List, [], refl, sym, ◌∙◌, ap, subst, inl, inr, Some}
use Rattle.std.proofs.lemmas.Bool.{cases_Bool}
use Rattle.fol_model.specs.declared.places.ChunkPos.{ChunkPos}
use Rattle.fol_chunks.specs.Contents.{is_recorded}
use Rattle.fol_data.specs.declared.region_data.RegionData.{RegionData}
use Rattle.fol_bags.specs.declared.slot.Slot.{Slot}
use Rattle.fol_store.specs.Bag.{Bag, is_whole}
use Rattle.fol_bags.specs.Places.{PlaceRows}
use Rattle.fol_store.specs.Relisted.{Relisted, Joined, Stays}
use Rattle.fol_bags.specs.Unions.{IsUnion}
use Rattle.fol_bags.specs.Things.{Key, Thing, chunk_at}
use Rattle.fol_store.specs.Stock.{Stock, Where, in_bag, slot, place, column, found, next_of, bag_of, shown}
use Rattle.fol_bags.specs.Slots.{no_slot}
use Rattle.fol_store.specs.Sound.{Near, IsBag, IsSound}
use Rattle.fol_store.specs.Steps.{SameWorld}
use Rattle.fol_store.proofs.Columns.{Moves, moves_back}
use Rattle.fol_store.proofs.Totals.{where_cases, same_flat, same_jobs}
use Rattle.fol_store.proofs.Resound.{kept_self, whole_alone, moved_unique, moved_found, moved_lies, moved_bag}
use Rattle.fol_store.proofs.BagSteps.{closed_bag}
use Rattle.fol_store.proofs.Drawing.{with_parts, Pours, at_source, at_target, at_other, apart_bags, moves_over, by_bag, home_keeps, home_moves, home_cases, comes_over, stays_over, spots_within, bags_within, times_over}
use Rattle.fol_store.proofs.Stepping.{here_not_taken}

pub record Merged (u id : ℕ) (s t : Stock) : Type 0 where
  pub sound : IsSound t
  pub joined : Joined u id (bag_of s) (bag_of t)
  pub same : SameWorld s t

no : {P : Type 0} → false ≡ true → P
no e = absurd (let z : ⊥ = cc in z)

either : (a b : Bool) {P : Type 0} → (a || b) ≡ true → (a ≡ true → P) → (b ≡ true → P) → P
either true b e f g = f refl
either false b e f g = g e

-- one that is not listed afterwards
pub not_relisted : (p : ChunkPos → Bool) (a b d : Bag) → Stays a b → d ≡ (let r : Bag = record b { listed = false } in r) → a.taken ≡ false → Relisted p a d
not_relisted p a b d stays e free =
    let off : d.listed ≡ false = ap (λ (x : Bag). x.listed) e in
    record {
      same = rw (e, stays) refl;
      before = λ o. no (sym off ∙ o);
      order = λ o. no (sym off ∙ o);
      chunks = λ o. no (sym off ∙ o);
      noted = λ o. no (sym off ∙ o);
      here = λ o. rw (e, stays) refl;
      out = λ o. no (sym free ∙ o);
    }

-- two whole bags
pub record BothWhole (s : Stock) (u id : ℕ) : Type 0 where
  pub here : (slot s u).here ≡ true
  pub id_here : (slot s id).here ≡ true
  pub listed : (slot s u).listed ≡ true
  pub calm : (slot s u).calm ≡ true
  pub id_listed : (slot s id).listed ≡ true
  pub id_calm : (slot s id).calm ≡ true

-- from what contracts see
pub both_whole : (s v : Stock) (u id : ℕ) → s ≡ v → (bag_of v u).here ≡ true → (bag_of v id).here ≡ true → is_whole (bag_of v u) ≡ true → is_whole (bag_of v id) ≡ true → BothWhole s u id
unfolding bag_of
both_whole s v u id e here id_here whole id_whole = subst (λ w. BothWhole w u id) (sym e) (record {
  here = here;
  id_here = id_here;
  listed = first (slot v u).listed (slot v u).calm whole;
  calm = second (slot v u).listed (slot v u).calm whole;
  id_listed = first (slot v id).listed (slot v id).calm id_whole;
  id_calm = second (slot v id).listed (slot v id).calm id_whole;
})
  where
    first : (a b : Bool) → (a && b) ≡ true → a ≡ true
    first true b e = refl
    first false b e = no e

    second : (a b : Bool) → (a && b) ≡ true → b ≡ true
    second true b e = e
    second false b e = no e

-- two listed bags share no chunk
pub none_shared : (s : Stock) (u id : ℕ) → IsSound s → u ≢ id → (slot s u).listed ≡ true → (slot s id).listed ≡ true → (q : ChunkPos) → is_recorded (slot s u).chunks q ≡ true → is_recorded (slot s id).chunks q ≡ false
none_shared s u id h differ listed id_listed q r = elim (cases_Bool (is_recorded (slot s id).chunks q)) [
  | inl a ↦
      let one : (place s q).bag ≡ Some u = (h.bags u).held (rw listed refl) q r in
      let other : (place s q).bag ≡ Some id = (h.bags id).held (rw id_listed refl) q a in
      let z : Some u ≡ Some id = sym one ∙ other in
      let y : u ≡ id = cc in absurd (differ y)
  | inr a ↦ a
]

module _ (s : Stock) (bags : List Slot) (places : PlaceRows) (spare slots u id : ℕ) (moved : List ChunkPos) (left come : RegionData) (listed calm : Bool) (chunks touched : List ChunkPos) where
  abbrev t : Stock
  t = with_parts s s.spots bags places spare slots

  abbrev source : Slot
  source = let b : Slot = record no_slot { body = left } in b

  abbrev target : Slot
  target = record (slot s id) { body = come; listed = listed; calm = calm; chunks = chunks; list = chunks; touched = touched }

  pub record MergesBags : Type 0 where
    pub pours : Pours s bags places spare slots u id moved source target
    pub both : BothWhole s u id
    -- no chunk of the other is lost, and it gets what moves; where it is listed, this is all chunks of the first, and it has those of both
    pub kept : (q : ChunkPos) → is_recorded (slot s id).chunks q ≡ true → is_recorded chunks q ≡ true
    pub got : (q : ChunkPos) → is_recorded moved q ≡ true → is_recorded chunks q ≡ true
    pub all : listed ≡ true → moved ≡ (slot s u).chunks
    pub union : listed ≡ true → IsUnion (slot s id).chunks (slot s u).chunks chunks
    pub none_noted : listed ≡ true → touched ≡ []
    pub more_spare : s.spare ≤ spare
    pub more_slots : s.slots ≤ slots

  module _ (d : MergesBags) (h : IsSound s) where
    apart : in_bag u ≢ in_bag id
    apart = apart_bags s bags places spare slots u id moved source target d.pours

    moves : (k : Key) → Moves where_cases (column s k) (column t k) (in_bag u) (in_bag id) (λ x. is_recorded moved (chunk_at k x))
    moves = moves_over s bags places spare slots u id moved source target d.pours

    keeps : (c : ChunkPos) (n : ℕ) → (place s c).bag ≡ Some n → (n ≡ u → is_recorded moved c ≡ false) → (place t c).bag ≡ Some n
    keeps = home_keeps s bags places spare slots u id moved source target d.pours

    not_taken : (slot s id).taken ≡ false
    not_taken = here_not_taken id s h d.both.id_here

    -- a chunk of the union is one of either
    of_either : listed ≡ true → (q : ChunkPos) {P : Type 0} → is_recorded chunks q ≡ true → (is_recorded (slot s id).chunks q ≡ true → P) → (is_recorded (slot s u).chunks q ≡ true → P) → P
    of_either o q r f g = either (is_recorded (slot s id).chunks q) (is_recorded (slot s u).chunks q) (sym ((d.union o).has q) ∙ r) f g

    all_move : listed ≡ true → (q : ChunkPos) → is_recorded (slot s u).chunks q ≡ true → is_recorded moved q ≡ true
    all_move o q r = ap (λ l. is_recorded l q) (d.all o) ∙ r

    is_listed : (listed || (slot s id).taken) ≡ true → listed ≡ true
    is_listed o = either listed (slot s id).taken o (λ e. e) (λ e. no (sym not_taken ∙ e))

    own_bag : IsBag t id target
    own_bag = record {
      claims = λ o c q. elim (home_cases s bags places spare slots u id moved source target d.pours c id q) [
        | inl z ↦ d.got c z.listed
        | inr z ↦ d.kept c ((h.bags id).claims o c z)
      ];
      held = λ o c r. of_either (is_listed o) c r
          (λ e. keeps c id ((h.bags id).held (rw d.both.id_listed refl) c e) (λ f. absurd (d.pours.apart (sym f))))
          (λ e. home_moves s bags places spare slots u id moved source target d.pours c (all_move (is_listed o) c e) ((h.bags u).held (rw d.both.listed refl) c e));
      near = λ o k w x q r. subst (Near id target (chunk_at k x)) (sym (near_it o k w x q r)) refl;
      untouched = λ o p. d.none_noted o;
      opened = λ o. rw d.both.id_here refl;
      one = (h.bags id).one;
      out = λ o k x q. no (sym not_taken ∙ o);
      list = λ o. refl;
    }
      where
        near_it : listed ≡ true → (k : Key) (w : Where) (x : Thing k) → column t k w ≡ Some x → is_recorded chunks (chunk_at k x) ≡ true → w ≡ in_bag id
        near_it o k w x q r =
            elim (moves_back where_cases (column s k) (column t k) (in_bag u) (in_bag id) (λ y. is_recorded moved (chunk_at k y)) apart (moves k) w x q) [
              | inl z ↦ z.there
              | inr z ↦ of_either o (chunk_at k x) r
                  (λ e. whole_alone s id (slot s id) (h.bags id) d.both.id_listed d.both.id_calm k w x z.had e)
                  (λ e.
                  let lay : w ≡ in_bag u = whole_alone s u (slot s u) (h.bags u) d.both.listed d.both.calm k w x z.had e in
                  no (sym (z.fails lay) ∙ all_move o (chunk_at k x) e))
            ]

    other_bag : (n : ℕ) → u ≢ n → id ≢ n → IsBag t n (slot s n)
    other_bag n a b =
        moved_bag s t (in_bag u) (in_bag id) (λ k x. is_recorded moved (chunk_at k x)) apart moves n (slot s n) (slot s n) (kept_self (slot s n))
        (λ c q. elim (home_cases s bags places spare slots u id moved source target d.pours c n q) [
          | inl z ↦ absurd (b (sym z.here))
          | inr z ↦ inl z
        ])
        (λ o c q. keeps c n q (λ e. absurd (a (sym e))))
        (λ o k x q p r. absurd (a ((h.bags n).near o k (in_bag u) x q r)))
        (λ o e. let f : id ≡ n = cc in b f)
        (h.bags n)

    found_all : (k : Key) → found t k ≡ found s k
    found_all = moved_found s t (in_bag u) (in_bag id) (λ k x. is_recorded moved (chunk_at k x)) apart moves h.unique

    pub merged_bags : Merged u id s t
    unfolding bag_of next_of
    merged_bags = record {
      sound = record {
        unique = moved_unique s t (in_bag u) (in_bag id) (λ k x. is_recorded moved (chunk_at k x)) apart moves h.unique;
        lies = moved_lies s t (in_bag u) (in_bag id) (λ k x. is_recorded moved (chunk_at k x)) apart moves (comes_over s bags places spare slots u id moved source target d.pours h) (stays_over s bags places spare slots u id moved source target d.pours h);
        spot_range = spots_within s bags places spare slots u id moved source target d.pours h;
        bag_range = bags_within s bags places spare slots u id moved source target d.pours h;
        bags = by_bag s bags places spare slots u id moved source target d.pours (λ n b. IsBag t n b) (closed_bag t u source refl refl refl refl) own_bag other_bag;
        spot_times = h.spot_times;
        bag_times = times_over s bags places spare slots u id moved source target d.pours h;
        arrival_times = h.arrival_times;
        arrivals_differ = h.arrivals_differ;
      };
      joined = record {
        gone = ap shown (at_source s bags places spare slots u id moved source target d.pours);
        own = let P : Slot → Type 0 = λ b. Relisted (λ q. is_recorded (slot s id).chunks q || is_recorded (slot s u).chunks q) (shown (slot s id)) (shown b) in subst P (sym (at_target s bags places spare slots u id moved source target d.pours)) (record {
          same = rw (d.both.id_here, d.pours.gains.tick, d.pours.gains.owed) refl;
          before = λ o. d.both.id_listed;
          order = λ o. (d.union o).order;
          chunks = λ o q n. (d.union o).has q;
          noted = λ o q n. n;
          here = λ o. refl;
          out = λ o. no (sym not_taken ∙ o);
        });
        both = λ o. d.both.listed;
        others = λ n a b. ap shown (at_other s bags places spare slots u id moved source target d.pours n (λ e. a (sym e)) (λ e. b (sym e)));
      };
      same = record {
        contents = same_flat s t found_all;
        tasks = same_jobs s t found_all;
        next = d.pours.long;
        spare = d.more_spare;
        slots = d.more_slots;
      };
    }
