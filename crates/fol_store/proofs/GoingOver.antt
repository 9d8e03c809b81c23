-- What lies on some chunks goes from the bag of a region to a fresh one, and both bags change besides.
use Rattle.std.proofs.Common.{◌≡◌, ◌≢◌, ℕ, ◌≤◌, true, false, List, [], refl, sym, ◌∙◌, ap, subst, inl, inr, Some}
use Rattle.std.specs.Prelude.{nat_eq, if◌then◌else◌}
use Rattle.std.proofs.lemmas.Bool.{cases_Bool, eqb-true}
use Rattle.fol_model.specs.declared.places.ChunkPos.{ChunkPos}
use Rattle.fol_chunks.specs.Contents.{is_recorded}
use Rattle.fol_queues.proofs.Numbers.{nat_self}
use Rattle.fol_bags.specs.declared.slot.Slot.{Slot}
use Rattle.fol_bags.specs.Places.{PlaceRows}
use Rattle.fol_store.specs.Relisted.{IsUngathered}
use Rattle.fol_bags.specs.Things.{Key, chunk_at}
use Rattle.fol_store.specs.Stock.{Stock, in_bag, slot, place, column, found, next_of, bag_of, shown}
use Rattle.fol_store.specs.Sound.{IsBag, IsSound}
use Rattle.fol_store.specs.Steps.{SameWorld}
use Rattle.fol_store.proofs.Columns.{Moves}
use Rattle.fol_store.proofs.Totals.{where_cases, same_flat, same_jobs}
use Rattle.fol_store.proofs.Resound.{kept_self, moved_unique, moved_found, moved_lies, moved_bag}
use Rattle.fol_store.proofs.Drawing.{with_parts, Pours, at_other, apart_bags, moves_over, by_bag, home_keeps, home_cases, comes_over, stays_over, spots_within, bags_within, times_over}

-- the bag of a region, and a fresh one
pub record Pair (s : Stock) (u id : ℕ) : Type 0 where
  pub here : (slot s u).here ≡ true
  pub id_here : (slot s id).here ≡ true
  pub bare : (slot s id).chunks ≡ []
  pub id_unlisted : (slot s id).listed ≡ false
  pub apart : u ≢ id

-- from what contracts see
pub a_pair : (s v : Stock) (u id : ℕ) → s ≡ v → (bag_of v u).here ≡ true → IsUngathered (bag_of v id) → u ≢ id → Pair s u id
unfolding bag_of
a_pair s v u id e here fresh apart = subst (λ w. Pair w u id) (sym e) (record {
  here = here;
  id_here = fresh.here;
  bare = fresh.chunks;
  id_unlisted = fresh.listed;
  apart = apart;
})

-- ---- some things go over, and both bags change besides
module _ (s : Stock) (bags : List Slot) (places : PlaceRows) (spare slots u id : ℕ) (moved : List ChunkPos) (source target : Slot) where
  abbrev t : Stock
  t = with_parts s s.spots bags places spare slots

  pub record GoesOver : Type 0 where
    pub pours : Pours s bags places spare slots u id moved source target
    pub first : IsBag t u source
    pub second : IsBag t id target
    pub more_spare : s.spare ≤ spare
    pub more_slots : s.slots ≤ slots

  pub record WentOver : Type 0 where
    pub sound : IsSound t
    pub others : (n : ℕ) → n ≢ u → n ≢ id → bag_of t n ≡ bag_of s n
    pub same : SameWorld s t

  -- only the second bag comes to be named
  pub not_here : Pours s bags places spare slots u id moved source target → (n : ℕ) → id ≢ n → (c : ChunkPos) → (place t c).bag ≡ Some n → (place s c).bag ≡ Some n
  not_here d n b c q = elim (home_cases s bags places spare slots u id moved source target d c n q) [
    | inl z ↦ absurd (b (sym z.here))
    | inr z ↦ z
  ]

  module _ (d : GoesOver) (h : IsSound s) where
    apart : in_bag u ≢ in_bag id
    apart = apart_bags s bags places spare slots u id moved source target d.pours

    moves : (k : Key) → Moves where_cases (column s k) (column t k) (in_bag u) (in_bag id) (λ x. is_recorded moved (chunk_at k x))
    moves = moves_over s bags places spare slots u id moved source target d.pours

    other_bag : (n : ℕ) → u ≢ n → id ≢ n → IsBag t n (slot s n)
    other_bag n a b =
        moved_bag s t (in_bag u) (in_bag id) (λ k x. is_recorded moved (chunk_at k x)) apart moves n (slot s n) (slot s n) (kept_self (slot s n))
        (λ c q. inl (not_here d.pours n b c q))
        (λ o c q. home_keeps s bags places spare slots u id moved source target d.pours c n q (λ e. absurd (a (sym e))))
        (λ o k x q p r. absurd (a ((h.bags n).near o k (in_bag u) x q r)))
        (λ o e. let f : id ≡ n = cc in b f)
        (h.bags n)

    found_all : (k : Key) → found t k ≡ found s k
    found_all = moved_found s t (in_bag u) (in_bag id) (λ k x. is_recorded moved (chunk_at k x)) apart moves h.unique

    pub went_over : WentOver
    unfolding bag_of next_of
    went_over = record {
      sound = record {
        unique = moved_unique s t (in_bag u) (in_bag id) (λ k x. is_recorded moved (chunk_at k x)) apart moves h.unique;
        lies = moved_lies s t (in_bag u) (in_bag id) (λ k x. is_recorded moved (chunk_at k x)) apart moves (comes_over s bags places spare slots u id moved source target d.pours h) (stays_over s bags places spare slots u id moved source target d.pours h);
        spot_range = spots_within s bags places spare slots u id moved source target d.pours h;
        bag_range = bags_within s bags places spare slots u id moved source target d.pours h;
        bags = by_bag s bags places spare slots u id moved source target d.pours (λ n b. IsBag t n b) d.first d.second other_bag;
        spot_times = h.spot_times;
        bag_times = times_over s bags places spare slots u id moved source target d.pours h;
        arrival_times = h.arrival_times;
        arrivals_differ = h.arrivals_differ;
      };
      others = λ n a b. ap shown (at_other s bags places spare slots u id moved source target d.pours n (λ e. a (sym e)) (λ e. b (sym e)));
      same = record {
        contents = same_flat s t found_all;
        tasks = same_jobs s t found_all;
        next = d.pours.long;
        spare = d.more_spare;
        slots = d.more_slots;
      };
    }

-- the first of two bags that change
pub first_is : (s : Stock) (u id : ℕ) (source target : Slot) (new : ℕ → Slot) → ((n : ℕ) → new n ≡ (if nat_eq u n then source else (if nat_eq id n then target else slot s n))) → new u ≡ source
first_is s u id source target new each = each u ∙ rw (nat_self u) refl

-- the bags after two steps: both bags change, and then the second gets lists
pub shift_and_list : (s : Stock) (u id : ℕ) (source target : Slot) (mid new : ℕ → Slot) (lists : Slot → Slot) → u ≢ id
    → ((n : ℕ) → mid n ≡ (if nat_eq u n then source else (if nat_eq id n then target else slot s n)))
    → ((n : ℕ) → new n ≡ (if nat_eq id n then lists (mid id) else mid n))
    → (n : ℕ) → new n ≡ (if nat_eq u n then source else (if nat_eq id n then lists target else slot s n))
shift_and_list s u id source target mid new lists apart first second n = elim (cases_Bool (nat_eq id n)) [
  | inl e ↦ elim (cases_Bool (nat_eq u n)) [
    | inl f ↦ absurd (apart (eqb-true u n f ∙ sym (eqb-true id n e)))
    | inr f ↦ second n ∙ rw (e, f) (ap lists mid_here)
  ]
  | inr e ↦ second n ∙ rw e (first n ∙ rw e refl)
]
  where
    mid_here : mid id ≡ target
    mid_here = first id ∙ elim (cases_Bool (nat_eq u id)) [
      | inl f ↦ absurd (apart (eqb-true u id f))
      | inr f ↦ rw (f, nat_self id) refl
    ]
