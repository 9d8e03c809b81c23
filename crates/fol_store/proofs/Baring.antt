-- A store with nothing in it, and lists that are laid from their ends.
use Rattle.std.proofs.Common.{◌≡◌, ℕ, zero, suc, ◌<◌, Bool, true, false, List, [], ◌∷◌, length, get_or, drop, refl, sym, ◌∙◌, ap, subst, lit≤, drop-cons, Option, Some, None}
use Rattle.std.specs.Prelude.{nat_eq, if◌then◌else◌}
use Rattle.std.specs.List.{IsDistinct}
use Rattle.std.specs.Option.{unwrap_or}
use Rattle.std.proofs.lemmas.List.Elements.{All-nil}
use Rattle.std.proofs.Math.Path.{fun_ext}
use Rattle.fol_model.specs.declared.places.BlockPos.{BlockPos}
use Rattle.fol_model.specs.declared.places.ChunkPos.{ChunkPos}
use Rattle.fol_model.specs.declared.openings.BlockAt.{BlockAt}
use Rattle.fol_model.specs.declared.entities.Entity.{Entity}
use Rattle.fol_model.specs.Geometry.{same_block}
use Rattle.fol_model.specs.World.{block_in, standing_in}
use Rattle.fol_model.specs.ActionStep.{Flat, Standing, standing_of}
use Rattle.fol_chunks.proofs.Flats.{flat_is}
use Rattle.fol_data.specs.Rests.{IsInTime}
use Rattle.fol_bags.specs.declared.slot.Slot.{Slot}
use Rattle.fol_bags.specs.declared.places.Place.{Place}
use Rattle.fol_store.specs.Bag.{no_bag}
use Rattle.fol_store.specs.Laid.{AllClosed, IsBare}
use Rattle.fol_bags.specs.Slots.{slot_in, no_slot}
use Rattle.fol_bags.specs.Places.{PlaceRows, place_at, nowhere}
use Rattle.fol_bags.specs.Things.{Key, of_block, of_entity, of_task, Thing, things, some_number, no_data, IsTimely}
use Rattle.fol_store.specs.Stock.{Stock, Where, arriving, in_spot, in_bag, slot, column, found, bag_of, shown, flat_of, jobs_of}
use Rattle.fol_store.specs.Sound.{IsSound}
use Rattle.fol_bags.proofs.Empty.{things_none, timely_empty}
use Rattle.fol_store.proofs.Totals.{found_at, number_is}
use Rattle.fol_store.proofs.BagSteps.{closed_bag, bag_slot}
use Rattle.fol_store.proofs.Spotting.{none_arrives}

-- the one bag of an id that no region has
closed : (u : ℕ) → slot_in (no_slot ∷ []) u ≡ no_slot
closed zero = refl
closed (suc u) = refl

module _ (places : PlaceRows) (spare slots : ℕ) (homes : (q : ChunkPos) → place_at places q ≡ nowhere) where
  abbrev pub bare : Stock
  bare = record { arrivals = []; spots = []; bags = no_slot ∷ []; places = places; spare = spare; slots = slots }

  nothing : (k : Key) (w : Where) → column bare k w ≡ None
  nothing k arriving = none_arrives bare k refl
  nothing k (in_spot i) = things_none k
  nothing k (in_bag u) = ap (λ (b : Slot). things b.body k) (closed u) ∙ things_none k

  clash : {P : Type 0} (k : Key) (w : Where) (x : Thing k) → column bare k w ≡ Some x → P
  clash k w x q = let z : None ≡ Some x = sym (nothing k w) ∙ q in absurd (let f : ⊥ = cc in f)

  pub bare_sound : IsSound bare
  unfolding IsDistinct
  bare_sound = record {
    unique = λ k v w x y q r. clash k v x q;
    lies = λ k w x q. clash k w x q;
    spot_range = λ c i e. let z : None ≡ Some i = sym (ap (λ (p : Place). p.spot) (homes c)) ∙ e in absurd (let f : ⊥ = cc in f);
    bag_range = λ c i e. let z : None ≡ Some i = sym (ap (λ (p : Place). p.bag) (homes c)) ∙ e in absurd (let f : ⊥ = cc in f);
    bags = λ u. closed_bag bare u (slot bare u) (ap (λ (b : Slot). b.here) (closed u)) (ap (λ (b : Slot). b.taken) (closed u)) (ap (λ (b : Slot). b.listed) (closed u)) (ap (λ (b : Slot). b.list) (closed u) ∙ sym (ap (λ (b : Slot). b.chunks) (closed u)));
    spot_times = λ i. timely_empty no_data (lit≤ tt) refl;
    bag_times = λ u. let P : Slot → Type 0 = λ b. IsTimely b.body in subst P (sym (closed u)) (timely_empty no_data (lit≤ tt) refl);
    arrival_times = All-nil (IsInTime 0);
    arrivals_differ = tt;
  }

  pub is_bare : IsBare bare
  is_bare = record {
    closed = record { bags = λ u. bag_slot bare u ∙ ap shown (closed u) };
    nothing = λ k. go k (found bare k) refl;
  }
    where
      go : (k : Key) (o : Option (Thing k)) → found bare k ≡ o → found bare k ≡ None
      go k None e = e
      go k (Some x) e = let p = found_at bare k x e in clash k p.0 x p.1

-- one block more, from the end
pub block_step : (xs : List BlockAt) (k : ℕ) (d : BlockAt) (q : BlockPos) (o : Option ℕ) → k < length xs → o ≡ some_number (block_in (drop (suc k) xs) q)
    → (if same_block (get_or xs k d).at q then some_number (get_or xs k d).id else o) ≡ some_number (block_in (drop k xs) q)
block_step xs k d q o l e =
    rw (drop-cons xs k d l) (go (same_block (get_or xs k d).at q))
  where
    go : (b : Bool) → (if b then some_number (get_or xs k d).id else o) ≡ some_number (if b then (get_or xs k d).id else block_in (drop (suc k) xs) q)
    go true = refl
    go false = e

pub entity_step : (xs : List Entity) (k : ℕ) (d : Entity) (n : ℕ) (o : Option Standing) → k < length xs → o ≡ standing_in (drop (suc k) xs) n
    → (if nat_eq (get_or xs k d).id n then Some (standing_of (get_or xs k d)) else o) ≡ standing_in (drop k xs) n
entity_step xs k d n o l e =
    rw (drop-cons xs k d l) (go (nat_eq (get_or xs k d).id n))
  where
    go : (b : Bool) → (if b then Some (standing_of (get_or xs k d)) else o) ≡ (if b then Some (standing_of (get_or xs k d)) else standing_in (drop (suc k) xs) n)
    go true = refl
    go false = e

-- the flat world of blocks and entities that were laid
pub laid_flat : (s : Stock) (blocks : List BlockAt) (entities : List Entity) → ((q : BlockPos) → found s (of_block q) ≡ some_number (block_in blocks q)) → ((n : ℕ) → found s (of_entity n) ≡ standing_in entities n)
    → flat_of s ≡ (let f : Flat = record { blocks = block_in blocks; standing = standing_in entities } in f)
unfolding flat_of
laid_flat s blocks entities h g = flat_is (flat_of s) (let f : Flat = record { blocks = block_in blocks; standing = standing_in entities } in f) (fun_ext (λ q. ap (λ o. unwrap_or o 0) (h q) ∙ number_is (block_in blocks q))) (fun_ext (λ n. g n))

pub no_jobs : (s : Stock) → ((n : ℕ) → found s (of_task n) ≡ None) → jobs_of s ≡ λ n. None
unfolding jobs_of
no_jobs s h = fun_ext (λ n. h n)

pub all_closed : (s t : Stock) → AllClosed s → t.bags ≡ s.bags → AllClosed t
unfolding bag_of
all_closed s t h e = record { bags = λ u. ap (λ (l : List Slot). shown (slot_in l u)) e ∙ h.bags u }

pub bags_closed : (s : Stock) → AllClosed s → bag_of s ≡ λ u. no_bag
bags_closed s h = fun_ext (λ u. h.bags u)
