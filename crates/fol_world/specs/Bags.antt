-- How the bags of the store follow the regions.
use Rattle.std.specs.Prelude.{ℕ, ◌≡◌, ◌≢◌, ◌+◌, true, false, max, nat_lt, if◌then◌else◌, List, [], ◌∷◌, filter, Option}
use Rattle.std.specs.List.Sorted.{IsStrictlySortedBy}
use Rattle.fol_model.specs.declared.places.ChunkPos.{ChunkPos}
use Rattle.fol_model.specs.declared.regions.State.TheVariants.{Dead, Ticking}
use Rattle.fol_model.specs.Universe.{all_chunks}
use Rattle.fol_model.specs.GridState.{GridState, is_ticking}
use Rattle.fol_model.specs.ActionStep.{Flat, Recorded, at_id}
use Rattle.fol_model.specs.Outputs.{is_chunk_of}
use Rattle.fol_model.specs.Job.{Job}
use Rattle.fol_model.specs.World.{World}
use Rattle.fol_chunks.specs.Contents.{is_recorded, outside}
use Rattle.fol_chunks.specs.Order.{chunk_cmp}
use Rattle.fol_regions.specs.declared.change.MergePair.{MergePair}
use Rattle.fol_store.specs.Bag.{Bag, no_bag, new_bag}
use Rattle.fol_store.specs.Relisted.{IsInOrder, United}
use Rattle.fol_store.specs.Stock.{Stock, flat_of, jobs_of, bag_of, next_of}
use Rattle.fol_world.specs.Hands.{at_rest, in_hands, rests}

-- these chunks, in their order, are the others, but for those that were noted
pub record AreBut (noted chunks others : List ChunkPos) : Type 0 where
  pub order : IsStrictlySortedBy chunk_cmp chunks
  pub same : (q : ChunkPos) → is_recorded noted q ≡ false → is_recorded chunks q ≡ is_recorded others q

-- the chunks of the bag are these, but for those that it noted
abbrev pub KeepsUp : Bag → List ChunkPos → Type 0
KeepsUp b chunks = AreBut b.since b.chunks chunks

-- the bag of a region
pub record IsBagOf (g : GridState) (tick owed : ℕ → ℕ) (recorded : ℕ → Recorded) (r : ℕ) (b : Bag) : Type 0 where
  pub here : b.here ≡ rests g r
  pub taken : b.taken ≡ is_ticking (g.state r)
  pub counter : rests g r ≡ true → b.tick ≡ tick r
  pub owes : rests g r ≡ true → b.owed ≡ owed r
  -- a listed bag is that of the region's loaded chunks, but for those that it noted
  pub listed : g.state r ≢ Dead → b.listed ≡ true → KeepsUp b (filter (is_chunk_of g r) all_chunks)
  -- one that is here has noted none
  pub since : rests g r ≡ true → b.since ≡ []
  -- a bag that was taken out is that of the recorded chunks
  pub out : g.state r ≡ Ticking → b.chunks ≡ filter (recorded r) all_chunks

-- the store has all that no worker has
pub record Stored (k : Stock) (g : GridState) (f : Flat) (js : ℕ → Option Job) (tick owed : ℕ → ℕ) (recorded : ℕ → Recorded) (since : ℕ → ℕ) : Type 0 where
  pub flat : flat_of k ≡ outside (in_hands g recorded) f
  pub jobs : jobs_of k ≡ λ n. at_rest g since n (js n)
  pub next : next_of k ≡ g.next
  pub bags : (r : ℕ) → IsBagOf g tick owed recorded r (bag_of k r)

abbrev pub StoredIn : Stock → World → (ℕ → ℕ) → Type 0
StoredIn k w since = Stored k w.grid w.flat w.jobs w.tick w.owed w.recorded since

-- one region joins another
abbrev pub joined_bag : MergePair → (ℕ → Bag) → ℕ → Bag
joined_bag m f = at_id (at_id f m.from no_bag) m.into (record (f m.into) { owed = max (f m.into).owed (f m.from).owed; listed = false })

abbrev pub joined_bags : List MergePair → (ℕ → Bag) → ℕ → Bag
joined_bags [] f = f
joined_bags (m ∷ ms) f = joined_bags ms (joined_bag m f)

-- the bag stays but that it may be listed for other chunks, unless it was taken out
pub record Alike (old new : Bag) : Type 0 where
  pub here : new.here ≡ old.here
  pub taken : new.taken ≡ old.taken
  pub counter : new.tick ≡ old.tick
  pub owes : new.owed ≡ old.owed
  pub since : old.taken ≡ false → new.since ≡ old.since
  pub out : old.taken ≡ true → new.chunks ≡ old.chunks

-- one region joins another, whose bag may be listed for the chunks of both
pub record JoinsOne (m : MergePair) (f h : ℕ → Bag) : Type 0 where
  pub gone : h m.from ≡ no_bag
  pub own : United (f m.from) (f m.into) (h m.into)
  pub others : (r : ℕ) → r ≢ m.from → r ≢ m.into → h r ≡ f r

-- regions join others one after another, and f becomes h
abbrev pub Joins : List MergePair → (ℕ → Bag) → (ℕ → Bag) → Type 0
Joins [] f h = h ≡ f
Joins (m ∷ ms) f h = (k : ℕ → Bag) × JoinsOne m f k × Joins ms k h

-- the chunks of each listed bag that is here stand in their order
abbrev pub AreInOrder : (ℕ → Bag) → Type 0
AreInOrder f = (r : ℕ) → (f r).here ≡ true → IsInOrder (f r)

-- both regions of each pair have a bag when they join
abbrev pub CanJoin : List MergePair → (ℕ → Bag) → Type 0
CanJoin [] f = Unit {0}
CanJoin (m ∷ ms) f = ((f m.from).here ≡ true) × ((f m.into).here ≡ true) × (m.from ≢ m.into) × CanJoin ms (joined_bag m f)

-- new regions get bags with these numbers
abbrev pub opened_bags : ℕ → ℕ → List ℕ → (ℕ → Bag) → ℕ → Bag
opened_bags tick owed [] f = f
opened_bags tick owed (x ∷ xs) f = opened_bags tick owed xs (at_id f x (new_bag tick owed))

-- the ids follow one another, from `next` on
abbrev pub Follow : ℕ → List ℕ → Type 0
Follow next [] = Unit {0}
Follow next (x ∷ xs) = (x ≡ next) × Follow (next + 1) xs

-- the bag has to be gathered anew
abbrev pub unsettled : ℕ → (ℕ → Bag) → ℕ → Bag
unsettled r f = at_id f r (record (f r) { listed = false })

-- the same, where r is the id of a region
abbrev pub unsettled_at : ℕ → (ℕ → Bag) → ℕ → Bag
unsettled_at r f = if nat_lt 0 r then unsettled r f else f

-- each of these regions owes n
abbrev pub owing_bags : ℕ → List ℕ → (ℕ → Bag) → ℕ → Bag
owing_bags n [] f = f
owing_bags n (x ∷ xs) f = owing_bags n xs (at_id f x (record (f x) { owed = n }))
