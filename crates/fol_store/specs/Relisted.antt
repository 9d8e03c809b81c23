-- What becomes of the bag of a region that has a chunk more or a chunk less, or that another region joins.
use Rattle.std.specs.Prelude.{ℕ, ◌≡◌, ◌≢◌, Bool, true, false, not, ◌&&◌, ◌||◌, max, filter, List, []}
use Rattle.std.specs.List.Sorted.{IsStrictlySortedBy}
use Rattle.fol_model.specs.declared.places.ChunkPos.{ChunkPos}
use Rattle.fol_model.specs.Geometry.{same_chunk}
use Rattle.fol_chunks.specs.Contents.{is_recorded}
use Rattle.fol_chunks.specs.Order.{chunk_cmp}
use Rattle.fol_store.specs.Bag.{Bag, no_bag}

-- the bag is listed for the chunks that pass, in their order, or has to be gathered anew; one that was taken out keeps its chunks, and
-- notes those of which that may not hold
pub record Relisted (p : ChunkPos → Bool) (old new : Bag) : Type 0 where
  pub same : new ≡ record old { listed = new.listed; calm = new.calm; chunks = new.chunks; since = new.since }
  pub before : new.listed ≡ true → old.listed ≡ true
  pub order : new.listed ≡ true → IsStrictlySortedBy chunk_cmp new.chunks
  pub chunks : new.listed ≡ true → (q : ChunkPos) → is_recorded new.since q ≡ false → is_recorded new.chunks q ≡ p q
  pub noted : new.listed ≡ true → (q : ChunkPos) → is_recorded new.since q ≡ false → is_recorded old.since q ≡ false
  pub here : old.taken ≡ false → new.since ≡ old.since
  pub out : old.taken ≡ true → new.chunks ≡ old.chunks

-- of a region that has the chunk c more
abbrev pub Widened : ChunkPos → Bag → Bag → Type 0
Widened c old new = Relisted (λ q. is_recorded old.chunks q || same_chunk c q) old new

-- of a region that has the chunk c less
abbrev pub Narrowed : ChunkPos → Bag → Bag → Type 0
Narrowed c old new = Relisted (λ q. is_recorded old.chunks q && not (same_chunk c q)) old new

-- where the bag is listed, its chunks stand in their order
abbrev pub IsInOrder : Bag → Type 0
IsInOrder b = b.listed ≡ true → IsStrictlySortedBy chunk_cmp b.chunks

-- of a region that another one joins: it owes the greater number; where both bags were listed, it may be listed for the chunks of both
pub record United («from» into new : Bag) : Type 0 where
  pub relisted : Relisted (λ q. is_recorded into.chunks q || is_recorded «from».chunks q) (record into { owed = max into.owed «from».owed }) new
  pub both : new.listed ≡ true → «from».listed ≡ true

-- the bag is where it was and has the same numbers
abbrev pub Stays : Bag → Bag → Type 0
Stays old new = new ≡ record old { listed = new.listed; calm = new.calm; chunks = new.chunks }

-- the bag of a region that joins another one is closed; where both were listed, the other may be listed for the chunks of both
pub record Joined («from» into : ℕ) (old new : ℕ → Bag) : Type 0 where
  pub gone : new «from» ≡ no_bag
  pub own : Relisted (λ q. is_recorded (old into).chunks q || is_recorded (old «from»).chunks q) (old into) (new into)
  pub both : (new into).listed ≡ true → (old «from»).listed ≡ true
  pub others : (u : ℕ) → u ≢ «from» → u ≢ into → new u ≡ old u

-- a bag that has none may be listed for these chunks; another one, where it is listed still, has its chunks but for these; and all other bags stay
pub record Receives («from» to : ℕ) (chunks : List ChunkPos) (old new : ℕ → Bag) : Type 0 where
  pub own : Stays (old to) (new to)
  pub listing : (new to).listed ≡ true → (new to).chunks ≡ chunks
  pub rest : new «from» ≡ record (old «from») { listed = (new «from»).listed; chunks = (new «from»).chunks }
  pub left : (new «from»).listed ≡ true → ((old «from»).listed ≡ true) × ((new «from»).chunks ≡ filter (λ q. not (is_recorded chunks q)) (old «from»).chunks)
  pub in_order : IsInOrder (new «from»)
  pub others : (u : ℕ) → u ≢ «from» → u ≢ to → new u ≡ old u

-- of a part of a region that was just opened: it has no chunks, and has to be gathered
pub record IsUngathered (b : Bag) : Type 0 where
  pub here : b.here ≡ true
  pub chunks : b.chunks ≡ []
  pub listed : b.listed ≡ false
