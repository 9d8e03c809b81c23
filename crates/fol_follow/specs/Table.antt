-- The table of a book's asks: what it stands for, and how the asks of one entity are found.
use Rattle.std.specs.Prelude.{ℕ, zero, suc, ◌≡◌, ◌+◌, ◌-◌, ◌<◌, ◌≤◌, Bool, true, false, ◌&&◌, nat_eq, nat_le, if◌then◌else◌, List, length, slice_get, Option, Some, None}
use Rattle.std.specs.Option.{unwrap_or, is_some, IsSome}
use Rattle.std.specs.Map.{lookup}
use Rattle.std.specs.BTreeMap.{is_at}
use Rattle.std.specs.declared.cmp.Ordering.{Ordering}
use Rattle.std.specs.Ordering.{nat_cmp, ordering_then}
use Rattle.fol_follow.specs.declared.asks.Row.{Row}
use Rattle.fol_model.specs.declared.entities.Entity.{Entity}
use Rattle.fol_model.specs.ActionStep.{at_id}
use Rattle.fol_follow.specs.declared.entries.EntityAt.{EntityAt}
use Rattle.fol_follow.specs.declared.entries.Asked.{Asked}
use Rattle.fol_follow.specs.declared.entries.Asked.TheVariants.{Queued, Unknown}
use Rattle.fol_follow.specs.declared.entries.Visit.{Visit}
use Rattle.fol_follow.specs.Visits.{Pending, visit_at}

-- what contracts see of the table: the entities of the opening, each with the number of visits that it was in, and the asks, of which the first has the
-- number 1
pub record Table : Type 0 where
  pub counts : List (ℕ × ℕ)
  pub rows : List Row

-- in how many visits an entity of the opening was
abbrev pub visits_in : List (ℕ × ℕ) → ℕ → Option ℕ
visits_in counts id = lookup (is_at (nat_cmp id)) counts

abbrev pub count_of : Table → ℕ → ℕ
count_of t id = unwrap_or (visits_in t.counts id) 0

-- an ask is queued while its entity was in fewer visits than it waits for
abbrev pub pending_at : ℕ → Row → Option Pending
pending_at count r = if nat_le r.due count then None else Some (record { entity = r.entity; rest = r.due - count })

abbrev pub pending_row : (ℕ → ℕ) → Option Row → Option Pending
pending_row count None = None
pending_row count (Some r) = pending_at (count r.entity) r

abbrev pub pending_by : (ℕ → ℕ) → List Row → ℕ → Option Pending
pending_by count rows zero = None
pending_by count rows (suc k) = pending_row count (slice_get rows k)

-- the queued asks by number
abbrev pub pending : Table → ℕ → Option Pending
pending t = pending_by (count_of t) t.rows

-- ---- how asks are found

abbrev pub pair_cmp : ℕ × ℕ → ℕ × ℕ → Ordering
pair_cmp x y = ordering_then (nat_cmp x.0 y.0) (nat_cmp x.1 y.1)

-- the ask waits for this entity and this many visits
abbrev pub waits_for : ℕ → ℕ → Option Row → Bool
waits_for entity due None = false
waits_for entity due (Some r) = nat_eq r.entity entity && nat_eq r.due due

-- of the asks up to number m that wait for this entity and so many visits, n is the last one's number, or 0
pub record IsLast (rows : List Row) (entity due m n : ℕ) : Type 0 where
  pub low : n ≤ m
  pub there : (k : ℕ) → n ≡ suc k → waits_for entity due (slice_get rows k) ≡ true
  pub none : (k : ℕ) → n ≤ k → k < m → waits_for entity due (slice_get rows k) ≡ false

-- each ask names the one before it that waits for the same; `head` has the last one of those that are still queued
pub record AreLinked (counts : ℕ → Option ℕ) (head : ℕ × ℕ → Option ℕ) (rows : List Row) : Type 0 where
  pub before : (k : ℕ) (r : Row) → slice_get rows k ≡ Some r → IsLast rows r.entity r.due k r.before
  pub last : (entity due : ℕ) → unwrap_or (counts entity) 0 < due → IsLast rows entity due (length rows) (unwrap_or (head (entity, due)) 0)
  pub known : (k : ℕ) (r : Row) → slice_get rows k ≡ Some r → IsSome (counts r.entity)
  pub near : (k : ℕ) (r : Row) → slice_get rows k ≡ Some r → r.due ≤ unwrap_or (counts r.entity) 0 + 1000000

-- what an ask does to the table: one of an entity of the opening is queued with the next number, and any other changes nothing
abbrev pub Answered : Table → Table → ℕ → ℕ → Asked → Type 0
Answered old new entity delay (Queued n) =
    (is_some (visits_in old.counts entity) ≡ true) × (n ≡ length old.rows + 1) × (new.counts ≡ old.counts) × (length new.rows ≡ length old.rows + 1)
    × (pending new ≡ at_id (pending old) (length old.rows + 1) (Some (record { entity = entity; rest = delay })))
Answered old new entity delay Unknown = (is_some (visits_in old.counts entity) ≡ false) × (new ≡ old)

-- no entity was in more visits than this
abbrev pub AreAtMost : ℕ → Table → Type 0
AreAtMost most t = (id : ℕ) → count_of t id ≤ most

-- ---- how the visits of one entity are collected

-- a number above m whose ask waits for this entity and so many visits has its visit, and every other what it had
abbrev pub collected : List Row → EntityAt → ℕ → ℕ → ℕ → Option Visit → Option Visit
collected rows place due m zero old = old
collected rows place due m (suc k) old = if (nat_le m k && waits_for place.id due (slice_get rows k)) then Some (visit_at (suc k) place.id place.at) else old

abbrev pub entity_at : Entity → EntityAt
entity_at e = record { id = e.id; at = e.at }
