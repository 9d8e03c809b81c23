-- What the steps of a release do to the tables of regions.
use Rattle.std.specs.Prelude.{◌≡◌, ℕ, not, ◌&&◌, nat_eq, nat_lt, if◌then◌else◌, List, [], ◌∷◌, ◌++◌, length}
use Rattle.std.specs.List.{list_any, range_with_len}
use Rattle.fol_model.specs.declared.places.SectionPos.{SectionPos}
use Rattle.fol_model.specs.declared.regions.State.TheVariants.{Ready, Dead}
use Rattle.fol_model.specs.GridState.{GridState}
use Rattle.fol_regions.specs.Added.{is_id}
use Rattle.fol_region_tables.specs.Book.{Book, owner_of, state_of, waits_of, is_live, KeepsRoom, SetsState}
use Rattle.fol_region_tables.specs.Parted.{Ends, Keeps, Splits}
use Rattle.fol_regions.specs.Changes.{Changes}
use Rattle.fol_sections.specs.Table.{holds_of, presence_of}
use Rattle.fol_sections.specs.Table as sections

-- the regions of a list become part of t, which waits for whom they waited, but not for itself
pub record Joins (old new : Book) (t : ℕ) (ids : List ℕ) : Type 0 where
  pub owner : owner_of new ≡ (λ s. if is_id ids (owner_of old s) then t else owner_of old s)
  pub state : state_of new ≡ (λ r. if is_id ids r then Dead else state_of old r)
  pub waits : waits_of new ≡ (λ u v. if nat_eq u t then (not (nat_eq v t) && list_any (λ w. waits_of old w v) ids) else (not (is_id ids u) && waits_of old u v))
  pub live : is_live new ≡ (λ r. not (is_id ids r) && is_live old r)
  pub next : new.next ≡ old.next
  pub rooms : KeepsRoom old new

-- t is cleaned: where no part is left it ends, one part keeps its id, and several have the next ids
abbrev pub Cleans : Book → Book → ℕ → List SectionPos → List (List SectionPos) → Type 0
Cleans old new t living [] = Ends old new t
Cleans old new t living (part ∷ []) = (mid : Book) × Keeps old mid t living × SetsState mid new t Ready
Cleans old new t living (part ∷ next ∷ rest) = (mid : Book) × Keeps old mid t living × Splits mid new t (part ∷ next ∷ rest)

-- the change with the parts of t
abbrev pub with_parts : Changes → ℕ → ℕ → List (List SectionPos) → Changes
with_parts c t n [] = record c { dead = c.dead ++ t ∷ [] }
with_parts c t n (part ∷ []) = c
with_parts c t n (part ∷ next ∷ rest) =
    record {
      created = c.created ++ range_with_len n (length (part ∷ next ∷ rest));
      dead = c.dead ++ t ∷ [];
      merges = c.merges;
      parts = c.parts ++ range_with_len n (length (part ∷ next ∷ rest));
    }

-- ---- the whole release
-- the state of the grid that the sections and the tables stand for
unfoldable pub grid_of : sections.Table → Book → GridState
grid_of s b = record { grid = s.grid; holds = holds_of s; owner = owner_of b; state = state_of b; waits = waits_of b; next = b.next }

-- the sections that are present are those that have an owner
abbrev pub IsPresence : sections.Table → Book → Type 0
IsPresence s b = (q : SectionPos) → presence_of s q ≡ nat_lt 0 (owner_of b q)
