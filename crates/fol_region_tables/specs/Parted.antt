-- How a region loses sections, ends or falls into parts.
use Rattle.std.specs.Prelude.{◌≡◌, ℕ, ◌+◌, ◌<◌, true, ◌&&◌, nat_eq, nat_lt, nat_le, if◌then◌else◌, List, [], ◌∷◌, length, filter}
use Rattle.std.specs.List.{slice_index_or}
use Rattle.fol_model.specs.declared.places.SectionPos.{SectionPos}
use Rattle.fol_model.specs.declared.regions.State.TheVariants.{Ready, Dead}
use Rattle.fol_model.specs.GridState.{with_state}
use Rattle.fol_model.specs.Universe.{all_sections}
use Rattle.fol_region_tables.specs.Book.{Book, owner_of, state_of, waits_of, is_live, KeepsRoom}
use Rattle.fol_model.specs.Geometry.{is_among}

-- those sections of t that are in the list stay, and its others leave
pub record Keeps (old new : Book) (t : ℕ) (living : List SectionPos) : Type 0 where
  pub owner : owner_of new ≡ (λ s. if nat_eq (owner_of old s) t then (if is_among living s then t else 0) else owner_of old s)
  pub state : state_of new ≡ state_of old
  pub waits : waits_of new ≡ waits_of old
  pub live : is_live new ≡ is_live old
  pub next : new.next ≡ old.next
  pub rooms : KeepsRoom old new

-- the sections of t leave, and t is Dead
pub record Ends (old new : Book) (t : ℕ) : Type 0 where
  pub owner : owner_of new ≡ (λ s. if nat_eq (owner_of old s) t then 0 else owner_of old s)
  pub state : state_of new ≡ with_state (state_of old) t Dead
  pub waits : waits_of new ≡ waits_of old
  pub next : new.next ≡ old.next
  pub rooms : KeepsRoom old new

-- the number of the first part that has the section, counted from n on, or 0
abbrev pub id_in : List (List SectionPos) → ℕ → SectionPos → ℕ
id_in [] n s = 0
id_in (part ∷ found) n s = if is_among part s then n else id_in found (n + 1) s

-- t is Dead, and each part is a Ready region with the next id
pub record Splits (old new : Book) (t : ℕ) (found : List (List SectionPos)) : Type 0 where
  pub owner : owner_of new ≡ (λ s. if nat_eq (owner_of old s) t then id_in found old.next s else owner_of old s)
  pub state : state_of new ≡ (λ r. if (nat_le old.next r && nat_lt r (old.next + length found)) then Ready else (if nat_eq r t then Dead else state_of old r))
  pub waits : waits_of new ≡ waits_of old
  pub next : new.next ≡ old.next + length found
  pub rooms : KeepsRoom old new

-- lists of sections, each in order: none is empty, each of the sections is in one of them and in no second, and they have no other
pub record AreRows (sections : List SectionPos) (found : List (List SectionPos)) : Type 0 where
  pub some : (i : ℕ) → i < length found → 0 < length (slice_index_or found i [])
  pub rows : (i : ℕ) → i < length found → slice_index_or found i [] ≡ filter (is_among (slice_index_or found i [])) all_sections
  pub within : (i : ℕ) (s : SectionPos) → i < length found → is_among (slice_index_or found i []) s ≡ true → is_among sections s ≡ true
  pub cover : (s : SectionPos) → is_among sections s ≡ true → (i : ℕ) × (i < length found) × (is_among (slice_index_or found i []) s ≡ true)
  pub apart : (i j : ℕ) (s : SectionPos) → i < length found → j < length found → is_among (slice_index_or found i []) s ≡ true → is_among (slice_index_or found j []) s ≡ true → i ≡ j
