-- The end of a tick for the grid: the waiting regions join, dead sections leave, and what is left falls into parts.
use Rattle.std.specs.Prelude.{ℕ, ◌+◌, ◌*◌, Bool, not, ◌&&◌, ◌||◌, nat_eq, nat_lt, nat_le, if◌then◌else◌, List, [], ◌∷◌, length}
use Rattle.fol_model.specs.Counting.{count_below, some_below}
use Rattle.std.specs.List.{position_or_len}
use Rattle.fol_model.specs.declared.places.SectionPos.{SectionPos}
use Rattle.fol_model.specs.declared.regions.State.TheVariants.{Transient, Ready, Dead}
use Rattle.fol_model.specs.Geometry.{is_within, same_section}
use Rattle.fol_model.specs.Universe.{some_section, count_sections, all_sections}
use Rattle.fol_model.specs.GridState.{GridState, in_margin}

-- the regions that wait for t become part of t
abbrev pub joined_owner : GridState → ℕ → SectionPos → ℕ
joined_owner g t s = if g.waits (g.owner s) t then t else g.owner s

-- a region that joins t waits for v too
unfoldable pub passes_on : GridState → ℕ → ℕ → Bool
passes_on g t v = not (nat_eq v t) && some_below (λ u. g.waits u t && g.waits u v) g.next

abbrev pub joined_waits : GridState → ℕ → ℕ → ℕ → Bool
joined_waits g t u v = if nat_eq u t then passes_on g t v else (not (g.waits u t) && g.waits u v)

abbrev pub must_wait : GridState → ℕ → Bool
must_wait g t = some_below (passes_on g t) g.next

-- the sections of t after the joins, and the dead ones among them
abbrev pub joined_size : GridState → ℕ → ℕ
joined_size g t = count_sections (λ s. nat_eq (joined_owner g t s) t)

abbrev pub joined_dead : GridState → ℕ → ℕ
joined_dead g t = count_sections (λ s. nat_eq (joined_owner g t s) t && not (in_margin g s))

unfoldable pub cleans : GridState → ℕ → Bool
cleans g t = some_below (λ u. g.waits u t) g.next || (nat_eq (joined_dead g t) (joined_size g t)
    || (nat_le g.grid.min (joined_size g t) && nat_le (joined_size g t * g.grid.num) (joined_dead g t * g.grid.den)))

-- the sections of t that stay when it is cleaned
abbrev pub remains : GridState → ℕ → SectionPos → Bool
remains g t s = nat_eq (joined_owner g t s) t && in_margin g s

-- two that stay, within the merge radius
abbrev pub is_beside : GridState → ℕ → SectionPos → SectionPos → Bool
is_beside g t a b = (remains g t a && remains g t b) && is_within a g.grid.merge b

-- from a to b in steps to a section beside, with only sections of ms between
unfoldable pub through : GridState → ℕ → List SectionPos → SectionPos → SectionPos → Bool
through g t [] a b = same_section a b || is_beside g t a b
through g t (m ∷ ms) a b = through g t ms a b || (through g t ms a m && through g t ms m b)

abbrev pub is_linked : GridState → ℕ → SectionPos → SectionPos → Bool
is_linked g t a b = through g t all_sections a b

-- the place, in the order of all sections, of the least section that is linked with s
unfoldable pub leader : GridState → ℕ → SectionPos → ℕ
leader g t s = position_or_len (λ q. remains g t q && is_linked g t q s) all_sections

unfoldable pub is_leader : GridState → ℕ → ℕ → Bool
is_leader g t k = some_section (λ s. remains g t s && nat_eq (leader g t s) k)

-- the number of parts, and which part s is in
unfoldable pub parts : GridState → ℕ → ℕ
parts g t = count_below (is_leader g t) (length all_sections)

unfoldable pub part_of : GridState → ℕ → SectionPos → ℕ
part_of g t s = count_below (is_leader g t) (leader g t s)

-- one part keeps the id, and several get the next ids in order
abbrev pub part_id : GridState → ℕ → SectionPos → ℕ
part_id g t s = if nat_eq (parts g t) 1 then t else g.next + part_of g t s

-- t waits itself for the regions that the joined ones waited for
abbrev pub held : GridState → ℕ → GridState
held g t = record g {
  owner = joined_owner g t;
  waits = joined_waits g t;
  state = λ r. if nat_eq r t then Transient else (if g.waits r t then Dead else g.state r);
}

-- nothing joins and nothing leaves
abbrev pub rested : GridState → ℕ → GridState
rested g t = record g { state = λ r. if nat_eq r t then Ready else g.state r }

abbrev pub is_part_id : GridState → ℕ → ℕ → Bool
is_part_id g t r = nat_le 2 (parts g t) && (nat_le g.next r && nat_lt r (g.next + parts g t))

abbrev pub cleaned : GridState → ℕ → GridState
cleaned g t = record g {
  owner = λ s. if nat_eq (joined_owner g t s) t then (if in_margin g s then part_id g t s else 0) else g.owner s;
  waits = joined_waits g t;
  state = λ r. if is_part_id g t r then Ready else (if nat_eq r t then (if nat_eq (parts g t) 1 then Ready else Dead) else (if g.waits r t then Dead else g.state r));
  next = if nat_le 2 (parts g t) then g.next + parts g t else g.next;
}

unfoldable pub release : GridState → ℕ → GridState
release g t = if must_wait g t then held g t else (if cleans g t then cleaned g t else rested g t)

-- this release makes several parts, and r is the id of one of them
abbrev pub is_new_part : GridState → ℕ → ℕ → Bool
is_new_part g t r = (not (must_wait g t) && cleans g t) && is_part_id g t r
