-- What an event changed in which regions there are.
use Rattle.std.specs.Prelude.{ℕ, ◌≤◌, ◌+◌, not, ◌&&◌, nat_eq, if◌then◌else◌, List, [], ◌∷◌, ◌++◌, map, filter}
use Rattle.fol_model.specs.declared.places.ChunkPos.{ChunkPos}
use Rattle.fol_model.specs.GridState.{GridState}
use Rattle.fol_model.specs.Universe.{numbers_below}
use Rattle.fol_model.specs.Add.{is_full, wanted, target, is_near_calm}
use Rattle.fol_model.specs.Release.{must_wait, cleans, parts, is_part_id}
use Rattle.fol_regions.specs.declared.change.MergePair.{MergePair}

pub record Changes : Type 0 where
  -- the new ids, rising
  pub created : List ℕ
  -- the regions that ended, in the order in which they did
  pub dead : List ℕ
  -- which region became part of which, in the order made
  pub merges : List MergePair
  -- the parts of a split, in order; none where nothing was split
  pub parts : List ℕ

-- there is memory for all regions in each list
pub record HasChangeRoom (in_created in_dead in_merges in_parts : ℕ) : Type 0 where
  pub created : 16385 ≤ in_created
  pub dead : 16385 ≤ in_dead
  pub merges : 16385 ≤ in_merges
  pub parts : 16385 ≤ in_parts

abbrev pub nothing : Changes
nothing = record { created = []; dead = []; merges = []; parts = [] }

-- each of the regions becomes part of t
abbrev pub into : ℕ → List ℕ → List MergePair
into t us = map (λ u. record { «from» = u; into = t }) us

-- the near regions that do not tick, but for the target
abbrev pub drawn_in : GridState → ChunkPos → List ℕ
drawn_in g c = filter (λ r. is_near_calm g c r && not (nat_eq (target g c) r)) (numbers_below g.next)

-- an added hold that is Full or wants nothing changes no region
unfoldable pub add_change : GridState → ChunkPos → Changes
add_change g c =
    if is_full g c then nothing else (if nat_eq (wanted g c) 0 then nothing else (record {
      created = if nat_eq (target g c) g.next then (g.next ∷ []) else [];
      dead = drawn_in g c;
      merges = into (target g c) (drawn_in g c);
      parts = [];
    }))

-- the regions that wait for t, rising
abbrev pub waiting_for : GridState → ℕ → List ℕ
waiting_for g t = filter (λ u. g.waits u t) (numbers_below g.next)

-- the ids of the parts, rising; none unless there are two or more
abbrev pub part_ids : GridState → ℕ → List ℕ
part_ids g t = filter (is_part_id g t) (numbers_below (g.next + parts g t))

unfoldable pub release_change : GridState → ℕ → Changes
release_change g t =
    if must_wait g t then (record { created = []; dead = waiting_for g t; merges = into t (waiting_for g t); parts = [] })
    else (if cleans g t then (record {
      created = part_ids g t;
      dead = waiting_for g t ++ (if nat_eq (parts g t) 1 then [] else (t ∷ []));
      merges = into t (waiting_for g t);
      parts = part_ids g t;
    }) else nothing)
