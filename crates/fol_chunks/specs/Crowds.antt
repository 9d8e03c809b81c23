-- The entities of a region: those that have a speed, and those that have none.
use Rattle.std.specs.Prelude.{ℕ, pos, Bool, not, ◌&&◌, ◌||◌, List, Option, IsTrue, IsNone}
use Rattle.std.specs.Option.{is_none}
use Rattle.std.specs.Ordering.{int_eq}
use Rattle.std.specs.List.Sorted.{IsStrictlySortedBy}
use Rattle.fol_model.specs.declared.entities.Entity.{Entity}
use Rattle.fol_model.specs.ActionStep.{Recorded, Standing}
use Rattle.fol_model.specs.FlatTick.{walked}
use Rattle.fol_model.specs.World.{standing_in}
use Rattle.fol_keyed.specs.Options.{option_filter}
use Rattle.fol_chunks.specs.Rows.{by_id}

-- what contracts see
pub record Crowd : Type 0 where
  pub members : List Entity
  -- how many more entities it can take without taking memory
  pub spare : ℕ

-- it has no speed
abbrev pub is_still : Standing → Bool
is_still s = int_eq s.vx (pos 0) && int_eq s.vz (pos 0)

-- every one goes ahead where he is and stays in chunks that pass
abbrev pub all_walked : Recorded → (ℕ → Option Standing) → ℕ → Option Standing
all_walked rec standing id = walked rec (standing id)

-- it has a speed
abbrev pub walks : Standing → Bool
walks s = not (is_still s)

-- entities that have a speed and entities that have none, each in order of id, of which no two have one id
pub record AreParted (walking still : List Entity) : Type 0 where
  pub walking_order : IsStrictlySortedBy by_id walking
  pub still_order : IsStrictlySortedBy by_id still
  pub apart : (id : ℕ) → IsTrue (is_none (standing_in walking id) || is_none (standing_in still id))
  pub all_walk : (id : ℕ) → IsNone (option_filter is_still (standing_in walking id))
  pub all_still : (id : ℕ) → IsNone (option_filter walks (standing_in still id))
