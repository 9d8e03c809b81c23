-- What the reader of a world keeps of the lines before a line.
use Rattle.std.specs.Prelude.{◌≡◌, ℕ, ◌+◌, Bool, false, not, ◌||◌, List, [], ◌∷◌, ◌++◌, map, Option, Some, None, is_some}
use Rattle.std.specs.List.{AllByRecursion, list_any, flat_map}
use Rattle.std.specs.Ordering.{int_cmp, nat_cmp, ordering_then}
use Rattle.std.specs.declared.cmp.Ordering.{Ordering}
use Rattle.std.specs.List.Sorted.{IsPermutation, IsStrictlySortedBy}
use Rattle.std.specs.BTreeMap.{is_at}
use Rattle.std.specs.Map.{lookup, keys_of}
use Rattle.fol_model.specs.declared.openings.BlockAt.{BlockAt}
use Rattle.fol_model.specs.declared.entities.Entity.{Entity}
use Rattle.fol_model.specs.declared.grids.Grid.{Grid}
use Rattle.fol_model.specs.declared.words.Keyword.{Keyword}
use Rattle.fol_model.specs.declared.words.Keyword.TheVariants as keys_of_lines
use Rattle.fol_model.specs.declared.words.TextKind.TheVariants as kinds
use Rattle.fol_model.specs.declared.causes.Cause.{Cause}
use Rattle.fol_model.specs.TextCauses.{Row, is_key, is_twice, bad_from, first_bad, row_of}
use Rattle.fol_model.specs.TextLines.{lines, kept}
use Rattle.fol_model.specs.Texts.{Item, block, entity, blocks_in, entities_in}
use Rattle.fol_text_laws.specs.SameItem.{is_same_item}
use Rattle.fol_script.specs.declared.world_lines.Spot.{Spot}
use Rattle.fol_script.specs.declared.world_lines.WorldBefore.{WorldBefore}
use Rattle.fol_script.specs.WorldRows.{version_row, behind}
use Rattle.fol_script.specs.Kept.{entries_in}
use Rattle.fol_script.specs.WorldMaps.{spot_of, stored_blocks, values_of}
use Rattle.fol_script.specs.ReadText.{all_rows}

-- the order by x, then by y, then by z
abbrev pub spot_cmp : Spot → Spot → Ordering
spot_cmp a b = ordering_then (int_cmp a.x b.x) (ordering_then (int_cmp a.y b.y) (int_cmp a.z b.z))

-- a line may not stand here
abbrev pub misplaced_in : Option ℕ → Option Grid → Keyword → Bool
misplaced_in None grid key = not (is_key keys_of_lines.World key)
misplaced_in (Some version) None key = not (is_key keys_of_lines.Grid key)
misplaced_in (Some version) (Some grid) key = is_key keys_of_lines.World key || is_key keys_of_lines.Grid key

-- the entries hold what these block and entity lines gave
pub record Holds (items : List Item) (blocks : List (Spot × ℕ)) (entities : List (ℕ × Entity)) : Type 0 where
  pub from_blocks : IsPermutation (flat_map blocks_in items) (stored_blocks blocks)
  pub from_entities : IsPermutation (flat_map entities_in items) (values_of entities)
  pub block_stood : (b : BlockAt) → list_any (λ s. is_same_item s (block b)) items ≡ is_some (lookup (is_at (spot_cmp (spot_of b.at))) blocks)
  pub entity_stood : (e : Entity) → list_any (λ s. is_same_item s (entity e)) items ≡ is_some (lookup (is_at (nat_cmp e.id)) entities)
  pub own_ids : AllByRecursion (λ e. e.0 ≡ e.1.id) entities
  pub spots : IsStrictlySortedBy spot_cmp (keys_of blocks)
  pub ids : IsStrictlySortedBy nat_cmp (keys_of entities)

abbrev pub StandsFor : List Row → Option ℕ → Option Grid → List (Spot × ℕ) → List (ℕ × Entity) → Type 0
StandsFor rows None None blocks entities = (rows ≡ []) × Holds [] blocks entities
StandsFor rows None (Some grid) blocks entities = ⊥
StandsFor rows (Some version) None blocks entities = (rows ≡ version_row version ∷ []) × Holds [] blocks entities
StandsFor rows (Some version) (Some grid) blocks entities = (items : List Item) × (rows ≡ behind version grid items) × Holds items blocks entities

-- what is kept stands for these rows
abbrev pub Stands : List Row → WorldBefore → Type 0
Stands rows b = StandsFor rows b.version b.grid (entries_in b.blocks) (entries_in b.entities)

-- one more row, behind any rows that the reader stands for: whether it stood before, and what is kept if not
abbrev pub TakesRow : Row → WorldBefore → WorldBefore → Bool → Type 0
TakesRow row old new twice = (rows : List Row) → Stands rows old → (twice ≡ is_twice rows row) × (twice ≡ false → Stands (rows ++ row ∷ []) new)

-- a line leads on to these rows
pub record Goes (l : List ℕ) (rows : List Row) (new : WorldBefore) : Type 0 where
  pub more : List Row
  pub stands : Stands more new
  pub bad : (n : ℕ) (ls : List (List ℕ)) → bad_from kinds.World rows n (l ∷ ls) ≡ bad_from kinds.World more (n + 1) ls
  pub rows_are : (ls : List (List ℕ)) → all_rows kinds.World rows (l ∷ ls) ≡ all_rows kinds.World more ls

abbrev pub Leads : List ℕ → List Row → WorldBefore → Option Cause → Type 0
Leads l rows new (Some c) = (n : ℕ) (ls : List (List ℕ)) → bad_from kinds.World rows n (l ∷ ls) ≡ Some (n, c)
Leads l rows new None = Goes l rows new

-- one more line, behind any rows that the reader stands for
abbrev pub TakesLine : List ℕ → WorldBefore → WorldBefore → Option Cause → Type 0
TakesLine l old new c = (rows : List Row) → Stands rows old → Leads l rows new c

-- all lines are read: what is kept stands for the rows of the text, which is whole or ends at this line
pub record IsRead (bytes : List ℕ) (b : WorldBefore) (line : ℕ) : Type 0 where
  pub rows : List Row
  pub stands : Stands rows b
  pub bad : bad_from kinds.World rows line [] ≡ first_bad kinds.World bytes
  pub all : rows ≡ map (row_of kinds.World) (kept (lines bytes))
