-- Which block and entity lines may not both stand in a world.
use Rattle.std.specs.Prelude.{Bool, false, take}
use Rattle.std.specs.Cmp.Lexicographic.{pointwise}
use Rattle.std.specs.Ordering.{int_eq}
use Rattle.fol_model.specs.TextCauses.{numbers}
use Rattle.fol_model.specs.Texts.{Item, block, entity, item_row}

-- both are blocks at one place, or entities with one id
abbrev pub is_same_item : Item → Item → Bool
is_same_item (block a) (block b) = pointwise int_eq (take 3 (numbers (item_row (block a)))) (take 3 (numbers (item_row (block b))))
is_same_item (entity a) (entity b) = pointwise int_eq (take 1 (numbers (item_row (entity a)))) (take 1 (numbers (item_row (entity b))))
is_same_item (block a) (entity b) = false
is_same_item (entity a) (block b) = false
