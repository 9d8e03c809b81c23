use Rattle.std.proofs.Common.{◌≡◌, ◌++◌, take, map}
use Rattle.fol_model.specs.Texts.{item_row}
use Rattle.fol_model.specs.Texts as item
use Rattle.fol_text_laws.specs.Printed.{rows_text}
use Rattle.fol_script.proofs.world_printer.push_entities.Given as goal

abbrev pub invariant-loop-entity : goal.invariant-loop-entity
invariant-loop-entity l = l.out.items ≡ l.fn.out.items ++ rows_text (map item_row (map item.entity (take l.entity-index l.entities)))
