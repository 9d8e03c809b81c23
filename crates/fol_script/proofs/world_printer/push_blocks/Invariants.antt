use Rattle.std.proofs.Common.{◌≡◌, ◌++◌, take, map}
use Rattle.fol_model.specs.Texts.{item_row}
use Rattle.fol_model.specs.Texts as item
use Rattle.fol_text_laws.specs.Printed.{rows_text}
use Rattle.fol_script.proofs.world_printer.push_blocks.Given as goal

abbrev pub invariant-loop-block : goal.invariant-loop-block
invariant-loop-block l = l.out.items ≡ l.fn.out.items ++ rows_text (map item_row (map item.block (take l.block-index l.blocks)))
