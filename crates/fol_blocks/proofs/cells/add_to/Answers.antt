use Rattle.std.proofs.Common.{List, ◌++◌, sym, ◌∙◌, ap, append_assoc}
use Rattle.std.specs.List.{flat_map}
use Rattle.std.proofs.lemmas.List.{append-nil}
use Rattle.fol_model.specs.declared.openings.BlockAt.{BlockAt}
use Rattle.fol_blocks.proofs.CellSums.{blocks_values}
use Rattle.fol_blocks.proofs.cells.add_to.Goals as goal

pub loop-cell-init : goal.loop-cell-init
loop-cell-init c =
    ap (λ rest. c.args.list.now.items ++ flat_map (λ (v : List BlockAt). v) rest) (c.into_iter-cell-iterator.ensures.into_iter_gives ∙ c.values-cell-items.ensures.rest)
    ∙ ap (λ l. c.args.list.now.items ++ l) (blocks_values c.args.cells.now.entries)

pub loop-cell-preserved : goal.loop-cell-preserved
loop-cell-preserved c =
    rw c.in_ok-add_to.ensures
    (append_assoc c.loop-cell.list.items c.in-Some.cell.now (flat_map (λ (v : List BlockAt). v) c.next.new.self)
    ∙ ap (λ rest. c.loop-cell.list.items ++ flat_map (λ (v : List BlockAt). v) rest) (sym c.in-Some.ensures.steps)
    ∙ c.loop-cell.invariant)

pub returns : goal.returns
returns c =
    sym (append-nil c.loop-cell.list.items)
    ∙ ap (λ rest. c.loop-cell.list.items ++ flat_map (λ (v : List BlockAt). v) rest) (sym c.in-None.ensures.steps.0)
    ∙ c.loop-cell.invariant
