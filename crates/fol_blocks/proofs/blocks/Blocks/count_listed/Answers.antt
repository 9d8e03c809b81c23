use Rattle.std.proofs.Common.{◌≡◌, sym}
use Rattle.std.specs.List.{count_by}
use Rattle.fol_blocks.specs.Cells.{blocks_in}
use Rattle.fol_blocks.specs.Weights.{lies_in}
use Rattle.fol_blocks.proofs.Weighing.{count_append}
use Rattle.fol_blocks.proofs.blocks.Blocks.count_listed.Goals as goal

pub returns-clause-count : goal.returns-clause-count
returns-clause-count c =
    let fresh : c.count_listed-2.result ≡ count_by (lies_in c.args.chunks.now) c.args.self.now.fresh.items = rw (c.deref.ensures.value, c.of.ensures) at c.count_listed-2.ensures in
    rw (c.count_listed.ensures, fresh) (sym (count_append (lies_in c.args.chunks.now) (blocks_in c.args.self.now.cells.entries) c.args.self.now.fresh.items))
