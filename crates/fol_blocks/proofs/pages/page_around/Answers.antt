use Rattle.std.proofs.Common.{rules}
use Rattle.std.proofs.lemmas.List.Sorted.{IsPartitionPoint-from_clause}
use Rattle.fol_blocks.specs.Pages.{starts_by}
use Rattle.fol_blocks.proofs.Spots.{around_found, around_first, pages_parted}
use Rattle.fol_blocks.proofs.pages.page_around.Goals as goal

pub returns-then-pages-lt2-clause-around : goal.returns-then-pages-lt2-clause-around
returns-then-pages-lt2-clause-around c = around_first c.args.pages.now c.requires c.args.at c.if-pages-lt2.true

pub returns-clause-around : goal.returns-clause-around
returns-clause-around c =
    rw c.saturating_sub.ensures
    (around_found c.args.pages.now c.requires c.args.at c.partition_point.result c.partition_point.ensures.bound
    (IsPartitionPoint-from_clause (λ p. starts_by c.args.at p.items) c.args.pages.now c.partition_point.result c.partition_point.ensures.partitioned (pages_parted c.args.pages.now c.requires c.args.at) (λ a r f k. search rules)))
