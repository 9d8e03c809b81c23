use Rattle.std.proofs.Common.{arith}
use Rattle.fol_sections.specs.Pages.{chunks_at}
use Rattle.fol_sections.proofs.PageStretches.{stretch_on, sum_on}
use Rattle.fol_sections.proofs.stretches.count_list.Goals as goal

pub count_stretch-count-requires : goal.count_stretch-count-requires
count_stretch-count-requires c = record {
  page = stretch_on c.loop-rest.rest.now c.split_at.result.0.now c.stretch_len.result c.split_at.ensures.front (omega (arith, c.split_at.ensures.front_len, c.stretch_len.ensures.some)) c.stretch_len.ensures.page;
  few = omega (arith, c.loop-rest.invariant, c.requires, sum_on (chunks_at c.args.pages.now.entries) c.loop-rest.rest.now c.split_at.result.0.now c.split_at.result.1.now c.split_at.ensures.by_index.0);
}

pub overflow_add-count : goal.overflow_add-count
overflow_add-count c = omega (arith, c.loop-rest.invariant, c.requires, c.count_stretch-count.ensures, sum_on (chunks_at c.args.pages.now.entries) c.loop-rest.rest.now c.split_at.result.0.now c.split_at.result.1.now c.split_at.ensures.by_index.0)

pub loop-rest-preserved : goal.loop-rest-preserved
loop-rest-preserved c = omega (arith, c.loop-rest.invariant, c.count_stretch-count.ensures, sum_on (chunks_at c.args.pages.now.entries) c.loop-rest.rest.now c.split_at.result.0.now c.split_at.result.1.now c.split_at.ensures.by_index.0)
