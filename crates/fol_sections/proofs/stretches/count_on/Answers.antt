use Rattle.std.proofs.Common.{◌∙◌, ap, arith}
use Rattle.std.specs.Prelude.{pos, sum_by}
use Rattle.std.proofs.lemmas.List.{take_all}
use Rattle.std.proofs.lemmas.List.Sums.{sum_by_more, sum_by_more_le}
use Rattle.fol_model.specs.declared.places.SectionPos.{SectionPos}
use Rattle.fol_sections.specs.Pages.{chunks_on}
use Rattle.fol_sections.proofs.stretches.count_on.Goals as goal

abbrev origin : SectionPos
origin = record { x = pos 0; z = pos 0 }

pub overflow_add-count : goal.overflow_add-count
overflow_add-count c = omega (arith, c.loop-s.invariant, c.loaded_on-count.ensures, sum_by_more_le (chunks_on c.args.page.now) c.args.part.now c.loop-s.s-index origin c.loop-s-test.true, c.requires)

pub loop-s-preserved : goal.loop-s-preserved
loop-s-preserved c = omega (arith, c.loop-s.invariant, c.loaded_on-count.ensures, sum_by_more (chunks_on c.args.page.now) c.args.part.now c.loop-s.s-index origin c.loop-s-test.true)

pub returns : goal.returns
returns c = c.loop-s.invariant ∙ ap (sum_by (chunks_on c.args.page.now)) (take_all c.loop-s.s-index c.args.part.now (omega arith))
