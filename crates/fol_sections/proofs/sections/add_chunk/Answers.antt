use Rattle.std.proofs.Common.{◌∙◌, arith}
use Rattle.std.proofs.lemmas.Bool.{le-leb, or_right}
use Rattle.fol_model.specs.Geometry.{is_within}
use Rattle.fol_laws.proofs.Distances.{self_distance}
use Rattle.fol_sections.specs.Pages.{is_here}
use Rattle.fol_sections.proofs.sections.add_chunk.Goals as goal

pub count_chunk-requires-clause-here : goal.count_chunk-requires-clause-here
count_chunk-requires-clause-here c =
    c.fill_around.ensures.here c.args.home ∙ or_right (is_here c.args.pages.now.entries c.args.home) (is_within c.args.home c.args.radius c.args.home) (le-leb _ _ (omega (arith, self_distance c.args.home)))

pub count_chunk-requires-clause-high : goal.count_chunk-requires-clause-high
count_chunk-requires-clause-high c = omega (arith, c.fill_around.ensures.chunks c.args.home, c.requires.chunks_high)

pub returns-clause-chunks : goal.returns-clause-chunks
returns-clause-chunks c = λ s. omega (arith, c.count_chunk.ensures.chunks s, c.fill_around.ensures.chunks s)

pub returns-clause-near : goal.returns-clause-near
returns-clause-near c = λ s. c.count_chunk.ensures.near s ∙ c.fill_around.ensures.near s

pub returns-clause-here : goal.returns-clause-here
returns-clause-here c = λ s. c.count_chunk.ensures.here s ∙ c.fill_around.ensures.here s
