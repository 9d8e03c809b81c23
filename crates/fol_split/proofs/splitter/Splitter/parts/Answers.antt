use Rattle.std.proofs.Common.{◌∙◌, ap, arith, length}
use Rattle.fol_model.specs.Geometry.{is_among}
use Rattle.fol_split.specs.Runs.{all_of}
use Rattle.fol_split.proofs.Parting.{parts_are}
use Rattle.fol_split.proofs.splitter.Splitter.parts.Goals as goal

pub returns : goal.returns
returns c = parts_are c.split.new.pool c.split.new.spans.items c.args.merge (length c.load.new.self.runs) c.args.sections.now c.split.ensures.split
    (omega (arith, ap length c.split.ensures.runs)) (λ s. ap (λ runs. is_among (all_of runs) s) c.split.ensures.runs ∙ c.load.ensures.members s)
