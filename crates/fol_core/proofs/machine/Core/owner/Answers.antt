use Rattle.std.proofs.Common.{ap, ◌∙◌, ℕ}
use Rattle.fol_model.specs.declared.places.SectionPos.{SectionPos}
use Rattle.fol_core.specs.Answers.{some_id}
use Rattle.fol_core.proofs.Ahead.{owner_is}
use Rattle.fol_core.proofs.machine.Core.owner.Goals as goal

pub returns : goal.returns
returns c = rw (← c.self.view_is) (c.owner.ensures ∙ ap (λ (f : SectionPos → ℕ). some_id (f c.args.s)) (owner_is _ _ _ _ c.self.invariant.0))
