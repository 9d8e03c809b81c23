use Rattle.fol_model.specs.ActionStep.{Standing}
use Rattle.fol_chunks.proofs.EitherList.{found_first, found_second}
use Rattle.fol_chunks.proofs.entities.Entities.find.Goals as goal

pub returns-in-Some : goal.returns-in-Some
returns-in-Some c = rw (← c.self.view_is) (found_first (λ (s : Standing). s.at) c.self.inside.walking.members c.self.inside.still.members c.args.id c.in-Some.at c.in-Some.ensures)

pub returns-in-None : goal.returns-in-None
returns-in-None c =
    let found = rw c.as_slice.ensures at c.find-in-None.ensures in
    rw (← c.self.view_is) (found_second (λ (s : Standing). s.at) c.self.inside.walking.members c.self.inside.still.members c.args.id c.find-in-None.result c.in-None.ensures found)
