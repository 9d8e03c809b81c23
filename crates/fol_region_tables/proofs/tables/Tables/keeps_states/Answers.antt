use Rattle.fol_region_tables.proofs.BookFacts.{state_lives}
use Rattle.fol_region_tables.proofs.tables.Tables.keeps_states.Goals as goal

pub returns : goal.returns
returns c = λ r d. rw (← c.self.view_is) (state_lives _ r c.keeps_slots.ensures.within (rw (← c.self.view_is) at d))
