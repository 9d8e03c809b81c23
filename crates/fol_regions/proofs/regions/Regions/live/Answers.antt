use Rattle.std.proofs.Common.{◌≡◌, ◌∙◌, not}
use Rattle.std.specs.Prelude.{filter}
use Rattle.std.proofs.lemmas.Result.{IfOk-weaker}
use Rattle.fol_model.specs.GridState.{is_dead}
use Rattle.fol_model.specs.Universe.{numbers_below}
use Rattle.fol_region_tables.specs.Book.{is_live, state_of}
use Rattle.fol_regions.specs.Released.{grid_of}
use Rattle.fol_regions.specs.Table.{grid_state}
use Rattle.fol_regions.proofs.LiveRegions.{live_regions}
use Rattle.fol_regions.proofs.regions.Regions.live.Goals as goal

pub returns : goal.returns
unfolding grid_state grid_of
returns c =
    let same = live_regions c.self.inside.sections c.self.inside.tables c.self.inside.tables.next c.keeps_lists.ensures c.self.invariant.0.rules c.keeps_states.ensures in
    rw (← c.self.view_is) (IfOk-weaker c.live.result (λ ids. ids.items ≡ filter (is_live c.self.inside.tables) (numbers_below c.self.inside.tables.next))
    (λ ids. ids.items ≡ filter (λ r. not (is_dead (state_of c.self.inside.tables r))) (numbers_below c.self.inside.tables.next)) (λ ids e. e ∙ same) c.live.ensures)
