use Rattle.std.proofs.Common.{◌≡◌, ◌*◌, ◌≤◌, ◌∙◌, sym, ap, arith, true, not, ◌&&◌, length}
use Rattle.std.specs.Prelude.{nat_eq, nat_lt, nat_le}
use Rattle.std.proofs.lemmas.List.Sums.{length-filter}
use Rattle.fol_model.specs.GridState.{size}
use Rattle.fol_model.specs.Universe.{all_sections}
use Rattle.fol_region_tables.specs.Book.{owner_of}
use Rattle.fol_region_tables.proofs.BookFacts.{row_most}
use Rattle.fol_regions.specs.DeadBounds.{dead_count}
use Rattle.fol_regions.specs.Released.{grid_of}
use Rattle.fol_regions.specs.Table.{grid_state}
use Rattle.fol_regions.proofs.ReleaseFacts.{owned_few}
use Rattle.fol_regions.proofs.Resting as resting
use Rattle.fol_regions.proofs.regions.Regions.will_rest.Goals as goal

pub can_rest-requires : goal.can_rest-requires
can_rest-requires c =
    let most = row_most c.self.inside.tables c.args.id c.keeps_lists.ensures c.requires.given.above (owned_few c.self.inside.sections c.self.inside.tables c.self.invariant.0.rules) in
    omega (arith, most, ap length c.sections-size.ensures)

few : (c : goal.After-can_rest) → dead_count (grid_of c.self.inside.sections c.self.inside.tables) c.args.id ≤ c.most.result
few c = let known = c.self.invariant.1.at c.args.id c.requires.given.above in omega (arith, known, c.most.ensures)

rests : (c : goal.After-can_rest) → c.can_rest.result ≡ true
    → (nat_lt c.most.result (size (grid_of c.self.inside.sections c.self.inside.tables) c.args.id) && not (nat_le c.self.inside.sections.grid.min (size (grid_of c.self.inside.sections c.self.inside.tables) c.args.id)
    && nat_le (size (grid_of c.self.inside.sections c.self.inside.tables) c.args.id * c.self.inside.sections.grid.num) (c.most.result * c.self.inside.sections.grid.den))) ≡ true
unfolding grid_of
rests c e =
    let long : length c.sections-size.result.now ≡ size (grid_of c.self.inside.sections c.self.inside.tables) c.args.id =
    ap length c.sections-size.ensures ∙ ap length (c.keeps_lists.ensures.rows c.args.id c.requires.given.above) ∙ length-filter (λ s. nat_eq (owner_of c.self.inside.tables s) c.args.id) all_sections in
    rw (c.self.invariant.0.same, long) at (sym c.can_rest.ensures ∙ e)

pub returns-clause-state : goal.returns-clause-state
unfolding grid_state grid_of
returns-clause-state c = λ rest. rw (← c.self.view_is) (λ ready. resting.stays (grid_of c.self.inside.sections c.self.inside.tables) c.args.id c.self.invariant.0.rules ready c.most.result (few c) (rests c rest))

pub returns-clause-ticks : goal.returns-clause-ticks
unfolding grid_state grid_of
returns-clause-ticks c = λ rest. rw (← c.self.view_is) (λ ready. resting.ticks_stay (grid_of c.self.inside.sections c.self.inside.tables) c.args.id c.self.invariant.0.rules ready c.most.result (few c) (rests c rest))

pub returns-clause-owed : goal.returns-clause-owed
unfolding grid_state grid_of
returns-clause-owed c = λ rest. rw (← c.self.view_is) (λ ready. resting.owed_stay (grid_of c.self.inside.sections c.self.inside.tables) c.args.id c.self.invariant.0.rules ready c.most.result (few c) (rests c rest))
