use Rattle.std.proofs.Common.{◌≡◌, ◌∙◌, refl, sym, ap, arith, true, false, length, ◌+◌}
use Rattle.fol_model.specs.GridNumbers.{GridNumbers}
use Rattle.fol_model.specs.Release.{cleans, must_wait}
use Rattle.fol_region_tables.specs.Book.{behind_of}
use Rattle.fol_regions.specs.Released.{grid_of}
use Rattle.fol_regions.proofs.JoinAll.{ids_few}
use Rattle.fol_regions.proofs.ReleaseFacts as facts
use Rattle.fol_regions.proofs.release.Releaser.release.Goals as goal

pub list_waiting-requires : goal.list_waiting-requires
list_waiting-requires c =
    let h = c.keeps_lists.ensures in
    let live = facts.t_live c.args.sections.now c.args.tables.now c.args.id c.requires.rules c.requires.ticks h c.keeps_states.ensures in
    let most = ids_few c.args.tables.now c.args.id h live
    (facts.alone c.args.sections.now c.args.tables.now c.args.id c.requires.rules c.requires.ticks h)
    (facts.last c.args.sections.now c.args.tables.now c.args.id c.requires.rules c.requires.ticks h)
    (facts.few c.args.sections.now c.args.tables.now c.args.id c.requires.rules c.requires.ticks h) (behind_of c.args.tables.now c.args.id) refl in
    omega (arith, most, c.self.invariant.0)

pub join_all-requires-clause-region : goal.join_all-requires-clause-region
join_all-requires-clause-region c = facts.t_live c.args.sections.now c.args.tables.now c.args.id c.requires.rules c.requires.ticks c.keeps_lists.ensures c.keeps_states.ensures

pub join_all-requires-clause-ids : goal.join_all-requires-clause-ids
join_all-requires-clause-ids c = c.deref.ensures.value ∙ c.list_waiting.ensures.ids

pub join_all-requires-clause-alone : goal.join_all-requires-clause-alone
join_all-requires-clause-alone c = facts.alone c.args.sections.now c.args.tables.now c.args.id c.requires.rules c.requires.ticks c.keeps_lists.ensures

pub join_all-requires-clause-last : goal.join_all-requires-clause-last
join_all-requires-clause-last c = facts.last c.args.sections.now c.args.tables.now c.args.id c.requires.rules c.requires.ticks c.keeps_lists.ensures

pub join_all-requires-clause-few : goal.join_all-requires-clause-few
join_all-requires-clause-few c = facts.few c.args.sections.now c.args.tables.now c.args.id c.requires.rules c.requires.ticks c.keeps_lists.ensures

pub set_state-requires-then-is_waiting : goal.set_state-requires-then-is_waiting
set_state-requires-then-is_waiting c =
    let live = facts.t_live c.args.sections.now c.args.tables.now c.args.id c.requires.rules c.requires.ticks c.keeps_lists.ensures c.keeps_states.ensures in
    facts.j_live c.args.sections.now c.args.tables.now c.args.id c.requires.rules c.requires.ticks c.keeps_lists.ensures c.join_all.new.tables c.deref.result.now (c.deref.ensures.value ∙ c.list_waiting.ensures.ids) c.join_all.ensures.joins c.keeps_lists-2.ensures live

pub returns-then-is_waiting-clause-state : goal.returns-then-is_waiting-clause-state
returns-then-is_waiting-clause-state c =
    let is = c.deref.ensures.value ∙ c.list_waiting.ensures.ids in
    let must = sym (facts.wait_is c.args.sections.now c.args.tables.now c.args.id c.requires.rules c.requires.ticks c.keeps_lists.ensures c.join_all.new.tables c.deref.result.now is c.join_all.ensures.joins c.keeps_lists-2.ensures) ∙ sym c.is_waiting.ensures ∙ c.if-is_waiting.true in
    facts.held_state c.args.sections.now c.args.tables.now c.args.id c.requires.rules c.requires.ticks c.keeps_lists.ensures c.join_all.new.tables c.deref.result.now is c.join_all.ensures.joins c.keeps_lists-2.ensures c.set_state-then-is_waiting.new.self c.set_state-then-is_waiting.ensures must

pub returns-then-is_waiting-clause-change : goal.returns-then-is_waiting-clause-change
returns-then-is_waiting-clause-change c =
    let is = c.deref.ensures.value ∙ c.list_waiting.ensures.ids in
    let must = sym (facts.wait_is c.args.sections.now c.args.tables.now c.args.id c.requires.rules c.requires.ticks c.keeps_lists.ensures c.join_all.new.tables c.deref.result.now is c.join_all.ensures.joins c.keeps_lists-2.ensures) ∙ sym c.is_waiting.ensures ∙ c.if-is_waiting.true in
    c.join_all.ensures.change ∙ facts.held_change c.args.sections.now c.args.tables.now c.args.id c.requires.rules c.requires.ticks c.keeps_lists.ensures c.join_all.new.tables c.deref.result.now is c.join_all.ensures.joins c.keeps_lists-2.ensures c.set_state-then-is_waiting.new.self c.set_state-then-is_waiting.ensures must

pub returns-then-is_waiting-clause-presence : goal.returns-then-is_waiting-clause-presence
returns-then-is_waiting-clause-presence c =
    let is = c.deref.ensures.value ∙ c.list_waiting.ensures.ids in
    rw c.set_state-then-is_waiting.ensures.owner
    (facts.presence_j c.args.sections.now c.args.tables.now c.args.id c.requires.rules c.requires.ticks c.keeps_lists.ensures c.join_all.new.tables c.deref.result.now is c.join_all.ensures.joins c.keeps_lists-2.ensures c.requires.presence)

pub sort_out-requires-clause-living_room : goal.sort_out-requires-clause-living_room
sort_out-requires-clause-living_room c =
    let is = c.deref.ensures.value ∙ c.list_waiting.ensures.ids in
    let live = facts.t_live c.args.sections.now c.args.tables.now c.args.id c.requires.rules c.requires.ticks c.keeps_lists.ensures c.keeps_states.ensures in
    let most = facts.row_most c.args.sections.now c.args.tables.now c.args.id c.requires.rules c.requires.ticks c.keeps_lists.ensures c.join_all.new.tables c.deref.result.now is c.join_all.ensures.joins c.keeps_lists-2.ensures live in
    omega (arith, most, ap length c.sections.ensures, c.self.invariant.1)

pub sort_out-requires-clause-dead_room : goal.sort_out-requires-clause-dead_room
sort_out-requires-clause-dead_room c =
    let is = c.deref.ensures.value ∙ c.list_waiting.ensures.ids in
    let live = facts.t_live c.args.sections.now c.args.tables.now c.args.id c.requires.rules c.requires.ticks c.keeps_lists.ensures c.keeps_states.ensures in
    let most = facts.row_most c.args.sections.now c.args.tables.now c.args.id c.requires.rules c.requires.ticks c.keeps_lists.ensures c.join_all.new.tables c.deref.result.now is c.join_all.ensures.joins c.keeps_lists-2.ensures live in
    omega (arith, most, ap length c.sections.ensures, c.self.invariant.2)

pub must_clean-requires-clause-size : goal.must_clean-requires-clause-size
must_clean-requires-clause-size c =
    let is = c.deref.ensures.value ∙ c.list_waiting.ensures.ids in
    let live = facts.t_live c.args.sections.now c.args.tables.now c.args.id c.requires.rules c.requires.ticks c.keeps_lists.ensures c.keeps_states.ensures in
    let out = rw c.sections.ensures at c.sort_out.ensures.dead in
    let stays = rw c.sections.ensures at c.sort_out.ensures.living in
    omega (arith, facts.lengths c.args.sections.now c.args.tables.now c.args.id c.requires.rules c.requires.ticks c.keeps_lists.ensures c.join_all.new.tables c.deref.result.now is c.join_all.ensures.joins c.keeps_lists-2.ensures c.sort_out.new.self.dead.items out c.sort_out.new.self.living.items stays, facts.row_most c.args.sections.now c.args.tables.now c.args.id c.requires.rules c.requires.ticks c.keeps_lists.ensures c.join_all.new.tables c.deref.result.now is c.join_all.ensures.joins c.keeps_lists-2.ensures live)

pub must_clean-requires-clause-dead : goal.must_clean-requires-clause-dead
must_clean-requires-clause-dead c =
    let is = c.deref.ensures.value ∙ c.list_waiting.ensures.ids in
    let live = facts.t_live c.args.sections.now c.args.tables.now c.args.id c.requires.rules c.requires.ticks c.keeps_lists.ensures c.keeps_states.ensures in
    let out = rw c.sections.ensures at c.sort_out.ensures.dead in
    let stays = rw c.sections.ensures at c.sort_out.ensures.living in
    omega (arith, facts.lengths c.args.sections.now c.args.tables.now c.args.id c.requires.rules c.requires.ticks c.keeps_lists.ensures c.join_all.new.tables c.deref.result.now is c.join_all.ensures.joins c.keeps_lists-2.ensures c.sort_out.new.self.dead.items out c.sort_out.new.self.living.items stays, facts.row_most c.args.sections.now c.args.tables.now c.args.id c.requires.rules c.requires.ticks c.keeps_lists.ensures c.join_all.new.tables c.deref.result.now is c.join_all.ensures.joins c.keeps_lists-2.ensures live)

pub overflow_cast-result-else-must_clean : goal.overflow_cast-result-else-must_clean
overflow_cast-result-else-must_clean c =
    let is = c.deref.ensures.value ∙ c.list_waiting.ensures.ids in
    let live = facts.t_live c.args.sections.now c.args.tables.now c.args.id c.requires.rules c.requires.ticks c.keeps_lists.ensures c.keeps_states.ensures in
    let out = rw c.sections.ensures at c.sort_out.ensures.dead in
    let stays = rw c.sections.ensures at c.sort_out.ensures.living in
    omega (arith, facts.lengths c.args.sections.now c.args.tables.now c.args.id c.requires.rules c.requires.ticks c.keeps_lists.ensures c.join_all.new.tables c.deref.result.now is c.join_all.ensures.joins c.keeps_lists-2.ensures c.sort_out.new.self.dead.items out c.sort_out.new.self.living.items stays, facts.row_most c.args.sections.now c.args.tables.now c.args.id c.requires.rules c.requires.ticks c.keeps_lists.ensures c.join_all.new.tables c.deref.result.now is c.join_all.ensures.joins c.keeps_lists-2.ensures live)

pub clean-requires-clause-region : goal.clean-requires-clause-region
clean-requires-clause-region c =
    let is = c.deref.ensures.value ∙ c.list_waiting.ensures.ids in
    let live = facts.t_live c.args.sections.now c.args.tables.now c.args.id c.requires.rules c.requires.ticks c.keeps_lists.ensures c.keeps_states.ensures in
    facts.j_live c.args.sections.now c.args.tables.now c.args.id c.requires.rules c.requires.ticks c.keeps_lists.ensures c.join_all.new.tables c.deref.result.now is c.join_all.ensures.joins c.keeps_lists-2.ensures live

pub set_state-requires-else-must_clean : goal.set_state-requires-else-must_clean
set_state-requires-else-must_clean c =
    let is = c.deref.ensures.value ∙ c.list_waiting.ensures.ids in
    let live = facts.t_live c.args.sections.now c.args.tables.now c.args.id c.requires.rules c.requires.ticks c.keeps_lists.ensures c.keeps_states.ensures in
    facts.j_live c.args.sections.now c.args.tables.now c.args.id c.requires.rules c.requires.ticks c.keeps_lists.ensures c.join_all.new.tables c.deref.result.now is c.join_all.ensures.joins c.keeps_lists-2.ensures live

pub clean-requires-clause-last : goal.clean-requires-clause-last
clean-requires-clause-last c =
    let is = c.deref.ensures.value ∙ c.list_waiting.ensures.ids in
    facts.j_last c.args.sections.now c.args.tables.now c.args.id c.requires.rules c.requires.ticks c.keeps_lists.ensures c.join_all.new.tables c.deref.result.now is c.join_all.ensures.joins c.keeps_lists-2.ensures

pub clean-requires-clause-dead : goal.clean-requires-clause-dead
clean-requires-clause-dead c =
    let is = c.deref.ensures.value ∙ c.list_waiting.ensures.ids in
    let out = rw c.sections.ensures at c.sort_out.ensures.dead in
    (facts.dead_owner c.args.sections.now c.args.tables.now c.args.id c.requires.rules c.requires.ticks c.keeps_lists.ensures c.join_all.new.tables c.deref.result.now is c.join_all.ensures.joins c.keeps_lists-2.ensures c.sort_out.new.self.dead.items out)

pub clean-requires-clause-living : goal.clean-requires-clause-living
clean-requires-clause-living c =
    let is = c.deref.ensures.value ∙ c.list_waiting.ensures.ids in
    let out = rw c.sections.ensures at c.sort_out.ensures.dead in
    let stays = rw c.sections.ensures at c.sort_out.ensures.living in
    (facts.living_left c.args.sections.now c.args.tables.now c.args.id c.requires.rules c.requires.ticks c.keeps_lists.ensures c.join_all.new.tables c.deref.result.now is c.join_all.ensures.joins c.keeps_lists-2.ensures c.sort_out.new.self.dead.items out c.sort_out.new.self.living.items stays)

pub clean-requires-clause-few : goal.clean-requires-clause-few
clean-requires-clause-few c =
    let is = c.deref.ensures.value ∙ c.list_waiting.ensures.ids in
    facts.j_few c.args.sections.now c.args.tables.now c.args.id c.requires.rules c.requires.ticks c.keeps_lists.ensures c.join_all.new.tables c.deref.result.now is c.join_all.ensures.joins c.keeps_lists-2.ensures

pub clean-requires-clause-room : goal.clean-requires-clause-room
clean-requires-clause-room c =
    let is = c.deref.ensures.value ∙ c.list_waiting.ensures.ids in
    let live = facts.t_live c.args.sections.now c.args.tables.now c.args.id c.requires.rules c.requires.ticks c.keeps_lists.ensures c.keeps_states.ensures in
    let most = ids_few c.args.tables.now c.args.id c.keeps_lists.ensures live (facts.alone c.args.sections.now c.args.tables.now c.args.id c.requires.rules c.requires.ticks c.keeps_lists.ensures) (facts.last c.args.sections.now c.args.tables.now c.args.id c.requires.rules c.requires.ticks c.keeps_lists.ensures) (facts.few c.args.sections.now c.args.tables.now c.args.id c.requires.rules c.requires.ticks c.keeps_lists.ensures) c.deref.result.now is in
    rw c.join_all.ensures.change (refl, refl, omega (arith, most))

pub clean-requires-clause-present : goal.clean-requires-clause-present
clean-requires-clause-present c =
    let is = c.deref.ensures.value ∙ c.list_waiting.ensures.ids in
    let out = rw c.sections.ensures at c.sort_out.ensures.dead in
    facts.dead_present c.args.sections.now c.args.tables.now c.args.id c.requires.rules c.requires.ticks c.keeps_lists.ensures c.join_all.new.tables c.deref.result.now is c.join_all.ensures.joins c.keeps_lists-2.ensures c.sort_out.new.self.dead.items out c.requires.presence

pub clean-requires-clause-distinct : goal.clean-requires-clause-distinct
clean-requires-clause-distinct c =
    let is = c.deref.ensures.value ∙ c.list_waiting.ensures.ids in
    let live = facts.t_live c.args.sections.now c.args.tables.now c.args.id c.requires.rules c.requires.ticks c.keeps_lists.ensures c.keeps_states.ensures in
    let out = rw c.sections.ensures at c.sort_out.ensures.dead in
    facts.dead_distinct c.args.sections.now c.args.tables.now c.args.id c.requires.rules c.requires.ticks c.keeps_lists.ensures c.join_all.new.tables c.deref.result.now is c.join_all.ensures.joins c.keeps_lists-2.ensures c.sort_out.new.self.dead.items out live

pub returns-then-must_clean-clause-state : goal.returns-then-must_clean-clause-state
returns-then-must_clean-clause-state c =
    let is = c.deref.ensures.value ∙ c.list_waiting.ensures.ids in
    let out = rw c.sections.ensures at c.sort_out.ensures.dead in
    let stays = rw c.sections.ensures at c.sort_out.ensures.living in
    let calm : must_wait (grid_of c.args.sections.now c.args.tables.now) c.args.id ≡ false = sym (facts.wait_is c.args.sections.now c.args.tables.now c.args.id c.requires.rules c.requires.ticks c.keeps_lists.ensures c.join_all.new.tables c.deref.result.now is c.join_all.ensures.joins c.keeps_lists-2.ensures) ∙ sym c.is_waiting.ensures ∙ c.if-is_waiting.false in
    let lengths = facts.lengths c.args.sections.now c.args.tables.now c.args.id c.requires.rules c.requires.ticks c.keeps_lists.ensures c.join_all.new.tables c.deref.result.now is c.join_all.ensures.joins c.keeps_lists-2.ensures c.sort_out.new.self.dead.items out c.sort_out.new.self.living.items stays in
    let test = facts.clean_test c.args.sections.now c.args.tables.now c.args.id c.requires.rules c.requires.ticks c.keeps_lists.ensures c.join_all.new.tables c.deref.result.now is c.join_all.ensures.joins c.keeps_lists-2.ensures c.len-2.result (c.len.result + c.len-dead.result) c.len-dead.result (omega (arith, ap length c.deref.ensures.value)) (omega (arith, lengths)) (omega (arith, ap length out)) in
    let answer = rw c.requires.grid at c.must_clean.ensures in
    let cleaning : cleans (grid_of c.args.sections.now c.args.tables.now) c.args.id ≡ true = sym test ∙ sym answer ∙ c.if-must_clean.true in
    let grid = c.grid.view_is ∙ c.requires.grid in
    let merge = ap (λ (x : GridNumbers). x.merge) grid in
    let are = rw merge at c.clean.ensures.parts in
    let by = c.clean.ensures.tables in
    let x = facts.is_cleaned c.args.sections.now c.args.tables.now c.args.id c.requires.rules c.requires.ticks c.keeps_lists.ensures c.join_all.new.tables c.deref.result.now is c.join_all.ensures.joins c.keeps_lists-2.ensures c.sort_out.new.self.living.items stays c.clean.new.self.splitter are c.clean.new.tables by in
    facts.cleaned_state c.args.sections.now c.args.tables.now c.args.id c.requires.rules c.requires.ticks c.keeps_lists.ensures c.join_all.new.tables c.deref.result.now is c.join_all.ensures.joins c.keeps_lists-2.ensures c.sort_out.new.self.living.items stays c.clean.new.self.splitter are calm cleaning c.clean.new.sections c.clean.new.tables c.clean.ensures.grid c.clean.ensures.holds x

pub returns-then-must_clean-clause-change : goal.returns-then-must_clean-clause-change
returns-then-must_clean-clause-change c =
    let is = c.deref.ensures.value ∙ c.list_waiting.ensures.ids in
    let out = rw c.sections.ensures at c.sort_out.ensures.dead in
    let stays = rw c.sections.ensures at c.sort_out.ensures.living in
    let calm : must_wait (grid_of c.args.sections.now c.args.tables.now) c.args.id ≡ false = sym (facts.wait_is c.args.sections.now c.args.tables.now c.args.id c.requires.rules c.requires.ticks c.keeps_lists.ensures c.join_all.new.tables c.deref.result.now is c.join_all.ensures.joins c.keeps_lists-2.ensures) ∙ sym c.is_waiting.ensures ∙ c.if-is_waiting.false in
    let lengths = facts.lengths c.args.sections.now c.args.tables.now c.args.id c.requires.rules c.requires.ticks c.keeps_lists.ensures c.join_all.new.tables c.deref.result.now is c.join_all.ensures.joins c.keeps_lists-2.ensures c.sort_out.new.self.dead.items out c.sort_out.new.self.living.items stays in
    let test = facts.clean_test c.args.sections.now c.args.tables.now c.args.id c.requires.rules c.requires.ticks c.keeps_lists.ensures c.join_all.new.tables c.deref.result.now is c.join_all.ensures.joins c.keeps_lists-2.ensures c.len-2.result (c.len.result + c.len-dead.result) c.len-dead.result (omega (arith, ap length c.deref.ensures.value)) (omega (arith, lengths)) (omega (arith, ap length out)) in
    let answer = rw c.requires.grid at c.must_clean.ensures in
    let cleaning : cleans (grid_of c.args.sections.now c.args.tables.now) c.args.id ≡ true = sym test ∙ sym answer ∙ c.if-must_clean.true in
    let grid = c.grid.view_is ∙ c.requires.grid in
    let merge = ap (λ (x : GridNumbers). x.merge) grid in
    let are = rw merge at c.clean.ensures.parts in
    let change = rw c.join_all.ensures.change at c.clean.ensures.change in
    change ∙ facts.cleaned_change c.args.sections.now c.args.tables.now c.args.id c.requires.rules c.requires.ticks c.keeps_lists.ensures c.join_all.new.tables c.deref.result.now is c.join_all.ensures.joins c.keeps_lists-2.ensures c.sort_out.new.self.living.items stays c.clean.new.self.splitter are calm cleaning

pub returns-then-must_clean-clause-presence : goal.returns-then-must_clean-clause-presence
returns-then-must_clean-clause-presence c =
    let is = c.deref.ensures.value ∙ c.list_waiting.ensures.ids in
    let out = rw c.sections.ensures at c.sort_out.ensures.dead in
    let stays = rw c.sections.ensures at c.sort_out.ensures.living in
    let calm : must_wait (grid_of c.args.sections.now c.args.tables.now) c.args.id ≡ false = sym (facts.wait_is c.args.sections.now c.args.tables.now c.args.id c.requires.rules c.requires.ticks c.keeps_lists.ensures c.join_all.new.tables c.deref.result.now is c.join_all.ensures.joins c.keeps_lists-2.ensures) ∙ sym c.is_waiting.ensures ∙ c.if-is_waiting.false in
    let lengths = facts.lengths c.args.sections.now c.args.tables.now c.args.id c.requires.rules c.requires.ticks c.keeps_lists.ensures c.join_all.new.tables c.deref.result.now is c.join_all.ensures.joins c.keeps_lists-2.ensures c.sort_out.new.self.dead.items out c.sort_out.new.self.living.items stays in
    let test = facts.clean_test c.args.sections.now c.args.tables.now c.args.id c.requires.rules c.requires.ticks c.keeps_lists.ensures c.join_all.new.tables c.deref.result.now is c.join_all.ensures.joins c.keeps_lists-2.ensures c.len-2.result (c.len.result + c.len-dead.result) c.len-dead.result (omega (arith, ap length c.deref.ensures.value)) (omega (arith, lengths)) (omega (arith, ap length out)) in
    let answer = rw c.requires.grid at c.must_clean.ensures in
    let cleaning : cleans (grid_of c.args.sections.now c.args.tables.now) c.args.id ≡ true = sym test ∙ sym answer ∙ c.if-must_clean.true in
    let grid = c.grid.view_is ∙ c.requires.grid in
    let merge = ap (λ (x : GridNumbers). x.merge) grid in
    let are = rw merge at c.clean.ensures.parts in
    let by = c.clean.ensures.tables in
    let x = facts.is_cleaned c.args.sections.now c.args.tables.now c.args.id c.requires.rules c.requires.ticks c.keeps_lists.ensures c.join_all.new.tables c.deref.result.now is c.join_all.ensures.joins c.keeps_lists-2.ensures c.sort_out.new.self.living.items stays c.clean.new.self.splitter are c.clean.new.tables by in
    let ok = rw grid at c.grid.invariant in
    facts.cleaned_presence c.args.sections.now c.args.tables.now c.args.id c.requires.rules c.requires.ticks c.keeps_lists.ensures c.join_all.new.tables c.deref.result.now is c.join_all.ensures.joins c.keeps_lists-2.ensures c.sort_out.new.self.living.items stays c.clean.new.self.splitter are calm cleaning ok c.clean.new.sections c.clean.new.tables c.sort_out.new.self.dead.items out c.requires.presence c.clean.ensures.presence x

pub returns-then-must_clean-clause-dead : goal.returns-then-must_clean-clause-dead
returns-then-must_clean-clause-dead c = λ _.
    let is = c.deref.ensures.value ∙ c.list_waiting.ensures.ids in
    let stays = rw c.sections.ensures at c.sort_out.ensures.living in
    let grid = c.grid.view_is ∙ c.requires.grid in
    let merge = ap (λ (x : GridNumbers). x.merge) grid in
    let are = rw merge at c.clean.ensures.parts in
    let x = facts.is_cleaned c.args.sections.now c.args.tables.now c.args.id c.requires.rules c.requires.ticks c.keeps_lists.ensures c.join_all.new.tables c.deref.result.now is c.join_all.ensures.joins c.keeps_lists-2.ensures c.sort_out.new.self.living.items stays c.clean.new.self.splitter are c.clean.new.tables c.clean.ensures.tables in
    omega (arith, facts.cleaned_none c.args.sections.now c.args.tables.now c.args.id c.requires.rules c.requires.ticks c.keeps_lists.ensures c.join_all.new.tables c.deref.result.now is c.join_all.ensures.joins c.keeps_lists-2.ensures c.sort_out.new.self.living.items stays c.clean.new.self.splitter are c.clean.new.sections c.clean.new.tables c.clean.ensures.grid c.clean.ensures.holds x)

pub returns-else-must_clean-clause-state : goal.returns-else-must_clean-clause-state
returns-else-must_clean-clause-state c =
    let is = c.deref.ensures.value ∙ c.list_waiting.ensures.ids in
    let out = rw c.sections.ensures at c.sort_out.ensures.dead in
    let stays = rw c.sections.ensures at c.sort_out.ensures.living in
    let calm : must_wait (grid_of c.args.sections.now c.args.tables.now) c.args.id ≡ false = sym (facts.wait_is c.args.sections.now c.args.tables.now c.args.id c.requires.rules c.requires.ticks c.keeps_lists.ensures c.join_all.new.tables c.deref.result.now is c.join_all.ensures.joins c.keeps_lists-2.ensures) ∙ sym c.is_waiting.ensures ∙ c.if-is_waiting.false in
    let lengths = facts.lengths c.args.sections.now c.args.tables.now c.args.id c.requires.rules c.requires.ticks c.keeps_lists.ensures c.join_all.new.tables c.deref.result.now is c.join_all.ensures.joins c.keeps_lists-2.ensures c.sort_out.new.self.dead.items out c.sort_out.new.self.living.items stays in
    let test = facts.clean_test c.args.sections.now c.args.tables.now c.args.id c.requires.rules c.requires.ticks c.keeps_lists.ensures c.join_all.new.tables c.deref.result.now is c.join_all.ensures.joins c.keeps_lists-2.ensures c.len-2.result (c.len.result + c.len-dead.result) c.len-dead.result (omega (arith, ap length c.deref.ensures.value)) (omega (arith, lengths)) (omega (arith, ap length out)) in
    let answer = rw c.requires.grid at c.must_clean.ensures in
    let cleaning : cleans (grid_of c.args.sections.now c.args.tables.now) c.args.id ≡ false = sym test ∙ sym answer ∙ c.if-must_clean.false in
    facts.rested_state c.args.sections.now c.args.tables.now c.args.id c.requires.rules c.requires.ticks c.keeps_lists.ensures c.join_all.new.tables c.deref.result.now is c.join_all.ensures.joins c.keeps_lists-2.ensures calm cleaning c.set_state-else-must_clean.new.self c.set_state-else-must_clean.ensures

pub returns-else-must_clean-clause-change : goal.returns-else-must_clean-clause-change
returns-else-must_clean-clause-change c =
    let is = c.deref.ensures.value ∙ c.list_waiting.ensures.ids in
    let out = rw c.sections.ensures at c.sort_out.ensures.dead in
    let stays = rw c.sections.ensures at c.sort_out.ensures.living in
    let calm : must_wait (grid_of c.args.sections.now c.args.tables.now) c.args.id ≡ false = sym (facts.wait_is c.args.sections.now c.args.tables.now c.args.id c.requires.rules c.requires.ticks c.keeps_lists.ensures c.join_all.new.tables c.deref.result.now is c.join_all.ensures.joins c.keeps_lists-2.ensures) ∙ sym c.is_waiting.ensures ∙ c.if-is_waiting.false in
    let lengths = facts.lengths c.args.sections.now c.args.tables.now c.args.id c.requires.rules c.requires.ticks c.keeps_lists.ensures c.join_all.new.tables c.deref.result.now is c.join_all.ensures.joins c.keeps_lists-2.ensures c.sort_out.new.self.dead.items out c.sort_out.new.self.living.items stays in
    let test = facts.clean_test c.args.sections.now c.args.tables.now c.args.id c.requires.rules c.requires.ticks c.keeps_lists.ensures c.join_all.new.tables c.deref.result.now is c.join_all.ensures.joins c.keeps_lists-2.ensures c.len-2.result (c.len.result + c.len-dead.result) c.len-dead.result (omega (arith, ap length c.deref.ensures.value)) (omega (arith, lengths)) (omega (arith, ap length out)) in
    let answer = rw c.requires.grid at c.must_clean.ensures in
    let cleaning : cleans (grid_of c.args.sections.now c.args.tables.now) c.args.id ≡ false = sym test ∙ sym answer ∙ c.if-must_clean.false in
    c.join_all.ensures.change ∙ facts.rested_change c.args.sections.now c.args.tables.now c.args.id c.requires.rules c.requires.ticks c.keeps_lists.ensures c.join_all.new.tables c.deref.result.now is c.join_all.ensures.joins c.keeps_lists-2.ensures calm cleaning

pub returns-else-must_clean-clause-dead : goal.returns-else-must_clean-clause-dead
returns-else-must_clean-clause-dead c = λ _.
    let is = c.deref.ensures.value ∙ c.list_waiting.ensures.ids in
    let out = rw c.sections.ensures at c.sort_out.ensures.dead in
    omega (arith, facts.dead_set c.args.sections.now c.args.tables.now c.args.id c.requires.rules c.requires.ticks c.keeps_lists.ensures c.join_all.new.tables c.deref.result.now is c.join_all.ensures.joins c.keeps_lists-2.ensures c.set_state-else-must_clean.new.self c.set_state-else-must_clean.ensures.owner, ap length out)

-- ---- the region rests
pub can_rest-requires : goal.can_rest-requires
can_rest-requires c = facts.size_few c.args.sections.now c.args.tables.now c.args.id c.requires.rules c.requires.ticks c.keeps_lists.ensures c.size_alone.result c.size_alone.ensures

pub set_state-requires : goal.set_state-requires
set_state-requires c = facts.t_live c.args.sections.now c.args.tables.now c.args.id c.requires.rules c.requires.ticks c.keeps_lists.ensures c.keeps_states.ensures

pub returns-then-can_rest-clause-state : goal.returns-then-can_rest-clause-state
returns-then-can_rest-clause-state c =
    let rest = rw c.requires.grid at (sym c.can_rest.ensures ∙ c.if-can_rest.true) in
    facts.alone_state c.args.sections.now c.args.tables.now c.args.id c.requires.rules c.requires.ticks c.keeps_lists.ensures c.args.most c.size_alone.result c.requires.dead c.size_alone.ensures rest c.set_state.new.self c.set_state.ensures

pub returns-then-can_rest-clause-change : goal.returns-then-can_rest-clause-change
returns-then-can_rest-clause-change c =
    let rest = rw c.requires.grid at (sym c.can_rest.ensures ∙ c.if-can_rest.true) in
    c.clear.ensures ∙ facts.alone_change c.args.sections.now c.args.tables.now c.args.id c.requires.rules c.requires.ticks c.keeps_lists.ensures c.args.most c.size_alone.result c.requires.dead c.size_alone.ensures rest

pub returns-then-can_rest-clause-dead : goal.returns-then-can_rest-clause-dead
returns-then-can_rest-clause-dead c = λ _.
    let rest = rw c.requires.grid at (sym c.can_rest.ensures ∙ c.if-can_rest.true) in
    facts.alone_dead c.args.sections.now c.args.tables.now c.args.id c.requires.rules c.requires.ticks c.keeps_lists.ensures c.args.most c.size_alone.result c.requires.dead c.size_alone.ensures rest c.set_state.new.self c.set_state.ensures.owner

pub returns-then-can_rest-clause-presence : goal.returns-then-can_rest-clause-presence
returns-then-can_rest-clause-presence c = rw c.set_state.ensures.owner c.requires.presence
