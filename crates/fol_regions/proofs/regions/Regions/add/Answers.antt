use Rattle.std.proofs.Common.{◌∙◌, ◌-◌, sym, ap, arith, subst}
use Rattle.fol_model.specs.GridNumbers.{IsGrid}
use Rattle.fol_model.specs.Rules.{Rules}
use Rattle.fol_laws.proofs.RegionLaws.{add_keeps_rules}
use Rattle.fol_regions.specs.declared.nearby.Nearby.{Nearby}
use Rattle.fol_regions.specs.Changes.{Changes}
use Rattle.fol_regions.specs.Kept.{IsKept}
use Rattle.fol_regions.specs.Released.{grid_of}
use Rattle.fol_regions.specs.Table.{grid_state}
use Rattle.fol_regions.proofs.DeadKept.{added_live, bounds_added, bounds_created}
use Rattle.fol_regions.proofs.HoldSteps.{state_grid}
use Rattle.fol_regions.proofs.NearbySteps.{forgotten_stands}
use Rattle.fol_regions.proofs.regions.Regions.add.Goals as goal

pub hold-answer-requires-clause-few : goal.hold-answer-requires-clause-few
unfolding grid_state grid_of
hold-answer-requires-clause-few c = rw (← c.self.view_is) at c.requires.few

pub hold-answer-requires-clause-few_ids : goal.hold-answer-requires-clause-few_ids
unfolding grid_state grid_of
hold-answer-requires-clause-few_ids c = rw (← c.self.view_is) at c.requires.few_ids

pub hold-answer-requires-clause-spare : goal.hold-answer-requires-clause-spare
hold-answer-requires-clause-spare c = let n = rw (← c.self.view_is) at c.requires.spare in omega (arith, n, c.self.invariant.0.spare)

pub hold-answer-requires-clause-room : goal.hold-answer-requires-clause-room
hold-answer-requires-clause-room c =
    let n = rw (← c.self.view_is) at c.requires.spare in
    let r = c.self.invariant.0.room in
    record { pages = omega (arith, n, r.pages); ahead = omega (arith, n, r.ahead); behind = omega (arith, n, r.behind) }

pub invariant_of-self : goal.invariant_of-self
invariant_of-self c =
    let n = rw (← c.self.view_is) at c.requires.spare in
    let kept = c.self.invariant.0 in
    let r = kept.room in
    let after : IsKept c.self.inside.grid c.hold-answer.new.sections c.hold-answer.new.tables (c.self.inside.spare - 1) = record {
      same = kept.same ∙ sym c.hold-answer.ensures.grid;
      numbers = subst IsGrid (sym c.hold-answer.ensures.grid) kept.numbers;
      rules = subst Rules (sym c.hold-answer.ensures.state) (add_keeps_rules (grid_of c.self.inside.sections c.self.inside.tables) c.args.c kept.rules (state_grid c.self.inside.sections c.self.inside.tables kept.numbers) c.requires.in_range);
      presence = c.hold-answer.ensures.presence;
      spare = omega (arith, n, kept.spare, c.hold-answer.ensures.spare);
      room = record {
        pages = omega (arith, n, r.pages, c.hold-answer.ensures.free);
        ahead = omega (arith, n, r.ahead, c.hold-answer.ensures.ahead.0, c.hold-answer.ensures.ahead.1);
        behind = omega (arith, n, r.behind, c.hold-answer.ensures.behind.0, c.hold-answer.ensures.behind.1);
      };
    } in
    let joined = bounds_added (grid_of c.self.inside.sections c.self.inside.tables) c.args.c c.self.invariant.0.rules (state_grid c.self.inside.sections c.self.inside.tables c.self.invariant.0.numbers) c.requires.in_range (grid_of c.hold-answer.new.sections c.hold-answer.new.tables) c.hold-answer.ensures.state after.rules _ _ c.self.invariant.1 c.merges.result.now (c.merges.ensures ∙ ap (λ (x : Changes). x.merges) c.hold-answer.ensures.change) c.forget_joined.ensures in (
      after,
      bounds_created (grid_of c.hold-answer.new.sections c.hold-answer.new.tables) _ _ c.created.result.now after.rules joined
          (added_live (grid_of c.self.inside.sections c.self.inside.tables) c.args.c c.self.invariant.0.rules (state_grid c.self.inside.sections c.self.inside.tables c.self.invariant.0.numbers) c.requires.in_range (grid_of c.hold-answer.new.sections c.hold-answer.new.tables) c.hold-answer.ensures.state c.created.result.now (c.created.ensures ∙ ap (λ (x : Changes). x.created) c.hold-answer.ensures.change)) c.note_created.ensures,
      forgotten_stands _ c.hold-answer.new.tables _ (ap (λ (n : Nearby). n.home) c.forget.ensures),
    )

pub returns-clause-state : goal.returns-clause-state
unfolding grid_state grid_of
returns-clause-state c = rw (← c.self.view_is) c.hold-answer.ensures.state

pub returns-clause-answer : goal.returns-clause-answer
unfolding grid_state grid_of
returns-clause-answer c = rw (← c.self.view_is) c.hold-answer.ensures.answer

pub returns-clause-last : goal.returns-clause-last
unfolding grid_state grid_of
returns-clause-last c = rw (← c.self.view_is) c.hold-answer.ensures.change
