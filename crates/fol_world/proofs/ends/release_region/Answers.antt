use Rattle.std.proofs.Common.{◌≡◌, ◌<◌, refl, sym, ◌∙◌, ap, true}
use Rattle.fol_model.specs.declared.regions.State.TheVariants.{Dead, Ticking}
use Rattle.fol_model.specs.GridState.{GridState, is_dead}
use Rattle.fol_model.specs.Release.{release}
use Rattle.fol_laws.proofs.ReleaseKeeps.{grid_release}
use Rattle.fol_regions.specs.Changes.{Changes, release_change}
use Rattle.fol_regions.specs.Table.{grid_state}
use Rattle.fol_store.specs.Stock.{bag_of}
use Rattle.fol_world.proofs.Given.{given_after, parts_given}
use Rattle.fol_world.proofs.ends.release_region.Goals as goal

pub state_of-requires : goal.state_of-requires
state_of-requires c = let e = c.release.ensures.state in record {
  given = rw e (given_after _ c.args.region c.requires.ticks (c.keeps_rules.ensures.given c.args.region) (c.keeps_rules.ensures.below_next c.args.region));
}

pub part-requires-clause-given : goal.part-requires-clause-given
part-requires-clause-given c =
    let g : GridState = grid_state c.args.tables.now.regions in
    let below : c.args.region < g.next = c.keeps_rules.ensures.below_next c.args.region (λ d. let x : Ticking ≡ Dead = sym c.requires.ticks ∙ d in absurd (cc)) in
    let e : c.parts.result.now ≡ (release_change g c.args.region).parts = c.parts.ensures ∙ ap (λ (ch : Changes). ch.parts) (c.last-change.ensures ∙ c.release.ensures.last) in
    rw (c.release.ensures.state, e) (parts_given g c.args.region below)

pub part-requires-clause-grid : goal.part-requires-clause-grid
part-requires-clause-grid c = rw c.release.ensures.state (c.requires.grid ∙ sym (grid_release (grid_state c.args.tables.now.regions) c.args.region))

pub part-requires-clause-chunks : goal.part-requires-clause-chunks
part-requires-clause-chunks c =
    let g : GridState = grid_state c.args.tables.now.regions in
    let change : c.last-change.result.now ≡ release_change g c.args.region = c.last-change.ensures ∙ c.release.ensures.last in
    let e : c.parts.result.now ≡ (release_change g c.args.region).parts = c.parts.ensures ∙ ap (λ (ch : Changes). ch.parts) change in
    let m : c.merges.result.now ≡ (release_change g c.args.region).merges = c.merges.ensures ∙ ap (λ (ch : Changes). ch.merges) change in
    let d : (release g c.args.region).state c.args.region ≡ Dead = ap (λ (k : GridState). k.state c.args.region) (sym c.release.ensures.state) ∙ sym c.state_of.ensures ∙ c.in-Dead.is in
    let dead : is_dead ((release g c.args.region).state c.args.region) ≡ true = rw d refl in
    let j = rw m at c.join_waiting.ensures.bags in
    rw (c.release.ensures.state, e) (c.requires.lists (bag_of c.join_waiting.new.store) j dead)
