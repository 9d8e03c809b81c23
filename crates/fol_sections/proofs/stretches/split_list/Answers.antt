use Rattle.std.proofs.Common.{◌∙◌, arith}
use Rattle.std.specs.Prelude.{nat_eq, nat_lt}
use Rattle.fol_sections.specs.Pages.{near_at}
use Rattle.fol_sections.proofs.PageStretches.{filter_on, fits_on, stretch_on}
use Rattle.fol_sections.proofs.stretches.split_list.Goals as goal

pub split_stretch-requires-clause-page : goal.split_stretch-requires-clause-page
split_stretch-requires-clause-page c = stretch_on c.loop-rest.rest.now c.split_at.result.0.now c.stretch_len.result c.split_at.ensures.front (omega (arith, c.split_at.ensures.front_len, c.stretch_len.ensures.some)) c.stretch_len.ensures.page

pub loop-rest-preserved : goal.loop-rest-preserved
loop-rest-preserved c =
    let inv = c.loop-rest.invariant in
    let split = c.split_at.ensures.by_index.0 in
    let living = c.split_stretch.ensures.living in
    let dead = c.split_stretch.ensures.dead in
    record {
      living = filter_on (λ s. nat_lt 0 (near_at c.args.pages.now.entries s)) c.loop-rest.living.items c.split_stretch.new.living.items c.loop-rest.rest.now c.split_at.result.0.now c.split_at.result.1.now living split _ inv.living;
      dead = filter_on (λ s. nat_eq (near_at c.args.pages.now.entries s) 0) c.loop-rest.dead.items c.split_stretch.new.dead.items c.loop-rest.rest.now c.split_at.result.0.now c.split_at.result.1.now dead split _ inv.dead;
      living_fits = rw c.split_stretch.ensures.living_room (fits_on (λ s. nat_lt 0 (near_at c.args.pages.now.entries s)) c.loop-rest.living.items c.split_stretch.new.living.items c.loop-rest.rest.now c.split_at.result.0.now c.split_at.result.1.now living split _ inv.living_fits);
      dead_fits = rw c.split_stretch.ensures.dead_room (fits_on (λ s. nat_eq (near_at c.args.pages.now.entries s) 0) c.loop-rest.dead.items c.split_stretch.new.dead.items c.loop-rest.rest.now c.split_at.result.0.now c.split_at.result.1.now dead split _ inv.dead_fits);
      living_room = c.split_stretch.ensures.living_room ∙ inv.living_room;
      dead_room = c.split_stretch.ensures.dead_room ∙ inv.dead_room;
    }
