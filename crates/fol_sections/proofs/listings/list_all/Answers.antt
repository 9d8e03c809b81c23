use Rattle.std.proofs.Common.{◌≤◌, ◌∙◌, arith, ◌++◌, length, length-append}
use Rattle.std.specs.Prelude.{flat_map}
use Rattle.std.specs.Vec.{vec_capacity}
use Rattle.fol_sections.specs.Kept.{held_chunks}
use Rattle.fol_sections.proofs.HeldChunks.{listed_fits, listed_on}
use Rattle.fol_sections.proofs.PageStretches.{stretch_on}
use Rattle.fol_sections.proofs.listings.list_all.Goals as goal

pub list_stretch-requires : goal.list_stretch-requires
list_stretch-requires c =
    let listed = held_chunks c.args.grid.now c.args.holds.now.entries in
    let whole = c.args.out.now.items ++ flat_map listed c.args.list.now in
    let room : length whole ≤ vec_capacity c.loop-rest.out = omega (arith, c.requires.room, c.loop-rest.invariant.capacity, length-append c.args.out.now.items (flat_map listed c.args.list.now)) in
    record {
      page = stretch_on c.loop-rest.rest.now c.split_at.result.0.now c.stretch_len.result c.split_at.ensures.front (omega (arith, c.split_at.ensures.front_len, c.stretch_len.ensures.some)) c.stretch_len.ensures.page;
      known = c.requires.known;
      room = listed_fits listed c.loop-rest.rest.now c.split_at.result.0.now c.split_at.result.1.now c.loop-rest.out.items c.loop-rest.out.items c.split_at.ensures.by_index.0 whole _ c.loop-rest.invariant.listed room;
    }

pub loop-rest-preserved : goal.loop-rest-preserved
loop-rest-preserved c =
    let listed = held_chunks c.args.grid.now c.args.holds.now.entries in
    record {
      listed = listed_on listed c.loop-rest.rest.now c.split_at.result.0.now c.split_at.result.1.now c.loop-rest.out.items c.list_stretch.new.out.items c.split_at.ensures.by_index.0 _ c.list_stretch.ensures.listed c.loop-rest.invariant.listed;
      capacity = c.list_stretch.ensures.capacity ∙ c.loop-rest.invariant.capacity;
    }
