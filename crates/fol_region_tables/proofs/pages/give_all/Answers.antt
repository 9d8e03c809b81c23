use Rattle.std.proofs.Common.{◌≡◌, ◌<◌, ◌∙◌, arith, refl, true, length}
use Rattle.std.proofs.lemmas.List.Sums.{count_by-le-length}
use Rattle.fol_model.specs.declared.places.SectionPos.{SectionPos}
use Rattle.fol_model.specs.Geometry.{is_among}
use Rattle.fol_pages.proofs.AbsentPages.{is_absent}
use Rattle.fol_region_tables.specs.Owners.{owner_in}
use Rattle.fol_region_tables.proofs.Stretches.{back_within, front_within, room_kept, set_stretch, still_there, stretch_at, stretch_room}
use Rattle.fol_region_tables.proofs.pages.give_all.Goals as goal

pub loop-rest-init : goal.loop-rest-init
loop-rest-init c = record {
  owner = λ q. refl;
  within = λ q h. h;
  there = λ x z h. h;
  room = λ pages cover. omega arith;
}

pub give_stretch-requires : goal.give_stretch-requires
give_stretch-requires c =
    let some : 0 < length c.split_at.result.0.now = omega (arith, c.split_at.ensures.front_len, c.stretch_len.ensures.some) in
    let at = stretch_at c.loop-rest.rest.now c.split_at.result.0.now c.stretch_len.result c.split_at.ensures.front some c.stretch_len.ensures.page c.page_of.result c.page_of.ensures in
    let within : (q : SectionPos) → is_among c.split_at.result.0.now q ≡ true → is_among c.args.sections.now q ≡ true = λ q h. c.loop-rest.invariant.within q (front_within c.loop-rest.rest.now c.split_at.result.0.now c.split_at.result.1.now c.stretch_len.result c.split_at.ensures.front c.split_at.ensures.back q h) in
    let lie = c.requires.room in
    record {
      page = at;
      room = stretch_room c.args.pages.now.entries c.loop-rest.pages.entries c.args.sections.now c.split_at.result.0.now _ _ at some within c.loop-rest.invariant.there lie.pages lie.within _ _ lie.few (c.loop-rest.invariant.room lie.pages lie.within);
    }

pub loop-rest-preserved : goal.loop-rest-preserved
loop-rest-preserved c =
    let some : 0 < length c.split_at.result.0.now = omega (arith, c.split_at.ensures.front_len, c.stretch_len.ensures.some) in
    let at = stretch_at c.loop-rest.rest.now c.split_at.result.0.now c.stretch_len.result c.split_at.ensures.front some c.stretch_len.ensures.page c.page_of.result c.page_of.ensures in
    let within : (q : SectionPos) → is_among c.split_at.result.0.now q ≡ true → is_among c.args.sections.now q ≡ true = λ q h. c.loop-rest.invariant.within q (front_within c.loop-rest.rest.now c.split_at.result.0.now c.split_at.result.1.now c.stretch_len.result c.split_at.ensures.front c.split_at.ensures.back q h) in
    let lie = c.requires.room in
    record {
      owner = λ q.
          set_stretch c.loop-rest.rest.now c.split_at.result.0.now c.split_at.result.1.now c.stretch_len.result c.split_at.ensures.front c.split_at.ensures.back c.args.id (owner_in c.loop-rest.pages.entries) (owner_in c.give_stretch.new.pages.entries) c.give_stretch.ensures.owner q
          ∙ c.loop-rest.invariant.owner q;
      within = λ q h. c.loop-rest.invariant.within q (back_within c.loop-rest.rest.now c.split_at.result.0.now c.split_at.result.1.now c.stretch_len.result c.split_at.ensures.front c.split_at.ensures.back q h);
      there = still_there c.args.pages.now.entries c.loop-rest.pages.entries c.args.sections.now c.split_at.result.0.now _ _ at some within c.loop-rest.invariant.there lie.pages lie.within _ c.give_stretch.ensures.pages;
      room = λ pages cover.
          room_kept c.args.pages.now.entries c.loop-rest.pages.entries c.args.sections.now c.split_at.result.0.now _ _ at some within c.loop-rest.invariant.there pages cover _ c.give_stretch.ensures.pages _ _ _ (c.loop-rest.invariant.room pages cover) c.give_stretch.ensures.room;
    }

pub returns-clause-room : goal.returns-clause-room
returns-clause-room c = λ n lie.
    omega (arith, c.loop-rest.invariant.room lie.pages lie.within, lie.few, count_by-le-length (is_absent c.args.pages.now.entries) lie.pages)
