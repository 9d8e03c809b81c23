use Rattle.std.proofs.Common.{◌∙◌, arith}
use Rattle.fol_region_tables.specs.Owners.{owner_in}
use Rattle.fol_region_tables.proofs.Stretches.{set_stretch, stretch_at}
use Rattle.fol_region_tables.proofs.pages.take_all_out.Goals as goal

pub take_stretch-requires : goal.take_stretch-requires
take_stretch-requires c = stretch_at c.loop-rest.rest.now c.split_at.result.0.now c.stretch_len.result c.split_at.ensures.front (omega (arith, c.split_at.ensures.front_len, c.stretch_len.ensures.some)) c.stretch_len.ensures.page c.page_of.result c.page_of.ensures

pub loop-rest-preserved : goal.loop-rest-preserved
loop-rest-preserved c = record {
  owner = λ q.
      set_stretch c.loop-rest.rest.now c.split_at.result.0.now c.split_at.result.1.now c.stretch_len.result c.split_at.ensures.front c.split_at.ensures.back 0 (owner_in c.loop-rest.pages.entries) (owner_in c.take_stretch.new.pages.entries) c.take_stretch.ensures.owner q
      ∙ c.loop-rest.invariant.owner q;
  room = omega (arith, c.take_stretch.ensures.room, c.loop-rest.invariant.room);
}
