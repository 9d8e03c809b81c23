use Rattle.std.proofs.Common.{arith}
use Rattle.fol_sections.proofs.DropSteps.{dead_more, near_more, out_more}
use Rattle.fol_sections.proofs.PageStretches.{stretch_on}
use Rattle.fol_sections.proofs.drops.drop_list.Goals as goal

pub drop_stretch-dead-requires : goal.drop_stretch-dead-requires
drop_stretch-dead-requires c = record { page = stretch_on c.loop-rest.rest.now c.split_at.result.0.now c.stretch_len.result c.split_at.ensures.front (omega (arith, c.split_at.ensures.front_len, c.stretch_len.ensures.some)) c.stretch_len.ensures.page }

pub loop-rest-preserved : goal.loop-rest-preserved
loop-rest-preserved c =
    let inv = c.loop-rest.invariant in
    let first = c.args.pages.now.entries in
    let now = c.loop-rest.pages.entries in
    let next = c.drop_stretch-dead.new.pages.entries in
    let part = c.split_at.result.0.now in
    let after = c.split_at.result.1.now in
    let rest = c.loop-rest.rest.now in
    let split = c.split_at.ensures.by_index.0 in
    record {
      dead = dead_more first now next part after rest split inv.near c.drop_stretch-dead.ensures.out c.loop-rest.dead c.drop_stretch-dead.result _ inv.dead c.drop_stretch-dead.ensures.dead;
      near = near_more first now next part after rest split inv.near c.drop_stretch-dead.ensures.out;
      out = λ q. out_more first now next part after rest split inv.near c.drop_stretch-dead.ensures.out q _ (inv.out q);
      room = omega (arith, inv.room, c.drop_stretch-dead.ensures.room);
    }
