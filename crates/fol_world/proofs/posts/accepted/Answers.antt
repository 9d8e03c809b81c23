use Rattle.std.proofs.lemmas.Bool.{and_parts, leb-true}
use Rattle.std.specs.Prelude.{nat_le}
use Rattle.fol_model.specs.Limits.{is_delay}
use Rattle.fol_world.proofs.posts.accepted.Goals as goal

pub queue-requires : goal.queue-requires
unfolding is_delay
queue-requires c = let d = and_parts (nat_le 1 c.args.delay) (nat_le c.args.delay 1000000) c.requires.delay in record {
  spare = c.requires.spare;
  fresh = c.requires.fresh;
  delay_low = leb-true 1 c.args.delay d.0;
  delay_high = leb-true c.args.delay 1000000 d.1;
  few = c.requires.few;
}
