use Rattle.std.proofs.Common.{◌≡◌, sym, ◌∙◌, refl}
use Rattle.fol_bags.proofs.Empty.{things_empty, things_of_nothing}
use Rattle.fol_bags.proofs.slot.Slot.give_back.Goals as goal

pub returns-then-spare-gt-KEPT_ROOM-clause-same : goal.returns-then-spare-gt-KEPT_ROOM-clause-same
returns-then-spare-gt-KEPT_ROOM-clause-same c = record {
  things = λ k. c.new_data.ensures.things.things k ∙ things_of_nothing c.args.self.now.body.tick c.args.self.now.body.owed k ∙ sym (things_empty c.args.self.now.body c.requires.tasks c.requires.contents k);
  tick = c.new_data.ensures.things.tick;
  owed = c.new_data.ensures.things.owed;
}
