use Rattle.std.proofs.Common.{◌≡◌, ◌≤◌, ◌^◌}
use Rattle.fol_bags.proofs.Empty.{timely_empty}
use Rattle.fol_bags.proofs.slot.Slot.compact.Goals as goal

pub returns-then-is_empty-clause-timely : goal.returns-then-is_empty-clause-timely
returns-then-is_empty-clause-timely c = λ timely.
    let small : c.give_back.new.self.body.tick ≤ 2 ^ 62 = rw c.give_back.ensures.same.tick timely.tick in
    timely_empty c.give_back.new.self.body small c.give_back.ensures.tasks
