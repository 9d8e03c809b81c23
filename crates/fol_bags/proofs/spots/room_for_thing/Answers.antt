use Rattle.fol_bags.proofs.ThingSteps.{same_things, same_timely}
use Rattle.fol_bags.proofs.spots.room_for_thing.Goals as goal

pub returns-clause-same : goal.returns-clause-same
returns-clause-same c = same_things c.args.room.now c.reserve.new.self c.reserve.ensures.tick c.reserve.ensures.owed c.reserve.ensures.tasks c.reserve.ensures.contents

pub returns-clause-timely : goal.returns-clause-timely
returns-clause-timely c = same_timely c.args.room.now c.reserve.new.self c.reserve.ensures.tick c.reserve.ensures.tasks c.requires
