use Rattle.std.proofs.Common.{◌∙◌, ap, Option}
use Rattle.std.specs.Option.{option_or}
use Rattle.fol_queues.specs.Waiting.{option_filter}
use Rattle.fol_chunks.specs.Contents.{is_recorded}
use Rattle.fol_bags.specs.Things.{Thing, things, chunk_at}
use Rattle.fol_bags.specs.Moves.{SameThings}
use Rattle.fol_keyed.proofs.Answers.{always_err}
use Rattle.fol_bags.proofs.ThingSteps.{same_things, apart_same, things_left, things_come, contents_apart, tasks_apart}
use Rattle.fol_bags.proofs.shift.shift.Goals as goal

pub returns-in_err-reserve-clause-to_err : goal.returns-in_err-reserve-clause-to_err
returns-in_err-reserve-clause-to_err c =
    always_err c.from_residual.result _ (same_things c.args.to.now c.reserve.new.self c.reserve.ensures.tick c.reserve.ensures.owed c.reserve.ensures.tasks c.reserve.ensures.contents)

pub move_listed-requires-clause-tasks_apart : goal.move_listed-requires-clause-tasks_apart
move_listed-requires-clause-tasks_apart c = λ n.
    let same : SameThings c.args.to.now c.reserve.new.self = same_things c.args.to.now c.reserve.new.self c.reserve.ensures.tick c.reserve.ensures.owed c.reserve.ensures.tasks c.reserve.ensures.contents in
    tasks_apart (is_recorded c.args.chunks.now) c.args.from.now c.reserve.new.self (apart_same c.args.from.now c.args.to.now c.reserve.new.self c.requires.apart same) _ n

pub move_listed-requires-clause-contents_apart : goal.move_listed-requires-clause-contents_apart
move_listed-requires-clause-contents_apart c =
    let same : SameThings c.args.to.now c.reserve.new.self = same_things c.args.to.now c.reserve.new.self c.reserve.ensures.tick c.reserve.ensures.owed c.reserve.ensures.tasks c.reserve.ensures.contents in
    contents_apart (is_recorded c.args.chunks.now) c.args.from.now c.reserve.new.self (apart_same c.args.from.now c.args.to.now c.reserve.new.self c.requires.apart same)

pub returns-clause-loses : goal.returns-clause-loses
returns-clause-loses c = record {
  things = things_left (is_recorded c.args.chunks.now) c.args.from.now c.move_listed.new.self c.move_listed.ensures.tick c.move_listed.ensures.owed c.move_listed.ensures.stayed_contents c.move_listed.ensures.stayed_rests;
  tick = c.move_listed.ensures.tick;
  owed = c.move_listed.ensures.owed;
}

pub returns-clause-gains : goal.returns-clause-gains
returns-clause-gains c =
    let same : SameThings c.args.to.now c.reserve.new.self = same_things c.args.to.now c.reserve.new.self c.reserve.ensures.tick c.reserve.ensures.owed c.reserve.ensures.tasks c.reserve.ensures.contents in
    record {
      things = λ k. things_come (is_recorded c.args.chunks.now) c.args.from.now c.reserve.new.self c.move_listed.new.into c.move_listed.ensures.moved_contents c.move_listed.ensures.moved_rests k
          ∙ ap (λ (o : Option (Thing k)). option_or o (option_filter (λ x. is_recorded c.args.chunks.now (chunk_at k x)) (things c.args.from.now k))) (same.things k);
      tick = c.move_listed.ensures.into_tick ∙ c.reserve.ensures.tick;
      owed = c.move_listed.ensures.into_owed ∙ c.reserve.ensures.owed;
    }
