use Rattle.std.proofs.Common.{◌≡◌, ◌∙◌, refl, ap, ◌∷◌, [], Option}
use Rattle.std.specs.Option.{option_or}
use Rattle.std.specs.List.Sorted.{IsStrictlySortedBy}
use Rattle.fol_queues.specs.Waiting.{option_filter}
use Rattle.fol_chunks.specs.Contents.{Contents, flat_of, is_recorded}
use Rattle.fol_data.specs.Rests.{rests_of}
use Rattle.fol_data.specs.declared.region_data.RegionData.{RegionData}
use Rattle.fol_bags.specs.Things.{Thing, things, chunk_at}
use Rattle.fol_bags.specs.Moves.{SameThings}
use Rattle.fol_bags.proofs.NoTask.{all_stay, none_comes}
use Rattle.fol_keyed.proofs.Answers.{always_err}
use Rattle.fol_bags.proofs.ThingSteps.{same_things, apart_same, things_left, things_come, contents_apart}
use Rattle.fol_bags.proofs.shift.shift_contents.Goals as goal

-- data with more room
roomy : (r : RegionData) (k : Contents) → flat_of k ≡ flat_of r.chunks → SameThings r (record r { chunks = k })
roomy r k e = same_things r (record r { chunks = k }) refl refl refl e

pub returns-in_err-reserve-clause-to_err : goal.returns-in_err-reserve-clause-to_err
returns-in_err-reserve-clause-to_err c = always_err c.from_residual.result _ (roomy c.args.to.now c.reserve.new.self c.reserve.ensures.same)

pub move_listed-requires-clause-order : goal.move_listed-requires-clause-order
unfolding IsStrictlySortedBy
move_listed-requires-clause-order c = (tt, tt)

pub move_listed-requires-clause-apart : goal.move_listed-requires-clause-apart
move_listed-requires-clause-apart c = contents_apart (is_recorded (c.args.c ∷ [])) c.args.from.now (record c.args.to.now { chunks = c.reserve.new.self }) (apart_same c.args.from.now c.args.to.now _ c.requires.apart (roomy c.args.to.now c.reserve.new.self c.reserve.ensures.same))

pub returns-clause-loses : goal.returns-clause-loses
returns-clause-loses c = record {
  things = things_left (is_recorded (c.args.c ∷ [])) c.args.from.now (record c.args.from.now { chunks = c.move_listed.new.self }) refl refl c.move_listed.ensures.stayed (all_stay c.args.c (rests_of c.args.from.now) c.requires.no_task);
  tick = refl;
  owed = refl;
}

pub returns-clause-gains : goal.returns-clause-gains
returns-clause-gains c = record {
  things = λ k. things_come (is_recorded (c.args.c ∷ [])) c.args.from.now (record c.args.to.now { chunks = c.reserve.new.self }) (record c.args.to.now { chunks = c.move_listed.new.into }) c.move_listed.ensures.moved (none_comes c.args.c (rests_of c.args.from.now) c.requires.no_task (rests_of c.args.to.now)) k
      ∙ ap (λ (o : Option (Thing k)). option_or o (option_filter (λ x. is_recorded (c.args.c ∷ []) (chunk_at k x)) (things c.args.from.now k))) ((roomy c.args.to.now c.reserve.new.self c.reserve.ensures.same).things k);
  tick = refl;
  owed = refl;
}
