use Rattle.std.proofs.Common.{ℕ, not, ◌∙◌, ap, arith, w64, SFits, Option}
use Rattle.std.specs.Option.{option_map, option_or, ForSome}
use Rattle.std.proofs.Math.Path.{fun_ext}
use Rattle.std.proofs.lemmas.Int.{to_z-of_z}
use borrow.Author.Differences.{ints}
use Rattle.fol_keyed.proofs.Filtered.{still_holds}
use Rattle.fol_queues.specs.Waiting.{dated, lies_listed, is_listed, job_of, option_filter}
use Rattle.fol_queues.specs.declared.dated.Dated.{Dated}
use Rattle.fol_data.specs.Rests.{IsInTime}
use Rattle.fol_data.proofs.Joined.{all_joined, all_in_time}
use Rattle.fol_data.proofs.Parted.{parted_rests, all_parted, all_still_hold}
use Rattle.fol_data.proofs.region_data.RegionData.move_listed.Goals as goal

-- the tasks that move
moving : (c : goal.After-move_listed-2) → ℕ → Option Dated
moving c n = option_filter (lies_listed c.args.chunks.now) (dated c.args.self.now.queues n)

moving_in_time : (c : goal.After-move_listed-2) (n : ℕ) → ForSome (moving c n) (IsInTime c.args.self.now.tick)
unfolding moving
moving_in_time c n = still_holds (IsInTime c.args.self.now.tick) (lies_listed c.args.chunks.now) (dated c.args.self.now.queues n) (c.requires.in_time n)

pub returns-clause-moved_tasks : goal.returns-clause-moved_tasks
returns-clause-moved_tasks c =
    let fits : SFits w64 c.offset-offset.result = rw c.offset-offset.ensures (omega (arith, ints, c.requires.tick, c.requires.into_tick)) in
    rw (to_z-of_z w64 c.offset-offset.result fits, c.offset-offset.ensures) at c.move_listed.ensures.moved

pub returns-clause-stayed_rests : goal.returns-clause-stayed_rests
returns-clause-stayed_rests c =
    all_parted (λ p. not (is_listed c.args.chunks.now p)) c.args.self.now.tick (dated c.args.self.now.queues) (dated c.move_listed.new.self) c.move_listed.ensures.stayed

pub returns-clause-moved_rests : goal.returns-clause-moved_rests
unfolding moving
returns-clause-moved_rests c =
    all_joined c.args.self.now.tick c.args.into.now.tick (dated c.args.into.now.queues) (moving c) (dated c.move_listed.new.into) (returns-clause-moved_tasks c) (moving_in_time c)
    ∙ fun_ext (λ n. ap (λ o. option_or (option_map (job_of c.args.into.now.tick) (dated c.args.into.now.queues n)) o) (parted_rests (is_listed c.args.chunks.now) c.args.self.now.tick (dated c.args.self.now.queues n)))

pub returns-clause-in_time : goal.returns-clause-in_time
returns-clause-in_time c =
    all_still_hold (IsInTime c.args.self.now.tick) (λ d. not (lies_listed c.args.chunks.now d)) (dated c.args.self.now.queues) (dated c.move_listed.new.self) c.move_listed.ensures.stayed c.requires.in_time

pub returns-clause-into_in_time : goal.returns-clause-into_in_time
unfolding moving
returns-clause-into_in_time c =
    all_in_time c.args.self.now.tick c.args.into.now.tick (dated c.args.into.now.queues) (moving c) (dated c.move_listed.new.into) (returns-clause-moved_tasks c) c.requires.into_in_time (moving_in_time c)
