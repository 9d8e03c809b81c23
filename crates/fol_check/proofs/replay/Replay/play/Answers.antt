use Rattle.std.proofs.Common.{◌≡◌, ◌+◌, ◌∙◌, refl, sym, arith}
use Rattle.fol_report_laws.specs.Laws.{events}
use Rattle.fol_check.proofs.Wholly.{finishes, goes_here, goes_on, none_behind, none_left, played_few, played_start, short_here, stops_here}
use Rattle.fol_check.proofs.replay.Replay.play.Goals as goal

pub events-init : goal.events-init
events-init c =
    let s = c.args.self.now in
    let same : c.from_vec-left.result.items ≡ c.args.history = c.from_vec-left.ensures.items ∙ c.into_vec.ensures in
    record {
      number = 0;
      place = refl;
      played = rw same (played_start s s.core.opening s.script (events c.args.history) (record { stands = c.requires.stands; opening = refl; script = refl; none = c.requires.none }));
      in_range = rw same c.requires.in_range;
    }

pub returns-then-not-branch : goal.returns-then-not-branch
returns-then-not-branch c =
    let is = c.events.invariant in
    let s = c.args.self.now in
    stops_here c.events.self c.step.new.self s.core.opening s.script c.args.history c.events.left.items c.pop_front.new.self.items c.in-Some.entry is.number c.events.place c.in_ok-step.field-0
    is.played is.place c.in-Some.ensures.items (rw c.into_event.ensures at c.in_ok-step.ensures) c.if-not-branch.true

pub overflow_add-place : goal.overflow_add-place
overflow_add-place c =
    let is = c.events.invariant in
    let s = c.args.self.now in
    let place = is.place in
    let all = c.requires.few in
    let few = played_few c.events.self s.core.opening s.script c.args.history c.events.left.items is.number c.events.place is.played in
    omega arith

pub events-preserved : goal.events-preserved
events-preserved c =
    let is = c.events.invariant in
    let s = c.args.self.now in
    let place = is.place in
    record {
      number = is.number + 1;
      place = omega arith;
      played = goes_here c.events.self c.step.new.self s.core.opening s.script c.args.history c.events.left.items c.pop_front.new.self.items c.in-Some.entry is.number c.events.place
          c.in_ok-step.field-0 is.played is.place c.in-Some.ensures.items (rw c.into_event.ensures at c.in_ok-step.ensures) c.if-not-branch.false;
      in_range = (rw c.in-Some.ensures.items at is.in_range).1;
    }

pub returns-then-not-is_finished : goal.returns-then-not-is_finished
returns-then-not-is_finished c =
    let is = c.events.invariant in
    let s = c.args.self.now in
    let none = none_behind c.events.left.items _ (sym c.events.left.ok.0) c.in_default.ensures.variant.1 in
    let ends = c.is_finished.ensures in
    short_here c.events.self s.core.opening s.script c.args.history c.events.left.items is.number c.events.place is.played is.place none
    (goes_on c.events.self.core.history c.is_finished.result ends.some ends.none c.if-not-is_finished.true)

pub returns : goal.returns
returns c =
    let is = c.events.invariant in
    let s = c.args.self.now in
    let none = none_behind c.events.left.items _ (sym c.events.left.ok.0) c.in_default.ensures.variant.1 in
    let ends = c.is_finished.ensures in
    record {
      count = is.number;
      all = none_left c.events.self s.core.opening s.script c.args.history c.events.left.items is.number c.events.place is.played none;
      finished = finishes c.events.self.core.history c.is_finished.result ends.some ends.none c.if-not-is_finished.false;
    }
