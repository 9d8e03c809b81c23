use Rattle.std.proofs.Common.{◌≡◌, ◌<◌, refl, sym, ◌∙◌, None, get_or, length, arith, false, true}
use Rattle.std.specs.Prelude.{◌-◌}
use Rattle.fol_core.specs.Meaning.{world_of}
use Rattle.fol_check.specs.declared.asks.Open.{Open}
use Rattle.fol_check.proofs.Answered.{ready_given}
use Rattle.fol_check.proofs.Places.{begun_kept, none_is, read_at, rules_of}
use Rattle.fol_tick_laws.proofs.Unprepared.{still_none}
use Rattle.fol_check.proofs.replay.Replay.begin.Goals as goal

pub returns-then-is_none : goal.returns-then-is_none
returns-then-is_none c = λ is.
    let given = ready_given (world_of c.args.self.now.core) c.args.region c.state.result (rules_of c.args.self.now c.requires.stands) c.state.ensures is.allowed.0 in
    let never : true ≡ false = sym given ∙ c.if-is_none.ensures in
    cc

pub begin-requires-clause-free : goal.begin-requires-clause-free
begin-requires-clause-free c = still_none c.args.self.now.core c.reserve.new.self c.reserve.ensures.same.prepared c.requires.stands.unprepared c.args.region

pub returns-in_ok-held-in-Got : goal.returns-in_ok-held-in-Got
returns-in_ok-held-in-Got c =
    let count = c.requires.stands.count in
    let inside : c.args.worker - 1 < length c.args.self.now.workers.items = omega arith in
    let read : get_or c.args.self.now.workers.items (c.args.worker - 1) None ≡ c.index.result.now = read_at c.args.self.now.workers.items (c.args.worker - 1) c.index.result.now None inside c.index.ensures in
    let idles : get_or c.args.self.now.workers.items (c.args.worker - 1) None ≡ None = read ∙ none_is c.index.result.now (sym c.is_some.ensures ∙ c.if-is_some.false) in
    let opened = c.in_ok-held-in-Got.ensures in
    let p : Open = c.in_ok-held-in-Got.held in
    begun_kept c.args.self.now _ c.reserve.new.self c.args.worker (c.args.worker - 1) c.args.region p (omega arith) (omega arith) c.requires.stands c.reserve.ensures.same (rw (← opened.tick) at c.in-Got.ensures)
    idles (rw (← opened.tick) at opened.asks) opened.answers c.history-entries.ensures.run refl refl refl count
