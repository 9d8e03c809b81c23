use Rattle.std.proofs.Common.{sym, ap, Err, rules}
use Rattle.fol_events.specs.declared.faults.Fault.{Fault}
use Rattle.fol_events.proofs.PostLines.{in_post, no_post_delay, no_post_action, is_post}
use Rattle.fol_events.proofs.events.post.Goals as goal

pub returns-in_err-delay-clause-none : goal.returns-in_err-delay-clause-none
returns-in_err-delay-clause-none c e =
    no_post_delay c.args.words.now c.small.new.self c.chunk.new.self c.in_ok-caller.caller c.in_ok-chunk.chunk c.in_ok-caller.ensures.found c.in_ok-chunk.ensures.found.1 c.in_err-delay.ensures.none

pub returns-in_err-action-clause-none : goal.returns-in_err-action-clause-none
returns-in_err-action-clause-none c e =
    let same = rw e at c.from_residual-in_err-action.ensures in
    let none = c.in_err-action.ensures.none (ap (λ (f : Fault). Err f) (sym same.1)) in
    no_post_action c.args.words.now c.small.new.self c.chunk.new.self c.positive.new.self c.accept.new.words c.in_ok-caller.caller c.in_ok-delay.delay c.in_ok-chunk.chunk c.in_ok-answer.answer c.in_ok-caller.ensures.found c.in_ok-chunk.ensures.found.1
    c.in_ok-delay.ensures.found.2 c.in_ok-answer.ensures.found.1 c.in_ok-answer.ensures.found.0 none

pub returns-clause-found : goal.returns-clause-found
returns-clause-found c =
    let delay = c.in_ok-delay.ensures.found in
    let answer = c.in_ok-answer.ensures.found in
    let chunk = c.in_ok-chunk.ensures.found in
    let action = c.in_ok-action.ensures.found in
    is_post c.args.words.now c.small.new.self c.chunk.new.self c.positive.new.self c.accept.new.words c.in_ok-caller.caller c.in_ok-delay.delay c.in_ok-chunk.chunk c.in_ok-action.action c.in_ok-answer.answer c.in_ok-caller.ensures.found chunk.1 delay.2
    answer.1 action.1 (search rules) (in_post c.in_ok-chunk.chunk c.in_ok-delay.delay c.in_ok-action.action chunk.0 delay.0 delay.1 action.0) answer.0
