use Rattle.std.proofs.Common.{◌≡◌, decimal, arith}
use Rattle.fol_events.proofs.Lists.{same_number}
use Rattle.fol_events.proofs.words.Words.positive.Goals as goal

pub returns-then-n-eq0-clause-none : goal.returns-then-n-eq0-clause-none
returns-then-n-eq0-clause-none c t more h e =
    let found = c.in_ok-n.ensures.found in
    let first : decimal c.in_ok-n.n ≡ decimal t = cc (found.1, e) in
    let most = c.ranges.most in
    let zero = c.if-n-eq0.true in
    let same = same_number c.in_ok-n.n t (omega (arith, found.0)) (omega (arith, h.1)) first in
    absurd (omega (arith, h.0, same, zero))
