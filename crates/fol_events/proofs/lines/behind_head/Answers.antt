use Rattle.std.proofs.Common.{◌≡◌, true, false, codes, refl}
use Rattle.fol_events.proofs.Cuts.{one_cut}
use Rattle.fol_events.proofs.lines.behind_head.Goals as goal

pub returns-else-is_word-clause-none : goal.returns-else-is_word-clause-none
returns-else-is_word-clause-none c rest e =
    let found = c.in_ok-line.ensures.found in
    let cut = one_cut c.in_ok-line.line.now (codes "report 1") c.in_ok-line.rest.now rest found.0 refl (cc (found.1, e)) in
    absurd (let t : false ≡ true = c.if-is_word.ensures.1 cut.0 in cc)
