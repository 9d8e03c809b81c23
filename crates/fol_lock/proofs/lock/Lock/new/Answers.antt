use Rattle.std.proofs.Common.{ap, ◌∙◌, sym, subst, ◌∷◌, [], ◌++◌, Some}
use Rattle.atomic_table.specs.Table.{opening}
use Rattle.fol_lock.specs.View.{first_view}
use Rattle.fol_lock.specs.Rule.{Ruled}
use Rattle.fol_lock.proofs.Starts.{starts}
use Rattle.fol_lock.proofs.lock.Lock.new.Goals as goal

pub new-requires : goal.new-requires
new-requires g c =
    let origin = g.S.Kept.origin c.of.result.value in
    let slots = c.push_reserved.ensures.items ∙ ap (λ xs. xs ++ Some c.args.state ∷ []) c.in_ok-slots.ensures.items in
    subst (λ xs. Ruled g.S.Kept.log g.S.Kept.origin g.S.Kept.by origin c.args.seats (opening (0 ∷ 0 ∷ []) xs (first_view origin))) (sym slots)
    (starts g.S.Kept.log g.S.Kept.origin g.S.Kept.by origin c.args.seats c.args.state c.requires.empty (sym (ap g.S.Kept.origin c.of.ensures)) c.requires.count.0 c.requires.count.1)
