use Rattle.std.proofs.Common.{◌≡◌, [], sym, ◌∙◌, arith}
use Rattle.std.specs.Vec.{vec_len}
use Rattle.std.proofs.lemmas.Bool.{eqb-true}
use Rattle.std.proofs.lemmas.List.{nil_from_length}
use Rattle.fol_keyed.proofs.Pending.{changed_nothing}
use Rattle.fol_keyed.proofs.chunk_set.settle.Goals as goal

pub returns-then-is_empty-clause-list : goal.returns-then-is_empty-clause-list
returns-then-is_empty-clause-list c =
    let none : vec_len c.args.changes.now ≡ 0 = eqb-true _ _ (sym c.is_empty.ensures ∙ c.if-is_empty.true) in
    let nothing : c.args.changes.now.items ≡ [] = nil_from_length _ (omega (arith, none)) in
    sym (changed_nothing c.args.list.now.items c.args.changes.now.items nothing)
