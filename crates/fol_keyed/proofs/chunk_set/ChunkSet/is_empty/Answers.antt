use Rattle.std.proofs.Common.{◌≡◌, [], sym, ◌∙◌, arith}
use Rattle.std.specs.Vec.{vec_len}
use Rattle.std.proofs.lemmas.Bool.{eqb-true}
use Rattle.std.proofs.lemmas.List.{nil_from_length}
use Rattle.fol_keyed.proofs.Pending.{changed_nothing}
use Rattle.fol_keyed.proofs.chunk_set.ChunkSet.is_empty.Goals as goal

pub returns-then-is_empty : goal.returns-then-is_empty
returns-then-is_empty c = λ h.
    let list : vec_len c.self.inside.list ≡ 0 = eqb-true _ _ (sym c.is_empty.ensures ∙ c.if-is_empty.true) in
    let changes : vec_len c.self.inside.changes ≡ 0 = eqb-true _ _ (sym c.is_empty-then-is_empty.ensures ∙ h) in
    let no_list : c.self.inside.list.items ≡ [] = nil_from_length _ (omega (arith, list)) in
    let no_changes : c.self.inside.changes.items ≡ [] = nil_from_length _ (omega (arith, changes)) in
    sym c.self.view_is ∙ changed_nothing _ _ no_changes ∙ no_list
