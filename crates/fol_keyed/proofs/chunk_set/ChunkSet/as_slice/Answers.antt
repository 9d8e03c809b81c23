use Rattle.std.proofs.Common.{◌≡◌, [], sym, ◌∙◌, arith}
use Rattle.std.specs.Vec.{vec_len}
use Rattle.std.proofs.lemmas.Bool.{eqb-true}
use Rattle.std.proofs.lemmas.List.{nil_from_length}
use Rattle.fol_keyed.proofs.Pending.{changed_nothing}
use Rattle.fol_keyed.proofs.chunk_set.ChunkSet.as_slice.Goals as goal

pub returns-then-is_empty : goal.returns-then-is_empty
returns-then-is_empty c =
    let none : vec_len c.self.inside.changes ≡ 0 = eqb-true _ _ (sym c.is_empty.ensures ∙ c.if-is_empty.true) in
    let nothing : c.self.inside.changes.items ≡ [] = nil_from_length _ (omega (arith, none)) in
    c.as_slice.ensures.value ∙ (sym (changed_nothing _ _ nothing) ∙ c.self.view_is)
