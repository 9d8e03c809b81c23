use Rattle.std.proofs.Common.{◌∙◌, append_assoc}
use Rattle.std.proofs.lemmas.Result.{IfOk-weaker}
use Rattle.fol_map.specs.Marks.{dot_title}
use Rattle.fol_map.proofs.marks.put_dot_title.Goals as goal

pub returns : goal.returns
unfolding dot_title
returns c = IfOk-weaker c.write.result _ _ (λ x e. e ∙ simp append_assoc) c.write.ensures.bytes
