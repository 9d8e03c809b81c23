use Rattle.std.proofs.Common.{◌∙◌, append_assoc}
use Rattle.std.proofs.lemmas.Result.{IfOk-weaker}
use Rattle.fol_map.specs.Marks.{task_title}
use Rattle.fol_map.proofs.marks.put_task_title.Goals as goal

pub returns : goal.returns
unfolding task_title
returns c = IfOk-weaker c.write.result _ _ (λ x e. e ∙ simp append_assoc) c.write.ensures.bytes
