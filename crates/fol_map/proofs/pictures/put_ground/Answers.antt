use Rattle.std.proofs.Common.{◌∙◌, append_assoc}
use Rattle.std.proofs.lemmas.Result.{IfOk-weaker}
use Rattle.fol_map.specs.Pictures.{ground}
use Rattle.fol_map.proofs.pictures.put_ground.Goals as goal

pub returns : goal.returns
unfolding ground
returns c = IfOk-weaker c.write.result _ _ (λ x e. e ∙ simp append_assoc) c.write.ensures.bytes
