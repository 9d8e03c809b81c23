use Rattle.std.proofs.Common.{◌∙◌, append_assoc}
use Rattle.std.proofs.lemmas.Result.{IfOk-weaker}
use Rattle.fol_map.specs.Legends.{region_name}
use Rattle.fol_map.proofs.legends.put_region_name.Goals as goal

pub returns : goal.returns
unfolding region_name
returns c = IfOk-weaker c.write-2.result _ _ (λ x e. e ∙ rw c.in_ok-write.ensures.bytes (simp append_assoc)) c.write-2.ensures.bytes
