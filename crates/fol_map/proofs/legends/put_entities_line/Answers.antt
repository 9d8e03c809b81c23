use Rattle.std.proofs.Common.{◌∙◌, append_assoc}
use Rattle.std.proofs.lemmas.Result.{IfOk-weaker}
use Rattle.fol_map.specs.Legends.{entities_line}
use Rattle.fol_map.proofs.legends.put_entities_line.Goals as goal

pub returns : goal.returns
unfolding entities_line
returns c = IfOk-weaker c.write-3.result _ _ (λ x e. e ∙ rw (c.in_ok-write-2.ensures.bytes, c.in_ok-write.ensures.bytes) (simp append_assoc)) c.write-3.ensures.bytes
