use Rattle.std.proofs.Common.{map}
use Rattle.std.proofs.lemmas.Result.{IfOk-weaker}
use Rattle.fol_model.specs.declared.places.SectionPos.{SectionPos}
use Rattle.fol_map.proofs.Ordered.{axis_of}
use Rattle.fol_map.proofs.layouts.columns_of.Goals as goal

pub returns : goal.returns
returns c = IfOk-weaker c.in_order.result _ _ (λ xs e. axis_of (map (λ (s : SectionPos). s.x) c.args.sections.now) c.in_ok-set.set.keys xs.items e c.in_order.ensures.ordered c.in_ok-set.ensures.0) c.in_order.ensures.keys
