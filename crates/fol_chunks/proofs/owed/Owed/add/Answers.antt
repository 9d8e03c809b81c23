use Rattle.std.proofs.Common.{◌∙◌, sym, ap, map}
use Rattle.std.specs.Fn.{iterate}
use Rattle.fol_chunks.specs.declared.area.Area.{Area}
use Rattle.fol_chunks.specs.Areas.{paid, stepped_in}
use Rattle.fol_chunks.proofs.Owing.{area_same, more_owed, none_owed}
use Rattle.fol_chunks.proofs.owed.Owed.add.Goals.{then-ne, else-ne+else-self-steps}
use Rattle.fol_chunks.proofs.owed.Owed.add.Goals as goal

pub returns-clause-paid : goal.returns-clause-paid
returns-clause-paid c =
    elim c.if-ne.branch [
      | then-ne w ↦
          let settled = none_owed (record { area = c.args.area; steps = w.settle.new.self.steps }) w.settle.new.entities.items w.settle.ensures.none ∙ w.settle.ensures.paid in
          rw (w.self-is, w.entities-is) (more_owed c.args.area c.args.steps w.settle.new.self.steps w.settle.new.entities.items ∙ ap (iterate (map (stepped_in c.args.area)) c.args.steps) settled)
      | else-ne+else-self-steps w ↦
          let same = area_same c.args.self.now.area c.args.area (sym c.ne.ensures ∙ w.if-ne.false) in
          rw (w.self-is, w.entities-is)
          (more_owed c.args.self.now.area c.args.steps c.args.self.now.steps c.args.entities.now.items ∙ ap (λ (area : Area). iterate (map (stepped_in area)) c.args.steps (map (paid c.args.self.now) c.args.entities.now.items)) same)
    ]
