use Rattle.std.proofs.Common.{◌≡◌, ◌<◌, length, sym, ◌∙◌, ap, arith}
use Rattle.std.specs.Prelude.{nat_le}
use Rattle.std.proofs.lemmas.Bool.{eqb-true, eqb-false}
use Rattle.fol_queues.specs.declared.dated.Dated.{Dated}
use Rattle.fol_queues.proofs.Turns.{first_tells, none_tells}
use Rattle.fol_queues.proofs.due.is_any_due.Goals as goal

pub returns-then-is_empty : goal.returns-then-is_empty
returns-then-is_empty c =
    let none : length c.args.tasks.now ≡ 0 = eqb-true (length c.args.tasks.now) 0 (sym c.is_empty.ensures ∙ c.if-is_empty.true) in
    none_tells c.args.now c.args.tasks.now none

pub returns : goal.returns
returns c =
    let not : length c.args.tasks.now ≡ 0 → ⊥ = eqb-false (length c.args.tasks.now) 0 (sym c.is_empty.ensures ∙ c.if-is_empty.false) in
    let some : 0 < length c.args.tasks.now = omega arith in
    ap (λ (d : Dated). nat_le d.deadline c.args.now) (sym c.index-tasks-0.is) ∙ first_tells c.args.now c.args.tasks.now c.index-tasks-0.result c.requires some c.index-tasks-0.is
