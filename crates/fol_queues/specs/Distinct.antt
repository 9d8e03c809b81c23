-- Numbers that differ.
use Rattle.std.specs.Prelude.{Bool, nat_eq, List}
use Rattle.std.specs.List.{IsDistinct}
use Rattle.fol_queues.specs.declared.dated.Dated.{Dated}

abbrev pub same_number : Dated → Dated → Bool
same_number a b = nat_eq a.task.number b.task.number

-- no two tasks have one number
abbrev pub Distinct : List Dated → Type 0
Distinct ds = IsDistinct same_number ds
