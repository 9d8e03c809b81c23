use Rattle.std.specs.Prelude.{Result, Ok, Err, OnOk}
use Rattle.fol_core.proofs.AheadAnswers.{none_stands}
use Rattle.fol_core.proofs.ClosingRows.{found_fault, ticking_none}
use Rattle.fol_core.proofs.machine.Core.closing.Goals as goal

in_any_case : {T E P : Type 0} (r : Result T E) → P → OnOk r P
in_any_case (Ok x) p = p
in_any_case (Err e) p = tt

pub closing_of-requires-clause-stands : goal.closing_of-requires-clause-stands
closing_of-requires-clause-stands c = none_stands _ _ _ _ c.self.invariant.0 (rw (← c.self.view_is) at c.requires.none)

pub returns-in-Ok-clause-rests : goal.returns-in-Ok-clause-rests
returns-in-Ok-clause-rests c =
    let s = none_stands _ _ _ _ c.self.invariant.0 (rw (← c.self.view_is) at c.requires.none) in
    rw (← c.self.view_is) (in_any_case c.closing_of.result (ticking_none _ _ _ s c.in-Ok.live.items c.in-Ok.ensures.live c.in-Ok.ensures.calm))

pub returns-clause-fault : goal.returns-clause-fault
returns-clause-fault c =
    let s = none_stands _ _ _ _ c.self.invariant.0 (rw (← c.self.view_is) at c.requires.none) in
    rw (← c.self.view_is) (found_fault _ _ _ s c.in-Err.fault c.in-Err.ensures.fault)
