use Rattle.std.proofs.Common.{sym, ap, ◌∙◌, ◌≡◌, ◌-◌, length, Some}
use Rattle.std.specs.List.{slice_get}
use Rattle.std.specs.Ordering.{is_lt}
use Rattle.fol_script.proofs.Keeping.{below_last}
use Rattle.fol_script.proofs.kept.Kept.is_above.Goals as goal

pub returns-in-Some : goal.returns-in-Some
returns-in-Some g c = λ less up.
    let items = c.args.self.now.rising.items in
    let e : slice_get items (length items - 1) ≡ Some c.in-Some.last.now = rw c.deref.ensures.value at (sym c.in-Some.ensures.value) in
    below_last g.K.Ord.cmp g.met.K.Ord.total items c.in-Some.last.now c.args.key.now up e (ap is_lt (sym c.cmp.ensures) ∙ sym c.is_lt.ensures ∙ less)
