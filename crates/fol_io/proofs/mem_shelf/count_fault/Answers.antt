use Rattle.std.proofs.Common.{refl, sym}
use Rattle.fol_io.proofs.FirstPlace.{find-no_position}
use Rattle.fol_io.proofs.Faults.{file_under-place, file_under-set, file_under-set_other}
use Rattle.fol_io.proofs.mem_shelf.count_fault.Goals as goal

pub returns-in-Some-clause-held : goal.returns-in-Some-clause-held
returns-in-Some-clause-held c =
    rw (file_under-place c.args.files.now c.args.name.now c.in-Some.place c.index-files-place.result c.in-Some.ensures) refl

pub returns-in-Some-clause-named : goal.returns-in-Some-clause-named
returns-in-Some-clause-named c =
    rw (file_under-place c.args.files.now c.args.name.now c.in-Some.place c.index-files-place.result c.in-Some.ensures, c.count_fault.ensures.counts)
    (file_under-set c.args.files.now c.args.name.now c.in-Some.place c.index-files-place.result c.in-Some.ensures)

pub returns-in-Some-clause-others : goal.returns-in-Some-clause-others
returns-in-Some-clause-others c = λ n differs.
    rw c.count_fault.ensures.counts
    (file_under-set_other c.args.files.now c.args.name.now n c.in-Some.place c.index-files-place.result c.in-Some.ensures differs)

pub returns-in-Some-clause-in_range : goal.returns-in-Some-clause-in_range
returns-in-Some-clause-in_range c =
    rw (file_under-place c.args.files.now c.args.name.now c.in-Some.place c.index-files-place.result c.in-Some.ensures) c.count_fault.ensures.in_range

pub returns-in-None-clause-held : goal.returns-in-None-clause-held
returns-in-None-clause-held c = rw (find-no_position _ c.args.files.now (sym c.in-None.ensures)) refl

pub returns-in-None-clause-named : goal.returns-in-None-clause-named
returns-in-None-clause-named c = rw (find-no_position _ c.args.files.now (sym c.in-None.ensures)) refl

pub returns-in-None-clause-in_range : goal.returns-in-None-clause-in_range
returns-in-None-clause-in_range c = rw (find-no_position _ c.args.files.now (sym c.in-None.ensures)) tt
