use Rattle.std.proofs.Common.{◌≡◌, ◌≤◌, true, false, is_some, refl, sym, ◌∙◌, arith}
use Rattle.std.specs.Vec.{with_items}
use Rattle.std.proofs.lemmas.List.{with_items_is}
use Rattle.fol_io.specs.NamedBytes.{file_under}
use Rattle.fol_io.specs.contracts.mem_shelf.MemShelf.{the_view}
use Rattle.fol_io.proofs.Faults.{CountsFault, faults_under-fault, faults_under-rises, held_under-fault}
use Rattle.fol_io.proofs.mem_shelf.MemShelf.fail.Goals as goal

-- where the name is not held, the count of all such names is one more
fault_of_unheld : (c : goal.After-self-then-not-count_fault-1) → CountsFault (the_view c.self.inside) (the_view (record c.self.inside { files = with_items c.self.inside.files c.count_fault.new.files; unheld_faults = c.saturating_add-self-inside.result })) c.args.name.now
fault_of_unheld c =
    let unheld : is_some (file_under c.self.inside.files.items c.args.name.now) ≡ false = rw c.as_mut_slice.ensures.value at (sym c.count_fault.ensures.held ∙ c.if-not-count_fault.true) in
    let files = with_items_is c.self.inside.files c.count_fault.new.files (omega (arith, c.count_fault.auto.files, c.as_mut_slice.ensures.len)) in
    record {
      named = rw files (rw c.as_mut_slice.ensures.value at c.count_fault.ensures.named);
      others = λ n differs. rw files (rw c.as_mut_slice.ensures.value at (c.count_fault.ensures.others n differs));
      unheld = rw unheld c.saturating_add-self-inside.ensures;
    }

-- where it is held, that of its file is
fault_of_held : (c : goal.Else-not-count_fault) → CountsFault (the_view c.self.inside) (the_view (record c.self.inside { files = with_items c.self.inside.files c.count_fault.new.files })) c.args.name.now
fault_of_held c =
    let held : is_some (file_under c.self.inside.files.items c.args.name.now) ≡ true = rw c.as_mut_slice.ensures.value at (sym c.count_fault.ensures.held ∙ c.if-not-count_fault.false) in
    let files = with_items_is c.self.inside.files c.count_fault.new.files (omega (arith, c.count_fault.auto.files, c.as_mut_slice.ensures.len)) in
    record {
      named = rw files (rw c.as_mut_slice.ensures.value at c.count_fault.ensures.named);
      others = λ n differs. rw files (rw c.as_mut_slice.ensures.value at (c.count_fault.ensures.others n differs));
      unheld = rw held refl;
    }

pub returns-then-not-count_fault-clause-counts : goal.returns-then-not-count_fault-clause-counts
returns-then-not-count_fault-clause-counts c =
    rw (← c.self.view_is) (faults_under-fault _ _ c.args.name.now (fault_of_unheld c))

pub returns-then-not-count_fault-clause-faults_never_fall : goal.returns-then-not-count_fault-clause-faults_never_fall
returns-then-not-count_fault-clause-faults_never_fall c =
    let rises : c.self.inside.unheld_faults ≤ c.saturating_add-self-inside.result = omega (arith, c.saturating_add-self-inside.ensures) in
    rw (← c.self.view_is) (faults_under-rises _ _ c.args.name.now (fault_of_unheld c) rises (rw c.as_mut_slice.ensures.value at c.count_fault.ensures.in_range))

pub returns-then-not-count_fault-clause-holds_the_same : goal.returns-then-not-count_fault-clause-holds_the_same
returns-then-not-count_fault-clause-holds_the_same c =
    rw (← c.self.view_is) (held_under-fault _ _ c.args.name.now (fault_of_unheld c))

pub returns-else-not-count_fault-clause-counts : goal.returns-else-not-count_fault-clause-counts
returns-else-not-count_fault-clause-counts c =
    rw (← c.self.view_is) (faults_under-fault _ _ c.args.name.now (fault_of_held c))

pub returns-else-not-count_fault-clause-faults_never_fall : goal.returns-else-not-count_fault-clause-faults_never_fall
returns-else-not-count_fault-clause-faults_never_fall c =
    rw (← c.self.view_is) (faults_under-rises _ _ c.args.name.now (fault_of_held c) (omega arith) (rw c.as_mut_slice.ensures.value at c.count_fault.ensures.in_range))

pub returns-else-not-count_fault-clause-holds_the_same : goal.returns-else-not-count_fault-clause-holds_the_same
returns-else-not-count_fault-clause-holds_the_same c =
    rw (← c.self.view_is) (held_under-fault _ _ c.args.name.now (fault_of_held c))
