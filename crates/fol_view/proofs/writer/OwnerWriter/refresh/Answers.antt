use Rattle.std.proofs.Common.{rules, ◌≡◌, ◌∙◌, sym, ap, subst, [], Option, Some}
use Rattle.fol_live.specs.Goes.{Does}
use Rattle.fol_view.specs.Publications.{Publication, publication_of}
use Rattle.fol_view.specs.Boards.{Showing, showing}
use Rattle.fol_view.specs.Rows.{AreInOrder}
use Rattle.fol_view.specs.Writing.{Writing}
use Rattle.fol_view.proofs.Order.{in_order}
use Rattle.fol_view.proofs.Showing.{follows, grown, is_now, kept, still, went_on}
use Rattle.fol_view.proofs.writer.OwnerWriter.refresh.Goals as goal

pub of-requires : goal.of-requires
of-requires g c = subst AreInOrder (sym c.in_ok-owners.ensures.rows) (in_order _)

pub returns-in_err-owners-clause-does : goal.returns-in_err-owners-clause-does
returns-in_err-owners-clause-does g c = subst (λ (w : Writing). Does w.seat c.owner_rows.new.seat []) c.self.view_is (went_on c.owner_rows.ensures)

pub returns-in_err-publication-clause-does : goal.returns-in_err-publication-clause-does
returns-in_err-publication-clause-does g c = subst (λ (w : Writing). Does w.seat c.owner_rows.new.seat []) c.self.view_is (went_on c.owner_rows.ensures)

pub returns-in_err-copy-clause-does : goal.returns-in_err-copy-clause-does
returns-in_err-copy-clause-does g c = subst (λ (w : Writing). Does w.seat c.owner_rows.new.seat []) c.self.view_is (went_on c.owner_rows.ensures)

pub returns-then-len-ge-MOST_PUBLICATIONS-clause-does : goal.returns-then-len-ge-MOST_PUBLICATIONS-clause-does
returns-then-len-ge-MOST_PUBLICATIONS-clause-does g c = subst (λ (w : Writing). Does w.seat c.owner_rows.new.seat []) c.self.view_is (went_on c.owner_rows.ensures)

pub returns-clause-does : goal.returns-clause-does
returns-clause-does g c = subst (λ (w : Writing). Does w.seat c.owner_rows.new.seat []) c.self.view_is (went_on c.owner_rows.ensures)

pub invariant_of-self : goal.invariant_of-self
invariant_of-self g c = kept c.self.inside.seat c.owner_rows.new.seat c.self.inside.all c.self.inside.front _ _ (went_on c.owner_rows.ensures) c.self.invariant

pub invariant_of-self-in_err-publication : goal.invariant_of-self-in_err-publication
invariant_of-self-in_err-publication g c = kept c.self.inside.seat c.owner_rows.new.seat c.self.inside.all c.self.inside.front _ _ (went_on c.owner_rows.ensures) c.self.invariant

pub invariant_of-self-in_err-copy : goal.invariant_of-self-in_err-copy
invariant_of-self-in_err-copy g c = kept c.self.inside.seat c.owner_rows.new.seat c.self.inside.all c.self.inside.front _ _ (went_on c.owner_rows.ensures) c.self.invariant

pub invariant_of-self-then-len-ge-MOST_PUBLICATIONS : goal.invariant_of-self-then-len-ge-MOST_PUBLICATIONS
invariant_of-self-then-len-ge-MOST_PUBLICATIONS g c = kept c.self.inside.seat c.owner_rows.new.seat c.self.inside.all c.self.inside.front _ _ (went_on c.owner_rows.ensures) c.self.invariant

pub add-all-requires-clause-next : goal.add-all-requires-clause-next
add-all-requires-clause-next g c =
    let t = c.owner_rows.new.seat in
    let copy = c.in_ok-copy.ensures in
    let front = ap (λ (p : Publication). p.front) copy ∙ (c.in_ok-publication.ensures.front ∙ c.in_ok-owners.ensures.front) in
    let rows = ap (λ (p : Publication). p.rows) copy ∙ (c.in_ok-publication.ensures.rows ∙ c.in_ok-owners.ensures.rows) in
    follows t c.self.inside.all.list c.in_ok-copy.copy (still c.self.inside.seat t c.self.inside.all.list (went_on c.owner_rows.ensures) c.self.invariant.each) (is_now t c.in_ok-copy.copy front rows)

pub invariant_of-self-2 : goal.invariant_of-self-2
invariant_of-self-2 g c =
    let t = c.owner_rows.new.seat in
    let copy = c.in_ok-copy.ensures in
    let front = ap (λ (p : Publication). p.front) copy ∙ (c.in_ok-publication.ensures.front ∙ c.in_ok-owners.ensures.front) in
    let rows = ap (λ (p : Publication). p.rows) copy ∙ (c.in_ok-publication.ensures.rows ∙ c.in_ok-owners.ensures.rows) in
    let added = c.add-all.ensures in
    let shown : c.replace_with.new.dest.desk.shown.value ≡ Some (showing c.add-all.result c.in_ok-publication.publication) = search rules in
    grown c.self.inside.seat t c.self.inside.all c.add-all.new.all c.self.inside.front _ _ _ c.in_ok-copy.copy (went_on c.owner_rows.ensures) c.self.invariant (is_now t c.in_ok-copy.copy front rows)
    added.book added.list (shown ∙ (λ i. Some (showing (added.copy i) (sym copy i)))) c.front-front.result (c.front-front.ensures ∙ sym (ap (λ (p : Publication). p.front) copy))
