use Rattle.std.proofs.Common.{◌≡◌, ℕ, ◌+◌, ◌<◌, ◌≤◌, ◌^◌, sym, ◌∙◌, ap, subst, arith, List, [], ◌∷◌, ◌++◌, length}
use Rattle.std.specs.Vec.{vec_capacity}
use Rattle.fol_model.specs.declared.openings.Opening.{Opening}
use Rattle.fol_follow.specs.declared.entries.Asked.{Asked}
use Rattle.fol_follow.specs.declared.entries.BookEvent.TheVariants.{Ask}
use Rattle.fol_follow.specs.declared.entries.BookEntry.{BookEntry}
use Rattle.fol_follow.specs.Kept.{Keeps}
use Rattle.fol_follow.specs.Visits.{IsRun, answer_to, book_after}
use Rattle.fol_follow.proofs.Keeping.{entry, keeps_ask, rows_answered}
use Rattle.fol_follow.proofs.ledger.Ledger.ask.Goals as goal

-- the history and the tables after the ask
kept : (c : goal.After-push_reserved) → Keeps c.self.inside.opening.value c.push_reserved.new.self.items c.ask.new.self c.self.inside.made
kept c =
    let h : List BookEntry = c.self.inside.history.items in
    let e : BookEntry = entry c.args.by (Ask c.args.entity c.args.delay c.in_ok-answer.answer) in
    let few : length h < 2 ^ 50 = omega (arith, c.in_ok-reserve_entry.ensures.few, c.reserve_entry.new.history.ok.0, ap length c.reserve_entry.ensures.same) in
    let P : List BookEntry → Type 0 = λ es. Keeps c.self.inside.opening.value es c.ask.new.self c.self.inside.made in
    subst P (sym (c.push_reserved.ensures.items ∙ ap (λ (es : List BookEntry). es ++ e ∷ []) c.reserve_entry.ensures.same))
    (keeps_ask c.self.inside.opening.value h c.self.inside.asks c.self.inside.made c.self.invariant.0 c.args.by c.args.entity c.args.delay c.ask.new.self c.in_ok-answer.answer c.in_ok-answer.ensures.answer c.requires.delay.0 c.requires.delay.1 few).0

-- src/ledger.rt:75:5
pub invariant_of-self-2 : goal.invariant_of-self-2
invariant_of-self-2 c =
    let more = rows_answered c.self.inside.asks c.ask.new.self c.args.entity c.args.delay c.in_ok-answer.answer c.in_ok-answer.ensures.answer in
    let room : length c.ask.new.self.rows ≤ vec_capacity c.reserve.new.self = omega (arith, more, c.len.ensures, c.in_ok-reserve.ensures.ok) in
    (kept c, c.reserve.ensures.items ∙ c.self.invariant.1, room)

-- src/ledger.rt:75:5
pub returns-clause-after : goal.returns-clause-after
returns-clause-after c = (kept c).run
