use Rattle.std.proofs.Common.{◌≡◌, ℕ, ◌+◌, ◌<◌, ◌≤◌, ◌^◌, Bool, true, false, refl, sym, ◌∙◌, ap, subst, arith, List, [], ◌∷◌, ◌++◌, length, get_or, Option}
use Rattle.std.specs.Option.{is_some}
use Rattle.std.specs.BTreeSet.{contains}
use Rattle.std.specs.Vec.{vec_capacity}
use Rattle.fol_model.specs.declared.openings.Opening.{Opening}
use Rattle.fol_follow.specs.declared.entries.EntityAt.{EntityAt}
use Rattle.fol_follow.specs.declared.entries.Visit as rows
use Rattle.fol_follow.specs.declared.entries.BookEvent.TheVariants.{Visit}
use Rattle.fol_follow.specs.declared.entries.BookEntry.{BookEntry}
use Rattle.fol_follow.specs.Here.{AreKnown}
use Rattle.fol_follow.specs.Kept.{Keeps}
use Rattle.fol_follow.specs.Visits.{AreVisits, Pending, has_visit, lowered}
use Rattle.fol_follow.specs.Table.{pair_cmp, pending, visits_in}
use Rattle.fol_follow.proofs.Heres.{among, are_here, known_here}
use Rattle.fol_follow.proofs.Keeping.{entry, keeps_visit, visited_is}
use Rattle.fol_follow.proofs.Numbers.{pair_added}
use Rattle.fol_follow.proofs.ledger.Ledger.visit.Goals as goal

-- src/ledger.rt:114:13
pub returns-then-contains-clause-recorded : goal.returns-then-contains-clause-recorded
returns-then-contains-clause-recorded c =
    let told : has_visit c.self.inside.history.items c.args.tick.now.region c.args.tick.now.begun ≡ true =
    sym (visited_is c.self.inside.opening.value c.self.inside.history.items c.self.inside.asks c.self.inside.made c.self.invariant.0 c.args.tick.now.region c.args.tick.now.begun) ∙ sym c.contains.ensures ∙ c.if-contains.true in
    rw (← c.self.view_is) (told, record { opening = refl; history = refl })

-- src/ledger.rt:120:20
pub due-requires-clause-order : goal.due-requires-clause-order
due-requires-clause-order c =
    let has : ℕ → Bool = λ id. is_some (visits_in c.self.inside.asks.counts id) in
    rw c.deref.ensures.value (known_here c.self.inside.opening.value has c.self.invariant.0.known c.as_slice.result.now c.in_ok-here.here.items c.in_ok-here.ensures (rw c.as_slice.ensures.value c.in_ok-standing.ensures.order)).order

-- src/ledger.rt:123:9
pub lower-requires-clause-order : goal.lower-requires-clause-order
lower-requires-clause-order c =
    let has : ℕ → Bool = λ id. is_some (visits_in c.self.inside.asks.counts id) in
    rw c.deref-3.ensures.value (known_here c.self.inside.opening.value has c.self.invariant.0.known c.as_slice.result.now c.in_ok-here.here.items c.in_ok-here.ensures (rw c.as_slice.ensures.value c.in_ok-standing.ensures.order)).order

-- src/ledger.rt:123:9
pub lower-requires-clause-known : goal.lower-requires-clause-known
lower-requires-clause-known c =
    let has : ℕ → Bool = λ id. is_some (visits_in c.self.inside.asks.counts id) in
    let known = known_here c.self.inside.opening.value has c.self.invariant.0.known c.as_slice.result.now c.in_ok-here.here.items c.in_ok-here.ensures (rw c.as_slice.ensures.value c.in_ok-standing.ensures.order) in
    rw c.deref-3.ensures.value (λ k d l. c.self.invariant.0.known (get_or c.in_ok-here.here.items k d).id ∙ known.known k d l)

-- the history and the tables after the visit
kept : (c : goal.After-drop-standing-2) → Keeps c.self.inside.opening.value c.push_reserved.new.self.items c.lower.new.self c.insert.new.self
kept c =
    let h : List BookEntry = c.self.inside.history.items in
    let e : BookEntry = entry c.args.by (Visit c.args.tick.now.region c.args.tick.now.begun c.of.result c.of-2.result) in
    let has : ℕ → Bool = λ id. is_some (visits_in c.self.inside.asks.counts id) in
    let known = known_here c.self.inside.opening.value has c.self.invariant.0.known c.as_slice.result.now c.of.result (c.of.ensures ∙ c.in_ok-here.ensures) (rw c.as_slice.ensures.value c.in_ok-standing.ensures.order) in
    let few : length h < 2 ^ 50 = omega (arith, c.in_ok-reserve_entry.ensures.few, c.reserve_entry.new.history.ok.0, ap length c.reserve_entry.ensures.same) in
    let D : List EntityAt → Type 0 = λ xs. AreVisits (pending c.self.inside.asks) xs c.in_ok-made.made.items in
    let E : List rows.Visit → Type 0 = λ vs. AreVisits (pending c.self.inside.asks) c.of.result vs in
    let due = subst E (sym (c.of-2.ensures ∙ c.in_ok-visits.ensures.items ∙ c.deref-2.ensures.value)) (subst D (c.deref.ensures.value ∙ sym c.of.ensures) c.in_ok-made.ensures) in
    let L : List EntityAt → Type 0 = λ xs. pending c.lower.new.self ≡ (λ n. lowered xs (pending c.self.inside.asks n)) in
    let asks = subst L (c.deref-3.ensures.value ∙ sym c.of.ensures) c.lower.ensures.asks in
    let P : List BookEntry → Type 0 = λ es. Keeps c.self.inside.opening.value es c.lower.new.self c.insert.new.self in
    subst P (sym (c.push_reserved.ensures.items ∙ ap (λ (es : List BookEntry). es ++ e ∷ []) c.reserve_entry.ensures.same))
    (keeps_visit c.self.inside.opening.value h c.self.inside.asks c.self.inside.made c.self.invariant.0 c.args.by c.args.tick.now.region c.args.tick.now.begun c.of.result c.of-2.result c.lower.new.self c.insert.new.self
    (sym c.contains.ensures ∙ c.if-contains.false) known due few c.lower.ensures.rows asks c.lower.ensures.known c.lower.ensures.counts
    (pair_added (contains pair_cmp c.insert.new.self) (contains pair_cmp c.self.inside.made) c.args.tick.now.region c.args.tick.now.begun c.in_ok-insert.ensures.updates.0))

-- src/ledger.rt:99:5
pub invariant_of-self-2 : goal.invariant_of-self-2
invariant_of-self-2 c =
    let same : c.lower.new.self.rows ≡ c.self.inside.asks.rows = c.lower.ensures.rows in
    let room : length c.lower.new.self.rows ≤ vec_capacity c.self.inside.left = rw same c.self.invariant.2 in
    (kept c, c.self.invariant.1, room)

-- src/ledger.rt:99:5
pub returns-clause-after : goal.returns-clause-after
returns-clause-after c = (kept c).run

-- src/ledger.rt:99:5
pub returns-clause-recorded : goal.returns-clause-recorded
returns-clause-recorded c =
    let h : List BookEntry = c.self.inside.history.items in
    let e : BookEntry = entry c.args.by (Visit c.args.tick.now.region c.args.tick.now.begun c.of.result c.of-2.result) in
    let has : ℕ → Bool = λ id. is_some (visits_in c.self.inside.asks.counts id) in
    let fresh : has_visit h c.args.tick.now.region c.args.tick.now.begun ≡ false =
    sym (visited_is c.self.inside.opening.value h c.self.inside.asks c.self.inside.made c.self.invariant.0 c.args.tick.now.region c.args.tick.now.begun) ∙ sym c.contains.ensures ∙ c.if-contains.false in
    let here = are_here c.self.inside.opening.value has c.self.invariant.0.known c.args.tick.now c.as_slice.result.now c.of.result (c.of.ensures ∙ c.in_ok-here.ensures) (rw c.as_slice.ensures.value c.in_ok-standing.ensures.order) (rw c.as_slice.ensures.value c.in_ok-standing.ensures.standing) in
    let same : c.of-2.result ≡ c.of-3.result = c.of-2.ensures ∙ c.in_ok-visits.ensures.items ∙ c.deref-2.ensures.value ∙ sym c.of-3.ensures in
    let grown : c.push_reserved.new.self.items ≡ h ++ entry c.args.by (Visit c.args.tick.now.region c.args.tick.now.begun c.of.result c.of-3.result) ∷ [] =
    c.push_reserved.ensures.items
    ∙ ap (λ (es : List BookEntry). es ++ e ∷ []) c.reserve_entry.ensures.same
    ∙ ap (λ (vs : List rows.Visit). h ++ entry c.args.by (Visit c.args.tick.now.region c.args.tick.now.begun c.of.result vs) ∷ []) same in
    rw (← c.self.view_is) (fresh, (c.of.result, here, record { opening = refl; history = grown }))
