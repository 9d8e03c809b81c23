use Rattle.std.proofs.Common.{◌≡◌, ℕ, ◌+◌, ◌≤◌, sym, ◌∙◌, ap, subst, arith, List, [], ◌∷◌, ◌++◌, length, length-append, refl, Option, Some}
use Rattle.std.specs.Option.{unwrap_or}
use Rattle.std.specs.BTreeMap.{get}
use Rattle.fol_follow.specs.declared.asks.Row.{Row}
use Rattle.fol_follow.specs.Table.{AreLinked, pair_cmp, pending_by, visits_in}
use Rattle.fol_follow.proofs.Linking.{linked_added}
use Rattle.fol_follow.proofs.Numbers.{pair_put}
use Rattle.fol_follow.proofs.Pendings.{added_pending}
use Rattle.fol_follow.proofs.asks.Asks.add.Goals as goal

pub invariant_of-self-2 : goal.invariant_of-self-2
invariant_of-self-2 c =
    let counts : ℕ → Option ℕ = visits_in c.self.inside.counts.entries in
    let head : ℕ × ℕ → Option ℕ = get pair_cmp c.self.inside.heads in
    let heads : ℕ × ℕ → Option ℕ = get pair_cmp c.insert.new.self in
    let rows : List Row = c.self.inside.rows.items in
    let row : Row = record { entity = c.args.entity; due = c.count.result + c.from.result; before = c.head-before.result } in
    let known = rw (← c.self.view_is) at c.requires.known in
    let count = rw (← c.self.view_is) at c.count.ensures in
    let last = rw (← c.self.view_is) at c.head-before.ensures in
    let near : c.count.result + c.from.result ≤ unwrap_or (counts c.args.entity) 0 + 1000000 = omega (arith, count, c.from.ensures, c.requires.delay.1) in
    let number : Some (c.len.result + 1) ≡ Some (length rows + 1) = ap (λ (n : ℕ). Some (n + 1)) (c.len.ensures ∙ c.self.inside.rows.ok.0) in
    let P : List Row → Type 0 = λ xs. AreLinked counts heads xs in
    subst P (sym (c.push_reserved.ensures.items ∙ ap (λ (xs : List Row). xs ++ row ∷ []) c.reserve.ensures.items))
    (linked_added counts head heads rows row c.self.invariant known near last (pair_put heads head c.args.entity (c.count.result + c.from.result) _ _ number c.in_ok-insert.ensures.updates.0))

pub returns-clause-answer : goal.returns-clause-answer
returns-clause-answer c =
    let rows : List Row = c.self.inside.rows.items in
    let row : Row = record { entity = c.args.entity; due = c.count.result + c.from.result; before = c.head-before.result } in
    let count : ℕ → ℕ = λ id. unwrap_or (visits_in c.self.inside.counts.entries id) 0 in
    let known = rw (← c.self.view_is) at c.requires.known in
    let counted : c.count.result ≡ count c.args.entity = rw (← c.self.view_is) at c.count.ensures in
    let due : c.count.result + c.from.result ≡ count c.args.entity + c.args.delay = omega (arith, counted, c.from.ensures) in
    let is : c.push_reserved.new.self.items ≡ rows ++ row ∷ [] = c.push_reserved.ensures.items ∙ ap (λ (xs : List Row). xs ++ row ∷ []) c.reserve.ensures.items in
    let many : length c.push_reserved.new.self.items ≡ length rows + 1 = ap length is ∙ length-append rows (row ∷ []) in
    rw (← c.self.view_is) (
      known,
      ap (λ (n : ℕ). n + 1) (c.len.ensures ∙ c.self.inside.rows.ok.0),
      refl,
      many,
      ap (pending_by count) is ∙ added_pending count rows c.args.entity (c.count.result + c.from.result) c.args.delay c.head-before.result due c.requires.delay.0,
    )
