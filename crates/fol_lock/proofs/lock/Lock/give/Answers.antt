use Rattle.std.proofs.Common.{rules, ap, ◌∙◌, sym, subst, ◌∷◌, ◌≡◌, Some, None, [], cond}
use mathlib.Core.Option.{none}
use Rattle.atomic_table.specs.Table.{step, rest}
use Rattle.fol_lock.specs.Log.{given_by, Extends}
use Rattle.fol_lock.proofs.Logs.{given_by-grown}
use Rattle.fol_lock.proofs.Passes.{passes}
use Rattle.fol_lock.proofs.lock.Lock.give.Goals as goal

pub fetch_add-requires : goal.fetch_add-requires
fetch_add-requires g c =
    let is = c.seat.view_is in
    let sits = c.seat.invariant in
    let turn = ap (λ s. s.has_turn) is ∙ c.requires.seat.1 in
    let out = sits.out ∙ ap (λ t. cond t ((0, None) ∷ []) []) turn in
    let v = c.seat.inside.pass.me.0 in
    let x = c.args.turn.state in
    let extends = subst (λ s. Extends g.S.Kept.by s.number s.seen (g.S.Kept.log x)) (sym is) c.requires.log in
    let origin = ap (λ s. s.origin) is ∙ c.requires.origin in (
      search rules,
      search rules,
      passes _ _ _ _ _ (step 0 0 0 0 none) _ _ _ v x c.args.self.now.sized.1 (c.exchange.ensures.3 ∙ ap (λ l. (v, (0, Some x) ∷ rest l)) out) sits.live turn sits.alone extends origin,
    )

pub returns-clause-mine : goal.returns-clause-mine
returns-clause-mine g c =
    let by = g.S.Kept.by in
    let log = g.S.Kept.log in
    let is = c.seat.view_is in
    let x = c.args.turn.state in
    let sits = c.seat.invariant in
    let turn = ap (λ s. s.has_turn) is ∙ c.requires.seat.1 in
    let out = sits.out ∙ ap (λ t. cond t ((0, None) ∷ []) []) turn in
    let v = c.seat.inside.pass.me.0 in
    let now = c.exchange.ensures.3 ∙ ap (λ l. (v, (0, Some x) ∷ rest l)) out in
    let after = c.fetch_add.ensures.2 x (ap (λ m. m.1) now) in
    let known = subst (λ s. given_by by s.number s.seen ≡ s.mine) is (ap (λ n. given_by by n v.own.seen) sits.number_is ∙ sits.mine) in
    λ added goes_on. ap (λ m. m.0.own.mine) after ∙ (ap (λ m. given_by by m.0.own.number (log x)) now ∙ (ap (λ s. given_by by s.number (log x)) is
    ∙ given_by-grown by c.args.seat.now.number c.args.seat.now.seen (log x) c.args.seat.now.mine added known c.requires.log goes_on))
