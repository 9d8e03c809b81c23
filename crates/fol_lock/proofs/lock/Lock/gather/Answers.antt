use Rattle.std.proofs.Common.{rules, ap, ◌∙◌, ◌∷◌, [], ◌++◌, ◌≡◌, append_assoc, Some, length, arith}
use Rattle.std.proofs.lemmas.List.Elements.{All-pop, All-same}
use Rattle.fol_lock.specs.Seat.{IsIdle}
use Rattle.fol_lock.specs.Pass.{HasClaim}
use Rattle.fol_lock.proofs.Gathers.{gathers}
use Rattle.fol_lock.proofs.Closes.{apart, first_gathered, one_more_gathered, no_items}
use Rattle.fol_lock.proofs.lock.Lock.gather.Goals as goal

pub loop-seat-init : goal.loop-seat-init
loop-seat-init g c =
    let lock = c.args.self.now.table.shared.table_id in
    let last = c.in-Some.last in
    let idle = All-pop (IsIdle lock) _ _ (Some last) c.in-Some.ensures.items c.requires.idle in
    let a = apart g.S.Kept.by lock _ _ _ last c.last.invariant c.last.view_is idle.1 in record {
      table = a.table_is;
      gathers = a.gathers;
      idle = idle.0;
      taken = (last ∷ [], c.in-Some.ensures.items, first_gathered c.last.inside.pass.me last a.own);
    }

pub join_seat-requires : goal.join_seat-requires
join_seat-requires g c =
    let lock = c.args.self.now.table.shared.table_id in
    let seat = c.in-Some-pop.seat in
    let inv = c.loop-seat.invariant in
    let idle = All-pop (IsIdle lock) _ _ (Some seat) c.in-Some-pop.ensures.items inv.idle in
    let a = apart g.S.Kept.by lock _ _ _ seat c.seat.invariant c.seat.view_is idle.1 in (
      inv.table,
      a.table_is,
      a.gathers.nothing_out,
      search rules,
      gathers _ _ _ _ _ _ _ _ _ inv.gathers.live a.gathers.live a.gathers.draws a.gathers.no_turn,
    )

pub loop-seat-preserved : goal.loop-seat-preserved
loop-seat-preserved g c =
    let lock = c.args.self.now.table.shared.table_id in
    let inv = c.loop-seat.invariant in
    let seat = c.in-Some-pop.seat in
    let idle = All-pop (IsIdle lock) _ _ (Some seat) c.in-Some-pop.ensures.items inv.idle in
    let a = apart g.S.Kept.by lock _ _ _ seat c.seat.invariant c.seat.view_is idle.1 in
    let rest = inv.taken.0 in
    let more = one_more_gathered c.loop-seat.gathered.me c.join_seat.new.seat.me c.seat.inside.pass.me.0 seat rest c.join_seat.ensures.2 a.own inv.gathers inv.taken.2 in record {
      table = c.join_seat.ensures.0 ∙ inv.table;
      gathers = more.0;
      idle = idle.0;
      taken = (seat ∷ rest, inv.taken.1 ∙ (ap (λ xs. xs ++ rest) c.in-Some-pop.ensures.items ∙ append_assoc _ (seat ∷ []) rest), more.1);
    }

pub returns-clause-claims : goal.returns-clause-claims
returns-clause-claims g c =
    let taken = c.loop-seat.invariant.taken in
    let empty : c.loop-seat.seats.items ≡ [] = no_items _ (let none : length c.loop-seat.seats.items ≡ 0 = grind (arith, c.in_default-pop.ensures.cases.0) in none) in
    All-same (HasClaim c.loop-seat.gathered.me.0) _ taken.0 (taken.1 ∙ ap (λ xs. xs ++ taken.0) empty) taken.2
