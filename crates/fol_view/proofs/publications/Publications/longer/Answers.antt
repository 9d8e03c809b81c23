use Rattle.std.proofs.Common.{◌≤◌, ◌∙◌, sym, ap, subst, arith, length, List}
use mathlib.Core.List.{IsPrefix}
use Rattle.fol_lock.specs.Log.{StartsWith}
use Rattle.fol_view.specs.Publications.{Publication}
use Rattle.fol_view.specs.Publications.{Listed}
use Rattle.fol_view.proofs.Prefixes.{prefix_shorter, starts}
use Rattle.fol_view.proofs.publications.Publications.longer.Goals as goal

pub returns-then-self-other-clause-this : goal.returns-then-self-other-clause-this
returns-then-self-other-clause-this c =
    let mine = c.self.inside.seen.log in
    let theirs = c.other.inside.seen.log in
    let both = c.learn.new.self.log in
    let this : IsPrefix mine both = subst (λ (l : List Publication). IsPrefix l both) (ap (λ s. s.log) c.again-both.ensures) c.learn.ensures.2 in
    let less : length mine ≤ length theirs = omega (arith, c.self.invariant.count_is, c.other.invariant.count_is) in
    subst (λ (x : Listed × Listed). StartsWith x.0.list x.1.list) (λ i. ((c.other.view_is ∙ sym c.again.ensures) i, c.self.view_is i)) (starts mine theirs (prefix_shorter mine theirs both this c.learn.ensures.3 less))

pub returns-clause-that : goal.returns-clause-that
returns-clause-that c =
    let mine = c.self.inside.seen.log in
    let theirs = c.other.inside.seen.log in
    let both = c.learn.new.self.log in
    let this : IsPrefix mine both = subst (λ (l : List Publication). IsPrefix l both) (ap (λ s. s.log) c.again-both.ensures) c.learn.ensures.2 in
    let less : length theirs ≤ length mine = omega (arith, c.self.invariant.count_is, c.other.invariant.count_is) in
    subst (λ (x : Listed × Listed). StartsWith x.0.list x.1.list) (λ i. ((c.self.view_is ∙ sym c.again-else-self-other.ensures) i, c.other.view_is i)) (starts theirs mine (prefix_shorter theirs mine both c.learn.ensures.3 this less))
