use Rattle.std.proofs.Common.{◌≡◌, ℕ, ◌≤◌, Bool, ◌&&◌, sym, ◌∙◌, ap, arith, length}
use Rattle.std.proofs.lemmas.Bool.{and_parts}
use Rattle.fol_split.specs.Runs.{is_left_at, is_met_in, run_at}
use Rattle.fol_split.proofs.Taking.{none-passed, takes_none, takes_next, keeps_next, takes_all}
use Rattle.fol_split.proofs.runs.Runs.take_each.Goals as goal
use Rattle.fol_split.proofs.runs.Runs.take_each.Goals.{then-is_met_in, else-is_met_in}

pub loop-k-init : goal.loop-k-init
loop-k-init c =
    takes_none c.args.self.now _ (λ k _. none-passed (λ j. is_met_in c.args.window.z c.args.rows c.args.window.from c.args.window.to (run_at c.args.self.now.runs j)) k)

pub loop-k-preserved : goal.loop-k-preserved
loop-k-preserved c =
    let test : ℕ → Bool = λ j. is_met_in c.args.window.z c.args.rows c.args.window.from c.args.window.to (run_at c.args.self.now.runs j) in
    let inv = c.loop-k.invariant in
    let told : c.is_met_in.result ≡ (is_left_at c.loop-k.self c.loop-k.k && test c.loop-k.k) =
    c.is_met_in.ensures
    ∙ ap (λ rs. is_left_at c.loop-k.self c.loop-k.k && is_met_in c.args.window.z c.args.rows c.args.window.from c.args.window.to (run_at rs c.loop-k.k)) inv.runs in
    elim c.if-is_met_in.branch [
      | then-is_met_in w ↦
          let passes = (and_parts (is_left_at c.loop-k.self c.loop-k.k) (test c.loop-k.k) (sym told ∙ w.if-is_met_in.true)).1 in
          rw w.self-is (takes_next test c.args.self.now c.loop-k.self w.take.new.self c.loop-k.k inv passes w.take.ensures)
      | else-is_met_in w ↦ rw w.self-is (keeps_next test c.args.self.now c.loop-k.self c.loop-k.k inv (sym told ∙ w.if-is_met_in.false))
    ]

pub returns : goal.returns
returns c =
    let all : length c.args.self.now.left ≤ c.loop-k.k = rw (← c.self.view_is) (omega (arith, c.self.invariant.0.flags)) in
    takes_all (λ j. is_met_in c.args.window.z c.args.rows c.args.window.from c.args.window.to (run_at c.args.self.now.runs j))
    c.args.self.now c.loop-k.self c.loop-k.k all c.loop-k.invariant
