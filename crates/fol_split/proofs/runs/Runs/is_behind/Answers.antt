use Rattle.std.proofs.Common.{◌≡◌, ◌+◌, ◌-◌, ◌∙◌, sym, refl, ap, arith, length}
use Rattle.fol_split.specs.Runs.{run_at, ends_before}
use Rattle.fol_split.proofs.Adding.{behind-none, behind-gives, behind-from, no-runs}
use Rattle.fol_split.proofs.RunLists.{same_at}
use Rattle.fol_split.proofs.runs.Runs.is_behind.Goals as goal

pub returns-then-n-eq0 : goal.returns-then-n-eq0
returns-then-n-eq0 c =
    let none = no-runs c.self.inside.runs.items (omega (arith, c.len-n.ensures, c.if-n-eq0.true)) in
    rw (← c.self.view_is) ((λ h. behind-none c.self.inside.runs.items c.args.run c.self.invariant.0.sound c.requires none), (λ h. refl))

pub returns : goal.returns
returns c =
    let runs = c.self.inside.runs.items in
    let sound = c.self.invariant.0.sound in
    let last : (c.len-n.result - 1) + 1 ≡ length runs = omega arith in
    let there = c.index.ensures ∙ same_at runs (c.len-n.result - 1) _ _ (omega arith) in
    let told : c.ends_before.result ≡ ends_before c.args.run.z c.args.run.from (run_at runs (c.len-n.result - 1)) = c.ends_before.ensures ∙ ap (ends_before c.args.run.z c.args.run.from) there in
    rw (← c.self.view_is) (
      (λ h. behind-gives runs c.args.run sound c.requires (c.len-n.result - 1) last (sym told ∙ h)),
      (λ h. told ∙ behind-from runs c.args.run sound c.requires (c.len-n.result - 1) last h),
    )
