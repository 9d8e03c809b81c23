use Rattle.std.proofs.Common.{◌≡◌, ◌++◌, ◌∷◌, [], ◌+◌, List, map, subst, sym, take, ap, ◌∙◌, arith}
use Rattle.std.proofs.lemmas.List.{take_more}
use Rattle.fol_model.specs.declared.scripts.Command.{Command}
use Rattle.fol_model.specs.Texts.{command_row}
use Rattle.fol_script.specs.Shares.{LeadOn}
use Rattle.fol_script.proofs.InOrder.{command_leads}
use Rattle.fol_script.proofs.gathered.add_share.Goals as goal

pub loop-command-preserved : goal.loop-command-preserved
loop-command-preserved c =
    let items = c.deref-command-items.result.now in
    let n = c.loop-command.command-index in
    let more : take (n + 1) items ≡ take n items ++ c.command-item.result ∷ [] =
    take_more items n c.command-item.result (omega (arith, c.loop-command-test.true)) ∙ ap (λ (x : Command). take n items ++ x ∷ []) (sym c.command-item.is) in
    subst (λ (ys : List Command). LeadOn (map command_row (c.args.commands.now.items ++ ys)) c.follow.new.before) (sym more)
    (command_leads c.args.commands.now.items (take n items) c.command-item.result c.loop-command.before c.follow.new.before c.loop-command.invariant c.in_ok-follow.ensures)
