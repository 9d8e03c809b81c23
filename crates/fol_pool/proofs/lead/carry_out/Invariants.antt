use Rattle.std.proofs.Common.{◌≡◌, length}
use Rattle.std.specs.Prelude.{IsTrue}
use Rattle.std.specs.List.{list_all}
use Rattle.std.specs.Vec.Iter.{into_iter_items, into_iter_len}
use Rattle.fol_model.specs.IsScript.{is_command}
use Rattle.fol_pool.specs.Script.{Carries}
use Rattle.fol_pool.specs.Works.{IsBack, Rests, SameSeat}
use Rattle.fol_pool.proofs.lead.carry_out.Given as goal

-- the commands that are still to come are left to carry out
abbrev pub invariant-loop-command : goal.invariant-loop-command
invariant-loop-command g l = record {
  same : SameSeat l.initial.caller l.caller;
  worker : IsBack l.fn.worker l.worker;
  rests : Rests l.worker;
  counted : into_iter_len l.command-iterator ≡ length (into_iter_items l.command-iterator);
  carries : Carries l.caller (into_iter_items l.command-iterator) l.fn.commands.items;
  limits : IsTrue (list_all is_command (into_iter_items l.command-iterator));
}
