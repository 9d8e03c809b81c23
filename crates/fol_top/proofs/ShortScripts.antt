-- The entities that a script sends have numbers of 32 bits.
use Rattle.std.proofs.Common.{◌≡◌, ℕ, ◌<◌, true, List, [], ◌∷◌, arith}
use Rattle.std.specs.Prelude.{◌^◌, ◌&&◌, nat_le}
use Rattle.std.specs.List.{list_all}
use Rattle.std.proofs.lemmas.Bool.{and_parts}
use Rattle.std.proofs.lemmas.Bool.Decides.{nat_tests}
use Rattle.fol_model.specs.declared.actions.Action.{Action}
use Rattle.fol_model.specs.declared.scripts.Command.{Command}
use Rattle.fol_model.specs.declared.scripts.Command.TheVariants as commands
use Rattle.fol_model.specs.Deed.{Plain, send}
use Rattle.fol_model.specs.Geometry.{is_chunk}
use Rattle.fol_model.specs.IsScript.{is_command, is_line_action, sends_entity}
use Rattle.fol_model.specs.Limits.{is_count, is_deed, is_delay, is_entity_id, is_simple}
use Rattle.fol_model.specs.Nesting.{deed_of}
use Rattle.fol_events.specs.InRange.{PlainInRange}
use Rattle.fol_check.specs.Laws.{CommandIsShort, IsShortScript}

id_short : (id : ℕ) → is_entity_id id ≡ true → id < 2 ^ 32
unfolding is_entity_id
id_short id within = let parts = and_parts (nat_le 1 id) (nat_le id 1000000000) within in grind (arith, nat_tests)

plain_short : (p : Plain) → sends_entity p ≡ true → PlainInRange p
plain_short (send id to) within = id_short id within
plain_short _ within = tt

action_short : (a : Action) → is_line_action a ≡ true → PlainInRange (deed_of a).plain
action_short a within = plain_short (deed_of a).plain (and_parts (is_deed (deed_of a) && is_simple (deed_of a)) (sends_entity (deed_of a).plain) within).1

command_short : (c : Command) → is_command c ≡ true → CommandIsShort c
command_short (commands.Post c d a) within = action_short a (and_parts (is_chunk c && is_delay d) (is_line_action a) within).1
command_short (commands.Every c d p n a) within = action_short a (and_parts ((is_chunk c && is_delay d) && (is_delay p && is_count n)) (is_line_action a) within).1
command_short _ within = tt

pub script_short : (cs : List Command) → list_all is_command cs ≡ true → IsShortScript cs
script_short [] within = tt
script_short (c ∷ cs) within = let parts = and_parts (is_command c) (list_all is_command cs) within in (command_short c parts.0, script_short cs parts.1)
