-- The made script as commands, and what its text has to do with them.
use Rattle.std.specs.Prelude.{◌≡◌, ℕ, pos, ◌+◌, ◌*◌, ◌%◌, List, [], ◌∷◌, ◌++◌, map, flat_map}
use Rattle.fol_model.specs.declared.places.ChunkPos.{ChunkPos}
use Rattle.fol_model.specs.declared.actions.Action.TheVariants as action
use Rattle.fol_model.specs.declared.scripts.Command.{Command}
use Rattle.fol_model.specs.declared.scripts.Command.TheVariants as command
use Rattle.fol_model.specs.Universe.{numbers_below}
use Rattle.fol_model.specs.IsScript.{IsScript}
use Rattle.fol_model.specs.TextRows.{row_words}
use Rattle.fol_model.specs.Texts.{command_row}
use Rattle.fol_gen.specs.MadeTexts.{script_lines}

-- the chunk (x, 0)
abbrev pub chunk_at : ℕ → ChunkPos
chunk_at x = record { x = pos x; z = pos 0 }

-- in the first chunk of cluster i, after j + 1 ticks, the block at place j gets a number
abbrev pub post_command : ℕ → ℕ → Command
post_command i j = command.Post (chunk_at (12 * i)) (j + 1) (action.Set (record { x = pos (192 * i + j); y = pos 64; z = pos 0 }) (1 + (4 * i + j) % 60000))

abbrev pub cluster_commands : ℕ → List Command
cluster_commands i = command.Load (chunk_at (12 * i)) ∷ command.Load (chunk_at (12 * i + 3)) ∷ command.Load (chunk_at (12 * i + 6)) ∷ map (post_command i) (numbers_below 4)

abbrev pub unload_command : ℕ → Command
unload_command i = command.Unload (chunk_at (12 * i + 3))

-- a phase of so many ticks
abbrev pub phase : ℕ → List Command
phase ticks = command.Run ticks ∷ command.End ∷ []

-- what the script of n clusters asks for
abbrev pub made_commands : ℕ → List Command
made_commands n = flat_map cluster_commands (numbers_below n) ++ phase 5 ++ map unload_command (numbers_below n) ++ phase 2

-- each line of the text is the one spelling of a command, and these commands make a script
pub record SpellsAScript (n : ℕ) : Type 0 where
  pub lines : script_lines n ≡ map (λ c. row_words (command_row c)) (made_commands n)
  pub script : IsScript (made_commands n)
