-- The forms keep to the limits.
use Rattle.std.proofs.Common.{Option, Some, None, arith}
use borrow.Author.Differences.{ints}
use Rattle.fol_model.specs.declared.words.Keyword.{Keyword}
use Rattle.fol_model.specs.declared.words.Keyword.TheVariants as keys
use Rattle.fol_model.specs.declared.words.TextKind.{TextKind}
use Rattle.fol_model.specs.declared.words.TextKind.TheVariants as kinds
use Rattle.fol_model.specs.TextForms.{action_form, script_form, line_form}
use Rattle.fol_model.specs.TextCauses.{or_nothing, form_of}
use Rattle.fol_text_laws.specs.FieldLimits.{InLimits}

action_near : (key : Keyword) → InLimits (or_nothing (action_form key))
action_near keys.Set = omega (arith, ints)
action_near keys.Copy = omega (arith, ints)
action_near keys.Load = omega (arith, ints)
action_near keys.Unload = omega (arith, ints)
action_near keys.Post = omega (arith, ints)
action_near keys.Send = omega (arith, ints)
action_near keys.World = tt
action_near keys.Grid = tt
action_near keys.Block = tt
action_near keys.Entity = tt
action_near keys.Every = tt
action_near keys.Run = tt
action_near keys.End = tt
action_near keys.Arrive = tt

pub after_near : (o : Option Keyword) → InLimits (or_nothing (form_of action_form o))
after_near None = tt
after_near (Some key) = action_near key

script_near : (key : Keyword) → InLimits (or_nothing (script_form key))
script_near keys.World = tt
script_near keys.Grid = tt
script_near keys.Block = tt
script_near keys.Entity = tt
script_near keys.Load = omega (arith, ints)
script_near keys.Unload = omega (arith, ints)
script_near keys.Post = omega (arith, ints)
script_near keys.Every = omega (arith, ints)
script_near keys.Run = omega (arith, ints)
script_near keys.End = tt
script_near keys.Set = tt
script_near keys.Copy = tt
script_near keys.Send = tt
script_near keys.Arrive = tt

pub line_near : (kind : TextKind) (key : Keyword) → InLimits (or_nothing (line_form kind key))
line_near kinds.World keys.World = omega (arith, ints)
line_near kinds.World keys.Grid = omega (arith, ints)
line_near kinds.World keys.Block = omega (arith, ints)
line_near kinds.World keys.Entity = omega (arith, ints)
line_near kinds.World keys.Load = tt
line_near kinds.World keys.Unload = tt
line_near kinds.World keys.Post = tt
line_near kinds.World keys.Every = tt
line_near kinds.World keys.Run = tt
line_near kinds.World keys.End = tt
line_near kinds.World keys.Set = tt
line_near kinds.World keys.Copy = tt
line_near kinds.World keys.Send = tt
line_near kinds.World keys.Arrive = tt
line_near kinds.ScriptOne keys.World = script_near keys.World
line_near kinds.ScriptOne keys.Grid = script_near keys.Grid
line_near kinds.ScriptOne keys.Block = script_near keys.Block
line_near kinds.ScriptOne keys.Entity = script_near keys.Entity
line_near kinds.ScriptOne keys.Load = script_near keys.Load
line_near kinds.ScriptOne keys.Unload = script_near keys.Unload
line_near kinds.ScriptOne keys.Post = script_near keys.Post
line_near kinds.ScriptOne keys.Every = tt
line_near kinds.ScriptOne keys.Run = script_near keys.Run
line_near kinds.ScriptOne keys.End = script_near keys.End
line_near kinds.ScriptOne keys.Set = script_near keys.Set
line_near kinds.ScriptOne keys.Copy = script_near keys.Copy
line_near kinds.ScriptOne keys.Send = script_near keys.Send
line_near kinds.ScriptOne keys.Arrive = script_near keys.Arrive
line_near kinds.ScriptTwo key = script_near key
