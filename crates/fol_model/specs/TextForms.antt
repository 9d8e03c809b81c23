-- The form of each line: what stands after its words.
use Rattle.std.specs.Prelude.{ℕ, pos, negsuc, List, [], ◌∷◌, codes, Option, Some, None}
use Rattle.std.specs.List.{find}
use Rattle.std.specs.Str.{bytes_eq}
use Rattle.fol_model.specs.declared.words.Keyword.{Keyword}
use Rattle.fol_model.specs.declared.words.Keyword.TheVariants as keys
use Rattle.fol_model.specs.declared.words.TextKind.{TextKind}
use Rattle.fol_model.specs.declared.words.TextKind.TheVariants as kinds
use Rattle.fol_model.specs.declared.words.Field.{Field}
use Rattle.fol_model.specs.declared.words.Field.TheVariants as fields
use Rattle.fol_model.specs.declared.words.Cell.{Cell}
use Rattle.fol_model.specs.declared.words.Cell.TheVariants as cells
use Rattle.fol_model.specs.TextNumbers.{spelled}

abbrev pub key_spelled : Keyword → List ℕ
key_spelled keys.World = codes "world"
key_spelled keys.Grid = codes "grid"
key_spelled keys.Block = codes "block"
key_spelled keys.Entity = codes "entity"
key_spelled keys.Load = codes "load"
key_spelled keys.Unload = codes "unload"
key_spelled keys.Post = codes "post"
key_spelled keys.Every = codes "every"
key_spelled keys.Run = codes "run"
key_spelled keys.End = codes "end"
key_spelled keys.Set = codes "set"
key_spelled keys.Copy = codes "copy"
key_spelled keys.Send = codes "send"
key_spelled keys.Arrive = codes "arrive"

abbrev pub all_keys : List Keyword
all_keys = keys.World ∷ keys.Grid ∷ keys.Block ∷ keys.Entity ∷ keys.Load ∷ keys.Unload ∷ keys.Post ∷ keys.Every ∷ keys.Run ∷ keys.End ∷ keys.Set ∷ keys.Copy ∷ keys.Send ∷ keys.Arrive ∷ []

-- the key that a word is
unfoldable pub key_of : List ℕ → Option Keyword
key_of w = find (λ k. bytes_eq w (key_spelled k)) all_keys

abbrev pub chunk : Field
chunk = fields.Number (negsuc 999999) (pos 1000000)

abbrev pub side : Field
side = fields.Number (negsuc 15999999) (pos 16000015)

abbrev pub upto : ℕ → ℕ → Field
upto low high = fields.Number (pos low) (pos high)

abbrev pub speed : Field
speed = fields.Number (negsuc 15) (pos 16)

abbrev pub position : List Field
position = side ∷ upto 0 255 ∷ side ∷ []

abbrev pub script_form : Keyword → Option (List Field)
script_form keys.Load = Some (chunk ∷ chunk ∷ [])
script_form keys.Unload = Some (chunk ∷ chunk ∷ [])
script_form keys.Post = Some (chunk ∷ chunk ∷ upto 1 1000000 ∷ fields.Action ∷ [])
script_form keys.Every = Some (chunk ∷ chunk ∷ upto 1 1000000 ∷ upto 1 1000000 ∷ upto 1 10000 ∷ fields.Action ∷ [])
script_form keys.Run = Some (upto 1 10000 ∷ [])
script_form keys.End = Some []
script_form _ = None

-- what follows a line word; None where it is no line word of this text
abbrev pub line_form : TextKind → Keyword → Option (List Field)
line_form kinds.World keys.World = Some (upto 1 2 ∷ [])
line_form kinds.World keys.Grid = Some (upto 0 5 ∷ upto 1 8 ∷ upto 1 4 ∷ upto 1 16384 ∷ upto 0 1000 ∷ upto 1 1000 ∷ [])
line_form kinds.World keys.Block = Some (side ∷ upto 0 255 ∷ side ∷ upto 0 65535 ∷ [])
line_form kinds.World keys.Entity = Some (upto 1 1000000000 ∷ side ∷ upto 0 255 ∷ side ∷ speed ∷ speed ∷ [])
line_form kinds.World _ = None
line_form kinds.ScriptOne keys.Every = None
line_form kinds.ScriptOne key = script_form key
line_form kinds.ScriptTwo key = script_form key

-- what follows an action word
abbrev pub action_form : Keyword → Option (List Field)
action_form keys.Set = Some (side ∷ upto 0 255 ∷ side ∷ upto 0 65535 ∷ [])
action_form keys.Copy = Some (side ∷ upto 0 255 ∷ side ∷ side ∷ upto 0 255 ∷ side ∷ [])
action_form keys.Load = Some (chunk ∷ chunk ∷ [])
action_form keys.Unload = Some (chunk ∷ chunk ∷ [])
action_form keys.Post = Some (chunk ∷ chunk ∷ upto 1 1000000 ∷ fields.Action ∷ [])
action_form keys.Send = Some (upto 1 1000000000 ∷ side ∷ upto 0 255 ∷ side ∷ [])
action_form _ = None

-- the words of a line by the keys and numbers that stand in it
abbrev pub cell_spelled : Cell → List ℕ
cell_spelled (cells.Word key) = key_spelled key
cell_spelled (cells.Number z) = spelled z
