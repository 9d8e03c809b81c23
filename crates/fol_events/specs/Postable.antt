-- Which actions may stand in the line of a post, and how they are spelt.
use Rattle.std.specs.Prelude.{◌≡◌, ℕ, ◌≤◌, true, false, List, [], ◌∷◌, ◌++◌, length, decimal}
use Rattle.std.specs.List.{list_all}
use Rattle.fol_model.specs.declared.places.ChunkPos.{ChunkPos}
use Rattle.fol_model.specs.declared.places.BlockPos.{BlockPos}
use Rattle.fol_model.specs.declared.words.Keyword.{Keyword}
use Rattle.fol_model.specs.declared.words.Keyword.TheVariants as keys
use Rattle.fol_model.specs.declared.actions.Action.{Action}
use Rattle.fol_model.specs.Deed.{Deed}
use Rattle.fol_model.specs.Nesting.{deed_of}
use Rattle.fol_model.specs.Geometry.{is_chunk, is_block}
use Rattle.fol_model.specs.Limits.{is_action, is_deed, may_post, is_post, is_arrival}
use Rattle.fol_model.specs.LineWords.{Word}
use Rattle.fol_model.specs.TextForms.{key_spelled}
use Rattle.fol_model.specs.ReportWords.{chunk_words, block_words, deed_words}
use Rattle.fol_events.specs.InRange.{Is32, PlainInRange}

-- the words of an action
abbrev pub posted_words : Action → List Word
posted_words a = deed_words (deed_of a)

-- what may be asked for
pub record IsPostable (a : Action) : Type 0 where
  pub action : is_action a ≡ true
  pub may_post : may_post a ≡ true
  pub entity : PlainInRange (deed_of a).plain

-- at most n posts round what is no arrival, within the limits
pub record IsSimple (n : ℕ) (d : Deed) : Type 0 where
  pub posts : list_all is_post d.wraps ≡ true
  pub few : length d.wraps ≤ n
  pub no_arrival : is_arrival d.plain ≡ false
  pub within : is_deed d ≡ true
  pub entity : PlainInRange d.plain

-- the action has nothing round it, and is spelt by this word and these words
abbrev pub IsPlainOf : Keyword → Action → List Word → Type 0
IsPlainOf key a ws = IsSimple 0 (deed_of a) × (key_spelled key ∷ ws ≡ posted_words a)

-- the words do not follow this word in an action with nothing round it
abbrev pub NoPlain : Keyword → List Word → Type 0
NoPlain keys.Set ws = (at : BlockPos) (id : ℕ) → is_block at ≡ true → id ≤ 65535 → ws ≡ block_words at ++ decimal id ∷ [] → ⊥
NoPlain keys.Copy ws = (at to : BlockPos) → is_block at ≡ true → is_block to ≡ true → ws ≡ block_words at ++ block_words to → ⊥
NoPlain keys.Load ws = (c : ChunkPos) → is_chunk c ≡ true → ws ≡ chunk_words c → ⊥
NoPlain keys.Unload ws = (c : ChunkPos) → is_chunk c ≡ true → ws ≡ chunk_words c → ⊥
NoPlain keys.Send ws = (entity : ℕ) (to : BlockPos) → Is32 entity → is_block to ≡ true → ws ≡ decimal entity ∷ block_words to → ⊥
NoPlain _ ws = Unit {0}
