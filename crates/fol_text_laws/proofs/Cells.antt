-- The cells that fit in places, from the first place on.
use Rattle.std.proofs.Common.{◌≡◌, ℕ, ◌≤◌, ℤ, pos, negsuc, ◌≤ℤ◌, false, List, [], ◌∷◌, ◌++◌, refl, ap, ◌∙◌, arith}
use borrow.Author.Differences.{ints}
use Rattle.std.specs.Prelude.{is_none}
use Rattle.fol_model.specs.declared.places.ChunkPos.{ChunkPos}
use Rattle.fol_model.specs.declared.places.BlockPos.{BlockPos}
use Rattle.fol_model.specs.declared.words.Keyword.{Keyword}
use Rattle.fol_model.specs.declared.words.Field.{Field}
use Rattle.fol_model.specs.declared.words.Field.TheVariants as fields
use Rattle.fol_model.specs.declared.words.Cell.{Cell}
use Rattle.fol_model.specs.declared.words.Cell.TheVariants as cells
use Rattle.fol_model.specs.TextForms.{chunk, side, upto, action_form}
use Rattle.fol_model.specs.TextCauses.{or_nothing}
use Rattle.fol_model.specs.TextRows.{Fits}
use Rattle.fol_model.specs.ActionCells.{natural_cell, block_cells, chunk_cells}
use Rattle.fol_text_laws.proofs.Ranges.{InChunk, InBlock}

pub nothing_left : (cs : List Cell) → Fits [] cs → cs ≡ []
nothing_left [] f = refl
nothing_left (c ∷ cs) f = absurd f

pub record NumberFirst (low high : ℤ) (ps : List Field) (cs : List Cell) : Type 0 where
  pub z : ℤ
  pub rest : List Cell
  pub is : cs ≡ cells.Number z ∷ rest
  pub at_least : low ≤ℤ z
  pub at_most : z ≤ℤ high
  pub fits : Fits ps rest

pub number_first : (low high : ℤ) (ps : List Field) (cs : List Cell) → Fits (fields.Number low high ∷ ps) cs → NumberFirst low high ps cs
number_first low high ps [] f = absurd f
number_first low high ps (cells.Word key ∷ cs) f = absurd f
number_first low high ps (cells.Number z ∷ cs) f = record { z = z; rest = cs; is = refl; at_least = f.0; at_most = f.1; fits = f.2 }

pub record NaturalFirst (low high : ℕ) (ps : List Field) (cs : List Cell) : Type 0 where
  pub n : ℕ
  pub rest : List Cell
  pub is : cs ≡ natural_cell n ∷ rest
  pub at_least : low ≤ n
  pub at_most : n ≤ high
  pub fits : Fits ps rest

natural_at : (low high : ℕ) (ps : List Field) (cs : List Cell) (z : ℤ) (rest : List Cell) → cs ≡ cells.Number z ∷ rest → pos low ≤ℤ z → z ≤ℤ pos high → Fits ps rest → NaturalFirst low high ps cs
natural_at low high ps cs (pos n) rest e l h f = record { n = n; rest = rest; is = e; at_least = omega (arith, ints); at_most = omega (arith, ints); fits = f }
natural_at low high ps cs (negsuc n) rest e l h f = absurd (omega (arith, ints))

pub natural_first : (low high : ℕ) (ps : List Field) (cs : List Cell) → Fits (upto low high ∷ ps) cs → NaturalFirst low high ps cs
natural_first low high ps cs f =
    let a = number_first (pos low) (pos high) ps cs f in
    natural_at low high ps cs a.z a.rest a.is a.at_least a.at_most a.fits

pub record ChunkFirst (ps : List Field) (cs : List Cell) : Type 0 where
  pub at : ChunkPos
  pub rest : List Cell
  pub is : cs ≡ chunk_cells at ++ rest
  pub within : InChunk at
  pub fits : Fits ps rest

pub chunk_first : (ps : List Field) (cs : List Cell) → Fits (chunk ∷ chunk ∷ ps) cs → ChunkFirst ps cs
chunk_first ps cs f =
    let x = number_first (negsuc 999999) (pos 1000000) (chunk ∷ ps) cs f in
    let z = number_first (negsuc 999999) (pos 1000000) ps x.rest x.fits in
    record {
      at = record { x = x.z; z = z.z };
      rest = z.rest;
      is = x.is ∙ ap (λ (l : List Cell). cells.Number x.z ∷ l) z.is;
      within = record { x_low = x.at_least; x_high = x.at_most; z_low = z.at_least; z_high = z.at_most };
      fits = z.fits;
    }

pub record BlockFirst (ps : List Field) (cs : List Cell) : Type 0 where
  pub at : BlockPos
  pub rest : List Cell
  pub is : cs ≡ block_cells at ++ rest
  pub within : InBlock at
  pub fits : Fits ps rest

pub block_first : (ps : List Field) (cs : List Cell) → Fits (side ∷ upto 0 255 ∷ side ∷ ps) cs → BlockFirst ps cs
block_first ps cs f =
    let x = number_first (negsuc 15999999) (pos 16000015) (upto 0 255 ∷ side ∷ ps) cs f in
    let y = number_first (pos 0) (pos 255) (side ∷ ps) x.rest x.fits in
    let z = number_first (negsuc 15999999) (pos 16000015) ps y.rest y.fits in
    record {
      at = record { x = x.z; y = y.z; z = z.z };
      rest = z.rest;
      is = x.is ∙ ap (λ (l : List Cell). cells.Number x.z ∷ l) (y.is ∙ ap (λ (l : List Cell). cells.Number y.z ∷ l) z.is);
      within = record { x_low = x.at_least; x_high = x.at_most; y_low = y.at_least; y_high = y.at_most; z_low = z.at_least; z_high = z.at_most };
      fits = z.fits;
    }

pub record WordFirst (cs : List Cell) : Type 0 where
  pub key : Keyword
  pub rest : List Cell
  pub is : cs ≡ cells.Word key ∷ rest
  pub acts : is_none (action_form key) ≡ false
  pub fits : Fits (or_nothing (action_form key)) rest

pub word_first : (cs : List Cell) → Fits (fields.Action ∷ []) cs → WordFirst cs
word_first [] f = absurd f
word_first (cells.Number z ∷ cs) f = absurd f
word_first (cells.Word key ∷ cs) f = record { key = key; rest = cs; is = refl; acts = f.0; fits = f.1 }
