-- The numbers of places.
use Rattle.std.proofs.Common.{◌≡◌, ℤ, pos, negsuc, ◌≤ℤ◌, true, List, ◌∷◌, ap, ◌∙◌, arith}
use borrow.Author.Differences.{ints}
use mir.Syntax.{w32, w64}
use mir.Val.{SFits, to_z, of_z}
use Rattle.std.specs.Fmt.{signed_decimal}
use Rattle.std.proofs.lemmas.Int.{to_z-of_z}
use Rattle.fol_model.specs.declared.words.Reading.TheVariants.{Is}
use Rattle.fol_model.specs.Geometry.{is_chunk, is_block}
use Rattle.fol_model.specs.LineWords.{Word}
use Rattle.fol_model.specs.ReportWords.{chunk_words, block_words}
use Rattle.fol_model.specs.TextNumbers.{reading}
use Rattle.fol_text_laws.proofs.Numerals.{reading_again}
use Rattle.fol_text_laws.proofs.Ranges.{in_chunk, chunk_in, in_block, block_in}
use Rattle.fol_events.specs.Pieces.{NoneIn, signed_word}

-- a word that is not read as a number of the range spells none of them
pub not_read : (low high : ℤ) (w : Word) → negsuc 9999999998 ≤ℤ low → high ≤ℤ pos 9999999999 → ((z : ℤ) → reading low high w ≡ Is z → ⊥) → (z : ℤ) → low ≤ℤ z → z ≤ℤ high → w ≡ signed_decimal z → ⊥
not_read low high w nl nh never z l h e = never z (ap (reading low high) e ∙ reading_again low high z nl nh l h)

abbrev pub Within : ℤ → ℤ → ℤ → Type 0
Within low high z = (low ≤ℤ z) × (z ≤ℤ high)

pub same32 : (low high z : ℤ) → negsuc 2147483647 ≤ℤ low → high ≤ℤ pos 2147483647 → low ≤ℤ z → z ≤ℤ high → to_z w32 (of_z w32 z) ≡ z
same32 low high z nl nh l h = let fits : SFits w32 z = omega (arith, ints) in to_z-of_z w32 z fits

pub same64 : (low high z : ℤ) → negsuc 2147483647 ≤ℤ low → high ≤ℤ pos 2147483647 → low ≤ℤ z → z ≤ℤ high → to_z w64 (of_z w64 z) ≡ z
same64 low high z nl nh l h = let fits : SFits w64 z = omega (arith, ints) in to_z-of_z w64 z fits

-- ---- chunks

abbrev pub chunk_low : ℤ
chunk_low = negsuc 999999

abbrev pub chunk_high : ℤ
chunk_high = pos 1000000

pub no_chunk_x : (old : List Word) → NoneIn signed_word (Within chunk_low chunk_high) old → NoneIn chunk_words (λ c. is_chunk c ≡ true) old
no_chunk_x old none c more h e = let r = chunk_in c h in none c.x (signed_decimal c.z ∷ more) (r.x_low, r.x_high) e

pub no_chunk_z : (old now : List Word) (x : ℤ) → old ≡ signed_decimal x ∷ now → NoneIn signed_word (Within chunk_low chunk_high) now → NoneIn chunk_words (λ c. is_chunk c ≡ true) old
no_chunk_z old now x f none c more h e = let r = chunk_in c h in none c.z more (r.z_low, r.z_high) cc

pub is_chunk_of : (x z : ℤ) → Within chunk_low chunk_high x → Within chunk_low chunk_high z → is_chunk (record { x = x; z = z }) ≡ true
is_chunk_of x z p q = in_chunk (record { x = x; z = z }) (record { x_low = p.0; x_high = p.1; z_low = q.0; z_high = q.1 })

-- ---- blocks

abbrev pub side_low : ℤ
side_low = negsuc 15999999

abbrev pub side_high : ℤ
side_high = pos 16000015

pub no_block_x : (old : List Word) → NoneIn signed_word (Within side_low side_high) old → NoneIn block_words (λ b. is_block b ≡ true) old
no_block_x old none b more h e = let r = block_in b h in none b.x (signed_decimal b.y ∷ signed_decimal b.z ∷ more) (r.x_low, r.x_high) e

pub no_block_y : (old now : List Word) (x : ℤ) → old ≡ signed_decimal x ∷ now → NoneIn signed_word (Within (pos 0) (pos 255)) now → NoneIn block_words (λ b. is_block b ≡ true) old
no_block_y old now x f none b more h e = let r = block_in b h in none b.y (signed_decimal b.z ∷ more) (r.y_low, r.y_high) cc

pub no_block_z : (old next now : List Word) (x y : ℤ) → old ≡ signed_decimal x ∷ next → next ≡ signed_decimal y ∷ now → NoneIn signed_word (Within side_low side_high) now → NoneIn block_words (λ b. is_block b ≡ true) old
no_block_z old next now x y f g none b more h e = let r = block_in b h in none b.z more (r.z_low, r.z_high) cc

pub is_block_of : (x y z : ℤ) → Within side_low side_high x → Within (pos 0) (pos 255) y → Within side_low side_high z → is_block (record { x = x; y = y; z = z }) ≡ true
is_block_of x y z p q r = in_block (record { x = x; y = y; z = z }) (record { x_low = p.0; x_high = p.1; y_low = q.0; y_high = q.1; z_low = r.0; z_high = r.1 })
