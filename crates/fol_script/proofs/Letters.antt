-- The only key that a word can be, by its first letter and length.
use Rattle.std.proofs.Common.{◌≡◌, ℕ, true, false, List, Option, Some, None, refl, sym, ap, ◌∙◌}
use Rattle.std.specs.Str.{bytes_eq}
use Rattle.std.specs.Cmp.Lexicographic.{same_text}
use Rattle.std.proofs.lemmas.Slice.Eq.{bytes_eq-Decides}
use Rattle.fol_model.specs.declared.words.Keyword.{Keyword}
use Rattle.fol_model.specs.declared.words.Keyword.TheVariants as keys
use Rattle.fol_model.specs.TextForms.{key_of, key_spelled}
use Rattle.fol_text_laws.proofs.OneSpelling.{key_is, key_again}
use Rattle.fol_script.specs.Letters.{likely}

likely_again : (key : Keyword) → likely (key_spelled key) ≡ key
likely_again keys.World = refl
likely_again keys.Grid = refl
likely_again keys.Block = refl
likely_again keys.Entity = refl
likely_again keys.Load = refl
likely_again keys.Unload = refl
likely_again keys.Post = refl
likely_again keys.Every = refl
likely_again keys.Run = refl
likely_again keys.End = refl
likely_again keys.Set = refl
likely_again keys.Copy = refl
likely_again keys.Send = refl
likely_again keys.Arrive = refl

own : (w : List ℕ) (o : Option Keyword) → key_of w ≡ o → bytes_eq w (key_spelled (likely w)) ≡ false → None ≡ o
own w None k e = refl
own w (Some key) k e =
    let s : w ≡ key_spelled key = key_is w key k in
    let l : likely w ≡ key = ap likely s ∙ likely_again key in
    let t : w ≡ key_spelled (likely w) = s ∙ ap key_spelled (sym l) in
    let b : bytes_eq w (key_spelled (likely w)) ≡ true = (bytes_eq-Decides w (key_spelled (likely w))).1 t in
    absurd (let f = sym b ∙ e in cc)

pub is_likely : (w v : List ℕ) (key : Keyword) → key ≡ likely w → v ≡ key_spelled key → bytes_eq w v ≡ true → Some key ≡ key_of w
is_likely w v key l s e = sym (ap key_of (same_text w v (sym e) ∙ s) ∙ key_again key)

pub is_no_key : (w v : List ℕ) (key : Keyword) → key ≡ likely w → v ≡ key_spelled key → bytes_eq w v ≡ false → None ≡ key_of w
is_no_key w v key l s e = own w (key_of w) refl (sym (ap (bytes_eq w) (s ∙ ap key_spelled l)) ∙ e)
