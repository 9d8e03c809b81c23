use Rattle.std.proofs.Common.{◌≡◌, ◌∙◌, ℕ, ◌<◌, List, sym, subst, length, map, get_or, arith}
use Rattle.std.specs.Prelude.{IfOk}
use denote.Ref.{Bor}
use Rattle.fol_model.specs.TextLines.{lines}
use Rattle.fol_model.specs.Texts.{command_row}
use Rattle.fol_script.specs.Shares.{SpellEach}
use Rattle.fol_script.proofs.AllShares.{whole_text}
use Rattle.fol_script.proofs.shares.read_shares.Goals as goal

pub returns : goal.returns
returns g c =
    let shares = c.in_ok-shares.shares.items in
    let read = c.in_ok-read.read.items in
    let len : length read ≡ length shares = sym c.in_ok-read.read.ok.0 ∙ c.in_ok-read.ensures.len ∙ c.in_ok-shares.shares.ok.0 in
    whole_text c.args.kind c.args.bytes.now shares read c.gather.result c.requires c.in_ok-shares.ensures len
    (λ i d e l.
    let lt : i < length shares = omega (arith, l, len) in
    let k = (c.in_ok-read.ensures.each i e lt).1 in
    let is : IfOk (get_or read i e) (λ v. SpellEach c.args.kind (lines k.job.now) (map command_row v.items)) = grind arith in
    subst (λ (b : Bor (List ℕ)). IfOk (get_or read i e) (λ v. SpellEach c.args.kind (lines b.now) (map command_row v.items))) (sym (k.job_is d)) is)
    c.gather.ensures.items c.gather.ensures.read c.gather.ensures.order
