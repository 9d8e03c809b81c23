use Rattle.fol_sections.proofs.Products.{product_fits, product_is}
use Rattle.fol_sections.proofs.chunks.first_chunk.Goals as goal

pub overflow_mul-result : goal.overflow_mul-result
overflow_mul-result c = let n = c.requires.near in product_fits c.args.s.x c.args.shift n.0 c.requires.few

pub overflow_mul-result-2 : goal.overflow_mul-result-2
overflow_mul-result-2 c = let n = c.requires.near in product_fits c.args.s.z c.args.shift n.1 c.requires.few

pub returns : goal.returns
returns c =
    let n = c.requires.near in
    let x = product_is c.args.s.x c.args.shift n.0 c.requires.few in
    let z = product_is c.args.s.z c.args.shift n.1 c.requires.few in
    λ i. record { x = x i; z = z i }
