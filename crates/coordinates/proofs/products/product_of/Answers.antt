use Rattle.coordinates.proofs.PartSizes.{product_fits, product_is, product_within}
use Rattle.coordinates.proofs.products.product_of.Goals as goal

pub overflow_mul-result : goal.overflow_mul-result
overflow_mul-result c = product_fits _ _ c.requires.a_within c.requires.b_within

pub returns : goal.returns
returns c = record { product = product_is _ _ c.requires.a_within c.requires.b_within; within = product_within _ _ c.requires.a_within c.requires.b_within }
