use Rattle.std.proofs.Common.{◌∙◌, arith, lit<}
use Rattle.algebra.proofs.Magnitudes.{same_number}
use Rattle.coordinates.proofs.PartSizes.{added, product_at, double_fits, sum_fits, pair_fits, sum_is, within_double, within_area, within_pair, area_is}
use Rattle.coordinates.proofs.products.OffsetMul.mul.Goals as goal

pub overflow_add-result : goal.overflow_add-result
overflow_add-result c = double_fits _ c.product_of-qq.ensures.within

pub overflow_add-result-2 : goal.overflow_add-result-2
overflow_add-result-2 c = sum_fits _ _ c.product_of-pp.ensures.within (within_double _ c.product_of-qq.ensures.within)

pub overflow_add-result-3 : goal.overflow_add-result-3
overflow_add-result-3 c = pair_fits _ _ c.product_of-pq.ensures.within c.product_of-qp.ensures.within

pub invariant_of-result : goal.invariant_of-result
invariant_of-result c =
    record { most_fits = lit< tt; p_within = within_area _ _ c.product_of-pp.ensures.within c.product_of-qq.ensures.within; q_within = within_pair _ _ c.product_of-pq.ensures.within c.product_of-qp.ensures.within }

pub returns : goal.returns
returns c =
    let a = c.args.self in
    let b = c.args.other in
    let pp = product_at a.p b.p _ a.p_within b.p_within c.product_of-pp.ensures.product in
    let qq = product_at a.q b.q _ a.q_within b.q_within c.product_of-qq.ensures.product in
    let pq = product_at a.p b.q _ a.p_within b.q_within c.product_of-pq.ensures.product in
    let qp = product_at a.q b.p _ a.q_within b.p_within c.product_of-qp.ensures.product in
    same_number
    (area_is _ _ c.product_of-pp.ensures.within c.product_of-qq.ensures.within ∙ added pp (added qq qq))
    (sum_is 400000000 400000000 _ _ (omega arith) (omega arith) c.product_of-pq.ensures.within c.product_of-qp.ensures.within ∙ added pq qp)
