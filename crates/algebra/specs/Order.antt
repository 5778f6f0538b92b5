-- AtMost       one number is not above another: their difference is not negative
use Rattle.algebra.specs.Arithmetic.{Nn}
use Rattle.algebra.specs.Number.{Number, ◌⊖◌, quadratics}

pub record AtMost (a b : Number) : Type 0 where
  pub gap : Nn quadratics (b ⊖ a)
