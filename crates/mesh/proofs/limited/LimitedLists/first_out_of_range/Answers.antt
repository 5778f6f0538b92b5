use Rattle.std.proofs.Common.{length, refl, rules}
use Rattle.std.proofs.lemmas.Iterator.{first_from_Range}
use Rattle.base.specs.Ids.{vertex}
use Rattle.mesh.specs.Lists.{InRange}
use Rattle.mesh.specs.MeshLists.{meant}
use Rattle.mesh.proofs.FirstFound.{first_found}
use Rattle.mesh.proofs.limited.LimitedLists.first_out_of_range.Goals as goal

pub returns : goal.returns
returns g c =
    let l = meant g.P.PointKind.written c.args.self.now.given in
    first_found (λ v. v.0) vertex (λ v. refl) (λ k. refl) (InRange l) (length c.args.self.now.given.rows.now) c.find.result c.map.result
    (first_from_Range _ _ _ _ (λ k. InRange l (vertex k) → ⊥) (λ k. InRange l (vertex k)) c.find.ensures.ran (λ k q s. search rules) (λ k q s. search rules))
    c.map.ensures.cases
