use Rattle.std.proofs.Common.{refl, rules}
use Rattle.std.proofs.lemmas.Iterator.{first_from_Range}
use Rattle.base.specs.Ids.{triangle}
use Rattle.mesh.specs.Sound.{TurnsLeft}
use Rattle.mesh.specs.MeshLists.{surface_of}
use Rattle.mesh.proofs.FirstFound.{first_found}
use Rattle.mesh.proofs.readable.ReadableLists.first_wrong_turn.Goals as goal

pub returns : goal.returns
returns g c =
    let f = surface_of g.P.PointKind.written c.args.self.now.limited.given in
    first_found (λ t. t.0) triangle (λ t. refl) (λ k. refl) (TurnsLeft f) c.args.self.now.limited.given.triangles c.find.result c.map.result
    (first_from_Range _ _ _ _ (λ k. TurnsLeft f (triangle k) → ⊥) (λ k. TurnsLeft f (triangle k)) c.find.ensures.ran (λ k q s. search rules) (λ k q s. search rules))
    c.map.ensures.cases
