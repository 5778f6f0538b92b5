use Rattle.std.proofs.Common.{refl, rules}
use Rattle.std.proofs.lemmas.Iterator.{first_from_Range}
use Rattle.base.specs.Ids.{half_edge}
use Rattle.mesh.specs.Stages.{Marked}
use Rattle.mesh.proofs.FirstFound.{first_found}
use Rattle.mesh.proofs.marks.Marks.first_unmarked.Goals as goal

pub returns : goal.returns
returns c =
    let m = c.args.self.now.marked in
    first_found (λ h. h.0) half_edge (λ h. refl) (λ k. refl) (Marked m) c.args.sides c.find.result c.map.result
    (first_from_Range _ _ _ _ (λ k. Marked m (half_edge k) → ⊥) (λ k. Marked m (half_edge k)) c.find.ensures.ran (λ k q s. search rules) (λ k q s. search rules))
    c.map.ensures.cases
