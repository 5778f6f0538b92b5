use Rattle.std.proofs.Common.{◌≡◌, ◌∙◌, to_z-of_z, w8, SFits, rules}
use Rattle.algebra.specs.Number.{number, ◌⊕◌, ◌⊛◌}
use Rattle.coordinates.specs.Values.{value}
use Rattle.gauge.proofs.LinearForm.at.Goals as goal

pub returns : goal.returns
returns c =
    let fp : SFits w8 c.args.self.fp = search rules in
    let fq : SFits w8 c.args.self.fq = search rules in
    let hp : SFits w8 c.args.self.hp = search rules in
    let hq : SFits w8 c.args.self.hq = search rules in
    let f : value c.small.result ≡ number c.args.self.fp c.args.self.fq = simp to_z-of_z at c.small.ensures in
    let h : value c.small-2.result ≡ number c.args.self.hp c.args.self.hq = simp to_z-of_z at c.small-2.ensures in
    c.dot.ensures ∙ (λ i. f i ⊛ value c.args.step.dx ⊕ h i ⊛ value c.args.step.dy)
