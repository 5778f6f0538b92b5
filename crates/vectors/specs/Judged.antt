-- Judged      what an answer says of lists: that they are a mesh, or the first refusal that tells the truth, by its number and place
use Rattle.std.specs.Prelude.{◌≡◌, Ok, Err}
use Rattle.base.specs.declared.refusals.Refusal.{Refusal}
use Rattle.base.specs.Refusals.{number, place}
use Rattle.mesh.specs.Lists.{Lists as MeshLists}
use Rattle.mesh.specs.Verdict.{Accepted as AcceptedLists, Refused as RefusedFirst}
use Rattle.vectors.specs.declared.answer.Accepted.{Accepted}
use Rattle.vectors.specs.declared.answer.Accepted.TheVariants.{Sound, Made}
use Rattle.vectors.specs.declared.answer.Refused.{Refused}
use Rattle.std.specs.Prelude.{Result}

abbrev pub Judged : MeshLists → Result Accepted Refused → Type 0
Judged l (Ok Sound) = AcceptedLists l
Judged l (Ok Made) = ⊥
Judged l (Err r) = (e : Refusal) × RefusedFirst l e × (number e ≡ r.number) × (place e ≡ r.place)
