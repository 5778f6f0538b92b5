-- The bends that are written are those of the list funnel.
-- The row of chains is read to its end, the start is one more left end, and what is left of the near chain comes before the final bends. Each bend is an end of a portal, so its point is the one that the mesh has for its vertex.
use Rattle.std.proofs.Common.{◌≡◌, ℕ, ◌+◌, ◌*◌, ◌<◌, ◌≤◌, List, [], ◌∷◌, ◌++◌, map, length, take, None, sym, refl, ap, ◌∙◌, subst, arith}
use lib.Seq.{take-append_seam}
use Rattle.std.proofs.lemmas.List.{length-append, length-map}
use Rattle.std.proofs.lemmas.Bool.Decides.{nat_tests}
use Rattle.algebra.specs.Number.{Number, quadratics, sign}
use Rattle.geometry.specs.Plane.{Point}
use Rattle.deque.specs.Contents.{contents}
use Rattle.words.specs.declared.sorts.Crossing.{Crossing}
use Rattle.taut.specs.declared.Side.TheVariants.{Left}
use Rattle.taut.specs.Sleeve.{Vertex, Portal as Passage}
use Rattle.taut.specs.TautString.{Bend as Turning}
use Rattle.taut.specs.Funnel.{bends, seen_from, funnel}
use Rattle.taut.proofs.FunnelSize.{funnel_few}
use Rattle.taut.proofs.FunnelVertices.{Each, Ends, funnel_made}
use Rattle.mesh.specs.Surface.{Surface}
use Rattle.mesh.specs.Sound.{Sound}
use Rattle.walks.specs.Walks.{portal_of, portals, TautOf}
use Rattle.walks.proofs.Sleeves.{exactly_one}
use Rattle.funnel.specs.declared.Corner.{Corner}
use Rattle.funnel.specs.declared.Portal.{Portal}
use Rattle.funnel.specs.declared.Bend.{Bend}
use Rattle.funnel.specs.declared.Working.{Working}
use Rattle.funnel.specs.Corners.{vertex_meant, portal_meant, bend_meant}
use Rattle.funnel.specs.Chains.{bend_of, Stands, SameRoom, Opens, Settles, settled}
use Rattle.funnel.specs.Strings.{funnel_of, Reads, as_bend, own_bend, string_of, Writes, Found, Taut, memory_refusal}

module _ (f : Surface) where
  -- a vertex lies where the mesh has it
  abbrev Placed : Vertex Number → Type 0
  Placed v = f.point (record { 0 = v.number }) ≡ v.point

  ends_placed : (w : List Crossing) → Ends Placed (portals f w)
  ends_placed [] = tt
  ends_placed (c ∷ w) = ((refl, refl), ends_placed w)

  length_portals : (w : List Crossing) → length (portals f w) ≡ length w
  length_portals [] = refl
  length_portals (c ∷ w) = omega (arith, length_portals w)

  portals_joined : (v w : List Crossing) → portals f (v ++ w) ≡ portals f v ++ portals f w
  portals_joined [] w = refl
  portals_joined (c ∷ v) w = ap (λ ps. portal_of f c ∷ ps) (portals_joined v w)

  seen_whole : (s e : Point) (ps : List (Passage Number)) → seen_from quadratics sign e s (funnel_of e ps) ≡ funnel quadratics sign s ps e
  seen_whole s e [] = refl
  seen_whole s e (p ∷ ps) = refl

  pub found_none : (s e : Point) (w : List Crossing) (out : List Bend) → length w < 1 → Found f s w e 0 out out
  found_none s e [] out none = record { few = omega arith; bends = refl; behind = refl }
  found_none s e (c ∷ w) out none = absurd (omega arith)

  module _ {P : Type 0} (at : P → Point) where
    -- the bends that the corners of a left chain and of final bends are, in the words of the list funnel
    abbrev turnings : List (Corner P) → List (Corner P) → List (Turning Number)
    turnings nears finals = bends Left (map (vertex_meant at) nears) ++ map (bend_of at) finals

    finals_meant : (finals : List (Corner P)) → Each (λ b. Placed b.vertex) (map (bend_of at) finals) → map (bend_meant f) (map own_bend finals) ≡ map (bend_of at) finals
    finals_meant [] all = refl
    finals_meant (c ∷ finals) (here, all) = λ i. record { side = c.side; vertex = record { number = c.vertex.0; point = here i } } ∷ finals_meant finals all i

    bends_meant : (nears finals : List (Corner P)) → Each (λ b. Placed b.vertex) (turnings nears finals)
        → map (bend_meant f) (map (as_bend Left) nears ++ map own_bend finals) ≡ turnings nears finals
    bends_meant [] finals all = finals_meant finals all
    bends_meant (c ∷ nears) finals (here, all) = λ i. record { side = Left; vertex = record { number = c.vertex.0; point = here i } } ∷ bends_meant nears finals all i

    module _ (s e : Point) (w : List Crossing) (d : Working P) (n : ℕ) (h : Stands at e Left d n (settled at e Left s (funnel_of e (portals f w)))) where
      corners : List (Corner P)
      corners = contents d.chains.bends d.places.now

      near_first : take d.chains.near (contents d.chains.row d.slots.now) ≡ h.nears
      near_first = (λ i. take (h.near_count i) (h.parts i)) ∙ take-append_seam h.nears (h.apex ∷ h.fars)

      near_fits : d.chains.near ≤ length (contents d.chains.row d.slots.now)
      near_fits = omega (arith, h.near_count, ap length h.parts, length-append h.nears (h.apex ∷ h.fars))

      string_is : string_of d ≡ map (as_bend Left) h.nears ++ map own_bend (contents d.chains.bends d.places.now)
      string_is = ap (λ l. map (as_bend Left) l ++ map own_bend (contents d.chains.bends d.places.now)) near_first

      turnings_are : turnings h.nears (contents d.chains.bends d.places.now) ≡ funnel quadratics sign s (portals f w) e
      turnings_are = ap (λ g. bends Left g.near ++ g.final) h.is ∙ seen_whole s e (portals f w)

      meant_are : map (bend_meant f) (string_of d) ≡ funnel quadratics sign s (portals f w) e
      meant_are =
          ap (map (bend_meant f)) string_is
          ∙ bends_meant h.nears (contents d.chains.bends d.places.now) (subst (Each (λ b. Placed b.vertex)) (sym turnings_are) (funnel_made quadratics sign Placed s (portals f w) e (ends_placed w)))
          ∙ turnings_are

      few_bends : length (string_of d) ≤ length w
      few_bends = omega (arith, funnel_few quadratics sign s (portals f w) e, length_portals w, ap length meant_are, length-map (string_of d) (bend_meant f))

      pub found_written : (m : ℕ) (out out' : List Bend) → length w ≤ length out → Writes d m out out' → Found f s w e m out out'
      found_written m out out' room writes =
          let written = writes near_fits (omega (arith, few_bends)) in
          record {
            few = omega (arith, few_bends, written.count);
            bends = ap (map (bend_meant f)) written.front ∙ meant_are;
            behind = written.behind;
          }

    pub found_some : (s : Point) (x : P) (rest w : List Crossing) (last : Crossing) (portal : Portal P) (d₀ d₁ d₂ : Working P) (slots places : List (Corner P)) (m : ℕ) (out out' : List Bend)
        → w ≡ rest ++ last ∷ [] → portal_meant at portal ≡ portal_of f last
        → Opens at x portal d₀ → (length d₀.slots.now ≡ length slots) × (length d₀.places.now ≡ length places)
        → Reads at f rest portal d₀ d₁ → SameRoom d₀ d₁
        → Settles at Left s d₁ d₂
        → Writes d₂ m out out'
        → length w + 1 < length slots → length w + 1 ≤ length places → length w ≤ length out → Found f s w (at x) m out out'
    found_some s x rest w last portal d₀ d₁ d₂ slots places m out out' all is opens first reads same settles writes room fits outs =
        let count : length w ≡ length rest + 1 = ap length all ∙ length-append rest (last ∷ []) in
        let opened = opens (omega (arith, count, first.0, room)) in
        let read = reads (at x) 2 [] (omega (arith, count, first.0, room)) (omega (arith, count, first.1, fits)) opened in
        let left_over = settles (at x) (2 + length rest) _ (omega (arith, count, first.1, same.1, fits)) read in
        let row : portals f rest ++ portal_meant at portal ∷ [] ≡ portals f w =
        ap (λ p. portals f rest ++ p ∷ []) is ∙ sym (portals_joined rest (last ∷ [])) ∙ ap (portals f) (sym all) in
        found_written s (at x) w d₂ (2 + length rest) (subst (λ ps. Stands at (at x) Left d₂ (2 + length rest) (settled at (at x) Left s (funnel_of (at x) ps))) row left_over) m out out' outs writes

-- what an accepted pull has
pub enough : (portals output working : ℕ) → None ≡ memory_refusal portals output working → (portals ≤ output) × (2 * portals + 3 ≤ working)
enough portals output working e = (grind (arith, nat_tests), grind (arith, nat_tests))

pub found_taut : (f : Surface) → Sound f → (s e : Point) (w : List Crossing) (m : ℕ) (out out' : List Bend) → Found f s w e m out out' → Taut f s w e m out'
found_taut f sound s e w m out out' found = λ t u joins. subst (TautOf f s w e) (sym found.bends) (exactly_one f sound t u s e w joins).0
